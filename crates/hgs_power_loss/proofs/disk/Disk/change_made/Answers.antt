use Rattle.std.proofs.Common.{rules, ◌≡◌, get_or, set, ap, ◌∙◌}
use Rattle.hgs_mem.specs.MemFiles.{tree_now}
use Rattle.hgs_power.specs.Disk.{File}
use Rattle.hgs_power_loss.specs.Kept.{disk_of, file_after}
use Rattle.hgs_power_loss.proofs.DiskLemmas.{made-file-disk}
use Rattle.hgs_power_loss.proofs.disk.Disk.change_made.Goals as goal

pub returns : goal.returns
returns c =
    let s = c.args.self in
    let n = c.args.number in
    let old = s.made.items in
    let f = c.index_mut.result.now in
    let done : c.apply.new.self ≡ file_after c.args.op.now f = search rules in
    let is : f ≡ get_or old n f = search rules in
    ap (λ (g : File). disk_of (tree_now s.base) s.changes.items s.settled s.kept (set old n g)) done ∙ made-file-disk (tree_now s.base) s.changes.items s.settled s.kept old n f (file_after c.args.op.now) c.requires is
