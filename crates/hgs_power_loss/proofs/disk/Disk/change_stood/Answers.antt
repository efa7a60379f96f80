use Rattle.std.proofs.Common.{◌≡◌, ℕ, List, Some, cond, length, unwrap_or, subst}
use Rattle.std.specs.BTreeMap.{BTreeMap}
use Rattle.hgs_files.specs.Tree.{Tree, bytes_at, same_path}
use Rattle.hgs_mem.specs.MemFiles.{tree_now}
use Rattle.hgs_power.specs.Disk.{File, firm}
use Rattle.hgs_power_loss.specs.Kept.{file_after, stood_file}
use Rattle.hgs_power_loss.proofs.DiskLemmas.{fits-kept, stood-disk}
use Rattle.hgs_power_loss.proofs.disk.Disk.change_stood.Goals as goal

abbrev Changes : Tree → BTreeMap (List ℕ) File → BTreeMap (List ℕ) File → List ℕ → (File → File) → Type 0
Changes start old new path change = (q : List ℕ) → stood_file new q ≡ cond (same_path path q) (Some (change (unwrap_or (stood_file old path) (firm (bytes_at start path))))) (stood_file old q)

pub invariant_of-result : goal.invariant_of-result
invariant_of-result c =
    let s = c.args.self in
    let at : Changes (tree_now s.base) s.kept c.change_kept.new.kept c.args.path.now (file_after c.args.op.now) = subst (λ t. Changes t s.kept c.change_kept.new.kept c.args.path.now (file_after c.args.op.now)) c.files.ensures.tree c.in_ok-change_kept.ensures.at in
    record { fits = fits-kept (tree_now s.base) s.table s.changes.items s.settled s.kept (length s.made.items) s.fits c.change_kept.new.kept c.args.path.now _ at c.in_ok-change_kept.ensures.ordered c.requires }

pub returns : goal.returns
returns c =
    let s = c.args.self in
    let at : Changes (tree_now s.base) s.kept c.change_kept.new.kept c.args.path.now (file_after c.args.op.now) = subst (λ t. Changes t s.kept c.change_kept.new.kept c.args.path.now (file_after c.args.op.now)) c.files.ensures.tree c.in_ok-change_kept.ensures.at in
    stood-disk (tree_now s.base) s.changes.items s.settled s.kept c.change_kept.new.kept s.made.items c.args.path.now (file_after c.args.op.now) at
