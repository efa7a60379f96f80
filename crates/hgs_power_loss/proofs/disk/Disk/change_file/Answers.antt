use Rattle.std.proofs.Common.{◌≡◌, IfOk, ap, ◌∙◌, subst, sym}
use Rattle.std.specs.Option.{option_map}
use Rattle.hgs_power.specs.Disk.{change_file}
use Rattle.hgs_power_loss.specs.declared.disk.Disk.{Disk}
use Rattle.hgs_power_loss.specs.InMemory.{disk_in}
use Rattle.hgs_power_loss.specs.Kept.{file_after, mark_of}
use Rattle.hgs_power_loss.proofs.disk.Disk.change_file.Goals as goal

pub returns-in-Some : goal.returns-in-Some
returns-in-Some c =
    let s = c.args.self in
    subst (λ o. IfOk c.change.result (λ (d : Disk). disk_in d ≡ change_file (file_after c.args.op.now) o (disk_in s))) (sym (ap (option_map mark_of) c.in-Some.is) ∙ c.in_ok-mark.ensures.mark) c.change.ensures
