use Rattle.std.proofs.Common.{rules, ◌≡◌, IfOk, length, ap, ◌∙◌, subst, sym}
use Rattle.std.specs.Option.{option_map}
use Rattle.hgs_power.specs.Disk.{changed, made, made_as, write_file}
use Rattle.hgs_power.specs.Disk as power
use Rattle.hgs_power_loss.specs.declared.disk.Disk.{Disk}
use Rattle.hgs_power_loss.specs.InMemory.{disk_in}
use Rattle.hgs_power_loss.specs.Kept.{file_after, mark_of}
use Rattle.hgs_power_loss.proofs.disk.Disk.write_file.Goals as goal

pub returns-in-Some : goal.returns-in-Some
returns-in-Some c =
    let s = c.args.self in
    subst (λ o. IfOk c.change.result (λ (d : Disk). disk_in d ≡ write_file (file_after c.args.op.now) c.args.path.now o (disk_in s))) (sym (ap (option_map mark_of) c.in-Some.is) ∙ c.in_ok-mark.ensures.mark) c.change.ensures

pub returns-in_ok-disk-in-None : goal.returns-in_ok-disk-in-None
returns-in_ok-disk-in-None c =
    let s = c.args.self in
    let n : c.len-number.result ≡ length s.made.items = search rules in
    subst (λ o. IfOk c.change_made.result (λ (d : Disk). disk_in d ≡ write_file (file_after c.args.op.now) c.args.path.now o (disk_in s))) (sym (ap (option_map mark_of) c.in-None.is) ∙ c.in_ok-mark.ensures.mark)
    (subst (λ k. IfOk c.change_made.result (λ (d : Disk). disk_in d ≡ changed (file_after c.args.op.now) (made_as k) (made c.args.path.now (disk_in s)))) n
    (subst (λ (e : power.Disk). IfOk c.change_made.result (λ (d : Disk). disk_in d ≡ changed (file_after c.args.op.now) (made_as c.len-number.result) e)) c.in_ok-disk-in-None.ensures.disk c.change_made.ensures))
