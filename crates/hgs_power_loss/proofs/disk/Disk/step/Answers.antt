use Rattle.std.proofs.Common.{◌≡◌, IfOk, subst, sym}
use Rattle.hgs_files.specs.declared.op.Op.{Op}
use Rattle.hgs_power.specs.Disk.{change_file, step, write_file}
use Rattle.hgs_power_loss.specs.declared.disk.Disk.{Disk}
use Rattle.hgs_power_loss.specs.InMemory.{disk_in}
use Rattle.hgs_power_loss.specs.Kept.{file_after}
use Rattle.hgs_power_loss.proofs.disk.Disk.step.Goals as goal

pub returns-in-Append : goal.returns-in-Append
returns-in-Append c =
    let d = disk_in c.args.self in
    let path = c.in-Append.path in
    subst (λ (op : Op). IfOk c.write_file.result (λ (e : Disk). disk_in e ≡ step op d)) (sym c.in-Append.is)
    (subst (λ (op : Op). IfOk c.write_file.result (λ (e : Disk). disk_in e ≡ write_file (file_after op) path (d.now path) d)) c.in-Append.is c.write_file.ensures)

pub returns-in-Create : goal.returns-in-Create
returns-in-Create c =
    let d = disk_in c.args.self in
    let path = c.in-Create.path in
    subst (λ (op : Op). IfOk c.write_file-in-Create.result (λ (e : Disk). disk_in e ≡ step op d)) (sym c.in-Create.is)
    (subst (λ (op : Op). IfOk c.write_file-in-Create.result (λ (e : Disk). disk_in e ≡ write_file (file_after op) path (d.now path) d)) c.in-Create.is c.write_file-in-Create.ensures)

pub returns-in-Cut : goal.returns-in-Cut
returns-in-Cut c =
    let d = disk_in c.args.self in
    let path = c.in-Cut.path in
    subst (λ (op : Op). IfOk c.change_file.result (λ (e : Disk). disk_in e ≡ step op d)) (sym c.in-Cut.is)
    (subst (λ (op : Op). IfOk c.change_file.result (λ (e : Disk). disk_in e ≡ change_file (file_after op) (d.now path) d)) c.in-Cut.is c.change_file.ensures)

pub returns-in-Sync : goal.returns-in-Sync
returns-in-Sync c =
    let d = disk_in c.args.self in
    let path = c.in-Sync.path in
    subst (λ (op : Op). IfOk c.change_file-in-Sync.result (λ (e : Disk). disk_in e ≡ step op d)) (sym c.in-Sync.is)
    (subst (λ (op : Op). IfOk c.change_file-in-Sync.result (λ (e : Disk). disk_in e ≡ change_file (file_after op) (d.now path) d)) c.in-Sync.is c.change_file-in-Sync.ensures)

pub returns-in-Rename : goal.returns-in-Rename
returns-in-Rename c = subst (λ (op : Op). IfOk c.rename_file.result (λ (e : Disk). disk_in e ≡ step op (disk_in c.args.self))) (sym c.in-Rename.is) c.rename_file.ensures

pub returns-in-Settle : goal.returns-in-Settle
returns-in-Settle c = subst (λ (op : Op). disk_in c.settle.result ≡ step op (disk_in c.args.self)) (sym c.in-Settle.is) c.settle.ensures
