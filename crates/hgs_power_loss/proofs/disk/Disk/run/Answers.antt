use Rattle.std.proofs.Common.{rules, ◌≡◌, ◌+◌, ◌<◌, ◌≤◌, ℕ, length, drop, get_or, ap, ◌∙◌, sym, arith}
use Rattle.hgs_power.specs.Disk.{run}
use Rattle.hgs_power_loss.specs.InMemory.{disk_in}
use Rattle.hgs_power_loss.proofs.DiskLemmas.{run-done, run-rest}
use Rattle.hgs_power_loss.proofs.disk.Disk.run.Goals as goal

pub loop-op-preserved : goal.loop-op-preserved
loop-op-preserved c =
    let ops = c.args.log.now in
    let i : ℕ = c.loop-op.op-index in
    let op = c.op-item.result in
    let lt : i < length ops = search rules in
    let is : op ≡ get_or ops i op = search rules in
    ap (run (drop (i + 1) ops)) c.in_ok-disk.ensures ∙ run-rest ops i (i + 1) op (disk_in c.loop-op.disk) (omega arith) lt is ∙ c.loop-op.invariant

pub returns : goal.returns
returns c =
    let ops = c.args.log.now in
    let done : length ops ≤ c.loop-op.op-index = search rules in
    sym (run-done ops c.loop-op.op-index (disk_in c.loop-op.disk) done) ∙ c.loop-op.invariant
