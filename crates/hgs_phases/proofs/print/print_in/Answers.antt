use Rattle.hgs_index.specs.Theorems.AppendLemmas.{front_grows}
use Rattle.hgs_phases.proofs.PrintLemmas.{one_more}
use Rattle.hgs_phases.proofs.print.print_in.Goals as goal

pub loop-rev-preserved : goal.loop-rev-preserved
loop-rev-preserved c = record {
  left = one_more c.args.phase c.args.phases.now c.args.known.now.entries c.loop-rev.rev c.entry.result.now c.args.into.now.items c.loop-rev.into.items _ c.entry.ensures c.in_ok-print_at.ensures.ok c.loop-rev.invariant.left;
  front = front_grows _ _ _ _ c.loop-rev.invariant.front c.in_ok-print_at.ensures.ok;
}
