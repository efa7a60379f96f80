use Rattle.std.proofs.Common.{sym, ◌∙◌}
use Rattle.hgs_load.proofs.RefreshLemmas.{changed, unchanged}
use Rattle.hgs_load.proofs.refresh.first_changed.Goals as goal

pub returns-then-not-is_same_entry : goal.returns-then-not-is_same_entry
returns-then-not-is_same_entry c =
    changed c.loop-entry.rest.now c.in-Some.behind.now c.args.log.now.entries c.loop-entry.rev c.in-Some.entry.now c.entry.result.now _ c.in-Some.ensures.cases.0 c.entry.ensures c.loop-entry.invariant.same
    (sym c.is_same_entry.ensures ∙ c.if-not-is_same_entry.true)

pub loop-entry-preserved : goal.loop-entry-preserved
loop-entry-preserved c = record {
  same = unchanged c.loop-entry.rest.now c.in-Some.behind.now c.args.log.now.entries c.loop-entry.rev c.in-Some.entry.now c.entry.result.now _ c.in-Some.ensures.cases.0 c.entry.ensures c.loop-entry.invariant.same
      (sym c.is_same_entry.ensures ∙ c.if-not-is_same_entry.false);
}
