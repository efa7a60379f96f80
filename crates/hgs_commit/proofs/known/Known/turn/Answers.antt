use Rattle.std.proofs.Common.{sym, ◌∙◌, subst}
use Rattle.std.specs.List.{AllByRecursion}
use Rattle.std.specs.Prelude.{Vec}
use Rattle.hgs_commit.specs.Known.{AreFreeOf, IsKept}
use Rattle.hgs_commit.specs.declared.known.KnownFile.{KnownFile}
use Rattle.hgs_commit.proofs.KnownLemmas.{all-back, all-last, all-taken, none-left}
use Rattle.hgs_commit.proofs.OrderLemmas.{none-popped}
use Rattle.hgs_commit.proofs.known.Known.turn.Goals as goal

pub loop-known-init : goal.loop-known-init
loop-known-init c = λ t h. (
  subst (AreFreeOf t c.args.changes.now) (sym c.truncate.ensures.items) tt,
  subst (AllByRecursion (IsKept t)) (sym c.truncate-2.ensures.items) (all-taken (IsKept t) _ c.args.self.now.now.items h.1),
)

pub loop-known-preserved : goal.loop-known-preserved
loop-known-preserved c = λ t h.
    let i = c.loop-known.invariant t h in
    let one = all-last (IsKept t) c.loop-known.self.now.items c.pop.new.self.items c.in-Some.known c.in-Some.ensures.items i.1 in
    let rest = all-back (IsKept t) c.loop-known.self.now.items c.pop.new.self.items c.pop.result c.pop.ensures.items i.1 in
    (c.in_ok-keep.ensures.before t i.0 one, subst (λ (v : Vec KnownFile _). AllByRecursion (IsKept t) v.items) (sym c.in_ok-keep.ensures.now) rest)

pub returns : goal.returns
returns c = λ t h.
    let none = (none-popped c.pop.result _ _ c.in_default.is c.pop.ensures.cases).1 in
    ((c.loop-known.invariant t h).0, none-left c.pop.new.self.items (sym c.pop.new.self.ok.0 ∙ none))
