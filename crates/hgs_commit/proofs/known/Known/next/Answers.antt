use Rattle.hgs_commit.specs.Known.{IsKept}
use Rattle.hgs_commit.proofs.KnownLemmas.{all-back, all-last}
use Rattle.hgs_commit.proofs.known.Known.next.Goals as goal

pub returns-then-equal-clause-kept : goal.returns-then-equal-clause-kept
returns-then-equal-clause-kept c = λ t h.
    let i = c.loop-self.invariant t h in
    ((all-back (IsKept t) c.loop-self.self.before.items c.pop.new.self.items c.pop.result c.pop.ensures.items i.0, i.1), all-last (IsKept t) c.loop-self.self.before.items c.pop.new.self.items c.in-Some.known c.in-Some.ensures.items i.0)

pub loop-self-preserved : goal.loop-self-preserved
loop-self-preserved c = λ t h.
    let i = c.loop-self.invariant t h in
    (all-back (IsKept t) c.loop-self.self.before.items c.pop.new.self.items c.pop.result c.pop.ensures.items i.0, i.1)

pub returns-clause-kept : goal.returns-clause-kept
returns-clause-kept c = λ t h. (c.loop-self.invariant t h, tt)

pub returns-in_default-clause-kept : goal.returns-in_default-clause-kept
returns-in_default-clause-kept c = λ t h.
    let i = c.loop-self.invariant t h in
    ((all-back (IsKept t) c.loop-self.self.before.items c.pop.new.self.items c.pop.result c.pop.ensures.items i.0, i.1), tt)
