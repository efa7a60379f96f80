use Rattle.std.proofs.Common.{arith, subst}
use Rattle.hgs_world.specs.Book.{IsCounted}
use Rattle.hgs_world.proofs.MarkLemmas.{acknowledged_stay}
use Rattle.hgs_world.proofs.laws.acknowledged_commands_stay.Goals as goal

pub returns : goal.returns
returns c = record {
  first = λ readers s h. subst IsCounted (Rattle.std.proofs.Common.sym h.book) (omega arith);
  counted = λ event old new text k h. (acknowledged_stay event old new text k h).counted;
  stay = λ event old new text k h. let g = acknowledged_stay event old new text k h in (g.more, g.whole);
}
