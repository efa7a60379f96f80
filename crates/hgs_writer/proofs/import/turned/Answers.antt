use Rattle.std.proofs.Common.{◌∙◌, subst}
use Rattle.hgs_commit.specs.Known.{AreUntouched}
use Rattle.hgs_writer.proofs.import.turned.Goals as goal

pub returns-clause-known : goal.returns-clause-known
returns-clause-known c = λ t h. subst (λ cs. AreUntouched t cs c.turn.new.self) (c.deref.ensures.value ∙ c.into_vec-changes.ensures) (c.in_ok-turn.ensures t h)
