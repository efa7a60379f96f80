use Rattle.std.proofs.Common.{◌≡◌, ◌∷◌, ap, refl}
use Rattle.std.specs.Prelude.{Ok, Err, Result}
use Rattle.hgs_model.specs.Step.{Next, step_commit, steps_from, ◌>>=◌}
use Rattle.hgs_model.specs.declared.command.Refusal.{Refusal}
use Rattle.hgs_model.proofs.answers.imports_are_commits.Goals as goal

no-more : (o : Result Next Refusal) → (o >>= λ next. Ok next) ≡ o
no-more (Ok next) = refl
no-more (Err why) = refl

pub returns-clause-one : goal.returns-clause-one
returns-clause-one c r n = no-more (step_commit r n)

pub returns-clause-more : goal.returns-clause-more
returns-clause-more c r mid n m changes answer e = ap (λ (o : Result Next Refusal). o >>= λ next. steps_from next (m ∷ changes)) e

pub returns-clause-refused : goal.returns-clause-refused
returns-clause-refused c r n changes why e = ap (λ (o : Result Next Refusal). o >>= λ next. steps_from next changes) e
