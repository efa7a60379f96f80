use Rattle.std.proofs.Common.{Err}
use Rattle.hgs_commit.specs.Commit.{Steps, StepsOn}
use Rattle.hgs_commit.specs.declared.fault.CommitFault.TheVariants.{Refused}
use Rattle.hgs_commit.proofs.AnswerLemmas.{alone-free, alone-one}
use Rattle.hgs_commit.proofs.StepLemmas.{steps-named, steps-unnamed}
use Rattle.hgs_commit.proofs.commit.commit_knowing.Goals as goal

pub returns-in-Err-clause-found : goal.returns-in-Err-clause-found
returns-in-Err-clause-found g c =
    alone-free g.R.Reads.alone (g.R.Reads.seen c.args.files.now) (g.R.Reads.start c.args.files.now)
    (λ t. Steps c.args.loaded.now c.args.change.now t (Err (Refused c.in-Err.fault)))
    (λ t. steps-unnamed c.args.loaded.now c.args.change.now t c.in-Err.fault c.in-Err.ensures.parents)

pub returns-clause-found : goal.returns-clause-found
returns-clause-found g c =
    alone-one g.R.Reads.alone (g.R.Reads.seen c.step_on.new.files) (g.R.Reads.start c.step_on.new.files)
    (λ t. StepsOn c.args.loaded.now c.args.change.now c.in-Ok.parents t c.step_on.result)
    (λ t. Steps c.args.loaded.now c.args.change.now t c.step_on.result)
    (λ t h. steps-named c.args.loaded.now c.args.change.now t c.in-Ok.parents c.step_on.result c.in-Ok.ensures.parents h)
    c.step_on.ensures.found
