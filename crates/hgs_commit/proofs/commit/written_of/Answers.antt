use Rattle.std.proofs.Common.{◌≡◌, Err, sym, ◌∙◌}
use Rattle.hgs_steps.specs.Fault.{is_memory}
use Rattle.hgs_commit.specs.Commit.{view_texts, written_of}
use Rattle.hgs_commit.specs.Obstacles.{met_of}
use Rattle.hgs_commit.proofs.StepLemmas.{free-any, written-refused}
use Rattle.hgs_commit.proofs.commit.written_of.Goals as goal

pub returns-in-Err-clause-written : goal.returns-in-Err-clause-written
returns-in-Err-clause-written c =
    free-any (is_memory c.in-Err.fault) (written_of (view_texts c.args.texts) (met_of c.args.met) c.args.met.clash ≡ Err c.in-Err.fault)
    (written-refused (view_texts c.args.texts) c.args.met c.in-Err.fault c.in_default.is (sym c.refusal.ensures.refusal ∙ c.in-Err.is))
