use Rattle.std.proofs.Common.{◌∙◌, ap, length}
use Rattle.hgs_commit.specs.Commit.{and_plan, inline_logs, long_list, step_of, written_unless}
use Rattle.hgs_commit.specs.Obstacles.{noted}
use Rattle.hgs_writer.proofs.commit_laws.equal_changesets_are_refused.Goals as goal

pub returns : goal.returns
returns c = λ l h n parents y m clash rev is e. ap (λ o. and_plan (written_unless y.0 (noted (noted m (long_list l (length y.0.lines))) (inline_logs l)) clash o) (λ w. step_of l n parents w)) (is.standing ∙ e)
