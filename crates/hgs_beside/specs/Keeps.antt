-- What the result of workers says, who commit and ask at the same time.
use Rattle.std.specs.Prelude.{List}
use Rattle.hgs_history.specs.Kept.{KeepsHistory}
use Rattle.hgs_model.specs.Repo.{Repo}
use Rattle.hgs_script.specs.declared.result.SessionResult.{SessionResult}
use Rattle.hgs_session.specs.Calls.{Beginning, Call, Makes, Stage}
use Rattle.hgs_stands.specs.Stands.{Stands}

-- Where the files stood for a repository, the result says what these calls made of it; within the limits each question is answered with
-- the text of the repository that its view shows.
abbrev pub Keeps : (x : Beginning) (calls : List Call) (last : Stage) → Makes x calls last → SessionResult → Type 0
Keeps x calls last makes result = (r : Repo) → Stands x.start r → KeepsHistory x r calls last makes result
