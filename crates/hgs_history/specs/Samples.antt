-- A session of two workers over a new store whose `wlock` another process holds.
use Rattle.std.specs.Prelude.{ℕ, List, [], ◌∷◌, ◌++◌, Some, None, codes, true}
use Rattle.hgs_bytes.specs.Text.{lines}
use Rattle.hgs_answers.specs.declared.outcome.Outcome.TheVariants.{LockHeld}
use Rattle.hgs_files.specs.Tree.{Tree}
use Rattle.hgs_model.specs.declared.command.Command.TheVariants.{Commit}
use Rattle.hgs_ops.specs.Operations.{wlock_path}
use Rattle.hgs_ops.specs.Samples.{bare, delete_here, first_change}
use Rattle.hgs_script.specs.declared.job.Job.{Job}
use Rattle.hgs_script.specs.declared.job.Job.TheVariants.{Change}
use Rattle.hgs_script.specs.declared.result.SessionResult.{SessionResult}
use Rattle.hgs_session.specs.Calls.{Beginning, Call, Stage}
use Rattle.hgs_session.specs.Desk.{said_by}
use Rattle.hgs_session.specs.Session.{EndState}
use Rattle.hgs_stands.specs.Samples.{with_bytes}

abbrev pub held_store : Tree
held_store = with_bytes bare wlock_path (codes "other")

-- each of two workers commits
abbrev pub two_commits : List (List Job)
two_commits = (Change (Commit first_change) ∷ []) ∷ (Change (Commit first_change) ∷ []) ∷ []

-- each worker deletes a bookmark
abbrev pub two_jobs : List (List Job)
two_jobs = (Change delete_here ∷ []) ∷ (Change delete_here ∷ []) ∷ []

abbrev pub nothing_done : Stage
nothing_done = record { log = Some []; faults = 0; denied = 0 }

abbrev pub held_session : Beginning
held_session = record { jobs = two_jobs; start = held_store; first = nothing_done }

-- the call of a worker, which finds the lock and does nothing
abbrev pub held_call : ℕ → Call
held_call worker = record { worker = worker; job = 0; answer = record { outcome = LockHeld (Some (codes "other")); swept = true }; changeset = None; log = Some [] }

-- the second worker came first
abbrev pub held_calls : List Call
held_calls = held_call 1 ∷ held_call 0 ∷ []

-- each reading end was told the log behind its worker's call
abbrev pub told_once : EndState
told_once = record { told = [] ∷ []; seen = Some []; faults = 0; denied = 0 }

abbrev pub held_states : List EndState
held_states = told_once ∷ told_once ∷ []

abbrev pub held_result : SessionResult
held_result = record { published = []; unsure = None; replies = (said_by delete_here (held_call 0) ∷ []) ∷ (said_by delete_here (held_call 1) ∷ []) ∷ [] }

-- ---- the two changesets that Mercurial wrote

-- fields with tabs between
abbrev tabbed : List (List ℕ) → List ℕ
tabbed [] = []
tabbed (field ∷ []) = field
tabbed (field ∷ more) = field ++ 9 ∷ tabbed more

abbrev pub log_of_two_drafts : List ℕ
log_of_two_drafts = lines (
    tabbed (codes "1" ∷ codes "37bdf19219c0e69b87d6371fabfaf5c3a63794d9" ∷ codes "0" ∷ codes "-1" ∷ codes "60" ∷ codes "0" ∷ codes "test" ∷ codes "b" ∷ [])
    ∷ tabbed (codes "0" ∷ codes "cb9a9f314b8b07ba71012fcdbc544b5a4d82ff5b" ∷ codes "-1" ∷ codes "-1" ∷ codes "0" ∷ codes "0" ∷ codes "test" ∷ codes "a" ∷ [])
    ∷ []
    )

abbrev pub files_of_second : List ℕ
files_of_second = lines (codes "b789fdd96dc2f3bd229c1dd8eedf0fc60e2b68e3 - a" ∷ codes "1e88685f5ddec574a34c70af492f95b6debc8741 - b" ∷ [])
