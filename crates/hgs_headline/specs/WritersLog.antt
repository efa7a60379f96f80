-- The log that writers make from a tree that stands, as the course of the repositories that it goes through.
use Rattle.std.specs.Prelude.{ℕ, List, [], ◌∷◌, nat_le, if◌then◌else◌}
use Rattle.hgs_files.specs.declared.op.Op.{Op}
use Rattle.hgs_files.specs.Tree.{Tree}
use Rattle.hgs_legal.specs.LegalLog.{IsRun, Run, State, start_of}
use Rattle.hgs_legal.specs.Numbers.{b_of, n_of, repo_at, w_of}
use Rattle.hgs_model.specs.Repo.{Repo}
use Rattle.hgs_stands.specs.Stands.{Stands}
use Rattle.hgs_views.specs.Course.{Course}

-- A tree that stands for a repository, and a log that writers make from it: it leads from there to this state.
pub record WritersLog : Type 0 where
  pub start : Tree
  pub first : Repo
  pub log : List Op
  pub last : State
  pub stands : Stands start first
  pub run : IsRun start first log last

-- The state of a run behind a front of its log; behind a longer list the last one.
abbrev pub state_behind : (s : State) (log : List Op) (s' : State) → Run s log s' → List Op → State
state_behind s [] s' run front = s
state_behind s (op ∷ log) s' run [] = s
state_behind s (op ∷ log) s' run (o ∷ front) = state_behind run.0 log s' run.2 front

-- The files of a run at the first place where so many transactions are published; where there is none, at the last place.
abbrev pub files_with : (s : State) (log : List Op) (s' : State) → Run s log s' → ℕ → Tree
files_with s [] s' run i = s.files
files_with s (op ∷ log) s' run i = if nat_le i (n_of s) then s.files else files_with run.0 log s' run.2 i

abbrev pub state_after : WritersLog → List Op → State
state_after h front = state_behind (start_of h.start h.first) h.log h.last h.run front

-- Its numbers behind each front are those of the state there. Its repositories are those after each published transaction,
-- and what holds the changesets of one is the tree right behind its publishing operation; of the first one, the start.
abbrev pub course_of : WritersLog → Course
course_of h = record {
  start = h.start;
  repo = λ i. repo_at h.last i;
  store = λ i. files_with (start_of h.start h.first) h.log h.last h.run i;
  marked = λ front. b_of (state_after h front);
  worked = λ front. w_of (state_after h front);
  published = λ front. n_of (state_after h front);
}
