-- A path whose filelog was read, and what is found of it.
use Rattle.std.specs.Prelude.{◌≡◌, ◌<◌, ◌++◌, ℕ, List, [], IfErr, IfOk, OnOk, length, map, slice_index_or, unwrap_or}
use Rattle.std.specs.List.{AllByRecursion}
use Rattle.hgs_files.specs.Tree.{Tree}
use Rattle.hgs_findings.specs.OnePath.{words}
use Rattle.hgs_findings.specs.Reading.{data_in, index_in, sight_of, the_filelog}
use Rattle.hgs_judge.specs.Path.{IsJudged}
use Rattle.hgs_judge.specs.Read.{IsRefused, KeepsLimits}
use Rattle.hgs_report.specs.Store.{IsStoreOf}
use Rattle.hgs_report.specs.declared.store.Store.{Store}
use Rattle.hgs_verify.specs.declared.task.Task.{Task}
use Rattle.hgs_verify.specs.Parts.{AreBytes}

-- the bytes are those of the path's filelog in a tree
abbrev pub IsReadOf : Task → Tree → Type 0
IsReadOf task t = AreBytes task.parts (index_in t (the_filelog task.path)) (data_in t (the_filelog task.path))

-- what is found, where there is something, is right for each tree that the store was read of
abbrev pub IsRight : Store → Task → Type 0
IsRight s task = IfOk task.found (λ f. (t : Tree) → IsStoreOf s t → IsJudged (unwrap_or task.parts.index []) (unwrap_or task.parts.chunks []) (words (sight_of t) task.path) f)

-- the refusal, where there is one, is want of memory or that of its index
abbrev pub HasCause : Task → Type 0
HasCause task = IfErr task.found (λ fault. IsRefused (unwrap_or task.parts.index []) fault)

-- where something is found, the index passes no limit
abbrev pub IsWithin : Task → Type 0
IsWithin task = OnOk task.found (KeepsLimits (unwrap_or task.parts.index []))

-- it was judged: its path and its bytes are as before
pub record IsJudgedAs (s : Store) (task judged : Task) : Type 0 where
  pub path : judged.path ≡ task.path
  pub parts : judged.parts ≡ task.parts
  pub right : IsRight s judged
  pub cause : HasCause judged
  pub within : IsWithin judged

-- so was each of them
pub record AreJudged (s : Store) (tasks judged : List Task) : Type 0 where
  pub count : length judged ≡ length tasks
  pub each : (k : ℕ) (d : Task) → k < length tasks → IsJudgedAs s (slice_index_or tasks k d) (slice_index_or judged k d)

abbrev pub paths_of : List Task → List (List ℕ)
paths_of tasks = map (λ (task : Task). task.path) tasks

abbrev pub AreReadOf : List Task → Tree → Type 0
AreReadOf tasks t = AllByRecursion (λ task. IsReadOf task t) tasks

-- they were read of a tree, and what is found is right for it
abbrev pub AreRightIn : Store → Tree → List Task → Type 0
AreRightIn s t tasks = AllByRecursion (λ task. IsReadOf task t × IsRight s task) tasks

-- they were read of a tree, and each refusal has its cause
abbrev pub AreRefusedIn : Tree → List Task → Type 0
AreRefusedIn t tasks = AllByRecursion (λ task. IsReadOf task t × HasCause task) tasks

-- they were read of a tree, and where something is found, the index passes no limit
abbrev pub AreWithinIn : Tree → List Task → Type 0
AreWithinIn t tasks = AllByRecursion (λ task. IsReadOf task t × IsWithin task) tasks

-- they are of the first of these paths, and the others are left; where there is none of them, no path is left
pub record AreNext (tasks : List Task) (paths left : List (List ℕ)) : Type 0 where
  pub order : paths_of tasks ++ left ≡ paths
  pub some : tasks ≡ [] → left ≡ []
