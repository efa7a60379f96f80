-- What a question of a session is answered of, while writers are at work.
use Rattle.std.specs.Prelude.{◌≡◌, ◌⊎◌, ◌≤◌, ℕ, List, [], ◌∷◌, Option, Some, IfSome}
use Rattle.std.specs.List.{AllByRecursion}
use Rattle.hgs_bytes.specs.Bytes.{IsPrefixOf}
use Rattle.hgs_files.specs.declared.op.Op.{Op}
use Rattle.hgs_headline.specs.WritersLog.{WritersLog, course_of, state_after}
use Rattle.hgs_legal.specs.Numbers.{b_of, n_of, w_of}
use Rattle.hgs_load.specs.View.{View}
use Rattle.hgs_load.specs.declared.answer.ReadAnswer.TheVariants.{Fault}
use Rattle.hgs_questions.specs.Asked.{Tells}
use Rattle.hgs_questions.specs.Said.{IsOneOf, lost, refused}
use Rattle.hgs_script.specs.declared.job.Question.{Question}
use Rattle.hgs_script.specs.declared.result.Answered.{Answered}
use Rattle.hgs_views.specs.Seen.{IsLoadedBetween, NoneFell, Numbers, seen}
use Rattle.hgs_history.specs.Said.{IsOf}

-- A view has these numbers: it was loaded before this place of the log.
pub record IsKnown (h : WritersLog) (first : List Op) (v : Numbers) (view : View) : Type 0 where
  pub began : List Op
  pub ended : List Op
  pub loaded : IsLoadedBetween (course_of h) began ended v view
  pub before : IsPrefixOf ended first

-- none of these numbers is below that of the log behind this front of it
pub record AreNoOlder (h : WritersLog) (v : Numbers) (front : List Op) : Type 0 where
  pub marked : b_of (state_after h front) ≤ v.marked
  pub worked : w_of (state_after h front) ≤ v.worked
  pub read : n_of (state_after h front) ≤ v.read
  pub rooted : n_of (state_after h front) ≤ v.rooted

-- Without damage, and with a repository that the reader may read: the text, an unknown revision or path, a fault, or no memory.
abbrev pub IsStatusBeside : ℕ → Type 0
IsStatusBeside status = IsOneOf (0 ∷ 12 ∷ 16 ∷ 23 ∷ 30 ∷ []) status

-- The question is answered of a view that was loaded for it, with the text of the repository that this view shows: none of its numbers
-- is below the view's before, or below that of the log as it was seen or told when the load began.
pub record IsAnsweredOf (h : WritersLog) (told : List (List Op)) (first last : List Op) (old : Option View) (v : Numbers) (new : Option View) (question : Question) (faults_old faults_new : ℕ) (answered : Answered) : Type 0 where
  pub view : View
  pub numbers : Numbers
  pub from : List Op
  pub mid : List Op
  pub new_is : new ≡ Some view
  pub loaded : IsLoadedBetween (course_of h) from mid numbers view
  pub seen_before : IsPrefixOf first from
  pub then_asked : IsPrefixOf mid last
  pub since_seen : AreNoOlder h numbers first
  pub since_told : AllByRecursion (AreNoOlder h numbers) told
  pub none_fell : IfSome old (λ view. NoneFell v numbers)
  pub says : IsOf (seen (course_of h) numbers) question faults_old faults_new answered
  pub tells : Tells (Some mid) h.start (Some last) view question faults_old faults_new answered
  pub status : IsStatusBeside answered.status

-- The load met a fault of the files, or there was no memory; the view is as before.
abbrev pub IsNotLoaded : Option View → Option View → Answered → Type 0
IsNotLoaded old new answered = (new ≡ old) × ((answered ≡ refused Fault) ⊎ (answered ≡ lost))
