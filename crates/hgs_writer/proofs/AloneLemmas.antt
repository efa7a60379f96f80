-- What a call leaves of a tree that stands for a repository.
use Rattle.std.proofs.Common.{◌≡◌, ◌⊎◌, ℕ, List, [], ◌++◌, Bool, false, refl, sym, ◌∙◌, ap, subst, inl, inr, append-nil}
use Rattle.std.specs.Prelude.{Option, Result, Ok, Err, ⊤}
use Rattle.std.specs.Bool.{MatchBool}
use Rattle.hgs_answers.specs.declared.answer.Answer.{Answer}
use Rattle.hgs_commit.specs.Commit.{Steps}
use Rattle.hgs_commit.specs.declared.fault.CommitFault.{CommitFault}
use Rattle.hgs_commit.specs.declared.fault.CommitFault.TheVariants as commits
use Rattle.hgs_files.specs.declared.op.Op.{Op}
use Rattle.hgs_files.specs.Tree.{Tree, after_all}
use Rattle.hgs_index.specs.declared.node.Node.{Node}
use Rattle.hgs_files.specs.Stop.{IsStopped}
use Rattle.hgs_legal.specs.Pieces.{Early, Front, LeavesJournal, Piece, Pieces, and_then, at_last, no_more, no_pieces}
use Rattle.hgs_machine.specs.Course.{lock_removals}
use Rattle.hgs_machine.specs.Locks.{AreLocked, AreRemoved, IsTurnedAway}
use Rattle.hgs_machine.specs.declared.ended.Short.{Short}
use Rattle.hgs_machine.specs.declared.ended.Short.TheVariants.{Done, Fault, Unfinished, Memory}
use Rattle.hgs_machine.specs.declared.locks.LockRefusal.{LockRefusal}
use Rattle.hgs_machine.specs.declared.locks.LockRefusal.TheVariants as locked
use Rattle.hgs_model.specs.Repo.{Repo}
use Rattle.hgs_model.specs.Step.{Next, step}
use Rattle.hgs_model.specs.Valid.{IsNewChange, IsValid}
use Rattle.hgs_model.specs.declared.command.Command.{Command}
use Rattle.hgs_model.specs.declared.command.Command.TheVariants.{Commit, Import, Mark, Move, Unmark}
use Rattle.hgs_model.specs.declared.command.NewChange.{NewChange}
use Rattle.hgs_model.specs.declared.command.Refusal.{Refusal}
use Rattle.hgs_model.specs.declared.command.Refusal.TheVariants as refusals
use Rattle.hgs_ops.specs.Operations.{strays}
use Rattle.hgs_ops.specs.Unhindered.{IsReady}
use Rattle.hgs_writer.specs.Commits.{AnswersWith}
use Rattle.hgs_writer.specs.Made.{IsPieceOf}
use Rattle.hgs_load.specs.declared.answer.ReadAnswer.{ReadAnswer}
use Rattle.hgs_load.specs.declared.answer.ReadAnswer.TheVariants as reads
use Rattle.hgs_stands.specs.Open.{IsOpen}
use Rattle.hgs_stands.specs.Stands.{Stands}
use Rattle.hgs_steps.specs.Fault.{is_memory}
use Rattle.hgs_steps.specs.Planned.{AnswersAs, IsLoadedOf, IsStepOf}
use Rattle.hgs_steps.specs.Steps.{mark_of, move_of, planned, unmark_of}
use Rattle.hgs_steps.specs.declared.fault.PlanFault.{PlanFault}
use Rattle.hgs_steps.specs.declared.fault.PlanFault.TheVariants as plans
use Rattle.hgs_steps.specs.declared.loaded.Loaded.{Loaded}
use Rattle.hgs_steps.specs.declared.step.Step.{Step}
use Rattle.hgs_transaction.specs.Assembled.{IsPlanOf}
use Rattle.hgs_transaction.specs.OfTransaction.{ArePartsOf}
use Rattle.hgs_transaction.specs.declared.parts.Parts.{Parts}
use Rattle.hgs_legal.specs.ListsPaths.{ListsPaths}
use Rattle.hgs_writer.specs.Alone.{IsAnswered, IsDoneAs, IsStopOf}
use Rattle.hgs_writer.specs.BytePaths.{NamesBytes}
use Rattle.hgs_writer.specs.Outcomes.{outcome_of_commit, outcome_of_ended, outcome_of_lock, outcome_of_plan, outcome_of_read}
use Rattle.hgs_writer.specs.Planning.{ComesTo, IsNotPlannedFor, IsPlannedFor, has_no_memory, is_refused, is_unread}
use Rattle.hgs_writer.specs.Written.{IsCarriedOut, IsWritten, is_carried_out, is_not_planned, is_turned_away}
use Rattle.hgs_writer.specs.declared.plan.Planned.{Planned}
use Rattle.hgs_writer.specs.Below.{Below}
use Rattle.hgs_writer.proofs.CommitLemmas.{IsFit, IsStepFor, IsTold, commit-fault, commit-step, import-fault, import-step, lists-under-locks, valid-fit}

-- ---- what is done, as pieces

-- nothing, a piece that leads back, one that leaves its journal, or one that leads to the next repository
abbrev pub IsMadeOf : Tree → Repo → Result Next Refusal → List Op → Type 0
IsMadeOf t r stepped log = (log ≡ []) ⊎ (Piece t r log r ⊎ (LeavesJournal t r log ⊎ ((next : Next) × (stepped ≡ Ok next) × Piece t r log next.0)))

one-piece : (t : Tree) (r next : Repo) (log : List Op) → Piece t r log next → Pieces t r log
one-piece t r next log piece = subst (Pieces t r) (append-nil log) (and_then log [] next piece no_pieces)

pub pieces-of : (t : Tree) (r : Repo) (stepped : Result Next Refusal) (log : List Op) → IsMadeOf t r stepped log → Pieces t r log
pieces-of t r stepped log (inl none) = subst (Pieces t r) (sym none) no_pieces
pieces-of t r stepped log (inr (inl piece)) = one-piece t r r log piece
pieces-of t r stepped log (inr (inr (inl left))) = subst (Pieces t r) (append-nil log) (at_last log [] left no_more)
pieces-of t r stepped log (inr (inr (inr (next, accepted, piece)))) = one-piece t r next.0 log piece

-- What the laws of pieces and of lists of filelogs say.
pub record ListLaws : Type 0 where
  pub ends : (t : Tree) (r next : Repo) (log : List Op) → Stands t r → Piece t r log next → Stands (after_all log t) next
  pub left_open : (t : Tree) (r : Repo) (log : List Op) → Stands t r → LeavesJournal t r log → IsOpen strays (after_all log t) r
  pub piece : (t : Tree) (r next : Repo) (log : List Op) → Stands t r → ListsPaths t r → Piece t r log next → ListsPaths (after_all log t) next
  pub left : (t : Tree) (r : Repo) (log : List Op) → Stands t r → ListsPaths t r → LeavesJournal t r log → ListsPaths (after_all log t) r
  pub one : (t : Tree) (r s : Repo) → Stands t r → Stands t s → r ≡ s
  pub not_open : (t : Tree) (r s : Repo) → Stands t r → IsOpen strays t s → ⊥
  pub open_one : (t : Tree) (r s : Repo) → IsOpen strays t r → IsOpen strays t s → r ≡ s

-- the list of filelogs behind it
module _ (laws : ListLaws) (t : Tree) (r : Repo) (stepped : Result Next Refusal) (s : Stands t r) (lists : ListsPaths t r) where
  abbrev IsOf : Tree → Repo → Type 0
  IsOf u next = Stands u next ⊎ IsOpen strays u next

  standing-one : (u : Tree) (q next : Repo) → Stands u q → IsOf u next → q ≡ next
  standing-one u q next a (inl b) = laws.one u q next a b
  standing-one u q next a (inr b) = absurd (laws.not_open u q next a b)

  open-one : (u : Tree) (q next : Repo) → IsOpen strays u q → IsOf u next → q ≡ next
  open-one u q next a (inl b) = absurd (laws.not_open u next q b a)
  open-one u q next a (inr b) = laws.open_one u q next a b

  piece-lists : (log : List Op) (q next : Repo) → Piece t r log q → IsOf (after_all log t) next → ListsPaths (after_all log t) next
  piece-lists log q next piece is = subst (ListsPaths (after_all log t)) (standing-one (after_all log t) q next (laws.ends t r q log s piece) is) (laws.piece t r q log s lists piece)

  pub made-lists : (log : List Op) (next : Repo) → IsMadeOf t r stepped log → IsOf (after_all log t) next → ListsPaths (after_all log t) next
  made-lists log next (inl none) is =
      subst (λ (l : List Op). IsOf (after_all l t) next → ListsPaths (after_all l t) next) (sym none) (λ here. subst (ListsPaths t) (standing-one t r next s here) lists) is
  made-lists log next (inr (inl piece)) is = piece-lists log r next piece is
  made-lists log next (inr (inr (inl left))) is = subst (ListsPaths (after_all log t)) (open-one (after_all log t) r next (laws.left_open t r log s left) is) (laws.left t r log s lists left)
  made-lists log next (inr (inr (inr (q, accepted, piece)))) is = piece-lists log q.0 next piece is

-- where it is stopped
module _ (ends : (t : Tree) (r next : Repo) (log : List Op) → Stands t r → Piece t r log next → Stands (after_all log t) next) (left_open : (t : Tree) (r : Repo) (log : List Op) → Stands t r → LeavesJournal t r log → IsOpen strays (after_all log t) r)
    (of_piece : (t : Tree) (r next : Repo) (log d : List Op) → Piece t r log next → IsStopped log d → Front t r next d) (of_left : (t : Tree) (r : Repo) (log d : List Op) → LeavesJournal t r log → IsStopped log d → Early t r d)
    (t : Tree) (r : Repo) (stepped : Result Next Refusal) (s : Stands t r) where
  stopped-early : (d : List Op) → Early t r d → IsStopOf t r stepped d
  stopped-early d (inl none) = inl (inl none, subst (λ l. Stands (after_all l t) r) (sym none) s)
  stopped-early d (inr (inl piece)) = inl (inr piece, ends t r r d s piece)
  stopped-early d (inr (inr left)) = inr (inl (left, left_open t r d s left))

  stopped-back : (d : List Op) → Front t r r d → IsStopOf t r stepped d
  stopped-back d (inl none) = stopped-early d (inl none)
  stopped-back d (inr (inl piece)) = stopped-early d (inr (inl piece))
  stopped-back d (inr (inr (inl piece))) = stopped-early d (inr (inl piece))
  stopped-back d (inr (inr (inr left))) = stopped-early d (inr (inr left))

  stopped-on : (d : List Op) (next : Next) → stepped ≡ Ok next → Front t r next.0 d → IsStopOf t r stepped d
  stopped-on d next accepted (inl none) = stopped-early d (inl none)
  stopped-on d next accepted (inr (inl piece)) = stopped-early d (inr (inl piece))
  stopped-on d next accepted (inr (inr (inl piece))) = inr (inr (next, accepted, piece, ends t r next.0 d s piece))
  stopped-on d next accepted (inr (inr (inr left))) = stopped-early d (inr (inr left))

  pub stops-of : (log d : List Op) → IsMadeOf t r stepped log → IsStopped log d → IsStopOf t r stepped d
  stops-of log d (inl none) stop = stopped-early d (inl (subst (λ l. IsStopped l d) none stop))
  stops-of log d (inr (inl piece)) stop = stopped-back d (of_piece t r r log d piece stop)
  stops-of log d (inr (inr (inl left))) stop = stopped-early d (of_left t r log d left stop)
  stops-of log d (inr (inr (inr (next, accepted, piece)))) stop = stopped-on d next accepted (of_piece t r next.0 log d piece stop)

-- ---- what the repository makes of a command, and what is planned

-- a refusal of the command is answered as such
refusal-answered : (r : Repo) (e : Refusal) (u : Tree) → Stands u r → IsAnswered r (Err e) (outcome_of_plan (plans.Refused e)) u
refusal-answered r refusals.UnknownRevision u s = (refl, s)
refusal-answered r refusals.UnknownPath u s = (refl, s)
refusal-answered r (refusals.CopyOver path) u s = (refl, s)
refusal-answered r (refusals.NeedsForce rev) u s = (refl, s)
refusal-answered r (refusals.NothingChanged rev) u s = (refl, s)

-- what is refused as the repository refuses it, or for its limit, leaves the repository as it was
fault-answered : (u : Tree) (r : Repo) (command : Command) (fault : PlanFault) (stepped : Result Next Refusal) (v : Tree) → AnswersAs u r command (Err fault) stepped → Stands v r → IsAnswered r stepped (outcome_of_plan fault) v
fault-answered u r command fault (Err e) v is s = subst (λ f. IsAnswered r (Err e) (outcome_of_plan f) v) (sym is) (refusal-answered r e v s)
fault-answered u r command fault (Ok next) v (inl is) s = subst (λ f. IsAnswered r (Ok next) (outcome_of_plan f) v) (sym is.0) s
fault-answered u r command fault (Ok next) v (inr is) s = subst (λ f. IsAnswered r (Ok next) (outcome_of_plan f) v) (sym is.0) s

read-answered : (r : Repo) (stepped : Result Next Refusal) (e : ReadAnswer) (v : Tree) → Stands v r → IsAnswered r stepped (outcome_of_read e) v
read-answered r stepped (reads.Damaged d) v s = s
read-answered r stepped reads.Fault v s = s
read-answered r stepped (reads.Limit w) v s = s
read-answered r stepped reads.UnknownPath v s = s
read-answered r stepped reads.NotARepository v s = s
read-answered r stepped (reads.Requirement w) v s = s
read-answered r stepped reads.Memory v s = s

given-answered : (u : Tree) (r : Repo) (command : Command) (fault : PlanFault) (stepped : Result Next Refusal) (a : Result Step PlanFault) (v : Tree) → MatchBool (is_memory fault) ⊤ (a ≡ Err fault) → AnswersAs u r command a stepped → Stands v r → IsAnswered r stepped (outcome_of_plan fault) v
given-answered u r command plans.Memory stepped a v m is s = s
given-answered u r command (plans.Refused e) stepped a v m is s = fault-answered u r command (plans.Refused e) stepped v (subst (λ x. AnswersAs u r command x stepped) m is) s
given-answered u r command (plans.Limit w) stepped a v m is s = fault-answered u r command (plans.Limit w) stepped v (subst (λ x. AnswersAs u r command x stepped) m is) s
given-answered u r command (plans.NameClash p) stepped a v m is s = fault-answered u r command (plans.NameClash p) stepped v (subst (λ x. AnswersAs u r command x stepped) m is) s
given-answered u r command (plans.InTheWay p) stepped a v m is s = fault-answered u r command (plans.InTheWay p) stepped v (subst (λ x. AnswersAs u r command x stepped) m is) s
given-answered u r command (plans.Collision p rev) stepped a v m is s = fault-answered u r command (plans.Collision p rev) stepped v (subst (λ x. AnswersAs u r command x stepped) m is) s

-- a commit that is accepted and has met what keeps it from being written leaves the repository as it was
hindered-answered : (IsTold : Type 0) (u : Tree) (r : Repo) (n : NewChange) (clash : Option (List ℕ)) (fault : PlanFault) (stepped : Result Next Refusal) (v : Tree) → AnswersWith IsTold u r n clash (Err (commits.Refused fault)) stepped → Stands v r → IsAnswered r stepped (outcome_of_plan fault) v
hindered-answered IsTold u r n clash fault (Err e) v is s = subst (λ f. IsAnswered r (Err e) (outcome_of_plan f) v) (sym is) (refusal-answered r e v s)
hindered-answered IsTold u r n clash (plans.Refused e) (Ok next) v is s = absurd is
hindered-answered IsTold u r n clash (plans.Limit w) (Ok next) v is s = s
hindered-answered IsTold u r n clash (plans.NameClash p) (Ok next) v is s = s
hindered-answered IsTold u r n clash (plans.InTheWay p) (Ok next) v is s = s
hindered-answered IsTold u r n clash (plans.Collision p rev) (Ok next) v is s = s
hindered-answered IsTold u r n clash plans.Memory (Ok next) v is s = absurd is

-- the step that was planned is the repository's
planned-as : (u : Tree) (r : Repo) (command : Command) (step_is : Step) (a : Result Step PlanFault) (stepped : Result Next Refusal) → a ≡ Ok step_is → AnswersAs u r command a stepped → (next : Next) × (stepped ≡ Ok next) × IsStepOf u r command next step_is
planned-as u r command step_is a (Ok next) e is = (next, refl, subst (λ x. AnswersAs u r command x (Ok next)) e is)
planned-as u r command step_is a (Err f) e is = absurd (subst (λ x. AnswersAs u r command x (Err f)) e is)

step-for : (u : Tree) (r : Repo) (command : Command) (step_is : Step) (a : Result Step PlanFault) → ((next : Repo) → IsReady u r command next) → a ≡ Ok step_is → AnswersAs u r command a (step r command) → IsStepFor u r command step_is
step-for u r command step_is a ready e is =
    let next = planned-as u r command step_is a (step r command) e is in
    record { next = next.0; accepted = next.1; as_step = next.2; ready = λ lists bytes. ready next.0.0 }

module _ (laws : Below) where
  -- a step that is planned is the one that the repository makes
  pub planned-step : (u : Tree) (r : Repo) (l : Loaded) (command : Command) (step_is : Step) → IsFit u r command → Stands u r → IsLoadedOf u l → ComesTo u l command (Ok step_is) → IsStepFor u r command step_is
  planned-step u r l (Commit n) step_is fit s is comes = commit-step laws u r l n s is fit step_is comes.0
  planned-step u r l (Import changes) step_is fit s is comes = import-step laws u r l changes s is fit step_is comes
  planned-step u r l (Move name to force) step_is fit s is comes = step-for u r (Move name to force) step_is (planned l (move_of l name to force)) (λ next. tt) comes (laws.moved u r l name to force s is)
  planned-step u r l (Mark mark name) step_is fit s is comes = step-for u r (Mark mark name) step_is (planned l (mark_of l mark name)) (λ next. tt) comes (laws.marked u r l mark name s is)
  planned-step u r l (Unmark mark) step_is fit s is comes = step-for u r (Unmark mark) step_is (planned l (unmark_of l mark)) (λ next. tt) comes (laws.unmarked u r l mark s is)

  commit-answered : (u : Tree) (r : Repo) (l : Loaded) (n : NewChange) (fault : PlanFault) (v : Tree) → is_memory fault ≡ false → IsNewChange n → Stands u r → IsLoadedOf u l → Steps l n u (Err (commits.Refused fault)) → Stands v r → IsAnswered r (step r (Commit n)) (outcome_of_plan fault) v
  commit-answered u r l n fault v known fit s is comes after =
      let a = commit-fault laws u r l n s is fit fault known comes in
      hindered-answered (IsTold laws u r l n s is fit a.0) u r n a.0 fault (step r (Commit n)) v a.1 after

  -- what is refused leaves the repository as it was
  refused-answered : (u : Tree) (r : Repo) (l : Loaded) (command : Command) (fault : PlanFault) (v : Tree) → IsFit u r command → Stands u r → IsLoadedOf u l → ComesTo u l command (Err (commits.Refused fault)) → Stands v r → IsAnswered r (step r command) (outcome_of_plan fault) v
  refused-answered u r l (Commit n) plans.Memory v fit s is comes after = after
  refused-answered u r l (Commit n) (plans.Refused e) v fit s is comes after = commit-answered u r l n (plans.Refused e) v refl fit s is comes.0 after
  refused-answered u r l (Commit n) (plans.Limit w) v fit s is comes after = commit-answered u r l n (plans.Limit w) v refl fit s is comes.0 after
  refused-answered u r l (Commit n) (plans.NameClash p) v fit s is comes after = commit-answered u r l n (plans.NameClash p) v refl fit s is comes.0 after
  refused-answered u r l (Commit n) (plans.InTheWay p) v fit s is comes after = commit-answered u r l n (plans.InTheWay p) v refl fit s is comes.0 after
  refused-answered u r l (Commit n) (plans.Collision p rev) v fit s is comes after = commit-answered u r l n (plans.Collision p rev) v refl fit s is comes.0 after
  refused-answered u r l (Import changes) (plans.Refused e) v fit s is comes after =
      let refused = laws.refused u r changes e (import-fault laws u r l changes s is fit (commits.Refused (plans.Refused e)) refl comes) in
      subst (λ stepped. IsAnswered r stepped (outcome_of_plan (plans.Refused e)) v) (sym refused) (refusal-answered r e v after)
  refused-answered u r l (Import changes) (plans.Limit w) v fit s is comes after = after
  refused-answered u r l (Import changes) (plans.NameClash p) v fit s is comes after = after
  refused-answered u r l (Import changes) (plans.InTheWay p) v fit s is comes after = after
  refused-answered u r l (Import changes) (plans.Collision p rev) v fit s is comes after = after
  refused-answered u r l (Import changes) plans.Memory v fit s is comes after = after
  refused-answered u r l (Move name to force) fault v fit s is comes after = given-answered u r (Move name to force) fault (step r (Move name to force)) (planned l (move_of l name to force)) v comes (laws.moved u r l name to force s is) after
  refused-answered u r l (Mark mark name) fault v fit s is comes after = given-answered u r (Mark mark name) fault (step r (Mark mark name)) (planned l (mark_of l mark name)) v comes (laws.marked u r l mark name s is) after
  refused-answered u r l (Unmark mark) fault v fit s is comes after = given-answered u r (Unmark mark) fault (step r (Unmark mark)) (planned l (unmark_of l mark)) v comes (laws.unmarked u r l mark s is) after

  not-planned-answered : (u : Tree) (r : Repo) (command : Command) (fault : CommitFault) (v : Tree) → (NamesBytes command → IsFit u r command) → Stands u r → IsNotPlannedFor command u fault → Stands v r → IsAnswered r (step r command) (outcome_of_commit fault) v
  not-planned-answered u r command _ v fit s (is_unread e m) after = read-answered r (step r command) e v after
  not-planned-answered u r command _ v fit s has_no_memory after = after
  not-planned-answered u r command _ v fit s (is_refused read l fault was from is comes bytes) after = by fault comes
    where
      by : (f : CommitFault) → ComesTo u l command (Err f) → IsAnswered r (step r command) (outcome_of_commit f) v
      by (commits.Unread e) c = read-answered r (step r command) e v after
      by (commits.Refused f) c = refused-answered u r l command f v (fit bytes) s is c after

  -- ---- a transaction that is carried out

  ended-answered : (t : Tree) (r : Repo) (next : Next) (planned : Planned) (log : List Op) (ended : Short) → Stands t r → planned.rev ≡ next.1.rev → planned.node.0 ≡ next.1.node → IsPieceOf t r next.0 ended log
      → IsAnswered r (Ok next) (outcome_of_ended ended planned.rev planned.node) (after_all log t)
  ended-answered t r next planned log Done s rev_is node_is piece = (laws.ends t r next.0 log s piece, rev_is, node_is)
  ended-answered t r next planned log Fault s rev_is node_is piece = laws.ends t r r log s piece
  ended-answered t r next planned log Memory s rev_is node_is piece = laws.ends t r r log s piece
  ended-answered t r next planned log (Unfinished published) s rev_is node_is left = (refl, laws.left_open t r log s left)

  ended-made : (t : Tree) (r : Repo) (next : Next) (log : List Op) (ended : Short) → IsPieceOf t r next.0 ended log → IsMadeOf t r (Ok next) log
  ended-made t r next log Done piece = inr (inr (inr (next, refl, piece)))
  ended-made t r next log Fault piece = inr (inl piece)
  ended-made t r next log Memory piece = inr (inl piece)
  ended-made t r next log (Unfinished published) left = inr (inr (inl left))

  -- where the repository accepts the command, and the parts that were planned under the locks are those of its transaction
  pub carried : (t : Tree) (r : Repo) (command : Command) (next : Next) (who : List ℕ) (p : Parts) (planned : Planned) (answer : Answer) (locking carrying : List Op) → Stands t r → IsValid command → step r command ≡ Ok next → IsReady (after_all locking t) r command next.0
      → ArePartsOf (after_all locking t) r command next.0 p → IsPlanOf p planned.plan → planned.rev ≡ next.1.rev → planned.node.0 ≡ next.1.node → AreLocked who t locking → IsCarriedOut (after_all locking t) planned answer carrying
      → IsAnswered r (step r command) answer.outcome (after_all (locking ++ carrying) t) × IsMadeOf t r (step r command) (locking ++ carrying)
  carried t r command next who p planned answer locking carrying s valid accepted is_ready are is rev_is node_is locks c =
      let log = locking ++ carrying in
      let u = after_all log t in
      let piece = laws.transaction t r next.0 command who next.1 p planned.plan c.ended answer.swept locking carrying valid accepted (laws.ready t r next.0 command who locking locks is_ready) (laws.parts t r next.0 command who p locking locks are) is locks c.carried in
      let said = ended-answered t r next planned log c.ended s rev_is node_is piece in (
        subst (λ o. IsAnswered r (step r command) o u) (sym c.outcome) (subst (λ x. IsAnswered r x (outcome_of_ended c.ended planned.rev planned.node) u) (sym accepted) said),
        subst (λ x. IsMadeOf t r x log) (sym accepted) (ended-made t r next log c.ended piece),
      )

  -- ---- a writer that is turned away

  lock-answered : (t : Tree) (r : Repo) (who : List ℕ) (why : LockRefusal) (swept : Bool) (log : List Op) (stepped : Result Next Refusal) (v : Tree) → Stands t r → IsTurnedAway who t why swept log → Stands v r → IsAnswered r stepped (outcome_of_lock why) v
  lock-answered t r who (locked.Held holder) swept log stepped v s turned after = after
  lock-answered t r who locked.Abandoned swept log stepped v s turned after = absurd (laws.abandoned t who swept log s.no_journal turned)
  lock-answered t r who locked.Fault swept log stepped v s turned after = after
  lock-answered t r who locked.Memory swept log stepped v s turned after = after

  nothing-or-piece : (t : Tree) (r : Repo) (stepped : Result Next Refusal) (log : List Op) → Stands t r → (log ≡ []) ⊎ Piece t r log r → Stands (after_all log t) r × IsMadeOf t r stepped log
  nothing-or-piece t r stepped log s (inl none) = (subst (λ l. Stands (after_all l t) r) (sym none) s, inl none)
  nothing-or-piece t r stepped log s (inr piece) = (laws.ends t r r log s piece, inr (inl piece))

  -- ---- the whole

  abbrev LeavesAs : Tree → Repo → Command → Answer → List Op → Type 0
  LeavesAs t r command answer done = IsAnswered r (step r command) answer.outcome (after_all done t) × IsMadeOf t r (step r command) done

  turned-away-leaves : (t : Tree) (r : Repo) (command : Command) (who : List ℕ) (answer : Answer) (done : List Op) (why : LockRefusal) → Stands t r → IsTurnedAway who t why answer.swept done → answer.outcome ≡ outcome_of_lock why → LeavesAs t r command answer done
  turned-away-leaves t r command who answer done why s turned outcome =
      let after = nothing-or-piece t r (step r command) done s (laws.turned_away t r who why answer.swept done turned) in
      (subst (λ o. IsAnswered r (step r command) o (after_all done t)) (sym outcome) (lock-answered t r who why answer.swept done (step r command) (after_all done t) s turned after.0), after.1)

  not-planned-leaves : (t : Tree) (r : Repo) (command : Command) (who : List ℕ) (answer : Answer) (fault : CommitFault) (locking releasing : List Op) → Stands t r → (NamesBytes command → IsFit (after_all locking t) r command) → AreLocked who t locking → IsNotPlannedFor command (after_all locking t) fault
      → AreRemoved lock_removals answer.swept releasing → answer.outcome ≡ outcome_of_commit fault → LeavesAs t r command answer (locking ++ releasing)
  not-planned-leaves t r command who answer fault locking releasing s fit locks plans removed outcome =
      let piece = laws.released t r who answer.swept locking releasing locks removed in
      let after = laws.ends t r r (locking ++ releasing) s piece in (
        subst (λ o. IsAnswered r (step r command) o (after_all (locking ++ releasing) t)) (sym outcome) (not-planned-answered (after_all locking t) r command fault (after_all (locking ++ releasing) t) fit (laws.stands t r who locking locks s) plans after),
        inr (inl piece),
      )

  carried-leaves : (t : Tree) (r : Repo) (command : Command) (who : List ℕ) (answer : Answer) (planned : Planned) (locking carrying : List Op) → Stands t r → IsValid command → ListsPaths t r → AreLocked who t locking → IsPlannedFor command (after_all locking t) planned
      → IsCarriedOut (after_all locking t) planned answer carrying → LeavesAs t r command answer (locking ++ carrying)
  carried-leaves t r command who answer planned locking carrying s valid lists locks plan c =
      let made = planned-step (after_all locking t) r plan.loaded command plan.step (valid-fit (after_all locking t) r command valid plan.bytes (lists-under-locks laws t who locking locks r lists)) (laws.stands t r who locking locks s) plan.is_loaded plan.comes in
      carried t r command made.next who plan.step.parts planned answer locking carrying s valid made.accepted (made.ready (lists-under-locks laws t who locking locks r lists) plan.bytes) made.as_step.parts plan.plan (plan.rev ∙ made.as_step.rev) (ap (λ n. n.0) plan.node ∙ made.as_step.node) locks c

  pub written : (t : Tree) (r : Repo) (command : Command) (who : List ℕ) (answer : Answer) (done : List Op) → Stands t r → IsValid command → ListsPaths t r → IsWritten who command t answer done → LeavesAs t r command answer done
  written t r command who answer done s valid lists (is_turned_away why turned outcome) = turned-away-leaves t r command who answer done why s turned outcome
  written t r command who answer done s valid lists (is_not_planned fault locking releasing locks plans removed outcome whole) =
      subst (LeavesAs t r command answer) (sym whole) (not-planned-leaves t r command who answer fault locking releasing s (λ bytes. valid-fit (after_all locking t) r command valid bytes (lists-under-locks laws t who locking locks r lists)) locks plans removed outcome)
  written t r command who answer done s valid lists (is_carried_out made locking carrying locks plan c whole) =
      subst (LeavesAs t r command answer) (sym whole) (carried-leaves t r command who answer made locking carrying s valid lists locks plan c)

-- a call that is done: the repository accepts the command
pub done-as : (r : Repo) (stepped : Result Next Refusal) (rev : ℕ) (node : Node) (u : Tree) → IsDoneAs stepped rev node u → (next : Next) × (stepped ≡ Ok next) × (rev ≡ next.1.rev) × (node.0 ≡ next.1.node) × Stands u next.0
done-as r (Ok next) rev node u h = (next, refl, h.1, h.2, h.0)
done-as r (Err e) rev node u h = absurd h
