-- The locks behind a call.
use Rattle.std.proofs.Common.{◌≡◌, ℕ, List, ◌++◌, Bool, true, sym, ◌∙◌, ap, subst}
use Rattle.std.specs.Prelude.{None, Option}
use Rattle.hgs_answers.specs.declared.answer.Answer.{Answer}
use Rattle.hgs_answers.specs.declared.outcome.Outcome.TheVariants.{LockHeld}
use Rattle.hgs_commit.specs.declared.fault.CommitFault.{CommitFault}
use Rattle.hgs_commit.specs.declared.fault.CommitFault.TheVariants as commits
use Rattle.hgs_files.specs.declared.op.Op.{Op}
use Rattle.hgs_files.specs.Tree.{Tree, after_all}
use Rattle.hgs_files.specs.Theorems.TreeLemmas.{after_all-append}
use Rattle.hgs_index.specs.declared.node.Node.{Node}
use Rattle.hgs_machine.specs.Course.{CarriedOut, lock_removals}
use Rattle.hgs_journal.specs.Names.{journal_path}
use Rattle.hgs_machine.specs.Locks.{AreLocked, AreRemoved, IsTurnedAway}
use Rattle.hgs_machine.specs.declared.ended.Short.{Short}
use Rattle.hgs_machine.specs.declared.ended.Short.TheVariants as shorts
use Rattle.hgs_machine.specs.declared.locks.LockRefusal.{LockRefusal}
use Rattle.hgs_machine.specs.declared.locks.LockRefusal.TheVariants as locked
use Rattle.hgs_model.specs.declared.command.Command.{Command}
use Rattle.hgs_model.specs.declared.command.Refusal.{Refusal}
use Rattle.hgs_model.specs.declared.command.Refusal.TheVariants as refusals
use Rattle.hgs_writer.specs.Made.{HasNoLocks, HasNoStrays, IsOver}
use Rattle.hgs_load.specs.declared.answer.ReadAnswer.{ReadAnswer}
use Rattle.hgs_load.specs.declared.answer.ReadAnswer.TheVariants as reads
use Rattle.hgs_steps.specs.declared.fault.PlanFault.{PlanFault}
use Rattle.hgs_steps.specs.declared.fault.PlanFault.TheVariants as plans
use Rattle.hgs_transaction.specs.declared.assemble.Plan.{Plan}
use Rattle.hgs_writer.specs.Alone.{IsBarred, IsFinished, IsHeld}
use Rattle.hgs_writer.specs.Outcomes.{outcome_of_commit, outcome_of_ended, outcome_of_lock, outcome_of_plan, outcome_of_read, outcome_of_refusal}
use Rattle.hgs_writer.specs.Written.{IsWritten, is_carried_out, is_not_planned, is_turned_away}

-- what the crates below say of the locks
pub record LockLaws : Type 0 where
  pub carried : (v : Tree) (plan : Plan) (outcome : Short) (log : List Op) → CarriedOut v plan outcome true log → HasNoLocks (after_all log v)
  pub released : (v : Tree) (log : List Op) → AreRemoved lock_removals true log → HasNoLocks (after_all log v)
  pub turned_away : (t : Tree) (who : List ℕ) (why : LockRefusal) (swept : Bool) (log : List Op) → HasNoLocks t → IsTurnedAway who t why swept log → swept ≡ true → HasNoLocks (after_all log t)
  pub held : (t : Tree) (who : List ℕ) (holder : Option (List ℕ)) (swept : Bool) (log : List Op) → HasNoLocks t → IsTurnedAway who t (locked.Held holder) swept log → ⊥

-- behind what was done under the locks
joined : (t : Tree) (locking done more : List Op) → done ≡ locking ++ more → HasNoLocks (after_all more (after_all locking t)) → HasNoLocks (after_all done t)
joined t locking done more whole none = subst HasNoLocks (sym (ap (λ l. after_all l t) whole ∙ after_all-append locking more t)) none

-- ---- no lock is held that does not stand

ended-not-held : (ended : Short) (rev : ℕ) (node : Node) (holder : Option (List ℕ)) → outcome_of_ended ended rev node ≡ LockHeld holder → ⊥
ended-not-held shorts.Done rev node holder e = cc
ended-not-held shorts.Fault rev node holder e = cc
ended-not-held (shorts.Unfinished published) rev node holder e = cc
ended-not-held shorts.Memory rev node holder e = cc

read-not-held : (refusal : ReadAnswer) (holder : Option (List ℕ)) → outcome_of_read refusal ≡ LockHeld holder → ⊥
read-not-held (reads.Damaged d) holder e = cc
read-not-held reads.Fault holder e = cc
read-not-held (reads.Limit w) holder e = cc
read-not-held reads.UnknownPath holder e = cc
read-not-held reads.NotARepository holder e = cc
read-not-held (reads.Requirement w) holder e = cc
read-not-held reads.Memory holder e = cc

refusal-not-held : (refusal : Refusal) (holder : Option (List ℕ)) → outcome_of_refusal refusal ≡ LockHeld holder → ⊥
refusal-not-held refusals.UnknownRevision holder e = cc
refusal-not-held refusals.UnknownPath holder e = cc
refusal-not-held (refusals.CopyOver path) holder e = cc
refusal-not-held (refusals.NeedsForce rev) holder e = cc
refusal-not-held (refusals.NothingChanged rev) holder e = cc

plan-not-held : (fault : PlanFault) (holder : Option (List ℕ)) → outcome_of_plan fault ≡ LockHeld holder → ⊥
plan-not-held (plans.Refused e) holder h = refusal-not-held e holder h
plan-not-held (plans.Limit w) holder h = cc
plan-not-held (plans.NameClash p) holder h = cc
plan-not-held (plans.InTheWay p) holder h = cc
plan-not-held (plans.Collision p rev) holder h = cc
plan-not-held plans.Memory holder h = cc

commit-not-held : (fault : CommitFault) (holder : Option (List ℕ)) → outcome_of_commit fault ≡ LockHeld holder → ⊥
commit-not-held (commits.Unread e) holder h = read-not-held e holder h
commit-not-held (commits.Refused f) holder h = plan-not-held f holder h

module _ (laws : LockLaws) where
  lock-not-held : (t : Tree) (who : List ℕ) (why : LockRefusal) (swept : Bool) (log : List Op) (holder : Option (List ℕ)) → HasNoLocks t → IsTurnedAway who t why swept log → outcome_of_lock why ≡ LockHeld holder → ⊥
  lock-not-held t who (locked.Held other) swept log holder none turned e = laws.held t who other swept log none turned
  lock-not-held t who locked.Abandoned swept log holder none turned e = cc
  lock-not-held t who locked.Fault swept log holder none turned e = cc
  lock-not-held t who locked.Memory swept log holder none turned e = cc

  pub not-held : (t : Tree) (command : Command) (who : List ℕ) (answer : Answer) (done : List Op) (holder : Option (List ℕ)) → HasNoLocks t → IsWritten who command t answer done → answer.outcome ≡ LockHeld holder → ⊥
  not-held t command who answer done holder none (is_turned_away why turned outcome) e = lock-not-held t who why answer.swept done holder none turned (sym outcome ∙ e)
  not-held t command who answer done holder none (is_not_planned fault locking releasing locks plan removed outcome whole) e = commit-not-held fault holder (sym outcome ∙ e)
  not-held t command who answer done holder none (is_carried_out planned locking carrying locks plan c whole) e = ended-not-held c.ended planned.rev planned.node holder (sym c.outcome ∙ e)

  pub swept-clean : (t : Tree) (command : Command) (who : List ℕ) (answer : Answer) (done : List Op) → HasNoLocks t → IsWritten who command t answer done → answer.swept ≡ true → HasNoLocks (after_all done t)
  swept-clean t command who answer done none (is_turned_away why turned outcome) swept = laws.turned_away t who why answer.swept done none turned swept
  swept-clean t command who answer done none (is_not_planned fault locking releasing locks plan removed outcome whole) swept =
      joined t locking done releasing whole (laws.released (after_all locking t) releasing (subst (λ b. AreRemoved lock_removals b releasing) swept removed))
  swept-clean t command who answer done none (is_carried_out planned locking carrying locks plan c whole) swept =
      joined t locking done carrying whole (laws.carried (after_all locking t) planned.plan c.ended carrying (subst (λ b. CarriedOut (after_all locking t) planned.plan c.ended b carrying) swept c.carried))

-- ---- what stands bars

pub record BarLaws : Type 0 where
  pub held : (t : Tree) (who : List ℕ) (holder : Option (List ℕ)) (swept : Bool) (log : List Op) → HasNoLocks t → IsTurnedAway who t (locked.Held holder) swept log → ⊥
  pub abandoned_free : (t : Tree) (who : List ℕ) (swept : Bool) (log : List Op) → IsTurnedAway who t locked.Abandoned swept log → HasNoLocks t
  pub free : (who : List ℕ) (t : Tree) (locking : List Op) → AreLocked who t locking → HasNoLocks t
  pub no_journal : (who : List ℕ) (t : Tree) (locking : List Op) → AreLocked who t locking → t journal_path ≡ None

-- why the locks were not taken bars
lock-bars : (why : LockRefusal) → IsBarred (outcome_of_lock why)
lock-bars (locked.Held holder) = tt
lock-bars locked.Abandoned = tt
lock-bars locked.Fault = tt
lock-bars locked.Memory = tt

module _ (laws : BarLaws) where
  lock-holds : (t : Tree) (who : List ℕ) (why : LockRefusal) (swept : Bool) (log : List Op) → (HasNoLocks t → ⊥) → IsTurnedAway who t why swept log → IsHeld (outcome_of_lock why)
  lock-holds t who (locked.Held holder) swept log stands turned = tt
  lock-holds t who locked.Abandoned swept log stands turned = absurd (stands (laws.abandoned_free t who swept log turned))
  lock-holds t who locked.Fault swept log stands turned = tt
  lock-holds t who locked.Memory swept log stands turned = tt

  pub held : (t : Tree) (command : Command) (who : List ℕ) (answer : Answer) (done : List Op) → (HasNoLocks t → ⊥) → IsWritten who command t answer done → IsHeld answer.outcome
  held t command who answer done stands (is_turned_away why turned outcome) = subst IsHeld (sym outcome) (lock-holds t who why answer.swept done stands turned)
  held t command who answer done stands (is_not_planned fault locking releasing locks plan removed outcome whole) = absurd (stands (laws.free who t locking locks))
  held t command who answer done stands (is_carried_out planned locking carrying locks plan c whole) = absurd (stands (laws.free who t locking locks))

  pub barred : (t : Tree) (command : Command) (who : List ℕ) (answer : Answer) (done : List Op) → (t journal_path ≡ None → ⊥) → IsWritten who command t answer done → IsBarred answer.outcome
  barred t command who answer done stands (is_turned_away why turned outcome) = subst IsBarred (sym outcome) (lock-bars why)
  barred t command who answer done stands (is_not_planned fault locking releasing locks plan removed outcome whole) = absurd (stands (laws.no_journal who t locking locks))
  barred t command who answer done stands (is_carried_out planned locking carrying locks plan c whole) = absurd (stands (laws.no_journal who t locking locks))

-- ---- no strays

pub record StrayLaws : Type 0 where
  pub carried : (v : Tree) (plan : Plan) (outcome : Short) (log : List Op) → IsOver outcome → CarriedOut v plan outcome true log → HasNoStrays (after_all log v)
  pub released : (who : List ℕ) (t : Tree) (locking log : List Op) → AreLocked who t locking → HasNoStrays t → AreRemoved lock_removals true log → HasNoStrays (after_all log (after_all locking t))
  pub turned_away : (t : Tree) (who : List ℕ) (why : LockRefusal) (swept : Bool) (log : List Op) → HasNoStrays t → IsTurnedAway who t why swept log → swept ≡ true → HasNoStrays (after_all log t)

is-over : (ended : Short) (rev : ℕ) (node : Node) → IsFinished (outcome_of_ended ended rev node) → IsOver ended
is-over shorts.Done rev node over = tt
is-over shorts.Fault rev node over = tt
is-over (shorts.Unfinished published) rev node over = absurd over
is-over shorts.Memory rev node over = tt

module _ (laws : StrayLaws) where
  no-strays-behind : (t : Tree) (locking done more : List Op) → done ≡ locking ++ more → HasNoStrays (after_all more (after_all locking t)) → HasNoStrays (after_all done t)
  no-strays-behind t locking done more whole none = subst HasNoStrays (sym (ap (λ l. after_all l t) whole ∙ after_all-append locking more t)) none

  pub strays-gone : (t : Tree) (command : Command) (who : List ℕ) (answer : Answer) (done : List Op) → HasNoStrays t → IsWritten who command t answer done → answer.swept ≡ true → IsFinished answer.outcome → HasNoStrays (after_all done t)
  strays-gone t command who answer done none (is_turned_away why turned outcome) swept over = laws.turned_away t who why answer.swept done none turned swept
  strays-gone t command who answer done none (is_not_planned fault locking releasing locks plan removed outcome whole) swept over =
      no-strays-behind t locking done releasing whole (laws.released who t locking releasing locks none (subst (λ b. AreRemoved lock_removals b releasing) swept removed))
  strays-gone t command who answer done none (is_carried_out planned locking carrying locks plan c whole) swept over =
      no-strays-behind t locking done carrying whole
      (laws.carried (after_all locking t) planned.plan c.ended carrying (is-over c.ended planned.rev planned.node (subst IsFinished c.outcome over)) (subst (λ b. CarriedOut (after_all locking t) planned.plan c.ended b carrying) swept c.carried))
