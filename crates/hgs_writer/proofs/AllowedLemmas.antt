-- What is asked of the files is what a call may leave.
use Rattle.std.proofs.Common.{◌≡◌, ℕ, List, [], ◌++◌, refl, sym, subst, inl, append_assoc, append-nil, Bool, false}
use Rattle.std.specs.Prelude.{IfSome, Option, Some, None, Result, Ok, Err}
use Rattle.hgs_answers.specs.declared.answer.Answer.{Answer}
use Rattle.hgs_commit.specs.declared.fault.CommitFault.{CommitFault}
use Rattle.hgs_commit.specs.declared.fault.CommitFault.TheVariants.{Refused}
use Rattle.hgs_files.specs.declared.op.Op.{Op}
use Rattle.hgs_files.specs.Files.{GoesOn}
use Rattle.hgs_files.specs.Tree.{Tree, after_all}
use Rattle.hgs_files.specs.Theorems.TreeLemmas.{after_all-append}
use Rattle.hgs_machine.specs.Carry.{MayCarry, tree_now}
use Rattle.hgs_machine.specs.Course.{CarriedOut, lock_removals}
use Rattle.hgs_machine.specs.Locks.{AreLocked, AreRemoved, MayLock, MayRelease, TakesLocks}
use Rattle.hgs_machine.specs.Theorems.LogLemmas.{behind}
use Rattle.hgs_machine.specs.declared.ended.Short.{Short}
use Rattle.hgs_machine.specs.declared.locks.NotLocked.{NotLocked}
use Rattle.hgs_model.specs.declared.command.Command.{Command}
use Rattle.hgs_steps.specs.declared.fault.PlanFault.TheVariants.{Memory}
use Rattle.hgs_writer.specs.Begun.{Begins, has_no_locks, has_no_plan as refused_without_plan}
use Rattle.hgs_writer.specs.declared.begin.Begun.TheVariants.{Ready}
use Rattle.hgs_writer.specs.declared.plan.Planned.{Planned}
use Rattle.hgs_writer.specs.Outcomes.{outcome_of_commit, outcome_of_ended, outcome_of_lock}
use Rattle.hgs_writer.specs.Planning.{Plans, has_no_memory}
use Rattle.hgs_writer.specs.Written.{MayWrite, has_no_plan, has_plan}
use Rattle.hgs_writer.proofs.WrittenLemmas.{and_told}

-- the locks: behind them there may be no memory for a plan
pub may-lock : (who : List ℕ) (command : Command) (log : Option (List Op)) (allows : List Op → Type 0) (start : Tree) → MayWrite who command log allows start → MayLock who log allows start
may-lock who command log allows start h = λ l told result more taken. locks l told result more taken
  where
    locks : (l : List Op) → log ≡ Some l → (result : Result Unit NotLocked) (more : List Op) → TakesLocks who (after_all l start) result more → allows (l ++ more)
    locks l told (Ok x) more taken =
        let fault = Refused Memory in
        let answer : Answer = record { outcome = outcome_of_commit fault; swept = false } in
        h l told answer None more (has_no_plan more (refused_without_plan fault more [] taken has_no_memory (inl (inl refl)) refl (sym (append-nil more))))
    locks l told (Err refusal) more taken =
        let answer : Answer = record { outcome = outcome_of_lock refusal.why; swept = refusal.swept } in
        h l told answer None more (has_no_plan more (has_no_locks refusal.why taken refl))

-- their removals, where nothing was planned
pub may-release : (A : Tree → List Op → Type 0) (who : List ℕ) (command : Command) (fault : CommitFault) (before mid same : Option (List Op)) (start start_same : Tree) → same ≡ mid → start_same ≡ start → MayWrite who command before (A start) start
    → GoesOn before mid (AreLocked who (tree_now before start)) → IfSome same (λ l. Plans command (after_all l start_same) (Err fault)) → MayRelease same (A start_same)
may-release A who command fault before mid same start start_same still is takes locked plans =
    let S : Tree → List Op → Type 0 = λ t a. AreLocked who t a × Plans command (after_all a t) (Err fault) in
    let h = and_told before mid same start start_same (λ t. AreLocked who t) S (λ t. Plans command t (Err fault)) still is (λ t a l p. (l, p)) locked plans in
    subst (λ u. MayRelease same (A u)) (sym is)
    (behind before same (S (tree_now before start)) (λ log. (swept : Bool) (more : List Op) → AreRemoved lock_removals swept more → A start (log ++ more)) h
    (λ old a told s swept more removed.
    let now = subst (λ b. S (tree_now b start) a) told s in
    let answer : Answer = record { outcome = outcome_of_commit fault; swept = swept } in
    subst (A start) (sym (append_assoc old a more)) (takes old told answer None (a ++ more) (has_no_plan (a ++ more) (refused_without_plan fault a more now.0 now.1 removed refl refl)))))

-- what was planned, under the locks
pub may-carry : (A : Tree → List Op → Type 0) (who : List ℕ) (command : Command) (planned : Planned) (before now : Option (List Op)) (start start_now : Tree) → start_now ≡ start → MayWrite who command before (A start) start
    → GoesOn before now (Begins who command (tree_now before start) (Ready planned)) → MayCarry now (A start_now) start_now planned.plan
may-carry A who command planned before now start start_now is takes begun =
    subst (λ u. MayCarry now (A u) u planned.plan) (sym is)
    (behind before now (Begins who command (tree_now before start) (Ready planned)) (λ log. (outcome : Short) (swept : Bool) (more : List Op) → CarriedOut (after_all log start) planned.plan outcome swept more → A start (log ++ more)) begun
    (λ old a told b outcome swept more carried.
    let now = subst (λ o. Begins who command (tree_now o start) (Ready planned) a) told b in
    let answer : Answer = record { outcome = outcome_of_ended outcome planned.rev planned.node; swept = swept } in
    let there = subst (λ u. CarriedOut u planned.plan outcome swept more) (after_all-append old a start) carried in
    subst (A start) (sym (append_assoc old a more))
    (takes old told answer (Some (planned.rev, planned.node)) (a ++ more) (has_plan planned a more (a ++ more) now.0 now.1 (record { ended = outcome; carried = there; outcome = refl }) refl))))
