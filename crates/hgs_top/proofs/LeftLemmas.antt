-- How many calls on the files were refused.
use Rattle.std.proofs.Common.{◌≡◌, ◌⊎◌, ◌≤◌, ℕ, ◌+◌, Bool, true, false, List, inl, inr, refl, arith}
use Rattle.std.specs.Prelude.{Option, Some, None, is_some, Result, Ok, Err}
use Rattle.hgs_answers.specs.declared.answer.Answer.{Answer}
use Rattle.hgs_files.specs.Reads.{Rose}
use Rattle.hgs_files.specs.Tree.{Tree, after_all}
use Rattle.hgs_files.specs.declared.op.Op.{Op}
use Rattle.hgs_grown.specs.declared.commits.Stop.{Stop}
use Rattle.hgs_grown.specs.declared.commits.Stop.TheVariants as stops
use Rattle.hgs_grown.specs.declared.commits.Tip.{Tip}
use Rattle.hgs_machine.specs.Refusals.{WereRefused, refusals_of_left}
use Rattle.hgs_model.specs.declared.command.Command.{Command}
use Rattle.hgs_recover.specs.declared.answer.RecoverAnswer.{RecoverAnswer}
use Rattle.hgs_recover.specs.declared.answer.RecoverAnswer.TheVariants as recoveries
use Rattle.hgs_top.specs.Orders.{Grows, LeavesEach, LeftHasCause, TellsGrown, refusals_of_recovered}
use Rattle.hgs_top.specs.declared.ended.Ended.{Ended}
use Rattle.hgs_top.specs.declared.ended.Ended.TheVariants.{Made, Exists, NotMade, NoInput, NoRecord, Refused, Answered, Recovered}
use Rattle.hgs_writer.specs.Refusals.{refusals_of, refusals_with}

-- what no writer answered
pub left_none : (AreRefused : ℕ → Type 0) (old new : Option (List Op)) (start : Tree) (ended : Ended) → LeftHasCause (λ n. ⊥) old new start ended → LeftHasCause AreRefused old new start ended
left_none AreRefused old new start Made h = tt
left_none AreRefused old new start Exists h = tt
left_none AreRefused old new start (NotMade fault) h = tt
left_none AreRefused old new start NoInput h = tt
left_none AreRefused old new start (NoRecord fault) h = tt
left_none AreRefused old new start (Refused refusal) h = tt
left_none AreRefused old new start (Answered command answer) h = absurd h.0
left_none AreRefused old new start (Recovered r) h = absurd h.0

-- calls that were refused, by each file left behind
each_under : (C D : ℕ → Type 0) → ((n : ℕ) → C n → D n) → (old new : Option (List Op)) (start : Tree) (command : Command) (answer : Answer) → LeavesEach C old new start command answer → LeavesEach D old new start command answer
each_under C D f None new start command answer h = h
each_under C D f (Some log) new start command answer h = (h.0, h.1, (h.2.0, h.2.1, f (refusals_with true answer.outcome h.2.0 (after_all log start) h.0) h.2.2))

-- what recovering left over
pub left_refused : (f g d e : ℕ) (swept : Bool) → f ≤ g → d ≤ e → (swept ≡ false → Rose f g ⊎ Rose d e) → WereRefused (refusals_of_left swept) f g d e
left_refused f g d e true le less h = record { failed = 0; wanting = 0; all = omega arith; faults = omega (arith, le); denied = omega (arith, less) }
left_refused f g d e false le less h = by (h refl)
  where
    by : Rose f g ⊎ Rose d e → WereRefused (refusals_of_left false) f g d e
    by (inl rose) = record { failed = 1; wanting = 0; all = omega arith; faults = rose; denied = omega (arith, less) }
    by (inr rose) = record { failed = 0; wanting = 1; all = omega arith; faults = omega (arith, le); denied = rose }

-- what recovering came to
pub recovered_refused : (f g d e : ℕ) (outcome : RecoverAnswer) (swept : Bool) → f ≤ g → d ≤ e → (outcome ≡ recoveries.Fault → Rose f g) → (outcome ≡ recoveries.Unfinished → Rose f g ⊎ Rose d e) → (swept ≡ false → Rose f g ⊎ Rose d e) → WereRefused (refusals_of_recovered outcome swept) f g d e
recovered_refused f g d e recoveries.Fault swept le less fault unfinished left = left_refused f g d e false le less (λ x. inl (fault refl))
recovered_refused f g d e recoveries.Unfinished swept le less fault unfinished left = left_refused f g d e false le less (λ x. unfinished refl)
recovered_refused f g d e recoveries.Restored swept le less fault unfinished left = left_refused f g d e swept le less left
recovered_refused f g d e recoveries.NothingToDo swept le less fault unfinished left = left_refused f g d e swept le less left
recovered_refused f g d e (recoveries.Damaged damage) swept le less fault unfinished left = left_refused f g d e swept le less left
recovered_refused f g d e recoveries.Memory swept le less fault unfinished left = left_refused f g d e swept le less left

-- calls that were refused later were refused
pub refused_later : (f g h d e k : ℕ) → f ≤ g → d ≤ e → (n : ℕ) → WereRefused n g h e k → WereRefused n f h d k
refused_later f g h d e k le less n calls = record { failed = calls.failed; wanting = calls.wanting; all = calls.all; faults = omega (arith, le, calls.faults); denied = omega (arith, less, calls.denied) }

-- so were those of a writer behind calls that changed nothing
pub each_later : (f g h d e k : ℕ) → f ≤ g → d ≤ e → (old new : Option (List Op)) (start : Tree) (command : Command) (answer : Answer) → LeavesEach (λ n. WereRefused n g h e k) old new start command answer → LeavesEach (λ n. WereRefused n f h d k) old new start command answer
each_later f g h d e k le less old new start command answer = each_under (λ n. WereRefused n g h e k) (λ n. WereRefused n f h d k) (refused_later f g h d e k le less) old new start command answer

-- ---- a repository that grows

-- and calls that were refused before
pub refused_before : (n f g h d e i : ℕ) → g ≤ h → e ≤ i → WereRefused n f g d e → WereRefused n f h d i
refused_before n f g h d e i p q calls = record { failed = calls.failed; wanting = calls.wanting; all = calls.all; faults = omega (arith, p, calls.faults); denied = omega (arith, q, calls.denied) }

tells_under : (C D : ℕ → Type 0) → ((n : ℕ) → C n → D n) → (told : Bool) (grown : Result Tip Stop) (log : Option (List Op)) (start : Tree) (status : ℕ) (old new : Option (List ℕ)) → TellsGrown C told grown log start status old new → TellsGrown D told grown log start status old new
tells_under C D f told (Ok tip) log start status old new h = (f (refusals_of_left tip.swept) h.0, h.1)
tells_under C D f told (Err (stops.Memory swept)) log start status old new h = (f (refusals_of_left swept) h.0, h.1)
tells_under C D f told (Err (stops.Answered command answer swept)) log start status old new h = (f (refusals_of told answer + refusals_of_left swept) h.0, h.1)

pub grows_under : (C D : ℕ → Type 0) → ((n : ℕ) → C n → D n) → (seed count : ℕ) (old new : Option (List Op)) (start : Tree) (status : ℕ) (written_old written_new : Option (List ℕ)) → Grows C seed count old new start status written_old written_new → Grows D seed count old new start status written_old written_new
grows_under C D f seed count old new start status written_old written_new h = (h.0, h.1, tells_under C D f (is_some old) h.0 new start status written_old written_new h.2)
