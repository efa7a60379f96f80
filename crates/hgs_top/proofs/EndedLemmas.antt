-- Why a command ends with a status, and which statuses there are.
use Rattle.std.proofs.Common.{◌≡◌, ◌⊎◌, inl, inr, ℕ, zero, suc, List, [], ◌∷◌, ◌++◌, refl, sym, ◌∙◌, subst, arith}
use Rattle.hgs_answers.specs.Answer.{status_of as answer_status}
use Rattle.hgs_answers.specs.declared.outcome.Outcome.{Outcome}
use Rattle.hgs_answers.specs.declared.outcome.Outcome.TheVariants as outcomes
use Rattle.hgs_files.specs.Reads.{Rose}
use Rattle.hgs_files.specs.declared.files.FileFault.TheVariants.{Failed, Memory as NoMemory}
use Rattle.hgs_input.specs.declared.fault.InputFault.TheVariants as inputs
use Rattle.hgs_load.specs.declared.answer.ReadAnswer.TheVariants as reads
use Rattle.hgs_top.specs.declared.ended.Ended.{Ended}
use Rattle.hgs_top.specs.declared.ended.Ended.TheVariants.{Made, Exists, NotMade, NoInput, NoRecord, Refused, Answered, Recovered}
use Rattle.hgs_recover.specs.Answer.{status_of as recover_status}
use Rattle.hgs_recover.specs.declared.answer.RecoverAnswer.{RecoverAnswer}
use Rattle.hgs_recover.specs.declared.answer.RecoverAnswer.TheVariants as recoveries
use Rattle.hgs_top.specs.Orders.{AnswerHasCause, RecoveredHasCause, HasCause, IsNotMade, ended_status}
use Rattle.hgs_top.specs.Run.{IsOneOf}

module _ (f0 f1 d0 d1 : ℕ) where
  answer_fault : (o : Outcome) → AnswerHasCause f0 f1 d0 d1 o → answer_status o ≡ 16 → Rose f0 f1
  answer_fault (outcomes.Done rev node) h e = absurd (omega (arith, e))
  answer_fault (outcomes.LockHeld holder) h e = absurd (omega (arith, e))
  answer_fault outcomes.Abandoned h e = absurd (omega (arith, e))
  answer_fault outcomes.UnknownRevision h e = absurd (omega (arith, e))
  answer_fault (outcomes.NothingChanged rev) h e = absurd (omega (arith, e))
  answer_fault (outcomes.Damaged d) h e = absurd (omega (arith, e))
  answer_fault outcomes.Fault h e = h.fault refl
  answer_fault (outcomes.Unfinished p) h e = absurd (omega (arith, e))
  answer_fault (outcomes.Limit w) h e = absurd (omega (arith, e))
  answer_fault (outcomes.Collision path rev) h e = absurd (omega (arith, e))
  answer_fault (outcomes.NameClash path) h e = absurd (omega (arith, e))
  answer_fault (outcomes.NeedsForce rev) h e = absurd (omega (arith, e))
  answer_fault outcomes.Memory h e = absurd (omega (arith, e))
  answer_fault (outcomes.InTheWay path) h e = absurd (omega (arith, e))
  answer_fault outcomes.UnknownPath h e = absurd (omega (arith, e))
  answer_fault (outcomes.Unsettled rev node) h e = absurd (omega (arith, e))
  answer_fault (outcomes.CopyOver path) h e = absurd (omega (arith, e))

  answer_unfinished : (o : Outcome) → AnswerHasCause f0 f1 d0 d1 o → answer_status o ≡ 17 → Rose f0 f1 ⊎ Rose d0 d1
  answer_unfinished (outcomes.Done rev node) h e = absurd (omega (arith, e))
  answer_unfinished (outcomes.LockHeld holder) h e = absurd (omega (arith, e))
  answer_unfinished outcomes.Abandoned h e = absurd (omega (arith, e))
  answer_unfinished outcomes.UnknownRevision h e = absurd (omega (arith, e))
  answer_unfinished (outcomes.NothingChanged rev) h e = absurd (omega (arith, e))
  answer_unfinished (outcomes.Damaged d) h e = absurd (omega (arith, e))
  answer_unfinished outcomes.Fault h e = absurd (omega (arith, e))
  answer_unfinished (outcomes.Unfinished p) h e = h.unfinished p refl
  answer_unfinished (outcomes.Limit w) h e = absurd (omega (arith, e))
  answer_unfinished (outcomes.Collision path rev) h e = absurd (omega (arith, e))
  answer_unfinished (outcomes.NameClash path) h e = absurd (omega (arith, e))
  answer_unfinished (outcomes.NeedsForce rev) h e = absurd (omega (arith, e))
  answer_unfinished outcomes.Memory h e = absurd (omega (arith, e))
  answer_unfinished (outcomes.InTheWay path) h e = absurd (omega (arith, e))
  answer_unfinished outcomes.UnknownPath h e = absurd (omega (arith, e))
  answer_unfinished (outcomes.Unsettled rev node) h e = absurd (omega (arith, e))
  answer_unfinished (outcomes.CopyOver path) h e = absurd (omega (arith, e))

  answer_input : (o : Outcome) → answer_status o ≡ 18 → ⊥
  answer_input (outcomes.Done rev node) e = omega (arith, e)
  answer_input (outcomes.LockHeld holder) e = omega (arith, e)
  answer_input outcomes.Abandoned e = omega (arith, e)
  answer_input outcomes.UnknownRevision e = omega (arith, e)
  answer_input (outcomes.NothingChanged rev) e = omega (arith, e)
  answer_input (outcomes.Damaged d) e = omega (arith, e)
  answer_input outcomes.Fault e = omega (arith, e)
  answer_input (outcomes.Unfinished p) e = omega (arith, e)
  answer_input (outcomes.Limit w) e = omega (arith, e)
  answer_input (outcomes.Collision path rev) e = omega (arith, e)
  answer_input (outcomes.NameClash path) e = omega (arith, e)
  answer_input (outcomes.NeedsForce rev) e = omega (arith, e)
  answer_input outcomes.Memory e = omega (arith, e)
  answer_input (outcomes.InTheWay path) e = omega (arith, e)
  answer_input outcomes.UnknownPath e = omega (arith, e)
  answer_input (outcomes.Unsettled rev node) e = omega (arith, e)
  answer_input (outcomes.CopyOver path) e = omega (arith, e)

  recovered_fault : (r : RecoverAnswer) → RecoveredHasCause f0 f1 d0 d1 r → recover_status r ≡ 16 → Rose f0 f1
  recovered_fault recoveries.Restored h e = absurd (omega (arith, e))
  recovered_fault recoveries.NothingToDo h e = absurd (omega (arith, e))
  recovered_fault (recoveries.Damaged d) h e = absurd (omega (arith, e))
  recovered_fault recoveries.Fault h e = h.fault refl
  recovered_fault recoveries.Unfinished h e = absurd (omega (arith, e))
  recovered_fault recoveries.Memory h e = absurd (omega (arith, e))

  recovered_unfinished : (r : RecoverAnswer) → RecoveredHasCause f0 f1 d0 d1 r → recover_status r ≡ 17 → Rose f0 f1 ⊎ Rose d0 d1
  recovered_unfinished recoveries.Restored h e = absurd (omega (arith, e))
  recovered_unfinished recoveries.NothingToDo h e = absurd (omega (arith, e))
  recovered_unfinished (recoveries.Damaged d) h e = absurd (omega (arith, e))
  recovered_unfinished recoveries.Fault h e = absurd (omega (arith, e))
  recovered_unfinished recoveries.Unfinished h e = h.unfinished refl
  recovered_unfinished recoveries.Memory h e = absurd (omega (arith, e))

  recovered_input : (r : RecoverAnswer) → recover_status r ≡ 18 → ⊥
  recovered_input recoveries.Restored e = omega (arith, e)
  recovered_input recoveries.NothingToDo e = omega (arith, e)
  recovered_input (recoveries.Damaged d) e = omega (arith, e)
  recovered_input recoveries.Fault e = omega (arith, e)
  recovered_input recoveries.Unfinished e = omega (arith, e)
  recovered_input recoveries.Memory e = omega (arith, e)

  module _ (i0 i1 : ℕ) where
    ends_fault : (ended : Ended) → HasCause f0 f1 d0 d1 i0 i1 ended → ended_status ended ≡ 16 → Rose f0 f1
    ends_fault Made h e = absurd (omega (arith, e))
    ends_fault Exists h e = absurd (omega (arith, e))
    ends_fault (NotMade Failed) h e = h
    ends_fault (NotMade NoMemory) h e = absurd (omega (arith, e))
    ends_fault NoInput h e = absurd (omega (arith, e))
    ends_fault (NoRecord (inputs.BadInput place)) h e = absurd (omega (arith, e))
    ends_fault (NoRecord (inputs.Limit w)) h e = absurd (omega (arith, e))
    ends_fault (NoRecord inputs.Memory) h e = absurd (omega (arith, e))
    ends_fault (Refused (reads.Damaged d)) h e = absurd (omega (arith, e))
    ends_fault (Refused reads.Fault) h e = h refl
    ends_fault (Refused (reads.Limit w)) h e = absurd (omega (arith, e))
    ends_fault (Refused reads.UnknownPath) h e = absurd (omega (arith, e))
    ends_fault (Refused reads.NotARepository) h e = absurd (omega (arith, e))
    ends_fault (Refused (reads.Requirement w)) h e = absurd (omega (arith, e))
    ends_fault (Refused reads.Memory) h e = absurd (omega (arith, e))
    ends_fault (Answered command answer) h e = answer_fault answer.outcome h e
    ends_fault (Recovered r) h e = recovered_fault r.outcome h e

    ends_unfinished : (ended : Ended) → HasCause f0 f1 d0 d1 i0 i1 ended → ended_status ended ≡ 17 → Rose f0 f1 ⊎ Rose d0 d1
    ends_unfinished Made h e = absurd (omega (arith, e))
    ends_unfinished Exists h e = absurd (omega (arith, e))
    ends_unfinished (NotMade Failed) h e = absurd (omega (arith, e))
    ends_unfinished (NotMade NoMemory) h e = absurd (omega (arith, e))
    ends_unfinished NoInput h e = absurd (omega (arith, e))
    ends_unfinished (NoRecord (inputs.BadInput place)) h e = absurd (omega (arith, e))
    ends_unfinished (NoRecord (inputs.Limit w)) h e = absurd (omega (arith, e))
    ends_unfinished (NoRecord inputs.Memory) h e = absurd (omega (arith, e))
    ends_unfinished (Refused (reads.Damaged d)) h e = absurd (omega (arith, e))
    ends_unfinished (Refused reads.Fault) h e = absurd (omega (arith, e))
    ends_unfinished (Refused (reads.Limit w)) h e = absurd (omega (arith, e))
    ends_unfinished (Refused reads.UnknownPath) h e = absurd (omega (arith, e))
    ends_unfinished (Refused reads.NotARepository) h e = absurd (omega (arith, e))
    ends_unfinished (Refused (reads.Requirement w)) h e = absurd (omega (arith, e))
    ends_unfinished (Refused reads.Memory) h e = absurd (omega (arith, e))
    ends_unfinished (Answered command answer) h e = answer_unfinished answer.outcome h e
    ends_unfinished (Recovered r) h e = recovered_unfinished r.outcome h e

    ends_input : (ended : Ended) → HasCause f0 f1 d0 d1 i0 i1 ended → ended_status ended ≡ 18 → Rose i0 i1
    ends_input Made h e = absurd (omega (arith, e))
    ends_input Exists h e = absurd (omega (arith, e))
    ends_input (NotMade Failed) h e = absurd (omega (arith, e))
    ends_input (NotMade NoMemory) h e = absurd (omega (arith, e))
    ends_input NoInput h e = h
    ends_input (NoRecord (inputs.BadInput place)) h e = absurd (omega (arith, e))
    ends_input (NoRecord (inputs.Limit w)) h e = absurd (omega (arith, e))
    ends_input (NoRecord inputs.Memory) h e = absurd (omega (arith, e))
    ends_input (Refused (reads.Damaged d)) h e = absurd (omega (arith, e))
    ends_input (Refused reads.Fault) h e = absurd (omega (arith, e))
    ends_input (Refused (reads.Limit w)) h e = absurd (omega (arith, e))
    ends_input (Refused reads.UnknownPath) h e = absurd (omega (arith, e))
    ends_input (Refused reads.NotARepository) h e = absurd (omega (arith, e))
    ends_input (Refused (reads.Requirement w)) h e = absurd (omega (arith, e))
    ends_input (Refused reads.Memory) h e = absurd (omega (arith, e))
    ends_input (Answered command answer) h e = absurd (answer_input answer.outcome e)
    ends_input (Recovered r) h e = absurd (recovered_input r.outcome e)

-- the status of a run that says what a command came to
module _ (status : ℕ) (ended : Ended) (said : IsOneOf (19 ∷ 30 ∷ ended_status ended ∷ []) status) where
  of_ended : (n : ℕ) → status ≡ n → (n ≡ 19 → ⊥) → (n ≡ 30 → ⊥) → ended_status ended ≡ n
  of_ended n e sink memory = by said
    where
      by : IsOneOf (19 ∷ 30 ∷ ended_status ended ∷ []) status → ended_status ended ≡ n
      by (inl s) = absurd (sink (sym e ∙ s))
      by (inr (inl s)) = absurd (memory (sym e ∙ s))
      by (inr (inr (inl s))) = sym s ∙ e
      by (inr (inr (inr none))) = absurd none

  module _ (f0 f1 d0 d1 i0 i1 : ℕ) (cause : HasCause f0 f1 d0 d1 i0 i1 ended) where
    pub says_fault : status ≡ 16 → Rose f0 f1
    says_fault e = ends_fault f0 f1 d0 d1 i0 i1 ended cause (of_ended 16 e (λ n. omega (arith, n)) (λ n. omega (arith, n)))

    pub says_unfinished : status ≡ 17 → Rose f0 f1 ⊎ Rose d0 d1
    says_unfinished e = ends_unfinished f0 f1 d0 d1 i0 i1 ended cause (of_ended 17 e (λ n. omega (arith, n)) (λ n. omega (arith, n)))

    pub says_no_input : status ≡ 18 → Rose i0 i1
    says_no_input e = ends_input f0 f1 d0 d1 i0 i1 ended cause (of_ended 18 e (λ n. omega (arith, n)) (λ n. omega (arith, n)))

-- ---- the statuses

abbrev pub statuses : List ℕ
statuses = 0 ∷ 1 ∷ 10 ∷ 11 ∷ 12 ∷ 13 ∷ 14 ∷ 15 ∷ 16 ∷ 17 ∷ 18 ∷ 19 ∷ 20 ∷ 21 ∷ 22 ∷ 23 ∷ 24 ∷ 25 ∷ 26 ∷ 27 ∷ 30 ∷ 31 ∷ 32 ∷ 34 ∷ []

-- a number at this place of a list
abbrev pub IsAt : ℕ → List ℕ → ℕ → Type 0
IsAt k [] n = ⊥
IsAt zero (x ∷ xs) n = n ≡ x
IsAt (suc k) (x ∷ xs) n = IsAt k xs n

is_one : (k : ℕ) (l : List ℕ) (n : ℕ) → IsAt k l n → IsOneOf l n
is_one k [] n h = absurd h
is_one zero (x ∷ xs) n h = inl h
is_one (suc k) (x ∷ xs) n h = inr (is_one k xs n h)

answer_among : (o : Outcome) → IsOneOf statuses (answer_status o)
answer_among (outcomes.Done rev node) = is_one 0 statuses 0 refl
answer_among (outcomes.LockHeld holder) = is_one 2 statuses 10 refl
answer_among outcomes.Abandoned = is_one 3 statuses 11 refl
answer_among outcomes.UnknownRevision = is_one 4 statuses 12 refl
answer_among (outcomes.NothingChanged rev) = is_one 5 statuses 13 refl
answer_among (outcomes.Damaged d) = is_one 7 statuses 15 refl
answer_among outcomes.Fault = is_one 8 statuses 16 refl
answer_among (outcomes.Unfinished p) = is_one 9 statuses 17 refl
answer_among (outcomes.Limit w) = is_one 12 statuses 20 refl
answer_among (outcomes.Collision path rev) = is_one 13 statuses 21 refl
answer_among (outcomes.NameClash path) = is_one 14 statuses 22 refl
answer_among (outcomes.NeedsForce rev) = is_one 18 statuses 26 refl
answer_among outcomes.Memory = is_one 20 statuses 30 refl
answer_among (outcomes.InTheWay path) = is_one 23 statuses 34 refl
answer_among outcomes.UnknownPath = is_one 15 statuses 23 refl
answer_among (outcomes.Unsettled rev node) = is_one 21 statuses 31 refl
answer_among (outcomes.CopyOver path) = is_one 22 statuses 32 refl

recovered_among : (r : RecoverAnswer) → IsOneOf statuses (recover_status r)
recovered_among recoveries.Restored = is_one 0 statuses 0 refl
recovered_among recoveries.NothingToDo = is_one 1 statuses 1 refl
recovered_among (recoveries.Damaged d) = is_one 7 statuses 15 refl
recovered_among recoveries.Fault = is_one 8 statuses 16 refl
recovered_among recoveries.Unfinished = is_one 9 statuses 17 refl
recovered_among recoveries.Memory = is_one 20 statuses 30 refl

ended_among : (ended : Ended) → IsOneOf statuses (ended_status ended)
ended_among Made = is_one 0 statuses 0 refl
ended_among Exists = is_one 17 statuses 25 refl
ended_among (NotMade Failed) = is_one 8 statuses 16 refl
ended_among (NotMade NoMemory) = is_one 20 statuses 30 refl
ended_among NoInput = is_one 10 statuses 18 refl
ended_among (NoRecord (inputs.BadInput place)) = is_one 6 statuses 14 refl
ended_among (NoRecord (inputs.Limit w)) = is_one 12 statuses 20 refl
ended_among (NoRecord inputs.Memory) = is_one 20 statuses 30 refl
ended_among (Refused (reads.Damaged d)) = is_one 7 statuses 15 refl
ended_among (Refused reads.Fault) = is_one 8 statuses 16 refl
ended_among (Refused (reads.Limit w)) = is_one 12 statuses 20 refl
ended_among (Refused reads.UnknownPath) = is_one 15 statuses 23 refl
ended_among (Refused reads.NotARepository) = is_one 16 statuses 24 refl
ended_among (Refused (reads.Requirement w)) = is_one 19 statuses 27 refl
ended_among (Refused reads.Memory) = is_one 20 statuses 30 refl
ended_among (Answered command answer) = answer_among answer.outcome
ended_among (Recovered r) = recovered_among r.outcome

pub says_status : (status : ℕ) (ended : Ended) → IsOneOf (19 ∷ 30 ∷ ended_status ended ∷ []) status → IsOneOf statuses status
says_status status ended (inl s) = let P : ℕ → Type 0 = λ n. IsOneOf statuses n in subst P (sym s) (is_one 11 statuses 19 refl)
says_status status ended (inr (inl s)) = let P : ℕ → Type 0 = λ n. IsOneOf statuses n in subst P (sym s) (is_one 20 statuses 30 refl)
says_status status ended (inr (inr (inl s))) = let P : ℕ → Type 0 = λ n. IsOneOf statuses n in subst P (sym s) (ended_among ended)
says_status status ended (inr (inr (inr none))) = absurd none

-- one more status among them
among-more : (xs ys : List ℕ) (x n : ℕ) → IsOneOf (xs ++ ys) n → IsOneOf (xs ++ x ∷ ys) n
among-more [] ys x n h = inr h
among-more (y ∷ xs) ys x n (inl h) = inl h
among-more (y ∷ xs) ys x n (inr h) = inr (among-more xs ys x n h)

pub with_findings : (n : ℕ) → IsOneOf statuses n → IsOneOf (0 ∷ 1 ∷ 10 ∷ 11 ∷ 12 ∷ 13 ∷ 14 ∷ 15 ∷ 16 ∷ 17 ∷ 18 ∷ 19 ∷ 20 ∷ 21 ∷ 22 ∷ 23 ∷ 24 ∷ 25 ∷ 26 ∷ 27 ∷ 29 ∷ 30 ∷ 31 ∷ 32 ∷ 34 ∷ []) n
with_findings n h = among-more (0 ∷ 1 ∷ 10 ∷ 11 ∷ 12 ∷ 13 ∷ 14 ∷ 15 ∷ 16 ∷ 17 ∷ 18 ∷ 19 ∷ 20 ∷ 21 ∷ 22 ∷ 23 ∷ 24 ∷ 25 ∷ 26 ∷ 27 ∷ []) (30 ∷ 31 ∷ 32 ∷ 34 ∷ []) 29 n h

pub not-made : (ended : Ended) → (ended ≡ Made → ⊥) → IsNotMade ended
not-made Made h = h refl
not-made Exists h = tt
not-made (NotMade fault) h = tt
not-made NoInput h = tt
not-made (NoRecord fault) h = tt
not-made (Refused refusal) h = tt
not-made (Answered command answer) h = tt
not-made (Recovered r) h = tt
