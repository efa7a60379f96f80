-- What failed in the calls of a session was counted.
use Rattle.std.proofs.Common.{◌≡◌, ◌≤◌, ◌<◌, ℕ, ◌+◌, Bool, List, [], ◌∷◌, refl, ap, subst, arith, inl, inr}
use Rattle.std.specs.Prelude.{is_some, sum_by}
use Rattle.std.specs.List.{FoldsTo}
use Rattle.std.proofs.lemmas.List.Sums.{sum_by-cons}
use Rattle.hgs_answers.specs.Answer.{status_of}
use Rattle.hgs_answers.specs.declared.outcome.Outcome.{Outcome}
use Rattle.hgs_answers.specs.declared.outcome.Outcome.TheVariants as outcomes
use Rattle.hgs_answers.specs.declared.outcome.Published.TheVariants.{No, Yes, Unknown}
use Rattle.hgs_files.specs.Reads.{Rose, greatest}
use Rattle.hgs_questions.specs.Said.{IsStatus}
use Rattle.hgs_session.specs.Calls.{Beginning, Call, IsCall, Stage}
use Rattle.hgs_writer.specs.Refusals.{refusals_of_outcome}
use Rattle.hgs_history.specs.Once.{one_if_failed, one_if_faulted}

-- ---- questions

-- a question's status is none but that of a fault
pub question-weighs : (weight : ℕ → ℕ) → weight 16 ≡ 1 → weight 0 ≡ 0 → weight 12 ≡ 0 → weight 15 ≡ 0 → weight 20 ≡ 0 → weight 23 ≡ 0 → weight 24 ≡ 0 → weight 27 ≡ 0 → weight 30 ≡ 0
    → (status p q : ℕ) → IsStatus status → p ≤ q → q < greatest → (status ≡ 16 → Rose p q) → p + weight status ≤ q
question-weighs weight fault a b c d e f g h status p q is le less rose = by is
  where
    nothing : (n : ℕ) → status ≡ n → weight n ≡ 0 → p + weight status ≤ q
    nothing n s z = let w = ap weight s in omega (arith, w, z, le)

    by : IsStatus status → p + weight status ≤ q
    by (inl s) = nothing 0 s a
    by (inr (inl s)) = nothing 12 s b
    by (inr (inr (inl s))) = nothing 15 s c
    by (inr (inr (inr (inl s)))) = let w = ap weight s in let r = rose s in omega (arith, w, fault, r, less)
    by (inr (inr (inr (inr (inl s))))) = nothing 20 s d
    by (inr (inr (inr (inr (inr (inl s)))))) = nothing 23 s e
    by (inr (inr (inr (inr (inr (inr (inl s))))))) = nothing 24 s f
    by (inr (inr (inr (inr (inr (inr (inr (inl s)))))))) = nothing 27 s g
    by (inr (inr (inr (inr (inr (inr (inr (inr (inl s))))))))) = nothing 30 s h
    by (inr (inr (inr (inr (inr (inr (inr (inr (inr none))))))))) = absurd none

-- ---- calls

outcome-fails : (told : Bool) (o : Outcome) → one_if_failed (status_of o) ≤ refusals_of_outcome told o
outcome-fails told (outcomes.Done rev node) = omega arith
outcome-fails told (outcomes.LockHeld holder) = omega arith
outcome-fails told outcomes.Abandoned = omega arith
outcome-fails told outcomes.UnknownRevision = omega arith
outcome-fails told (outcomes.NothingChanged rev) = omega arith
outcome-fails told (outcomes.Damaged d) = omega arith
outcome-fails told outcomes.Fault = omega arith
outcome-fails told (outcomes.Unfinished No) = omega arith
outcome-fails told (outcomes.Unfinished Yes) = omega arith
outcome-fails told (outcomes.Unfinished Unknown) = omega arith
outcome-fails told (outcomes.Limit w) = omega arith
outcome-fails told (outcomes.Collision path rev) = omega arith
outcome-fails told (outcomes.NameClash path) = omega arith
outcome-fails told (outcomes.NeedsForce rev) = omega arith
outcome-fails told outcomes.Memory = omega arith
outcome-fails told (outcomes.InTheWay path) = omega arith
outcome-fails told outcomes.UnknownPath = omega arith
outcome-fails told (outcomes.Unsettled rev node) = omega arith
outcome-fails told (outcomes.CopyOver path) = omega arith

outcome-faults : (o : Outcome) (p q : ℕ) → p ≤ q → q < greatest → (o ≡ outcomes.Fault → Rose p q) → p + one_if_faulted (status_of o) ≤ q
outcome-faults (outcomes.Done rev node) p q le less rose = omega (arith, le)
outcome-faults (outcomes.LockHeld holder) p q le less rose = omega (arith, le)
outcome-faults outcomes.Abandoned p q le less rose = omega (arith, le)
outcome-faults outcomes.UnknownRevision p q le less rose = omega (arith, le)
outcome-faults (outcomes.NothingChanged rev) p q le less rose = omega (arith, le)
outcome-faults (outcomes.Damaged d) p q le less rose = omega (arith, le)
outcome-faults outcomes.Fault p q le less rose = let r = rose refl in omega (arith, r, less)
outcome-faults (outcomes.Unfinished x) p q le less rose = omega (arith, le)
outcome-faults (outcomes.Limit w) p q le less rose = omega (arith, le)
outcome-faults (outcomes.Collision path rev) p q le less rose = omega (arith, le)
outcome-faults (outcomes.NameClash path) p q le less rose = omega (arith, le)
outcome-faults (outcomes.NeedsForce rev) p q le less rose = omega (arith, le)
outcome-faults outcomes.Memory p q le less rose = omega (arith, le)
outcome-faults (outcomes.InTheWay path) p q le less rose = omega (arith, le)
outcome-faults outcomes.UnknownPath p q le less rose = omega (arith, le)
outcome-faults (outcomes.Unsettled rev node) p q le less rose = omega (arith, le)
outcome-faults (outcomes.CopyOver path) p q le less rose = omega (arith, le)

abbrev pub failed-weighs : Call → ℕ
failed-weighs c = one_if_failed (status_of c.answer.outcome)

abbrev pub faulted-weighs : Call → ℕ
faulted-weighs c = one_if_faulted (status_of c.answer.outcome)

module _ (x : Beginning) where
  -- counts never fall
  pub rises : (old : Stage) (calls : List Call) (last : Stage) → FoldsTo (IsCall x) old calls last → (old.faults ≤ last.faults) × (old.denied ≤ last.denied)
  rises old [] last makes = (subst (λ (s : Stage). old.faults ≤ s.faults) makes (omega arith), subst (λ (s : Stage). old.denied ≤ s.denied) makes (omega arith))
  rises old (c ∷ calls) last makes =
      let r = rises makes.0 calls last makes.2 in
      let f = makes.1.faults in let d = makes.1.denied in let g = r.0 in let e = r.1 in
      (omega (arith, f, g), omega (arith, d, e))

  call-fails : (old : Stage) (c : Call) (new : Stage) → IsCall x old c new → new.faults < greatest → new.denied < greatest → old.faults + old.denied + failed-weighs c ≤ new.faults + new.denied
  call-fails old c new is f d =
      let r = is.refused in
      let a = r.all in let b = r.faults in let e = r.denied in
      let w = outcome-fails (is_some old.log) c.answer.outcome in
      omega (arith, a, b, e, f, d, w)

  pub calls-fail : (old : Stage) (calls : List Call) (last : Stage) → FoldsTo (IsCall x) old calls last → last.faults < greatest → last.denied < greatest → old.faults + old.denied + sum_by failed-weighs calls ≤ last.faults + last.denied
  calls-fail old [] last makes f d = subst (λ (s : Stage). old.faults + old.denied + 0 ≤ s.faults + s.denied) makes (omega arith)
  calls-fail old (c ∷ calls) last makes f d =
      let r = rises makes.0 calls last makes.2 in
      let g = r.0 in let e = r.1 in
      let one = call-fails old c makes.0 makes.1 (omega (arith, f, g)) (omega (arith, d, e)) in
      let rest = calls-fail makes.0 calls last makes.2 f d in
      let s = sum_by-cons failed-weighs c calls in
      omega (arith, one, rest, s)

  pub calls-fault : (old : Stage) (calls : List Call) (last : Stage) → FoldsTo (IsCall x) old calls last → last.faults < greatest → old.faults + sum_by faulted-weighs calls ≤ last.faults
  calls-fault old [] last makes f = subst (λ (s : Stage). old.faults + 0 ≤ s.faults) makes (omega arith)
  calls-fault old (c ∷ calls) last makes f =
      let r = rises makes.0 calls last makes.2 in
      let g = r.0 in
      let one = outcome-faults c.answer.outcome old.faults makes.0.faults makes.1.faults (omega (arith, f, g)) makes.1.fault in
      let rest = calls-fault makes.0 calls last makes.2 f in
      let s = sum_by-cons faulted-weighs c calls in
      omega (arith, one, rest, s)
