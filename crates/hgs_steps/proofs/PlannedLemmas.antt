-- A command that names a changeset is planned for it, or refused where it is.
use Rattle.std.proofs.Common.{◌≡◌, ℕ, Bool, true, false, ap}
use Rattle.std.specs.Prelude.{Result, Ok, Err, ⊤}
use Rattle.std.specs.Bool.{MatchBool}
use Rattle.hgs_bytes.specs.Answer.{Gives}
use Rattle.hgs_model.specs.Step.{◌>>=◌}
use Rattle.hgs_model.specs.declared.command.Refusal.{Refusal}
use Rattle.hgs_steps.specs.declared.fault.PlanFault.{PlanFault}
use Rattle.hgs_steps.specs.declared.fault.PlanFault.TheVariants.{Refused}
use Rattle.hgs_steps.specs.declared.loaded.Loaded.{Loaded}
use Rattle.hgs_steps.specs.declared.step.Step.{Step}
use Rattle.hgs_steps.specs.Fault.{is_memory}
use Rattle.hgs_steps.specs.Steps.{Accepted, as_fault, planned, step_of}

pub planned-found : (l : Loaded) (r : Result ℕ Refusal) (a : ℕ → Accepted) (rev : ℕ) → as_fault r ≡ Ok rev → step_of l (a rev) ≡ planned l (r >>= λ x. Ok (a x))
planned-found l (Ok x) a rev e = ap (λ (n : ℕ). step_of l (a n)) same
  where
    same : rev ≡ x
    same = cc
planned-found l (Err f) a rev e = absurd no
  where
    no : ⊥
    no = cc

pub planned-refused : (l : Loaded) (r : Result ℕ Refusal) (a : ℕ → Accepted) (fault : PlanFault) → as_fault r ≡ Err fault → planned l (r >>= λ x. Ok (a x)) ≡ Err fault
planned-refused l (Ok x) a fault e = absurd no
  where
    no : ⊥
    no = cc
planned-refused l (Err f) a fault e = ap (λ (x : PlanFault). Err x) same
  where
    same : Refused f ≡ fault
    same = cc

pub gives-refused : (fault : PlanFault) (answer : Result Step PlanFault) → answer ≡ Err fault → Gives is_memory (λ (s : Step). s) (Err fault) answer
gives-refused fault answer e = by (is_memory fault)
  where
    by : (b : Bool) → MatchBool b ⊤ (answer ≡ Err fault)
    by true = tt
    by false = e
