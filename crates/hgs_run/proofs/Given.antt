-- The script that an input gives, and what was run of it.
use Rattle.std.proofs.Common.{◌≡◌, ◌<◌, ◌+◌, ℕ, List, ◌++◌, length, take, Option, Some, None, IfSome, Result, Ok, Err, subst, sym, refl, ap, ◌∙◌, inl, inr}
use Rattle.std.specs.Prelude.{IsOk}
use Rattle.std.proofs.Math.Logic.{∥∥₁_map}
use Rattle.hgs_bytes.specs.Answer.{Gives}
use Rattle.hgs_files.specs.declared.op.Op.{Op}
use Rattle.hgs_files.specs.declared.yard.Left.{Left}
use Rattle.hgs_files.specs.declared.yard.Left.TheVariants.{Whole, Parts}
use Rattle.hgs_files.specs.Tree.{Tree}
use Rattle.hgs_input.specs.Read.{is_memory}
use Rattle.hgs_input.specs.Record.{most_input}
use Rattle.hgs_input.specs.declared.fault.InputFault.{InputFault}
use Rattle.hgs_script.specs.Read.{read_script}
use Rattle.hgs_script.specs.declared.job.Job.{Job}
use Rattle.hgs_script.specs.declared.result.SessionResult.{SessionResult}
use Rattle.hgs_script.specs.declared.script.Script.{Script}
use Rattle.hgs_session.specs.Calls.{Beginning, Stage}
use Rattle.hgs_session.specs.Session.{BeginsOver, Comes, EndState, IsWhole}
use Rattle.hgs_session.specs.declared.session.NoResult.{NoResult}
use Rattle.hgs_top.specs.Run.{EndsLine, memory_line}
use Rattle.hgs_top.specs.Theorems.Inputs.{looked_at_decides}
use Rattle.hgs_run.specs.Session.{GaveScript, RunsScript, TellsSession}

pub gave_script : ((front more : List ℕ) → most_input < length front → read_script (front ++ more) ≡ read_script front) → (left : Option (List ℕ)) (bytes : List ℕ) (given : Result Script InputFault) → IfSome left (λ all. bytes ≡ take (most_input + 1) all)
    → Gives is_memory (λ s. s) given (read_script bytes) → GaveScript left given
gave_script long None bytes given e h = tt
gave_script long (Some all) bytes given e h =
    let P : Result Script InputFault → Type 0 = λ r. Gives is_memory (λ s. s) given r in
    subst P (ap read_script e ∙ looked_at_decides read_script long all) h

-- over files that are as they were
pub ran_over : (Leaves : Option (List Op) → Tree → Stage → Type 0) (Counts : Stage → List EndState → Type 0) (Kept : Type 0) (jobs : List (List Job)) (log then : Option (List Op)) (start then_start : Tree) (faults denied status : ℕ) (old new : Option (List ℕ)) → then ≡ log → then_start ≡ start
    → ∥ RunsScript jobs then then_start faults denied status old new (Leaves then then_start) Counts Kept ∥₁ → ∥ RunsScript jobs log start faults denied status old new (Leaves log start) Counts Kept ∥₁
ran_over Leaves Counts Kept jobs log then start then_start faults denied status old new e s h =
    subst (λ t. ∥ RunsScript jobs log t faults denied status old new (Leaves log t) Counts Kept ∥₁) s (subst (λ l. ∥ RunsScript jobs l then_start faults denied status old new (Leaves l then_start) Counts Kept ∥₁) e h)

-- what a session came to, with what is said of it
pub ran_so : (Leaves : Stage → Type 0) (Counts : Stage → List EndState → Type 0) (Kept : Type 0) (jobs : List (List Job)) (log : Option (List Op)) (start : Tree) (faults denied status : ℕ) (old new : Option (List ℕ)) (told : Result SessionResult NoResult) → ∥ ((x : Beginning) × BeginsOver x jobs log start faults denied × Comes x Leaves Counts told) ∥₁
    → (IsOk told → Kept) → TellsSession told status old new → ∥ RunsScript jobs log start faults denied status old new Leaves Counts Kept ∥₁
ran_so Leaves Counts Kept jobs log start faults denied status old new told comes whole tells = ∥∥₁_map comes (λ k. record { first = k.0; over = k.1; told = told; comes = k.2; whole = whole; tells = tells })

-- ---- the status, where the ends could not be put together

memory_said : (said status : ℕ) (old new : Option (List ℕ)) → status ≡ 30 → EndsLine memory_line 30 said old new → EndsLine memory_line 30 status old new
memory_said said status old new e (inl h) = inl (e, h.1)
memory_said said status old new e (inr (inl h)) = inr (inl (e, h.1))
memory_said said status old new e (inr (inr h)) = inr (inr (inr e, h.1))

pub status_tells : {Y A Rest Front W R : Type 0} (left : Left Y A Rest Front W R) (told : Result SessionResult NoResult) (said status : ℕ) (old new : Option (List ℕ)) → (IsOk told → IsWhole left) → (IsWhole left → status ≡ said) → ((IsWhole left → ⊥) → status ≡ 30)
    → TellsSession told said old new → TellsSession told status old new
status_tells (Whole y) told said status old new whole same parts h = subst (λ s. TellsSession told s old new) (sym (same tt)) h
status_tells (Parts w rs) (Ok r) said status old new whole same parts h = absurd (whole refl)
status_tells (Parts w rs) (Err e) said status old new whole same parts h = memory_said said status old new (parts (λ x. x)) h
