-- What is said of bytes that the system gives.
use Rattle.std.specs.Prelude.{◌≡◌, ℕ, ◌≤◌, List, ◌++◌, length, Option, Some, None, Result, Ok, Err}

-- so many bytes are added at the end, whichever they are
abbrev pub Adds : ℕ → ℕ → List ℕ → List ℕ → Type 0
Adds k most old new = (k ≤ most) × (more : List ℕ) × (new ≡ old ++ more) × (length more ≡ k)

-- as many bytes are added as are answered, at most so many, and none by what fails
abbrev pub AddsAnswered : {E : Type 0} → ℕ → List ℕ → List ℕ → Result ℕ E → Type 0
AddsAnswered most old new (Ok k) = Adds k most old new
AddsAnswered most old new (Err e) = new ≡ old

-- the same where the file may be absent, which adds none
abbrev pub AddsPart : {E : Type 0} → ℕ → List ℕ → List ℕ → Result (Option ℕ) E → Type 0
AddsPart most old new (Ok (Some k)) = Adds k most old new
AddsPart most old new (Ok None) = new ≡ old
AddsPart most old new (Err e) = new ≡ old
