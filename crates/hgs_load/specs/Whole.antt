-- A file that is read whole, in one read.
use Rattle.std.specs.Prelude.{ℕ, suc, Bool, false, List, length, nat_lt, Option, Some, None, Result, Err, if◌then◌else◌}
use Rattle.hgs_index.specs.declared.kinds.Which.TheVariants.{Part}
use Rattle.hgs_load.specs.declared.answer.ReadAnswer.{ReadAnswer}
use Rattle.hgs_load.specs.declared.answer.ReadAnswer.TheVariants.{Limit}
use Rattle.hgs_load.specs.Asks.{Asks, answer, read}

abbrev pub is_above : ℕ → Option (List ℕ) → Bool
is_above most None = false
is_above most (Some bytes) = nat_lt most (length bytes)

-- a longer file is refused
abbrev pub within : {A : Type 0} → ℕ → (Option (List ℕ) → Result A ReadAnswer) → Option (List ℕ) → Result A ReadAnswer
within most given part = if is_above most part then Err (Limit Part) else given part

-- One byte more than may be is asked for, which tells a longer file.
abbrev pub whole_asks : {A : Type 0} → List ℕ → ℕ → (Option (List ℕ) → Result A ReadAnswer) → Asks (Result A ReadAnswer)
whole_asks path most given = read path 0 (suc most) (λ part. answer (within most given part))
