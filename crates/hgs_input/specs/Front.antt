-- What stands in front of an input, and what is read of a front.
use Rattle.std.specs.Prelude.{◌≡◌, ◌⊎◌, ◌+◌, ℕ, List, ◌++◌, length, Ok, Err}
use Rattle.hgs_model.specs.declared.command.NewChange.{NewChange}
use Rattle.hgs_model.specs.Valid.{IsNewChange}
use Rattle.hgs_input.specs.declared.fault.InputFault.{InputFault}
use Rattle.hgs_input.specs.Import.{IsImportText}
use Rattle.hgs_input.specs.Record.{Wording, record_text}
use Rattle.hgs_input.specs.Read.{Rest, Reading, bad_at}

-- what is left of an input
abbrev pub left : ℕ → List ℕ → Rest
left w bytes = record { whole = w; bytes = bytes }

-- a record of this changeset stands in front, and this is left behind it
pub record IsRecordBefore (r : Rest) (c : NewChange) (rest : Rest) : Type 0 where
  pub says : Wording
  pub text : r.bytes ≡ record_text says c ++ rest.bytes
  pub valid : IsNewChange c
  pub whole : rest.whole ≡ r.whole

-- so do the records of these changesets, with their last line
pub record IsImportBefore (r : Rest) (changes : List NewChange) (rest : Rest) : Type 0 where
  pub text : List ℕ
  pub is : r.bytes ≡ text ++ rest.bytes
  pub records : IsImportText text changes
  pub whole : rest.whole ≡ r.whole

pub record SameFault {A : Type 0} (a b : Reading A) : Type 0 where
  pub fault : InputFault
  pub front : a ≡ Err fault
  pub all : b ≡ Err fault

pub record SameRead {A : Type 0} (w : ℕ) (tail : List ℕ) (a b : Reading A) : Type 0 where
  pub value : A
  pub rest : List ℕ
  pub front : a ≡ Ok (value, left w rest)
  pub all : b ≡ Ok (value, left (w + length tail) (rest ++ tail))

-- the front is cut, or both have the same fault, or the same is read of both and the tail is left of the whole besides
abbrev pub Alike : {A : Type 0} → ℕ → List ℕ → Reading A → Reading A → Type 0
Alike w tail a b = (a ≡ Err (bad_at w)) ⊎ (SameFault a b ⊎ SameRead w tail a b)
