-- The text of the working parents and the tracked paths, beside its reader.
use Rattle.std.specs.Prelude.{◌≡◌, ◌⊎◌, ◌<◌, ◌^◌, true, ℕ, List, [], ◌∷◌, ◌++◌, length}
use Rattle.std.specs.Int.{w32, to_be_bytes}
use Rattle.hgs_marks.specs.Dirstate.{Dirstate, Entry, is_state, no_dirstate, tracked}

-- an entry's bytes: its state, twelve that are not looked at, the length of its name in four, and the name
abbrev pub entry_text : Entry → List ℕ → List ℕ
entry_text e between = e.state ∷ (between ++ (to_be_bytes w32 (length e.name) ++ e.name))

-- an entry that these bytes begin with, and what is left behind it
pub record IsFirst (e : Entry) (bytes rest : List ℕ) : Type 0 where
  pub between : List ℕ
  pub twelve : length between ≡ 12
  pub state : is_state e.state ≡ true
  pub size : length e.name < 2 ^ 32
  pub bytes_are : bytes ≡ entry_text e between ++ rest

-- these entries one after another, and nothing else
abbrev pub AreEntriesOf : List Entry → List ℕ → Type 0
AreEntriesOf [] bytes = bytes ≡ []
AreEntriesOf (e ∷ entries) bytes = (rest : List ℕ) × IsFirst e bytes rest × AreEntriesOf entries rest

-- two parents of 20 bytes and entries, of which those are tracked that are not removed
pub record HasParents (d : Dirstate) (text : List ℕ) : Type 0 where
  pub entries : List Entry
  pub rest : List ℕ
  pub p1 : length d.p1 ≡ 20
  pub p2 : length d.p2 ≡ 20
  pub text_is : text ≡ d.p1 ++ (d.p2 ++ rest)
  pub entries_are : AreEntriesOf entries rest
  pub paths : tracked entries ≡ d.paths

-- nothing, which is null parents and no paths, or parents and entries
abbrev pub IsDirstateText : Dirstate → List ℕ → Type 0
IsDirstateText d text = ((text ≡ []) × (no_dirstate ≡ d)) ⊎ HasParents d text
