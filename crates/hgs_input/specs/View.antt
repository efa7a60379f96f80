-- What contracts see of reading.
use Rattle.std.specs.Prelude.{◌≡◌, ◌==◌, ℕ, suc, List, [], ◌∷◌, Result, Ok, Err, ⊤, if◌then◌else◌, true, false}
use Rattle.std.specs.Bool.{MatchBool}
use Rattle.hgs_input.specs.declared.fault.InputFault.{InputFault}
use Rattle.hgs_input.specs.declared.line.FileLine.{FileLine as CodeFileLine}
use Rattle.hgs_input.specs.declared.head.Head.{Head as CodeHead}
use Rattle.hgs_input.specs.Read.{Rest, Reading, FileLine, Head, is_memory}
use Rattle.hgs_bytes.specs.Text.{ascends}
use Rattle.hgs_model.specs.declared.files.NewFile.{NewFile}
use Rattle.hgs_model.specs.Valid.{has_directory, new_paths}
use Rattle.hgs_changelog.specs.View.{view_when}
use Rattle.std.specs.Option.{option_map}

-- The call read what the definition gives and left this rest, or answered its fault, or found no memory.
abbrev pub Reads : {A B : Type 0} → (A → B) → Result A InputFault → Rest → Reading B → Type 0
Reads view (Ok x) rest answer = answer ≡ Ok (view x, rest)
Reads view (Err e) rest answer = MatchBool (is_memory e) ⊤ (answer ≡ Err e)

abbrev pub view_line : CodeFileLine → FileLine
view_line l = record { flag = l.flag; size = l.size; path = l.path.now }

-- how many bytes two texts begin with that are the same
abbrev pub common : List ℕ → List ℕ → ℕ
common [] b = 0
common (x ∷ a) [] = 0
common (x ∷ a) (y ∷ b) = if x == y then suc (common a b) else 0

abbrev pub view_head : CodeHead → Head
view_head h = record { parents = h.parents; user = h.user.now; date = view_when h.date; phase = h.phase; bookmark = option_map (λ x. x.now) h.bookmark; branch = option_map (λ x. x.now) h.branch }

-- files whose paths ascend, and none of whose paths is a directory of another
pub record IsTree (files : List NewFile) : Type 0 where
  pub ordered : ascends (new_paths files) ≡ true
  pub apart : has_directory (new_paths files) ≡ false
