-- The changesets that a number gives. The numbers that follow it are those of Knuth's linear congruential generator MMIX
-- (The Art of Computer Programming, volume 2, 3.3.4).
use Rattle.std.specs.Prelude.{ℕ, zero, suc, ◌+◌, ◌*◌, ◌/◌, ◌%◌, ◌^◌, List, [], ◌∷◌, ◌++◌, None, codes, decimal, pos, if◌then◌else◌}
use Rattle.hgs_bytes.specs.Bytes.{same, is_below}
use Rattle.hgs_index.specs.declared.kinds.Flag.TheVariants.{Plain}
use Rattle.hgs_model.specs.declared.command.NewChange.{NewChange}
use Rattle.hgs_model.specs.declared.files.NewFile.{NewFile}
use Rattle.hgs_model.specs.declared.phase.Phase.TheVariants.{Draft}

-- the number after this one
abbrev pub next_number : ℕ → ℕ
next_number x = (x * 6364136223846793005 + 1442695040888963407) % 2 ^ 64

-- the number of so many steps
abbrev pub number_after : ℕ → ℕ → ℕ
number_after seed zero = seed
number_after seed (suc n) = next_number (number_after seed n)

-- the file that a number names: one of twenty in one of ten directories
abbrev pub path_of : ℕ → List ℕ
path_of x = codes "d" ++ decimal (x / 2 ^ 33 % 10) ++ codes "/f" ++ decimal (x / 2 ^ 40 % 20)

-- the text that a changeset gives it
abbrev pub text_of : ℕ → ℕ → List ℕ
text_of made x = decimal made ++ 32 ∷ (decimal x ++ 10 ∷ [])

-- the files with this text at this path, in the order of paths
abbrev pub with_text : List ℕ → List ℕ → List NewFile → List NewFile
with_text path text [] = record { path = path; flag = Plain; from = None; body = text } ∷ []
with_text path text (f ∷ files) =
    if is_below f.path path then f ∷ with_text path text files
    else if same f.path path then record { path = path; flag = Plain; from = None; body = text } ∷ files
    else record { path = path; flag = Plain; from = None; body = text } ∷ f ∷ files

-- the files after so many changesets: each writes one, and the others stay
abbrev pub files_after : ℕ → ℕ → List NewFile
files_after seed zero = []
files_after seed (suc n) = with_text (path_of (number_after seed (suc n))) (text_of n (number_after seed (suc n))) (files_after seed n)

-- the one before, by its number
abbrev pub parents_of : ℕ → List (List ℕ)
parents_of zero = []
parents_of (suc n) = decimal n ∷ []

-- the changeset behind so many others, with this tree
abbrev pub change_of : ℕ → List NewFile → NewChange
change_of made files = record {
  parents = parents_of made;
  user = codes "gen";
  seconds = pos (60 * made);
  offset = pos 0;
  phase = Draft;
  bookmark = None;
  branch = None;
  description = codes "c" ++ decimal made;
  files = files;
}

-- the changeset behind so many others
abbrev pub generated : ℕ → ℕ → NewChange
generated seed made = change_of made (files_after seed (suc made))
