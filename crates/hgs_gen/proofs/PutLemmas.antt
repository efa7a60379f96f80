-- A text that is put at its path.
use Rattle.std.proofs.Common.{◌≡◌, ℕ, zero, suc, ◌<◌, ◌≤◌, true, false, List, [], ◌∷◌, ◌++◌, length, take, drop, get_or, refl, ap, arith}
use Rattle.std.specs.Prelude.{IfSome, None, slice_get, slice_set}
use Rattle.std.specs.List.{insert}
use Rattle.hgs_bytes.specs.Bytes.{same, is_below}
use Rattle.hgs_gen.specs.Generated.{with_text}
use Rattle.hgs_index.specs.declared.kinds.Flag.TheVariants.{Plain}
use Rattle.hgs_model.specs.declared.files.NewFile.{NewFile}

abbrev pub file_of : List ℕ → List ℕ → NewFile
file_of path text = record { path = path; flag = Plain; from = None; body = text }

-- at a place where its path does not stand, a text is put before what is there
pub put_new : (path text : List ℕ) (files : List NewFile) (at : ℕ) (f : NewFile) → at < length files → f ≡ get_or files at f → IfSome (slice_get files at) (λ g. is_below g.path path ≡ false) →
    same f.path path ≡ false → insert files at (file_of path text) ≡ take at files ++ with_text path text (drop at files)
put_new path text [] at f lt is ends other = absurd (omega arith)
put_new path text (g ∷ files) zero f lt is ends other =
    let other_g : same g.path path ≡ false = rw is at other in
    rw (ends, other_g)
put_new path text (g ∷ files) (suc at) f lt is ends other = ap (λ (xs : List NewFile). g ∷ xs) (put_new path text files at f (omega arith) is ends other)

-- behind all files it is put last
pub put_last : (path text : List ℕ) (files : List NewFile) (at : ℕ) → length files ≤ at → insert files at (file_of path text) ≡ take at files ++ with_text path text (drop at files)
put_last path text [] zero le = refl
put_last path text [] (suc at) le = refl
put_last path text (g ∷ files) zero le = absurd (omega arith)
put_last path text (g ∷ files) (suc at) le = ap (λ (xs : List NewFile). g ∷ xs) (put_last path text files at (omega arith))

-- where its path stands, it is put in the place of what is there
pub put_there : (path text : List ℕ) (files : List NewFile) (at : ℕ) (f : NewFile) → at < length files → f ≡ get_or files at f → IfSome (slice_get files at) (λ g. is_below g.path path ≡ false) →
    same f.path path ≡ true → slice_set files at (file_of path text) ≡ take at files ++ with_text path text (drop at files)
put_there path text [] at f lt is ends there = absurd (omega arith)
put_there path text (g ∷ files) zero f lt is ends there =
    let there_g : same g.path path ≡ true = rw is at there in
    rw (ends, there_g)
put_there path text (g ∷ files) (suc at) f lt is ends there = ap (λ (xs : List NewFile). g ∷ xs) (put_there path text files at f (omega arith) is ends there)
