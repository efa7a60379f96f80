-- The next file of a commit.
use Rattle.std.proofs.Common.{◌≡◌, ℕ, ◌+◌, List, [], ◌∷◌, ◌++◌, Bool, true, false, ◌&&◌, length, refl, sym, ◌∙◌, ap, arith}
use Rattle.hgs_bytes.specs.Bytes.{is_below}
use Rattle.hgs_index.specs.Manifest.{Row, last_path}
use Rattle.hgs_manifest.specs.Held.{is_row_path}
use Rattle.hgs_model.specs.declared.files.NewFile.{NewFile}
use Rattle.hgs_commit.specs.Files.{can_follow}

both : (a b : Bool) → a && b ≡ true → (a ≡ true) × (b ≡ true)
both true b e = (refl, e)
both false b e = cc

last_is : (rows : List Row) (r : Row) → last_path (rows ++ r ∷ []) ≡ r.path
last_is [] r = refl
last_is (x ∷ []) r = refl
last_is (x ∷ y ∷ rows) r = last_is (y ∷ rows) r

behind : (last : List ℕ) (f : NewFile) (files : List NewFile) → can_follow last (f ∷ files) ≡ true → can_follow f.path files ≡ true
behind last f files h = (both (is_row_path f.path && is_below last f.path) (can_follow f.path files) h).1

pub next_order : (rows new : List Row) (r : Row) (f : NewFile) (rest files : List NewFile) → rest ≡ f ∷ files → r.path ≡ f.path → new ≡ rows ++ r ∷ [] → can_follow (last_path rows) rest ≡ true → can_follow (last_path new) files ≡ true
next_order rows new r f rest files split path grown h =
    let last : last_path new ≡ f.path = ap last_path grown ∙ last_is rows r ∙ path in
    ap (λ p. can_follow p files) last ∙ behind (last_path rows) f files (ap (can_follow (last_path rows)) (sym split) ∙ h)

one_longer : (rows : List Row) (r : Row) → length (rows ++ r ∷ []) ≡ length rows + 1
one_longer [] r = refl
one_longer (x ∷ rows) r = let k = one_longer rows r in omega (arith, k)

pub next_count : (rows new : List Row) (r : Row) (f : NewFile) (rest files : List NewFile) (all : ℕ) → rest ≡ f ∷ files → new ≡ rows ++ r ∷ [] → length rows + length rest ≡ all → length new + length files ≡ all
next_count rows new r f rest files all split grown h =
    let a = ap length split in
    let b : length new ≡ length rows + 1 = ap length grown ∙ one_longer rows r in
    omega (arith, a, b, h)
