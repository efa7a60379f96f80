-- What is left to read after a line.
use Rattle.std.proofs.Common.{◌≡◌, ℕ, ◌+◌, Bool, true, List, [], ◌∷◌, ◌++◌, length, Some, Result, Ok, Err, refl, sym, ◌∙◌, ap, append_assoc}
use Rattle.std.proofs.lemmas.List.{length_push}
use Rattle.hgs_bytes.specs.Bytes.{is_below}
use Rattle.hgs_bytes.specs.Text.{split, lines_of}
use Rattle.hgs_index.specs.declared.texts.ManifestFault.{ManifestFault}
use Rattle.hgs_index.specs.Manifest.{Row, row_of_parts, row_at, with_row, rows_from, last_path}
use Rattle.hgs_index.specs.Theorems.ManifestText.{row_step}

-- rows that stand before
abbrev pub with_front : List Row → Result (List Row) ManifestFault → Result (List Row) ManifestFault
with_front front (Ok rows) = Ok (front ++ rows)
with_front front (Err e) = Err e

last_push : (rs : List Row) (r : Row) → last_path (rs ++ r ∷ []) ≡ r.path
last_push [] r = refl
last_push (q ∷ []) r = refl
last_push (q ∷ s ∷ rs) r = last_push (s ∷ rs) r

front_more : (front : List Row) (r : Row) (x : Result (List Row) ManifestFault) → with_front front (with_row r x) ≡ with_front (front ++ r ∷ []) x
front_more front r (Ok rs) = ap (λ l. Ok l) (sym (append_assoc front (r ∷ []) rs))
front_more front r (Err e) = refl

-- what the rows so far and the lines behind them give
abbrev pub all_of : List Row → List ℕ → Result (List Row) ManifestFault
all_of rows rest = with_front rows (rows_from (length rows) (last_path rows) (lines_of rest))

pub one_row : (rows new : List Row) (r : Row) (rest line after : List ℕ) (whole : Bool) (all : Result (List Row) ManifestFault) →
    all_of rows rest ≡ all → lines_of rest ≡ (line, whole) ∷ lines_of after → whole ≡ true → Some r ≡ row_of_parts (split 0 line) → is_below (last_path rows) r.path ≡ true → new ≡ rows ++ r ∷ [] → all_of new after ≡ all
one_row rows new r rest line after whole all inv lines is_whole read below is =
    let found : row_at (line, whole) ≡ Some r = ap (λ b. row_at (line, b)) is_whole ∙ sym read in
    ap (λ f. all_of f after) is
    ∙ ap (λ p. with_front (rows ++ r ∷ []) (rows_from (length (rows ++ r ∷ [])) p (lines_of after))) (last_push rows r)
    ∙ ap (λ k. with_front (rows ++ r ∷ []) (rows_from k r.path (lines_of after))) (length_push rows r)
    ∙ sym (front_more rows r (rows_from (length rows + 1) r.path (lines_of after)))
    ∙ ap (with_front rows) (sym (row_step (length rows) (last_path rows) (line, whole) (lines_of after) r found below))
    ∙ ap (λ ls. with_front rows (rows_from (length rows) (last_path rows) ls)) (sym lines) ∙ inv
