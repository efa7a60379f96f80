-- The text of rows, one after another.
use Rattle.std.proofs.Common.{◌≡◌, ℕ, zero, suc, ◌+◌, List, [], ◌∷◌, ◌++◌, drop, Some, sym, ◌∙◌, ap, append_assoc, arith}
use Rattle.std.specs.Prelude.{slice_get}
use Rattle.hgs_index.specs.Manifest.{Row, row_text, manifest_text}

some_is : {A : Type 0} (x y : A) → Some x ≡ Some y → x ≡ y
some_is x y e = cc

drop_next : (rows : List Row) (i : ℕ) (r : Row) → slice_get rows i ≡ Some r → drop i rows ≡ r ∷ drop (suc i) rows
drop_next [] i r e = cc
drop_next (x ∷ rows) zero r e = ap (λ q. q ∷ rows) (some_is x r e)
drop_next (x ∷ rows) (suc i) r e = drop_next rows i r e

pub one_more : (rows : List Row) (i : ℕ) (r : Row) (old mid new : List ℕ) → slice_get rows i ≡ Some r → new ≡ mid ++ row_text r → mid ++ manifest_text (drop i rows) ≡ old ++ manifest_text rows →
    new ++ manifest_text (drop (i + 1) rows) ≡ old ++ manifest_text rows
one_more rows i r old mid new g n h =
    let next : i + 1 ≡ suc i = omega arith in
    ap (λ k. new ++ manifest_text (drop k rows)) next ∙ ap (λ l. l ++ manifest_text (drop (suc i) rows)) n ∙ append_assoc mid (row_text r) (manifest_text (drop (suc i) rows))
    ∙ ap (λ rs. mid ++ manifest_text rs) (sym (drop_next rows i r g)) ∙ h
