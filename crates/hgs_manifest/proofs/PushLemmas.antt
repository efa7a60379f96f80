-- Rows that have a text, with one more at the end.
use Rattle.std.proofs.Common.{◌≡◌, ℕ, ◌+◌, Bool, true, false, cond, ◌&&◌, ◌||◌, not, List, [], ◌∷◌, ◌++◌, length, Result, Ok, Err, refl, ◌∙◌, ap, subst}
use Rattle.std.specs.Prelude.{◌==◌}
use Rattle.std.specs.List.{list_any}
use Rattle.hgs_bytes.specs.Bytes.{is_below}
use Rattle.hgs_bytes.specs.Text.{Lacks}
use Rattle.hgs_index.specs.declared.texts.ManifestFault.{ManifestFault}
use Rattle.hgs_index.specs.declared.texts.ManifestFault.TheVariants.{Line, Order}
use Rattle.hgs_index.specs.Manifest.{Row, IsRow, AscendFrom, AreRows, last_path}
use Rattle.hgs_index.specs.Node.{IsNode}
use Rattle.hgs_manifest.specs.Held.{is_without, is_row_path, with_last}

neither : (a b : Bool) → not (a || b) ≡ true → (a ≡ false) × (not b ≡ true)
neither true b h = cc
neither false b h = (refl, h)

both : (a b : Bool) → (a && b) ≡ true → (a ≡ true) × (b ≡ true)
both true b h = (refl, h)
both false b h = cc

off : (b : Bool) → not b ≡ true → b ≡ false
off true h = cc
off false h = refl

lacks : (byte : ℕ) (text : List ℕ) → is_without byte text ≡ true → Lacks byte text
lacks byte [] h = tt
lacks byte (b ∷ text) h =
    let s = neither (b == byte) (list_any (λ x. x == byte) text) h in
    (s.0, lacks byte text s.1)

-- the path of the last of these rows, or this one where there is none
abbrev last_from : List ℕ → List Row → List ℕ
last_from last [] = last
last_from last (r ∷ rows) = last_path (r ∷ rows)

last_next : (r : Row) (rows : List Row) → last_from r.path rows ≡ last_path (r ∷ rows)
last_next r [] = refl
last_next r (s ∷ rows) = refl

first_from : (rows : List Row) → last_from [] rows ≡ last_path rows
first_from [] = refl
first_from (r ∷ rows) = refl

ascend_on : (last : List ℕ) (rows : List Row) (r : Row) → AscendFrom last rows → IsRow r → is_below (last_from last rows) r.path ≡ true → AscendFrom last (rows ++ r ∷ [])
ascend_on last [] r h is below = (is, below, tt)
ascend_on last (x ∷ rows) r h is below = (h.0, h.1, ascend_on x.path rows r h.2 is (ap (λ p. is_below p r.path) (last_next x rows) ∙ below))

is_row : (r : Row) → IsNode r.node → is_row_path r.path ≡ true → IsRow r
is_row r node h =
    let a = both (not (length r.path == 0) && is_without 0 r.path) (is_without 10 r.path) h in
    let b = both (not (length r.path == 0)) (is_without 0 r.path) a.0 in
    record { some_path = off (length r.path == 0) b.0; no_nul = lacks 0 r.path b.1; no_lf = lacks 10 r.path a.1; node = node.size; bytes = node.bytes }

pub pushed-rows : (rows more : List Row) (r : Row) → AreRows rows → IsNode r.node → with_last rows r ≡ Ok more → AreRows more
pushed-rows rows more r are node h = by (is_row_path r.path) refl (is_below (last_path rows) r.path) refl h
  where
    ok_is : (x y : List Row) → (let a : Result (List Row) ManifestFault = Ok x in a) ≡ Ok y → x ≡ y
    ok_is x y e = cc

    by : (a : Bool) → is_row_path r.path ≡ a → (b : Bool) → is_below (last_path rows) r.path ≡ b
        → cond a (cond b (Ok (rows ++ r ∷ [])) (Err (Order (length rows + 1)))) (Err (Line (length rows + 1))) ≡ Ok more → AreRows more
    by true is true below k = subst AreRows (ok_is (rows ++ r ∷ []) more k) (ascend_on [] rows r are (is_row r node is) (ap (λ p. is_below p r.path) (first_from rows) ∙ below))
    by true is false below k = cc
    by false is b below k = cc
