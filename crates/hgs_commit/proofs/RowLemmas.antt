-- Rows whose paths ascend, and what is passed of them.
use Rattle.std.proofs.Common.{◌≡◌, ℕ, List, [], ◌∷◌, Bool, true, false, cond, Some, None, refl, sym, ◌∙◌, ap, subst}
use Rattle.std.specs.Prelude.{option_map}
use Rattle.std.proofs.lemmas.Cmp.{tied_itself}
use Rattle.std.specs.Cmp.Lexicographic.{bytes_decides, nat_list_cmp_total}
use Rattle.std.specs.Ordering.{is_lt}
use Rattle.hgs_bytes.specs.Bytes.{same, is_below}
use Rattle.hgs_index.specs.Manifest.{Row, AscendFrom}
use Rattle.hgs_manifest.specs.Held.{found_in}
use Rattle.hgs_model.specs.Theorems.ListLemmas.{below-or, below-trans}
use Rattle.hgs_commit.specs.Tree.{rest_at, row_at}
use Rattle.hgs_commit.specs.Walk.{behind_row, first_row, from_path, told_of_row}

pub same-eq : (x y : List ℕ) → same x y ≡ true → x ≡ y
same-eq x y e = (bytes_decides x y).0 e

pub same-refl : (x : List ℕ) → same x x ≡ true
same-refl x = (bytes_decides x x).1 refl

pub below-other : (x y : List ℕ) → is_below x y ≡ true → same x y ≡ false
below-other x y a = by (same x y) refl
  where
    by : (s : Bool) → same x y ≡ s → s ≡ false
    by false e = refl
    by true e = absurd (no (sym (ap is_lt (tied_itself nat_list_cmp_total x)) ∙ (ap (is_below x) (same-eq x y e) ∙ a)))
      where
        no : false ≡ true → ⊥
        no h = cc

pub above-other : (x y : List ℕ) → is_below x y ≡ true → same y x ≡ false
above-other x y a = by (same y x) refl
  where
    by : (s : Bool) → same y x ≡ s → s ≡ false
    by false e = refl
    by true e = sym (ap (same x) (same-eq y x e) ∙ same-refl x) ∙ below-other x y a

pub weaken : (a b : List ℕ) (rows : List Row) → is_below a b ≡ true → AscendFrom b rows → AscendFrom a rows
weaken a b [] h k = tt
weaken a b (r ∷ rows) h k = (k.0, below-trans a b r.path h k.1, k.2)

module _ (path : List ℕ) where
  none-above : (last : List ℕ) (rows : List Row) → ((q : List ℕ) → is_below last q ≡ true → same q path ≡ false) → AscendFrom last rows → found_in path rows ≡ None
  none-above last [] u a = refl
  none-above last (r ∷ rows) u a =
      ap (λ b. cond b (Some (r.node, r.flag)) (found_in path rows)) (u r.path a.1) ∙ none-above r.path rows (λ q b. u q (below-trans last r.path q a.1 b)) a.2

  -- the row of a path
  pub row-found : (last : List ℕ) (rows : List Row) → AscendFrom last rows → row_at path rows ≡ found_in path rows
  row-found last [] a = refl
  row-found last (r ∷ rows) a = by (is_below r.path path) refl (row-found r.path rows a.2)
    where
      here : (s : Bool) → same r.path path ≡ s → is_below r.path path ≡ false → option_map told_of_row (cond s (Some r) None) ≡ cond s (Some (r.node, r.flag)) (found_in path rows)
      here true e b = refl
      here false e b = sym (none-above r.path rows (λ q c. above-other path q (below-trans path r.path q (below-or r.path path e b) c)) a.2)

      by : (b : Bool) → is_below r.path path ≡ b → row_at path rows ≡ found_in path rows → option_map told_of_row (first_row path (cond b (from_path path rows) (r ∷ rows))) ≡ found_in path (r ∷ rows)
      by true e rec = rec ∙ sym (ap (λ s. cond s (Some (r.node, r.flag)) (found_in path rows)) (below-other r.path path e))
      by false e rec = here (same r.path path) refl e

  -- the rows of later paths are left
  pub rest-found : (q : List ℕ) (rows : List Row) → is_below path q ≡ true → found_in q (rest_at path rows) ≡ found_in q rows
  rest-found q [] h = refl
  rest-found q (r ∷ rows) h = by (is_below r.path path) refl (rest-found q rows h)
    where
      passed : same r.path q ≡ false → found_in q rows ≡ found_in q (r ∷ rows)
      passed e = sym (ap (λ s. cond s (Some (r.node, r.flag)) (found_in q rows)) e)

      here : (s : Bool) → same r.path path ≡ s → found_in q (cond s rows (r ∷ rows)) ≡ found_in q (r ∷ rows)
      here true e = passed (ap (λ p. same p q) (same-eq r.path path e) ∙ below-other path q h)
      here false e = refl

      by : (b : Bool) → is_below r.path path ≡ b → found_in q (rest_at path rows) ≡ found_in q rows → found_in q (behind_row path (cond b (from_path path rows) (r ∷ rows))) ≡ found_in q (r ∷ rows)
      by true e rec = rec ∙ passed (below-other r.path q (below-trans r.path path q e h))
      by false e rec = here (same r.path path) refl

  -- they come behind the path
  pub rest-above : (last : List ℕ) (rows : List Row) → AscendFrom last rows → AscendFrom path (rest_at path rows)
  rest-above last [] a = tt
  rest-above last (r ∷ rows) a = by (is_below r.path path) refl (rest-above r.path rows a.2)
    where
      here : (s : Bool) → same r.path path ≡ s → is_below r.path path ≡ false → AscendFrom path (cond s rows (r ∷ rows))
      here true e b = let P : List ℕ → Type 0 = λ p. AscendFrom p rows in subst P (same-eq r.path path e) a.2
      here false e b = (a.0, below-or r.path path e b, a.2)

      by : (b : Bool) → is_below r.path path ≡ b → AscendFrom path (rest_at path rows) → AscendFrom path (behind_row path (cond b (from_path path rows) (r ∷ rows)))
      by true e rec = rec
      by false e rec = here (same r.path path) refl e
