-- What holds of kept texts, once one was used.
use Rattle.std.proofs.Common.{◌≡◌, ℕ, zero, suc, ◌-◌, Bool, true, false, cond, List, [], ◌∷◌, take, Some, refl, sym, subst}
use Rattle.std.specs.Prelude.{IfSome}
use Rattle.std.specs.List.{AllByRecursion}
use Rattle.std.specs.Map.{lookup, remove_entry}
use Rattle.hgs_bytes.specs.Bytes.{same}
use Rattle.hgs_bytes.specs.Theorems.ByteLemmas.{same-eq}
use Rattle.hgs_recent.specs.Texts.{Texts, most_kept, text_under, used}

module _ {K X : Type 0} (test : K → Bool) where
  -- what holds of all holds of what is left
  pub removed-all : (P : K × X → Type 0) (es : List (K × X)) → AllByRecursion P es → AllByRecursion P (remove_entry test es)
  removed-all P [] all = tt
  removed-all P (e ∷ es) all = by (test e.0) (removed-all P es all.1)
    where
      by : (b : Bool) → AllByRecursion P (remove_entry test es) → AllByRecursion P (cond b es (e ∷ remove_entry test es))
      by true on = all.1
      by false on = (all.0, on)

  pub found-all : (P : X → Type 0) (es : List (K × X)) → AllByRecursion (λ (e : K × X). P e.1) es → IfSome (lookup test es) P
  found-all P [] all = tt
  found-all P (e ∷ es) all = by (test e.0) (found-all P es all.1)
    where
      by : (b : Bool) → IfSome (lookup test es) P → IfSome (cond b (Some e.1) (lookup test es)) P
      by true on = all.0
      by false on = on

pub taken-all : {A : Type 0} (P : A → Type 0) (n : ℕ) (xs : List A) → AllByRecursion P xs → AllByRecursion P (take n xs)
taken-all P zero xs all = tt
taken-all P (suc n) [] all = tt
taken-all P (suc n) (x ∷ xs) all = (all.0, taken-all P n xs all.1)

-- ---- of all texts

pub used-all : (P : List ℕ × List ℕ → Type 0) (node text : List ℕ) (es : Texts) → P (node, text) → AllByRecursion P es → AllByRecursion P (used node text es)
used-all P node text es here all = (here, taken-all P (most_kept - 1) (remove_entry (same node) es) (removed-all (same node) P es all))

some-is : (a b : List ℕ) → Some a ≡ Some b → a ≡ b
some-is a b e = cc

pub under-all : (P : List ℕ × List ℕ → Type 0) (node text : List ℕ) (es : Texts) → text_under node es ≡ Some text → AllByRecursion P es → P (node, text)
under-all P node text [] h all = cc
under-all P node text (e ∷ es) h all = by (same node e.0) refl (λ n. under-all P node text es n all.1) h
  where
    by : (b : Bool) → same node e.0 ≡ b → (text_under node es ≡ Some text → P (node, text)) → cond b (Some e.1) (text_under node es) ≡ Some text → P (node, text)
    by true is on n = subst (λ k. P (k, text)) (sym (same-eq node e.0 is)) (subst (λ t. P (e.0, t)) (some-is e.1 text n) all.0)
    by false is on n = on n
