-- Entries of an inline index and their nodes.
use Rattle.std.proofs.Common.{◌≡◌, ℕ, zero, suc, ◌+◌, ◌<◌, ◌≤◌, List, [], ◌∷◌, take, drop, length, Bool, true, false, cond, ◌&&◌, ◌||◌, not, Option, Some, None, refl, sym, ◌∙◌, ap, arith}
use Rattle.std.specs.Prelude.{nat_lt}
use Rattle.std.proofs.lemmas.List.{length-drop}
use Rattle.hgs_bytes.specs.Bytes.{same}
use Rattle.hgs_index.specs.Entry.{number_at, is_negative}
use Rattle.hgs_index.specs.Inline.{is_cut, whole_item}
use Rattle.hgs_reader.specs.Find.{has_item, item_or}

abbrev pub item : Bool → List ℕ → Option (List ℕ × List ℕ)
item b bytes = cond b None (Some (take 64 bytes, drop (64 + number_at 8 bytes) bytes))

-- more steps than bytes are as good as others
enough : (node : List ℕ) (n m : ℕ) (bytes : List ℕ) → length bytes ≤ n → length bytes ≤ m → has_item node n bytes ≡ has_item node m bytes
enough node zero zero bytes few less = refl
enough node zero (suc m) [] few less = refl
enough node (suc n) zero [] few less = refl
enough node (suc n) (suc m) [] few less = refl
enough node zero (suc m) (x ∷ xs) few less = absurd (omega (arith, few))
enough node (suc n) zero (x ∷ xs) few less = absurd (omega (arith, less))
enough node (suc n) (suc m) (x ∷ xs) few less =
    let k = number_at 8 (x ∷ xs) in
    by (is_cut (x ∷ xs)) (enough node n m (drop (64 + k) (x ∷ xs)) (omega (arith, length-drop (64 + k) (x ∷ xs), few)) (omega (arith, length-drop (64 + k) (x ∷ xs), less)))
  where
    by : (b : Bool) → has_item node n (drop (64 + number_at 8 (x ∷ xs)) (x ∷ xs)) ≡ has_item node m (drop (64 + number_at 8 (x ∷ xs)) (x ∷ xs))
        → item_or node (item b (x ∷ xs)) (has_item node n) ≡ item_or node (item b (x ∷ xs)) (has_item node m)
    by true h = refl
    by false h = ap (λ b. same (take 20 (drop 32 (take 64 (x ∷ xs)))) node || b) h

pub some_is : (x y : List ℕ × List ℕ) → Some x ≡ Some y → x ≡ y
some_is x y h = cc

pub reached : (n len : ℕ) → nat_lt len n ≡ false → n ≤ len
reached n len h = grind arith

pub first-false : (a b : Bool) → (a || b) ≡ false → a ≡ false
first-false true b h = cc
first-false false b h = refl

pub item-shorter : (rest cell behind : List ℕ) → whole_item rest ≡ Some (cell, behind) → length behind < length rest
item-shorter rest cell behind h = by (is_cut rest) refl h
  where
    by : (b : Bool) → is_cut rest ≡ b → item b rest ≡ Some (cell, behind) → length behind < length rest
    by true t e = cc
    by false t e =
        let k = number_at 8 rest in
        let whole = reached 64 (length rest) (first-false (nat_lt (length rest) 64) (not (is_negative k) && nat_lt (length rest) (64 + k)) t) in
        let back = ap (λ p. length p.1) (some_is (take 64 rest, drop (64 + k) rest) (cell, behind) e) in
        omega (arith, whole, back, length-drop (64 + k) rest)

step : (node rest cell behind : List ℕ) → whole_item rest ≡ Some (cell, behind) → has_item node (length rest) rest ≡ (same (take 20 (drop 32 cell)) node || has_item node (length behind) behind)
step node [] cell behind h = cc
step node (x ∷ xs) cell behind h =
    let less = item-shorter (x ∷ xs) cell behind h in
    ap (λ o. item_or node o (has_item node (length xs))) h
    ∙ ap (λ b. same (take 20 (drop 32 cell)) node || b) (enough node (length xs) (length behind) behind (omega (arith, less)) (omega arith))

pub item-here : (node rest cell behind : List ℕ) → whole_item rest ≡ Some (cell, behind) → same (take 20 (drop 32 cell)) node ≡ true → has_item node (length rest) rest ≡ true
item-here node rest cell behind h t = step node rest cell behind h ∙ ap (λ b. b || has_item node (length behind) behind) t

pub item-behind : (node rest cell behind : List ℕ) → whole_item rest ≡ Some (cell, behind) → same (take 20 (drop 32 cell)) node ≡ false → has_item node (length behind) behind ≡ has_item node (length rest) rest
item-behind node rest cell behind h t = sym (step node rest cell behind h ∙ ap (λ b. b || has_item node (length behind) behind) t)

pub no-item : (node rest : List ℕ) → whole_item rest ≡ None → has_item node (length rest) rest ≡ false
no-item node [] h = refl
no-item node (x ∷ xs) h = ap (λ o. item_or node o (has_item node (length xs))) h
