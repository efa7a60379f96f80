-- An inline index, one entry and its chunk after another.
use Rattle.std.proofs.Common.{◌≡◌, ℕ, zero, suc, ◌+◌, ◌-◌, ◌<◌, ◌≤◌, List, [], ◌∷◌, ◌++◌, Bool, true, false, cond, ◌&&◌, ◌||◌, not, length, take, drop, Option, Some, None, refl, sym, ◌∙◌, ap, arith}
use Rattle.std.specs.Prelude.{nat_lt, min}
use Rattle.std.proofs.lemmas.List.{length-drop, take_min}
use Rattle.hgs_index.specs.Entry.{is_negative, number_at, part}
use Rattle.hgs_index.specs.Inline.{chunks_in, entries_in, is_cut, whole_item}

entries-none : (n : ℕ) → entries_in n [] ≡ []
entries-none zero = refl
entries-none (suc n) = refl

chunks-none : (n : ℕ) → chunks_in n [] ≡ []
chunks-none zero = refl
chunks-none (suc n) = refl

-- more steps than bytes are as good as others
enough-entries : (n m : ℕ) (bytes : List ℕ) → length bytes ≤ n → length bytes ≤ m → entries_in n bytes ≡ entries_in m bytes
enough-entries n m [] few less = entries-none n ∙ sym (entries-none m)
enough-entries zero m (x ∷ xs) few less = absurd (omega (arith, few))
enough-entries (suc n) zero (x ∷ xs) few less = absurd (omega (arith, less))
enough-entries (suc n) (suc m) (x ∷ xs) few less =
    let k = number_at 8 (x ∷ xs) in
    ap (λ l. cond (is_cut (x ∷ xs)) (take 63 (x ∷ xs)) (take 64 (x ∷ xs) ++ l))
    (enough-entries n m (drop (64 + k) (x ∷ xs)) (omega (arith, length-drop (64 + k) (x ∷ xs), few)) (omega (arith, length-drop (64 + k) (x ∷ xs), less)))

enough-chunks : (n m : ℕ) (bytes : List ℕ) → length bytes ≤ n → length bytes ≤ m → chunks_in n bytes ≡ chunks_in m bytes
enough-chunks n m [] few less = chunks-none n ∙ sym (chunks-none m)
enough-chunks zero m (x ∷ xs) few less = absurd (omega (arith, few))
enough-chunks (suc n) zero (x ∷ xs) few less = absurd (omega (arith, less))
enough-chunks (suc n) (suc m) (x ∷ xs) few less =
    let k = number_at 8 (x ∷ xs) in
    ap (λ l. cond (is_cut (x ∷ xs)) [] (part 64 k (x ∷ xs) ++ l))
    (enough-chunks n m (drop (64 + k) (x ∷ xs)) (omega (arith, length-drop (64 + k) (x ∷ xs), few)) (omega (arith, length-drop (64 + k) (x ∷ xs), less)))

-- a whole entry and its chunk are taken off
pub record IsTaken (rest cell behind : List ℕ) : Type 0 where
  pub shorter : length behind < length rest
  pub entries : entries_in (length rest) rest ≡ cell ++ entries_in (length behind) behind
  pub chunks : chunks_in (length rest) rest ≡ take ((length rest - length behind) - 64) (drop 64 rest) ++ chunks_in (length behind) behind

pair-is : (x y : List ℕ × List ℕ) → Some x ≡ Some y → x ≡ y
pair-is x y h = cc

first-false : (a b : Bool) → (a || b) ≡ false → a ≡ false
first-false true b h = cc
first-false false b h = refl

reached : (n len : ℕ) → nat_lt len n ≡ false → n ≤ len
reached n len h = grind arith

pub taken : (rest cell behind : List ℕ) → whole_item rest ≡ Some (cell, behind) → IsTaken rest cell behind
taken [] cell behind h = cc
taken (x ∷ xs) cell behind h = by (is_cut bytes) refl h
  where
    bytes : List ℕ
    bytes = x ∷ xs

    k : ℕ
    k = number_at 8 bytes

    by : (b : Bool) → is_cut bytes ≡ b → cond {A = Option (List ℕ × List ℕ)} b None (Some (take 64 bytes, drop (64 + k) bytes)) ≡ Some (cell, behind) → IsTaken bytes cell behind
    by true cut e = cc
    by false cut e =
        let is = pair-is (take 64 bytes, drop (64 + k) bytes) (cell, behind) e in
        let cell_is : take 64 bytes ≡ cell = ap (λ (p : List ℕ × List ℕ). p.0) is in
        let behind_is : drop (64 + k) bytes ≡ behind = ap (λ (p : List ℕ × List ℕ). p.1) is in
        let long : 64 ≤ length bytes = reached 64 (length bytes) (first-false (nat_lt (length bytes) 64) (not (is_negative k) && nat_lt (length bytes) (64 + k)) cut) in
        let less : length behind ≡ length bytes - (64 + k) = ap length (sym behind_is) ∙ length-drop (64 + k) bytes in
        let size : (length bytes - length behind) - 64 ≡ min k (length (drop 64 bytes)) = omega (arith, less, long, length-drop 64 bytes) in
        record {
          shorter = omega (arith, less, long);
          entries =
              ap (λ b. cond b (take 63 bytes) (take 64 bytes ++ entries_in (length xs) (drop (64 + k) bytes))) cut
              ∙ ap (λ l. l ++ entries_in (length xs) (drop (64 + k) bytes)) cell_is
              ∙ ap (λ l. cell ++ entries_in (length xs) l) behind_is
              ∙ ap (λ l. cell ++ l) (enough-entries (length xs) (length behind) behind (omega (arith, less, long)) (omega arith));
          chunks =
              ap (λ b. cond b [] (part 64 k bytes ++ chunks_in (length xs) (drop (64 + k) bytes))) cut
              ∙ ap (λ l. l ++ chunks_in (length xs) (drop (64 + k) bytes)) (sym (take_min k (drop 64 bytes)) ∙ ap (λ n. take n (drop 64 bytes)) (sym size))
              ∙ ap (λ l. take ((length bytes - length behind) - 64) (drop 64 bytes) ++ chunks_in (length xs) l) behind_is
              ∙ ap (λ l. take ((length bytes - length behind) - 64) (drop 64 bytes) ++ l) (enough-chunks (length xs) (length behind) behind (omega (arith, less, long)) (omega arith));
        }

-- no whole entry is left
pub record IsLeft (rest : List ℕ) : Type 0 where
  pub entries : entries_in (length rest) rest ≡ take 63 rest
  pub chunks : chunks_in (length rest) rest ≡ []

pub left : (rest : List ℕ) → whole_item rest ≡ None → IsLeft rest
left [] h = record { entries = refl; chunks = refl }
left (x ∷ xs) h = by (is_cut (x ∷ xs)) refl h
  where
    behind : List ℕ
    behind = drop (64 + number_at 8 (x ∷ xs)) (x ∷ xs)

    by : (b : Bool) → is_cut (x ∷ xs) ≡ b → cond {A = Option (List ℕ × List ℕ)} b None (Some (take 64 (x ∷ xs), behind)) ≡ None → IsLeft (x ∷ xs)
    by true cut e = record {
      entries = ap (λ b. cond b (take 63 (x ∷ xs)) (take 64 (x ∷ xs) ++ entries_in (length xs) behind)) cut;
      chunks = ap (λ b. cond b [] (part 64 (number_at 8 (x ∷ xs)) (x ∷ xs) ++ chunks_in (length xs) behind)) cut;
    }
    by false cut e = cc
