-- A walk over the items of an inline index that goes on where an earlier one ended.
use Rattle.std.proofs.Common.{◌≡◌, ℕ, ◌+◌, ◌-◌, ◌<◌, ◌≤◌, List, [], ◌∷◌, ◌++◌, take, drop, length, Bool, true, false, ◌&&◌, ◌||◌, not, Some, refl, sym, ◌∙◌, ap, arith, append-nil}
use Rattle.std.specs.Prelude.{nat_lt}
use Rattle.std.specs.Int.{w32, from_be_bytes}
use Rattle.std.proofs.lemmas.List.{length-append, length-drop, drop-drop, drop-append-le, take-append-le}
use Rattle.hgs_bytes.specs.Bytes.{same}
use Rattle.hgs_index.specs.Entry.{number_at, is_negative}
use Rattle.hgs_index.specs.Inline.{is_cut, whole_item}
use Rattle.hgs_reader.specs.Find.{has_item}
use Rattle.hgs_reader.specs.Passed.{IsPassed}
use Rattle.hgs_reader.proofs.ItemLemmas.{item, item-behind, reached, first-false, some_is}

or-both : (a b c : Bool) → a ≡ false → c ≡ false → (a || (b && c)) ≡ false
or-both a true c x y = ap (λ d. d || c) x ∙ y
or-both a false c x y = ap (λ d. d || false) x

least : (n len : ℕ) → n ≤ len → nat_lt len n ≡ false
least n len h = grind arith

-- the parts of a whole item
record IsTaken (rest cell behind : List ℕ) : Type 0 where
  pub whole : 64 ≤ length rest
  pub cell_is : take 64 rest ≡ cell
  pub behind_is : drop (64 + number_at 8 rest) rest ≡ behind

taken : (rest cell behind : List ℕ) → whole_item rest ≡ Some (cell, behind) → IsTaken rest cell behind
taken rest cell behind h = by (is_cut rest) refl h
  where
    by : (b : Bool) → is_cut rest ≡ b → item b rest ≡ Some (cell, behind) → IsTaken rest cell behind
    by true t e = cc
    by false t e =
        let k = number_at 8 rest in
        let is = some_is (take 64 rest, drop (64 + k) rest) (cell, behind) e in
        record {
          whole = reached 64 (length rest) (first-false (nat_lt (length rest) 64) (not (is_negative k) && nat_lt (length rest) (64 + k)) t);
          cell_is = ap (λ p. p.0) is;
          behind_is = ap (λ p. p.1) is;
        }

-- an item with bytes behind it ends before them
room : (rest cell behind : List ℕ) → IsTaken rest cell behind → 0 < length behind → 64 + number_at 8 rest < length rest
room rest cell behind t some =
    let len = ap length t.behind_is in
    omega (arith, len, some, length-drop (64 + number_at 8 rest) rest)

number-more : (rest more : List ℕ) → 64 ≤ length rest → number_at 8 (rest ++ more) ≡ number_at 8 rest
number-more rest more whole =
    ap (λ l. from_be_bytes w32 (take 4 l)) (drop-append-le 8 rest more (omega (arith, whole)))
    ∙ ap (from_be_bytes w32) (take-append-le 4 (drop 8 rest) more (omega (arith, whole, length-drop 8 rest)))

-- such an item is the same one whatever stands behind the bytes
item-more : (rest cell behind more : List ℕ) → IsTaken rest cell behind → 0 < length behind → whole_item (rest ++ more) ≡ Some (cell, behind ++ more)
item-more rest cell behind more t some =
    let k = number_at 8 rest in
    let number = number-more rest more t.whole in
    let len = length-append rest more in
    let fits = room rest cell behind t some in
    ap (λ b. item b (rest ++ more))
    (or-both (nat_lt (length (rest ++ more)) 64) (not (is_negative (number_at 8 (rest ++ more)))) (nat_lt (length (rest ++ more)) (64 + number_at 8 (rest ++ more)))
    (least 64 (length (rest ++ more)) (let whole = t.whole in omega (arith, whole, len)))
    (least (64 + number_at 8 (rest ++ more)) (length (rest ++ more)) (omega (arith, number, len, fits))))
    ∙ ap (λ l. Some (l, drop (64 + number_at 8 (rest ++ more)) (rest ++ more))) (take-append-le 64 rest more t.whole ∙ t.cell_is)
    ∙ ap (λ n. Some (cell, drop (64 + n) (rest ++ more))) number
    ∙ ap (λ l. Some (cell, l)) (drop-append-le (64 + k) rest more (omega (arith, fits)) ∙ ap (λ l. l ++ more) t.behind_is)

-- where a walk over the items of these bytes stands
pub record IsAt (node bytes rest : List ℕ) : Type 0 where
  pub within : length rest ≤ length bytes
  pub rest_is : drop (length bytes - length rest) bytes ≡ rest
  pub same_behind : (more : List ℕ) → has_item node (length (bytes ++ more)) (bytes ++ more) ≡ has_item node (length (rest ++ more)) (rest ++ more)

pub starts : (node bytes rest : List ℕ) (passed : ℕ) → rest ≡ drop passed bytes → IsPassed node bytes passed → IsAt node bytes rest
starts node bytes rest passed is before =
    let within = before.within in
    let len = ap length is in
    let dropped = length-drop passed bytes in
    let place : length bytes - length rest ≡ passed = omega (arith, within, len, dropped) in
    record {
      within = omega (arith, len, dropped);
      rest_is = ap (λ n. drop n bytes) place ∙ sym is;
      same_behind = λ more. before.same_behind more ∙ ap (λ l. has_item node (length (l ++ more)) (l ++ more)) (sym is);
    }

pub steps : (node bytes rest cell behind : List ℕ) → whole_item rest ≡ Some (cell, behind) → same (take 20 (drop 32 cell)) node ≡ false → 0 < length behind → IsAt node bytes rest → IsAt node bytes behind
steps node bytes rest cell behind h other some at =
    let t = taken rest cell behind h in
    let k = 64 + number_at 8 rest in
    let fits = room rest cell behind t some in
    let within = at.within in
    let len = ap length t.behind_is in
    let dropped = length-drop k rest in
    let place : length bytes - length behind ≡ (length bytes - length rest) + k = omega (arith, within, len, dropped, fits) in
    record {
      within = omega (arith, within, len, dropped);
      rest_is = ap (λ n. drop n bytes) place ∙ sym (drop-drop k (length bytes - length rest) bytes) ∙ ap (drop k) at.rest_is ∙ t.behind_is;
      same_behind = λ more. at.same_behind more ∙ sym (item-behind node (rest ++ more) cell (behind ++ more) (item-more rest cell behind more t some) other);
    }

-- what a walk says of the bytes as they stand
pub so-far : (node bytes rest : List ℕ) → IsAt node bytes rest → has_item node (length bytes) bytes ≡ has_item node (length rest) rest
so-far node bytes rest at =
    ap (λ l. has_item node (length l) l) (sym (append-nil bytes)) ∙ at.same_behind [] ∙ ap (λ l. has_item node (length l) l) (append-nil rest)

pub passed-here : (node bytes rest : List ℕ) → IsAt node bytes rest → IsPassed node bytes (length bytes - length rest)
passed-here node bytes rest at = record {
  within = omega arith;
  same_behind = λ more. at.same_behind more ∙ ap (λ l. has_item node (length (l ++ more)) (l ++ more)) (sym at.rest_is);
}

pub none-behind : (node rest cell behind : List ℕ) → whole_item rest ≡ Some (cell, behind) → same (take 20 (drop 32 cell)) node ≡ false → length behind ≡ 0 → has_item node (length rest) rest ≡ false
none-behind node rest cell [] h other none = sym (item-behind node rest cell [] h other)
none-behind node rest cell (x ∷ behind) h other none = absurd (omega (arith, none))
