-- Inline and separate indexes: what each loads as.
use Rattle.std.proofs.Common.{◌≡◌, ℕ, zero, suc, ◌+◌, ◌/◌, ◌<◌, ◌≤◌, Bool, true, false, cond, ◌&&◌, ◌||◌, not, List, [], ◌∷◌, ◌++◌, length, take, drop, Option, Some, None, Result, Ok, Err, refl, sym, ◌∙◌, ap, arith, length-append}
use Rattle.std.specs.Prelude.{◌==◌, nat_lt}
use Rattle.std.proofs.lemmas.List.{length-take, length-drop, length_push, take_at, drop_at}
use Rattle.hgs_index.specs.declared.entry.Entry as index_entry
use Rattle.hgs_index.specs.Entry.{number_at, is_negative}
use Rattle.hgs_index.specs.Inline.{is_inline, is_cut, whole_item, entries_in, without_inline, index_apart}
use Rattle.hgs_revlog.specs.declared.fault.RevFault.{RevFault}
use Rattle.hgs_revlog.specs.declared.fault.RevFault.TheVariants.{Tail}
use Rattle.hgs_revlog.specs.declared.fault.Tail.TheVariants.{Ignore, Refuse, Until}
use Rattle.hgs_revlog.specs.declared.fault.Tail as tails
use Rattle.hgs_revlog.specs.Log.{Log}
use Rattle.hgs_revlog.specs.Load.{entry_behind, ends_at, at_end, after, load_from, cell_of, loaded_either, loaded, in_form}
use Rattle.hgs_revlog.specs.Theorems.LoadLemmas.{load_rest}

-- ---- the form of what is loaded_either

-- a load from a log of one form is that from the same entries in the other
at-end-form : (tail : tails.Tail) (inline other : Bool) (entries : List index_entry.Entry) (rest : List ℕ)
    → at_end tail (record { inline = inline; entries = entries }) rest ≡ in_form inline (at_end tail (record { inline = other; entries = entries }) rest)
at-end-form Ignore inline other entries rest = refl
at-end-form Refuse inline other entries rest = by (length rest == 0)
  where
    by : (b : Bool) → cond b (Ok (record { inline = inline; entries = entries })) (Err (Tail (length entries))) ≡ in_form inline (cond b (Ok (record { inline = other; entries = entries })) (Err (Tail (length entries))))
    by true = refl
    by false = refl
at-end-form (Until node) inline other entries rest = refl

pub load-form : (tail : tails.Tail) (inline other : Bool) (n : ℕ) (entries : List index_entry.Entry) (bytes : List ℕ)
    → load_from tail n (record { inline = inline; entries = entries }) bytes ≡ in_form inline (load_from tail n (record { inline = other; entries = entries }) bytes)
load-form tail inline other zero entries bytes = at-end-form tail inline other entries bytes
load-form tail inline other (suc n) entries bytes = by (entry_behind entries (take 64 bytes)) (λ e. load-form tail inline other n (entries ++ e ∷ []) (drop 64 bytes))
  where
    by : (r : Result index_entry.Entry RevFault)
        → ((e : index_entry.Entry) → load_from tail n (record { inline = inline; entries = entries ++ e ∷ [] }) (drop 64 bytes) ≡ in_form inline (load_from tail n (record { inline = other; entries = entries ++ e ∷ [] }) (drop 64 bytes)))
        → after r (λ e. cond (ends_at tail e) (Ok (record { inline = inline; entries = entries ++ e ∷ [] })) (load_from tail n (record { inline = inline; entries = entries ++ e ∷ [] }) (drop 64 bytes)))
        ≡ in_form inline (after r (λ e. cond (ends_at tail e) (Ok (record { inline = other; entries = entries ++ e ∷ [] })) (load_from tail n (record { inline = other; entries = entries ++ e ∷ [] }) (drop 64 bytes))))
    by (Err f) next = refl
    by (Ok e) next = ends (ends_at tail e)
      where
        ends : (b : Bool) → cond b (Ok (record { inline = inline; entries = entries ++ e ∷ [] })) (load_from tail n (record { inline = inline; entries = entries ++ e ∷ [] }) (drop 64 bytes))
            ≡ in_form inline (cond b (Ok (record { inline = other; entries = entries ++ e ∷ [] })) (load_from tail n (record { inline = other; entries = entries ++ e ∷ [] }) (drop 64 bytes)))
        ends true = refl
        ends false = next e

-- what loads, and what its entries are those of
form-ok : (b : Bool) (r : Result Log RevFault) (log : Log) → in_form b r ≡ Ok log → (log.inline ≡ b) × (in_form false r ≡ Ok (record { inline = false; entries = log.entries }))
form-ok b (Err f) log h = cc
form-ok b (Ok l) log h =
    let is = log_is (record { inline = b; entries = l.entries }) log h in
    (ap (λ (x : Log). x.inline) (sym is), ap (λ (x : Log). Ok (record { inline = false; entries = x.entries })) is)
  where
    log_is : (x y : Log) → (let a : Result Log RevFault = Ok x in a) ≡ Ok y → x ≡ y
    log_is x y e = cc

-- a separate load is separate
apart-form : (tail : tails.Tail) (index : List ℕ) → loaded tail index ≡ in_form false (loaded tail index)
apart-form tail index = load-form tail false false (length index / 64) [] index

pub separate-loads : (tail : tails.Tail) (index : List ℕ) → is_inline index ≡ false → loaded_either tail index ≡ loaded tail index
separate-loads tail index separate =
    ap (λ b. in_form b (loaded tail (cond b (without_inline (entries_in (length index) index)) index))) separate ∙ sym (apart-form tail index)

-- what loads has the form that its header says, and the entries of the separate index
pub loads-apart : (tail : tails.Tail) (index : List ℕ) (log : Log) → loaded_either tail index ≡ Ok log → (log.inline ≡ is_inline index) × (loaded tail (index_apart index) ≡ Ok (record { inline = false; entries = log.entries }))
loads-apart tail index log h =
    let f = form-ok (is_inline index) (loaded tail (index_apart index)) log h in
    (f.0, apart-form tail (index_apart index) ∙ f.1)

-- ---- the first cell of an inline index, without its flag

pub marked-length : (b : Bool) (xs : List ℕ) → length (cond b (without_inline xs) xs) ≡ length xs
marked-length false xs = refl
marked-length true [] = refl
marked-length true (a ∷ []) = refl
marked-length true (a ∷ b ∷ xs) = refl

pub marked-first : (b : Bool) (xs : List ℕ) → take 64 (cond b (without_inline xs) xs) ≡ cond b (without_inline (take 64 xs)) (take 64 xs)
marked-first false xs = refl
marked-first true [] = refl
marked-first true (a ∷ []) = refl
marked-first true (a ∷ b ∷ xs) = refl

pub marked-rest : (b : Bool) (xs : List ℕ) → drop 64 (cond b (without_inline xs) xs) ≡ drop 64 xs
marked-rest false xs = refl
marked-rest true [] = refl
marked-rest true (a ∷ []) = refl
marked-rest true (a ∷ b ∷ xs) = refl

pub marked-number : (b : Bool) (xs : List ℕ) → number_at 8 (cond b (without_inline xs) xs) ≡ number_at 8 xs
marked-number false xs = refl
marked-number true [] = refl
marked-number true (a ∷ []) = refl
marked-number true (a ∷ b ∷ xs) = refl

-- ---- the entries that are left

-- what is left to load of an inline index behind these entries, as a separate index has it
abbrev pub left_of : List index_entry.Entry → List ℕ → List ℕ
left_of before rest = cond (length before == 0) (without_inline (entries_in (length rest) rest)) (entries_in (length rest) rest)

-- the whole index
pub form-begins : (tail : tails.Tail) (index : List ℕ) → is_inline index ≡ true → load_rest tail (record { inline = true; entries = [] }) (left_of [] index) ≡ loaded_either tail index
form-begins tail index inline =
    load-form tail true false (length (without_inline (entries_in (length index) index)) / 64) [] (without_inline (entries_in (length index) index))
    ∙ sym (ap (λ b. in_form b (loaded tail (cond b (without_inline (entries_in (length index) index)) index))) inline)

entries-none : (n : ℕ) → entries_in n [] ≡ []
entries-none zero = refl
entries-none (suc n) = refl

-- more steps than bytes are as good as others
pub enough : (n m : ℕ) (bytes : List ℕ) → length bytes ≤ n → length bytes ≤ m → entries_in n bytes ≡ entries_in m bytes
enough n m [] few less = entries-none n ∙ sym (entries-none m)
enough zero m (x ∷ xs) few less = absurd (omega (arith, few))
enough (suc n) zero (x ∷ xs) few less = absurd (omega (arith, less))
enough (suc n) (suc m) (x ∷ xs) few less =
    let k = number_at 8 (x ∷ xs) in
    ap (λ l. cond (is_cut (x ∷ xs)) (take 63 (x ∷ xs)) (take 64 (x ∷ xs) ++ l))
    (enough n m (drop (64 + k) (x ∷ xs)) (omega (arith, length-drop (64 + k) (x ∷ xs), few)) (omega (arith, length-drop (64 + k) (x ∷ xs), less)))

-- one entry, and what is left behind it
pub record IsFront (before : List index_entry.Entry) (whole cell behind : List ℕ) : Type 0 where
  pub long : 64 ≤ length whole
  pub first : take 64 whole ≡ cell_of before cell
  pub rest : drop 64 whole ≡ entries_in (length behind) behind

some_is : (x y : List ℕ × List ℕ) → Some x ≡ Some y → x ≡ y
some_is x y h = cc

reached : (n len : ℕ) → nat_lt len n ≡ false → n ≤ len
reached n len h = grind arith

first-false : (a b : Bool) → (a || b) ≡ false → a ≡ false
first-false true b h = cc
first-false false b h = refl

pub left-front : (before : List index_entry.Entry) (rest cell behind : List ℕ) → whole_item rest ≡ Some (cell, behind) → IsFront before (left_of before rest) cell behind
left-front before [] cell behind h = cc
left-front before (x ∷ xs) cell behind h = by (is_cut bytes) refl h
  where
    bytes : List ℕ
    bytes = x ∷ xs

    first : Bool
    first = length before == 0

    by : (b : Bool) → is_cut bytes ≡ b → cond {A = Option (List ℕ × List ℕ)} b None (Some (take 64 bytes, drop (64 + number_at 8 bytes) bytes)) ≡ Some (cell, behind) → IsFront before (left_of before bytes) cell behind
    by true t e = cc
    by false t e =
        let is = some_is (take 64 bytes, drop (64 + number_at 8 bytes) bytes) (cell, behind) e in
        let k = number_at 8 bytes in
        let low = first-false (nat_lt (length bytes) 64) (not (is_negative k) && nat_lt (length bytes) (64 + k)) t in
        let whole : 64 ≤ length bytes = reached 64 (length bytes) low in
        let size : length (take 64 bytes) ≡ 64 = omega (arith, length-take 64 bytes, whole) in
        let more = entries_in (length xs) (drop (64 + k) bytes) in
        let are : entries_in (length bytes) bytes ≡ take 64 bytes ++ more = ap (λ b. cond b (take 63 bytes) (take 64 bytes ++ more)) t in
        let left = ap (λ p. p.1) is in
        let all = entries_in (length bytes) bytes in
        let count : length all ≡ 64 + length more = ap length are ∙ length-append (take 64 bytes) more ∙ ap (λ n. n + length more) size in
        record {
          long = (let len = marked-length first all in omega (arith, len, count));
          first = marked-first first all ∙ ap (λ l. cond first (without_inline l) l) (ap (take 64) are ∙ take_at (take 64 bytes) more 64 size ∙ ap (λ p. p.0) is);
          rest = marked-rest first all ∙ ap (drop 64) are ∙ drop_at (take 64 bytes) more 64 size
              ∙ enough (length xs) (length (drop (64 + k) bytes)) (drop (64 + k) bytes) (omega (arith, length-drop (64 + k) bytes)) (omega arith)
              ∙ ap (λ l. entries_in (length l) l) left;
        }

-- no flag is cleared behind an entry
pub left-behind : (before : List index_entry.Entry) (e : index_entry.Entry) (behind : List ℕ) → left_of (before ++ e ∷ []) behind ≡ entries_in (length behind) behind
left-behind before e behind = ap (λ b. cond b (without_inline (entries_in (length behind) behind)) (entries_in (length behind) behind)) (not-none (length (before ++ e ∷ [])) (length before) (length_push before e))
  where
    not-none : (n m : ℕ) → n ≡ m + 1 → (n == 0) ≡ false
    not-none n m h = grind arith

empty-same : (tail : tails.Tail) (log : Log) (xs ys : List ℕ) → (length xs == 0) ≡ (length ys == 0) → at_end tail log xs ≡ at_end tail log ys
empty-same Ignore log xs ys h = refl
empty-same Refuse log xs ys h = ap (λ b. cond b (Ok log) (Err (Tail (length log.entries)))) h
empty-same (Until node) log xs ys h = refl

-- where no whole entry is left, as few bytes are
pub left-ends : (tail : tails.Tail) (log : Log) (rest : List ℕ) → whole_item rest ≡ None → load_rest tail log (left_of log.entries rest) ≡ at_end tail log rest
left-ends tail log rest h = by (is_cut rest) refl h
  where
    first : Bool
    first = length log.entries == 0

    cut : (bytes : List ℕ) → is_cut bytes ≡ true → entries_in (length bytes) bytes ≡ take 63 bytes
    cut [] t = refl
    cut (x ∷ xs) t = ap (λ b. cond b (take 63 (x ∷ xs)) (take 64 (x ∷ xs) ++ entries_in (length xs) (drop (64 + number_at 8 (x ∷ xs)) (x ∷ xs)))) t

    as-empty : (n m : ℕ) → n ≡ m → (n == 0) ≡ (m == 0)
    as-empty n m e = ap (λ k. k == 0) e

    front-empty : (xs : List ℕ) → (length (take 63 xs) == 0) ≡ (length xs == 0)
    front-empty [] = refl
    front-empty (x ∷ xs) = never (length (take 62 xs)) ∙ sym (never (length xs))
      where
        never : (n : ℕ) → (suc n == 0) ≡ false
        never n = grind arith

    by : (b : Bool) → is_cut rest ≡ b → cond {A = Option (List ℕ × List ℕ)} b None (Some (take 64 rest, drop (64 + number_at 8 rest) rest)) ≡ None → load_rest tail log (left_of log.entries rest) ≡ at_end tail log rest
    by true t e =
        let all = left_of log.entries rest in
        let len : length all ≡ length (take 63 rest) = marked-length first (entries_in (length rest) rest) ∙ ap length (cut rest t) in
        let few : length all / 64 ≡ 0 = omega (arith, len, length-take 63 rest) in
        ap (λ n. load_from tail n log all) few ∙ empty-same tail log all rest (as-empty (length all) (length (take 63 rest)) len ∙ front-empty rest)
    by false t e = cc

-- less is left behind an entry
pub left-shorter : (rest cell behind : List ℕ) → whole_item rest ≡ Some (cell, behind) → length behind < length rest
left-shorter rest cell behind h = by (is_cut rest) refl h
  where
    by : (b : Bool) → is_cut rest ≡ b → cond {A = Option (List ℕ × List ℕ)} b None (Some (take 64 rest, drop (64 + number_at 8 rest) rest)) ≡ Some (cell, behind) → length behind < length rest
    by true t e = cc
    by false t e =
        let k = number_at 8 rest in
        let whole = reached 64 (length rest) (first-false (nat_lt (length rest) 64) (not (is_negative k) && nat_lt (length rest) (64 + k)) t) in
        let back = ap (λ p. length p.1) (some_is (take 64 rest, drop (64 + k) rest) (cell, behind) e) in
        omega (arith, whole, back, length-drop (64 + k) rest)
