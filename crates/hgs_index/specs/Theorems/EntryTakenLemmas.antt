-- Bytes that read as an entry are the bytes that are written of it.
use Rattle.std.proofs.Common.{◌≡◌, ℕ, zero, suc, ◌+◌, ◌^◌, ◌<◌, ◌≤◌, Bool, true, false, cond, not, ◌&&◌, ◌||◌, List, [], ◌∷◌, ◌++◌, length, take, drop, Option, Some, None, Result, Ok, Err, refl, sym, ap, ◌∙◌, subst, arith, append-nil}
use Rattle.std.proofs.lemmas.List.{take-append-drop, drop-drop, length-take, length-drop}
use Rattle.std.specs.Prelude.{◌==◌, IfSome, IsSome, replicate}
use Rattle.std.specs.Int.{w16, w32, w64, from_be_bytes, to_be_bytes}
use Rattle.std.proofs.lemmas.Nat.{be_bytes_2, be_bytes_4, be_bytes_8}
use Rattle.hex.specs.Hex.{IsBytes}
use Rattle.hgs_index.specs.declared.entry.Entry.{Entry}
use Rattle.hgs_index.specs.declared.entry.Header.{Header}
use Rattle.hgs_index.specs.declared.entry.EntryFault.{EntryFault}
use Rattle.hgs_index.specs.declared.entry.EntryFault.TheVariants.{Version, HeaderFlags, Negative, Padding}
use Rattle.hgs_index.specs.Entry.{Fits, head_bytes, parent_number, entry_bytes, part, number_at, is_negative, is_no_parent, is_nonzero, parent_of, has_negative, has_padding, has_bad_header, fields_of, header_of, header_within, entry_at}

bytes-drop : (n : ℕ) (xs : List ℕ) → IsBytes xs → IsBytes (drop n xs)
bytes-drop zero xs h = h
bytes-drop (suc n) [] h = h
bytes-drop (suc n) (x ∷ xs) h = bytes-drop n xs (λ i. h (suc i))

cells : (x : ℕ) (xs : List ℕ) → x < 256 → IsBytes xs → IsBytes (x ∷ xs)
cells x xs a h zero = a
cells x xs a h (suc i) = h i

bytes-take : (n : ℕ) (xs : List ℕ) → IsBytes xs → IsBytes (take n xs)
bytes-take zero xs h = λ i. omega arith
bytes-take (suc n) [] h = h
bytes-take (suc n) (x ∷ xs) h = cells x (take n xs) (h 0) (bytes-take n xs (λ k. h (suc k)))

bytes-part : (at n : ℕ) (xs : List ℕ) → IsBytes xs → IsBytes (part at n xs)
bytes-part at n xs h = bytes-take n (drop at xs) (bytes-drop at xs h)

length-part : (at n : ℕ) (xs : List ℕ) → at + n ≤ length xs → length (part at n xs) ≡ n
length-part at n xs h = simp (length-take, length-drop) (omega arith)

below_16 : (xs : List ℕ) → IsBytes xs → from_be_bytes w16 xs < 2 ^ 16
below_16 xs h = let a = h 0 in let b = h 1 in omega (arith, a, b)

below_32 : (xs : List ℕ) → IsBytes xs → from_be_bytes w32 xs < 2 ^ 32
below_32 xs h = let a = h 0 in let b = h 1 in let c = h 2 in let d = h 3 in omega (arith, a, b, c, d)

below_48 : (xs : List ℕ) → IsBytes xs → from_be_bytes w64 (0 ∷ 0 ∷ xs) < 2 ^ 48
below_48 xs h = let a = h 0 in let b = h 1 in let c = h 2 in let d = h 3 in let e = h 4 in let f = h 5 in omega (arith, a, b, c, d, e, f)

zero_is : (n : ℕ) → not (n == 0) ≡ false → n ≡ 0
zero_is n h = grind arith

or-none : (a b : Bool) → (a || b) ≡ false → (a ≡ false) × (b ≡ false)
or-none true b h = cc
or-none false b h = (refl, h)

zeros : (xs : List ℕ) → is_nonzero xs ≡ false → xs ≡ replicate (length xs) 0
zeros [] h = refl
zeros (x ∷ xs) h =
    let here = or-none (not (x == 0)) (is_nonzero xs) h in
    let first = zero_is x here.0 in
    let rest = zeros xs here.1 in
    λ i. first i ∷ rest i

number_back : (at : ℕ) (xs : List ℕ) → IsBytes xs → at + 4 ≤ length xs → to_be_bytes w32 (number_at at xs) ≡ part at 4 xs
number_back at xs h l = be_bytes_4 (part at 4 xs) (number_at at xs) (length-part at 4 xs l) (bytes-part at 4 xs h) refl

not_negative : (n : ℕ) → is_negative n ≡ false → n < 2 ^ 31
not_negative n h = grind arith

parent_taken : (n : ℕ) → n < 2 ^ 32 → is_no_parent n ≡ false → (parent_number (parent_of n) ≡ n) × IfSome (parent_of n) (λ p. p < 2 ^ 31)
parent_taken n lt h = by (n == 0xffff_ffff) refl
  where
    same_number : (a b : ℕ) → (a == b) ≡ true → b ≡ a
    same_number a b e = grind arith

    low : (n == 0xffff_ffff) ≡ false → n < 2 ^ 31
    low e = grind arith

    by : (b : Bool) → (n == 0xffff_ffff) ≡ b → (parent_number (cond b None (Some n)) ≡ n) × IfSome (cond b None (Some n)) (λ p. p < 2 ^ 31)
    by true e = (same_number n 0xffff_ffff e, tt)
    by false e = (refl, low e)

-- what the tests say of bytes that are taken
taken : (a b c d : Bool) (x e : Entry) → cond {A = Result Entry EntryFault} a (Err Version) (cond b (Err HeaderFlags) (cond c (Err Negative) (cond d (Err Padding) (Ok x)))) ≡ Ok e → (a ≡ false) × (b ≡ false) × (c ≡ false) × (d ≡ false) × (x ≡ e)
taken true b c d x e h = cc
taken false true c d x e h = cc
taken false false true d x e h = cc
taken false false false true x e h = cc
taken false false false false x e h = (refl, refl, refl, refl, cc)

and-none : (a b : Bool) → a ≡ true → (a && b) ≡ false → b ≡ false
and-none true b e h = h
and-none false b e h = cc

-- two parts, one behind the other
joined : (at n : ℕ) (xs : List ℕ) → drop at xs ≡ part at n xs ++ drop (at + n) xs
joined at n xs = sym (take-append-drop n (drop at xs)) ∙ ap (λ l. part at n xs ++ l) (drop-drop n at xs)

six_parts : (xs : List ℕ) → 6 ≤ length xs → take 6 xs ≡ take 2 xs ++ (part 2 2 xs ++ part 4 2 xs)
six_parts [] h = absurd (omega arith)
six_parts (a ∷ []) h = absurd (omega arith)
six_parts (a ∷ b ∷ []) h = absurd (omega arith)
six_parts (a ∷ b ∷ c ∷ []) h = absurd (omega arith)
six_parts (a ∷ b ∷ c ∷ d ∷ []) h = absurd (omega arith)
six_parts (a ∷ b ∷ c ∷ d ∷ e ∷ []) h = absurd (omega arith)
six_parts (a ∷ b ∷ c ∷ d ∷ e ∷ f ∷ xs) h = refl

head_is : (n : ℕ) → has_bad_header n ≡ false → to_be_bytes w16 n ++ (to_be_bytes w16 1 ++ (0 ∷ 0 ∷ [])) ≡ head_bytes 0 (Some (header_of n))
head_is zero h = refl
head_is (suc zero) h = refl
head_is (suc (suc zero)) h = refl
head_is (suc (suc (suc zero))) h = refl
head_is (suc (suc (suc (suc n)))) h = absurd (above n h)
  where
    above : (n : ℕ) → has_bad_header (suc (suc (suc (suc n)))) ≡ false → ⊥
    above n h = grind arith

version_is : (n : ℕ) → not (n == 1) ≡ false → n ≡ 1
version_is n h = grind arith

none_there : IsSome {T = Header} None → ⊥
none_there h = cc

module _ (xs : List ℕ) (bytes : IsBytes xs) (size : length xs ≡ 64) where
  no_more : (ys : List ℕ) → length ys ≡ 0 → ys ≡ []
  no_more [] h = refl
  no_more (y ∷ ys) h = absurd (omega arith)

  fields_joined : xs ≡ take 6 xs ++ (part 6 2 xs ++ (part 8 4 xs ++ (part 12 4 xs ++ (part 16 4 xs ++ (part 20 4 xs ++ (part 24 4 xs ++ (part 28 4 xs ++ (part 32 20 xs ++ part 52 12 xs))))))))
  fields_joined =
      let last : drop 52 xs ≡ part 52 12 xs = joined 52 12 xs ∙ ap (λ l. part 52 12 xs ++ l) (no_more (drop 64 xs) (simp length-drop (omega arith))) ∙ append-nil (part 52 12 xs) in
      joined 0 6 xs ∙ ap (λ l. take 6 xs ++ l) (joined 6 2 xs ∙ ap (λ l. part 6 2 xs ++ l) (joined 8 4 xs ∙ ap (λ l. part 8 4 xs ++ l) (joined 12 4 xs ∙ ap (λ l. part 12 4 xs ++ l) (joined 16 4 xs ∙ ap (λ l. part 16 4 xs ++ l) (joined 20 4 xs
      ∙ ap (λ l. part 20 4 xs ++ l) (joined 24 4 xs ∙ ap (λ l. part 24 4 xs ++ l) (joined 28 4 xs ∙ ap (λ l. part 28 4 xs ++ l) (joined 32 20 xs ∙ ap (λ l. part 32 20 xs ++ l) last))))))))

  two_back : (at : ℕ) → at + 2 ≤ 64 → to_be_bytes w16 (from_be_bytes w16 (part at 2 xs)) ≡ part at 2 xs
  two_back at l = be_bytes_2 (part at 2 xs) (from_be_bytes w16 (part at 2 xs)) (length-part at 2 xs (omega arith)) (bytes-part at 2 xs bytes) refl

  four_back : (at : ℕ) → at + 4 ≤ 64 → to_be_bytes w32 (number_at at xs) ≡ part at 4 xs
  four_back at l = number_back at xs bytes (omega arith)

  parent_there : (at : ℕ) → at + 4 ≤ 64 → is_no_parent (number_at at xs) ≡ false → (to_be_bytes w32 (parent_number (parent_of (number_at at xs))) ≡ part at 4 xs) × IfSome (parent_of (number_at at xs)) (λ p. p < 2 ^ 31)
  parent_there at l h =
      let p = parent_taken (number_at at xs) (below_32 (part at 4 xs) (bytes-part at 4 xs bytes)) h in
      (ap (to_be_bytes w32) p.0 ∙ four_back at l, p.1)

  zeros_there : (at n : ℕ) → at + n ≤ 64 → is_nonzero (part at n xs) ≡ false → part at n xs ≡ replicate n 0
  zeros_there at n l h = zeros (part at n xs) h ∙ ap (λ k. replicate k 0) (length-part at n xs (omega arith))

  abbrev offset_there : Bool → ℕ
  offset_there first = cond first 0 (from_be_bytes w64 (0 ∷ 0 ∷ take 6 xs))

  abbrev header_there : Bool → Option Header
  header_there first = cond first (Some (header_of (from_be_bytes w16 (part 0 2 xs)))) None

  abbrev entry_there : Bool → Entry
  entry_there first = record {
    offset = offset_there first;
    flags = from_be_bytes w16 (part 6 2 xs);
    stored = number_at 8 xs;
    size = number_at 12 xs;
    base = number_at 16 xs;
    link = number_at 20 xs;
    p1 = parent_of (number_at 24 xs);
    p2 = parent_of (number_at 28 xs);
    node = record { 0 = part 32 20 xs };
  }

  head_there : (first : Bool) → (first && not (from_be_bytes w16 (part 2 2 xs) == 1)) ≡ false → (first && has_bad_header (from_be_bytes w16 (part 0 2 xs))) ≡ false → (first && is_nonzero (part 4 2 xs)) ≡ false
      → take 6 xs ≡ head_bytes (offset_there first) (header_there first)
  head_there false a b c =
      let six = bytes-take 6 xs bytes in
      sym (ap (drop 2) (be_bytes_8 (0 ∷ 0 ∷ take 6 xs) (from_be_bytes w64 (0 ∷ 0 ∷ take 6 xs)) (let l = length-part 0 6 xs (omega arith) in omega arith) (cells 0 (0 ∷ take 6 xs) (omega arith) (cells 0 (take 6 xs) (omega arith) six)) refl))
  head_there true a b c =
      six_parts xs (omega arith)
      ∙ ap (λ l. l ++ (part 2 2 xs ++ part 4 2 xs)) (sym (two_back 0 (omega arith)))
      ∙ ap (λ l. to_be_bytes w16 (from_be_bytes w16 (part 0 2 xs)) ++ (l ++ part 4 2 xs)) (sym (two_back 2 (omega arith)) ∙ ap (to_be_bytes w16) (version_is _ a))
      ∙ ap (λ l. to_be_bytes w16 (from_be_bytes w16 (part 0 2 xs)) ++ (to_be_bytes w16 1 ++ l)) (zeros_there 4 2 (omega arith) c)
      ∙ head_is _ b

  offset_fits : (first : Bool) → offset_there first < 2 ^ 48
  offset_fits true = omega arith
  offset_fits false = below_48 (take 6 xs) (bytes-take 6 xs bytes)

  offset_first : (first : Bool) → IsSome (header_there first) → offset_there first ≡ 0
  offset_first true h = refl
  offset_first false h = absurd (none_there h)

  entry_spelled : (first : Bool) → (first && not (from_be_bytes w16 (part 2 2 xs) == 1)) ≡ false → (first && has_bad_header (from_be_bytes w16 (part 0 2 xs))) ≡ false → has_negative xs ≡ false
      → (is_nonzero (part 52 12 xs) || (first && is_nonzero (part 4 2 xs))) ≡ false
      → (xs ≡ entry_bytes (entry_there first) (header_there first)) × Fits (entry_there first) (header_there first)
  entry_spelled first a b c d =
      let pad = or-none (is_nonzero (part 52 12 xs)) (first && is_nonzero (part 4 2 xs)) d in
      let five = or-none _ (is_no_parent (number_at 28 xs)) c in
      let four = or-none _ (is_no_parent (number_at 24 xs)) five.0 in
      let three = or-none _ (is_negative (number_at 20 xs)) four.0 in
      let two = or-none _ (is_negative (number_at 16 xs)) three.0 in
      let one = or-none (is_negative (number_at 8 xs)) (is_negative (number_at 12 xs)) two.0 in
      let p1 = parent_there 24 (omega arith) four.1 in
      let p2 = parent_there 28 (omega arith) five.1 in
      let head = head_there first a b pad.1 in
      let f6 = sym (two_back 6 (omega arith)) in
      let f8 = sym (four_back 8 (omega arith)) in
      let f12 = sym (four_back 12 (omega arith)) in
      let f16 = sym (four_back 16 (omega arith)) in
      let f20 = sym (four_back 20 (omega arith)) in
      let f24 = sym p1.0 in
      let f28 = sym p2.0 in
      let f52 = zeros_there 52 12 (omega arith) pad.0 in (
        fields_joined ∙ (λ i. head i ++ (f6 i ++ (f8 i ++ (f12 i ++ (f16 i ++ (f20 i ++ (f24 i ++ (f28 i ++ (part 32 20 xs ++ f52 i))))))))),
        record {
          offset = offset_fits first;
          flags = below_16 (part 6 2 xs) (bytes-part 6 2 xs bytes);
          stored = not_negative _ one.0;
          size = not_negative _ one.1;
          base = not_negative _ two.1;
          link = not_negative _ three.1;
          p1 = p1.1;
          p2 = p2.1;
          node = length-part 32 20 xs (omega arith);
          first = offset_first first;
        },
      )

-- Bytes that read as an entry are those that are written of it, and it has room in them.
pub entry_taken : (xs : List ℕ) (rev : ℕ) (e : Entry) → IsBytes xs → length xs ≡ 64 → entry_at xs rev ≡ Ok e → (xs ≡ entry_bytes e (header_within xs rev)) × Fits e (header_within xs rev)
entry_taken xs rev e bytes size h =
    let t = taken _ _ (has_negative xs) (has_padding xs rev) (fields_of xs rev) e h in
    let P : Entry → Type 0 = λ x. (xs ≡ entry_bytes x (header_within xs rev)) × Fits x (header_within xs rev) in
    subst P t.4 (entry_spelled xs bytes size (rev == 0) t.0 t.1 t.2 t.3)
