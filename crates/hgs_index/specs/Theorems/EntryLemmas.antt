-- What an entry's bytes read as.
use Rattle.std.proofs.Common.{◌≡◌, ℕ, ◌+◌, ◌*◌, ◌/◌, ◌%◌, ◌^◌, ◌<◌, Bool, true, false, cond, List, [], ◌∷◌, take, drop, Option, Some, None, Result, Ok, Err, IsSome, refl, sym, ap, ◌∙◌, arith}
use Rattle.std.specs.Prelude.{◌||◌, ◌==◌, IfSome, replicate}
use Rattle.std.specs.Int.{w16, w32, w64, from_be_bytes, to_be_bytes}
use Rattle.std.proofs.Common.{inl, inr}
use Rattle.std.proofs.lemmas.Bool.{cases_eq}
use Rattle.std.proofs.lemmas.List.{take_at, drop_at}
use Rattle.std.proofs.lemmas.Nat.{from_be_bytes-to_be_bytes_2, from_be_bytes-to_be_bytes_4, from_be_bytes-to_be_bytes_8}
use Rattle.hgs_index.specs.declared.entry.Entry.{Entry}
use Rattle.hgs_index.specs.declared.entry.Header.{Header}
use Rattle.hgs_index.specs.declared.entry.EntryFault.{EntryFault}
use Rattle.hgs_index.specs.declared.entry.EntryFault.TheVariants.{Version, HeaderFlags, Negative, Padding}
use Rattle.hgs_index.specs.Entry.{Fits, bit, parent_number, entry_bytes, is_negative, is_no_parent, parent_of, has_negative, has_padding, has_bad_header, fields_of, entry_at, header_at}

apart_test : (n : ℕ) → (n ≡ 0 → ⊥) → (n == 0) ≡ false
apart_test n h = grind arith

below : (n : ℕ) → n < 2 ^ 31 → is_negative n ≡ false
below n h = grind arith

-- the tests, one after another
no_fault : (a b c d : Bool) (x : Result Entry EntryFault) → a ≡ false → b ≡ false → c ≡ false → d ≡ false → cond a (Err Version) (cond b (Err HeaderFlags) (cond c (Err Negative) (cond d (Err Padding) x))) ≡ x
no_fault a b c d x p q r s = rw (p, q, r, s)

none_of : (a b c d e f : Bool) → a ≡ false → b ≡ false → c ≡ false → d ≡ false → e ≡ false → f ≡ false → (a || b || c || d || e || f) ≡ false
none_of a b c d e f p q r s t u = rw (p, q, r, s, t, u)

pub parent_back : (p : Option ℕ) → IfSome p (λ r. r < 2 ^ 31) → (parent_of (parent_number p) ≡ p) × (is_no_parent (parent_number p) ≡ false) × (parent_number p < 2 ^ 32)
parent_back None h = (refl, refl, omega arith)
parent_back (Some r) h =
    let far : (r == 0xffff_ffff) ≡ false = grind arith in
    (rw far, grind arith, omega arith)

word : (n : ℕ) → n < 2 ^ 31 → from_be_bytes w32 (to_be_bytes w32 n) ≡ n
word n h = from_be_bytes-to_be_bytes_4 n (omega arith)

six : (n : ℕ) → n < 2 ^ 48 → from_be_bytes w64 (0 ∷ 0 ∷ drop 2 (to_be_bytes w64 n)) ≡ n
six n h =
    let top : n / 72057594037927936 % 256 ≡ 0 = omega arith in
    let next : n / 281474976710656 % 256 ≡ 0 = omega arith in
    let all = from_be_bytes-to_be_bytes_8 n (omega arith) in
    omega (arith, all)

same_fields : (e : Entry) (offset flags stored size base link : ℕ) (p1 p2 : Option ℕ) (node : List ℕ) →
    offset ≡ e.offset → flags ≡ e.flags → stored ≡ e.stored → size ≡ e.size → base ≡ e.base → link ≡ e.link → p1 ≡ e.p1 → p2 ≡ e.p2 → node ≡ e.node.0 →
    ◌≡◌ {A = Entry} (record { offset = offset; flags = flags; stored = stored; size = size; base = base; link = link; p1 = p1; p2 = p2; node = record { 0 = node } }) e
same_fields e offset flags stored size base link p1 p2 node a b c d f g h k l =
    λ i. record { offset = a i; flags = b i; stored = c i; size = d i; base = f i; link = g i; p1 = h i; p2 = k i; node = record { 0 = l i } }

module _ (e : Entry) (fits : Fits e None) where
  negatives : has_negative (entry_bytes e None) ≡ false
  negatives = none_of _ _ _ _ _ _
      (ap is_negative (word e.stored fits.stored) ∙ below e.stored fits.stored) (ap is_negative (word e.size fits.size) ∙ below e.size fits.size)
      (ap is_negative (word e.base fits.base) ∙ below e.base fits.base) (ap is_negative (word e.link fits.link) ∙ below e.link fits.link)
      (let p = parent_back e.p1 fits.p1 in ap is_no_parent (from_be_bytes-to_be_bytes_4 (parent_number e.p1) p.2) ∙ p.1)
      (let p = parent_back e.p2 fits.p2 in ap is_no_parent (from_be_bytes-to_be_bytes_4 (parent_number e.p2) p.2) ∙ p.1)

  padding : (rev : ℕ) → (rev == 0) ≡ false → has_padding (entry_bytes e None) rev ≡ false
  padding rev later = rw (drop_at e.node.0 (replicate 12 0) 20 fits.node, later)

  fields : (rev : ℕ) → (rev == 0) ≡ false → fields_of (entry_bytes e None) rev ≡ e
  fields rev later = same_fields e _ _ _ _ _ _ _ _ _
      (rw later (six e.offset fits.offset))
      (from_be_bytes-to_be_bytes_2 e.flags fits.flags)
      (word e.stored fits.stored) (word e.size fits.size) (word e.base fits.base) (word e.link fits.link)
      (ap parent_of (from_be_bytes-to_be_bytes_4 (parent_number e.p1) (parent_back e.p1 fits.p1).2) ∙ (parent_back e.p1 fits.p1).0)
      (ap parent_of (from_be_bytes-to_be_bytes_4 (parent_number e.p2) (parent_back e.p2 fits.p2).2) ∙ (parent_back e.p2 fits.p2).0)
      (take_at e.node.0 (replicate 12 0) 20 fits.node)

  pub later_again : (rev : ℕ) → (rev == 0) ≡ false → entry_at (entry_bytes e None) rev ≡ Ok e
  later_again rev later = no_fault _ _ _ _ _ (rw later) (rw later) negatives (padding rev later) ∙ ap (λ x. Ok x) (fields rev later)

bits_taken : (a b : Bool) → has_bad_header (from_be_bytes w16 (0 ∷ (bit a + 2 * bit b) ∷ [])) ≡ false
bits_taken true true = refl
bits_taken true false = refl
bits_taken false true = refl
bits_taken false false = refl

module _ (e : Entry) (h : Header) (fits : Fits e (Some h)) where
  negatives_first : has_negative (entry_bytes e (Some h)) ≡ false
  negatives_first = none_of _ _ _ _ _ _
      (ap is_negative (word e.stored fits.stored) ∙ below e.stored fits.stored) (ap is_negative (word e.size fits.size) ∙ below e.size fits.size)
      (ap is_negative (word e.base fits.base) ∙ below e.base fits.base) (ap is_negative (word e.link fits.link) ∙ below e.link fits.link)
      (let p = parent_back e.p1 fits.p1 in ap is_no_parent (from_be_bytes-to_be_bytes_4 (parent_number e.p1) p.2) ∙ p.1)
      (let p = parent_back e.p2 fits.p2 in ap is_no_parent (from_be_bytes-to_be_bytes_4 (parent_number e.p2) p.2) ∙ p.1)

  padding_first : has_padding (entry_bytes e (Some h)) 0 ≡ false
  padding_first = rw (drop_at e.node.0 (replicate 12 0) 20 fits.node)

  fields_first : fields_of (entry_bytes e (Some h)) 0 ≡ e
  fields_first = same_fields e _ _ _ _ _ _ _ _ _
      (sym (fits.first refl))
      (from_be_bytes-to_be_bytes_2 e.flags fits.flags)
      (word e.stored fits.stored) (word e.size fits.size) (word e.base fits.base) (word e.link fits.link)
      (ap parent_of (from_be_bytes-to_be_bytes_4 (parent_number e.p1) (parent_back e.p1 fits.p1).2) ∙ (parent_back e.p1 fits.p1).0)
      (ap parent_of (from_be_bytes-to_be_bytes_4 (parent_number e.p2) (parent_back e.p2 fits.p2).2) ∙ (parent_back e.p2 fits.p2).0)
      (take_at e.node.0 (replicate 12 0) 20 fits.node)

  pub first_again : entry_at (entry_bytes e (Some h)) 0 ≡ Ok e
  first_again = no_fault _ _ _ _ _ refl (bits_taken h.inline h.generaldelta) negatives_first padding_first ∙ ap (λ x. Ok x) fields_first

none_there : IsSome {T = Header} None → ⊥
none_there h = cc

pub entry_again : (e : Entry) (h : Option Header) (rev : ℕ) → Fits e h → (IsSome h → rev ≡ 0) → (rev ≡ 0 → IsSome h) → entry_at (entry_bytes e h) rev ≡ Ok e
entry_again e None rev fits a b = later_again e fits rev (elim (cases_eq rev 0) [ inl same ↦ absurd (none_there (b same)) | inr apart ↦ apart_test rev apart ])
entry_again e (Some h) rev fits a b = ap (entry_at (entry_bytes e (Some h))) (a refl) ∙ first_again e h fits

header_back : (a b : Bool) → header_at (0 ∷ (bit a + 2 * bit b) ∷ 0 ∷ 1 ∷ []) ≡ Ok (record { inline = a; generaldelta = b })
header_back true true = refl
header_back true false = refl
header_back false true = refl
header_back false false = refl

pub header_again : (e : Entry) (h : Header) → header_at (take 4 (entry_bytes e (Some h))) ≡ Ok h
header_again e h = header_back h.inline h.generaldelta
