-- An inline index and the separate revlog that it stands for.
use Rattle.std.proofs.Common.{◌≡◌, ℕ, zero, suc, ◌+◌, ◌-◌, ◌%◌, ◌<◌, ◌≤◌, List, [], ◌∷◌, ◌++◌, Bool, true, false, cond, ◌&&◌, ◌||◌, not, length, take, drop, map, Option, Some, None, Ok, Err, refl, sym, ◌∙◌, ap, arith, append_assoc, append-nil, length-append}
use Rattle.std.specs.Prelude.{flat_map, nat_le, nat_lt, ◌==◌}
use Rattle.std.specs.Int.{w16, w32, from_be_bytes}
use Rattle.std.specs.List.{AllByRecursion, concat}
use Rattle.std.proofs.lemmas.List.{take-append-drop, take-take, drop-take, drop-drop, length-take, length-drop, take_at, drop_at}
use Rattle.std.proofs.lemmas.Nat.{from_be_bytes-to_be_bytes_4}
use Rattle.hgs_index.specs.declared.entry.Entry.{Entry}
use Rattle.hgs_index.specs.declared.entry.Header.{Header}
use Rattle.hgs_index.specs.declared.entry.EntryFault.TheVariants.{Version, HeaderFlags}
use Rattle.hgs_index.specs.Entry.{entry_bytes, part, number_at, is_negative, has_bad_header, header_of, header_at, Fits}
use Rattle.hgs_index.specs.Inline.{says_inline, is_inline, is_cut, whole_item, entries_in, chunks_in, without_inline, index_apart, chunks_apart}
use Rattle.hgs_index.specs.Revision.{Revision, node_after}
use Rattle.hgs_index.specs.Revlog.{Stored, Item, entry_after, items_from, items, item_bytes, index_bytes, Holds, HoldsRevisions}
use Rattle.hgs_index.specs.Theorems.EntryPartLemmas.{length-entry_bytes}
use Rattle.hgs_index.specs.Theorems.UniqueLemmas.{chunk-same, held-unique}

-- the entries alone, and each with its chunk
abbrev pub cells : Option Header → List Item → List ℕ
cells first [] = []
cells first (i ∷ is) = entry_bytes i.entry first ++ cells None is

abbrev pub inlined : Option Header → List Item → List ℕ
inlined first [] = []
inlined first (i ∷ is) = (entry_bytes i.entry first ++ i.chunk) ++ inlined None is

abbrev pub Fit : List Item → Type 0
Fit is = AllByRecursion (λ (i : Item). Fits i.entry None) is

abbrev pub AreStored : List Item → Type 0
AreStored is = AllByRecursion (λ (i : Item). length i.chunk ≡ i.entry.stored) is

abbrev pub chunks_of_items : List Item → List ℕ
chunks_of_items is = concat (map (λ (i : Item). i.chunk) is)

abbrev pub inline_header : Bool → Header
inline_header g = record { inline = true; generaldelta = g }

abbrev pub plain_header : Bool → Header
plain_header g = record { inline = false; generaldelta = g }

rest-plain : (g : Bool) (is : List Item) → flat_map (item_bytes (plain_header g) None) is ≡ cells None is
rest-plain g [] = refl
rest-plain g (i ∷ is) = ap (λ l. l ++ flat_map (item_bytes (plain_header g) None) is) (append-nil (entry_bytes i.entry None)) ∙ ap (λ l. entry_bytes i.entry None ++ l) (rest-plain g is)

pub index-plain : (g : Bool) (is : List Item) → index_bytes (plain_header g) is ≡ cells (Some (plain_header g)) is
index-plain g [] = refl
index-plain g (i ∷ is) = ap (λ l. l ++ flat_map (item_bytes (plain_header g) None) is) (append-nil (entry_bytes i.entry (Some (plain_header g)))) ∙ ap (λ l. entry_bytes i.entry (Some (plain_header g)) ++ l) (rest-plain g is)

rest-inline : (g : Bool) (is : List Item) → flat_map (item_bytes (inline_header g) None) is ≡ inlined None is
rest-inline g [] = refl
rest-inline g (i ∷ is) = ap (λ l. (entry_bytes i.entry None ++ i.chunk) ++ l) (rest-inline g is)

pub index-inline : (g : Bool) (is : List Item) → index_bytes (inline_header g) is ≡ inlined (Some (inline_header g)) is
index-inline g [] = refl
index-inline g (i ∷ is) = ap (λ l. (entry_bytes i.entry (Some (inline_header g)) ++ i.chunk) ++ l) (rest-inline g is)

-- ---- one entry and its chunk

pub stored-at : (e : Entry) (first : Option Header) (rest : List ℕ) → Fits e None → number_at 8 (entry_bytes e first ++ rest) ≡ e.stored
stored-at e None rest fits = from_be_bytes-to_be_bytes_4 e.stored (let l = fits.stored in omega arith)
stored-at e (Some h) rest fits = from_be_bytes-to_be_bytes_4 e.stored (let l = fits.stored in omega arith)

or-both : (a b c : Bool) → a ≡ false → c ≡ false → (a || (b && c)) ≡ false
or-both a true c x y = ap (λ d. d || c) x ∙ y
or-both a false c x y = ap (λ d. d || false) x

least : (n len : ℕ) → n ≤ len → nat_lt len n ≡ false
least n len h = grind arith

pub whole-item : (e : Entry) (first : Option Header) (chunk rest : List ℕ) → Fits e None → length chunk ≡ e.stored → is_cut ((entry_bytes e first ++ chunk) ++ rest) ≡ false
whole-item e first chunk rest fits stored =
    let bytes = (entry_bytes e first ++ chunk) ++ rest in
    let n : number_at 8 bytes ≡ e.stored = ap (number_at 8) (append_assoc (entry_bytes e first) chunk rest) ∙ stored-at e first (chunk ++ rest) fits in
    let len : 64 + e.stored ≤ length bytes = omega (arith, length-append (entry_bytes e first ++ chunk) rest, length-append (entry_bytes e first) chunk, length-entry_bytes e first fits.node, stored) in
    or-both (nat_lt (length bytes) 64) (not (is_negative (number_at 8 bytes))) (nat_lt (length bytes) (64 + number_at 8 bytes)) (least 64 (length bytes) (omega (arith, len)))
    (least (64 + number_at 8 bytes) (length bytes) (omega (arith, len, n)))

module _ (e : Entry) (first : Option Header) (chunk rest : List ℕ) (fits : Fits e None) (stored : length chunk ≡ e.stored) where
  abbrev item : List ℕ
  item = (entry_bytes e first ++ chunk) ++ rest

  item-parts : item ≡ entry_bytes e first ++ (chunk ++ rest)
  item-parts = append_assoc (entry_bytes e first) chunk rest

  pub item-stored : number_at 8 item ≡ e.stored
  item-stored = ap (number_at 8) item-parts ∙ stored-at e first (chunk ++ rest) fits

  pub item-cell : take 64 item ≡ entry_bytes e first
  item-cell = ap (take 64) item-parts ∙ take_at (entry_bytes e first) (chunk ++ rest) 64 (length-entry_bytes e first fits.node)

  item-behind : drop 64 item ≡ chunk ++ rest
  item-behind = ap (drop 64) item-parts ∙ drop_at (entry_bytes e first) (chunk ++ rest) 64 (length-entry_bytes e first fits.node)

  item-chunk : part 64 (number_at 8 item) item ≡ chunk
  item-chunk = ap (λ n. take n (drop 64 item)) item-stored ∙ ap (take e.stored) item-behind ∙ take_at chunk rest e.stored stored

  pub item-rest : drop (64 + number_at 8 item) item ≡ rest
  item-rest = ap (λ n. drop (64 + n) item) item-stored ∙ sym (drop-drop e.stored 64 item) ∙ ap (drop e.stored) item-behind ∙ drop_at chunk rest e.stored stored

  pub entries-item : (n : ℕ) → entries_in (suc n) item ≡ entry_bytes e first ++ entries_in n rest
  entries-item n =
      ap (λ b. cond b (take 63 item) (take 64 item ++ entries_in n (drop (64 + number_at 8 item) item))) (whole-item e first chunk rest fits stored)
      ∙ (λ i. item-cell i ++ entries_in n (item-rest i))

  pub chunks-item : (n : ℕ) → chunks_in (suc n) item ≡ chunk ++ chunks_in n rest
  chunks-item n =
      ap (λ b. cond b [] (part 64 (number_at 8 item) item ++ chunks_in n (drop (64 + number_at 8 item) item))) (whole-item e first chunk rest fits stored)
      ∙ (λ i. item-chunk i ++ chunks_in n (item-rest i))

-- ---- the front of an index

empty : (xs : List ℕ) → length xs ≤ 0 → xs ≡ []
empty [] h = refl
empty (x ∷ xs) h = absurd (omega (arith, h))

pub number-in-cell : (bytes : List ℕ) → number_at 8 (take 64 bytes) ≡ number_at 8 bytes
number-in-cell bytes = ap (λ l. from_be_bytes w32 (take 4 l)) (drop-take 8 56 bytes) ∙ ap (from_be_bytes w32) (take-take 4 56 (drop 8 bytes) (omega arith))

pub item-found : (bytes cell behind : List ℕ) (n : ℕ) → cell ≡ take 64 bytes → behind ≡ drop 64 bytes → 64 ≤ length bytes → n ≡ number_at 8 cell → n ≤ length behind → whole_item bytes ≡ Some (cell, drop n behind)
item-found bytes cell behind n front back-is whole number room =
    let is : number_at 8 bytes ≡ n = sym (number-in-cell bytes) ∙ ap (number_at 8) (sym front) ∙ sym number in
    let len = ap length back-is in
    let left = length-drop 64 bytes in
    ap (λ b. cond b None (Some (take 64 bytes, drop (64 + number_at 8 bytes) bytes)))
    (or-both (nat_lt (length bytes) 64) (not (is_negative (number_at 8 bytes))) (nat_lt (length bytes) (64 + number_at 8 bytes)) (least 64 (length bytes) whole) (least (64 + number_at 8 bytes) (length bytes) (omega (arith, is, room, len, left, whole))))
    ∙ (λ i. Some ((sym front) i, drop (64 + is i) bytes))
    ∙ ap (λ l. Some (cell, l)) (sym (drop-drop n 64 bytes) ∙ ap (drop n) (sym back-is))

pub item-refused : (bytes cell behind : List ℕ) (n : ℕ) → cell ≡ take 64 bytes → behind ≡ drop 64 bytes → 64 ≤ length bytes → n ≡ number_at 8 cell → length behind < n → 2147483648 ≤ n → whole_item bytes ≡ Some (cell, [])
item-refused bytes cell behind n front back-is whole number short high =
    let is : number_at 8 bytes ≡ n = sym (number-in-cell bytes) ∙ ap (number_at 8) (sym front) ∙ sym number in
    let len = ap length back-is in
    let left = length-drop 64 bytes in
    ap (λ b. cond b None (Some (take 64 bytes, drop (64 + number_at 8 bytes) bytes)))
    (or-first (nat_lt (length bytes) 64) (not (is_negative (number_at 8 bytes))) (nat_lt (length bytes) (64 + number_at 8 bytes)) (least 64 (length bytes) whole) (has-sign (number_at 8 bytes) (omega (arith, is, high))))
    ∙ (λ i. Some ((sym front) i, drop (64 + is i) bytes))
    ∙ ap (λ l. Some (cell, l)) (empty (drop (64 + n) bytes) (omega (arith, length-drop (64 + n) bytes, short, len, left)))
  where
    has-sign : (n : ℕ) → 2147483648 ≤ n → not (is_negative n) ≡ false
    has-sign n h = grind arith

    or-first : (a b c : Bool) → a ≡ false → b ≡ false → (a || (b && c)) ≡ false
    or-first a b c x y = ap (λ d. d || (b && c)) x ∙ ap (λ d. d && c) y

-- ---- all of them

pub entries-none : (n : ℕ) → entries_in n [] ≡ []
entries-none zero = refl
entries-none (suc n) = refl

chunks-none : (n : ℕ) → chunks_in n [] ≡ []
chunks-none zero = refl
chunks-none (suc n) = refl

pub entries-inlined : (n : ℕ) (first : Option Header) (is : List Item) → length is ≤ n → Fit is → AreStored is → entries_in n (inlined first is) ≡ cells first is
entries-inlined n first [] few fits stored = entries-none n
entries-inlined zero first (i ∷ is) few fits stored = absurd (omega (arith, few))
entries-inlined (suc n) first (i ∷ is) few fits stored =
    entries-item i.entry first i.chunk (inlined None is) fits.0 stored.0 n ∙ ap (λ l. entry_bytes i.entry first ++ l) (entries-inlined n None is (omega (arith, few)) fits.1 stored.1)

pub chunks-inlined : (n : ℕ) (first : Option Header) (is : List Item) → length is ≤ n → Fit is → AreStored is → chunks_in n (inlined first is) ≡ chunks_of_items is
chunks-inlined n first [] few fits stored = chunks-none n
chunks-inlined zero first (i ∷ is) few fits stored = absurd (omega (arith, few))
chunks-inlined (suc n) first (i ∷ is) few fits stored =
    chunks-item i.entry first i.chunk (inlined None is) fits.0 stored.0 n ∙ ap (λ l. i.chunk ++ l) (chunks-inlined n None is (omega (arith, few)) fits.1 stored.1)

pub few-items : (first : Option Header) (is : List Item) → Fit is → length is ≤ length (inlined first is)
few-items first [] fits = omega arith
few-items first (i ∷ is) fits =
    let rest = few-items None is fits.1 in
    omega (arith, rest, length-append (entry_bytes i.entry first ++ i.chunk) (inlined None is), length-append (entry_bytes i.entry first) i.chunk, length-entry_bytes i.entry first fits.0.node)

pub items-stored : (offset : ℕ) (known : List (List ℕ)) (stored : List Stored) → AreStored (items_from offset known stored)
items-stored offset known [] = tt
items-stored offset known (s ∷ stored) = (refl, items-stored (offset + length s.chunk) (known ++ node_after known s.revision ∷ []) stored)

pub item-chunks : (offset : ℕ) (known : List (List ℕ)) (stored : List Stored) → chunks_of_items (items_from offset known stored) ≡ concat (map (λ s. s.chunk) stored)
item-chunks offset known [] = refl
item-chunks offset known (s ∷ stored) = ap (λ l. s.chunk ++ l) (item-chunks (offset + length s.chunk) (known ++ node_after known s.revision ∷ []) stored)

-- ---- the header

pub plain-cells : (g : Bool) (is : List Item) → without_inline (cells (Some (inline_header g)) is) ≡ cells (Some (plain_header g)) is
plain-cells g [] = refl
plain-cells true (i ∷ is) = refl
plain-cells false (i ∷ is) = refl

pub at-least : (n len : ℕ) → n ≤ len → nat_le n len ≡ true
at-least n len h = grind arith

pub is-inlined : (g : Bool) (i : Item) (is : List Item) → Fits i.entry None → is_inline (inlined (Some (inline_header g)) (i ∷ is)) ≡ true
is-inlined g i is fits =
    let first = Some (inline_header g) in
    let bytes = inlined first (i ∷ is) in
    let len : 64 ≤ length bytes = omega (arith, length-append (entry_bytes i.entry first ++ i.chunk) (inlined None is), length-append (entry_bytes i.entry first) i.chunk, length-entry_bytes i.entry first fits.node) in
    ap (λ b. b && says_inline (header_at bytes)) (at-least 4 (length bytes) (omega (arith, len))) ∙ says g
  where
    says : (g : Bool) → says_inline (header_at (inlined (Some (inline_header g)) (i ∷ is))) ≡ true
    says true = refl
    says false = refl

apart-inlined : (g : Bool) (is : List Item) → Fit is → AreStored is → index_apart (inlined (Some (inline_header g)) is) ≡ cells (Some (plain_header g)) is
apart-inlined g [] fits stored = refl
apart-inlined g (i ∷ is) fits stored =
    let bytes = inlined (Some (inline_header g)) (i ∷ is) in
    ap (λ b. cond b (without_inline (entries_in (length bytes) bytes)) bytes) (is-inlined g i is fits.0)
    ∙ ap without_inline (entries-inlined (length bytes) (Some (inline_header g)) (i ∷ is) (few-items (Some (inline_header g)) (i ∷ is) fits) fits stored)
    ∙ plain-cells g (i ∷ is)

pub header-is : (b : Bool) (h : Header) → h.inline ≡ b → h ≡ record { inline = b; generaldelta = h.generaldelta }
header-is b h form = λ i. record { inline = form i; generaldelta = h.generaldelta }

-- the chunks that an inline index is taken apart into are those of the revisions that it holds
pub apart-chunks : (index data_bytes : List ℕ) (revisions : List Revision) (h : Holds true index data_bytes revisions) → chunks_apart index ≡ concat (map (λ s. s.chunk) h.stored)
apart-chunks index data_bytes revisions h =
    let is = items h.stored in
    let g = h.header.generaldelta in
    let first = Some (inline_header g) in
    let spelled : index ≡ inlined first is = h.index_is ∙ ap (λ k. index_bytes k is) (header-is true h.header h.form) ∙ index-inline g is in
    ap chunks_apart spelled ∙ chunks-inlined (length (inlined first is)) first is (few-items first is h.fits) h.fits (items-stored 0 [] h.stored) ∙ item-chunks 0 [] h.stored

-- An inline index that holds revisions is taken apart into an index and data that hold them.
pub held-apart : (index data_bytes : List ℕ) (revisions : List Revision) → Holds true index data_bytes revisions → HoldsRevisions (index_apart index) (chunks_apart index) revisions
held-apart index data_bytes revisions h =
    let is = items h.stored in
    let g = h.header.generaldelta in
    let first = Some (inline_header g) in
    let stored = items-stored 0 [] h.stored in
    let spelled : index ≡ inlined first is = h.index_is ∙ ap (λ k. index_bytes k is) (header-is true h.header h.form) ∙ index-inline g is in
    record {
      header = plain_header g;
      stored = h.stored;
      these = h.these;
      texts = h.texts;
      earlier = h.earlier;
      fits = h.fits;
      different = h.different;
      not_null = h.not_null;
      form = refl;
      index_is = ap index_apart spelled ∙ apart-inlined g is h.fits stored ∙ sym (index-plain g is);
      data_is = apart-chunks index data_bytes revisions h;
    }

-- ---- what stands behind

pub entries-behind : (n : ℕ) (first : Option Header) (is : List Item) (more : List ℕ) → length is ≤ n → Fit is → AreStored is → (rest : List ℕ) × (entries_in n (inlined first is ++ more) ≡ cells first is ++ rest)
entries-behind n first [] more few fits stored = (entries_in n more, refl)
entries-behind zero first (i ∷ is) more few fits stored = absurd (omega (arith, few))
entries-behind (suc n) first (i ∷ is) more few fits stored =
    let behind = entries-behind n None is more (omega (arith, few)) fits.1 stored.1 in (
      behind.0,
      ap (entries_in (suc n)) (append_assoc (entry_bytes i.entry first ++ i.chunk) (inlined None is) more)
          ∙ entries-item i.entry first i.chunk (inlined None is ++ more) fits.0 stored.0 n
          ∙ ap (λ l. entry_bytes i.entry first ++ l) behind.1
          ∙ sym (append_assoc (entry_bytes i.entry first) (cells None is) behind.0),
    )

pub chunks-behind : (n : ℕ) (first : Option Header) (is : List Item) (more : List ℕ) → length is ≤ n → Fit is → AreStored is → (rest : List ℕ) × (chunks_in n (inlined first is ++ more) ≡ chunks_of_items is ++ rest)
chunks-behind n first [] more few fits stored = (chunks_in n more, refl)
chunks-behind zero first (i ∷ is) more few fits stored = absurd (omega (arith, few))
chunks-behind (suc n) first (i ∷ is) more few fits stored =
    let behind = chunks-behind n None is more (omega (arith, few)) fits.1 stored.1 in (
      behind.0,
      ap (chunks_in (suc n)) (append_assoc (entry_bytes i.entry first ++ i.chunk) (inlined None is) more)
          ∙ chunks-item i.entry first i.chunk (inlined None is ++ more) fits.0 stored.0 n
          ∙ ap (λ l. i.chunk ++ l) behind.1
          ∙ sym (append_assoc i.chunk (chunks_of_items is) behind.0),
    )

-- the header of an entry is changed in front of what follows
cleared-front : (g : Bool) (i : Item) (is : List Item) (rest : List ℕ) → without_inline (cells (Some (inline_header g)) (i ∷ is) ++ rest) ≡ without_inline (cells (Some (inline_header g)) (i ∷ is)) ++ rest
cleared-front true i is rest = refl
cleared-front false i is rest = refl

-- The same where more stands behind the bytes that hold revisions: what they are taken apart into is in front.
pub apart-front : (front more data_bytes : List ℕ) (r : Revision) (revisions : List Revision) → is_inline (front ++ more) ≡ true → Holds true front data_bytes (r ∷ revisions)
    → ((rest : List ℕ) × (index_apart (front ++ more) ≡ index_apart front ++ rest)) × ((rest : List ℕ) × (chunks_apart (front ++ more) ≡ chunks_apart front ++ rest))
apart-front front more data_bytes r revisions inline h = by h.stored h.these h.fits (h.index_is ∙ ap (λ k. index_bytes k (items h.stored)) (header-is true h.header h.form) ∙ index-inline h.header.generaldelta (items h.stored))
  where
    g : Bool
    g = h.header.generaldelta

    first : Option Header
    first = Some (inline_header g)

    n : ℕ
    n = length (front ++ more)

    by : (stored : List Stored) → map (λ s. s.revision) stored ≡ r ∷ revisions → Fit (items stored) → front ≡ inlined first (items stored)
        → ((rest : List ℕ) × (index_apart (front ++ more) ≡ index_apart front ++ rest)) × ((rest : List ℕ) × (chunks_apart (front ++ more) ≡ chunks_apart front ++ rest))
    by [] these fits is = cc
    by (s ∷ stored) these fits is =
        let all : List Item = items (s ∷ stored) in
        let few : length all ≤ n = (let k = few-items first all fits in omega (arith, k, ap length is, length-append front more)) in
        let kept = items-stored 0 [] (s ∷ stored) in
        let entries = entries-behind n first all more few fits kept in
        let chunks = chunks-behind n first all more few fits kept in (
          (
            entries.0,
            ap (λ b. cond b (without_inline (entries_in n (front ++ more))) (front ++ more)) inline
                ∙ ap (λ l. without_inline (entries_in n (l ++ more))) is ∙ ap without_inline entries.1
                ∙ cleared-front g (record { entry = entry_after 0 [] s; chunk = s.chunk }) (items_from (0 + length s.chunk) (node_after [] s.revision ∷ []) stored) entries.0
                ∙ ap (λ l. l ++ entries.0) (plain-cells g all ∙ sym (apart-inlined g all fits kept) ∙ ap index_apart (sym is)),
          ),
          (
            chunks.0,
            ap (λ l. chunks_in n (l ++ more)) is ∙ chunks.1
                ∙ ap (λ l. l ++ chunks.0) (sym (chunks-inlined (length (inlined first all)) first all (few-items first all fits) fits kept) ∙ ap chunks_apart (sym is)),
          ),
        )

-- ---- back

no-cells : (n : ℕ) (bytes : List ℕ) → entries_in (suc n) bytes ≡ [] → bytes ≡ []
no-cells n [] h = refl
no-cells n (x ∷ xs) h = absurd (by (is_cut (x ∷ xs)) h)
  where
    by : (b : Bool) → cond b (take 63 (x ∷ xs)) (take 64 (x ∷ xs) ++ entries_in n (drop (64 + number_at 8 (x ∷ xs)) (x ∷ xs))) ≡ [] → ⊥
    by true k = cc
    by false k = cc

first-false : (a b c : Bool) → (a || (b && c)) ≡ false → a ≡ false
first-false true b c h = cc
first-false false b c h = refl

last-false : (a b c : Bool) → (a || (b && c)) ≡ false → b ≡ true → c ≡ false
last-false true b c h k = cc
last-false false true c h k = h
last-false false false c h k = cc

reached : (n len : ℕ) → nat_lt len n ≡ false → n ≤ len
reached n len h = grind arith

not-negative : (n : ℕ) → n < 2147483648 → not (is_negative n) ≡ true
not-negative n h = grind arith

back : (n : ℕ) (first : Option Header) (bytes : List ℕ) (is : List Item) (left : List ℕ) → length bytes ≤ n → Fit is → AreStored is
    → entries_in n bytes ≡ cells first is → chunks_in n bytes ≡ chunks_of_items is ++ left → bytes ≡ inlined first is
back zero first bytes [] left few fits stored entries chunks = empty bytes few
back zero first bytes (i ∷ is) left few fits stored entries chunks =
    absurd (let e = ap length entries in omega (arith, e, length-append (entry_bytes i.entry first) (cells None is), length-entry_bytes i.entry first fits.0.node))
back (suc n) first bytes [] left few fits stored entries chunks = no-cells n bytes entries
back (suc n) first bytes (i ∷ is) left few fits stored entries chunks = by (is_cut bytes) refl entries chunks (λ rest short es cs. back n None rest is left short fits.1 stored.1 es cs)
  where
    cell : List ℕ
    cell = entry_bytes i.entry first

    by : (b : Bool) → is_cut bytes ≡ b
        → cond b (take 63 bytes) (take 64 bytes ++ entries_in n (drop (64 + number_at 8 bytes) bytes)) ≡ cell ++ cells None is
        → cond b [] (part 64 (number_at 8 bytes) bytes ++ chunks_in n (drop (64 + number_at 8 bytes) bytes)) ≡ (i.chunk ++ chunks_of_items is) ++ left
        → ((rest : List ℕ) → length rest ≤ n → entries_in n rest ≡ cells None is → chunks_in n rest ≡ chunks_of_items is ++ left → rest ≡ inlined None is)
        → bytes ≡ (cell ++ i.chunk) ++ inlined None is
    by true t e c next =
        absurd (let len = ap length e in omega (arith, len, length-take 63 bytes, length-append cell (cells None is), length-entry_bytes i.entry first fits.0.node))
    by false t e c next =
        let k = number_at 8 bytes in
        let low = first-false (nat_lt (length bytes) 64) (not (is_negative k)) (nat_lt (length bytes) (64 + k)) t in
        let whole : 64 ≤ length bytes = reached 64 (length bytes) low in
        let cell-length : length (take 64 bytes) ≡ length cell = omega (arith, length-take 64 bytes, whole, length-entry_bytes i.entry first fits.0.node) in
        let front = chunk-same (take 64 bytes) cell (entries_in n (drop (64 + k) bytes)) (cells None is) cell-length e in
        let k-is : k ≡ i.entry.stored = ap (number_at 8) (sym (take-append-drop 64 bytes)) ∙ ap (λ l. number_at 8 (l ++ drop 64 bytes)) front.0 ∙ stored-at i.entry first (drop 64 bytes) fits.0 in
        let small = fits.0.stored in
        let room : 64 + k ≤ length bytes = reached (64 + k) (length bytes) (last-false (nat_lt (length bytes) 64) (not (is_negative k)) (nat_lt (length bytes) (64 + k)) t (not-negative k (omega (arith, k-is, small)))) in
        let same-size = stored.0 in
        let chunk-length : length (part 64 k bytes) ≡ length i.chunk = omega (arith, length-take k (drop 64 bytes), length-drop 64 bytes, k-is, room, same-size) in
        let behind = chunk-same (part 64 k bytes) i.chunk (chunks_in n (drop (64 + k) bytes)) (chunks_of_items is ++ left) chunk-length (c ∙ append_assoc i.chunk (chunks_of_items is) left) in
        let rest = next (drop (64 + k) bytes) (omega (arith, length-drop (64 + k) bytes, few)) front.1 behind.1 in
        sym (take-append-drop 64 bytes)
        ∙ ap (λ l. l ++ drop 64 bytes) front.0
        ∙ ap (λ l. cell ++ l) (sym (take-append-drop k (drop 64 bytes)) ∙ ap (λ l. l ++ drop k (drop 64 bytes)) behind.0 ∙ ap (λ l. i.chunk ++ l) (drop-drop k 64 bytes ∙ rest))
        ∙ sym (append_assoc cell i.chunk (inlined None is))

abbrev with_inline : List ℕ → List ℕ
with_inline [] = []
with_inline (a ∷ []) = a ∷ []
with_inline (a ∷ b ∷ bytes) = a ∷ suc b ∷ bytes

inline-cells : (g : Bool) (is : List Item) → with_inline (cells (Some (plain_header g)) is) ≡ cells (Some (inline_header g)) is
inline-cells g [] = refl
inline-cells true (i ∷ is) = refl
inline-cells false (i ∷ is) = refl

says-so : (x y : Bool) (h : Header) → says_inline (cond x (Err Version) (cond y (Err HeaderFlags) (Ok h))) ≡ true → h.inline ≡ true
says-so true y h e = cc
says-so false true h e = cc
says-so false false h e = e

second-true : (a b : Bool) → (a && b) ≡ true → b ≡ true
second-true true b h = h
second-true false b h = cc

odd : (a b : ℕ) (xs : List ℕ) → is_inline (a ∷ b ∷ xs) ≡ true → 1 ≤ b
odd a b xs h =
    low (says-so (not (from_be_bytes w16 (part 2 2 (a ∷ b ∷ xs)) == 1)) (has_bad_header (from_be_bytes w16 (a ∷ b ∷ []))) (header_of (from_be_bytes w16 (a ∷ b ∷ [])))
    (second-true (nat_le 4 (length (a ∷ b ∷ xs))) (says_inline (header_at (a ∷ b ∷ xs))) h))
  where
    is-one : (n : ℕ) → (n == 1) ≡ true → n ≡ 1
    is-one n e = grind arith

    low : (from_be_bytes w16 (a ∷ b ∷ []) % 2 == 1) ≡ true → 1 ≤ b
    low e = let r = is-one (from_be_bytes w16 (a ∷ b ∷ []) % 2) e in omega (arith, r)

restored : (n : ℕ) (index : List ℕ) → is_inline index ≡ true → with_inline (without_inline (entries_in n index)) ≡ entries_in n index
restored zero index h = refl
restored (suc n) [] h = cc
restored (suc n) (a ∷ []) h = cc
restored (suc n) (a ∷ b ∷ xs) h = by (is_cut (a ∷ b ∷ xs))
  where
    back-again : suc (b - 1) ≡ b
    back-again = let o = odd a b xs h in omega (arith, o)

    by : (c : Bool) → with_inline (without_inline (cond c (take 63 (a ∷ b ∷ xs)) (take 64 (a ∷ b ∷ xs) ++ entries_in n (drop (64 + number_at 8 (a ∷ b ∷ xs)) (a ∷ b ∷ xs)))))
        ≡ cond c (take 63 (a ∷ b ∷ xs)) (take 64 (a ∷ b ∷ xs) ++ entries_in n (drop (64 + number_at 8 (a ∷ b ∷ xs)) (a ∷ b ∷ xs)))
    by true = λ i. a ∷ back-again i ∷ take 61 xs
    by false = λ i. a ∷ back-again i ∷ (take 62 xs ++ entries_in n (drop (64 + number_at 8 (a ∷ b ∷ xs)) (a ∷ b ∷ xs)))

-- An inline index holds the revisions that it is taken apart into: no byte is left over.
pub apart-held : (index data_bytes used left : List ℕ) (revisions : List Revision) → is_inline index ≡ true → HoldsRevisions (index_apart index) used revisions → chunks_apart index ≡ used ++ left → Holds true index data_bytes revisions
apart-held index data_bytes used left revisions inline h chunks =
    let is = items h.stored in
    let g = h.header.generaldelta in
    let n = length index in
    let entries : without_inline (entries_in n index) ≡ cells (Some (plain_header g)) is =
    sym (ap (λ b. cond b (without_inline (entries_in n index)) index) inline) ∙ h.index_is ∙ ap (λ k. index_bytes k is) (header-is false h.header h.form) ∙ index-plain g is in
    let raw : entries_in n index ≡ cells (Some (inline_header g)) is = sym (restored n index inline) ∙ ap with_inline entries ∙ inline-cells g is in
    let spelled = back n (Some (inline_header g)) index is left (omega arith) h.fits (items-stored 0 [] h.stored) raw (chunks ∙ ap (λ l. l ++ left) (h.data_is ∙ sym (item-chunks 0 [] h.stored))) in
    record {
      header = inline_header g;
      stored = h.stored;
      these = h.these;
      texts = h.texts;
      earlier = h.earlier;
      fits = h.fits;
      different = h.different;
      not_null = h.not_null;
      form = refl;
      index_is = spelled ∙ sym (index-inline g is);
      data_is = tt;
    }

-- An inline index holds at most one list of revisions, whatever stands beside it.
pub inline-unique : (index one other : List ℕ) (r q : List Revision) → Holds true index one r → Holds true index other q → r ≡ q
inline-unique index one other r q a b = held-unique (index_apart index) (chunks_apart index) r q (held-apart index one r a) (held-apart index other q b)

-- The index of a separate revlog that has a revision does not say that it is inline, whatever stands behind it.
pub held-plain : (index data_bytes more : List ℕ) (r : Revision) (revisions : List Revision) → HoldsRevisions index data_bytes (r ∷ revisions) → is_inline (index ++ more) ≡ false
held-plain index data_bytes more r revisions h =
    ap (λ l. is_inline (l ++ more)) (h.index_is ∙ ap (λ k. index_bytes k (items h.stored)) (header-is false h.header h.form)) ∙ by h.header.generaldelta h.stored h.these
  where
    nothing : (b : Bool) → (b && false) ≡ false
    nothing true = refl
    nothing false = refl

    by : (g : Bool) (stored : List Stored) → map (λ s. s.revision) stored ≡ r ∷ revisions → is_inline (index_bytes (plain_header g) (items stored) ++ more) ≡ false
    by g [] these = cc
    by true (s ∷ stored) these = nothing (nat_le 4 (length (index_bytes (plain_header true) (items (s ∷ stored)) ++ more)))
    by false (s ∷ stored) these = nothing (nat_le 4 (length (index_bytes (plain_header false) (items (s ∷ stored)) ++ more)))

-- what a separate index begins with is separate
header-front : (m : ℕ) (index : List ℕ) → header_at (take (suc (suc (suc (suc m)))) index) ≡ header_at index
header-front m [] = refl
header-front m (a ∷ []) = refl
header-front m (a ∷ b ∷ []) = refl
header-front m (a ∷ b ∷ c ∷ []) = refl
header-front m (a ∷ b ∷ c ∷ d ∷ index) = refl

pub fronts-separate : (n : ℕ) (index : List ℕ) → is_inline index ≡ false → is_inline (take n index) ≡ false
fronts-separate n index plain = by (nat_le 4 (length (take n index))) refl
  where
    most : (a b : ℕ) → nat_le a b ≡ true → a ≤ b
    most a b h = grind arith

    second-false : (a b : Bool) → a ≡ true → (a && b) ≡ false → b ≡ false
    second-false true b h k = k
    second-false false b h k = cc

    by : (b : Bool) → nat_le 4 (length (take n index)) ≡ b → (nat_le 4 (length (take n index)) && says_inline (header_at (take n index))) ≡ false
    by false t = ap (λ b. b && says_inline (header_at (take n index))) t
    by true t =
        let whole = most 4 (length (take n index)) t in
        let len = length-take n index in
        let long : n ≡ suc (suc (suc (suc (n - 4)))) = omega (arith, len, whole) in
        let same-header : header_at (take n index) ≡ header_at index = ap (λ m. header_at (take m index)) long ∙ header-front (n - 4) index in
        ap (λ b. b && says_inline (header_at (take n index))) t
        ∙ ap says_inline same-header
        ∙ second-false (nat_le 4 (length index)) (says_inline (header_at index)) (at-least 4 (length index) (omega (arith, len, whole))) plain
