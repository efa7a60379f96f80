-- The links of the entries in a front of an index that holds revisions.
use Rattle.std.proofs.Common.{◌≡◌, ◌⊎◌, ℕ, zero, suc, ◌+◌, ◌-◌, ◌*◌, ◌<◌, ◌≤◌, List, [], ◌∷◌, ◌++◌, Bool, true, false, cond, ◌&&◌, ◌||◌, not, length, map, take, drop, refl, sym, ◌∙◌, ap, subst, inl, inr, arith, append_assoc, length-append, take-append-drop}
use Rattle.std.specs.Prelude.{Option, Some, None, nat_lt, slice_get}
use Rattle.std.specs.Int.{w32, from_be_bytes}
use Rattle.std.proofs.lemmas.List.{drop-append-le, drop-drop, drop_at, length-drop, length-take, take-append-le, take_at}
use Rattle.std.proofs.lemmas.Nat.{from_be_bytes-to_be_bytes_4}
use Rattle.hgs_bytes.specs.Bytes.{IsPrefixOf}
use Rattle.hgs_index.specs.declared.entry.Entry.{Entry}
use Rattle.hgs_index.specs.declared.entry.Header.{Header}
use Rattle.hgs_index.specs.Either.{BeginsEither, HoldsEither}
use Rattle.hgs_index.specs.Entry.{Fits, entry_bytes, is_negative, number_at}
use Rattle.hgs_index.specs.Inline.{entries_in, index_apart, is_cut, is_inline, without_inline}
use Rattle.hgs_index.specs.Revision.{Revision, node_after}
use Rattle.hgs_index.specs.Revlog.{Begins, Holds, HoldsRevisions, Item, Stored, entry_after, index_bytes, items, items_from}
use Rattle.hgs_index.specs.Theorems.EitherLemmas.{form-more}
use Rattle.hgs_index.specs.Theorems.EntryPartLemmas.{length-entry_bytes}
use Rattle.hgs_index.specs.Theorems.InlineLemmas.{Fit, apart-front, cells, entries-item, entries-none, header-is, held-apart, index-inline, index-plain, inline_header, inlined, plain_header, stored-at}
use Rattle.hgs_index.specs.Theorems.RevlogLemmas.{length-held}
use Rattle.hgs_links.specs.Links.{IsParted}
use Rattle.hgs_links.specs.Fronts.{IsCutByLinks, link_in}

-- each whole entry of the index is of a revision, with its link
abbrev pub IsTold : List ℕ → List Revision → Type 0
IsTold index revisions = (rev : ℕ) → 64 * rev + 64 ≤ length index → (r : Revision) × (slice_get revisions rev ≡ Some r) × (link_in index rev ≡ r.link)

never : {A : Type 0} → true ≡ false → A
never e = cc

-- ---- numbers in fronts

pub number-front : (at : ℕ) (bytes more : List ℕ) → at + 4 ≤ length bytes → number_at at (bytes ++ more) ≡ number_at at bytes
number-front at bytes more le =
    ap (λ l. from_be_bytes w32 (take 4 l)) (drop-append-le at bytes more (omega (arith, le)))
    ∙ ap (from_be_bytes w32) (take-append-le 4 (drop at bytes) more (omega (arith, le, length-drop at bytes)))

link-front : (bytes more : List ℕ) (rev : ℕ) → 64 * rev + 64 ≤ length bytes → link_in (bytes ++ more) rev ≡ link_in bytes rev
link-front bytes more rev le =
    ap (number_at 20) (drop-append-le (64 * rev) bytes more (omega (arith, le)))
    ∙ number-front 20 (drop (64 * rev) bytes) more (omega (arith, le, length-drop (64 * rev) bytes))

pub link-first : (e : Entry) (first : Option Header) (rest : List ℕ) → Fits e None → link_in (entry_bytes e first ++ rest) 0 ≡ e.link
link-first e None rest fits = from_be_bytes-to_be_bytes_4 e.link (let l = fits.link in omega arith)
link-first e (Some h) rest fits = from_be_bytes-to_be_bytes_4 e.link (let l = fits.link in omega arith)

pub link-behind : (e : Entry) (first : Option Header) (rest : List ℕ) (rev : ℕ) → Fits e None → link_in (entry_bytes e first ++ rest) (suc rev) ≡ link_in rest rev
link-behind e first rest rev fits =
    let n : 64 * suc rev ≡ 64 + 64 * rev = omega arith in
    ap (λ k. number_at 20 (drop k (entry_bytes e first ++ rest))) n
    ∙ ap (number_at 20) (sym (drop-drop (64 * rev) 64 (entry_bytes e first ++ rest)) ∙ ap (drop (64 * rev)) (drop_at (entry_bytes e first) rest 64 (length-entry_bytes e first fits.node)))

-- ---- a separate index

told-cells : (offset : ℕ) (known : List (List ℕ)) (stored : List Stored) (first : Option Header) (rev : ℕ) → Fit (items_from offset known stored) → rev < length stored
    → (r : Revision) × (slice_get (map (λ (s : Stored). s.revision) stored) rev ≡ Some r) × (link_in (cells first (items_from offset known stored)) rev ≡ r.link)
told-cells offset known [] first rev fits lt = absurd (omega (arith, lt))
told-cells offset known (s ∷ stored) first zero fits lt = (s.revision, refl, link-first (entry_after offset known s) first (cells None (items_from (offset + length s.chunk) (known ++ node_after known s.revision ∷ []) stored)) fits.0)
told-cells offset known (s ∷ stored) first (suc rev) fits lt =
    let more = items_from (offset + length s.chunk) (known ++ node_after known s.revision ∷ []) stored in
    let told = told-cells (offset + length s.chunk) (known ++ node_after known s.revision ∷ []) stored None rev fits.1 (omega (arith, lt)) in
    (told.0, told.1, link-behind (entry_after offset known s) first (cells None more) rev fits.0 ∙ told.2)

length-these : (stored : List Stored) → length (map (λ (s : Stored). s.revision) stored) ≡ length stored
length-these [] = refl
length-these (s ∷ stored) = ap suc (length-these stored)

told-separate : (front rest data_bytes : List ℕ) (revisions : List Revision) → HoldsRevisions (front ++ rest) data_bytes revisions → IsTold front revisions
told-separate front rest data_bytes revisions h rev le =
    let g = h.header.generaldelta in
    let spelled : front ++ rest ≡ cells (Some (plain_header g)) (items h.stored) = h.index_is ∙ ap (λ k. index_bytes k (items h.stored)) (header-is false h.header h.form) ∙ index-plain g (items h.stored) in
    let lt : rev < length h.stored = omega (arith, le, length-append front rest, length-held (front ++ rest) data_bytes revisions h, ap length h.these, length-these h.stored) in
    let told = told-cells 0 [] h.stored (Some (plain_header g)) rev h.fits lt in
    (told.0, subst (λ l. slice_get l rev ≡ Some told.0) h.these told.1, sym (link-front front rest rev le) ∙ ap (λ l. link_in l rev) spelled ∙ told.2)

-- ---- an inline index

pub at-least : (a b : ℕ) → nat_lt a b ≡ false → b ≤ a
at-least a b e = grind (arith, e)

or-false : (a b : Bool) → (a || b) ≡ false → (a ≡ false) × (b ≡ false)
or-false true b e = never e
or-false false b e = (refl, e)

no-sign : (n : ℕ) → n < 2147483648 → not (is_negative n) ≡ true
no-sign n h = grind (arith, h)

and-true : (a b : Bool) → a ≡ true → (a && b) ≡ false → b ≡ false
and-true true b e f = f
and-true false b e f = never (sym e)

-- the front of an index that has a whole entry with its whole chunk
split-item : (e : Entry) (first : Option Header) (chunk more front rest : List ℕ) → Fits e None → length chunk ≡ e.stored → front ++ rest ≡ (entry_bytes e first ++ chunk) ++ more → is_cut front ≡ false
    → (left : List ℕ) × (front ≡ (entry_bytes e first ++ chunk) ++ left) × (left ++ rest ≡ more)
split-item e first chunk more front rest fits stored is whole = (
  drop c front,
  sym (take-append-drop c front) ∙ ap (λ l. l ++ drop c front) (sym (take-append-le c front rest room) ∙ ap (take c) is ∙ take_at (entry_bytes e first ++ chunk) more c len),
  sym (drop-append-le c front rest room) ∙ ap (drop c) is ∙ drop_at (entry_bytes e first ++ chunk) more c len,
)
  where
    c : ℕ
    c = 64 + e.stored

    len : length (entry_bytes e first ++ chunk) ≡ c
    len = omega (arith, length-append (entry_bytes e first) chunk, length-entry_bytes e first fits.node, stored)

    parts : (nat_lt (length front) 64 ≡ false) × ((not (is_negative (number_at 8 front)) && nat_lt (length front) (64 + number_at 8 front)) ≡ false)
    parts = or-false (nat_lt (length front) 64) _ whole

    least : 64 ≤ length front
    least = at-least (length front) 64 parts.0

    number : number_at 8 front ≡ e.stored
    number = sym (number-front 8 front rest (omega (arith, least))) ∙ ap (number_at 8) (is ∙ append_assoc (entry_bytes e first) chunk more) ∙ stored-at e first (chunk ++ more) fits

    room : c ≤ length front
    room =
        let k = at-least (length front) (64 + number_at 8 front) (and-true (not (is_negative (number_at 8 front))) (nat_lt (length front) (64 + number_at 8 front)) (no-sign (number_at 8 front) (let l = fits.stored in omega (arith, l, number))) parts.1) in
        omega (arith, k, number)

no-bytes : (front rest : List ℕ) → front ++ rest ≡ [] → front ≡ []
no-bytes [] rest e = refl
no-bytes (x ∷ front) rest e = absurd (omega (arith, ap length e))

abbrev IsToldAs : ℕ → List ℕ → List Stored → Type 0
IsToldAs n front stored = (rev : ℕ) → 64 * rev + 64 ≤ length (entries_in n front) → (r : Revision) × (slice_get (map (λ (s : Stored). s.revision) stored) rev ≡ Some r) × (link_in (entries_in n front) rev ≡ r.link)

told-inlined : (n offset : ℕ) (known : List (List ℕ)) (stored : List Stored) (first : Option Header) (front rest : List ℕ) → Fit (items_from offset known stored) → front ++ rest ≡ inlined first (items_from offset known stored) → IsToldAs n front stored
told-inlined n offset known [] first front rest fits is rev le = absurd (omega (arith, le, ap length (ap (entries_in n) (no-bytes front rest is) ∙ entries-none n)))
told-inlined zero offset known (s ∷ stored) first front rest fits is rev le = absurd (omega (arith, le))
told-inlined (suc n) offset known (s ∷ stored) first front rest fits is rev le = by (is_cut front) refl (λ left e. told-inlined n (offset + length s.chunk) (known ++ node_after known s.revision ∷ []) stored None left rest fits.1 e) rev le
  where
    e : Entry
    e = entry_after offset known s

    more : List Item
    more = items_from (offset + length s.chunk) (known ++ node_after known s.revision ∷ []) stored

    at : (left : List ℕ) → IsToldAs n left stored → (rev : ℕ) → 64 * rev + 64 ≤ length (entry_bytes e first ++ entries_in n left)
        → (r : Revision) × (slice_get (map (λ (s : Stored). s.revision) (s ∷ stored)) rev ≡ Some r) × (link_in (entry_bytes e first ++ entries_in n left) rev ≡ r.link)
    at left told zero le = (s.revision, refl, link-first e first (entries_in n left) fits.0)
    at left told (suc rev) le =
        let t = told rev (omega (arith, le, length-append (entry_bytes e first) (entries_in n left), length-entry_bytes e first fits.0.node)) in
        (t.0, t.1, link-behind e first (entries_in n left) rev fits.0 ∙ t.2)

    by : (b : Bool) → is_cut front ≡ b → ((left : List ℕ) → left ++ rest ≡ inlined None more → IsToldAs n left stored) → IsToldAs (suc n) front (s ∷ stored)
    by true cut told rev le =
        let short : entries_in (suc n) front ≡ take 63 front = ap (λ b. cond b (take 63 front) (take 64 front ++ entries_in n (drop (64 + number_at 8 front) front))) cut in
        absurd (omega (arith, le, ap length short, length-take 63 front))
    by false cut told rev le =
        let p = split-item e first s.chunk (inlined None more) front rest fits.0 refl is cut in
        let spelled : entries_in (suc n) front ≡ entry_bytes e first ++ entries_in n p.0 = ap (entries_in (suc n)) p.1 ∙ entries-item e first s.chunk p.0 fits.0 refl n in
        let t = at p.0 (told p.0 p.2) rev (omega (arith, le, ap length spelled)) in
        (t.0, t.1, ap (λ l. link_in l rev) spelled ∙ t.2)

plain-length : (bytes : List ℕ) → length (without_inline bytes) ≡ length bytes
plain-length [] = refl
plain-length (a ∷ []) = refl
plain-length (a ∷ b ∷ bytes) = refl

plain-link : (bytes : List ℕ) (rev : ℕ) → link_in (without_inline bytes) rev ≡ link_in bytes rev
plain-link [] rev = refl
plain-link (a ∷ []) rev = refl
plain-link (a ∷ b ∷ bytes) zero = refl
plain-link (a ∷ b ∷ bytes) (suc rev) =
    let n : 64 * suc rev ≡ 2 + (62 + 64 * rev) = omega arith in
    ap (λ k. number_at 20 (drop k (a ∷ (b - 1) ∷ bytes))) n ∙ ap (number_at 20) (sym (drop-drop (62 + 64 * rev) 2 (a ∷ (b - 1) ∷ bytes)) ∙ drop-drop (62 + 64 * rev) 2 (a ∷ b ∷ bytes)) ∙ ap (λ k. number_at 20 (drop k (a ∷ b ∷ bytes))) (sym n)

told-inline : (front rest data_bytes : List ℕ) (revisions : List Revision) → is_inline front ≡ true → Holds true (front ++ rest) data_bytes revisions → IsTold (index_apart front) revisions
told-inline front rest data_bytes revisions inline h rev le =
    let g = h.header.generaldelta in
    let spelled : front ++ rest ≡ inlined (Some (inline_header g)) (items h.stored) = h.index_is ∙ ap (λ k. index_bytes k (items h.stored)) (header-is true h.header h.form) ∙ index-inline g (items h.stored) in
    let apart : index_apart front ≡ without_inline (entries_in (length front) front) = ap (λ b. cond b (without_inline (entries_in (length front) front)) front) inline in
    let told = told-inlined (length front) 0 [] h.stored (Some (inline_header g)) front rest h.fits spelled rev (omega (arith, le, ap length apart, plain-length (entries_in (length front) front))) in
    (told.0, subst (λ l. slice_get l rev ≡ Some told.0) h.these told.1, ap (λ l. link_in l rev) apart ∙ plain-link (entries_in (length front) front) rev ∙ told.2)

-- ---- either

pub apart-separate : (index : List ℕ) → is_inline index ≡ false → index_apart index ≡ index
apart-separate index e = ap (λ b. cond b (without_inline (entries_in (length index) index)) index) e

less : (n : ℕ) → n < 64 → nat_lt n 64 ≡ true
less n h = grind (arith, h)

entries-short : (n : ℕ) (front : List ℕ) → length front < 64 → length (entries_in n front) < 64
entries-short zero front lt = omega arith
entries-short (suc n) front lt =
    let cut : is_cut front ≡ true = ap (λ b. b || (not (is_negative (number_at 8 front)) && nat_lt (length front) (64 + number_at 8 front))) (less (length front) lt) in
    let short : entries_in (suc n) front ≡ take 63 front = ap (λ b. cond b (take 63 front) (take 64 front ++ entries_in n (drop (64 + number_at 8 front) front))) cut in
    omega (arith, ap length short, length-take 63 front)

-- an index that is shorter than an entry has none, in either form
short-apart : (front : List ℕ) → length front < 64 → length (index_apart front) < 64
short-apart front lt = by (is_inline front) refl
  where
    by : (b : Bool) → is_inline front ≡ b → length (index_apart front) < 64
    by true e =
        let apart : index_apart front ≡ without_inline (entries_in (length front) front) = ap (λ b. cond b (without_inline (entries_in (length front) front)) front) e in
        omega (arith, ap length apart, plain-length (entries_in (length front) front), entries-short (length front) front lt)
    by false e = omega (arith, lt, ap length (apart-separate front e))

pub either-long : (n : ℕ) → (n < 64) ⊎ (64 ≤ n)
either-long n = by (nat_lt n 64) refl
  where
    by : (b : Bool) → nat_lt n 64 ≡ b → (n < 64) ⊎ (64 ≤ n)
    by true e = inl (let l : n < 64 = grind (arith, e) in l)
    by false e = inr (at-least n 64 e)

-- The whole entries in a front of an index that holds revisions are of these.
pub told : (front index data_bytes : List ℕ) (revisions : List Revision) → IsPrefixOf front index → HoldsEither index data_bytes revisions → IsTold (index_apart front) revisions
told front index data_bytes revisions (rest, is) h = elim (either-long (length front)) [
  | inl short ↦ λ rev le. absurd (omega (arith, le, short-apart front short))
  | inr long ↦ by (is_inline front) refl (subst (λ b. Holds b (front ++ rest) data_bytes revisions) (form-more front rest long) (subst (λ l. HoldsEither l data_bytes revisions) is h))
]
  where
    by : (b : Bool) → is_inline front ≡ b → Holds (is_inline front) (front ++ rest) data_bytes revisions → IsTold (index_apart front) revisions
    by true e k = told-inline front rest data_bytes revisions e (subst (λ b. Holds b (front ++ rest) data_bytes revisions) e k)
    by false e k = subst (λ l. IsTold l revisions) (sym (apart-separate front e)) (told-separate front rest data_bytes revisions (subst (λ b. Holds b (front ++ rest) data_bytes revisions) e k))

-- ---- what is there

begun : (inline : Bool) (index data_bytes : List ℕ) (revisions : List Revision) → is_inline index ≡ inline → Begins inline index data_bytes revisions → 64 * length revisions ≤ length (index_apart index)
begun inline index data_bytes [] form b = omega arith
begun true index data_bytes (r ∷ revisions) form b =
    let apart = (apart-front b.index_front b.index_begins.0 b.data_front r revisions (ap is_inline (sym b.index_begins.1) ∙ form) b.held).0 in
    let spelled : index_apart index ≡ index_apart b.index_front ++ apart.0 = ap index_apart b.index_begins.1 ∙ apart.1 in
    let len = length-held (index_apart b.index_front) _ (r ∷ revisions) (held-apart b.index_front b.data_front (r ∷ revisions) b.held) in
    omega (arith, ap length spelled, length-append (index_apart b.index_front) apart.0, len)
begun false index data_bytes (r ∷ revisions) form b =
    omega (arith, ap length (apart-separate index form), ap length b.index_begins.1, length-append b.index_front b.index_begins.0, length-held b.index_front b.data_front (r ∷ revisions) b.held)

pub begun-whole : (index data_bytes : List ℕ) (revisions : List Revision) → BeginsEither index data_bytes revisions → 64 * length revisions ≤ length (index_apart index)
begun-whole index data_bytes revisions b = begun (is_inline index) index data_bytes revisions refl b

-- ---- cut by links

pub cut : (index : List ℕ) (revisions : List Revision) (changesets first : ℕ) → IsTold index revisions → IsParted revisions changesets first → 64 * first ≤ length index → IsCutByLinks index changesets first
cut index revisions changesets first told parted there = record {
  there = there;
  front = λ rev le lt. (let t = told rev le in let below = parted.front rev t.0 t.1 lt in omega (arith, below, t.2));
  later = λ rev le ge. (let t = told rev le in elim (below-or t.0.link changesets) [ inl lt ↦ absurd (let k = parted.number rev t.0 t.1 lt in omega (arith, k, ge)) | inr k ↦ omega (arith, k, t.2) ]);
}
  where
    below-or : (a b : ℕ) → (a < b) ⊎ (b ≤ a)
    below-or a b = by (nat_lt a b) refl
      where
        by : (z : Bool) → nat_lt a b ≡ z → (a < b) ⊎ (b ≤ a)
        by true e = inl (let l : a < b = grind (arith, e) in l)
        by false e = inr (at-least a b e)
