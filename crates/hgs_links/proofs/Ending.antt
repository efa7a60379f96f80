-- What stands right behind the bytes that hold some revisions.
use Rattle.std.proofs.Common.{◌≡◌, ◌⊎◌, ℕ, zero, suc, ◌+◌, ◌*◌, ◌<◌, ◌≤◌, List, [], ◌∷◌, ◌++◌, Bool, true, false, length, map, drop, refl, sym, ◌∙◌, ap, subst, inl, inr, arith, append_assoc, append-nil, length-append}
use Rattle.std.specs.Prelude.{Option, Some, None, nat_lt, slice_get}
use Rattle.std.proofs.lemmas.List.{drop_at}
use Rattle.hgs_bytes.specs.Bytes.{IsPrefixOf}
use Rattle.hgs_index.specs.declared.entry.Header.{Header}
use Rattle.hgs_index.specs.Either.{HoldsEither}
use Rattle.hgs_index.specs.Entry.{Fits, entry_bytes, number_at}
use Rattle.hgs_index.specs.Inline.{is_inline}
use Rattle.hgs_index.specs.Revision.{Revision, node_after}
use Rattle.hgs_index.specs.Revlog.{Holds, HoldsRevisions, Item, Stored, entry_after, index_bytes, items, items_from}
use Rattle.hgs_index.specs.Theorems.EitherLemmas.{form-more, holds-none}
use Rattle.hgs_index.specs.Theorems.EntryPartLemmas.{length-entry_bytes}
use Rattle.hgs_index.specs.Theorems.InlineLemmas.{AreStored, Fit, header-is, index-inline, inline_header, inlined, items-stored, stored-at}
use Rattle.hgs_index.specs.Theorems.RevlogLemmas.{length-held}
use Rattle.hgs_links.specs.Links.{IsParted}
use Rattle.hgs_links.specs.Fronts.{EndsByLink, link_in}
use Rattle.hgs_links.proofs.Cells.{apart-separate, at-least, either-long, link-first, number-front, told}

-- ---- inline: items at the front of others

-- an entry with its chunk that both begin with has the same length, and the same follows
same-item : (i j : Item) (first other : Option Header) (x y : List ℕ) → Fits i.entry None → Fits j.entry None → length i.chunk ≡ i.entry.stored → length j.chunk ≡ j.entry.stored → (entry_bytes i.entry first ++ i.chunk) ++ x ≡ (entry_bytes j.entry other ++ j.chunk) ++ y → x ≡ y
same-item i j first other x y a b c d e =
    let number : i.entry.stored ≡ j.entry.stored = sym (stored-at i.entry first (i.chunk ++ x) a) ∙ ap (number_at 8) (sym (append_assoc (entry_bytes i.entry first) i.chunk x) ∙ e ∙ append_assoc (entry_bytes j.entry other) j.chunk y) ∙ stored-at j.entry other (j.chunk ++ y) b in
    let one : length (entry_bytes i.entry first ++ i.chunk) ≡ 64 + i.entry.stored = omega (arith, length-append (entry_bytes i.entry first) i.chunk, length-entry_bytes i.entry first a.node, c) in
    let two : length (entry_bytes j.entry other ++ j.chunk) ≡ 64 + i.entry.stored = omega (arith, length-append (entry_bytes j.entry other) j.chunk, length-entry_bytes j.entry other b.node, d, number) in
    sym (drop_at (entry_bytes i.entry first ++ i.chunk) x (64 + i.entry.stored) one) ∙ ap (drop (64 + i.entry.stored)) e ∙ drop_at (entry_bytes j.entry other ++ j.chunk) y (64 + i.entry.stored) two

items-behind : (first other : Option Header) (front all : List Item) (rest : List ℕ) → Fit front → AreStored front → Fit all → AreStored all → inlined first front ++ rest ≡ inlined other all → (h : Option Header) × (rest ≡ inlined h (drop (length front) all))
items-behind first other [] all rest a b c d e = (other, e)
items-behind first other (i ∷ front) [] rest a b c d e =
    absurd (omega (arith, ap length e, length-append (inlined first (i ∷ front)) rest, length-append (entry_bytes i.entry first ++ i.chunk) (inlined None front), length-append (entry_bytes i.entry first) i.chunk, length-entry_bytes i.entry first a.0.node))
items-behind first other (i ∷ front) (j ∷ all) rest a b c d e =
    items-behind None None front all rest a.1 b.1 c.1 d.1 (same-item i j first other (inlined None front ++ rest) (inlined None all) a.0 c.0 b.0 d.0 (sym (append_assoc (entry_bytes i.entry first ++ i.chunk) (inlined None front) rest) ∙ e))

-- the item with a number is of the revision with this number
item-of : (offset : ℕ) (known : List (List ℕ)) (stored : List Stored) (k : ℕ) (i : Item) (more : List Item) → Fit (items_from offset known stored) → drop k (items_from offset known stored) ≡ i ∷ more → (r : Revision) × (slice_get (map (λ (s : Stored). s.revision) stored) k ≡ Some r) × (i.entry.link ≡ r.link) × Fits i.entry None
item-of offset known [] k i more fits e = absurd (nothing k e)
  where
    nothing : (k : ℕ) → drop k [] ≡ i ∷ more → ⊥
    nothing zero h = cc
    nothing (suc k) h = cc
item-of offset known (s ∷ stored) zero i more fits e =
    let same : items_from offset known (s ∷ stored) ≡ i ∷ more = e in
    (s.revision, refl, sym (ap (λ (l : List Item). elim l [ [] ↦ 0 | x ∷ xs ↦ x.entry.link ]) same), (subst Fit same fits).0)
item-of offset known (s ∷ stored) (suc k) i more fits e = item-of (offset + length s.chunk) (known ++ node_after known s.revision ∷ []) stored k i more fits.1 e

length-items : (offset : ℕ) (known : List (List ℕ)) (stored : List Stored) → length (items_from offset known stored) ≡ length stored
length-items offset known [] = refl
length-items offset known (s ∷ stored) = ap suc (length-items (offset + length s.chunk) (known ++ node_after known s.revision ∷ []) stored)

length-these : (stored : List Stored) → length (map (λ (s : Stored). s.revision) stored) ≡ length stored
length-these [] = refl
length-these (s ∷ stored) = ap suc (length-these stored)

-- behind the first so many revisions comes the next one
abbrev pub IsNext : List ℕ → ℕ → List Revision → ℕ → Type 0
IsNext bytes place revisions rev = place + 64 ≤ length bytes → (r : Revision) × (slice_get revisions rev ≡ Some r) × (number_at 20 (drop place bytes) ≡ r.link)

next-item : (rest bytes : List ℕ) (h : Option Header) (offset : ℕ) (known : List (List ℕ)) (stored : List Stored) (k : ℕ) → Fit (items_from offset known stored) → rest ≡ inlined h (drop k (items_from offset known stored)) → 64 ≤ length rest
    → (r : Revision) × (slice_get (map (λ (s : Stored). s.revision) stored) k ≡ Some r) × (number_at 20 rest ≡ r.link)
next-item rest bytes h offset known stored k fits is long = by (drop k (items_from offset known stored)) refl
  where
    by : (l : List Item) → drop k (items_from offset known stored) ≡ l → (r : Revision) × (slice_get (map (λ (s : Stored). s.revision) stored) k ≡ Some r) × (number_at 20 rest ≡ r.link)
    by [] e = absurd (omega (arith, long, ap length (is ∙ ap (inlined h) e)))
    by (i ∷ more) e =
        let o = item-of offset known stored k i more fits e in
        (o.0, o.1, ap (number_at 20) (is ∙ ap (inlined h) e ∙ append_assoc (entry_bytes i.entry h) i.chunk (inlined None more)) ∙ link-first i.entry h (i.chunk ++ inlined None more) o.3 ∙ o.2)

inline-next : (front rest data_bytes other_data : List ℕ) (some all : List Revision) → Holds true front data_bytes some → Holds true (front ++ rest) other_data all → 64 ≤ length rest → (r : Revision) × (slice_get all (length some) ≡ Some r) × (number_at 20 rest ≡ r.link)
inline-next front rest data_bytes other_data some all a b long =
    let one : front ≡ inlined (Some (inline_header a.header.generaldelta)) (items a.stored) = a.index_is ∙ ap (λ k. index_bytes k (items a.stored)) (header-is true a.header a.form) ∙ index-inline a.header.generaldelta (items a.stored) in
    let two : front ++ rest ≡ inlined (Some (inline_header b.header.generaldelta)) (items b.stored) = b.index_is ∙ ap (λ k. index_bytes k (items b.stored)) (header-is true b.header b.form) ∙ index-inline b.header.generaldelta (items b.stored) in
    let p = items-behind (Some (inline_header a.header.generaldelta)) (Some (inline_header b.header.generaldelta)) (items a.stored) (items b.stored) rest a.fits (items-stored 0 [] a.stored) b.fits (items-stored 0 [] b.stored) (ap (λ l. l ++ rest) (sym one) ∙ two) in
    let n : length (items a.stored) ≡ length some = omega (arith, length-items 0 [] a.stored, length-these a.stored, ap length a.these) in
    let t = next-item rest front p.0 0 [] b.stored (length some) b.fits (p.1 ∙ ap (λ k. inlined p.0 (drop k (items b.stored))) n) long in
    (t.0, subst (λ l. slice_get l (length some) ≡ Some t.0) b.these t.1, t.2)

-- ---- separate

separate-next : (front rest data_bytes other_data : List ℕ) (some all : List Revision) → HoldsRevisions front data_bytes some → HoldsRevisions (front ++ rest) other_data all → is_inline (front ++ rest) ≡ false → 64 ≤ length rest → (r : Revision) × (slice_get all (length some) ≡ Some r) × (number_at 20 rest ≡ r.link)
separate-next front rest data_bytes other_data some all a b form long =
    let place = length-held front data_bytes some a in
    let apart = apart-separate (front ++ rest) form in
    let t = told (front ++ rest) (front ++ rest) other_data all ([], sym (append-nil (front ++ rest))) (subst (λ z. Holds z (front ++ rest) other_data all) (sym form) b) (length some) (omega (arith, long, place, ap length apart, length-append front rest)) in
    (t.0, t.1, ap (number_at 20) (sym (drop_at front rest (64 * length some) place)) ∙ ap (λ l. link_in l (length some)) (sym apart) ∙ t.2)

-- ---- either

empty : (xs : List ℕ) → length xs ≤ 0 → xs ≡ []
empty [] le = refl
empty (x ∷ xs) le = absurd (omega (arith, le))

abbrev pub IsNextOf : List ℕ → List Revision → List Revision → Type 0
IsNextOf rest some all = (r : Revision) × (slice_get all (length some) ≡ Some r) × (number_at 20 rest ≡ r.link)

long-next : (front rest data_bytes other_data : List ℕ) (some all : List Revision) → HoldsEither front data_bytes some → HoldsEither (front ++ rest) other_data all → 64 ≤ length rest → 64 ≤ length front → IsNextOf rest some all
long-next front rest data_bytes other_data some all a b long whole = by (is_inline (front ++ rest)) refl
  where
    form : is_inline front ≡ is_inline (front ++ rest)
    form = sym (form-more front rest whole)

    by : (z : Bool) → is_inline (front ++ rest) ≡ z → IsNextOf rest some all
    by true e = inline-next front rest data_bytes other_data some all (subst (λ z. Holds z front data_bytes some) (form ∙ e) a) (subst (λ z. Holds z (front ++ rest) other_data all) e b) long
    by false e = separate-next front rest data_bytes other_data some all (subst (λ z. Holds z front data_bytes some) (form ∙ e) a) (subst (λ z. Holds z (front ++ rest) other_data all) e b) e long

inline-short : (front data_bytes : List ℕ) (some : List Revision) → Holds true front data_bytes some → length front < 64 → (front ≡ []) × (length some ≡ 0)
inline-short front data_bytes some a short = by a.stored a.these a.fits (a.index_is ∙ ap (λ k. index_bytes k (items a.stored)) (header-is true a.header a.form) ∙ index-inline a.header.generaldelta (items a.stored))
  where
    first : Option Header
    first = Some (inline_header a.header.generaldelta)

    by : (stored : List Stored) → map (λ (s : Stored). s.revision) stored ≡ some → Fit (items stored) → front ≡ inlined first (items stored) → (front ≡ []) × (length some ≡ 0)
    by [] these fits is = (is, sym (ap length these))
    by (s ∷ stored) these fits is =
        let e = entry_after 0 [] s in
        let more = inlined None (items_from (0 + length s.chunk) (node_after [] s.revision ∷ []) stored) in
        absurd (omega (arith, short, ap length is, length-append (entry_bytes e first ++ s.chunk) more, length-append (entry_bytes e first) s.chunk, length-entry_bytes e first fits.0.node))

none-held : (front data_bytes : List ℕ) (some : List Revision) → HoldsEither front data_bytes some → length front < 64 → (front ≡ []) × (length some ≡ 0)
none-held front data_bytes some a short = by (is_inline front) a
  where
    by : (z : Bool) → Holds z front data_bytes some → (front ≡ []) × (length some ≡ 0)
    by true h = inline-short front data_bytes some h short
    by false h =
        let place = length-held front data_bytes some h in
        let none : length some ≡ 0 = omega (arith, place, short) in
        (empty front (omega (arith, place, none)), none)

short-next : (front rest data_bytes other_data : List ℕ) (some all : List Revision) → HoldsEither front data_bytes some → HoldsEither (front ++ rest) other_data all → 64 ≤ length rest → length front < 64 → IsNextOf rest some all
short-next front rest data_bytes other_data some all a b long short = by (is_inline rest) refl
  where
    none : (front ≡ []) × (length some ≡ 0)
    none = none-held front data_bytes some a short

    whole : HoldsEither rest other_data all
    whole = subst (λ l. HoldsEither (l ++ rest) other_data all) none.0 b

    first-of : IsNextOf rest [] all → IsNextOf rest some all
    first-of (r, e, f) = (r, ap (slice_get all) none.1 ∙ e, f)

    by : (z : Bool) → is_inline rest ≡ z → IsNextOf rest some all
    by true e = first-of (inline-next [] rest [] other_data [] all (holds-none true) (subst (λ z. Holds z rest other_data all) e whole) long)
    by false e = first-of (separate-next [] rest [] other_data [] all (holds-none false) (subst (λ z. Holds z rest other_data all) e whole) e long)

pub next-of : (front rest data_bytes other_data : List ℕ) (some all : List Revision) → HoldsEither front data_bytes some → HoldsEither (front ++ rest) other_data all → 64 ≤ length rest → IsNextOf rest some all
next-of front rest data_bytes other_data some all a b long = elim (either-long (length front)) [
  | inl short ↦ short-next front rest data_bytes other_data some all a b long short
  | inr whole ↦ long-next front rest data_bytes other_data some all a b long whole
]

-- ---- its link

below-or : (a b : ℕ) → (a < b) ⊎ (b ≤ a)
below-or a b = by (nat_lt a b) refl
  where
    by : (z : Bool) → nat_lt a b ≡ z → (a < b) ⊎ (b ≤ a)
    by true e = inl (let l : a < b = grind (arith, e) in l)
    by false e = inr (at-least a b e)

pub ends-by-link : (front index whole data_bytes other_data : List ℕ) (changesets : ℕ) (some all : List Revision) → HoldsEither front data_bytes some → IsPrefixOf front index → IsPrefixOf index whole → HoldsEither whole other_data all → IsParted all changesets (length some) → EndsByLink front index changesets
ends-by-link front index whole data_bytes other_data changesets some all a begins under b parted = record {
  begins = begins;
  ends = λ le.
      let room : 64 ≤ length begins.0 = omega (arith, le, ap length begins.1, length-append front begins.0) in
      let spelled : whole ≡ front ++ (begins.0 ++ under.0) = under.1 ∙ ap (λ l. l ++ under.0) begins.1 ∙ append_assoc front begins.0 under.0 in
      let n = next-of front (begins.0 ++ under.0) data_bytes other_data some all a (subst (λ l. HoldsEither l other_data all) spelled b) (omega (arith, room, length-append begins.0 under.0)) in
      let number : number_at 20 (drop (length front) index) ≡ n.0.link = ap (λ l. number_at 20 (drop (length front) l)) begins.1 ∙ ap (number_at 20) (drop_at front begins.0 (length front) refl) ∙ sym (number-front 20 begins.0 under.0 (omega (arith, room))) ∙ n.2 in
      elim (below-or n.0.link changesets) [ inl lt ↦ absurd (let k = parted.number (length some) n.0 n.1 lt in omega (arith, k)) | inr k ↦ omega (arith, k, number) ];
}
