-- Revlogs in either form: what holds a list begins with it, fronts of it, and one more revision.
use Rattle.std.proofs.Common.{◌≡◌, ℕ, ◌+◌, ◌<◌, ◌≤◌, List, [], ◌∷◌, ◌++◌, Bool, true, false, cond, ◌&&◌, ◌||◌, length, map, Some, None, refl, sym, ◌∙◌, ap, subst, arith, append_assoc, append-nil, length-append}
use Rattle.std.specs.Prelude.{IfSome, Option, nat_le}
use Rattle.std.specs.List.{AllByRecursion, concat}
use Rattle.hgs_bytes.specs.Bytes.{among, same}
use Rattle.hgs_index.specs.declared.entry.Header.{Header}
use Rattle.hgs_index.specs.Either.{BeginsEither, HoldsEither, chunk_bytes, data_more, index_more}
use Rattle.hgs_index.specs.Entry.{Fits, entry_bytes, header_at}
use Rattle.hgs_index.specs.Inline.{chunks_apart, index_apart, is_inline, says_inline}
use Rattle.hgs_index.specs.Node.{null_node}
use Rattle.hgs_index.specs.Revision.{ParentsBefore, Revision, node_after, nodes, nodes_from}
use Rattle.hgs_index.specs.Revlog.{Begins, BeginsWithRevisions, Holds, HoldsRevisions, IsDataOf, Item, Stored, all_different, chunk_text, entry_after, index_bytes, item_bytes, items, items_from, next_header}
use Rattle.hgs_index.specs.Theorems.EntryPartLemmas.{length-entry_bytes}
use Rattle.hgs_index.specs.Theorems.InlineLemmas.{apart-chunks, apart-front, at-least, held-apart, header-is, held-plain, index-inline, inline-unique, inline_header, inlined, is-inlined}
use Rattle.hgs_index.specs.Theorems.RevisionLemmas.{nodes-append}
use Rattle.hgs_index.specs.Theorems.RevlogFrontLemmas.{all-front, among-both, among-front, different-front, different-last, halves, nodes-last, or-false, parents-front, revisions_of, same-swap}
use Rattle.hgs_index.specs.Theorems.RevlogLemmas.{all-append, chunks_of, concat-append, entries_behind, index_bytes-append, items_from-append, length-parents, map-append, parents-append}
use Rattle.hgs_index.specs.Theorems.UniqueLemmas.{held-unique}

-- ---- the form

header-more : (x more : List ℕ) → 64 ≤ length x → header_at (x ++ more) ≡ header_at x
header-more [] more h = absurd (omega (arith, h))
header-more (a ∷ []) more h = absurd (omega (arith, h))
header-more (a ∷ b ∷ []) more h = absurd (omega (arith, h))
header-more (a ∷ b ∷ c ∷ []) more h = absurd (omega (arith, h))
header-more (a ∷ b ∷ c ∷ d ∷ x) more h = refl

-- what stands behind an entry does not matter for the form
pub form-more : (x more : List ℕ) → 64 ≤ length x → is_inline (x ++ more) ≡ is_inline x
form-more x more h =
    let long : 64 ≤ length (x ++ more) = omega (arith, h, length-append x more) in
    ap (λ b. b && says_inline (header_at (x ++ more))) (at-least 4 (length (x ++ more)) (omega (arith, long)) ∙ sym (at-least 4 (length x) (omega (arith, h))))
    ∙ ap (λ r. nat_le 4 (length x) && says_inline r) (header-more x more h)

inline-form : (index data_bytes more : List ℕ) (r : Revision) (revisions : List Revision) → Holds true index data_bytes (r ∷ revisions) → is_inline (index ++ more) ≡ true
inline-form index data_bytes more r revisions h = by h.stored h.these h.fits (h.index_is ∙ ap (λ k. index_bytes k (items h.stored)) (header-is true h.header h.form) ∙ index-inline h.header.generaldelta (items h.stored))
  where
    first : Option Header
    first = Some (inline_header h.header.generaldelta)

    by : (stored : List Stored) → map (λ s. s.revision) stored ≡ r ∷ revisions → AllByRecursion (λ (i : Item). Fits i.entry None) (items stored) → index ≡ inlined first (items stored) → is_inline (index ++ more) ≡ true
    by [] these fits is = cc
    by (s ∷ stored) these fits is =
        let i : Item = record { entry = entry_after 0 [] s; chunk = s.chunk } in
        let rest = items_from (0 + length s.chunk) (node_after [] s.revision ∷ []) stored in
        let long : 64 ≤ length index = omega (arith, ap length is, length-append (entry_bytes i.entry first ++ s.chunk) (inlined None rest), length-append (entry_bytes i.entry first) s.chunk, length-entry_bytes i.entry first fits.0.node) in
        form-more index more long ∙ ap is_inline is ∙ is-inlined h.header.generaldelta i rest fits.0

-- The index of a revlog that has a revision says its form, whatever stands behind it.
pub held-form : (inline : Bool) (index data_bytes more : List ℕ) (r : Revision) (revisions : List Revision) → Holds inline index data_bytes (r ∷ revisions) → is_inline (index ++ more) ≡ inline
held-form true index data_bytes more r revisions h = inline-form index data_bytes more r revisions h
held-form false index data_bytes more r revisions h = held-plain index data_bytes more r revisions h

pub begins-form : (inline : Bool) (index data_bytes : List ℕ) (r : Revision) (revisions : List Revision) → Begins inline index data_bytes (r ∷ revisions) → is_inline index ≡ inline
begins-form inline index data_bytes r revisions b = ap is_inline b.index_begins.1 ∙ held-form inline b.index_front b.data_front b.index_begins.0 r revisions b.held

-- what holds a list as a separate revlog does so in the form that the index says
pub separate-holds : (index data_bytes : List ℕ) (revisions : List Revision) → HoldsRevisions index data_bytes revisions → HoldsEither index data_bytes revisions
separate-holds index data_bytes [] h = subst (λ f. Holds f index data_bytes []) (sym (ap is_inline (nothing h.stored h.these h.index_is))) h
  where
    nothing : (stored : List Stored) → map (λ s. s.revision) stored ≡ [] → index ≡ index_bytes h.header (items stored) → index ≡ []
    nothing [] these is = is
    nothing (s ∷ stored) these is = cc
separate-holds index data_bytes (r ∷ revisions) h = subst (λ f. Holds f index data_bytes (r ∷ revisions)) (sym (ap is_inline (sym (append-nil index)) ∙ held-plain index data_bytes [] r revisions h)) h

-- ---- one list, and what begins with it

by-form : (inline : Bool) (index data_bytes : List ℕ) (r q : List Revision) → Holds inline index data_bytes r → Holds inline index data_bytes q → r ≡ q
by-form true index data_bytes r q a b = inline-unique index data_bytes data_bytes r q a b
by-form false index data_bytes r q a b = held-unique index data_bytes r q a b

pub either-once : (index data_bytes : List ℕ) (r q : List Revision) → HoldsEither index data_bytes r → HoldsEither index data_bytes q → r ≡ q
either-once index data_bytes r q a b = by-form (is_inline index) index data_bytes r q a b

pub holds-begins : (inline : Bool) (index data_bytes : List ℕ) (revisions : List Revision) → Holds inline index data_bytes revisions → Begins inline index data_bytes revisions
holds-begins inline index data_bytes revisions h = record {
  index_front = index;
  data_front = data_bytes;
  held = h;
  index_begins = ([], sym (append-nil index));
  data_begins = ([], sym (append-nil data_bytes));
}

pub either-begins : (index data_bytes : List ℕ) (revisions : List Revision) → HoldsEither index data_bytes revisions → BeginsEither index data_bytes revisions
either-begins index data_bytes revisions h = holds-begins (is_inline index) index data_bytes revisions h

pub form-begins-more : (inline : Bool) (index data_bytes more more_data : List ℕ) (revisions : List Revision) → Begins inline index data_bytes revisions → Begins inline (index ++ more) (data_bytes ++ more_data) revisions
form-begins-more inline index data_bytes more more_data revisions h = record {
  index_front = h.index_front;
  data_front = h.data_front;
  held = h.held;
  index_begins = (h.index_begins.0 ++ more, ap (λ l. l ++ more) h.index_begins.1 ∙ append_assoc h.index_front h.index_begins.0 more);
  data_begins = (h.data_begins.0 ++ more_data, ap (λ l. l ++ more_data) h.data_begins.1 ∙ append_assoc h.data_front h.data_begins.0 more_data);
}

no-data : (inline : Bool) → IsDataOf inline [] []
no-data true = tt
no-data false = refl

pub holds-none : (inline : Bool) → Holds inline [] [] []
holds-none inline = record {
  header = record { inline = inline; generaldelta = false };
  stored = [];
  these = refl;
  texts = tt;
  earlier = tt;
  fits = tt;
  different = refl;
  not_null = refl;
  form = refl;
  index_is = refl;
  data_is = no-data inline;
}

pub begins-none : (inline : Bool) (index data_bytes : List ℕ) → Begins inline index data_bytes []
begins-none inline index data_bytes = record { index_front = []; data_front = []; held = holds-none inline; index_begins = (index, refl); data_begins = (data_bytes, refl) }

pub either-more : (index data_bytes more more_data : List ℕ) (revisions : List Revision) → BeginsEither index data_bytes revisions → BeginsEither (index ++ more) (data_bytes ++ more_data) revisions
either-more index data_bytes more more_data [] h = begins-none (is_inline (index ++ more)) (index ++ more) (data_bytes ++ more_data)
either-more index data_bytes more more_data (r ∷ revisions) h =
    let b = form-begins-more (is_inline index) index data_bytes more more_data (r ∷ revisions) h in
    subst (λ f. Begins f (index ++ more) (data_bytes ++ more_data) (r ∷ revisions)) (sym (begins-form (is_inline index) (index ++ more) (data_bytes ++ more_data) r revisions b)) b

-- ---- fronts

abbrev front-data : Bool → List Stored → List ℕ
front-data true stored = []
front-data false stored = chunks_of stored

front-is : (inline : Bool) (stored : List Stored) → IsDataOf inline stored (front-data inline stored)
front-is true stored = tt
front-is false stored = refl

front-begins : (inline : Bool) (first second whole : List Stored) (data_bytes : List ℕ) → whole ≡ first ++ second → IsDataOf inline whole data_bytes → (rest : List ℕ) × (data_bytes ≡ front-data inline first ++ rest)
front-begins true first second whole data_bytes e is = (data_bytes, refl)
front-begins false first second whole data_bytes e is = (chunks_of second, is ∙ ap chunks_of e ∙ ap concat (map-append (λ (s : Stored). s.chunk) first second) ∙ concat-append (map (λ s. s.chunk) first) (map (λ s. s.chunk) second))

-- Bytes that hold a list begin with bytes that hold each front of it.
pub form-front : (inline : Bool) (index data_bytes : List ℕ) (front more : List Revision) → Holds inline index data_bytes (front ++ more) → Begins inline index data_bytes front
form-front inline index data_bytes front more h =
    let two = halves front more h.stored h.these in
    let nodes_in = nodes-append front more in
    let later = items_from (0 + length (chunks_of two.first)) (nodes_from [] (revisions_of two.first)) two.second in
    let parted : items h.stored ≡ items two.first ++ later = ap items two.whole ∙ items_from-append 0 [] two.first two.second in
    record {
      index_front = index_bytes h.header (items two.first);
      data_front = front-data inline two.first;
      held = record {
        header = h.header;
        stored = two.first;
        these = two.these;
        texts = all-front (λ (s : Stored). chunk_text s.chunk ≡ Some s.revision.text) two.first two.second (subst (AllByRecursion (λ (s : Stored). chunk_text s.chunk ≡ Some s.revision.text)) two.whole h.texts);
        earlier = parents-front 0 (map (λ r. r.parents) front) (map (λ r. r.parents) more) (subst (ParentsBefore 0) (map-append (λ (r : Revision). r.parents) front more) h.earlier);
        fits = all-front (λ (i : Item). Fits i.entry None) (items two.first) later (subst (AllByRecursion (λ (i : Item). Fits i.entry None)) parted h.fits);
        different = different-front (nodes front) nodes_in.0 (ap all_different (sym nodes_in.1) ∙ h.different);
        not_null = among-front null_node (nodes front) nodes_in.0 (ap (among null_node) (sym nodes_in.1) ∙ h.not_null);
        form = h.form;
        index_is = refl;
        data_is = front-is inline two.first;
      };
      index_begins = (entries_behind h.header (items two.first) later, h.index_is ∙ ap (index_bytes h.header) parted ∙ index_bytes-append h.header (items two.first) later);
      data_begins = front-begins inline two.first two.second h.stored data_bytes two.whole h.data_is;
    }

pub form-begins-front : (inline : Bool) (index data_bytes : List ℕ) (revisions front back : List Revision) → front ++ back ≡ revisions → Begins inline index data_bytes revisions → Begins inline index data_bytes front
form-begins-front inline index data_bytes revisions front back joined b =
    let h = form-front inline b.index_front b.data_front front back (subst (Holds inline b.index_front b.data_front) (sym joined) b.held) in
    let more = form-begins-more inline b.index_front b.data_front b.index_begins.0 b.data_begins.0 front h in
    subst (λ i. Begins inline i data_bytes front) (sym b.index_begins.1) (subst (λ d. Begins inline (b.index_front ++ b.index_begins.0) d front) (sym b.data_begins.1) more)

pub either-front : (index data_bytes : List ℕ) (revisions front back : List Revision) → front ++ back ≡ revisions → BeginsEither index data_bytes revisions → BeginsEither index data_bytes front
either-front index data_bytes revisions front back joined b = form-begins-front (is_inline index) index data_bytes revisions front back joined b

-- ---- one more revision

-- the chunks that stand in this form are those of the revisions that are held
pub chunks-are : (inline : Bool) (index data_bytes : List ℕ) (revisions : List Revision) (h : Holds inline index data_bytes revisions) → chunk_bytes inline index data_bytes ≡ chunks_of h.stored
chunks-are true index data_bytes revisions h = apart-chunks index data_bytes revisions h
chunks-are false index data_bytes revisions h = h.data_is

one-item : (inline : Bool) (h : Header) (first : Option Header) (i : Item) → h.inline ≡ inline → item_bytes h first i ≡ index_more inline first i
one-item true h first i e = ap (λ b. entry_bytes i.entry first ++ cond b i.chunk []) e
one-item false h first i e = ap (λ b. entry_bytes i.entry first ++ cond b i.chunk []) e ∙ append-nil (entry_bytes i.entry first)

one-behind : (inline : Bool) (h : Header) (old : List Stored) (revisions : List Revision) (i : Item) → h.inline ≡ inline → revisions_of old ≡ revisions → entries_behind h (items old) (i ∷ []) ≡ index_more inline (next_header revisions h) i
one-behind inline h [] [] i e these = append-nil (item_bytes h (Some h) i) ∙ one-item inline h (Some h) i e
one-behind inline h [] (r ∷ revisions) i e these = cc
one-behind inline h (s ∷ old) [] i e these = cc
one-behind inline h (s ∷ old) (r ∷ revisions) i e these = append-nil (item_bytes h None i) ∙ one-item inline h None i e

-- where nothing is held yet, any header of the form will do
headed : (inline : Bool) (index data_bytes : List ℕ) (revisions : List Revision) (k : Header) → k.inline ≡ inline → (h : Holds inline index data_bytes revisions)
    → (g : Holds inline index data_bytes revisions) × (next_header revisions k ≡ next_header revisions g.header)
headed inline index data_bytes [] k e h = (record h { header = k; form = e; index_is = empty h.stored h.these h.index_is }, refl)
  where
    empty : (stored : List Stored) → revisions_of stored ≡ [] → index ≡ index_bytes h.header (items stored) → index ≡ index_bytes k (items stored)
    empty [] these is = is
    empty (s ∷ stored) these is = cc
headed inline index data_bytes (r ∷ revisions) k e h = (h, refl)

data-behind : (inline : Bool) (old : List Stored) (s : Stored) (data_bytes : List ℕ) → IsDataOf inline old data_bytes → IsDataOf inline (old ++ s ∷ []) (data_bytes ++ data_more inline s.chunk)
data-behind true old s data_bytes is = tt
data-behind false old s data_bytes is =
    ap (λ l. l ++ s.chunk) is ∙ ap (λ l. chunks_of old ++ l) (sym (append-nil s.chunk)) ∙ sym (concat-append (map (λ x. x.chunk) old) (s.chunk ∷ [])) ∙ ap concat (sym (map-append (λ (x : Stored). x.chunk) old (s ∷ [])))

-- Behind bytes that hold a list, the entry and the chunk of one more revision hold the list with it.
pub form-one-more : (inline : Bool) (index data_bytes : List ℕ) (revisions : List Revision) (s : Stored) (k : Header) → Holds inline index data_bytes revisions → k.inline ≡ inline
    → chunk_text s.chunk ≡ Some s.revision.text
    → IfSome s.revision.parents.0 (λ p. p < length revisions) → IfSome s.revision.parents.1 (λ p. p < length revisions)
    → Fits (entry_after (length (chunk_bytes inline index data_bytes)) (nodes revisions) s) None
    → among (node_after (nodes revisions) s.revision) (null_node ∷ nodes revisions) ≡ false
    → Holds inline (index ++ index_more inline (next_header revisions k) (record { entry = entry_after (length (chunk_bytes inline index data_bytes)) (nodes revisions) s; chunk = s.chunk })) (data_bytes ++ data_more inline s.chunk) (revisions ++ s.revision ∷ [])
form-one-more inline index data_bytes revisions s k held form text p1 p2 fits new =
    let g = headed inline index data_bytes revisions k form held in
    let h = g.0 in
    let offset = length (chunk_bytes inline index data_bytes) in
    let node = node_after (nodes revisions) s.revision in
    let apart = or-false (same node null_node) (among node (nodes revisions)) new in
    let item : Item = record { entry = entry_after offset (nodes revisions) s; chunk = s.chunk } in
    let split : items (h.stored ++ s ∷ []) ≡ items h.stored ++ item ∷ [] =
    items_from-append 0 [] h.stored (s ∷ [])
    ∙ ap (λ o. items h.stored ++ items_from o (nodes_from [] (revisions_of h.stored)) (s ∷ [])) (omega (arith, ap length (chunks-are inline index data_bytes revisions h)))
    ∙ ap (λ q. items h.stored ++ items_from offset (nodes q) (s ∷ [])) h.these in
    record {
      header = h.header;
      stored = h.stored ++ s ∷ [];
      these = map-append (λ (x : Stored). x.revision) h.stored (s ∷ []) ∙ ap (λ l. l ++ s.revision ∷ []) h.these;
      texts = all-append _ h.stored (s ∷ []) h.texts (text, tt);
      earlier = subst (ParentsBefore 0) (sym (map-append (λ (r : Revision). r.parents) revisions (s.revision ∷ [])))
          (parents-append 0 (map (λ (r : Revision). r.parents) revisions) _ h.earlier (subst (λ n. ParentsBefore n (s.revision.parents ∷ [])) (omega (arith, length-parents revisions)) (p1, p2, tt)));
      fits = subst (AllByRecursion (λ (i : Item). Fits i.entry None)) (sym split) (all-append _ (items h.stored) (item ∷ []) h.fits (fits, tt));
      different = ap all_different (nodes-last revisions s.revision) ∙ different-last (nodes revisions) node h.different apart.1;
      not_null = ap (among null_node) (nodes-last revisions s.revision) ∙ among-both null_node (nodes revisions) (node ∷ []) h.not_null (ap (λ b. b || false) (same-swap node null_node apart.0));
      form = h.form;
      index_is = (λ i. h.index_is i ++ (sym (one-behind inline h.header h.stored revisions item h.form h.these ∙ ap (λ n. index_more inline n item) (sym g.1))) i) ∙ sym (index_bytes-append h.header (items h.stored) (item ∷ [])) ∙ ap (index_bytes h.header) (sym split);
      data_is = data-behind inline h.stored s data_bytes h.data_is;
    }

-- ---- an inline index that begins with a list

-- It is taken apart into bytes that begin with the list.
pub begins-apart : (index data_bytes : List ℕ) (revisions : List Revision) → Begins true index data_bytes revisions → BeginsWithRevisions (index_apart index) (chunks_apart index) revisions
begins-apart index data_bytes [] b = begins-none false (index_apart index) (chunks_apart index)
begins-apart index data_bytes (r ∷ revisions) b =
    let whole = b.index_begins.1 in
    let inline : is_inline (b.index_front ++ b.index_begins.0) ≡ true = held-form true b.index_front b.data_front b.index_begins.0 r revisions b.held in
    let parts = apart-front b.index_front b.index_begins.0 b.data_front r revisions inline b.held in
    record {
      index_front = index_apart b.index_front;
      data_front = chunks_apart b.index_front;
      held = held-apart b.index_front b.data_front (r ∷ revisions) b.held;
      index_begins = (parts.0.0, ap index_apart whole ∙ parts.0.1);
      data_begins = (parts.1.0, ap chunks_apart whole ∙ parts.1.1);
    }
