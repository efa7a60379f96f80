-- A revlog with more revisions.
use Rattle.std.proofs.Common.{◌≡◌, ◌⊎◌, inl, inr, ℕ, suc, ◌+◌, ◌<◌, ◌≤◌, List, [], ◌∷◌, ◌++◌, Bool, true, false, cond, not, length, drop, map, refl, sym, ◌∙◌, ap, subst, arith, append-nil, length-append}
use Rattle.std.specs.Prelude.{◌^◌, ◌==◌, Option, Some, None, IfSome, flat_map, sum_by}
use Rattle.std.specs.List.{AllByRecursion, concat}
use Rattle.std.proofs.lemmas.List.Sums.{sum_by-cons}
use Rattle.hgs_bytes.specs.Bytes.{among}
use Rattle.hgs_index.specs.Entry.{Fits, entry_bytes}
use Rattle.hgs_index.specs.Node.{null_node}
use Rattle.hgs_index.specs.Revision.{ParentsBefore, Revision, node_after, nodes, nodes_from, parent_node}
use Rattle.hgs_index.specs.declared.entry.Header.{Header}
use Rattle.hgs_index.specs.Either.{HoldsEither, chunk_bytes}
use Rattle.hgs_index.specs.Inline.{is_inline}
use Rattle.hgs_index.specs.Revlog.{Holds, IsDataOf, Item, Stored, all_different, chunk_of, chunk_text, index_bytes, item_bytes, items, items_from}
use Rattle.hgs_index.specs.Theorems.RevisionLemmas.{length-nodes_from}
use Rattle.hgs_index.specs.Theorems.RevlogLemmas.{all-append, chunk_text-chunk_of, chunks_of, concat-append, entries_behind, index_bytes-append, items_from-append, map-append}
use Rattle.hgs_index.specs.Theorems.EitherLemmas.{chunks-are, held-form, holds-none, separate-holds}
use Rattle.hgs_model.specs.Theorems.NodeLemmas.{node_hash-node}
use Rattle.hgs_revlog.specs.Load.{most_data, most_text}
use Rattle.hgs_ops.specs.Growth.{as_stored, begins_inline, grows_inline, new_chunks, new_data, new_entries, new_items, own_header}
use Rattle.hgs_ops.specs.Unhindered.{HavePlaces}
use Rattle.hgs_ops.specs.Theorems.Touch.{never}

chunk-length : (text : List ℕ) → length (chunk_of text) ≤ length text + 1
chunk-length [] = omega arith
chunk-length (b ∷ text) = by (b == 0)
  where
    by : (z : Bool) → length (cond z (b ∷ text) (117 ∷ b ∷ text)) ≤ suc (length text) + 1
    by true = omega arith
    by false = omega arith

small-parent : (n : ℕ) (o : Option ℕ) → n < 2 ^ 31 → IfSome o (λ a. a < n) → IfSome o (λ a. a < 2 ^ 31)
small-parent n None le h = tt
small-parent n (Some a) le h = omega (arith, le, h)

pub drop-front : {A : Type 0} (xs ys : List A) → drop (length xs) (xs ++ ys) ≡ ys
drop-front [] ys = refl
drop-front (x ∷ xs) ys = drop-front xs ys

-- ---- more revisions behind the old ones

-- the numbers of the new revisions have room
pub record FitAfter (offset : ℕ) (old new : List Revision) : Type 0 where
  pub places : AllByRecursion (λ (i : Item). i.entry.offset ≤ most_data) (new_items offset old new)
  pub count : length old + length new ≤ 1000000
  pub texts : AllByRecursion (λ (r : Revision). length r.text ≤ most_text) new
  pub links : AllByRecursion (λ (r : Revision). r.link < 1000000) new
  pub before : ParentsBefore 0 (map (λ (r : Revision). r.parents) (old ++ new))

parents-behind : (n : ℕ) (xs ys : List Revision) → ParentsBefore n (map (λ (r : Revision). r.parents) (xs ++ ys)) → ParentsBefore (n + length xs) (map (λ (r : Revision). r.parents) ys)
parents-behind n [] ys h = subst (λ m. ParentsBefore m (map (λ (r : Revision). r.parents) ys)) (omega arith) h
parents-behind n (x ∷ xs) ys h = subst (λ m. ParentsBefore m (map (λ (r : Revision). r.parents) ys)) (omega arith) (parents-behind (suc n) xs ys h.2)

items-fit : (offset : ℕ) (known : List (List ℕ)) (new : List Revision) → length known + length new ≤ 1000000 → AllByRecursion (λ (i : Item). i.entry.offset ≤ most_data) (items_from offset known (map as_stored new))
    → AllByRecursion (λ (r : Revision). length r.text ≤ most_text) new → AllByRecursion (λ (r : Revision). r.link < 1000000) new → ParentsBefore (length known) (map (λ (r : Revision). r.parents) new)
    → AllByRecursion (λ (i : Item). Fits i.entry None) (items_from offset known (map as_stored new))
items-fit offset known [] count places texts links before = tt
items-fit offset known (r ∷ new) count places texts links before = (
  record {
    offset = omega (arith, places.0);
    flags = omega arith;
    stored = omega (arith, chunk-length r.text, texts.0);
    size = omega (arith, texts.0);
    base = omega (arith, count);
    link = omega (arith, links.0);
    p1 = small-parent (length known) r.parents.0 (omega (arith, count)) before.0;
    p2 = small-parent (length known) r.parents.1 (omega (arith, count)) before.1;
    node = (node_hash-node (parent_node known r.parents.0) (parent_node known r.parents.1) r.text).size;
    first = λ e. never (sym e);
  },
  items-fit (offset + length (chunk_of r.text)) (known ++ node_after known r ∷ []) new (omega (arith, count, longer)) places.1 texts.1 links.1
      (subst (λ n. ParentsBefore n (map (λ (x : Revision). x.parents) new)) (omega (arith, longer)) before.2),
)
  where
    longer : length (known ++ node_after known r ∷ []) ≡ length known + 1
    longer = length-append known (node_after known r ∷ [])

-- what is appended to a revlog in this form that grows to these revisions
abbrev pub items_of : Bool → List ℕ → List ℕ → List Revision → List Revision → List Item
items_of inline index data_bytes old new = new_items (length (chunk_bytes inline index data_bytes)) old new

abbrev pub GrownHeld : Bool → List ℕ → List ℕ → List Revision → List Revision → Type 0
GrownHeld inline index data_bytes old all =
    Holds inline (index ++ new_entries inline old (items_of inline index data_bytes old (drop (length old) all))) (data_bytes ++ new_data inline (items_of inline index data_bytes old (drop (length old) all))) all

-- the revisions and the texts of what is stored so
pub stored-revisions : (new : List Revision) → map (λ (s : Stored). s.revision) (map as_stored new) ≡ new
stored-revisions [] = refl
stored-revisions (r ∷ new) = ap (λ l. r ∷ l) (stored-revisions new)

stored-texts : (new : List Revision) → AllByRecursion (λ (s : Stored). chunk_text s.chunk ≡ Some s.revision.text) (map as_stored new)
stored-texts [] = tt
stored-texts (r ∷ new) = (chunk_text-chunk_of r.text, stored-texts new)

item-chunks : (offset : ℕ) (known : List (List ℕ)) (stored : List Stored) → map (λ (i : Item). i.chunk) (items_from offset known stored) ≡ map (λ (s : Stored). s.chunk) stored
item-chunks offset known [] = refl
item-chunks offset known (s ∷ stored) = ap (λ l. s.chunk ∷ l) (item-chunks (offset + length s.chunk) (known ++ node_after known s.revision ∷ []) stored)

data-more : (inline : Bool) (old new : List Stored) (data_bytes : List ℕ) (offset : ℕ) (known : List (List ℕ)) → IsDataOf inline old data_bytes → IsDataOf inline (old ++ new) (data_bytes ++ new_data inline (items_from offset known new))
data-more true old new data_bytes offset known is = tt
data-more false old new data_bytes offset known is =
    ap (λ l. l ++ new_chunks (items_from offset known new)) is ∙ ap (λ l. chunks_of old ++ concat l) (item-chunks offset known new)
    ∙ sym (concat-append (map (λ (s : Stored). s.chunk) old) (map (λ (s : Stored). s.chunk) new)) ∙ ap concat (sym (map-append (λ (s : Stored). s.chunk) old new))

-- where nothing is held yet, the header that is written will do
own-headed : (inline : Bool) (index data_bytes : List ℕ) (old : List Revision) (h : Holds inline index data_bytes old)
    → (g : Holds inline index data_bytes old) × ((old ≡ []) → g.header ≡ own_header inline)
own-headed inline index data_bytes [] h = (record h { header = own_header inline; form = refl; index_is = empty h.stored h.these h.index_is }, λ e. refl)
  where
    empty : (stored : List Stored) → map (λ (s : Stored). s.revision) stored ≡ [] → index ≡ index_bytes h.header (items stored) → index ≡ index_bytes (own_header inline) (items stored)
    empty [] these is = is
    empty (s ∷ stored) these is = cc
own-headed inline index data_bytes (r ∷ old) h = (h, λ e. none e)
  where
    none : {A : Type 0} → r ∷ old ≡ [] → A
    none e = cc

-- behind a first entry the header does not matter
item-form : (inline : Bool) (h : Header) (i : Item) → h.inline ≡ inline → item_bytes h None i ≡ item_bytes (own_header inline) None i
item-form inline h i e = ap (λ b. entry_bytes i.entry None ++ cond b i.chunk []) e

items-form : (inline : Bool) (h : Header) (is : List Item) → h.inline ≡ inline → flat_map (item_bytes h None) is ≡ flat_map (item_bytes (own_header inline) None) is
items-form inline h [] e = refl
items-form inline h (i ∷ is) e = λ k. item-form inline h i e k ++ items-form inline h is e k

entries-are : (inline : Bool) (h : Header) (stored : List Stored) (old : List Revision) (new : List Item) → h.inline ≡ inline → (old ≡ [] → h ≡ own_header inline) → map (λ (s : Stored). s.revision) stored ≡ old
    → entries_behind h (items stored) new ≡ new_entries inline old new
entries-are inline h [] [] new form own these = ap (λ (k : Header). index_bytes k new) (own refl)
entries-are inline h [] (r ∷ old) new form own these = cc
entries-are inline h (s ∷ stored) [] new form own these = cc
entries-are inline h (s ∷ stored) (r ∷ old) new form own these = items-form inline h new form

-- Behind a revlog that holds the old revisions the new entries and chunks hold the new ones too.
-- Of what is stored the chunks are the old ones and the new ones.
pub held-stored : (inline : Bool) (index data_bytes : List ℕ) (old new : List Revision) → Holds inline index data_bytes old → FitAfter (length (chunk_bytes inline index data_bytes)) old new → all_different (nodes (old ++ new)) ≡ true → among null_node (nodes (old ++ new)) ≡ false
    → (k : Holds inline (index ++ new_entries inline old (items_of inline index data_bytes old new)) (data_bytes ++ new_data inline (items_of inline index data_bytes old new)) (old ++ new)) × (chunks_of k.stored ≡ chunk_bytes inline index data_bytes ++ chunks_of (map as_stored new))
held-stored inline index data_bytes old new held fit different not_null = (
  record {
    header = h.header;
    stored = h.stored ++ map as_stored new;
    these = map-append (λ (s : Stored). s.revision) h.stored (map as_stored new) ∙ (λ i. h.these i ++ stored-revisions new i);
    texts = all-append (λ (s : Stored). chunk_text s.chunk ≡ Some s.revision.text) h.stored (map as_stored new) h.texts (stored-texts new);
    earlier = fit.before;
    fits = subst (AllByRecursion (λ (i : Item). Fits i.entry None)) (sym split) (all-append (λ (i : Item). Fits i.entry None) (items h.stored) more h.fits
        (items-fit offset (nodes old) new (omega (arith, fit.count, count)) fit.places fit.texts fit.links (subst (λ n. ParentsBefore n (map (λ (r : Revision). r.parents) new)) (omega (arith, count)) (parents-behind 0 old new fit.before))));
    different = different;
    not_null = not_null;
    form = h.form;
    index_is = (λ i. h.index_is i ++ sym (entries-are inline h.header h.stored old more h.form headed.1 h.these) i) ∙ sym (index_bytes-append h.header (items h.stored) more) ∙ ap (index_bytes h.header) (sym split);
    data_is = data-more inline h.stored (map as_stored new) data_bytes offset (nodes old) h.data_is;
  },
  chunks,
)
  where
    headed : (g : Holds inline index data_bytes old) × ((old ≡ []) → g.header ≡ own_header inline)
    headed = own-headed inline index data_bytes old held

    h : Holds inline index data_bytes old
    h = headed.0

    offset : ℕ
    offset = length (chunk_bytes inline index data_bytes)

    more : List Item
    more = new_items offset old new

    count : length (nodes old) ≡ length old
    count = length-nodes_from [] old ∙ omega arith

    split : items (h.stored ++ map as_stored new) ≡ items h.stored ++ more
    split =
        items_from-append 0 [] h.stored (map as_stored new)
        ∙ ap (λ o. items h.stored ++ items_from o (nodes_from [] (map (λ (s : Stored). s.revision) h.stored)) (map as_stored new)) (omega (arith, ap length (chunks-are inline index data_bytes old h)))
        ∙ ap (λ q. items h.stored ++ items_from offset (nodes q) (map as_stored new)) h.these

    chunks : chunks_of (h.stored ++ map as_stored new) ≡ chunk_bytes inline index data_bytes ++ chunks_of (map as_stored new)
    chunks =
        ap concat (map-append (λ (s : Stored). s.chunk) h.stored (map as_stored new)) ∙ concat-append (map (λ (s : Stored). s.chunk) h.stored) (map (λ (s : Stored). s.chunk) (map as_stored new))
        ∙ ap (λ l. l ++ chunks_of (map as_stored new)) (sym (chunks-are inline index data_bytes old h))

pub held-more : (inline : Bool) (index data_bytes : List ℕ) (old new : List Revision) → Holds inline index data_bytes old → FitAfter (length (chunk_bytes inline index data_bytes)) old new → all_different (nodes (old ++ new)) ≡ true → among null_node (nodes (old ++ new)) ≡ false
    → Holds inline (index ++ new_entries inline old (items_of inline index data_bytes old new)) (data_bytes ++ new_data inline (items_of inline index data_bytes old new)) (old ++ new)
held-more inline index data_bytes old new held fit different not_null = (held-stored inline index data_bytes old new held fit different not_null).0

-- the same of a longer list
pub grown-more : (inline : Bool) (index data_bytes : List ℕ) (old all new : List Revision) → Holds inline index data_bytes old → all ≡ old ++ new → FitAfter (length (chunk_bytes inline index data_bytes)) old new → all_different (nodes all) ≡ true → among null_node (nodes all) ≡ false → GrownHeld inline index data_bytes old all
grown-more inline index data_bytes old all new held e fit different not_null =
    subst (GrownHeld inline index data_bytes old) (sym e)
    (subst (λ (l : List Revision). Holds inline (index ++ new_entries inline old (items_of inline index data_bytes old l)) (data_bytes ++ new_data inline (items_of inline index data_bytes old l)) (old ++ new)) (sym (drop-front old new))
    (held-more inline index data_bytes old new held fit (ap (λ l. all_different (nodes l)) (sym e) ∙ different) (ap (λ l. among null_node (nodes l)) (sym e) ∙ not_null)))

-- ---- places of new chunks

-- where there is one new revision at most, its chunk begins where the old ones end
pub places-one : (offset : ℕ) (old all : List Revision) (r : Revision) → (all ≡ old) ⊎ (all ≡ old ++ r ∷ []) → offset ≤ most_data → HavePlaces offset old all
places-one offset old all r (inl e) le = subst (λ (l : List Revision). AllByRecursion (λ (i : Item). i.entry.offset ≤ most_data) (new_items offset old l)) (sym (ap (drop (length old)) e ∙ ap (drop (length old)) (sym (append-nil old)) ∙ drop-front old [])) tt
places-one offset old all r (inr e) le = subst (λ (l : List Revision). AllByRecursion (λ (i : Item). i.entry.offset ≤ most_data) (new_items offset old l)) (sym (ap (drop (length old)) e ∙ drop-front old (r ∷ []))) (le, tt)

-- where all new chunks end within the limit, each begins within it
items-placed : (offset : ℕ) (known : List (List ℕ)) (new : List Revision) → offset + sum_by (λ (r : Revision). length (chunk_of r.text)) new ≤ most_data → AllByRecursion (λ (i : Item). i.entry.offset ≤ most_data) (items_from offset known (map as_stored new))
items-placed offset known [] le = tt
items-placed offset known (r ∷ new) le = let sum = sum_by-cons (λ (x : Revision). length (chunk_of x.text)) r new in (omega (arith, le, sum), items-placed (offset + length (chunk_of r.text)) (known ++ node_after known r ∷ []) new (omega (arith, le, sum)))

pub places-end : (offset : ℕ) (old all : List Revision) → offset + sum_by (λ (r : Revision). length (chunk_of r.text)) (drop (length old) all) ≤ most_data → HavePlaces offset old all
places-end offset old all le = items-placed offset (nodes old) (drop (length old) all) le

-- ---- a revlog in the form in which it grows

-- nothing is held by empty files only
pub none-held : (index data_bytes : List ℕ) → HoldsEither index data_bytes [] → (index ≡ []) × (data_bytes ≡ [])
none-held index data_bytes h = (empty h.stored h.these h.index_is, chunks h.stored h.these (subst (λ f. IsDataOf f h.stored data_bytes) (ap is_inline (empty h.stored h.these h.index_is)) h.data_is))
  where
    empty : (stored : List Stored) → map (λ s. s.revision) stored ≡ [] → index ≡ index_bytes h.header (items stored) → index ≡ []
    empty [] these is = is
    empty (s ∷ stored) these is = cc

    chunks : (stored : List Stored) → map (λ s. s.revision) stored ≡ [] → IsDataOf false stored data_bytes → data_bytes ≡ []
    chunks [] these is = is
    chunks (s ∷ stored) these is = cc

-- a revlog holds what it has in the form in which it grows
pub held-growing : (index data_bytes : List ℕ) (old all : List Revision) → HoldsEither index data_bytes old → Holds (grows_inline index old all) index data_bytes old
held-growing index data_bytes [] all h =
    let none = none-held index data_bytes h in
    subst (λ x. Holds (begins_inline all) x data_bytes []) (sym none.0) (subst (λ y. Holds (begins_inline all) [] y []) (sym none.1) (holds-none (begins_inline all)))
held-growing index data_bytes (r ∷ old) all h = h

-- an empty index holds nothing in either form; of an inline revlog the data bytes may be any
pub held-new : (inline : Bool) (data_bytes : List ℕ) → (not inline ≡ true → data_bytes ≡ []) → Holds inline [] data_bytes []
held-new true data_bytes none = record {
  header = record { inline = true; generaldelta = false };
  stored = [];
  these = refl;
  texts = tt;
  earlier = tt;
  fits = tt;
  different = refl;
  not_null = refl;
  form = refl;
  index_is = refl;
  data_is = tt;
}
held-new false data_bytes none = subst (λ y. Holds false [] y []) (sym (none refl)) (holds-none false)

-- where something is held, the index says the form
pub own-form : (inline : Bool) (index data_bytes : List ℕ) (all : List Revision) → (all ≡ [] → inline ≡ false) → Holds inline index data_bytes all → HoldsEither index data_bytes all
own-form inline index data_bytes [] plain h = separate-holds index data_bytes [] (subst (λ f. Holds f index data_bytes []) (plain refl) h)
own-form inline index data_bytes (r ∷ all) plain h = subst (λ f. Holds f index data_bytes (r ∷ all)) (sym (ap is_inline (sym (append-nil index)) ∙ held-form inline index data_bytes [] r all h)) h
