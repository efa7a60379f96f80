-- One more entry behind bytes that hold revisions.
use Rattle.std.proofs.Common.{◌≡◌, ℕ, suc, ◌+◌, ◌<◌, Bool, true, false, cond, ◌||◌, not, List, [], ◌∷◌, ◌++◌, length, map, Option, Some, None, refl, sym, ◌∙◌, ap, subst, arith, append_assoc, append-nil, length-append}
use Rattle.std.specs.Prelude.{nat_lt, IfSome, position}
use Rattle.std.specs.List.{position_or_len}
use Rattle.std.proofs.lemmas.List.Sums.{sum_by-cons}
use Rattle.hgs_bytes.specs.Bytes.{same, among}
use Rattle.hgs_index.specs.declared.entry.Entry.{Entry}
use Rattle.hgs_index.specs.declared.entry.Header.{Header}
use Rattle.hgs_index.specs.Entry.{entry_bytes, Fits}
use Rattle.hgs_index.specs.Inline.{chunks_apart, index_apart}
use Rattle.hgs_index.specs.Node.{null_node, node_hash}
use Rattle.hgs_index.specs.Revision.{Revision, nodes, nodes_from, node_after, parent_node}
use Rattle.hgs_index.specs.Revlog.{Holds, Stored, Item, chunk_text, entry_after, items_from, items, next_header}
use Rattle.hgs_index.specs.Theorems.EitherLemmas.{form-one-more}
use Rattle.hgs_index.specs.Theorems.RevisionLemmas.{length-nodes_from}
use Rattle.hgs_index.specs.Theorems.RevlogFrontLemmas.{held-one-more}
use Rattle.hgs_index.specs.Theorems.RevlogLemmas.{chunks_of, items-more, map-append}
use Rattle.hgs_revlog.specs.Log.{place_of, stored_sum, nodes_of}
use Rattle.hgs_revlog.specs.Load.{is_above}
use Rattle.hgs_revlog.specs.Held.{Agrees, revision_of}
use Rattle.hgs_revlog.specs.Theorems.LogLemmas.{equal_from_same, same_itself, length-nodes_of}
use Rattle.hgs_revlog.specs.Theorems.LoadLemmas.{IsFaultless, neither}

-- The chunk stands for this text, and the entry behind these says so.
pub record IsWhole (before : List Entry) (e : Entry) (chunk text : List ℕ) : Type 0 where
  pub flags : e.flags ≡ 0
  pub base : e.base ≡ length before
  pub stored : length chunk ≡ e.stored
  pub spells : chunk_text chunk ≡ Some text
  pub size : length text ≡ e.size
  pub node : e.node.0 ≡ node_hash (parent_node (nodes_of before) e.p1) (parent_node (nodes_of before) e.p2) text

abbrev pub entries_of : List Item → List Entry
entries_of items = map (λ i. i.entry) items

nodes_of_items : (offset : ℕ) (known : List (List ℕ)) (stored : List Stored) → known ++ nodes_of (entries_of (items_from offset known stored)) ≡ nodes_from known (map (λ s. s.revision) stored)
nodes_of_items offset known [] = append-nil known
nodes_of_items offset known (s ∷ stored) =
    let node = node_after known s.revision in
    sym (append_assoc known (node ∷ []) (nodes_of (entries_of (items_from (offset + length s.chunk) (known ++ node ∷ []) stored)))) ∙ nodes_of_items (offset + length s.chunk) (known ++ node ∷ []) stored

sum_of_items : (offset : ℕ) (known : List (List ℕ)) (stored : List Stored) → stored_sum (entries_of (items_from offset known stored)) ≡ length (chunks_of stored)
sum_of_items offset known [] = refl
sum_of_items offset known (s ∷ stored) =
    let node = node_after known s.revision in
    let more = entries_of (items_from (offset + length s.chunk) (known ++ node ∷ []) stored) in
    let head = sum_by-cons (λ (e : Entry). e.stored) (entry_after offset known s) more in
    let tail = sum_of_items (offset + length s.chunk) (known ++ node ∷ []) stored in
    omega (arith, head, tail, length-append s.chunk (chunks_of stored))

-- the entries have the nodes of the revisions
pub nodes_of-agrees : (index data_bytes : List ℕ) (entries : List Entry) (revisions : List Revision) → Agrees index data_bytes entries revisions → nodes_of entries ≡ nodes revisions
nodes_of-agrees index data_bytes entries revisions h = ap nodes_of h.entries_are ∙ nodes_of_items 0 [] h.held.stored ∙ ap nodes h.held.these

-- the data ends where the entries say
pub stored_sum-agrees : (index data_bytes : List ℕ) (entries : List Entry) (revisions : List Revision) → Agrees index data_bytes entries revisions → stored_sum entries ≡ length data_bytes
stored_sum-agrees index data_bytes entries revisions h = ap stored_sum h.entries_are ∙ sum_of_items 0 [] h.held.stored ∙ ap length (sym h.held.data_is)

pub length-agrees : (index data_bytes : List ℕ) (entries : List Entry) (revisions : List Revision) → Agrees index data_bytes entries revisions → length entries ≡ length revisions
length-agrees index data_bytes entries revisions h =
    let n = ap length (nodes_of-agrees index data_bytes entries revisions h) in
    omega (arith, n, length-nodes_of entries, length-nodes_from [] revisions)

-- the stored revision that an entry with its chunk and text is
abbrev stored_of : Entry → List ℕ → List ℕ → Stored
stored_of e chunk text = record { revision = revision_of e text; chunk = chunk }

entry_is : (index data_bytes : List ℕ) (entries : List Entry) (revisions : List Revision) (e : Entry) (chunk text : List ℕ)
    → Agrees index data_bytes entries revisions → e.offset ≡ stored_sum entries → IsWhole entries e chunk text → e ≡ entry_after (length data_bytes) (nodes revisions) (stored_of e chunk text)
entry_is index data_bytes entries revisions e chunk text h offset w =
    let nodes_are = nodes_of-agrees index data_bytes entries revisions h in
    let o : e.offset ≡ length data_bytes = offset ∙ stored_sum-agrees index data_bytes entries revisions h in
    let s : e.stored ≡ length chunk = sym w.stored in
    let z : e.size ≡ length text = sym w.size in
    let b : e.base ≡ length (nodes revisions) = w.base ∙ sym (length-nodes_of entries) ∙ ap length nodes_are in
    let n : e.node.0 ≡ node_after (nodes revisions) (revision_of e text) = w.node ∙ ap (λ known. node_hash (parent_node known e.p1) (parent_node known e.p2) text) nodes_are in
    λ i. record { offset = o i; flags = w.flags i; stored = s i; size = z i; base = b i; link = e.link; p1 = e.p1; p2 = e.p2; node = record { 0 = n i } }

pub below : (rev : ℕ) (p : Option ℕ) → is_above rev p ≡ false → IfSome p (λ a. a < rev)
below rev None h = tt
below rev (Some p) h = grind arith

pub swap_same : (x y : List ℕ) → same x y ≡ false → same y x ≡ false
swap_same x y h = by (same y x) refl
  where
    by : (b : Bool) → same y x ≡ b → b ≡ false
    by true t = absurd (let no : true ≡ false = sym (same_itself x) ∙ ap (same x) (sym (equal_from_same y x t)) ∙ h in cc)
    by false t = refl

-- no place on a list that begins with one element
position_none : {A : Type 0} (p : A → Bool) (x : A) (xs : List A) → position p (x ∷ xs) ≡ None → (p x ≡ false) × (position p xs ≡ None)
position_none p x xs h = by (p x) refl h
  where
    by : (b : Bool) → p x ≡ b → cond (nat_lt (cond (not b) (1 + position_or_len p xs) 0) (suc (length xs))) (Some (cond (not b) (1 + position_or_len p xs) 0)) None ≡ None → (p x ≡ false) × (position p xs ≡ None)
    by true t h = absurd (grind arith)
    by false t h = (t, grind arith)

none_position : {A : Type 0} (p : A → Bool) (x : A) (xs : List A) → p x ≡ false → position p xs ≡ None → position p (x ∷ xs) ≡ None
none_position p x xs t h =
    ap (λ b. cond (nat_lt (cond (not b) (1 + position_or_len p xs) 0) (suc (length xs))) (Some (cond (not b) (1 + position_or_len p xs) 0)) None) t
    ∙ by (position_or_len p xs) (length xs) h
  where
    by : (n len : ℕ) → cond (nat_lt n len) (Some n) None ≡ None → cond (nat_lt (1 + n) (suc len)) (Some (1 + n)) None ≡ None
    by n len h = grind arith

-- a node without a place is not among the nodes, and the other way
pub not_among : (entries : List Entry) (node : List ℕ) → place_of entries node ≡ None → among node (nodes_of entries) ≡ false
not_among [] node h = refl
not_among (e ∷ entries) node h =
    let s = position_none (λ e. same e.node.0 node) e entries h in
    ap (λ b. b || among node (nodes_of entries)) (swap_same e.node.0 node s.0) ∙ not_among entries node s.1

pub among_none : (entries : List Entry) (node : List ℕ) → among node (nodes_of entries) ≡ false → place_of entries node ≡ None
among_none [] node h = refl
among_none (e ∷ entries) node h =
    let s = neither (same node e.node.0) (among node (nodes_of entries)) h in
    none_position (λ e. same e.node.0 node) e entries (swap_same node e.node.0 s.0) (among_none entries node s.1)

-- Behind bytes that hold revisions, an entry without fault and its chunk hold one more.
pub agrees_on : (index data_bytes : List ℕ) (entries : List Entry) (revisions : List Revision) (e : Entry) (chunk text : List ℕ) (header : Header)
    → Agrees index data_bytes entries revisions → IsFaultless entries e → IsWhole entries e chunk text → Fits e None → header.inline ≡ false
    → Agrees (index ++ entry_bytes e (next_header revisions header)) (data_bytes ++ chunk) (entries ++ e ∷ []) (revisions ++ revision_of e text ∷ [])
agrees_on index data_bytes entries revisions e chunk text header h f w fits separate =
    let s = stored_of e chunk text in
    let next = entry_after (length data_bytes) (nodes revisions) s in
    let is : e ≡ next = entry_is index data_bytes entries revisions e chunk text h f.offset w in
    let len = length-agrees index data_bytes entries revisions h in
    let fresh : among e.node.0 (null_node ∷ nodes revisions) ≡ false =
    ap (λ known. same e.node.0 null_node || among e.node.0 known) (sym (nodes_of-agrees index data_bytes entries revisions h))
    ∙ ap (λ b. b || among e.node.0 (nodes_of entries)) (swap_same null_node e.node.0 f.named) ∙ not_among entries e.node.0 f.fresh in
    let more = held-one-more index data_bytes revisions s header h.held separate w.spells
    (subst (λ n. IfSome e.p1 (λ p. p < n)) len (below (length entries) e.p1 f.first)) (subst (λ n. IfSome e.p2 (λ p. p < n)) len (below (length entries) e.p2 f.second))
    (subst (λ x. Fits x None) is fits)
    (subst (λ x. among x.node.0 (null_node ∷ nodes revisions) ≡ false) is fresh) in
    let entries_are : entries_of (items more.0.stored) ≡ entries_of (items h.held.stored) ++ next ∷ [] =
    ap (λ l. entries_of (items l)) more.1 ∙ ap entries_of (items-more index data_bytes revisions h.held (s ∷ [])) ∙ map-append (λ (i : Item). i.entry) (items h.held.stored) _ in
    subst (λ x. Agrees (index ++ entry_bytes x (next_header revisions header)) (data_bytes ++ chunk) (entries ++ x ∷ []) (revisions ++ revision_of e text ∷ [])) (sym is)
    (record { held = more.0; entries_are = ap (λ l. l ++ next ∷ []) h.entries_are ∙ sym entries_are })

-- The same behind an inline index that holds revisions, where the chunk stands behind the entry.
pub holds_on : (index data_bytes : List ℕ) (entries : List Entry) (revisions : List Revision) (e : Entry) (chunk text : List ℕ) (header : Header)
    → Holds true index data_bytes revisions → Agrees (index_apart index) (chunks_apart index) entries revisions → IsFaultless entries e → IsWhole entries e chunk text → Fits e None → header.inline ≡ true
    → Holds true (index ++ (entry_bytes e (next_header revisions header) ++ chunk)) data_bytes (revisions ++ revision_of e text ∷ [])
holds_on index data_bytes entries revisions e chunk text header held h f w fits inline =
    let s = stored_of e chunk text in
    let next = entry_after (length (chunks_apart index)) (nodes revisions) s in
    let is : e ≡ next = entry_is (index_apart index) (chunks_apart index) entries revisions e chunk text h f.offset w in
    let len = length-agrees (index_apart index) (chunks_apart index) entries revisions h in
    let fresh : among e.node.0 (null_node ∷ nodes revisions) ≡ false =
    ap (λ known. same e.node.0 null_node || among e.node.0 known) (sym (nodes_of-agrees (index_apart index) (chunks_apart index) entries revisions h))
    ∙ ap (λ b. b || among e.node.0 (nodes_of entries)) (swap_same null_node e.node.0 f.named) ∙ not_among entries e.node.0 f.fresh in
    subst (λ x. Holds true (index ++ (entry_bytes x (next_header revisions header) ++ chunk)) data_bytes (revisions ++ revision_of e text ∷ [])) (sym is)
    (subst (λ d. Holds true (index ++ (entry_bytes next (next_header revisions header) ++ chunk)) d (revisions ++ revision_of e text ∷ [])) (append-nil data_bytes)
    (form-one-more true index data_bytes revisions s header held inline w.spells
    (subst (λ n. IfSome e.p1 (λ p. p < n)) len (below (length entries) e.p1 f.first)) (subst (λ n. IfSome e.p2 (λ p. p < n)) len (below (length entries) e.p2 f.second))
    (subst (λ x. Fits x None) is fits) (subst (λ x. among x.node.0 (null_node ∷ nodes revisions) ≡ false) is fresh)))
