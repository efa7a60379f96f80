-- Revlogs: their length, and one more revision.
use Rattle.std.proofs.Common.{◌≡◌, ℕ, suc, ◌+◌, ◌*◌, List, [], ◌∷◌, ◌++◌, Bool, true, false, cond, length, map, refl, sym, ◌∙◌, ap, subst, arith, append_assoc, append-nil, length-append}
use Rattle.std.specs.Prelude.{Option, Some, None, flat_map, ◌==◌}
use Rattle.std.specs.List.{AllByRecursion, concat}
use Rattle.hgs_bytes.specs.Bytes.{among}
use Rattle.hgs_index.specs.Node.{null_node}
use Rattle.hgs_index.specs.declared.entry.Header.{Header}
use Rattle.hgs_index.specs.Entry.{entry_bytes, Fits}
use Rattle.hgs_index.specs.Revision.{Revision, Parents, node_after, nodes_from, nodes, ParentsBefore}
use Rattle.hgs_index.specs.Theorems.EntryPartLemmas.{length-entry_bytes}
use Rattle.hgs_index.specs.Revlog.{chunk_text, chunk_of, Stored, Item, entry_after, items_from, items, item_bytes, index_bytes, all_different, HoldsRevisions, BeginsWithRevisions}

-- the chunk that is written stands for its text
pub chunk_text-chunk_of : (text : List ℕ) → chunk_text (chunk_of text) ≡ Some text
chunk_text-chunk_of [] = refl
chunk_text-chunk_of (b ∷ text) = by (b == 0) refl
  where
    by : (z : Bool) → (b == 0) ≡ z → chunk_text (cond z (b ∷ text) (117 ∷ b ∷ text)) ≡ Some (b ∷ text)
    by true e = ap (λ c. cond c (Some (b ∷ text)) (cond (b == 117) (Some text) None)) e
    by false e = refl

item-length : (h : Header) (first : Option Header) (i : Item) → h.inline ≡ false → Fits i.entry None → length (item_bytes h first i) ≡ 64
item-length h first i e good = ap (λ b. length (entry_bytes i.entry first ++ cond b i.chunk [])) e ∙ ap length (append-nil (entry_bytes i.entry first)) ∙ length-entry_bytes i.entry first good.node

rest-length : (h : Header) (is : List Item) → h.inline ≡ false → AllByRecursion (λ (i : Item). Fits i.entry None) is → length (flat_map (item_bytes h None) is) ≡ 64 * length is
rest-length h [] e all = refl
rest-length h (i ∷ is) e all = omega (arith, length-append (item_bytes h None i) (flat_map (item_bytes h None) is), item-length h None i e all.0, rest-length h is e all.1)

pub length-index_bytes : (h : Header) (is : List Item) → h.inline ≡ false → AllByRecursion (λ (i : Item). Fits i.entry None) is → length (index_bytes h is) ≡ 64 * length is
length-index_bytes h [] e all = refl
length-index_bytes h (i ∷ is) e all = omega (arith, length-append (item_bytes h (Some h) i) (flat_map (item_bytes h None) is), item-length h (Some h) i e all.0, rest-length h is e all.1)

length-items : (offset : ℕ) (known : List (List ℕ)) (stored : List Stored) → length (items_from offset known stored) ≡ length stored
length-items offset known [] = refl
length-items offset known (s ∷ stored) = ap suc (length-items (offset + length s.chunk) (known ++ node_after known s.revision ∷ []) stored)

length-revisions : (stored : List Stored) → length (map (λ s. s.revision) stored) ≡ length stored
length-revisions [] = refl
length-revisions (s ∷ stored) = ap suc (length-revisions stored)

-- an index has 64 bytes for each revision
pub length-held : (index data_bytes : List ℕ) (revisions : List Revision) → HoldsRevisions index data_bytes revisions → length index ≡ 64 * length revisions
length-held index data_bytes revisions h =
    omega (arith, ap length h.index_is, length-index_bytes h.header (items h.stored) h.form h.fits, length-items 0 [] h.stored, ap length h.these, length-revisions h.stored)

-- what holds the revisions begins with bytes that hold them
pub held-begins : (index data_bytes : List ℕ) (revisions : List Revision) → HoldsRevisions index data_bytes revisions → BeginsWithRevisions index data_bytes revisions
held-begins index data_bytes revisions h = record {
  index_front = index;
  data_front = data_bytes;
  held = h;
  index_begins = ([], sym (append-nil index));
  data_begins = ([], sym (append-nil data_bytes));
}

-- more bytes behind change nothing
pub begins-more : (index data_bytes more more_data : List ℕ) (revisions : List Revision) → BeginsWithRevisions index data_bytes revisions → BeginsWithRevisions (index ++ more) (data_bytes ++ more_data) revisions
begins-more index data_bytes more more_data revisions h = record {
  index_front = h.index_front;
  data_front = h.data_front;
  held = h.held;
  index_begins = (h.index_begins.0 ++ more, ap (λ l. l ++ more) h.index_begins.1 ∙ append_assoc h.index_front h.index_begins.0 more);
  data_begins = (h.data_begins.0 ++ more_data, ap (λ l. l ++ more_data) h.data_begins.1 ∙ append_assoc h.data_front h.data_begins.0 more_data);
}

-- empty files hold no revisions
abbrev pub held-none : HoldsRevisions [] [] []
held-none = record {
  header = record { inline = false; generaldelta = false };
  stored = [];
  these = refl;
  texts = tt;
  earlier = tt;
  fits = tt;
  different = refl;
  not_null = refl;
  form = refl;
  index_is = refl;
  data_is = refl;
}

pub all-append : {A : Type 0} (P : A → Type 0) (xs ys : List A) → AllByRecursion P xs → AllByRecursion P ys → AllByRecursion P (xs ++ ys)
all-append P [] ys a b = b
all-append P (x ∷ xs) ys a b = (a.0, all-append P xs ys a.1 b)

flat_map-append : {A B : Type 0} (f : A → List B) (xs ys : List A) → flat_map f (xs ++ ys) ≡ flat_map f xs ++ flat_map f ys
flat_map-append f [] ys = refl
flat_map-append f (x ∷ xs) ys = ap (λ l. f x ++ l) (flat_map-append f xs ys) ∙ sym (append_assoc (f x) (flat_map f xs) (flat_map f ys))

pub map-append : {A B : Type 0} (f : A → B) (xs ys : List A) → map f (xs ++ ys) ≡ map f xs ++ map f ys
map-append f [] ys = refl
map-append f (x ∷ xs) ys = ap (λ l. f x ∷ l) (map-append f xs ys)

pub concat-append : (xs ys : List (List ℕ)) → concat (xs ++ ys) ≡ concat xs ++ concat ys
concat-append [] ys = refl
concat-append (x ∷ xs) ys = ap (λ l. x ++ l) (concat-append xs ys) ∙ sym (append_assoc x (concat xs) (concat ys))

abbrev pub chunks_of : List Stored → List ℕ
chunks_of stored = concat (map (λ s. s.chunk) stored)

-- the items of two lists, one after the other
pub items_from-append : (offset : ℕ) (known : List (List ℕ)) (xs ys : List Stored)
    → items_from offset known (xs ++ ys) ≡ items_from offset known xs ++ items_from (offset + length (chunks_of xs)) (nodes_from known (map (λ s. s.revision) xs)) ys
items_from-append offset known [] ys = ap (λ o. items_from o known ys) (sym (add-zero offset))
  where
    add-zero : (n : ℕ) → n + 0 ≡ n
    add-zero n = omega arith
items_from-append offset known (x ∷ xs) ys =
    ap (λ l. record { entry = entry_after offset known x; chunk = x.chunk } ∷ l)
    (items_from-append (offset + length x.chunk) (known ++ node_after known x.revision ∷ []) xs ys
    ∙ ap (λ o. items_from (offset + length x.chunk) (known ++ node_after known x.revision ∷ []) xs ++ items_from o (nodes_from (known ++ node_after known x.revision ∷ []) (map (λ s. s.revision) xs)) ys)
    (omega (arith, length-append x.chunk (chunks_of xs))))

-- the new entries behind the old ones; the first of a revlog begins with the header
abbrev pub entries_behind : Header → List Item → List Item → List ℕ
entries_behind h [] new = index_bytes h new
entries_behind h (i ∷ old) new = flat_map (item_bytes h None) new

pub index_bytes-append : (h : Header) (old new : List Item) → index_bytes h (old ++ new) ≡ index_bytes h old ++ entries_behind h old new
index_bytes-append h [] new = refl
index_bytes-append h (i ∷ old) new =
    ap (λ l. item_bytes h (Some h) i ++ l) (flat_map-append (item_bytes h None) old new)
    ∙ sym (append_assoc (item_bytes h (Some h) i) (flat_map (item_bytes h None) old) (flat_map (item_bytes h None) new))

pub parents-append : (n : ℕ) (xs ys : List Parents) → ParentsBefore n xs → ParentsBefore (n + length xs) ys → ParentsBefore n (xs ++ ys)
parents-append n [] ys a b = subst (λ m. ParentsBefore m ys) (omega arith) b
parents-append n (x ∷ xs) ys a b = (a.0, a.1, parents-append (suc n) xs ys a.2 (subst (λ m. ParentsBefore m ys) (omega arith) b))

pub length-parents : (revisions : List Revision) → length (map (λ (r : Revision). r.parents) revisions) ≡ length revisions
length-parents [] = refl
length-parents (r ∷ revisions) = ap suc (length-parents revisions)

-- bytes hold these revisions, which are stored so
abbrev pub HeldAs : List ℕ → List ℕ → List Revision → List Stored → Type 0
HeldAs index data_bytes revisions stored = (h : HoldsRevisions index data_bytes revisions) × (h.stored ≡ stored)

-- behind bytes that hold some revisions, the items of more begin where these end
pub items-more : (index data_bytes : List ℕ) (revisions : List Revision) (h : HoldsRevisions index data_bytes revisions) (more : List Stored)
    → items (h.stored ++ more) ≡ items h.stored ++ items_from (length data_bytes) (nodes revisions) more
items-more index data_bytes revisions h more =
    items_from-append 0 [] h.stored more
    ∙ ap (λ o. items h.stored ++ items_from o (nodes_from [] (map (λ s. s.revision) h.stored)) more) (omega (arith, ap length h.data_is))
    ∙ ap (λ k. items h.stored ++ items_from (length data_bytes) (nodes k) more) h.these

-- Behind the bytes that hold some revisions, the entries and chunks of more revisions hold these too.
pub held-more : (index data_bytes : List ℕ) (revisions : List Revision) (h : HoldsRevisions index data_bytes revisions) (more : List Stored)
    → AllByRecursion (λ (s : Stored). chunk_text s.chunk ≡ Some s.revision.text) more
    → ParentsBefore (length revisions) (map (λ (r : Revision). r.parents) (map (λ (s : Stored). s.revision) more))
    → AllByRecursion (λ (i : Item). Fits i.entry None) (items_from (length data_bytes) (nodes revisions) more)
    → all_different (nodes (revisions ++ map (λ s. s.revision) more)) ≡ true
    → among null_node (nodes (revisions ++ map (λ s. s.revision) more)) ≡ false
    → HeldAs (index ++ entries_behind h.header (items h.stored) (items_from (length data_bytes) (nodes revisions) more)) (data_bytes ++ chunks_of more) (revisions ++ map (λ s. s.revision) more) (h.stored ++ more)
held-more index data_bytes revisions h more texts earlier fits different not_null =
    let split = items-more index data_bytes revisions h more in (
      record {
        header = h.header;
        stored = h.stored ++ more;
        these = map-append (λ (s : Stored). s.revision) h.stored more ∙ ap (λ l. l ++ map (λ s. s.revision) more) h.these;
        texts = all-append _ h.stored more h.texts texts;
        earlier = subst (ParentsBefore 0) (sym (map-append (λ (r : Revision). r.parents) revisions (map (λ (s : Stored). s.revision) more)))
            (parents-append 0 (map (λ (r : Revision). r.parents) revisions) _ h.earlier (subst (λ n. ParentsBefore n (map (λ (r : Revision). r.parents) (map (λ (s : Stored). s.revision) more))) (omega (arith, length-parents revisions)) earlier));
        fits = subst (AllByRecursion (λ (i : Item). Fits i.entry None)) (sym split) (all-append _ (items h.stored) _ h.fits fits);
        different = different;
        not_null = not_null;
        form = h.form;
        index_is = ap (λ l. l ++ entries_behind h.header (items h.stored) (items_from (length data_bytes) (nodes revisions) more)) h.index_is ∙ sym (index_bytes-append h.header (items h.stored) _) ∙ ap (index_bytes h.header) (sym split);
        data_is = ap (λ l. l ++ chunks_of more) h.data_is ∙ sym (concat-append (map (λ s. s.chunk) h.stored) (map (λ s. s.chunk) more)) ∙ ap concat (sym (map-append (λ (s : Stored). s.chunk) h.stored more));
      },
      refl,
    )
