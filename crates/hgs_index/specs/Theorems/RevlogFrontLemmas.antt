-- The front of a list that bytes hold, and one more revision behind it.
use Rattle.std.proofs.Common.{◌≡◌, ℕ, suc, ◌+◌, ◌<◌, List, [], ◌∷◌, ◌++◌, Bool, true, false, cond, ◌&&◌, ◌||◌, not, length, map, Some, None, refl, sym, ◌∙◌, ap, subst, append-nil}
use Rattle.std.specs.Prelude.{IfSome}
use Rattle.std.specs.List.{AllByRecursion, concat}
use Rattle.std.proofs.lemmas.Bool.{false_from_ne_true}
use Rattle.hgs_bytes.specs.Bytes.{same, among}
use Rattle.hgs_bytes.specs.Theorems.ByteLemmas.{same-eq, same-refl}
use Rattle.hgs_index.specs.declared.entry.Entry.{Entry}
use Rattle.hgs_index.specs.declared.entry.Header.{Header}
use Rattle.hgs_index.specs.Entry.{entry_bytes, Fits}
use Rattle.hgs_index.specs.Node.{null_node}
use Rattle.hgs_index.specs.Revision.{Revision, Parents, node_after, nodes_from, nodes, ParentsBefore}
use Rattle.hgs_index.specs.Revlog.{chunk_text, Stored, Item, entry_after, items_from, items, index_bytes, all_different, next_header, HoldsRevisions, BeginsWithRevisions}
use Rattle.hgs_index.specs.Theorems.RevisionLemmas.{nodes_from-append, nodes-append}
use Rattle.hgs_index.specs.Theorems.RevlogLemmas.{chunks_of, map-append, concat-append, items_from-append, index_bytes-append, entries_behind, HeldAs, held-more, begins-more}

pub all-front : {A : Type 0} (P : A → Type 0) (xs ys : List A) → AllByRecursion P (xs ++ ys) → AllByRecursion P xs
all-front P [] ys h = tt
all-front P (x ∷ xs) ys h = (h.0, all-front P xs ys h.1)

pub parents-front : (n : ℕ) (xs ys : List Parents) → ParentsBefore n (xs ++ ys) → ParentsBefore n xs
parents-front n [] ys h = tt
parents-front n (x ∷ xs) ys h = (h.0, h.1, parents-front (suc n) xs ys h.2)

pub or-false : (a b : Bool) → (a || b) ≡ false → (a ≡ false) × (b ≡ false)
or-false true b h = cc
or-false false b h = (refl, h)

and-true : (a b : Bool) → (a && b) ≡ true → (a ≡ true) × (b ≡ true)
and-true true b h = (refl, h)
and-true false b h = cc

pub among-front : (x : List ℕ) (xs ys : List (List ℕ)) → among x (xs ++ ys) ≡ false → among x xs ≡ false
among-front x [] ys h = refl
among-front x (y ∷ xs) ys h =
    let p = or-false (same x y) (among x (xs ++ ys)) h in
    ap (λ b. b || among x xs) p.0 ∙ among-front x xs ys p.1

pub among-both : (x : List ℕ) (xs ys : List (List ℕ)) → among x xs ≡ false → among x ys ≡ false → among x (xs ++ ys) ≡ false
among-both x [] ys h k = k
among-both x (y ∷ xs) ys h k =
    let p = or-false (same x y) (among x xs) h in
    ap (λ b. b || among x (xs ++ ys)) p.0 ∙ among-both x xs ys p.1 k

not-true : (b : Bool) → not b ≡ true → b ≡ false
not-true true h = cc
not-true false h = refl

pub different-front : (xs ys : List (List ℕ)) → all_different (xs ++ ys) ≡ true → all_different xs ≡ true
different-front [] ys h = refl
different-front (x ∷ xs) ys h =
    let p = and-true (not (among x (xs ++ ys))) (all_different (xs ++ ys)) h in
    ap (λ b. not b && all_different xs) (among-front x xs ys (not-true (among x (xs ++ ys)) p.0)) ∙ different-front xs ys p.1

pub same-swap : (x y : List ℕ) → same x y ≡ false → same y x ≡ false
same-swap x y h = false_from_ne_true (same y x) (λ e. clash (ap (same x) (same-eq y x e) ∙ same-refl x))
  where
    clash : same x y ≡ true → ⊥
    clash k = cc

pub different-last : (xs : List (List ℕ)) (y : List ℕ) → all_different xs ≡ true → among y xs ≡ false → all_different (xs ++ y ∷ []) ≡ true
different-last [] y h k = refl
different-last (x ∷ xs) y h k =
    let p = and-true (not (among x xs)) (all_different xs) h in
    let q = or-false (same y x) (among y xs) k in
    let last : among x (y ∷ []) ≡ false = ap (λ b. b || false) (same-swap y x q.0) in
    ap (λ b. not b && all_different (xs ++ y ∷ [])) (among-both x xs (y ∷ []) (not-true (among x xs) p.0) last) ∙ different-last xs y p.1 q.1

-- ---- a front of what is held

abbrev pub revisions_of : List Stored → List Revision
revisions_of stored = map (λ s. s.revision) stored

pub record Halves (front more : List Revision) (stored : List Stored) : Type 0 where
  pub first : List Stored
  pub second : List Stored
  pub whole : stored ≡ first ++ second
  pub these : revisions_of first ≡ front
  pub rest : revisions_of second ≡ more

abbrev with_one : (s : Stored) (r : Revision) (front more : List Revision) (stored : List Stored) → s.revision ≡ r → Halves front more stored → Halves (r ∷ front) more (s ∷ stored)
with_one s r front more stored e h = record {
  first = s ∷ h.first;
  second = h.second;
  whole = ap (λ l. s ∷ l) h.whole;
  these = λ i. e i ∷ h.these i;
  rest = h.rest;
}

pub halves : (front more : List Revision) (stored : List Stored) → revisions_of stored ≡ front ++ more → Halves front more stored
halves [] more stored e = record { first = []; second = stored; whole = refl; these = refl; rest = e }
halves (r ∷ front) more [] e = cc
halves (r ∷ front) more (s ∷ stored) e =
    let first : s.revision ≡ r = cc in
    let rest : revisions_of stored ≡ front ++ more = cc in
    with_one s r front more stored first (halves front more stored rest)

-- Bytes that hold a list begin with bytes that hold each front of it.
pub held-front : (index data_bytes : List ℕ) (front more : List Revision) → HoldsRevisions index data_bytes (front ++ more) → BeginsWithRevisions index data_bytes front
held-front index data_bytes front more h =
    let two = halves front more h.stored h.these in
    let nodes_in = nodes-append front more in
    let later = items_from (0 + length (chunks_of two.first)) (nodes_from [] (revisions_of two.first)) two.second in
    let parted : items h.stored ≡ items two.first ++ later = ap items two.whole ∙ items_from-append 0 [] two.first two.second in
    record {
      index_front = index_bytes h.header (items two.first);
      data_front = chunks_of two.first;
      held = record {
        header = h.header;
        stored = two.first;
        these = two.these;
        texts = all-front (λ (s : Stored). chunk_text s.chunk ≡ Some s.revision.text) two.first two.second (subst (AllByRecursion (λ (s : Stored). chunk_text s.chunk ≡ Some s.revision.text)) two.whole h.texts);
        earlier = parents-front 0 (map (λ r. r.parents) front) (map (λ r. r.parents) more) (subst (ParentsBefore 0) (map-append (λ (r : Revision). r.parents) front more) h.earlier);
        fits = all-front (λ (i : Item). Fits i.entry None) (items two.first) later (subst (AllByRecursion (λ (i : Item). Fits i.entry None)) parted h.fits);
        different = different-front (nodes front) nodes_in.0 (ap all_different (sym nodes_in.1) ∙ h.different);
        not_null = among-front null_node (nodes front) nodes_in.0 (ap (among null_node) (sym nodes_in.1) ∙ h.not_null);
        form = h.form;
        index_is = refl;
        data_is = refl;
      };
      index_begins = (entries_behind h.header (items two.first) later, h.index_is ∙ ap (index_bytes h.header) parted ∙ index_bytes-append h.header (items two.first) later);
      data_begins = (chunks_of two.second, h.data_is ∙ ap chunks_of two.whole ∙ ap concat (map-append (λ (s : Stored). s.chunk) two.first two.second) ∙ concat-append (map (λ s. s.chunk) two.first) (map (λ s. s.chunk) two.second));
    }

-- ---- one more revision

-- where nothing is held yet, any header will do
with_header : (index data_bytes : List ℕ) (revisions : List Revision) (k : Header) → k.inline ≡ false → (h : HoldsRevisions index data_bytes revisions)
    → (g : HoldsRevisions index data_bytes revisions) × (g.stored ≡ h.stored) × (next_header revisions k ≡ next_header revisions g.header)
with_header index data_bytes [] k e h = (record h { header = k; form = e; index_is = empty h.stored h.these (h.index_is) }, refl, refl)
  where
    empty : (stored : List Stored) → revisions_of stored ≡ [] → index ≡ index_bytes h.header (items stored) → index ≡ index_bytes k (items stored)
    empty [] these is = is
    empty (s ∷ stored) these is = cc
with_header index data_bytes (r ∷ revisions) k e h = (h, refl, refl)

one_behind : (h : Header) (old : List Stored) (revisions : List Revision) (e : Entry) (chunk : List ℕ) → h.inline ≡ false → revisions_of old ≡ revisions
    → entries_behind h (items old) (record { entry = e; chunk = chunk } ∷ []) ≡ entry_bytes e (next_header revisions h)
one_behind h [] [] e chunk separate these = append-nil (entry_bytes e (Some h) ++ cond h.inline chunk []) ∙ ap (λ b. entry_bytes e (Some h) ++ cond b chunk []) separate ∙ append-nil (entry_bytes e (Some h))
one_behind h [] (r ∷ revisions) e chunk separate these = cc
one_behind h (s ∷ old) [] e chunk separate these = cc
one_behind h (s ∷ old) (r ∷ revisions) e chunk separate these = append-nil (entry_bytes e None ++ cond h.inline chunk []) ∙ ap (λ b. entry_bytes e None ++ cond b chunk []) separate ∙ append-nil (entry_bytes e None)

pub nodes-last : (revisions : List Revision) (r : Revision) → nodes (revisions ++ r ∷ []) ≡ nodes revisions ++ node_after (nodes revisions) r ∷ []
nodes-last revisions r = nodes_from-append [] revisions (r ∷ [])

-- Behind the bytes that hold a list, the entry and the chunk of one more revision hold this too, with it stored last.
pub held-one-more : (index data_bytes : List ℕ) (revisions : List Revision) (s : Stored) (k : Header)
    → (h : HoldsRevisions index data_bytes revisions) → k.inline ≡ false
    → chunk_text s.chunk ≡ Some s.revision.text
    → IfSome s.revision.parents.0 (λ p. p < length revisions) → IfSome s.revision.parents.1 (λ p. p < length revisions)
    → Fits (entry_after (length data_bytes) (nodes revisions) s) None
    → among (node_after (nodes revisions) s.revision) (null_node ∷ nodes revisions) ≡ false
    → HeldAs (index ++ entry_bytes (entry_after (length data_bytes) (nodes revisions) s) (next_header revisions k)) (data_bytes ++ s.chunk) (revisions ++ s.revision ∷ []) (h.stored ++ s ∷ [])
held-one-more index data_bytes revisions s k held separate text p1 p2 fits new =
    let g = with_header index data_bytes revisions k separate held in
    let h = g.0 in
    let stored = h.stored ++ s ∷ [] in
    let node = node_after (nodes revisions) s.revision in
    let apart = or-false (same node null_node) (among node (nodes revisions)) new in
    let more = held-more index data_bytes revisions h (s ∷ []) (text, tt) (p1, p2, tt) (fits, tt)
    (ap all_different (nodes-last revisions s.revision) ∙ different-last (nodes revisions) node h.different apart.1)
    (ap (among null_node) (nodes-last revisions s.revision) ∙ among-both null_node (nodes revisions) (node ∷ []) h.not_null (ap (λ b. b || false) (same-swap node null_node apart.0))) in
    let index_same = ap (λ l. index ++ l) (one_behind h.header h.stored revisions (entry_after (length data_bytes) (nodes revisions) s) s.chunk h.form h.these ∙ ap (entry_bytes (entry_after (length data_bytes) (nodes revisions) s)) (sym g.2)) in
    let data_same = ap (λ l. data_bytes ++ l) (append-nil s.chunk) in
    subst (HeldAs (index ++ entry_bytes (entry_after (length data_bytes) (nodes revisions) s) (next_header revisions k)) (data_bytes ++ s.chunk) (revisions ++ s.revision ∷ [])) (ap (λ l. l ++ s ∷ []) g.1)
    (subst (λ l. HeldAs l (data_bytes ++ s.chunk) (revisions ++ s.revision ∷ []) stored) index_same
    (subst (λ l. HeldAs (index ++ entries_behind h.header (items h.stored) (items_from (length data_bytes) (nodes revisions) (s ∷ []))) l (revisions ++ s.revision ∷ []) stored) data_same more))

-- bytes that begin with a list begin with each front of it
pub begins-front : (index data_bytes : List ℕ) (revisions front back : List Revision) → front ++ back ≡ revisions → BeginsWithRevisions index data_bytes revisions → BeginsWithRevisions index data_bytes front
begins-front index data_bytes revisions front back joined b =
    let h = held-front b.index_front b.data_front front back (subst (HoldsRevisions b.index_front b.data_front) (sym joined) b.held) in
    let more = begins-more b.index_front b.data_front b.index_begins.0 b.data_begins.0 front h in
    subst (λ i. BeginsWithRevisions i data_bytes front) (sym b.index_begins.1) (subst (λ d. BeginsWithRevisions (b.index_front ++ b.index_begins.0) d front) (sym b.data_begins.1) more)
