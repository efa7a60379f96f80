-- Bytes hold at most one list of revisions.
use Rattle.std.proofs.Common.{◌≡◌, ℕ, zero, suc, ◌+◌, List, [], ◌∷◌, ◌++◌, false, cond, length, take, drop, map, refl, sym, ◌∙◌, ap, subst, arith, append-nil, length-append}
use Rattle.std.specs.Prelude.{Option, Some, None, flat_map}
use Rattle.std.specs.List.{AllByRecursion, concat}
use Rattle.hgs_index.specs.declared.entry.Entry.{Entry}
use Rattle.hgs_index.specs.declared.entry.Header.{Header}
use Rattle.hgs_index.specs.Entry.{entry_bytes, Fits}
use Rattle.hgs_index.specs.Revision.{Revision, node_after}
use Rattle.hgs_index.specs.Theorems.EntryPartLemmas.{SameFields, later_same, first_same, length-entry_bytes}
use Rattle.hgs_index.specs.Revlog.{chunk_text, Stored, Item, entry_after, items_from, items, item_bytes, index_bytes, HoldsRevisions}

abbrev revisions_of : List Stored → List Revision
revisions_of stored = map (λ s. s.revision) stored

abbrev chunks_of : List Stored → List ℕ
chunks_of stored = concat (map (λ s. s.chunk) stored)

abbrev HasTexts : List Stored → Type 0
HasTexts stored = AllByRecursion (λ (s : Stored). chunk_text s.chunk ≡ Some s.revision.text) stored

plain : (h : Header) (first : Option Header) (i : Item) → h.inline ≡ false → item_bytes h first i ≡ entry_bytes i.entry first
plain h first i e = ap (λ b. entry_bytes i.entry first ++ cond b i.chunk []) e ∙ append-nil (entry_bytes i.entry first)

some-same : {A : Type 0} (x y d : A) → Some x ≡ Some y → x ≡ y
some-same x y d e = ap (elim [ None ↦ d | Some z ↦ z ]) e

take_front : (xs ys : List ℕ) (n : ℕ) → length xs ≡ n → take n (xs ++ ys) ≡ xs
take_front [] ys zero e = refl
take_front [] ys (suc n) e = absurd (omega arith)
take_front (x ∷ xs) ys zero e = absurd (omega arith)
take_front (x ∷ xs) ys (suc n) e = ap (λ l. x ∷ l) (take_front xs ys n (omega arith))

drop_front : (xs ys : List ℕ) (n : ℕ) → length xs ≡ n → drop n (xs ++ ys) ≡ ys
drop_front [] ys zero e = refl
drop_front [] ys (suc n) e = absurd (omega arith)
drop_front (x ∷ xs) ys zero e = absurd (omega arith)
drop_front (x ∷ xs) ys (suc n) e = drop_front xs ys n (omega arith)

-- chunks of the same length at the front of the same data are the same
pub chunk-same : (c d x y : List ℕ) → length c ≡ length d → c ++ x ≡ d ++ y → (c ≡ d) × (x ≡ y)
chunk-same c d x y len e = (sym (take_front c x (length c) refl) ∙ ap (take (length c)) e ∙ take_front d y (length c) (sym len), sym (drop_front c x (length c) refl) ∙ ap (drop (length c)) e ∙ drop_front d y (length c) (sym len))

-- the revisions of two stored ones whose entries have the same numbers and whose chunks are the same
stored-same : (o p : ℕ) (known other : List (List ℕ)) (s u : Stored) (x y : List ℕ) → SameFields (entry_after o known s) (entry_after p other u) x y → s.chunk ≡ u.chunk
    → chunk_text s.chunk ≡ Some s.revision.text → chunk_text u.chunk ≡ Some u.revision.text → s.revision ≡ u.revision
stored-same o p known other s u x y n c a b =
    let text : s.revision.text ≡ u.revision.text = some-same s.revision.text u.revision.text [] (sym a ∙ ap chunk_text c ∙ b) in
    λ i. record { text = text i; parents = (n.p1 i, n.p2 i); link = n.link i }

no_bytes : {A : Type 0} (e : Entry) (first : Option Header) (x : List ℕ) → Fits e None → [] ≡ entry_bytes e first ++ x → A
no_bytes e first x good is = absurd (omega (arith, ap length is, length-append (entry_bytes e first) x, length-entry_bytes e first good.node))

-- one stored revision and the rest, on both sides
rest-same : (h k : Header) (eh : h.inline ≡ false) (ek : k.inline ≡ false) (o : ℕ) (known : List (List ℕ)) (xs ys : List Stored) → HasTexts xs → HasTexts ys
    → AllByRecursion (λ (i : Item). Fits i.entry None) (items_from o known xs) → AllByRecursion (λ (i : Item). Fits i.entry None) (items_from o known ys)
    → flat_map (item_bytes h None) (items_from o known xs) ≡ flat_map (item_bytes k None) (items_from o known ys) → chunks_of xs ≡ chunks_of ys → revisions_of xs ≡ revisions_of ys
rest-same h k eh ek o known [] [] tx ty fx fy is ds = refl
rest-same h k eh ek o known [] (y ∷ ys) tx ty fx fy is ds =
    no_bytes (entry_after o known y) None _ fy.0 (is ∙ ap (λ l. l ++ flat_map (item_bytes k None) (items_from (o + length y.chunk) (known ++ node_after known y.revision ∷ []) ys)) (plain k None (record { entry = entry_after o known y; chunk = y.chunk }) ek))
rest-same h k eh ek o known (x ∷ xs) [] tx ty fx fy is ds =
    no_bytes (entry_after o known x) None _ fx.0 (sym is ∙ ap (λ l. l ++ flat_map (item_bytes h None) (items_from (o + length x.chunk) (known ++ node_after known x.revision ∷ []) xs)) (plain h None (record { entry = entry_after o known x; chunk = x.chunk }) eh))
rest-same h k eh ek o known (x ∷ xs) (y ∷ ys) tx ty fx fy is ds =
    let n = later_same (entry_after o known x) (entry_after o known y) _ _ fx.0 fy.0
    (ap (λ l. l ++ flat_map (item_bytes h None) (items_from (o + length x.chunk) (known ++ node_after known x.revision ∷ []) xs)) (sym (plain h None (record { entry = entry_after o known x; chunk = x.chunk }) eh)) ∙ is
    ∙ ap (λ l. l ++ flat_map (item_bytes k None) (items_from (o + length y.chunk) (known ++ node_after known y.revision ∷ []) ys)) (plain k None (record { entry = entry_after o known y; chunk = y.chunk }) ek)) in
    let c = chunk-same x.chunk y.chunk (chunks_of xs) (chunks_of ys) n.stored ds in
    let r = stored-same o o known known x y _ _ n c.0 tx.0 ty.0 in
    let back : items_from (o + length y.chunk) (known ++ node_after known y.revision ∷ []) ys ≡ items_from (o + length x.chunk) (known ++ node_after known x.revision ∷ []) ys =
    ap (λ q. items_from (o + length q) (known ++ node_after known y.revision ∷ []) ys) (sym c.0) ∙ ap (λ q. items_from (o + length x.chunk) (known ++ node_after known q ∷ []) ys) (sym r) in
    λ i. r i ∷ rest-same h k eh ek (o + length x.chunk) (known ++ node_after known x.revision ∷ []) xs ys tx.1 ty.1 fx.1 (subst (AllByRecursion (λ (i : Item). Fits i.entry None)) back fy.1)
    (n.rest ∙ ap (flat_map (item_bytes k None)) back) c.1 i

-- Bytes hold at most one list of revisions.
pub held-unique : (index data_bytes : List ℕ) (r q : List Revision) → HoldsRevisions index data_bytes r → HoldsRevisions index data_bytes q → r ≡ q
held-unique index data_bytes r q a b = sym a.these ∙ by a.stored b.stored a.texts b.texts a.fits b.fits (sym a.index_is ∙ b.index_is) (sym a.data_is ∙ b.data_is) ∙ b.these
  where
    by : (xs ys : List Stored) → HasTexts xs → HasTexts ys → AllByRecursion (λ (i : Item). Fits i.entry None) (items xs) → AllByRecursion (λ (i : Item). Fits i.entry None) (items ys)
        → index_bytes a.header (items xs) ≡ index_bytes b.header (items ys) → chunks_of xs ≡ chunks_of ys → revisions_of xs ≡ revisions_of ys
    by [] [] tx ty fx fy is ds = refl
    by [] (y ∷ ys) tx ty fx fy is ds =
        no_bytes (entry_after 0 [] y) (Some b.header) _ fy.0 (is ∙ ap (λ l. l ++ flat_map (item_bytes b.header None) (items_from (0 + length y.chunk) (node_after [] y.revision ∷ []) ys)) (plain b.header (Some b.header) (record { entry = entry_after 0 [] y; chunk = y.chunk }) b.form))
    by (x ∷ xs) [] tx ty fx fy is ds =
        no_bytes (entry_after 0 [] x) (Some a.header) _ fx.0 (sym is ∙ ap (λ l. l ++ flat_map (item_bytes a.header None) (items_from (0 + length x.chunk) (node_after [] x.revision ∷ []) xs)) (plain a.header (Some a.header) (record { entry = entry_after 0 [] x; chunk = x.chunk }) a.form))
    by (x ∷ xs) (y ∷ ys) tx ty fx fy is ds =
        let n = first_same a.header b.header (entry_after 0 [] x) (entry_after 0 [] y) _ _ fx.0 fy.0
        (ap (λ l. l ++ flat_map (item_bytes a.header None) (items_from (0 + length x.chunk) (node_after [] x.revision ∷ []) xs)) (sym (plain a.header (Some a.header) (record { entry = entry_after 0 [] x; chunk = x.chunk }) a.form)) ∙ is
        ∙ ap (λ l. l ++ flat_map (item_bytes b.header None) (items_from (0 + length y.chunk) (node_after [] y.revision ∷ []) ys)) (plain b.header (Some b.header) (record { entry = entry_after 0 [] y; chunk = y.chunk }) b.form)) in
        let c = chunk-same x.chunk y.chunk (chunks_of xs) (chunks_of ys) n.stored ds in
        let r = stored-same 0 0 [] [] x y _ _ n c.0 tx.0 ty.0 in
        let back : items_from (0 + length y.chunk) (node_after [] y.revision ∷ []) ys ≡ items_from (0 + length x.chunk) (node_after [] x.revision ∷ []) ys =
        ap (λ q. items_from (0 + length q) (node_after [] y.revision ∷ []) ys) (sym c.0) ∙ ap (λ q. items_from (0 + length x.chunk) (node_after [] q ∷ []) ys) (sym r) in
        λ i. r i ∷ rest-same a.header b.header a.form b.form (0 + length x.chunk) (node_after [] x.revision ∷ []) xs ys tx.1 ty.1 fx.1 (subst (AllByRecursion (λ (i : Item). Fits i.entry None)) back fy.1)
        (n.rest ∙ ap (flat_map (item_bytes b.header None)) back) c.1 i
