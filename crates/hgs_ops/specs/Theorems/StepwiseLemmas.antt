-- What a revlog grows by in two steps is what it grows by in one.
use Rattle.std.proofs.Common.{◌≡◌, ℕ, ◌+◌, List, [], ◌∷◌, ◌++◌, Bool, true, false, ◌≤◌, length, drop, map, refl, sym, ◌∙◌, ap, subst, append_assoc, length-append}
use Rattle.std.specs.Prelude.{None, flat_map}
use Rattle.std.specs.List.{AllByRecursion, concat}
use Rattle.hgs_bytes.specs.Bytes.{among}
use Rattle.hgs_index.specs.Either.{chunk_bytes}
use Rattle.hgs_index.specs.Node.{null_node}
use Rattle.hgs_index.specs.Revision.{Revision, nodes, nodes_from}
use Rattle.hgs_index.specs.Revlog.{Holds, Item, all_different, item_bytes, items_from}
use Rattle.hgs_index.specs.Theorems.EitherLemmas.{chunks-are}
use Rattle.hgs_index.specs.Theorems.RevisionLemmas.{nodes_from-append}
use Rattle.hgs_index.specs.Theorems.RevlogLemmas.{all-append, chunks_of, concat-append, index_bytes-append, items_from-append, map-append}
use Rattle.hgs_revlog.specs.Load.{most_data, most_text}
use Rattle.hgs_ops.specs.Growth.{as_stored, new_data, new_entries, new_items, own_header}
use Rattle.hgs_ops.specs.Unhindered.{AreNewRevisions, HavePlaces}
use Rattle.hgs_ops.specs.Theorems.GrowLemmas.{FitAfter, drop-front, held-stored, items_of, stored-revisions}

-- the length of the chunks of revisions
abbrev pub chunk_sum : List Revision → ℕ
chunk_sum new = length (chunks_of (map as_stored new))

flat_map-append : (f : Item → List ℕ) (xs ys : List Item) → flat_map f (xs ++ ys) ≡ flat_map f xs ++ flat_map f ys
flat_map-append f [] ys = refl
flat_map-append f (x ∷ xs) ys = ap (λ l. f x ++ l) (flat_map-append f xs ys) ∙ sym (append_assoc (f x) (flat_map f xs) (flat_map f ys))

-- the items of two lists of new revisions
items-two : (offset : ℕ) (old first second : List Revision) → new_items offset old (first ++ second) ≡ new_items offset old first ++ new_items (offset + chunk_sum first) (old ++ first) second
items-two offset old first second =
    ap (items_from offset (nodes old)) (map-append as_stored first second)
    ∙ items_from-append offset (nodes old) (map as_stored first) (map as_stored second)
    ∙ ap (λ l. new_items offset old first ++ items_from (offset + chunk_sum first) (nodes_from (nodes old) l) (map as_stored second)) (stored-revisions first)
    ∙ ap (λ l. new_items offset old first ++ items_from (offset + chunk_sum first) l (map as_stored second)) (sym (nodes_from-append [] old first))

entries-two : (inline : Bool) (offset more : ℕ) (old first second : List Revision) → new_entries inline old (new_items offset old first ++ new_items more (old ++ first) second) ≡ new_entries inline old (new_items offset old first) ++ new_entries inline (old ++ first) (new_items more (old ++ first) second)
entries-two inline offset more [] [] second = refl
entries-two inline offset more [] (r ∷ first) second = index_bytes-append (own_header inline) (new_items offset [] (r ∷ first)) (new_items more (r ∷ first) second)
entries-two inline offset more (x ∷ old) first second = flat_map-append (item_bytes (own_header inline) None) (new_items offset (x ∷ old) first) (new_items more (x ∷ old ++ first) second)

data-two : (inline : Bool) (xs ys : List Item) → new_data inline (xs ++ ys) ≡ new_data inline xs ++ new_data inline ys
data-two true xs ys = refl
data-two false xs ys = ap concat (map-append (λ (i : Item). i.chunk) xs ys) ∙ concat-append (map (λ (i : Item). i.chunk) xs) (map (λ (i : Item). i.chunk) ys)

-- where these old revisions are held and the first new ones have room, the chunks of the second begin where those end
offset-behind : (inline : Bool) (index data_bytes : List ℕ) (old first : List Revision) → Holds inline index data_bytes old → FitAfter (length (chunk_bytes inline index data_bytes)) old first → all_different (nodes (old ++ first)) ≡ true → among null_node (nodes (old ++ first)) ≡ false
    → length (chunk_bytes inline (index ++ new_entries inline old (items_of inline index data_bytes old first)) (data_bytes ++ new_data inline (items_of inline index data_bytes old first))) ≡ length (chunk_bytes inline index data_bytes) + chunk_sum first
offset-behind inline index data_bytes old first held fit different not_null =
    let h = held-stored inline index data_bytes old first held fit different not_null in
    ap length (chunks-are inline _ _ (old ++ first) h.0 ∙ h.1) ∙ length-append (chunk_bytes inline index data_bytes) (chunks_of (map as_stored first))

-- The entries and the data of revisions that come in two steps.
pub record InSteps (inline : Bool) (index data_bytes : List ℕ) (old mid all : List Revision) : Type 0 where
  pub entries : new_entries inline old (items_of inline index data_bytes old (drop (length old) all))
      ≡ new_entries inline old (items_of inline index data_bytes old (drop (length old) mid))
      ++ new_entries inline mid (items_of inline (index ++ new_entries inline old (items_of inline index data_bytes old (drop (length old) mid))) (data_bytes ++ new_data inline (items_of inline index data_bytes old (drop (length old) mid))) mid (drop (length mid) all))
  pub chunks : new_data inline (items_of inline index data_bytes old (drop (length old) all))
      ≡ new_data inline (items_of inline index data_bytes old (drop (length old) mid))
      ++ new_data inline (items_of inline (index ++ new_entries inline old (items_of inline index data_bytes old (drop (length old) mid))) (data_bytes ++ new_data inline (items_of inline index data_bytes old (drop (length old) mid))) mid (drop (length mid) all))

steps-of : (inline : Bool) (index data_bytes : List ℕ) (old first second : List Revision) → Holds inline index data_bytes old → FitAfter (length (chunk_bytes inline index data_bytes)) old first → all_different (nodes (old ++ first)) ≡ true → among null_node (nodes (old ++ first)) ≡ false
    → (new_entries inline old (items_of inline index data_bytes old (first ++ second))
    ≡ new_entries inline old (items_of inline index data_bytes old first) ++ new_entries inline (old ++ first) (items_of inline (index ++ new_entries inline old (items_of inline index data_bytes old first)) (data_bytes ++ new_data inline (items_of inline index data_bytes old first)) (old ++ first) second))
    × (new_data inline (items_of inline index data_bytes old (first ++ second))
    ≡ new_data inline (items_of inline index data_bytes old first) ++ new_data inline (items_of inline (index ++ new_entries inline old (items_of inline index data_bytes old first)) (data_bytes ++ new_data inline (items_of inline index data_bytes old first)) (old ++ first) second))
steps-of inline index data_bytes old first second held fit different not_null =
    let offset = length (chunk_bytes inline index data_bytes) in
    let at = offset-behind inline index data_bytes old first held fit different not_null in
    let two = items-two offset old first second in (
      ap (new_entries inline old) two ∙ entries-two inline offset (offset + chunk_sum first) old first second
          ∙ ap (λ n. new_entries inline old (new_items offset old first) ++ new_entries inline (old ++ first) (new_items n (old ++ first) second)) (sym at),
      ap (new_data inline) two ∙ data-two inline (new_items offset old first) (new_items (offset + chunk_sum first) (old ++ first) second)
          ∙ ap (λ n. new_data inline (new_items offset old first) ++ new_data inline (new_items n (old ++ first) second)) (sym at),
    )

pub in-steps : (inline : Bool) (index data_bytes : List ℕ) (old mid all first second : List Revision) → mid ≡ old ++ first → all ≡ mid ++ second → Holds inline index data_bytes old → FitAfter (length (chunk_bytes inline index data_bytes)) old first → all_different (nodes mid) ≡ true → among null_node (nodes mid) ≡ false
    → InSteps inline index data_bytes old mid all
in-steps inline index data_bytes old mid all first second e g held fit different not_null =
    let d = steps-of inline index data_bytes old first second held fit (ap (λ l. all_different (nodes l)) (sym e) ∙ different) (ap (λ l. among null_node (nodes l)) (sym e) ∙ not_null) in
    let front : drop (length old) mid ≡ first = ap (drop (length old)) e ∙ drop-front old first in
    let behind : drop (length mid) all ≡ second = ap (drop (length mid)) g ∙ drop-front mid second in
    let whole : drop (length old) all ≡ first ++ second = ap (drop (length old)) (g ∙ ap (λ l. l ++ second) e ∙ append_assoc old first second) ∙ drop-front old (first ++ second) in
    record {
      entries = ap (λ l. new_entries inline old (items_of inline index data_bytes old l)) whole ∙ d.0 ∙ both (λ m f s. new_entries inline old (items_of inline index data_bytes old f) ++ new_entries inline m (items_of inline (index ++ new_entries inline old (items_of inline index data_bytes old f)) (data_bytes ++ new_data inline (items_of inline index data_bytes old f)) m s)) e front behind;
      chunks = ap (λ l. new_data inline (items_of inline index data_bytes old l)) whole ∙ d.1 ∙ both (λ m f s. new_data inline (items_of inline index data_bytes old f) ++ new_data inline (items_of inline (index ++ new_entries inline old (items_of inline index data_bytes old f)) (data_bytes ++ new_data inline (items_of inline index data_bytes old f)) m s)) e front behind;
    }
  where
    both : (F : List Revision → List Revision → List Revision → List ℕ) → mid ≡ old ++ first → drop (length old) mid ≡ first → drop (length mid) all ≡ second → F (old ++ first) first second ≡ F mid (drop (length old) mid) (drop (length mid) all)
    both F a b c = λ i. F (sym a i) (sym b i) (sym c i)

-- ---- two steps of which each is known

module _ (old mid all first second : List Revision) (e : mid ≡ old ++ first) (g : all ≡ mid ++ second) where
  front : drop (length old) mid ≡ first
  front = ap (drop (length old)) e ∙ drop-front old first

  behind : drop (length mid) all ≡ second
  behind = ap (drop (length mid)) g ∙ drop-front mid second

  both-new : drop (length old) all ≡ first ++ second
  both-new = ap (drop (length old)) (g ∙ ap (λ l. l ++ second) e ∙ append_assoc old first second) ∙ drop-front old (first ++ second)

  -- where the chunks of each step have places, all have
  pub places-two : (offset more : ℕ) → more ≡ offset + chunk_sum first → HavePlaces offset old mid → HavePlaces more mid all → HavePlaces offset old all
  places-two offset more at a b =
      subst (λ l. AllByRecursion (λ (i : Item). i.entry.offset ≤ most_data) (new_items offset old l)) (sym both-new)
      (subst (AllByRecursion (λ (i : Item). i.entry.offset ≤ most_data)) (sym (items-two offset old first second))
      (all-append (λ (i : Item). i.entry.offset ≤ most_data) (new_items offset old first) (new_items (offset + chunk_sum first) (old ++ first) second)
      (subst (λ l. AllByRecursion (λ (i : Item). i.entry.offset ≤ most_data) (new_items offset old l)) front a)
      (subst (AllByRecursion (λ (i : Item). i.entry.offset ≤ most_data)) (λ k. new_items (at k) (e k) (behind k)) b)))

  -- new revisions of each step are new ones of both
  pub fresh-two : AreNewRevisions old mid → AreNewRevisions mid all → AreNewRevisions old all
  fresh-two a b = record {
    texts = subst (AllByRecursion (λ (r : Revision). length r.text ≤ most_text)) (sym both-new)
        (all-append (λ (r : Revision). length r.text ≤ most_text) first second (subst (AllByRecursion (λ (r : Revision). length r.text ≤ most_text)) front a.texts) (subst (AllByRecursion (λ (r : Revision). length r.text ≤ most_text)) behind b.texts));
    different = b.different;
    not_null = b.not_null;
  }

-- where the chunks of a second step begin
pub behind-at : (inline : Bool) (index data_bytes : List ℕ) (old mid first : List Revision) → mid ≡ old ++ first → Holds inline index data_bytes old → FitAfter (length (chunk_bytes inline index data_bytes)) old first → all_different (nodes mid) ≡ true → among null_node (nodes mid) ≡ false
    → length (chunk_bytes inline (index ++ new_entries inline old (items_of inline index data_bytes old (drop (length old) mid))) (data_bytes ++ new_data inline (items_of inline index data_bytes old (drop (length old) mid)))) ≡ length (chunk_bytes inline index data_bytes) + chunk_sum first
behind-at inline index data_bytes old mid first e held fit different not_null =
    ap (λ l. length (chunk_bytes inline (index ++ new_entries inline old (items_of inline index data_bytes old l)) (data_bytes ++ new_data inline (items_of inline index data_bytes old l)))) (ap (drop (length old)) e ∙ drop-front old first)
    ∙ offset-behind inline index data_bytes old first held fit (ap (λ l. all_different (nodes l)) (sym e) ∙ different) (ap (λ l. among null_node (nodes l)) (sym e) ∙ not_null)

-- The bytes of a revlog in this form with all revisions, and behind the second of two steps, of which the first left these.
pub record SameBehind (inline : Bool) (index data_bytes index_mid data_mid : List ℕ) (old mid all : List Revision) : Type 0 where
  pub index_is : index ++ new_entries inline old (items_of inline index data_bytes old (drop (length old) all)) ≡ index_mid ++ new_entries inline mid (items_of inline index_mid data_mid mid (drop (length mid) all))
  pub data_is : data_bytes ++ new_data inline (items_of inline index data_bytes old (drop (length old) all)) ≡ data_mid ++ new_data inline (items_of inline index_mid data_mid mid (drop (length mid) all))

pub same-behind : (inline : Bool) (index data_bytes index_mid data_mid : List ℕ) (old mid all first second : List Revision) → mid ≡ old ++ first → all ≡ mid ++ second → Holds inline index data_bytes old → FitAfter (length (chunk_bytes inline index data_bytes)) old first → all_different (nodes mid) ≡ true → among null_node (nodes mid) ≡ false
    → index_mid ≡ index ++ new_entries inline old (items_of inline index data_bytes old (drop (length old) mid)) → data_mid ≡ data_bytes ++ new_data inline (items_of inline index data_bytes old (drop (length old) mid))
    → SameBehind inline index data_bytes index_mid data_mid old mid all
same-behind inline index data_bytes index_mid data_mid old mid all first second e g held fit different not_null i d =
    let s = in-steps inline index data_bytes old mid all first second e g held fit different not_null in
    record {
      index_is = ap (λ l. index ++ l) s.entries ∙ sym (append_assoc index _ _) ∙ (λ k. sym i k ++ new_entries inline mid (items_of inline (sym i k) (sym d k) mid (drop (length mid) all)));
      data_is = ap (λ l. data_bytes ++ l) s.chunks ∙ sym (append_assoc data_bytes _ _) ∙ (λ k. sym d k ++ new_data inline (items_of inline (sym i k) (sym d k) mid (drop (length mid) all)));
    }
