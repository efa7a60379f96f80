-- Bytes that hold revisions within the limits load, and their texts read.
use Rattle.std.proofs.Common.{◌≡◌, ℕ, suc, ◌+◌, ◌/◌, ◌<◌, ◌≤◌, Bool, true, false, cond, ◌||◌, ◌&&◌, not, List, [], ◌∷◌, ◌++◌, length, take, drop, map, Option, Some, None, Result, Ok, Err, IsSome, refl, sym, ◌∙◌, ap, subst, arith, length-append, append_assoc, append-nil}
use Rattle.std.specs.Prelude.{◌==◌, nat_lt, IfSome, flat_map}
use Rattle.std.specs.List.{AllByRecursion, concat}
use Rattle.std.proofs.lemmas.List.{length_push}
use Rattle.std.proofs.Math.Seq.{take-append_seam, drop-append_seam}
use Rattle.hgs_bytes.specs.Bytes.{same, among}
use Rattle.hgs_index.specs.declared.entry.Entry.{Entry}
use Rattle.hgs_index.specs.declared.entry.Header.{Header}
use Rattle.hgs_index.specs.Entry.{entry_bytes, Fits}
use Rattle.hgs_index.specs.Node.{null_node, node_hash}
use Rattle.hgs_index.specs.Revision.{Revision, ParentsBefore, nodes, nodes_from, node_after, parent_node}
use Rattle.hgs_index.specs.Revlog.{HoldsRevisions, Stored, Item, entry_after, items_from, items, item_bytes, index_bytes, all_different, chunk_text}
use Rattle.hgs_index.specs.Theorems.EntryPartLemmas.{length-entry_bytes}
use Rattle.hgs_index.specs.Theorems.RevisionLemmas.{nodes_from-prefix}
use Rattle.hgs_index.specs.Theorems.RevlogLemmas.{map-append, length-held}
use Rattle.hgs_revlog.specs.declared.fault.RevFault.{RevFault}
use Rattle.hgs_revlog.specs.declared.fault.RevFault.TheVariants as faults
use Rattle.hgs_revlog.specs.declared.fault.Tail.TheVariants.{Refuse}
use Rattle.hgs_revlog.specs.Log.{Log, with_entry, stored_sum, nodes_of}
use Rattle.hgs_revlog.specs.Load.{most_revisions, most_text, most_data, entry_behind, after, load_from, loaded}
use Rattle.hgs_revlog.specs.Text.{text_of, text_at, fitting_text, node_with}
use Rattle.hgs_revlog.specs.Held.{AreWithinLimits, Agrees, chunk_in, with_text, read_from, read_all}
use Rattle.hgs_revlog.specs.Theorems.LogLemmas.{same_itself, sum_push, length-nodes_of}
use Rattle.hgs_revlog.specs.Theorems.TestLemmas.{number_test, at_most_test}
use Rattle.hgs_revlog.specs.Theorems.LoadLemmas.{IsFaultless, neither}
use Rattle.hgs_revlog.specs.Theorems.HeldLemmas.{entries_of, swap_same, among_none}
use Rattle.hgs_revlog.specs.Theorems.ReadLemmas.{parent_among, slice_get_seam}
use Rattle.hgs_revlog.specs.Theorems.AddedLemmas.{not_above, taken_again}

abbrev revisions_of : List Stored → List Revision
revisions_of stored = map (λ s. s.revision) stored

abbrev chunks_of : List Stored → List ℕ
chunks_of stored = concat (map (λ s. s.chunk) stored)

-- ---- each node is new, and none is the null node

abbrev AreFresh : List (List ℕ) → List Revision → Type 0
AreFresh known [] = Unit {0}
AreFresh known (r ∷ revisions) = (among (node_after known r) known ≡ false) × (same null_node (node_after known r) ≡ false) × AreFresh (known ++ node_after known r ∷ []) revisions

apart_within : (x y : List ℕ) (xs ys : List (List ℕ)) → among x (xs ++ y ∷ ys) ≡ false → same x y ≡ false
apart_within x y [] ys h = (neither (same x y) (among x ys) h).0
apart_within x y (z ∷ xs) ys h = apart_within x y xs ys (neither (same x z) (among x (xs ++ y ∷ ys)) h).1

both : (a b : Bool) → (not a && b) ≡ true → (a ≡ false) × (b ≡ true)
both true b h = cc
both false b h = (refl, h)

different_within : (y : List ℕ) (xs ys : List (List ℕ)) → all_different (xs ++ y ∷ ys) ≡ true → among y xs ≡ false
different_within y [] ys h = refl
different_within y (x ∷ xs) ys h =
    let s = both (among x (xs ++ y ∷ ys)) (all_different (xs ++ y ∷ ys)) h in
    ap (λ b. b || among y xs) (swap_same x y (apart_within x y xs ys s.0)) ∙ different_within y xs ys s.1

fresh_from : (known : List (List ℕ)) (revisions : List Revision) → all_different (nodes_from known revisions) ≡ true → among null_node (nodes_from known revisions) ≡ false → AreFresh known revisions
fresh_from known [] a b = tt
fresh_from known (r ∷ revisions) a b =
    let node = node_after known r in
    let p = nodes_from-prefix (known ++ node ∷ []) revisions in
    let is : nodes_from (known ++ node ∷ []) revisions ≡ known ++ node ∷ p.0 = p.1 ∙ append_assoc known (node ∷ []) p.0 in
    (different_within node known p.0 (ap all_different (sym is) ∙ a), apart_within null_node node known p.0 (ap (among null_node) (sym is) ∙ b), fresh_from (known ++ node ∷ []) revisions a b)

-- ---- loading

-- what is true of stored revisions behind entries, within the limits
record AreNext (before : List Entry) (stored : List Stored) : Type 0 where
  fits : AllByRecursion (λ (i : Item). Fits i.entry None) (items_from (stored_sum before) (nodes_of before) stored)
  earlier : ParentsBefore (length before) (map (λ r. r.parents) (revisions_of stored))
  fresh : AreFresh (nodes_of before) (revisions_of stored)
  few : length before + length stored ≤ most_revisions
  texts : AllByRecursion (λ (r : Revision). length r.text ≤ most_text) (revisions_of stored)
  data_end : stored_sum before + length (chunks_of stored) ≤ most_data

abbrev next_of : List Entry → Stored → Entry
next_of before s = entry_after (stored_sum before) (nodes_of before) s

next_faultless : (before : List Entry) (s : Stored) (stored : List Stored) → AreNext before (s ∷ stored) → IsFaultless before (next_of before s)
next_faultless before s stored h = record {
  offset = refl;
  first = not_above (length before) s.revision.parents.0 h.earlier.0;
  second = not_above (length before) s.revision.parents.1 h.earlier.1;
  named = h.fresh.1;
  fresh = among_none before (next_of before s).node.0 h.fresh.0;
  text = h.texts.0;
  data_end = (let d = h.data_end in omega (arith, d, length-append s.chunk (chunks_of stored)));
}

nodes_push : (before : List Entry) (e : Entry) → nodes_of (before ++ e ∷ []) ≡ nodes_of before ++ e.node.0 ∷ []
nodes_push before e = map-append (λ (x : Entry). x.node.0) before (e ∷ [])

-- the items behind one more entry
items_push : (before : List Entry) (s : Stored) (stored : List Stored)
    → items_from (stored_sum before + length s.chunk) (nodes_of before ++ (next_of before s).node.0 ∷ []) stored ≡ items_from (stored_sum (before ++ next_of before s ∷ [])) (nodes_of (before ++ next_of before s ∷ [])) stored
items_push before s stored =
    ap (λ o. items_from o (nodes_of before ++ (next_of before s).node.0 ∷ []) stored) (sym (sum_push before (next_of before s)))
    ∙ ap (λ known. items_from (stored_sum (before ++ next_of before s ∷ [])) known stored) (sym (nodes_push before (next_of before s)))

next_on : (before : List Entry) (s : Stored) (stored : List Stored) → AreNext before (s ∷ stored) → AreNext (before ++ next_of before s ∷ []) stored
next_on before s stored h =
    let e = next_of before s in
    let len = length_push before e in
    let sum = sum_push before e in
    record {
      fits = subst (AllByRecursion (λ (i : Item). Fits i.entry None)) (items_push before s stored) h.fits.1;
      earlier = subst (λ n. ParentsBefore n (map (λ r. r.parents) (revisions_of stored))) (let n : suc (length before) ≡ length (before ++ e ∷ []) = omega (arith, len) in n) h.earlier.2;
      fresh = subst (λ known. AreFresh known (revisions_of stored)) (sym (nodes_push before e)) h.fresh.2;
      few = (let few = h.few in omega (arith, len, few));
      texts = h.texts.1;
      data_end = (let d = h.data_end in omega (arith, d, sum, length-append s.chunk (chunks_of stored)));
    }

-- the bytes of these entries, the first of which may begin with a header
abbrev bytes_from : Option Header → List Item → List ℕ
bytes_from first [] = []
bytes_from first (i ∷ more) = entry_bytes i.entry first ++ bytes_from None more

none_is : IsSome {T = Header} None → ⊥
none_is h = cc

pub first_of : (front rest : List ℕ) (n : ℕ) → length front ≡ n → take n (front ++ rest) ≡ front
first_of front rest n len = ap (λ m. take m (front ++ rest)) (sym len) ∙ take-append_seam front rest

rest_of : (front rest : List ℕ) (n : ℕ) → length front ≡ n → drop n (front ++ rest) ≡ rest
rest_of front rest n len = ap (λ m. drop m (front ++ rest)) (sym len) ∙ drop-append_seam front rest

sum_none : (entries : List Entry) → length entries ≡ 0 → stored_sum entries ≡ 0
sum_none [] h = refl
sum_none (e ∷ entries) h = absurd (omega arith)

header_fits : (before : List Entry) (e : Entry) (h : Option Header) → Fits e None → e.offset ≡ stored_sum before → (IsSome h → length before ≡ 0) → Fits e h
header_fits before e h f offset a = record { offset = f.offset; flags = f.flags; stored = f.stored; size = f.size; base = f.base; link = f.link; p1 = f.p1; p2 = f.p2; node = f.node; first = λ is. offset ∙ sum_none before (a is) }

loads_from : (before : Log) (first : Option Header) (stored : List Stored) → AreNext before.entries stored → IfSome first (λ h. h.inline ≡ false)
    → (IsSome first → length before.entries ≡ 0) → (length before.entries ≡ 0 → IsSome first)
    → load_from Refuse (length stored) before (bytes_from first (items_from (stored_sum before.entries) (nodes_of before.entries) stored))
    ≡ Ok (record { inline = before.inline; entries = before.entries ++ entries_of (items_from (stored_sum before.entries) (nodes_of before.entries) stored) })
loads_from before first [] h separate a b = ap (λ es. Ok (record { inline = before.inline; entries = es })) (sym (append-nil before.entries))
loads_from before first (s ∷ stored) h separate a b =
    let e = next_of before.entries s in
    let fits = header_fits before.entries e first h.fits.0 refl a in
    let taken = taken_again before.entries e first (let few = h.few in omega (arith, few)) (next_faultless before.entries s stored h) fits separate a b in
    let len = length-entry_bytes e first h.fits.0.node in
    let more = bytes_from None (items_from (stored_sum before.entries + length s.chunk) (nodes_of before.entries ++ e.node.0 ∷ []) stored) in
    let push = items_push before.entries s stored in
    ap (λ cell. after (entry_behind before.entries cell) (λ x. load_from Refuse (length stored) (with_entry before x) (drop 64 (entry_bytes e first ++ more)))) (first_of (entry_bytes e first) more 64 len)
    ∙ ap (λ r. after r (λ x. load_from Refuse (length stored) (with_entry before x) (drop 64 (entry_bytes e first ++ more)))) taken
    ∙ ap (load_from Refuse (length stored) (with_entry before e)) (rest_of (entry_bytes e first) more 64 len ∙ ap (bytes_from None) push)
    ∙ loads_from (with_entry before e) None stored (next_on before.entries s stored h) tt (λ n. absurd (none_is n)) (λ z. absurd (let l = length_push before.entries e in omega (arith, l, z)))
    ∙ ap (λ es. Ok (record { inline = before.inline; entries = es }))
    (append_assoc before.entries (e ∷ []) (entries_of (items_from (stored_sum (before.entries ++ e ∷ [])) (nodes_of (before.entries ++ e ∷ [])) stored))
    ∙ ap (λ is. before.entries ++ e ∷ entries_of is) (sym push))

-- ---- reading

three : {A : Type 0} (a b c : Bool) (f g k : RevFault) (r : Result A RevFault) → a ≡ false → b ≡ false → c ≡ false → cond a (Err f) (cond b (Err g) (cond c (Err k) r)) ≡ r
three a b c f g k r p q s = rw (p, q, s)

two : {A : Type 0} (a b : Bool) (f g : RevFault) (r : Result A RevFault) → a ≡ false → b ≡ false → cond a (Err f) (cond b (Err g) r) ≡ r
two a b f g r p q = rw (p, q)

text_reads : (before more : List Entry) (s : Stored) → IfSome s.revision.parents.0 (λ a. a < length before) → IfSome s.revision.parents.1 (λ a. a < length before) → chunk_text s.chunk ≡ Some s.revision.text
    → text_of (before ++ next_of before s ∷ more) (length before) s.chunk ≡ Ok s.revision.text
text_reads before more s p1 p2 spells =
    let e = next_of before s in
    let all = before ++ e ∷ more in
    let node : node_with all e s.revision.text ≡ e.node.0 =
    ap (λ n. node_hash n (parent_node (nodes_of all) e.p2) s.revision.text) (parent_among before (e ∷ more) e.p1 p1) ∙ ap (λ n. node_hash (parent_node (nodes_of before) e.p1) n s.revision.text) (parent_among before (e ∷ more) e.p2 p2) in
    ap (text_at all (length before) s.chunk) (slice_get_seam before e more)
    ∙ three (not (0 == 0)) (not (length (nodes_of before) == length before)) (nat_lt (length s.chunk) (length s.chunk)) (faults.Flagged (length before)) (faults.Delta (length before)) (faults.Short (length before)) (fitting_text all (length before) e (chunk_text s.chunk)) refl (number_test (length (nodes_of before)) (length before) (length-nodes_of before)) (at_most_test (length s.chunk) (length s.chunk) (omega arith))
    ∙ ap (fitting_text all (length before) e) spells
    ∙ two (not (length s.revision.text == length s.revision.text)) (not (same (node_with all e s.revision.text) e.node.0)) (faults.Length (length before)) (faults.Hash (length before)) (Ok s.revision.text) (number_test (length s.revision.text) (length s.revision.text) refl) (ap (λ n. not (same n e.node.0)) node ∙ ap not (same_itself e.node.0))

reads_from : (before : List Entry) (front rest : List ℕ) (stored : List Stored) → length front ≡ stored_sum before → ParentsBefore (length before) (map (λ r. r.parents) (revisions_of stored))
    → AllByRecursion (λ (s : Stored). chunk_text s.chunk ≡ Some s.revision.text) stored
    → read_from (before ++ entries_of (items_from (stored_sum before) (nodes_of before) stored)) (front ++ (chunks_of stored ++ rest)) (length before) (entries_of (items_from (stored_sum before) (nodes_of before) stored)) ≡ Ok (revisions_of stored)
reads_from before front rest [] len earlier spells = refl
reads_from before front rest (s ∷ stored) len earlier spells =
    let e = next_of before s in
    let more = entries_of (items_from (stored_sum before + length s.chunk) (nodes_of before ++ e.node.0 ∷ []) stored) in
    let after_push = entries_of (items_from (stored_sum (before ++ e ∷ [])) (nodes_of (before ++ e ∷ [])) stored) in
    let push : more ≡ after_push = ap entries_of (items_push before s stored) in
    let all = before ++ e ∷ more in
    let data_bytes = front ++ ((s.chunk ++ chunks_of stored) ++ rest) in
    let behind : (s.chunk ++ chunks_of stored) ++ rest ≡ s.chunk ++ (chunks_of stored ++ rest) = append_assoc s.chunk (chunks_of stored) rest in
    let data_is : (front ++ s.chunk) ++ (chunks_of stored ++ rest) ≡ data_bytes = append_assoc front s.chunk (chunks_of stored ++ rest) ∙ ap (λ l. front ++ l) (sym behind) in
    let all_is : (before ++ e ∷ []) ++ after_push ≡ all = append_assoc before (e ∷ []) after_push ∙ ap (λ m. before ++ e ∷ m) (sym push) in
    let chunk : chunk_in data_bytes e ≡ s.chunk =
    ap (take (length s.chunk)) (rest_of front ((s.chunk ++ chunks_of stored) ++ rest) (stored_sum before) len ∙ behind) ∙ take-append_seam s.chunk (chunks_of stored ++ rest) in
    let count : length (before ++ e ∷ []) ≡ suc (length before) = (let l = length_push before e in omega (arith, l)) in
    let ih = reads_from (before ++ e ∷ []) (front ++ s.chunk) rest stored (let sum = sum_push before e in omega (arith, sum, len, length-append front s.chunk))
    (subst (λ n. ParentsBefore n (map (λ r. r.parents) (revisions_of stored))) (sym count) earlier.2) spells.1 in
    let others : read_from all data_bytes (suc (length before)) more ≡ Ok (revisions_of stored) =
    ap (λ m. read_from all data_bytes (suc (length before)) m) push
    ∙ ap (λ n. read_from all data_bytes n after_push) (sym count)
    ∙ ap (λ d. read_from all d (length (before ++ e ∷ [])) after_push) (sym data_is)
    ∙ ap (λ es. read_from es ((front ++ s.chunk) ++ (chunks_of stored ++ rest)) (length (before ++ e ∷ [])) after_push) (sym all_is)
    ∙ ih in
    ap (λ x. with_text e x (read_from all data_bytes (suc (length before)) more))
    (ap (text_of all (length before)) chunk ∙ text_reads before more s earlier.0 earlier.1 spells.0)
    ∙ ap (with_text e (Ok s.revision.text)) others

-- ---- all of it

plain_item : (h : Header) (first : Option Header) (i : Item) → h.inline ≡ false → item_bytes h first i ≡ entry_bytes i.entry first
plain_item h first i separate = ap (λ b. entry_bytes i.entry first ++ cond b i.chunk []) separate ∙ append-nil (entry_bytes i.entry first)

rest_bytes : (h : Header) (is : List Item) → h.inline ≡ false → flat_map (item_bytes h None) is ≡ bytes_from None is
rest_bytes h [] separate = refl
rest_bytes h (i ∷ is) separate = ap (λ l. l ++ flat_map (item_bytes h None) is) (plain_item h None i separate) ∙ ap (λ l. entry_bytes i.entry None ++ l) (rest_bytes h is separate)

all_bytes : (h : Header) (is : List Item) → h.inline ≡ false → index_bytes h is ≡ bytes_from (Some h) is
all_bytes h [] separate = refl
all_bytes h (i ∷ is) separate = ap (λ l. l ++ flat_map (item_bytes h None) is) (plain_item h (Some h) i separate) ∙ ap (λ l. entry_bytes i.entry (Some h) ++ l) (rest_bytes h is separate)

length_revisions : (stored : List Stored) → length (revisions_of stored) ≡ length stored
length_revisions [] = refl
length_revisions (s ∷ stored) = ap suc (length_revisions stored)

-- Bytes that hold revisions within the limits load whole, and their texts read as these revisions, also from longer data.
pub held-loaded : (index data_bytes rest : List ℕ) (revisions : List Revision) → HoldsRevisions index data_bytes revisions → AreWithinLimits revisions data_bytes
    → (log : Log) × (loaded Refuse index ≡ Ok log) × (read_all log.entries (data_bytes ++ rest) ≡ Ok revisions) × Agrees index data_bytes log.entries revisions
held-loaded index data_bytes rest revisions h limits =
    let stored = h.stored in
    let is = items stored in
    let log : Log = record { inline = false; entries = entries_of is } in
    let count : length stored ≡ length revisions = sym (length_revisions stored) ∙ ap length h.these in
    let earlier = subst (λ rs. ParentsBefore 0 (map (λ r. r.parents) rs)) (sym h.these) h.earlier in
    let data_len : length (chunks_of stored) ≡ length data_bytes = ap length (sym h.data_is) in
    let next : AreNext [] stored = record {
      fits = h.fits;
      earlier = earlier;
      fresh = fresh_from [] (revisions_of stored) (ap (λ rs. all_different (nodes rs)) h.these ∙ h.different) (ap (λ rs. among null_node (nodes rs)) h.these ∙ h.not_null);
      few = (let few = limits.few in omega (arith, few, count));
      texts = subst (AllByRecursion (λ (r : Revision). length r.text ≤ most_text)) (sym h.these) limits.texts;
      data_end = (let room = limits.data_end in omega (arith, room, data_len));
    } in
    let spelled : index ≡ bytes_from (Some h.header) is = h.index_is ∙ all_bytes h.header is h.form in
    let entries_count : length index / 64 ≡ length stored = (let l = length-held index data_bytes revisions h in omega (arith, l, count)) in
    let load : loaded Refuse index ≡ Ok log =
    ap (λ n. load_from Refuse n (record { inline = false; entries = [] }) index) entries_count
    ∙ ap (load_from Refuse (length stored) (record { inline = false; entries = [] })) spelled
    ∙ loads_from (record { inline = false; entries = [] }) (Some h.header) stored next h.form (λ s. refl) (λ z. refl) in
    let read : read_all (entries_of is) (data_bytes ++ rest) ≡ Ok revisions =
    ap (λ d. read_all (entries_of is) (d ++ rest)) h.data_is ∙ reads_from [] [] rest stored refl earlier h.texts ∙ ap (λ rs. Ok rs) h.these in
    (log, load, read, record { held = h; entries_are = refl })
