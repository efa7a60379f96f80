-- What is true of the entries of an index that loads.
use Rattle.std.proofs.Common.{not, ◌&&◌, ◌||◌, ◌⊎◌, ◌<◌, ◌≤◌, ◌-◌, ◌*◌, Some, None, sym, ap, ◌∙◌, inl, inr, ◌≡◌, ℕ, zero, suc, ◌+◌, ◌/◌, Bool, true, false, cond, List, [], ◌∷◌, ◌++◌, length, take, drop, Result, Ok, Err, refl, subst, arith}
use Rattle.std.specs.Prelude.{◌==◌, IfSome, slice_get}
use Rattle.std.specs.List.{AllByRecursion}
use Rattle.std.proofs.lemmas.List.{drop-drop, length-take, length-drop, length_push, take-append-le, take_all}
use Rattle.hex.specs.Hex.{IsBytes}
use Rattle.hgs_bytes.specs.Bytes.{among, same}
use Rattle.hgs_index.specs.declared.entry.Entry as index_entry
use Rattle.hgs_index.specs.declared.entry.EntryFault.{EntryFault}
use Rattle.hgs_index.specs.declared.entry.EntryFault.TheVariants.{Version, HeaderFlags, Negative, Padding}
use Rattle.hgs_index.specs.Entry.{part, fields_of, has_bad_header, has_negative, has_padding, entry_at}
use Rattle.std.specs.Int.{w16, from_be_bytes}
use Rattle.hgs_index.specs.Node.{IsNode, null_node}
use Rattle.hgs_index.specs.Revision.{ParentsBefore}
use Rattle.hgs_revlog.specs.declared.fault.RevFault.{RevFault}
use Rattle.hgs_revlog.specs.declared.fault.RevFault.TheVariants.{Tail}
use Rattle.hgs_revlog.specs.declared.fault.Tail.TheVariants.{Ignore, Refuse, Until}
use Rattle.hgs_revlog.specs.declared.fault.Tail as tails
use Rattle.hgs_revlog.specs.Log.{Log, with_entry, place_of, stored_sum, nodes_of}
use Rattle.hgs_revlog.specs.Load.{most_revisions, most_text, most_data, entry_behind, ends_at, at_end, after, load_from, loaded, pushed}
use Rattle.hgs_revlog.specs.Loaded.{parents_in, HaveNodes, HaveOwnNodes, HaveOffsets, HaveSmallTexts, AreEntries}
use Rattle.hgs_revlog.specs.Theorems.LoadLemmas.{IsFaultless, faultless, taken_entry, neither}
use Rattle.hgs_revlog.specs.Theorems.HeldLemmas.{below}
use Rattle.hgs_revlog.specs.Theorems.LogLemmas.{position_push_none, position_push_some, same_itself, sum_push}
use Rattle.hgs_revlog.specs.Theorems.ReadLemmas.{bytes_take, bytes_drop, read_entry}

ok_is : (x y : Log) → (let a : Result Log RevFault = Ok x in a) ≡ Ok y → x ≡ y
ok_is x y e = cc

pub end_is : (tail : tails.Tail) (log new : Log) (rest : List ℕ) → at_end tail log rest ≡ Ok new → log ≡ new
end_is Ignore log new rest e = ok_is log new e
end_is Refuse log new rest e = by (length rest == 0) e
  where
    by : (b : Bool) → cond b (Ok log) (Err (Tail (length log.entries))) ≡ Ok new → log ≡ new
    by true h = ok_is log new h
    by false h = cc
end_is (Until node) log new rest e = cc

-- what holds of a revlog, and is kept by each entry that is taken, holds of one that loads
module _ (Holds : Log → Type 0) (IsTaken : List ℕ → Type 0)
    (keeps : (log : Log) (bytes : List ℕ) (e : index_entry.Entry) → IsTaken bytes → entry_behind log.entries bytes ≡ Ok e → Holds log → Holds (with_entry log e)) where
  step : (tail : tails.Tail) (log new : Log) (bytes : List ℕ) (more : Log → Result Log RevFault) (r : Result index_entry.Entry RevFault) → IsTaken bytes → entry_behind log.entries bytes ≡ r → Holds log →
      ((next : Log) → Holds next → more next ≡ Ok new → Holds new) →
      after r (λ e. cond (ends_at tail e) (Ok (with_entry log e)) (more (with_entry log e))) ≡ Ok new → Holds new
  step tail log new bytes more (Err f) taken h holds behind e = cc
  step tail log new bytes more (Ok x) taken h holds behind e = by (ends_at tail x) e
    where
      one : Holds (with_entry log x)
      one = keeps log bytes x taken h holds

      by : (b : Bool) → cond b (Ok (with_entry log x)) (more (with_entry log x)) ≡ Ok new → Holds new
      by true k = subst Holds (ok_is (with_entry log x) new k) one
      by false k = behind (with_entry log x) one k

  pub load_holds : (tail : tails.Tail) (n : ℕ) (log new : Log) (bytes : List ℕ) → ((k : ℕ) → k < n → IsTaken (take 64 (drop (64 * k) bytes))) → Holds log → load_from tail n log bytes ≡ Ok new → Holds new
  load_holds tail zero log new bytes taken holds e = subst Holds (end_is tail log new bytes e) holds
  load_holds tail (suc n) log new bytes taken holds e =
      let first : IsTaken (take 64 bytes) = taken 0 (omega arith) in
      let behind : (k : ℕ) → k < n → IsTaken (take 64 (drop (64 * k) (drop 64 bytes))) = (λ k lt. subst (λ bs. IsTaken (take 64 bs)) ((let q : 64 * suc k ≡ 64 + 64 * k = omega arith in ap (λ m. drop m bytes) q) ∙ sym (drop-drop (64 * k) 64 bytes)) (taken (suc k) (omega (arith, lt)))) in
      step tail log new (take 64 bytes) (λ next. load_from tail n next (drop 64 bytes)) (entry_behind log.entries (take 64 bytes)) first refl holds (λ next before h. load_holds tail n next new (drop 64 bytes) behind before h) e

  pub loaded_holds : (tail : tails.Tail) (index : List ℕ) (log : Log) → ((k : ℕ) → k < length index / 64 → IsTaken (take 64 (drop (64 * k) index))) → Holds (record { inline = false; entries = [] }) → loaded tail index ≡ Ok log → Holds log
  loaded_holds tail index log taken none e = load_holds tail (length index / 64) (record { inline = false; entries = [] }) log index taken none e

  pub pushed_holds : (log new : Log) (bytes : List ℕ) → IsTaken bytes → Holds log → pushed log bytes ≡ Ok new → Holds new
  pushed_holds log new bytes taken holds e = by (entry_behind log.entries bytes) refl e
    where
      by : (r : Result index_entry.Entry RevFault) → entry_behind log.entries bytes ≡ r → after r (λ x. Ok (with_entry log x)) ≡ Ok new → Holds new
      by (Err f) h k = cc
      by (Ok x) h k = subst Holds (ok_is (with_entry log x) new k) (keeps log bytes x taken h holds)

abbrev Any : List ℕ → Type 0
Any bytes = Unit {0}

taken_is : (log : Log) (bytes : List ℕ) (e : index_entry.Entry) → entry_behind log.entries bytes ≡ Ok e → IsFaultless log.entries e
taken_is log bytes e h = faultless log.entries e (taken_entry log.entries bytes e h).1

-- ---- lists with one more

pub get-push : {A : Type 0} (xs : List A) (y : A) (i : ℕ) (x : A) → slice_get (xs ++ y ∷ []) i ≡ Some x → ((slice_get xs i ≡ Some x) × (i < length xs)) ⊎ ((i ≡ length xs) × (y ≡ x))
get-push [] y zero x e = inr (refl, is e)
  where
    is : Some y ≡ Some x → y ≡ x
    is h = cc
get-push [] y (suc i) x e = cc
get-push (z ∷ xs) y zero x e = inl (e, omega arith)
get-push (z ∷ xs) y (suc i) x e = elim (get-push xs y i x e) [ inl b ↦ inl (b.0, (let lt = b.1 in omega (arith, lt))) | inr b ↦ inr (ap suc b.0, b.1) ]

pub get-kept : (entries more : List index_entry.Entry) (i : ℕ) (e : index_entry.Entry) → slice_get entries i ≡ Some e → slice_get (entries ++ more) i ≡ Some e
get-kept [] more i e h = cc
get-kept (x ∷ entries) more zero e h = h
get-kept (x ∷ entries) more (suc i) e h = get-kept entries more i e h

abbrev pub AreLow : List index_entry.Entry → Type 0
AreLow entries = (rev : ℕ) (e : index_entry.Entry) → slice_get entries rev ≡ Some e → e.offset ≤ most_data

-- entries with no offset past the limit, with one more
pub low-push : (old new : List index_entry.Entry) (entry : index_entry.Entry) → new ≡ old ++ entry ∷ [] → AreLow old → entry.offset ≤ most_data → AreLow new
low-push old new entry is low fits rev e there = elim (get-push old entry rev e (ap (λ es. slice_get es rev) (sym is) ∙ there)) [
  | inl b ↦ low rev e b.0
  | inr b ↦ subst (λ (x : index_entry.Entry). x.offset ≤ most_data) b.1 fits
]

all-push : {A : Type 0} (P : A → Type 0) (xs : List A) (y : A) → AllByRecursion P xs → P y → AllByRecursion P (xs ++ y ∷ [])
all-push P [] y h p = (p, tt)
all-push P (x ∷ xs) y h p = (h.0, all-push P xs y h.1 p)

among-push : (node : List ℕ) (xs : List index_entry.Entry) (e : index_entry.Entry) → among node (nodes_of xs) ≡ false → same node e.node.0 ≡ false → among node (nodes_of (xs ++ e ∷ [])) ≡ false
among-push node [] e h s = ap (λ b. b || false) s
among-push node (x ∷ xs) e h s =
    let parts = neither (same node x.node.0) (among node (nodes_of xs)) h in
    ap (λ b. b || among node (nodes_of (xs ++ e ∷ []))) parts.0 ∙ among-push node xs e parts.1 s

-- ---- parents

earlier_more : (entries : List index_entry.Entry) (k : ℕ) (e : index_entry.Entry) → ParentsBefore k (parents_in entries) → IfSome e.p1 (λ a. a < k + length entries) → IfSome e.p2 (λ b. b < k + length entries) → ParentsBefore k (parents_in (entries ++ e ∷ []))
earlier_more [] k e h first second =
    let n : k + 0 ≡ k = omega arith in
    (subst (λ m. IfSome e.p1 (λ a. a < m)) n first, subst (λ m. IfSome e.p2 (λ b. b < m)) n second, tt)
earlier_more (x ∷ entries) k e h first second =
    let n : k + suc (length entries) ≡ suc k + length entries = omega arith in
    (h.0, h.1, earlier_more entries (suc k) e h.2 (subst (λ m. IfSome e.p1 (λ a. a < m)) n first) (subst (λ m. IfSome e.p2 (λ b. b < m)) n second))

earlier_taken : (log : Log) (bytes : List ℕ) (e : index_entry.Entry) → Unit {0} → entry_behind log.entries bytes ≡ Ok e → ParentsBefore 0 (parents_in log.entries) → ParentsBefore 0 (parents_in (log.entries ++ e ∷ []))
earlier_taken log bytes e any h earlier =
    let f = taken_is log bytes e h in
    let n : length log.entries ≡ 0 + length log.entries = omega arith in
    earlier_more log.entries 0 e earlier (subst (λ m. IfSome e.p1 (λ a. a < m)) n (below (length log.entries) e.p1 f.first)) (subst (λ m. IfSome e.p2 (λ b. b < m)) n (below (length log.entries) e.p2 f.second))

-- ---- nodes

pub own_more : (entries : List index_entry.Entry) (e : index_entry.Entry) → place_of entries e.node.0 ≡ None → HaveOwnNodes entries → HaveOwnNodes (entries ++ e ∷ [])
own_more entries e fresh own rev x there = elim (get-push entries e rev x there) [
  | inl b ↦ position_push_some (λ y. same y.node.0 x.node.0) entries e rev (own rev x b.0)
  | inr b ↦ ap (λ (y : index_entry.Entry). place_of (entries ++ e ∷ []) y.node.0) (sym b.1)
      ∙ position_push_none (λ y. same y.node.0 e.node.0) entries e fresh ∙ ap (λ t. cond t (Some (length entries)) None) (same_itself e.node.0) ∙ ap (λ n. Some n) (sym b.0)
]

own_taken : (log : Log) (bytes : List ℕ) (e : index_entry.Entry) → Unit {0} → entry_behind log.entries bytes ≡ Ok e → HaveOwnNodes log.entries → HaveOwnNodes (log.entries ++ e ∷ [])
own_taken log bytes e any h own = own_more log.entries e (taken_is log bytes e h).fresh own

own_none : HaveOwnNodes []
own_none rev e h = cc

named_taken : (log : Log) (bytes : List ℕ) (e : index_entry.Entry) → Unit {0} → entry_behind log.entries bytes ≡ Ok e → among null_node (nodes_of log.entries) ≡ false → among null_node (nodes_of (log.entries ++ e ∷ [])) ≡ false
named_taken log bytes e any h named = among-push null_node log.entries e named (taken_is log bytes e h).named

fields-are : (a b c d : Bool) (v w x y : EntryFault) (fields e : index_entry.Entry) → cond a (Err v) (cond b (Err w) (cond c (Err x) (cond d (Err y) (Ok fields)))) ≡ Ok e → fields ≡ e
fields-are true b c d v w x y fields e h = cc
fields-are false true c d v w x y fields e h = cc
fields-are false false true d v w x y fields e h = cc
fields-are false false false true v w x y fields e h = cc
fields-are false false false false v w x y fields e h = cc

entry-fields : (bytes : List ℕ) (rev : ℕ) (e : index_entry.Entry) → entry_at bytes rev ≡ Ok e → fields_of bytes rev ≡ e
entry-fields bytes rev e h =
    fields-are (rev == 0 && not (from_be_bytes w16 (part 2 2 bytes) == 1)) (rev == 0 && has_bad_header (from_be_bytes w16 (part 0 2 bytes))) (has_negative bytes) (has_padding bytes rev)
    Version HeaderFlags Negative Padding (fields_of bytes rev) e h

-- the fields of an entry that is taken are those in its bytes
pub entry-read : (before : List index_entry.Entry) (bytes : List ℕ) (e : index_entry.Entry) → entry_behind before bytes ≡ Ok e → fields_of bytes (length before) ≡ e
entry-read before bytes e h = entry-fields bytes (length before) e (read_entry before bytes e h)

abbrev IsWholeEntry : List ℕ → Type 0
IsWholeEntry bytes = (length bytes ≡ 64) × IsBytes bytes

part-is : (bytes : List ℕ) → IsWholeEntry bytes → IsNode (part 32 20 bytes)
part-is bytes whole =
    let size = whole.0 in
    let behind = length-drop 32 bytes in
    let taken = length-take 20 (drop 32 bytes) in
    record { size = grind (arith, size, behind, taken); bytes = bytes_take 20 (drop 32 bytes) (bytes_drop 32 bytes whole.1) }

nodes_taken : (log : Log) (bytes : List ℕ) (e : index_entry.Entry) → IsWholeEntry bytes → entry_behind log.entries bytes ≡ Ok e → HaveNodes log.entries → HaveNodes (log.entries ++ e ∷ [])
nodes_taken log bytes e whole h nodes rev x there = elim (get-push log.entries e rev x there) [
  | inl b ↦ nodes rev x b.0
  | inr b ↦ subst (λ (y : index_entry.Entry). IsNode y.node.0) (entry-read log.entries bytes e h ∙ b.1) (part-is bytes whole)
]

nodes_none : HaveNodes []
nodes_none rev e h = cc

whole-entry : (index : List ℕ) (k : ℕ) → IsBytes index → k < length index / 64 → IsWholeEntry (take 64 (drop (64 * k) index))
whole-entry index k bytes lt =
    let behind = length-drop (64 * k) index in
    let taken = length-take 64 (drop (64 * k) index) in
    let room : 64 ≤ length index - 64 * k = omega (arith, lt) in
    (grind (arith, behind, taken, room), bytes_take 64 (drop (64 * k) index) (bytes_drop (64 * k) index bytes))

-- ---- chunks and limits

offsets_taken : (log : Log) (bytes : List ℕ) (e : index_entry.Entry) → Unit {0} → entry_behind log.entries bytes ≡ Ok e → HaveOffsets log.entries → HaveOffsets (log.entries ++ e ∷ [])
offsets_taken log bytes e any h offsets rev x there = elim (get-push log.entries e rev x there) [
  | inl b ↦ offsets rev x b.0 ∙ ap stored_sum (sym (take-append-le rev log.entries (e ∷ []) (let lt = b.1 in omega (arith, lt))))
  | inr b ↦ ap (λ (y : index_entry.Entry). y.offset) (sym b.1) ∙ (taken_is log bytes e h).offset
      ∙ ap stored_sum (sym (ap (λ n. take n (log.entries ++ e ∷ [])) b.0 ∙ take-append-le (length log.entries) log.entries (e ∷ []) (omega arith) ∙ take_all (length log.entries) log.entries (omega arith)))
]

offsets_none : HaveOffsets []
offsets_none rev e h = cc

texts_taken : (log : Log) (bytes : List ℕ) (e : index_entry.Entry) → Unit {0} → entry_behind log.entries bytes ≡ Ok e → HaveSmallTexts log.entries → HaveSmallTexts (log.entries ++ e ∷ [])
texts_taken log bytes e any h texts = all-push (λ (x : index_entry.Entry). x.size ≤ most_text) log.entries e texts (taken_is log bytes e h).text

few_taken : (log : Log) (bytes : List ℕ) (e : index_entry.Entry) → entry_behind log.entries bytes ≡ Ok e → length (log.entries ++ e ∷ []) ≤ most_revisions
few_taken log bytes e h =
    let room = (taken_entry log.entries bytes e h).0 in
    let size = length_push log.entries e in
    omega (arith, room, size)

room_taken : (log : Log) (bytes : List ℕ) (e : index_entry.Entry) → entry_behind log.entries bytes ≡ Ok e → stored_sum (log.entries ++ e ∷ []) ≤ most_data
room_taken log bytes e h =
    let f = taken_is log bytes e h in
    let offset = f.offset in
    let fits = f.data_end in
    let sum = sum_push log.entries e in
    omega (arith, offset, fits, sum)

-- ---- all of it

abbrev AreLoaded : Log → Type 0
AreLoaded log = AreEntries log.entries × (log.inline ≡ false)

entries_taken : (log : Log) (bytes : List ℕ) (e : index_entry.Entry) → Unit {0} → entry_behind log.entries bytes ≡ Ok e → AreEntries log.entries → AreEntries (log.entries ++ e ∷ [])
entries_taken log bytes e any h are = record {
  few = few_taken log bytes e h;
  earlier = earlier_taken log bytes e any h are.earlier;
  own = own_taken log bytes e any h are.own;
  not_null = named_taken log bytes e any h are.not_null;
  offsets = offsets_taken log bytes e any h are.offsets;
  texts = texts_taken log bytes e any h are.texts;
  data_end = room_taken log bytes e h;
}

entries_none : AreEntries []
entries_none = record { few = omega arith; earlier = tt; own = own_none; not_null = refl; offsets = offsets_none; texts = tt; data_end = omega arith }

pub loaded-entries : (tail : tails.Tail) (index : List ℕ) (log : Log) → loaded tail index ≡ Ok log → AreEntries log.entries
loaded-entries tail index log e = loaded_holds (λ l. AreEntries l.entries) Any entries_taken tail index log (λ k lt. tt) entries_none e

pub loaded-separate : (tail : tails.Tail) (index : List ℕ) (log : Log) → loaded tail index ≡ Ok log → log.inline ≡ false
loaded-separate tail index log e = loaded_holds (λ l. l.inline ≡ false) Any (λ log bytes e any h is. is) tail index log (λ k lt. tt) refl e

pub loaded-nodes : (tail : tails.Tail) (index : List ℕ) (log : Log) → IsBytes index → loaded tail index ≡ Ok log → HaveNodes log.entries
loaded-nodes tail index log bytes e = loaded_holds (λ l. HaveNodes l.entries) IsWholeEntry nodes_taken tail index log (λ k lt. whole-entry index k bytes lt) nodes_none e

pub pushed-entries : (log new : Log) (entry : List ℕ) → AreEntries log.entries → pushed log entry ≡ Ok new → AreEntries new.entries
pushed-entries log new entry are e = pushed_holds (λ l. AreEntries l.entries) Any entries_taken log new entry tt are e

pub pushed-separate : (log new : Log) (entry : List ℕ) → log.inline ≡ false → pushed log entry ≡ Ok new → new.inline ≡ false
pushed-separate log new entry is e = pushed_holds (λ l. l.inline ≡ false) Any (λ log bytes e any h is. is) log new entry tt is e

pub pushed-earlier : (log new : Log) (entry : List ℕ) → ParentsBefore 0 (parents_in log.entries) → pushed log entry ≡ Ok new → ParentsBefore 0 (parents_in new.entries)
pushed-earlier log new entry earlier e = pushed_holds (λ l. ParentsBefore 0 (parents_in l.entries)) Any earlier_taken log new entry tt earlier e

pub pushed-own : (log new : Log) (entry : List ℕ) → HaveOwnNodes log.entries → pushed log entry ≡ Ok new → HaveOwnNodes new.entries
pushed-own log new entry own e = pushed_holds (λ l. HaveOwnNodes l.entries) Any own_taken log new entry tt own e

pub pushed-nodes : (log new : Log) (entry : List ℕ) → length entry ≡ 64 → IsBytes entry → HaveNodes log.entries → pushed log entry ≡ Ok new → HaveNodes new.entries
pushed-nodes log new entry size are nodes e = pushed_holds (λ l. HaveNodes l.entries) IsWholeEntry nodes_taken log new entry (size, are) nodes e
