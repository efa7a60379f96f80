-- An index whose texts read is one that holds their revisions.
use Rattle.std.proofs.Common.{◌≡◌, ℕ, zero, suc, ◌*◌, ◌/◌, ◌<◌, ◌≤◌, Bool, true, false, cond, ◌&&◌, not, List, [], ◌∷◌, ◌++◌, length, take, drop, Option, Some, None, Result, Ok, Err, refl, sym, ◌∙◌, ap, subst, arith, length-append, append_assoc, append-nil}
use Rattle.std.specs.Prelude.{◌==◌, nat_le, nat_lt, IfSome, IsSome, slice_get, slice_index_or}
use Rattle.std.specs.Int.{w16, from_be_bytes}
use Rattle.std.proofs.lemmas.List.{length_push, length-drop, length-take, take-append-drop}
use Rattle.std.proofs.Math.Seq.{drop-append_seam}
use Rattle.std.proofs.Math.ListN.{get_or-append}
use Rattle.hex.specs.Hex.{IsBytes}
use Rattle.hgs_bytes.specs.Bytes.{same}
use Rattle.hgs_index.specs.declared.entry.Entry.{Entry}
use Rattle.hgs_index.specs.declared.entry.EntryFault.{EntryFault}
use Rattle.hgs_index.specs.declared.entry.EntryFault.TheVariants.{Version, HeaderFlags, Negative, Padding}
use Rattle.hgs_index.specs.declared.entry.Header.{Header}
use Rattle.hgs_index.specs.declared.kinds.Which.TheVariants.{Changesets}
use Rattle.hgs_index.specs.Entry.{entry_bytes, entry_at, Fits, part, has_bad_header, has_negative, has_padding, header_of, header_at, header_within, fields_of}
use Rattle.hgs_index.specs.Inline.{says_inline}
use Rattle.hgs_index.specs.Node.{null_node, node_hash}
use Rattle.hgs_index.specs.Revision.{Revision, parent_node}
use Rattle.hgs_index.specs.Revlog.{chunk_text, next_header}
use Rattle.hgs_index.specs.Theorems.EntryTakenLemmas.{entry_taken}
use Rattle.hgs_index.specs.Theorems.RevlogLemmas.{map-append, held-none}
use Rattle.hgs_revlog.specs.declared.fault.RevFault.{RevFault}
use Rattle.hgs_revlog.specs.declared.fault.RevFault.TheVariants as faults
use Rattle.hgs_revlog.specs.declared.fault.Tail.TheVariants.{Refuse}
use Rattle.hgs_revlog.specs.Log.{Log, with_entry, stored_sum, nodes_of}
use Rattle.hgs_revlog.specs.Load.{most_revisions, fault_of, checked, unless, separate_at, entry_behind, load_from, loaded}
use Rattle.hgs_revlog.specs.Text.{text_of, text_at, entry_text, fitting_text, node_with}
use Rattle.hgs_revlog.specs.Held.{Agrees, revision_of, chunk_in, with_text, read_from, read_all}
use Rattle.hgs_revlog.specs.Theorems.LogLemmas.{equal_from_same, length-nodes_of}
use Rattle.hgs_revlog.specs.Theorems.TestLemmas.{same_number, at_most}
use Rattle.hgs_revlog.specs.Theorems.LoadLemmas.{IsFaultless, faultless, taken_entry}
use Rattle.hgs_revlog.specs.Theorems.TailLemmas.{refuse_step, refuse_none}
use Rattle.hgs_revlog.specs.Theorems.HeldLemmas.{IsWhole, below, length-agrees, stored_sum-agrees, agrees_on}

-- what a text that reads says of its entry
pub record IsSound (all : List Entry) (rev : ℕ) (e : Entry) (chunk text : List ℕ) : Type 0 where
  pub flags : e.flags ≡ 0
  pub base : e.base ≡ rev
  pub stored : e.stored ≤ length chunk
  pub spells : chunk_text chunk ≡ Some text
  pub size : length text ≡ e.size
  pub node : node_with all e text ≡ e.node.0

text_is : (x y : List ℕ) → (let a : Result (List ℕ) RevFault = Ok x in a) ≡ Ok y → x ≡ y
text_is x y h = cc

three : {A : Type 0} (a b c : Bool) (f g k : RevFault) (r : Result A RevFault) (x : A) → cond a (Err f) (cond b (Err g) (cond c (Err k) r)) ≡ Ok x → (a ≡ false) × (b ≡ false) × (c ≡ false) × (r ≡ Ok x)
three true b c f g k r x h = cc
three false true c f g k r x h = cc
three false false true f g k r x h = cc
three false false false f g k r x h = (refl, refl, refl, h)

two : {A : Type 0} (a b : Bool) (f g : RevFault) (r : Result A RevFault) (x : A) → cond a (Err f) (cond b (Err g) r) ≡ Ok x → (a ≡ false) × (b ≡ false) × (r ≡ Ok x)
two true b f g r x h = cc
two false true f g r x h = cc
two false false f g r x h = (refl, refl, h)

not_false : (b : Bool) → not b ≡ false → b ≡ true
not_false true h = refl
not_false false h = cc

fitting : (all : List Entry) (rev : ℕ) (e : Entry) (found : Option (List ℕ)) (text : List ℕ) → fitting_text all rev e found ≡ Ok text → (found ≡ Some text) × (length text ≡ e.size) × (node_with all e text ≡ e.node.0)
fitting all rev e None text h = cc
fitting all rev e (Some t) text h =
    let s = two (not (length t == e.size)) (not (same (node_with all e t) e.node.0)) _ _ (Ok t) text h in
    let is = text_is t text s.2 in
    (ap (λ x. Some x) is, ap length (sym is) ∙ same_number (length t) e.size s.0, ap (node_with all e) (sym is) ∙ equal_from_same (node_with all e t) e.node.0 (not_false (same (node_with all e t) e.node.0) s.1))

pub sound : (all : List Entry) (rev : ℕ) (e : Entry) (chunk text : List ℕ) → entry_text all rev chunk e ≡ Ok text → IsSound all rev e chunk text
sound all rev e chunk text h =
    let s = three (not (e.flags == 0)) (not (e.base == rev)) (nat_lt (length chunk) e.stored) _ _ _ (fitting_text all rev e (chunk_text chunk)) text h in
    let t = fitting all rev e (chunk_text chunk) text s.3 in
    record { flags = same_number e.flags 0 s.0; base = same_number e.base rev s.1; stored = at_most (length chunk) e.stored s.2; spells = t.0; size = t.1; node = t.2 }

-- a parent that comes before is the same among more entries
pub parent_among : (before more : List Entry) (p : Option ℕ) → IfSome p (λ a. a < length before) → parent_node (nodes_of (before ++ more)) p ≡ parent_node (nodes_of before) p
parent_among before more None h = refl
parent_among before more (Some a) h =
    ap (λ known. slice_index_or known a null_node) (map-append (λ (e : Entry). e.node.0) before more)
    ∙ get_or-append (nodes_of before) (nodes_of more) null_node a (let len = length-nodes_of before in omega (arith, len))

-- ---- headers

entry_tests : (a b c d : Bool) (x e : Entry) → cond a (Err Version) (cond b (Err HeaderFlags) (cond c (Err Negative) (cond d (Err Padding) (Ok x)))) ≡ Ok e → (a ≡ false) × (b ≡ false)
entry_tests true b c d x e h = cc
entry_tests false true c d x e h = cc
entry_tests false false c d x e h = (refl, refl)

says_header : (a b : Bool) (h : Header) → a ≡ false → b ≡ false → says_inline (cond a (Err Version) (cond b (Err HeaderFlags) (Ok h))) ≡ false → h.inline ≡ false
says_header true b h x y s = cc
says_header false true h x y s = cc
says_header false false h x y s = s

-- the header that an entry which reads begins with, where it says that the index is separate
pub step_header : (cell : List ℕ) (e : Entry) (rev : ℕ) (revisions : List Revision) → entry_at cell rev ≡ Ok e → rev ≡ length revisions → (rev == 0 && says_inline (header_at cell)) ≡ false
    → (h : Header) × (h.inline ≡ false) × (header_within cell rev ≡ next_header revisions h)
step_header cell e rev [] is len plain =
    let first : (rev == 0) ≡ true = grind arith in
    let old = not (from_be_bytes w16 (part 2 2 cell) == 1) in
    let bad = has_bad_header (from_be_bytes w16 (part 0 2 cell)) in
    let tests = entry_tests _ _ (has_negative cell) (has_padding cell rev) (fields_of cell rev) e is in (
      header_of (from_be_bytes w16 (part 0 2 cell)),
      says_header old bad (header_of (from_be_bytes w16 (part 0 2 cell))) (ap (λ b. b && old) (sym first) ∙ tests.0) (ap (λ b. b && bad) (sym first) ∙ tests.1) (ap (λ b. b && says_inline (header_at cell)) (sym first) ∙ plain),
      ap (λ b. cond b (Some (header_of (from_be_bytes w16 (part 0 2 cell)))) None) first,
    )
step_header cell e rev (r ∷ revisions) is len plain =
    let later : (rev == 0) ≡ false = grind arith in
    (record { inline = false; generaldelta = false }, refl, ap (λ b. cond b (Some (header_of (from_be_bytes w16 (part 0 2 cell)))) None) later)

pub fits_none : (e : Entry) (h : Option Header) → Fits e h → Fits e None
fits_none e h f = record { offset = f.offset; flags = f.flags; stored = f.stored; size = f.size; base = f.base; link = f.link; p1 = f.p1; p2 = f.p2; node = f.node; first = λ n. absurd (none_there n) }
  where
    none_there : IsSome {T = Header} None → ⊥
    none_there n = cc

-- ---- one entry after another

checked_is : (before : List Entry) (r : Result Entry EntryFault) (e : Entry) → checked before r ≡ Ok e → r ≡ Ok e
checked_is before (Err f) e h = cc
checked_is before (Ok x) e h = by (fault_of before x) h
  where
    by : (o : Option RevFault) → unless o x ≡ Ok e → (let a : Result Entry EntryFault = Ok x in a) ≡ Ok e
    by None h = ap (λ y. Ok y) (same_entry h)
      where
        same_entry : (let a : Result Entry RevFault = Ok x in a) ≡ Ok e → x ≡ e
        same_entry h = cc
    by (Some f) h = cc

separate_ok : (s : Bool) (r : Result Entry EntryFault) (e : Entry) → cond s (Err HeaderFlags) r ≡ Ok e → (s ≡ false) × (r ≡ Ok e)
separate_ok true r e h = cc
separate_ok false r e h = (refl, h)

-- an entry that is taken reads
pub read_entry : (before : List Entry) (cell : List ℕ) (e : Entry) → entry_behind before cell ≡ Ok e → entry_at cell (length before) ≡ Ok e
read_entry before cell e h = by (nat_le most_revisions (length before)) h
  where
    by : (b : Bool) → cond b (Err (faults.Limit Changesets)) (checked before (separate_at cell (length before))) ≡ Ok e → entry_at cell (length before) ≡ Ok e
    by true h = cc
    by false h = (separate_ok (length before == 0 && says_inline (header_at cell)) (entry_at cell (length before)) e (checked_is before (separate_at cell (length before)) e h)).1

-- and its header says that the index is separate
pub read_plain : (before : List Entry) (cell : List ℕ) (e : Entry) → entry_behind before cell ≡ Ok e → (length before == 0 && says_inline (header_at cell)) ≡ false
read_plain before cell e h = by (nat_le most_revisions (length before)) h
  where
    by : (b : Bool) → cond b (Err (faults.Limit Changesets)) (checked before (separate_at cell (length before))) ≡ Ok e → (length before == 0 && says_inline (header_at cell)) ≡ false
    by true h = cc
    by false h = (separate_ok (length before == 0 && says_inline (header_at cell)) (entry_at cell (length before)) e (checked_is before (separate_at cell (length before)) e h)).0

pub with_text_ok : (e : Entry) (text : Result (List ℕ) RevFault) (more : Result (List Revision) RevFault) (revisions : List Revision) → with_text e text more ≡ Ok revisions
    → (t : List ℕ) × (rest : List Revision) × (text ≡ Ok t) × (more ≡ Ok rest) × (revisions ≡ revision_of e t ∷ rest)
with_text_ok e (Err f) more revisions h = cc
with_text_ok e (Ok t) (Err f) revisions h = cc
with_text_ok e (Ok t) (Ok rest) revisions h = (t, rest, refl, refl, sym (list_is (revision_of e t ∷ rest) revisions h))
  where
    list_is : (x y : List Revision) → (let a : Result (List Revision) RevFault = Ok x in a) ≡ Ok y → x ≡ y
    list_is x y h = cc

pub slice_get_seam : (before : List Entry) (e : Entry) (more : List Entry) → slice_get (before ++ e ∷ more) (length before) ≡ Some e
slice_get_seam [] e more = refl
slice_get_seam (x ∷ before) e more = slice_get_seam before e more

-- what the taken entry and its text say, where the chunk is what the data holds next
whole_from : (before more : List Entry) (e : Entry) (chunk text : List ℕ) → IsFaultless before e → length chunk ≤ e.stored → text_of (before ++ e ∷ more) (length before) chunk ≡ Ok text → IsWhole before e chunk text
whole_from before more e chunk text f short h =
    let s = sound (before ++ e ∷ more) (length before) e chunk text (ap (text_at (before ++ e ∷ more) (length before) chunk) (sym (slice_get_seam before e more)) ∙ h) in
    record {
      flags = s.flags;
      base = s.base;
      stored = (let le = s.stored in omega arith);
      spells = s.spells;
      size = s.size;
      node = sym s.node
          ∙ ap (λ n. node_hash n (parent_node (nodes_of (before ++ e ∷ more)) e.p2) text) (parent_among before (e ∷ more) e.p1 (below (length before) e.p1 f.first))
          ∙ ap (λ n. node_hash (parent_node (nodes_of before) e.p1) n text) (parent_among before (e ∷ more) e.p2 (below (length before) e.p2 f.second));
    }

-- the entries that a load adds
load_more : (n : ℕ) (log end : Log) (bytes : List ℕ) → load_from Refuse n log bytes ≡ Ok end → (more : List Entry) × (end.entries ≡ log.entries ++ more)
load_more zero log end bytes h = ([], ap (λ l. l.entries) (sym (refuse_none log end bytes h).0) ∙ sym (append-nil log.entries))
load_more (suc n) log end bytes h =
    let s = refuse_step n log end bytes h in
    let r = load_more n (with_entry log s.0) end (drop 64 bytes) s.2 in
    (s.0 ∷ r.0, r.1 ∙ append_assoc log.entries (s.0 ∷ []) r.0)

pub bytes_drop : (n : ℕ) (xs : List ℕ) → IsBytes xs → IsBytes (drop n xs)
bytes_drop zero xs h = h
bytes_drop (suc n) [] h = h
bytes_drop (suc n) (x ∷ xs) h = bytes_drop n xs (λ i. h (suc i))

bytes_first : (x : ℕ) (xs : List ℕ) → x < 256 → IsBytes xs → IsBytes (x ∷ xs)
bytes_first x xs a h zero = a
bytes_first x xs a h (suc i) = h i

pub bytes_take : (n : ℕ) (xs : List ℕ) → IsBytes xs → IsBytes (take n xs)
bytes_take zero xs h = λ i. omega arith
bytes_take (suc n) [] h = h
bytes_take (suc n) (x ∷ xs) h = bytes_first x (take n xs) (h 0) (bytes_take n xs (λ k. h (suc k)))

drop_past : (front rest : List ℕ) (n : ℕ) → n ≡ length front → drop n (front ++ rest) ≡ rest
drop_past front rest n is = ap (λ m. drop m (front ++ rest)) is ∙ drop-append_seam front rest

front_cancel : (xs ys zs : List Entry) → xs ++ ys ≡ xs ++ zs → ys ≡ zs
front_cancel xs ys zs h = sym (drop-append_seam xs ys) ∙ ap (drop (length xs)) h ∙ drop-append_seam xs zs

empty : {A : Type 0} (xs : List A) → length xs ≡ 0 → xs ≡ []
empty [] h = refl
empty (x ∷ xs) h = absurd (omega arith)

list_is : (x y : List Revision) → (let a : Result (List Revision) RevFault = Ok x in a) ≡ Ok y → x ≡ y
list_is x y h = cc

same_agrees : (i j : List ℕ) (es fs : List Entry) (d : List ℕ) (r q : List Revision) → i ≡ j → es ≡ fs → r ≡ q → Agrees i d es r → Agrees j d fs q
same_agrees i j es fs d r q a b c h = subst (Agrees j d fs) c (subst (λ x. Agrees j d x r) b (subst (λ x. Agrees x d es r) a h))

-- the data begins with the chunks of these entries, and with the index these hold the revisions
pub record HeldFront (index data_bytes : List ℕ) (entries : List Entry) (revisions : List Revision) : Type 0 where
  pub used : List ℕ
  pub left : List ℕ
  pub split : data_bytes ≡ used ++ left
  pub agrees : Agrees index used entries revisions

-- Bytes behind those that hold some revisions, whose entries load and whose texts read, hold these too.
held_from : (n : ℕ) (before end : Log) (index bytes front rest : List ℕ) (revisions more : List Revision) (entries : List Entry)
    → Agrees index front before.entries revisions → IsBytes bytes → 64 * n ≤ length bytes → load_from Refuse n before bytes ≡ Ok end
    → end.entries ≡ before.entries ++ entries → read_from end.entries (front ++ rest) (length before.entries) entries ≡ Ok more
    → HeldFront (index ++ bytes) (front ++ rest) end.entries (revisions ++ more)
held_from zero before end index bytes front rest revisions more entries h are whole load these read =
    let none = refuse_none before end bytes load in
    let no_entries : entries ≡ [] = front_cancel before.entries entries [] (sym these ∙ ap (λ l. l.entries) (sym none.0) ∙ sym (append-nil before.entries)) in
    let no_bytes : bytes ≡ [] = empty bytes none.1 in
    let no_more : [] ≡ more = list_is [] more (ap (read_from end.entries (front ++ rest) (length before.entries)) (sym no_entries) ∙ read) in
    record {
      used = front;
      left = rest;
      split = refl;
      agrees = same_agrees index (index ++ bytes) before.entries end.entries front revisions (revisions ++ more)
          (sym (append-nil index) ∙ ap (λ l. index ++ l) (sym no_bytes)) (ap (λ l. l.entries) none.0) (sym (append-nil revisions) ∙ ap (λ l. revisions ++ l) no_more) h;
    }
held_from (suc n) before end index bytes front rest revisions more entries h are whole load these read =
    let s = refuse_step n before end bytes load in
    let e = s.0 in
    let cell = take 64 bytes in
    let r = load_more n (with_entry before e) end (drop 64 bytes) s.2 in
    let there : end.entries ≡ before.entries ++ e ∷ r.0 = r.1 ∙ append_assoc before.entries (e ∷ []) r.0 in
    let split : entries ≡ e ∷ r.0 = front_cancel before.entries entries (e ∷ r.0) (sym these ∙ there) in
    let w = with_text_ok e (text_of end.entries (length before.entries) (chunk_in (front ++ rest) e)) (read_from end.entries (front ++ rest) (suc (length before.entries)) r.0) more (ap (read_from end.entries (front ++ rest) (length before.entries)) (sym split) ∙ read) in
    let t = w.0 in
    let f = faultless before.entries e (taken_entry before.entries cell e s.1).1 in
    let c = take e.stored rest in
    let chunk : chunk_in (front ++ rest) e ≡ c = ap (take e.stored) (drop_past front rest e.offset (f.offset ∙ stored_sum-agrees index front before.entries revisions h)) in
    let ok = whole_from before.entries r.0 e c t f (let l = length-take e.stored rest in omega (arith, l))
    (ap (λ es. text_of es (length before.entries) c) (sym there) ∙ ap (text_of end.entries (length before.entries)) (sym chunk) ∙ w.2) in
    let reads = read_entry before.entries cell e s.1 in
    let ent = entry_taken cell (length before.entries) e (bytes_take 64 bytes are) (let l = length-take 64 bytes in omega (arith, l)) reads in
    let hd = step_header cell e (length before.entries) revisions reads (length-agrees index front before.entries revisions h) (read_plain before.entries cell e s.1) in
    let spelled : entry_bytes e (next_header revisions hd.0) ≡ cell = ap (entry_bytes e) (sym hd.2) ∙ sym ent.0 in
    let next = subst (λ b. Agrees (index ++ b) (front ++ c) (before.entries ++ e ∷ []) (revisions ++ revision_of e t ∷ [])) spelled
    (agrees_on index front before.entries revisions e c t hd.0 h f ok (fits_none e (header_within cell (length before.entries)) ent.1) hd.1) in
    let whole_data : (front ++ c) ++ drop e.stored rest ≡ front ++ rest = append_assoc front c (drop e.stored rest) ∙ ap (λ l. front ++ l) (take-append-drop e.stored rest) in
    let count : length (before.entries ++ e ∷ []) ≡ suc (length before.entries) = (let l = length_push before.entries e in omega (arith, l)) in
    let held = held_from n (with_entry before e) end (index ++ cell) (drop 64 bytes) (front ++ c) (drop e.stored rest) (revisions ++ revision_of e t ∷ []) w.1 r.0
    next (bytes_drop 64 bytes are) (let l = length-drop 64 bytes in omega (arith, l)) s.2 r.1
    (ap (λ d. read_from end.entries d (length (before.entries ++ e ∷ [])) r.0) whole_data ∙ ap (λ m. read_from end.entries (front ++ rest) m r.0) count ∙ w.3) in
    record {
      used = held.used;
      left = held.left;
      split = sym whole_data ∙ held.split;
      agrees = same_agrees ((index ++ cell) ++ drop 64 bytes) (index ++ bytes) end.entries end.entries held.used ((revisions ++ revision_of e t ∷ []) ++ w.1) (revisions ++ more)
          (append_assoc index cell (drop 64 bytes) ∙ ap (λ l. index ++ l) (take-append-drop 64 bytes)) refl (append_assoc revisions (revision_of e t ∷ []) w.1 ∙ ap (λ l. revisions ++ l) (sym w.4)) held.agrees;
    }

agrees_none : Agrees [] [] [] []
agrees_none = record { held = held-none; entries_are = refl }

-- An index that loads whole, whose texts read, holds with the front of the data what is read.
pub loaded-front : (index data_bytes : List ℕ) (log : Log) (revisions : List Revision) → IsBytes index → loaded Refuse index ≡ Ok log → read_all log.entries data_bytes ≡ Ok revisions
    → HeldFront index data_bytes log.entries revisions
loaded-front index data_bytes log revisions are load read =
    held_from (length index / 64) (record { inline = false; entries = [] }) log [] index [] data_bytes [] revisions log.entries agrees_none are (omega arith) load refl read

-- With no byte past the last chunk it holds this with all of the data.
pub loaded-held : (index data_bytes : List ℕ) (log : Log) (revisions : List Revision) → IsBytes index → loaded Refuse index ≡ Ok log → read_all log.entries data_bytes ≡ Ok revisions → length data_bytes ≡ stored_sum log.entries
    → Agrees index data_bytes log.entries revisions
loaded-held index data_bytes log revisions are load read last =
    let h = loaded-front index data_bytes log revisions are load read in
    let none : h.left ≡ [] = empty h.left (let s = stored_sum-agrees index h.used log.entries revisions h.agrees in let d = ap length h.split in omega (arith, s, d, last, length-append h.used h.left)) in
    subst (λ d. Agrees index d log.entries revisions) (sym (append-nil h.used) ∙ ap (λ l. h.used ++ l) (sym none) ∙ sym h.split) h.agrees
