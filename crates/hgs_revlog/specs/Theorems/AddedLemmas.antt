-- What is written of a new revision, appended, holds it last.
use Rattle.std.proofs.Common.{◌≡◌, ℕ, ◌+◌, ◌^◌, ◌<◌, ◌≤◌, Bool, true, false, cond, ◌&&◌, ◌||◌, List, [], ◌∷◌, ◌++◌, length, Option, Some, None, Result, Ok, Err, refl, sym, ◌∙◌, ap, subst, arith}
use Rattle.std.specs.Prelude.{◌==◌, nat_le, nat_lt, is_some, IfSome, IsSome, IsOk, unwrap_or}
use Rattle.hgs_bytes.specs.Bytes.{same}
use Rattle.hgs_index.specs.declared.entry.Entry.{Entry}
use Rattle.hgs_index.specs.declared.entry.Header.{Header}
use Rattle.hgs_index.specs.declared.node.Node.{Node}
use Rattle.hgs_index.specs.declared.kinds.Which.TheVariants.{Changesets}
use Rattle.hgs_index.specs.declared.entry.EntryFault.TheVariants.{HeaderFlags}
use Rattle.hgs_index.specs.Entry.{entry_bytes, entry_at, header_at, Fits}
use Rattle.hgs_index.specs.Inline.{chunks_apart, index_apart, says_inline}
use Rattle.hgs_index.specs.Node.{null_node}
use Rattle.hgs_index.specs.Revision.{Revision, parent_node}
use Rattle.hgs_index.specs.Revlog.{Holds, chunk_of, next_header}
use Rattle.hgs_index.specs.Theorems.EntryLemmas.{entry_again}
use Rattle.hgs_index.specs.Theorems.RevlogLemmas.{chunk_text-chunk_of}
use Rattle.hgs_revlog.specs.declared.add.Added.{Added}
use Rattle.hgs_revlog.specs.declared.add.Added.TheVariants.{Old, New}
use Rattle.hgs_revlog.specs.declared.fault.RevFault.{RevFault}
use Rattle.hgs_revlog.specs.declared.fault.RevFault.TheVariants as faults
use Rattle.hgs_revlog.specs.Log.{Log, with_entry, new_header, place_of, stored_sum, nodes_of}
use Rattle.hgs_revlog.specs.Load.{most_revisions, most_text, most_data, is_above, fault_of, unless, checked, separate_at, entry_behind, after, pushed}
use Rattle.hgs_revlog.specs.Text.{text_of}
use Rattle.hgs_revlog.specs.Add.{next_entry, added_new, matched, added_at, added}
use Rattle.hgs_revlog.specs.Held.{Agrees}
use Rattle.hgs_revlog.specs.Theorems.LoadLemmas.{IsFaultless}
use Rattle.hgs_revlog.specs.Theorems.LogLemmas.{length-nodes_of}
use Rattle.hgs_revlog.specs.Theorems.TestLemmas.{number_test, at_most, at_most_test}
use Rattle.hgs_revlog.specs.Theorems.AddLemmas.{length-chunk_of, length-node_hash, next_fits}
use Rattle.hgs_revlog.specs.Theorems.HeldLemmas.{IsWhole, length-agrees, agrees_on, holds_on}
use Rattle.hgs_revlog.specs.Theorems.ReadLemmas.{fits_none}

-- ---- the other way of the tests of an entry

pub not_above : (rev : ℕ) (p : Option ℕ) → IfSome p (λ a. a < rev) → is_above rev p ≡ false
not_above rev None h = refl
not_above rev (Some p) h = grind arith

no_tests : (a b c d e : Bool) (v w x y z : RevFault) → a ≡ false → b ≡ false → c ≡ false → d ≡ false → e ≡ false
    → cond a (Some v) (cond b (Some w) (cond c (Some x) (cond d (Some y) (cond e (Some z) None)))) ≡ None
no_tests a b c d e v w x y z p q r s t = rw (p, q, r, s, t)

pub no_fault : (before : List Entry) (e : Entry) → IsFaultless before e → fault_of before e ≡ None
no_fault before e f =
    no_tests _ _ _ _ _ _ _ _ _ _ (number_test e.offset (stored_sum before) f.offset)
    (ap (λ b. b || is_above (length before) e.p2) f.first ∙ f.second)
    (ap (λ b. b || is_some (place_of before e.node.0)) f.named ∙ ap is_some f.fresh)
    (at_most_test most_text e.size f.text) (at_most_test most_data (e.offset + e.stored) f.data_end)

room : (n : ℕ) → n < most_revisions → nat_le most_revisions n ≡ false
room n h = grind arith

-- the header of an entry that is written of a separate revlog says so
says_plain : (e : Entry) (h : Option Header) (rev : ℕ) → IfSome h (λ x. x.inline ≡ false) → (rev ≡ 0 → IsSome h) → (rev == 0 && says_inline (header_at (entry_bytes e h))) ≡ false
says_plain e None rev separate first = by (rev == 0) refl
  where
    none : IsSome {T = Header} None → ⊥
    none n = cc

    zero_when : (n : ℕ) → (n == 0) ≡ true → n ≡ 0
    zero_when n h = grind arith

    by : (b : Bool) → (rev == 0) ≡ b → (b && says_inline (header_at (entry_bytes e None))) ≡ false
    by true t = absurd (none (first (zero_when rev t)))
    by false t = refl
says_plain e (Some h) rev separate first = by (rev == 0) h.inline h.generaldelta separate
  where
    by : (b i g : Bool) → i ≡ false → (b && says_inline (header_at (entry_bytes e (Some (record { inline = i; generaldelta = g }))))) ≡ false
    by b true g h = cc
    by true false true h = refl
    by true false false h = refl
    by false false g h = refl

pub written-read : (e : Entry) (h : Option Header) (rev : ℕ) → Fits e h → IfSome h (λ x. x.inline ≡ false) → (IsSome h → rev ≡ 0) → (rev ≡ 0 → IsSome h) → separate_at (entry_bytes e h) rev ≡ Ok e
written-read e h rev fits separate a b = ap (λ x. cond x (Err HeaderFlags) (entry_at (entry_bytes e h) rev)) (says_plain e h rev separate b) ∙ entry_again e h rev fits a b

-- the bytes of an entry without fault, behind the others, are taken as this entry
pub taken_again : (before : List Entry) (e : Entry) (h : Option Header) → length before < most_revisions → IsFaultless before e → Fits e h → IfSome h (λ x. x.inline ≡ false)
    → (IsSome h → length before ≡ 0) → (length before ≡ 0 → IsSome h) → entry_behind before (entry_bytes e h) ≡ Ok e
taken_again before e h few f fits separate a b =
    ap (λ x. cond x (Err (faults.Limit Changesets)) (checked before (separate_at (entry_bytes e h) (length before)))) (room (length before) few)
    ∙ ap (checked before) (written-read e h (length before) fits separate a b)
    ∙ ap (λ o. unless o e) (no_fault before e f)

-- ---- what a new revision is

record IsNew (log : Log) (r : Revision) (entry chunk : List ℕ) (node : Node) : Type 0 where
  few : length log.entries < most_revisions
  text : length r.text ≤ most_text
  data_end : stored_sum log.entries + length (chunk_of r.text) ≤ most_data
  entry_is : entry ≡ entry_bytes (next_entry log.entries r) (new_header log)
  chunk_is : chunk ≡ chunk_of r.text
  node_is : node ≡ (next_entry log.entries r).node

three : (a b c : Bool) (w x y : RevFault) (v g : Added) → cond a (Err w) (cond b (Err x) (cond c (Err y) (Ok v))) ≡ Ok g → (a ≡ false) × (b ≡ false) × (c ≡ false) × (v ≡ g)
three true b c w x y v g h = cc
three false true c w x y v g h = cc
three false false true w x y v g h = cc
three false false false w x y v g h = (refl, refl, refl, is v g h)
  where
    is : (v g : Added) → (let a : Result Added RevFault = Ok v in a) ≡ Ok g → v ≡ g
    is v g h = cc

new_parts : (e f c d : List ℕ) (n m : Node) → New e c n ≡ New f d m → (f ≡ e) × (d ≡ c) × (m ≡ n)
new_parts e f c d n m h = (cc, cc, cc)

few_is : (n : ℕ) → nat_le most_revisions n ≡ false → n < most_revisions
few_is n h = grind arith

new_is : (log : Log) (r : Revision) (entry chunk : List ℕ) (node : Node) → added_new log r ≡ Ok (New entry chunk node) → IsNew log r entry chunk node
new_is log r entry chunk node h =
    let s = three (nat_le most_revisions (length log.entries)) (nat_lt most_text (length r.text)) (nat_lt most_data (stored_sum log.entries + length (chunk_of r.text))) _ _ _ _ _ h in
    let p = new_parts _ entry _ chunk _ node s.3 in
    record { few = few_is (length log.entries) s.0; text = at_most most_text (length r.text) s.1; data_end = at_most most_data (stored_sum log.entries + length (chunk_of r.text)) s.2; entry_is = p.0; chunk_is = p.1; node_is = p.2 }

found_not_new : (log : Log) (r : Revision) (rev : ℕ) (text : Result (List ℕ) RevFault) (entry chunk : List ℕ) (node : Node) → matched log r.text r.parents rev text ≡ Ok (New entry chunk node) → ⊥
found_not_new log r rev (Err f) entry chunk node h = cc
found_not_new log r rev (Ok t) entry chunk node h = by _ h
  where
    by : (b : Bool) → cond b (Ok (Old rev)) (Err (faults.Collision rev)) ≡ Ok (New entry chunk node) → ⊥
    by true h = cc
    by false h = cc

-- a new revision has a node that has no place
new_fresh : (log : Log) (r : Revision) (standing : Option (List ℕ)) (place : Option ℕ) (entry chunk : List ℕ) (node : Node) → added_at log r standing place ≡ Ok (New entry chunk node) → (place ≡ None) × (added_new log r ≡ Ok (New entry chunk node))
new_fresh log r standing None entry chunk node h = (refl, h)
new_fresh log r standing (Some rev) entry chunk node h = absurd (found_not_new log r rev (text_of log.entries rev (unwrap_or standing [])) entry chunk node h)

header_same : (log : Log) (revisions : List Revision) → length log.entries ≡ length revisions → new_header log ≡ next_header revisions (record { inline = log.inline; generaldelta = false })
header_same log [] len = let first : (length log.entries == 0) ≡ true = grind arith in ap (λ b. cond b (Some (record { inline = log.inline; generaldelta = false })) None) first
header_same log (r ∷ revisions) len = let later : (length log.entries == 0) ≡ false = grind arith in ap (λ b. cond b (Some (record { inline = log.inline; generaldelta = false })) None) later

header_separate : (log : Log) (b : Bool) → log.inline ≡ false → IfSome {T = Header} (cond b (Some (record { inline = log.inline; generaldelta = false })) None) (λ h. h.inline ≡ false)
header_separate log true h = h
header_separate log false h = tt

is_zero : (n : ℕ) → (n == 0) ≡ true → n ≡ 0
is_zero n h = grind arith

zero_is : (n : ℕ) → n ≡ 0 → (n == 0) ≡ true
zero_is n h = grind arith

header_first : (log : Log) → IsSome (new_header log) → length log.entries ≡ 0
header_first log h = by (length log.entries == 0) refl h
  where
    by : (b : Bool) → (length log.entries == 0) ≡ b → IsSome {T = Header} (cond b (Some (record { inline = log.inline; generaldelta = false })) None) → length log.entries ≡ 0
    by true t h = is_zero (length log.entries) t
    by false t h = absurd (no h)
      where
        no : IsSome {T = Header} None → ⊥
        no h = cc

first_header : (log : Log) → length log.entries ≡ 0 → IsSome (new_header log)
first_header log h = subst (λ b. IsSome {T = Header} (cond b (Some (record { inline = log.inline; generaldelta = false })) None)) (sym (zero_is (length log.entries) h)) some
  where
    some : IsSome {T = Header} (Some (record { inline = log.inline; generaldelta = false }))
    some = refl

-- what is written of it, and its node
pub new-named : (log : Log) (r : Revision) (standing : Option (List ℕ)) (entry chunk : List ℕ) (node : Node) → added log r standing ≡ Ok (New entry chunk node) → (chunk ≡ chunk_of r.text) × (node ≡ (next_entry log.entries r).node)
new-named log r standing entry chunk node new =
    let parts = new_is log r entry chunk node (new_fresh log r standing (place_of log.entries (next_entry log.entries r).node.0) entry chunk node new).1 in
    (parts.chunk_is, parts.node_is)

module _ (log : Log) (r : Revision) (standing : Option (List ℕ)) (entry chunk : List ℕ) (node : Node)
    (p1 : IfSome r.parents.0 (λ a. a < length log.entries)) (p2 : IfSome r.parents.1 (λ a. a < length log.entries)) (link : r.link < 2 ^ 31)
    (not_null : same null_node node.0 ≡ false) (new : added log r standing ≡ Ok (New entry chunk node)) where
  fresh : place_of log.entries (next_entry log.entries r).node.0 ≡ None
  fresh = (new_fresh log r standing (place_of log.entries (next_entry log.entries r).node.0) entry chunk node new).0

  parts : IsNew log r entry chunk node
  parts = new_is log r entry chunk node (new_fresh log r standing (place_of log.entries (next_entry log.entries r).node.0) entry chunk node new).1

  new_faultless : IsFaultless log.entries (next_entry log.entries r)
  new_faultless = record {
    offset = refl;
    first = not_above (length log.entries) r.parents.0 p1;
    second = not_above (length log.entries) r.parents.1 p2;
    named = ap (λ n. same null_node n.0) (sym parts.node_is) ∙ not_null;
    fresh = fresh;
    text = parts.text;
    data_end = parts.data_end;
  }

  new_whole : IsWhole log.entries (next_entry log.entries r) (chunk_of r.text) r.text
  new_whole = record { flags = refl; base = length-nodes_of log.entries; stored = refl; spells = chunk_text-chunk_of r.text; size = refl; node = refl }

  new_fits : Fits (next_entry log.entries r) (new_header log)
  new_fits =
      let few = parts.few in
      let text = parts.text in
      let fits = parts.data_end in
      let chunk = length-chunk_of r.text in
      next_fits log (next_entry log.entries r) refl (omega arith) refl (omega arith) (omega arith) (let n = length-nodes_of log.entries in omega (arith, n)) link p1 p2 (omega arith) (length-node_hash (parent_node (nodes_of log.entries) r.parents.0) (parent_node (nodes_of log.entries) r.parents.1) r.text)

  -- behind an inline index that holds the revisions of the log, the entry and the chunk hold them and the new one last
  pub new-inline-held : log.inline ≡ true → (index data_bytes : List ℕ) (revisions : List Revision) → Holds true index data_bytes revisions → Agrees (index_apart index) (chunks_apart index) log.entries revisions → Holds true (index ++ (entry ++ chunk)) data_bytes (revisions ++ r ∷ [])
  new-inline-held inline index data_bytes revisions held h =
      let e = next_entry log.entries r in
      let header = header_same log revisions (length-agrees (index_apart index) (chunks_apart index) log.entries revisions h) in
      subst (λ b. Holds true (index ++ (b ++ chunk)) data_bytes (revisions ++ r ∷ [])) (ap (entry_bytes e) (sym header) ∙ sym parts.entry_is)
      (subst (λ c. Holds true (index ++ (entry_bytes e (next_header revisions (record { inline = log.inline; generaldelta = false })) ++ c)) data_bytes (revisions ++ r ∷ [])) (sym parts.chunk_is)
      (holds_on index data_bytes log.entries revisions e (chunk_of r.text) r.text (record { inline = log.inline; generaldelta = false }) held h new_faultless new_whole (fits_none e (new_header log) new_fits) inline))

module _ (log : Log) (r : Revision) (standing : Option (List ℕ)) (entry chunk : List ℕ) (node : Node)
    (separate : log.inline ≡ false) (p1 : IfSome r.parents.0 (λ a. a < length log.entries)) (p2 : IfSome r.parents.1 (λ a. a < length log.entries)) (link : r.link < 2 ^ 31)
    (not_null : same null_node node.0 ≡ false) (new : added log r standing ≡ Ok (New entry chunk node)) where
  is_new : IsNew log r entry chunk node
  is_new = parts log r standing entry chunk node p1 p2 link not_null new

  faultless : IsFaultless log.entries (next_entry log.entries r)
  faultless = new_faultless log r standing entry chunk node p1 p2 link not_null new

  whole : IsWhole log.entries (next_entry log.entries r) (chunk_of r.text) r.text
  whole = new_whole log r standing entry chunk node p1 p2 link not_null new

  fits : Fits (next_entry log.entries r) (new_header log)
  fits = new_fits log r standing entry chunk node p1 p2 link not_null new

  -- the entry that is written is read as this one
  pub new-entry : entry_behind log.entries entry ≡ Ok (next_entry log.entries r)
  new-entry =
      ap (entry_behind log.entries) is_new.entry_is
      ∙ (taken_again log.entries (next_entry log.entries r) (new_header log) is_new.few faultless fits (header_separate log (length log.entries == 0) separate) (header_first log) (first_header log))

  pub new-may-be-pushed : IsOk (entry_behind log.entries entry)
  new-may-be-pushed = subst IsOk (sym new-entry) ok
    where
      ok : IsOk {T = Entry} {E = RevFault} (Ok (next_entry log.entries r))
      ok = refl

  -- so it is taken as the next one
  pub new-taken : pushed log entry ≡ Ok (with_entry log (next_entry log.entries r))
  new-taken = ap (λ x. after x (λ e. Ok (with_entry log e))) new-entry

  -- behind bytes that hold the revisions of the log, what is written holds them and the new one last
  pub new-held : (index data_bytes : List ℕ) (revisions : List Revision) → Agrees index data_bytes log.entries revisions → Agrees (index ++ entry) (data_bytes ++ chunk) (with_entry log (next_entry log.entries r)).entries (revisions ++ r ∷ [])
  new-held index data_bytes revisions h =
      let e = next_entry log.entries r in
      let header = header_same log revisions (length-agrees index data_bytes log.entries revisions h) in
      subst (λ b. Agrees (index ++ b) (data_bytes ++ chunk) (log.entries ++ e ∷ []) (revisions ++ r ∷ [])) (ap (entry_bytes e) (sym header) ∙ sym is_new.entry_is)
      (subst (λ c. Agrees (index ++ entry_bytes e (next_header revisions (record { inline = log.inline; generaldelta = false }))) (data_bytes ++ c) (log.entries ++ e ∷ []) (revisions ++ r ∷ [])) (sym is_new.chunk_is)
      (agrees_on index data_bytes log.entries revisions e (chunk_of r.text) r.text (record { inline = log.inline; generaldelta = false }) h faultless whole (fits_none e (new_header log) fits) separate))
