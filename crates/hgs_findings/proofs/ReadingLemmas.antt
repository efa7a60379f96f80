-- Where a reading has no fault and no byte is left, the files hold its revisions.
use Rattle.std.proofs.Common.{◌≡◌, ℕ, zero, suc, ◌*◌, ◌/◌, ◌%◌, ◌≤◌, List, [], ◌∷◌, ◌++◌, Bool, true, false, cond, ◌&&◌, not, length, take, drop, refl, sym, ◌∙◌, ap, arith, append_assoc, append-nil}
use Rattle.std.specs.Prelude.{Option, Some, None, Result, Ok, Err, ◌==◌, nat_lt}
use Rattle.std.proofs.lemmas.Bool.Decides.{nat_tests}
use Rattle.std.proofs.lemmas.List.{length-take, length-drop, length_push}
use Rattle.hex.specs.Hex.{IsBytes}
use Rattle.hgs_bytes.specs.Bytes.{same}
use Rattle.hgs_index.specs.declared.entry.Entry.{Entry}
use Rattle.hgs_index.specs.Node.{node_hash}
use Rattle.hgs_index.specs.Revision.{parent_node}
use Rattle.hgs_index.specs.Revlog.{HoldsRevisions, chunk_text}
use Rattle.hgs_revlog.specs.declared.fault.RevFault.{RevFault}
use Rattle.hgs_revlog.specs.declared.fault.RevFault.TheVariants as faults
use Rattle.hgs_revlog.specs.declared.fault.Tail.TheVariants.{Refuse}
use Rattle.hgs_revlog.specs.Log.{with_entry, stored_sum, nodes_of}
use Rattle.hgs_revlog.specs.Load.{entry_behind, after, load_from}
use Rattle.hgs_revlog.specs.Text.{text_of, text_at, entry_text, fitting_text, node_with}
use Rattle.hgs_revlog.specs.Held.{chunk_in, with_text, read_from}
use Rattle.hgs_revlog.specs.Theorems.LogLemmas.{sum_push}
use Rattle.hgs_revlog.specs.Theorems.LoadLemmas.{IsFaultless, faultless, taken_entry}
use Rattle.hgs_revlog.specs.Theorems.HeldLemmas.{below}
use Rattle.hgs_revlog.specs.Theorems.ReadLemmas.{sound, parent_among, slice_get_seam, loaded-held}
use Rattle.hgs_findings.specs.Reading.{Reading, on_text, text_behind, on_entry, read_on, reading_of, has_index_rest, has_data_rest}
use Rattle.hgs_findings.proofs.Basics.{never}

-- ---- the text of an entry hangs on the entries before it alone

entry-text-same : (all other : List Entry) (rev : ℕ) (chunk : List ℕ) (e : Entry) → ((text : List ℕ) → node_with all e text ≡ node_with other e text) → entry_text all rev chunk e ≡ entry_text other rev chunk e
entry-text-same all other rev chunk e h = by (chunk_text chunk)
  where
    by : (o : Option (List ℕ)) → cond (not (e.flags == 0)) (Err (faults.Flagged rev)) (cond (not (e.base == rev)) (Err (faults.Delta rev)) (cond (nat_lt (length chunk) e.stored) (Err (faults.Short rev)) (fitting_text all rev e o)))
        ≡ cond (not (e.flags == 0)) (Err (faults.Flagged rev)) (cond (not (e.base == rev)) (Err (faults.Delta rev)) (cond (nat_lt (length chunk) e.stored) (Err (faults.Short rev)) (fitting_text other rev e o)))
    by None = refl
    by (Some text) = ap (λ n. cond (not (e.flags == 0)) (Err (faults.Flagged rev)) (cond (not (e.base == rev)) (Err (faults.Delta rev)) (cond (nat_lt (length chunk) e.stored) (Err (faults.Short rev)) (cond (not (length text == e.size)) (Err (faults.Length rev)) (cond (not (same n e.node.0)) (Err (faults.Hash rev)) (Ok text)))))) (h text)

pub text-seam : (before more : List Entry) (e : Entry) (chunk : List ℕ) → IsFaultless before e → text_of (before ++ e ∷ more) (length before) chunk ≡ text_of (before ++ e ∷ []) (length before) chunk
text-seam before more e chunk f =
    ap (text_at (before ++ e ∷ more) (length before) chunk) (slice_get_seam before e more)
    ∙ entry-text-same (before ++ e ∷ more) (before ++ e ∷ []) (length before) chunk e node
    ∙ sym (ap (text_at (before ++ e ∷ []) (length before) chunk) (slice_get_seam before e []))
  where
    node : (text : List ℕ) → node_with (before ++ e ∷ more) e text ≡ node_with (before ++ e ∷ []) e text
    node text =
        let p = below (length before) e.p1 f.first in
        let q = below (length before) e.p2 f.second in
        ap (λ n. node_hash n (parent_node (nodes_of (before ++ e ∷ more)) e.p2) text) (parent_among before (e ∷ more) e.p1 p ∙ sym (parent_among before (e ∷ []) e.p1 p))
        ∙ ap (λ n. node_hash (parent_node (nodes_of (before ++ e ∷ [])) e.p1) n text) (parent_among before (e ∷ more) e.p2 q ∙ sym (parent_among before (e ∷ []) e.p2 q))

-- the chunk of an entry whose text reads lies within the data
chunk-within : (before : List Entry) (e : Entry) (data_bytes text : List ℕ) → IsFaultless before e → text_behind before e data_bytes ≡ Ok text → stored_sum before ≤ length data_bytes → stored_sum (before ++ e ∷ []) ≤ length data_bytes
chunk-within before e data_bytes text f t le =
    let s = sound (before ++ e ∷ []) (length before) e (chunk_in data_bytes e) text (sym (ap (text_at (before ++ e ∷ []) (length before) (chunk_in data_bytes e)) (slice_get_seam before e [])) ∙ t) in
    omega (arith, s.stored, f.offset, le, length-take e.stored (drop e.offset data_bytes), length-drop e.offset data_bytes, sum_push before e)

-- ---- a reading without fault loads

record Loads (n : ℕ) (before : List Entry) (index data_bytes : List ℕ) (reading : Reading) : Type 0 where
  entries : List Entry
  loads : load_from Refuse n (record { inline = false; entries = before }) index ≡ Ok (record { inline = false; entries = before ++ entries })
  reads : read_from (before ++ entries) data_bytes (length before) entries ≡ Ok reading.revisions
  stored : reading.stored ≡ stored_sum (before ++ entries)
  within : reading.stored ≤ length data_bytes

read-loads : (n : ℕ) (before : List Entry) (index data_bytes : List ℕ) → length index ≡ 64 * n → stored_sum before ≤ length data_bytes → (read_on n before index data_bytes).broken ≡ false → Loads n before index data_bytes (read_on n before index data_bytes)
read-loads zero before index data_bytes len le whole = record {
  entries = [];
  loads = ap (λ b. cond b (Ok (record { inline = false; entries = before })) (Err (faults.Tail (length before)))) (let z : (length index == 0) ≡ true = grind (arith, nat_tests) in z) ∙ ap (λ l. Ok (record { inline = false; entries = l })) (sym (append-nil before));
  reads = refl;
  stored = ap stored_sum (sym (append-nil before));
  within = le;
}
read-loads (suc n) before index data_bytes len le whole = by (entry_behind before (take 64 index)) refl (λ e. read-loads n (before ++ e ∷ []) (drop 64 index) data_bytes (let d = length-drop 64 index in omega (arith, d, len))) whole
  where
    by : (o : Result Entry RevFault) → entry_behind before (take 64 index) ≡ o
        → ((e : Entry) → stored_sum (before ++ e ∷ []) ≤ length data_bytes → (read_on n (before ++ e ∷ []) (drop 64 index) data_bytes).broken ≡ false → Loads n (before ++ e ∷ []) (drop 64 index) data_bytes (read_on n (before ++ e ∷ []) (drop 64 index) data_bytes))
        → (on_entry before data_bytes o (λ e. read_on n (before ++ e ∷ []) (drop 64 index) data_bytes)).broken ≡ false
        → Loads (suc n) before index data_bytes (on_entry before data_bytes o (λ e. read_on n (before ++ e ∷ []) (drop 64 index) data_bytes))
    by (Err fault) taken rec w = never w
    by (Ok e) taken rec w = with_its_text (text_behind before e data_bytes) refl w
      where
        f : IsFaultless before e
        f = faultless before e (taken_entry before (take 64 index) e taken).1

        with_its_text : (t : Result (List ℕ) RevFault) → text_behind before e data_bytes ≡ t → (on_text before e t (read_on n (before ++ e ∷ []) (drop 64 index) data_bytes)).broken ≡ false
            → Loads (suc n) before index data_bytes (on_text before e t (read_on n (before ++ e ∷ []) (drop 64 index) data_bytes))
        with_its_text (Err fault) is w = never w
        with_its_text (Ok text) is w =
            let r = rec e (chunk-within before e data_bytes text f is le) w in
            let all : (before ++ e ∷ []) ++ r.entries ≡ before ++ e ∷ r.entries = append_assoc before (e ∷ []) r.entries in
            let here : text_of (before ++ e ∷ r.entries) (length before) (chunk_in data_bytes e) ≡ Ok text = text-seam before r.entries e (chunk_in data_bytes e) f ∙ is in
            let count : length (before ++ e ∷ []) ≡ suc (length before) = (let l = length_push before e in omega (arith, l)) in
            record {
              entries = e ∷ r.entries;
              loads = ap (λ o. after o (λ x. load_from Refuse n (with_entry (record { inline = false; entries = before }) x) (drop 64 index))) taken ∙ r.loads ∙ ap (λ l. Ok (record { inline = false; entries = l })) all;
              reads =
                  ap (λ t. with_text e t (read_from (before ++ e ∷ r.entries) data_bytes (suc (length before)) r.entries)) here
                  ∙ ap (with_text e (Ok text)) (ap (λ k. read_from (before ++ e ∷ r.entries) data_bytes k r.entries) (sym count) ∙ ap (λ l. read_from l data_bytes (length (before ++ e ∷ [])) r.entries) (sym all) ∙ r.reads);
              stored = r.stored ∙ ap stored_sum all;
              within = r.within;
            }

or-rest : (a b : Bool) → a ≡ false → (not a && b) ≡ false → b ≡ false
or-rest true b e h = never e
or-rest false b e h = h

not-not : (a : Bool) → not a ≡ false → a ≡ true
not-not true e = refl
not-not false e = never e

-- the files hold the revisions of a reading in which nothing is found
pub reading-held : (index data_bytes : List ℕ) → IsBytes index → (reading_of index data_bytes).broken ≡ false → has_index_rest index data_bytes ≡ false → has_data_rest index data_bytes ≡ false → HoldsRevisions index data_bytes (reading_of index data_bytes).revisions
reading-held index data_bytes bytes whole a b =
    let even : length index % 64 ≡ 0 = number (length index % 64) (not-not (length index % 64 == 0) (or-rest (reading_of index data_bytes).broken (not (length index % 64 == 0)) whole a)) in
    let r = read-loads (length index / 64) [] index data_bytes (omega (arith, even)) (omega arith) whole in
    let most : length data_bytes ≤ (reading_of index data_bytes).stored = at_most (reading_of index data_bytes).stored (length data_bytes) (or-rest (reading_of index data_bytes).broken (nat_lt (reading_of index data_bytes).stored (length data_bytes)) whole b) in
    (loaded-held index data_bytes (record { inline = false; entries = r.entries }) (reading_of index data_bytes).revisions bytes r.loads r.reads (omega (arith, most, r.within, r.stored))).held
  where
    number : (n : ℕ) → (n == 0) ≡ true → n ≡ 0
    number n e = grind (arith, nat_tests)

    at_most : (x y : ℕ) → nat_lt x y ≡ false → y ≤ x
    at_most x y e = grind (arith, nat_tests)
