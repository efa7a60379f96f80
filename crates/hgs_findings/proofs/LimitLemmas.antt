-- What is read without a fault is within the limits.
use Rattle.std.proofs.Common.{◌≡◌, ℕ, zero, suc, ◌+◌, ◌/◌, ◌<◌, ◌≤◌, List, [], ◌∷◌, ◌++◌, Bool, true, false, length, take, drop, refl, sym, ◌∙◌, ap, subst, arith}
use Rattle.std.specs.Prelude.{None, Result, Ok, Err, ◌&&◌, nat_lt, not}
use Rattle.std.specs.List.{AllByRecursion}
use Rattle.std.proofs.lemmas.Bool.Decides.{nat_tests}
use Rattle.std.proofs.lemmas.List.{length_push}
use Rattle.hgs_files.specs.Tree.{Tree}
use Rattle.hgs_index.specs.declared.entry.Entry.{Entry}
use Rattle.hgs_index.specs.Revision.{Revision}
use Rattle.hgs_revlog.specs.declared.fault.RevFault.{RevFault}
use Rattle.hgs_revlog.specs.Log.{stored_sum}
use Rattle.hgs_revlog.specs.Load.{entry_behind, fault_of, most_revisions, most_text, most_data}
use Rattle.hgs_revlog.specs.Text.{text_at}
use Rattle.hgs_revlog.specs.Held.{AreWithinLimits, chunk_in}
use Rattle.hgs_revlog.specs.Theorems.LogLemmas.{sum_push}
use Rattle.hgs_revlog.specs.Theorems.LoadLemmas.{IsFaultless, faultless, taken_entry}
use Rattle.hgs_revlog.specs.Theorems.ReadLemmas.{sound, slice_get_seam}
use Rattle.hgs_findings.specs.Reading.{Log, the_changelog, the_manifest, the_filelog, index_in, data_in, reading, sight_of, text_behind, on_text, on_entry, read_on, reading_of, has_data_rest}
use Rattle.hgs_findings.specs.Findings.{fault, data_rest, is_looked_at, repo_of, AreWithin}
use Rattle.hgs_findings.proofs.Basics.{never}
use Rattle.hgs_findings.proofs.PartLemmas.{must-fail, FindsNothing, logs, regular, uses-are}
use Rattle.hgs_findings.proofs.RegularLemmas.{changelog-whole, manifest-whole, filelog-whole}

record IsWithin (before : List Entry) (revisions : List Revision) (stored : ℕ) : Type 0 where
  few : length before + length revisions ≤ most_revisions
  texts : AllByRecursion (λ (r : Revision). length r.text ≤ most_text) revisions
  data_end : stored ≤ most_data

read-within : (n : ℕ) (before : List Entry) (index data_bytes : List ℕ) → (read_on n before index data_bytes).broken ≡ false → length before ≤ most_revisions → stored_sum before ≤ most_data
    → IsWithin before (read_on n before index data_bytes).revisions (read_on n before index data_bytes).stored
read-within zero before index data_bytes whole few le = record { few = omega (arith, few); texts = tt; data_end = le }
read-within (suc n) before index data_bytes whole few le = by (entry_behind before (take 64 index)) refl (λ e. read-within n (before ++ e ∷ []) (drop 64 index) data_bytes) whole
  where
    by : (o : Result Entry RevFault) → entry_behind before (take 64 index) ≡ o
        → ((e : Entry) → (read_on n (before ++ e ∷ []) (drop 64 index) data_bytes).broken ≡ false → length (before ++ e ∷ []) ≤ most_revisions → stored_sum (before ++ e ∷ []) ≤ most_data
        → IsWithin (before ++ e ∷ []) (read_on n (before ++ e ∷ []) (drop 64 index) data_bytes).revisions (read_on n (before ++ e ∷ []) (drop 64 index) data_bytes).stored)
        → (on_entry before data_bytes o (λ e. read_on n (before ++ e ∷ []) (drop 64 index) data_bytes)).broken ≡ false
        → IsWithin before (on_entry before data_bytes o (λ e. read_on n (before ++ e ∷ []) (drop 64 index) data_bytes)).revisions (on_entry before data_bytes o (λ e. read_on n (before ++ e ∷ []) (drop 64 index) data_bytes)).stored
    by (Err f) taken rec w = never w
    by (Ok e) taken rec w = with_its_text (text_behind before e data_bytes) refl w
      where
        t : (length before < most_revisions) × (fault_of before e ≡ None)
        t = taken_entry before (take 64 index) e taken

        f : IsFaultless before e
        f = faultless before e t.1

        with_its_text : (x : Result (List ℕ) RevFault) → text_behind before e data_bytes ≡ x → (on_text before e x (read_on n (before ++ e ∷ []) (drop 64 index) data_bytes)).broken ≡ false
            → IsWithin before (on_text before e x (read_on n (before ++ e ∷ []) (drop 64 index) data_bytes)).revisions (on_text before e x (read_on n (before ++ e ∷ []) (drop 64 index) data_bytes)).stored
        with_its_text (Err f) is w = never w
        with_its_text (Ok text) is w =
            let s = sound (before ++ e ∷ []) (length before) e (chunk_in data_bytes e) text (sym (ap (text_at (before ++ e ∷ []) (length before) (chunk_in data_bytes e)) (slice_get_seam before e [])) ∙ is) in
            let r = rec e w (let l = length_push before e in omega (arith, l, t.0)) (let l = sum_push before e in omega (arith, l, f.offset, f.data_end)) in
            record { few = (let l = length_push before e in omega (arith, l, r.few)); texts = (omega (arith, s.size, f.text), r.texts); data_end = r.data_end }

reading-within : (index data_bytes : List ℕ) → (reading_of index data_bytes).broken ≡ false → has_data_rest index data_bytes ≡ false → AreWithinLimits (reading_of index data_bytes).revisions data_bytes
reading-within index data_bytes whole no_rest =
    let r = read-within (length index / 64) [] index data_bytes whole (omega arith) (omega arith) in
    record { few = (let l = r.few in omega (arith, l)); texts = r.texts; data_end = (let l = r.data_end in let m = at_most (reading_of index data_bytes).stored (length data_bytes) (or-rest (reading_of index data_bytes).broken (nat_lt (reading_of index data_bytes).stored (length data_bytes)) whole no_rest) in omega (arith, l, m)) }
  where
    or-rest : (a b : Bool) → a ≡ false → (not a && b) ≡ false → b ≡ false
    or-rest true b e h = never e
    or-rest false b e h = h

    at_most : (x y : ℕ) → nat_lt x y ≡ false → y ≤ x
    at_most x y e = grind (arith, nat_tests)

module _ (t : Tree) (n : FindsNothing t) where
  log-within : (log : Log) → is_looked_at (sight_of t) log ≡ true → AreWithinLimits (reading t log).revisions (data_in t log)
  log-within log looked =
      reading-within (index_in t log) (data_in t log) (must-fail (reading t log).broken (λ e. n.none _ _ _ (fault log looked e)))
      (must-fail (has_data_rest (index_in t log) (data_in t log)) (λ e. n.none _ _ _ (data_rest log looked e)))

  pub made-within : AreWithin t (repo_of t)
  made-within = record {
    changelog = subst (λ l. AreWithinLimits l (data_in t the_changelog)) (sym (changelog-whole (sight_of t) (logs t n) (regular t n))) (log-within the_changelog refl);
    manifest = subst (λ l. AreWithinLimits l (data_in t the_manifest)) (sym (manifest-whole (sight_of t) (logs t n) (regular t n))) (log-within the_manifest refl);
    filelogs = λ path u. (let used = sym (uses-are (sight_of t) path) ∙ u in subst (λ l. AreWithinLimits l (data_in t (the_filelog path))) (sym (filelog-whole (sight_of t) (logs t n) (regular t n) path used)) (log-within (the_filelog path) used));
  }
