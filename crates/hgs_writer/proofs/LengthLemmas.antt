-- An index that was loaded is as long as its entries.
use Rattle.std.proofs.Common.{◌≡◌, ℕ, zero, suc, ◌+◌, ◌*◌, ◌/◌, ◌-◌, ◌≤◌, ◌==◌, List, [], ◌∷◌, ◌++◌, length, length-drop, take, drop, cond, Result, Ok, Err, refl, sym, ◌∙◌, ap, subst, arith}
use Rattle.std.specs.Prelude.{Bool, true, false, if◌then◌else◌}
use Rattle.std.proofs.lemmas.List.{length-take}
use Rattle.std.proofs.lemmas.Bool.Decides.{nat_tests}
use Rattle.hgs_files.specs.Tree.{Tree, bytes_at}
use Rattle.hgs_index.specs.declared.entry.Entry.{Entry}
use Rattle.hgs_index.specs.Inline.{entries_in, is_inline, without_inline}
use Rattle.hgs_loading.specs.Found.{and_then}
use Rattle.hgs_loading.specs.Logs.{either_data_in, either_index_in, either_log_in, has_more, index_in, most_index, whole_log_in}
use Rattle.hgs_loading.specs.Small.{small_in}
use Rattle.hgs_loading.specs.Store.{Loaded, loaded_in, loaded_with, logs_in}
use Rattle.hgs_load.specs.declared.answer.ReadAnswer.{ReadAnswer}
use Rattle.hgs_reader.specs.Contents.{manifest_data, manifest_index}
use Rattle.hgs_load.specs.Marks.{working_answer}
use Rattle.hgs_load.specs.View.{changelog_data, changelog_index, log_answer}
use Rattle.hgs_phases.specs.Phases.{phases_by}
use Rattle.hgs_revlog.specs.declared.fault.RevFault.{RevFault}
use Rattle.hgs_revlog.specs.declared.fault.RevFault.TheVariants as faults
use Rattle.hgs_revlog.specs.declared.fault.Tail.TheVariants.{Refuse}
use Rattle.hgs_revlog.specs.Load.{after, entry_behind, load_from, loaded, loaded_either, most_revisions}
use Rattle.hgs_revlog.specs.Log.{Log, with_entry}
use Rattle.hgs_steps.specs.Theorems.SeparateLemmas.{IsLoadedApart, apart-loaded}

one_longer : (entries : List Entry) (e : Entry) → length (entries ++ e ∷ []) ≡ length entries + 1
one_longer [] e = refl
one_longer (x ∷ entries) e = let r = one_longer entries e in omega (arith, r)

log_is : (log end : Log) → (let a : Result Log RevFault = Ok log in a) ≡ Ok end → log ≡ end
log_is log end h = cc

-- an end that is not refused has no bytes
ended : (log end : Log) (bytes : List ℕ) (b : Bool) → length bytes == 0 ≡ b → (if b then Ok log else Err (faults.Tail (length log.entries))) ≡ Ok end → (length bytes ≡ 0) × (log ≡ end)
ended log end bytes true t h = (grind (arith, nat_tests, t), log_is log end h)
ended log end bytes false t h = cc

refused : (n : ℕ) (log end : Log) (bytes : List ℕ) → length bytes / 64 ≡ n → load_from Refuse n log bytes ≡ Ok end → length bytes + 64 * length log.entries ≡ 64 * length end.entries
refused zero log end bytes n h =
    let e = ended log end bytes (length bytes == 0) refl h in
    let none = e.0 in
    let same_log = ap (λ (l : Log). length l.entries) e.1 in
    omega (arith, none, same_log)
refused (suc n) log end bytes count h =
    let rest : length (drop 64 bytes) ≡ length bytes - 64 = length-drop 64 bytes in
    let below : length (drop 64 bytes) / 64 ≡ n = omega (arith, rest, count) in
    by (λ e k. refused n (with_entry log e) end (drop 64 bytes) below k) (entry_behind log.entries (take 64 bytes)) h
  where
    by : ((e : Entry) → load_from Refuse n (with_entry log e) (drop 64 bytes) ≡ Ok end → length (drop 64 bytes) + 64 * length (with_entry log e).entries ≡ 64 * length end.entries)
        → (r : Result Entry RevFault) → after r (λ e. load_from Refuse n (with_entry log e) (drop 64 bytes)) ≡ Ok end → length bytes + 64 * length log.entries ≡ 64 * length end.entries
    by next (Ok e) k =
        let more = next e k in
        let rest : length (drop 64 bytes) ≡ length bytes - 64 = length-drop 64 bytes in
        let longer = one_longer log.entries e in
        omega (arith, rest, more, longer, count)
    by next (Err f) k = cc

pub both : {A B : Type 0} (r : Result A ReadAnswer) (more : A → Result B ReadAnswer) (b : B) → and_then r more ≡ Ok b → (a : A) × (r ≡ Ok a) × (more a ≡ Ok b)
both (Ok a) more b h = (a, refl, h)
both (Err e) more b h = cc

answered : (index : List ℕ) (r : Result Log RevFault) (log : Log) → log_answer index r ≡ Ok log → r ≡ Ok log
answered index (Ok l) log h = cc
answered index (Err f) log h = cc

pub ok_is : {A : Type 0} (x y : A) → (let a : Result A ReadAnswer = Ok x in a ≡ Ok y) → x ≡ y
ok_is x y e = cc

-- the index of a separate log that was loaded from it
counted : (index : List ℕ) (t : Tree) (log : Log) → log.inline ≡ false → length log.entries ≤ most_revisions → either_log_in index t ≡ Ok log → length (bytes_at t index) ≡ 64 * length log.entries
counted index t log separate few h = by (has_more (index_in index t)) refl
  where
    parts : IsLoadedApart Refuse (either_index_in index t) log
    parts = apart-loaded Refuse (either_index_in index t) log (answered index (loaded_either Refuse (either_index_in index t)) log h)

    plain : is_inline (either_index_in index t) ≡ false
    plain = sym parts.form ∙ separate

    loads : loaded Refuse (either_index_in index t) ≡ Ok parts.apart
    loads = subst (λ b. loaded Refuse (cond b (without_inline (entries_in (length (either_index_in index t)) (either_index_in index t))) (either_index_in index t)) ≡ Ok parts.apart) plain parts.loads

    long : length (either_index_in index t) ≡ 64 * length log.entries
    long =
        let l = refused (length (either_index_in index t) / 64) (record { inline = false; entries = [] }) parts.apart (either_index_in index t) refl loads in
        let same = ap (λ (es : List Entry). length es) parts.entries in
        omega (arith, l, same)

    by : (b : Bool) → has_more (index_in index t) ≡ b → length (bytes_at t index) ≡ 64 * length log.entries
    by true more = sym (ap (λ b. length (cond b (bytes_at t index) (index_in index t))) more) ∙ long
    by false more =
        let read : length (index_in index t) ≡ 64 * length log.entries = sym (ap (λ b. length (cond b (bytes_at t index) (index_in index t))) more) ∙ long in
        omega (arith, read, length-take most_index (bytes_at t index), few)

pub whole : (index chunks : List ℕ) (t : Tree) (log : Log) → whole_log_in index chunks t ≡ Ok log → either_log_in index t ≡ Ok log
whole index chunks t log h =
    let a = both (either_log_in index t) (λ l. and_then (either_data_in index chunks l t) (λ x. Ok l)) log h in
    let b = both (either_data_in index chunks a.0 t) (λ x. Ok a.0) log a.2 in
    a.1 ∙ b.2

pub changelog_counted : (t : Tree) (l : Loaded) → l.changelog.inline ≡ false → length l.changelog.entries ≤ most_revisions → loaded_in t ≡ Ok l → length (bytes_at t changelog_index) ≡ 64 * length l.changelog.entries
changelog_counted t l separate few h =
    let a = both (small_in t) (λ files. and_then (logs_in t) (λ logs. loaded_with files logs.0 logs.1)) l h in
    let b = both (logs_in t) (λ logs. loaded_with a.0 logs.0 logs.1) l a.2 in
    let c = both (whole_log_in changelog_index changelog_data t) (λ changelog. and_then (whole_log_in manifest_index manifest_data t) (λ manifest. Ok (changelog, manifest))) b.0 b.1 in
    let d = both (whole_log_in manifest_index manifest_data t) (λ manifest. Ok (c.0, manifest)) b.0 c.2 in
    let same_log : c.0 ≡ b.0.0 = ap (λ (x : Log × Log). x.0) (ok_is (c.0, d.0) b.0 d.2) in
    let e = both (working_answer b.0.0.entries (a.0.dirstate.1.p1, a.0.dirstate.1.p2)) (λ working. Ok (record { files = a.0; changelog = b.0.0; manifest = b.0.1; working = working; phases = phases_by a.0.roots.1 b.0.0.entries })) l b.2 in
    let last : b.0.0 ≡ l.changelog = ap (λ (x : Loaded). x.changelog) (ok_is _ l e.2) in
    counted changelog_index t l.changelog separate few (whole changelog_index changelog_data t c.0 c.1 ∙ ap (λ q. Ok q) (same_log ∙ last))
