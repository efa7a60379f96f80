-- What is loaded of an index behind entries that were loaded before.
use Rattle.std.proofs.Common.{◌≡◌, ℕ, zero, suc, ◌+◌, ◌*◌, ◌/◌, ◌≤◌, Bool, true, false, cond, List, [], ◌∷◌, ◌++◌, length, take, drop, Option, Some, None, Result, Ok, Err, refl, sym, ◌∙◌, ap, subst, arith, append-nil, append_assoc, length-append}
use Rattle.std.specs.Prelude.{nat_le, slice_get}
use Rattle.std.proofs.Math.Seq.{take-append_seam, drop-append_seam, drop-nil}
use Rattle.std.proofs.lemmas.List.{length-drop}
use Rattle.hgs_bytes.specs.Bytes.{IsPrefixOf}
use Rattle.hgs_index.specs.declared.entry.Entry as index_entry
use Rattle.hgs_index.specs.declared.entry.EntryFault.{EntryFault}
use Rattle.hgs_index.specs.declared.kinds.Which.TheVariants.{Changesets}
use Rattle.hgs_revlog.specs.declared.fault.RevFault.{RevFault}
use Rattle.hgs_revlog.specs.declared.fault.RevFault.TheVariants.{Limit}
use Rattle.hgs_revlog.specs.declared.fault.Tail.TheVariants.{Ignore}
use Rattle.hgs_revlog.specs.Load.{most_revisions, fault_of, unless, checked, separate_at, entry_behind, after, load_from, loaded}
use Rattle.hgs_revlog.specs.Log.{Log, with_entry}
use Rattle.hgs_revlog.specs.Theorems.LoadLemmas.{taken_entry}
use Rattle.hgs_revlog.specs.Theorems.ReadLemmas.{slice_get_seam}

after-ok : (r : Result index_entry.Entry RevFault) (f : index_entry.Entry → Result Log RevFault) (log : Log) → after r f ≡ Ok log → (e : index_entry.Entry) × (r ≡ Ok e) × (f e ≡ Ok log)
after-ok (Err fault) f log h = cc
after-ok (Ok e) f log h = (e, refl, h)

log-is : (log end : Log) → (let a : Result Log RevFault = Ok log in a) ≡ Ok end → log ≡ end
log-is log end h = cc

-- the bytes that 64 bytes are an entry of, behind others, are that entry by themselves
entry-alone : (before : List index_entry.Entry) (cell : List ℕ) (e : index_entry.Entry) → entry_behind before cell ≡ Ok e → separate_at cell (length before) ≡ Ok e
entry-alone before cell e h = by (nat_le most_revisions (length before)) h
  where
    same : (x : index_entry.Entry) (o : Option RevFault) → unless o x ≡ Ok e → (let a : Result index_entry.Entry EntryFault = Ok x in a) ≡ Ok e
    same x None h = cc
    same x (Some f) h = cc

    whole : (r : Result index_entry.Entry EntryFault) → checked before r ≡ Ok e → r ≡ Ok e
    whole (Err f) h = cc
    whole (Ok x) h = same x (fault_of before x) h

    by : (b : Bool) → cond b (Err (Limit Changesets)) (checked before (separate_at cell (length before))) ≡ Ok e → separate_at cell (length before) ≡ Ok e
    by true h = cc
    by false h = whole (separate_at cell (length before)) h

drop-drop : (n m : ℕ) (xs : List ℕ) → drop m (drop n xs) ≡ drop (n + m) xs
drop-drop zero m xs = ap (λ k. drop k xs) (omega arith)
drop-drop (suc n) m [] = drop-nil m ∙ sym (drop-nil (suc n + m))
drop-drop (suc n) m (x ∷ xs) = drop-drop n m xs ∙ ap (λ k. drop k (x ∷ xs)) (let e : suc (n + m) ≡ suc n + m = omega arith in e)

-- The first n entries were loaded, and the others behind them.
pub record Passes (n m : ℕ) (log end : Log) (bytes : List ℕ) : Type 0 where
  pub mid : Log
  pub form : mid.inline ≡ log.inline
  pub count : length mid.entries ≡ length log.entries + n
  pub begins : IsPrefixOf log.entries mid.entries
  pub goes_on : load_from Ignore m mid (drop (64 * n) bytes) ≡ Ok end

pub load-passes : (n m : ℕ) (log end : Log) (bytes : List ℕ) → load_from Ignore (n + m) log bytes ≡ Ok end → Passes n m log end bytes
load-passes zero m log end bytes h = record { mid = log; form = refl; count = omega arith; begins = ([], sym (append-nil log.entries)); goes_on = ap (λ k. load_from Ignore k log bytes) (let e : m ≡ 0 + m = omega arith in e) ∙ h }
load-passes (suc n) m log end bytes h =
    let one : suc (n + m) ≡ suc n + m = omega arith in
    let s = after-ok (entry_behind log.entries (take 64 bytes)) (λ e. load_from Ignore (n + m) (with_entry log e) (drop 64 bytes)) end (ap (λ k. load_from Ignore k log bytes) one ∙ h) in
    let r = load-passes n m (with_entry log s.0) end (drop 64 bytes) s.2 in
    let more = length-append log.entries (s.0 ∷ []) in
    let count = r.count in
    let place : 64 + 64 * n ≡ 64 * suc n = omega arith in
    record {
      mid = r.mid;
      form = r.form;
      count = omega (arith, count, more);
      begins = (s.0 ∷ r.begins.0, r.begins.1 ∙ append_assoc log.entries (s.0 ∷ []) r.begins.0);
      goes_on = ap (load_from Ignore m r.mid) (sym (drop-drop 64 (64 * n) bytes ∙ ap (λ k. drop k bytes) place)) ∙ r.goes_on;
    }

-- what was loaded behind a log has as many entries more, and those of the log in front
pub record Grown (n : ℕ) (log end : Log) : Type 0 where
  pub form : end.inline ≡ log.inline
  pub count : length end.entries ≡ length log.entries + n
  pub begins : IsPrefixOf log.entries end.entries

pub load-grows : (n : ℕ) (log end : Log) (bytes : List ℕ) → load_from Ignore n log bytes ≡ Ok end → Grown n log end
load-grows n log end bytes h =
    let all : n + 0 ≡ n = omega arith in
    let p = load-passes n 0 log end bytes (ap (λ k. load_from Ignore k log bytes) all ∙ h) in
    let P : Log → Type 0 = λ l. Grown n log l in
    subst P (log-is p.mid end p.goes_on) (record { form = p.form; count = p.count; begins = p.begins })

pub load-few : (n : ℕ) (log end : Log) (bytes : List ℕ) → length log.entries ≤ most_revisions → load_from Ignore n log bytes ≡ Ok end → length end.entries ≤ most_revisions
load-few zero log end bytes few h = let same = ap (λ (l : Log). length l.entries) (log-is log end h) in omega (arith, few, same)
load-few (suc n) log end bytes few h =
    let s = after-ok (entry_behind log.entries (take 64 bytes)) (λ e. load_from Ignore n (with_entry log e) (drop 64 bytes)) end h in
    let room = (taken_entry log.entries (take 64 bytes) s.0 s.1).0 in
    let more = length-append log.entries (s.0 ∷ []) in
    load-few n (with_entry log s.0) end (drop 64 bytes) (omega (arith, room, more)) s.2

-- an index that loads has an entry for each 64 bytes, and no more than a revlog may have
pub loaded-count : (index : List ℕ) (log : Log) → loaded Ignore index ≡ Ok log → (length log.entries ≡ length index / 64) × (length log.entries ≤ most_revisions) × (log.inline ≡ false)
loaded-count index log h =
    let none : Log = record { inline = false; entries = [] } in
    let g = load-grows (length index / 64) none log index h in
    ((let c = g.count in omega (arith, c)), load-few (length index / 64) none log index (omega arith) h, g.form)

-- ---- the tail of an index

-- two fronts of one list that are as long are one
same-front : {A : Type 0} (a b list : List A) → IsPrefixOf a list → IsPrefixOf b list → length a ≡ length b → a ≡ b
same-front a b list p q same = sym (take-append_seam a p.0) ∙ ap (take (length a)) (sym p.1 ∙ q.1) ∙ ap (λ n. take n (b ++ q.0)) same ∙ take-append_seam b q.0

-- From the place of the last of the old entries on, an index has this entry first, and what it loads as is loaded behind
-- the old entries of what follows.
pub record GoesOnFrom (k : ℕ) (old found : Log) (tail : List ℕ) : Type 0 where
  pub whole : 64 ≤ length tail
  pub entry : index_entry.Entry
  pub last : slice_get old.entries k ≡ Some entry
  pub read : separate_at (take 64 tail) k ≡ Ok entry
  pub loads : load_from Ignore (length (drop 64 tail) / 64) old (drop 64 tail) ≡ Ok found

pub tail-goes-on : (k : ℕ) (front tail : List ℕ) (old found : Log) → length front ≡ 64 * k → length old.entries ≡ suc k → old.inline ≡ false → loaded Ignore (front ++ tail) ≡ Ok found → IsPrefixOf old.entries found.entries → GoesOnFrom k old found tail
tail-goes-on k front tail old found size count separate h begins =
    let none : Log = record { inline = false; entries = [] } in
    let all = loaded-count (front ++ tail) found h in
    let both = length-append front tail in
    let longer = ap length begins.1 ∙ length-append old.entries begins.0 in
    let whole : 64 ≤ length tail = (let n = all.0 in omega (arith, n, both, longer, size, count)) in
    let behind : length (front ++ tail) / 64 ≡ k + suc (length (drop 64 tail) / 64) = (let d = length-drop 64 tail in omega (arith, both, size, d, whole)) in
    let p = load-passes k (suc (length (drop 64 tail) / 64)) none found (front ++ tail) (ap (λ n. load_from Ignore n none (front ++ tail)) (sym behind) ∙ h) in
    let seam : drop (64 * k) (front ++ tail) ≡ tail = ap (λ n. drop n (front ++ tail)) (sym size) ∙ drop-append_seam front tail in
    let at : load_from Ignore (suc (length (drop 64 tail) / 64)) p.mid tail ≡ Ok found = ap (load_from Ignore (suc (length (drop 64 tail) / 64)) p.mid) (sym seam) ∙ p.goes_on in
    let s = after-ok (entry_behind p.mid.entries (take 64 tail)) (λ e. load_from Ignore (length (drop 64 tail) / 64) (with_entry p.mid e) (drop 64 tail)) found at in
    let more = length-append p.mid.entries (s.0 ∷ []) in
    let grown = load-grows (length (drop 64 tail) / 64) (with_entry p.mid s.0) found (drop 64 tail) s.2 in
    let place : length p.mid.entries ≡ k = (let c = p.count in omega (arith, c)) in
    let entries : p.mid.entries ++ s.0 ∷ [] ≡ old.entries = same-front (p.mid.entries ++ s.0 ∷ []) old.entries found.entries grown.begins begins (omega (arith, more, place, count)) in
    let same : with_entry p.mid s.0 ≡ old =
    ap (λ l. let x : Log = record { inline = p.mid.inline; entries = l } in x) entries
    ∙ ap (λ b. let x : Log = record { inline = b; entries = old.entries } in x) (p.form ∙ sym separate) in
    record {
      whole = whole;
      entry = s.0;
      last = ap (λ l. slice_get l k) (sym entries) ∙ ap (slice_get (p.mid.entries ++ s.0 ∷ [])) (sym place) ∙ slice_get_seam p.mid.entries s.0 [];
      read = ap (separate_at (take 64 tail)) (sym place) ∙ entry-alone p.mid.entries (take 64 tail) s.0 s.1;
      loads = ap (λ l. load_from Ignore (length (drop 64 tail) / 64) l (drop 64 tail)) (sym same) ∙ s.2;
    }
