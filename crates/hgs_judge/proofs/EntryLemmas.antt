-- The entries that an index begins with.
use Rattle.std.proofs.Common.{◌≡◌, ℕ, zero, suc, ◌+◌, ◌*◌, ◌/◌, ◌<◌, ◌≤◌, List, [], ◌∷◌, ◌++◌, Bool, true, false, cond, length, take, drop, refl, sym, ◌∙◌, ap, subst, inl, inr, arith, append_assoc, append-nil}
use Rattle.std.specs.Prelude.{Some, None, Result, Ok, Err, nat_le, ⊤}
use Rattle.std.specs.Bool.{MatchBool}
use Rattle.std.proofs.lemmas.List.{length-take, drop-take}
use Rattle.hgs_index.specs.declared.entry.Entry.{Entry}
use Rattle.hgs_index.specs.declared.entry.EntryFault.{EntryFault}
use Rattle.hgs_index.specs.declared.kinds.Which.TheVariants.{Changesets, Text, Data}
use Rattle.hgs_revlog.specs.declared.fault.RevFault.{RevFault}
use Rattle.hgs_revlog.specs.declared.fault.RevFault.TheVariants as faults
use Rattle.hgs_revlog.specs.declared.fault.Tail.TheVariants.{Ignore}
use Rattle.hgs_revlog.specs.Fault.{fault_place, is_memory}
use Rattle.hgs_revlog.specs.Log.{Log, with_entry}
use Rattle.hgs_revlog.specs.Load.{most_revisions, unless, checked, separate_at, entry_behind, after, load_from, loaded}
use Rattle.hgs_judge.specs.Read.{AreBehind, behind, AreFirst, IsEnd, IsRefused, KeepsLimits, is_refusal}
use Rattle.hgs_judge.proofs.Basics.{never}

take-less : (k m : ℕ) (xs : List ℕ) → k ≤ m → take k (take m xs) ≡ take k xs
take-less zero m xs le = refl
take-less (suc k) zero xs le = absurd (omega (arith, le))
take-less (suc k) (suc m) [] le = refl
take-less (suc k) (suc m) (x ∷ xs) le = ap (λ l. x ∷ l) (take-less k m xs (omega (arith, le)))

-- ---- an index that loads

pub record Loads (n : ℕ) (log end : Log) (index : List ℕ) : Type 0 where
  pub entries : List Entry
  pub is : end ≡ record { inline = log.inline; entries = log.entries ++ entries }
  pub count : length entries ≡ n
  pub are : AreBehind log.entries index entries

abbrev pub loaded_log : Log → Result Log RevFault
loaded_log log = Ok log

pub ok-log : (x y : Log) → loaded_log x ≡ loaded_log y → x ≡ y
ok-log x y h = cc

pub loads : (n : ℕ) (log end : Log) (index : List ℕ) → load_from Ignore n log index ≡ Ok end → Loads n log end index
loads zero log end index h = record {
  entries = [];
  is = sym (ok-log log end h) ∙ ap (λ l. record { inline = log.inline; entries = l }) (sym (append-nil log.entries));
  count = refl;
  are = tt;
}
loads (suc n) log end index h = by (entry_behind log.entries (take 64 index)) refl (λ e. loads n (with_entry log e) end (drop 64 index)) h
  where
    by : (o : Result Entry RevFault) → entry_behind log.entries (take 64 index) ≡ o → ((e : Entry) → load_from Ignore n (with_entry log e) (drop 64 index) ≡ Ok end → Loads n (with_entry log e) end (drop 64 index)) → after o (λ e. load_from Ignore n (with_entry log e) (drop 64 index)) ≡ Ok end → Loads (suc n) log end index
    by (Err fault) is more g = absurd (no g)
      where
        no : (let r : Result Log RevFault = Err fault in r) ≡ Ok end → ⊥
        no k = cc
    by (Ok e) is more g =
        let rec = more e g in
        record {
          entries = e ∷ rec.entries;
          is = rec.is ∙ ap (λ l. record { inline = log.inline; entries = l }) (append_assoc log.entries (e ∷ []) rec.entries);
          count = ap suc rec.count;
          are = (is, rec.are);
        }

-- entries without fault load
pub behind-loads : (entries before : List Entry) (index : List ℕ) → AreBehind before index entries → (bytes : List ℕ) → bytes ≡ take (64 * length entries) index → load_from Ignore (length entries) (record { inline = false; entries = before }) bytes ≡ Ok (record { inline = false; entries = before ++ entries })
behind-loads [] before index are bytes e = ap (λ l. Ok (record { inline = false; entries = l })) (sym (append-nil before))
behind-loads (e ∷ entries) before index are bytes is =
    let here : take 64 bytes ≡ take 64 index = ap (take 64) is ∙ take-less 64 (64 * suc (length entries)) index (omega arith) in
    let rest : drop 64 bytes ≡ take (64 * length entries) (drop 64 index) = ap (drop 64) (is ∙ ap (λ n. take n index) (let n : 64 * suc (length entries) ≡ 64 + 64 * length entries = omega arith in n)) ∙ drop-take 64 (64 * length entries) index in
    ap (λ o. after o (λ x. load_from Ignore (length entries) (with_entry (record { inline = false; entries = before }) x) (drop 64 bytes))) (ap (entry_behind before) here ∙ are.0)
    ∙ behind-loads entries (before ++ e ∷ []) (drop 64 index) are.1 (drop 64 bytes) rest
    ∙ ap (λ l. Ok (record { inline = false; entries = l })) (append_assoc before (e ∷ []) entries)

-- ---- an index that doesn't

pub record Stops (n : ℕ) (before : List Entry) (index : List ℕ) (fault : RevFault) : Type 0 where
  pub entries : List Entry
  pub are : AreBehind before index entries
  pub few : length entries < n
  pub stop : entry_behind (before ++ entries) (take 64 (behind (length entries) index)) ≡ Err fault

err-fault : (x y : RevFault) → (let r : Result Log RevFault = Err x in r) ≡ Err y → x ≡ y
err-fault x y h = cc

pub stops : (n : ℕ) (log : Log) (index : List ℕ) (fault : RevFault) → load_from Ignore n log index ≡ Err fault → Stops n log.entries index fault
stops zero log index fault h = absurd (no h)
  where
    no : (let r : Result Log RevFault = Ok log in r) ≡ Err fault → ⊥
    no k = cc
stops (suc n) log index fault h = by (entry_behind log.entries (take 64 index)) refl (λ e. stops n (with_entry log e) (drop 64 index) fault) h
  where
    by : (o : Result Entry RevFault) → entry_behind log.entries (take 64 index) ≡ o → ((e : Entry) → load_from Ignore n (with_entry log e) (drop 64 index) ≡ Err fault → Stops n (log.entries ++ e ∷ []) (drop 64 index) fault) → after o (λ e. load_from Ignore n (with_entry log e) (drop 64 index)) ≡ Err fault → Stops (suc n) log.entries index fault
    by (Err f) is more g = record {
      entries = [];
      are = tt;
      few = omega arith;
      stop = ap (λ l. entry_behind l (take 64 index)) (append-nil log.entries) ∙ is ∙ ap (λ x. Err x) (err-fault f fault g);
    }
    by (Ok e) is more g =
        let rec = more e g in
        record {
          entries = e ∷ rec.entries;
          are = (is, rec.are);
          few = (let f = rec.few in omega (arith, f));
          stop = ap (λ l. entry_behind l (take 64 (behind (length rec.entries) (drop 64 index)))) (sym (append_assoc log.entries (e ∷ []) rec.entries)) ∙ rec.stop;
        }

-- the fault of an entry names its revision, where it is no limit
pub fault-place : (before : List Entry) (bytes : List ℕ) (fault : RevFault) → entry_behind before bytes ≡ Err fault → is_refusal fault ≡ false → fault_place fault ≡ length before
fault-place before bytes fault h none = by (nat_le most_revisions (length before)) h
  where
    is : (x : RevFault) → (let r : Result Entry RevFault = Err x in r) ≡ Err fault → x ≡ fault
    is x k = cc

    limit : (x : RevFault) → is_refusal x ≡ true → x ≡ fault → fault_place fault ≡ length before
    limit x t k = never (sym t ∙ ap is_refusal k ∙ none)

    first_of : (e : Entry) (a b c d f : Bool) → unless (cond a (Some (faults.Offset (length before))) (cond b (Some (faults.Parent (length before))) (cond c (Some (faults.Twice (length before))) (cond d (Some (faults.Limit Text)) (cond f (Some (faults.Limit Data)) None))))) e ≡ Err fault → fault_place fault ≡ length before
    first_of e true b c d f k = ap fault_place (sym (is (faults.Offset (length before)) k))
    first_of e false true c d f k = ap fault_place (sym (is (faults.Parent (length before)) k))
    first_of e false false true d f k = ap fault_place (sym (is (faults.Twice (length before)) k))
    first_of e false false false true f k = limit (faults.Limit Text) refl (is (faults.Limit Text) k)
    first_of e false false false false true k = limit (faults.Limit Data) refl (is (faults.Limit Data) k)
    first_of e false false false false false k = absurd (no k)
      where
        no : (let r : Result Entry RevFault = Ok e in r) ≡ Err fault → ⊥
        no m = cc

    checked_at : (o : Result Entry EntryFault) → checked before o ≡ Err fault → fault_place fault ≡ length before
    checked_at (Err f) k = ap fault_place (sym (is (faults.Entry (length before) f) k))
    checked_at (Ok e) k = first_of e _ _ _ _ _ k

    by : (b : Bool) → cond b (Err (faults.Limit Changesets)) (checked before (separate_at bytes (length before))) ≡ Err fault → fault_place fault ≡ length before
    by true k = limit (faults.Limit Changesets) refl (is (faults.Limit Changesets) k)
    by false k = checked_at (separate_at bytes (length before)) k

-- ---- what an index ends with

pub whole-end : (index : List ℕ) (log : Log) → loaded Ignore index ≡ Ok log → IsEnd index log.entries false
whole-end index log h =
    let l = loads (length index / 64) (record { inline = false; entries = [] }) log index h in
    let is : l.entries ≡ log.entries = sym (ap (λ (x : Log). x.entries) l.is) in
    let count : length log.entries ≡ length index / 64 = ap length (sym is) ∙ l.count in
    record {
      first = record { are = subst (AreBehind [] index) is l.are; whole = omega (arith, count) };
      whole = λ _. sym count;
      stops = λ e. never (sym e);
    }

pub cut-end : (index : List ℕ) (fault : RevFault) → loaded Ignore index ≡ Err fault → is_refusal fault ≡ false → (entries : List Entry) × (length entries ≡ fault_place fault) × IsEnd index entries true
cut-end index fault h none =
    let s = stops (length index / 64) (record { inline = false; entries = [] }) index fault h in (
      s.entries,
      sym (fault-place s.entries (take 64 (behind (length s.entries) index)) fault s.stop none),
      record {
        first = record { are = s.are; whole = (let f = s.few in omega (arith, f)) };
        whole = λ e. never e;
        stops = λ _. (fault, s.few, s.stop);
      },
    )

pub first-loads : (index : List ℕ) (entries : List Entry) → AreFirst index entries → loaded Ignore (take (64 * length entries) index) ≡ Ok (record { inline = false; entries = entries })
first-loads index entries f =
    let n : length (take (64 * length entries) index) / 64 ≡ length entries = (let l = length-take (64 * length entries) index in let w = f.whole in omega (arith, l, w)) in
    ap (λ k. load_from Ignore k (record { inline = false; entries = [] }) (take (64 * length entries) index)) n ∙ behind-loads entries [] index f.are (take (64 * length entries) index) refl

-- ---- faults that refuse

pub not-refused : (fault : RevFault) (answer : Result Log RevFault) → MatchBool (is_memory fault) ⊤ (answer ≡ Err fault) → is_refusal fault ≡ false → answer ≡ Err fault
not-refused (faults.Entry rev f) answer h none = h
not-refused (faults.Compressed rev) answer h none = h
not-refused (faults.Delta rev) answer h none = h
not-refused (faults.Flagged rev) answer h none = h
not-refused (faults.Short rev) answer h none = h
not-refused (faults.Length rev) answer h none = h
not-refused (faults.Hash rev) answer h none = h
not-refused (faults.Parent rev) answer h none = h
not-refused (faults.Collision rev) answer h none = h
not-refused (faults.Limit which) answer h none = never none
not-refused faults.Memory answer h none = never none
not-refused (faults.Offset rev) answer h none = h
not-refused (faults.Twice rev) answer h none = h
not-refused (faults.Tail rev) answer h none = h
not-refused faults.Missing answer h none = h

-- a load of entries without fault is refused for want of memory alone
pub refused : (fault : RevFault) (index : List ℕ) (log : Log) → MatchBool (is_memory fault) ⊤ ((let r : Result Log RevFault = Ok log in r) ≡ Err fault) → IsRefused index fault
refused fault index log h = by (is_memory fault) refl h
  where
    by : (b : Bool) → is_memory fault ≡ b → MatchBool b ⊤ ((let r : Result Log RevFault = Ok log in r) ≡ Err fault) → IsRefused index fault
    by true e k = inl e
    by false e k = absurd (no k)
      where
        no : (let r : Result Log RevFault = Ok log in r) ≡ Err fault → ⊥
        no m = cc

pub index-refuses : (fault : RevFault) (index : List ℕ) → MatchBool (is_memory fault) ⊤ (loaded Ignore index ≡ Err fault) → is_refusal fault ≡ true → IsRefused index fault
index-refuses fault index h e = by (is_memory fault) refl h
  where
    by : (b : Bool) → is_memory fault ≡ b → MatchBool b ⊤ (loaded Ignore index ≡ Err fault) → IsRefused index fault
    by true m k = inl m
    by false m k = inr (k, e)

-- ---- no limit

pub loads-within : (index : List ℕ) (log : Log) → loaded Ignore index ≡ Ok log → KeepsLimits index
loads-within index log h which k = clash (sym h ∙ k)
  where
    clash : loaded_log log ≡ Err (faults.Limit which) → ⊥
    clash m = cc

pub faults-within : (index : List ℕ) (fault : RevFault) → loaded Ignore index ≡ Err fault → is_refusal fault ≡ false → KeepsLimits index
faults-within index fault h none which k = never (sym (ap is_refusal (err-fault fault (faults.Limit which) (sym h ∙ k))) ∙ none)
