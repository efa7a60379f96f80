-- A changelog with one more entry.
use Rattle.std.proofs.Common.{◌≡◌, ℕ, ◌+◌, List, [], ◌∷◌, ◌++◌, length, Result, Ok, Err, refl, ◌∙◌, ap, arith}
use Rattle.hgs_index.specs.declared.entry.Entry.{Entry}
use Rattle.hgs_revlog.specs.declared.fault.RevFault.{RevFault}
use Rattle.hgs_revlog.specs.Load.{after, entry_behind, pushed}
use Rattle.hgs_revlog.specs.Log.{Log, with_entry}
use Rattle.hgs_commit.specs.Commit.{entries_with, with_parsed}

ok_is : (x y : Log) → (let a : Result Log RevFault = Ok x in a ≡ Ok y) → x ≡ y
ok_is x y e = cc

one_longer : (entries : List Entry) (e : Entry) → length (entries ++ e ∷ []) ≡ length entries + 1
one_longer [] e = refl
one_longer (x ∷ entries) e = let r = one_longer entries e in omega (arith, r)

counted : (log new : Log) (r : Result Entry RevFault) → Ok new ≡ after r (λ e. Ok (with_entry log e)) → length new.entries ≡ length log.entries + 1
counted log new (Ok e) h = ap (λ (l : Log). length l.entries) (ok_is new (with_entry log e) h) ∙ one_longer log.entries e
counted log new (Err f) h = cc

pub push_counts : (log copy new : Log) (bytes : List ℕ) → copy ≡ log → Ok new ≡ pushed copy bytes → length new.entries ≡ length log.entries + 1
push_counts log copy new bytes same_log h = counted copy new (entry_behind copy.entries bytes) h ∙ ap (λ (l : Log). length l.entries + 1) same_log

entries-after : (log new : Log) (r : Result Entry RevFault) → Ok new ≡ after r (λ e. Ok (with_entry log e)) → new.entries ≡ with_parsed log.entries r
entries-after log new (Ok e) h = ap (λ (l : Log). l.entries) (ok_is new (with_entry log e) h)
entries-after log new (Err f) h = cc

pub push-entries : (log copy new : Log) (bytes : List ℕ) → copy ≡ log → Ok new ≡ pushed copy bytes → new.entries ≡ entries_with log.entries bytes
push-entries log copy new bytes same_log h = entries-after copy new (entry_behind copy.entries bytes) h ∙ ap (λ (l : Log). entries_with l.entries bytes) same_log
