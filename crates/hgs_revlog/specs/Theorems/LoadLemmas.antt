-- One entry after another.
use Rattle.std.proofs.Common.{◌≡◌, ℕ, suc, ◌+◌, ◌-◌, ◌/◌, ◌<◌, ◌≤◌, Bool, true, false, cond, ◌||◌, List, length, take, drop, Option, Some, None, Result, Ok, Err, refl, sym, ◌∙◌, ap, arith}
use Rattle.std.specs.Prelude.{nat_le, is_some}
use Rattle.std.proofs.lemmas.List.{length-drop}
use Rattle.hgs_bytes.specs.Answer.{Gives}
use Rattle.hgs_bytes.specs.Bytes.{same}
use Rattle.hgs_index.specs.declared.entry.Entry as index_entry
use Rattle.hgs_index.specs.declared.entry.EntryFault.{EntryFault}
use Rattle.hgs_index.specs.declared.kinds.Which.TheVariants.{Changesets}
use Rattle.hgs_index.specs.Node.{null_node}
use Rattle.hgs_revlog.specs.declared.fault.RevFault.{RevFault}
use Rattle.hgs_revlog.specs.declared.fault.RevFault.TheVariants.{Entry, Compressed, Delta, Flagged, Short, Length, Hash, Parent, Collision, Limit, Memory, Offset, Twice, Tail, Missing}
use Rattle.hgs_revlog.specs.declared.fault.Tail as tails
use Rattle.hgs_revlog.specs.Fault.{is_memory}
use Rattle.hgs_revlog.specs.Log.{Log, with_entry, place_of, stored_sum}
use Rattle.hgs_revlog.specs.Theorems.TestLemmas.{same_number, at_most}
use Rattle.hgs_revlog.specs.Load.{most_revisions, most_text, most_data, is_above, fault_of, unless, checked, separate_at, entry_behind, ends_at, at_end, after, load_from}

-- tests one after another that pick no fault all fail
all_false : (a b c d e : Bool) (v w x y z : RevFault) → cond a (Some v) (cond b (Some w) (cond c (Some x) (cond d (Some y) (cond e (Some z) None)))) ≡ None → (a ≡ false) × (b ≡ false) × (c ≡ false) × (d ≡ false) × (e ≡ false)
all_false true b c d e v w x y z h = cc
all_false false true c d e v w x y z h = cc
all_false false false true d e v w x y z h = cc
all_false false false false true e v w x y z h = cc
all_false false false false false true v w x y z h = cc
all_false false false false false false v w x y z h = (refl, refl, refl, refl, refl)

pub neither : (a b : Bool) → (a || b) ≡ false → (a ≡ false) × (b ≡ false)
neither true b h = cc
neither false b h = (refl, h)

not_some : (o : Option ℕ) → is_some o ≡ false → o ≡ None
not_some None h = refl
not_some (Some n) h = cc

-- what is true of an entry without fault behind others
pub record IsFaultless (before : List index_entry.Entry) (e : index_entry.Entry) : Type 0 where
  pub offset : e.offset ≡ stored_sum before
  pub first : is_above (length before) e.p1 ≡ false
  pub second : is_above (length before) e.p2 ≡ false
  pub named : same null_node e.node.0 ≡ false
  pub fresh : place_of before e.node.0 ≡ None
  pub text : e.size ≤ most_text
  pub data_end : e.offset + e.stored ≤ most_data

pub faultless : (before : List index_entry.Entry) (e : index_entry.Entry) → fault_of before e ≡ None → IsFaultless before e
faultless before e h =
    let t = all_false _ _ _ _ _ _ _ _ _ _ h in
    let parents = neither (is_above (length before) e.p1) (is_above (length before) e.p2) t.1 in
    let taken = neither (same null_node e.node.0) (is_some (place_of before e.node.0)) t.2 in
    record {
      offset = same_number e.offset (stored_sum before) t.0;
      first = parents.0;
      second = parents.1;
      named = taken.0;
      fresh = not_some (place_of before e.node.0) taken.1;
      text = at_most most_text e.size t.3;
      data_end = at_most most_data (e.offset + e.stored) t.4;
    }

pub gives_err : {A B : Type 0} (view : A → B) (f : RevFault) (answer : Result B RevFault) → answer ≡ Err f → Gives is_memory view (Err f) answer
gives_err view Memory answer h = tt
gives_err view (Entry rev f) answer h = h
gives_err view (Compressed rev) answer h = h
gives_err view (Delta rev) answer h = h
gives_err view (Flagged rev) answer h = h
gives_err view (Short rev) answer h = h
gives_err view (Length rev) answer h = h
gives_err view (Hash rev) answer h = h
gives_err view (Parent rev) answer h = h
gives_err view (Collision rev) answer h = h
gives_err view (Limit which) answer h = h
gives_err view (Offset rev) answer h = h
gives_err view (Twice rev) answer h = h
gives_err view (Tail rev) answer h = h
gives_err view Missing answer h = h

pub gives : {A : Type 0} (result answer : Result A RevFault) → answer ≡ result → Gives is_memory (λ x. x) result answer
gives (Ok x) answer h = h
gives (Err f) answer h = gives_err (λ x. x) f answer h

-- whole entries in bytes
one_more : (n : ℕ) → 64 ≤ n → n / 64 ≡ suc ((n - 64) / 64)
one_more n h = omega arith

no_more : (n : ℕ) → n < 64 → n / 64 ≡ 0
no_more n h = omega arith

-- the entries that stand whole in these bytes, behind those of the log
abbrev pub load_rest : tails.Tail → Log → List ℕ → Result Log RevFault
load_rest tail log rest = load_from tail (length rest / 64) log rest

load_step : (tail : tails.Tail) (log : Log) (rest : List ℕ) → 64 ≤ length rest → load_rest tail log rest ≡ load_from tail (suc (length (drop 64 rest) / 64)) log rest
load_step tail log rest h = ap (λ n. load_from tail n log rest) (one_more (length rest) h ∙ ap (λ n. suc (n / 64)) (sym (length-drop 64 rest)))

pub load_stops : (tail : tails.Tail) (log : Log) (rest : List ℕ) (f : RevFault) → 64 ≤ length rest → entry_behind log.entries (take 64 rest) ≡ Err f → load_rest tail log rest ≡ Err f
load_stops tail log rest f whole e =
    load_step tail log rest whole
    ∙ ap (λ r. after r (λ x. cond (ends_at tail x) (Ok (with_entry log x)) (load_from tail (length (drop 64 rest) / 64) (with_entry log x) (drop 64 rest)))) e

pub load_ends : (tail : tails.Tail) (log : Log) (rest : List ℕ) (e : index_entry.Entry) → 64 ≤ length rest → entry_behind log.entries (take 64 rest) ≡ Ok e → ends_at tail e ≡ true → load_rest tail log rest ≡ Ok (with_entry log e)
load_ends tail log rest e whole is last =
    load_step tail log rest whole
    ∙ ap (λ r. after r (λ x. cond (ends_at tail x) (Ok (with_entry log x)) (load_from tail (length (drop 64 rest) / 64) (with_entry log x) (drop 64 rest)))) is
    ∙ ap (λ b. cond b (Ok (with_entry log e)) (load_from tail (length (drop 64 rest) / 64) (with_entry log e) (drop 64 rest))) last

pub load_on : (tail : tails.Tail) (log : Log) (rest : List ℕ) (e : index_entry.Entry) → 64 ≤ length rest → entry_behind log.entries (take 64 rest) ≡ Ok e → ends_at tail e ≡ false → load_rest tail log rest ≡ load_rest tail (with_entry log e) (drop 64 rest)
load_on tail log rest e whole is last =
    load_step tail log rest whole
    ∙ ap (λ r. after r (λ x. cond (ends_at tail x) (Ok (with_entry log x)) (load_from tail (length (drop 64 rest) / 64) (with_entry log x) (drop 64 rest)))) is
    ∙ ap (λ b. cond b (Ok (with_entry log e)) (load_from tail (length (drop 64 rest) / 64) (with_entry log e) (drop 64 rest))) last

pub load_done : (tail : tails.Tail) (log : Log) (rest : List ℕ) → length rest < 64 → load_rest tail log rest ≡ at_end tail log rest
load_done tail log rest few = ap (λ n. load_from tail n log rest) (no_more (length rest) few)

-- an entry that is taken has no fault, and there is room for it
pub taken_entry : (before : List index_entry.Entry) (bytes : List ℕ) (e : index_entry.Entry) → entry_behind before bytes ≡ Ok e → (length before < most_revisions) × (fault_of before e ≡ None)
taken_entry before bytes e h = by (nat_le most_revisions (length before)) refl h
  where
    is : (x y : index_entry.Entry) → (let a : Result index_entry.Entry RevFault = Ok x in a) ≡ Ok y → x ≡ y
    is x y h = cc

    unless_is : (x : index_entry.Entry) (o : Option RevFault) → fault_of before x ≡ o → unless o x ≡ Ok e → fault_of before e ≡ None
    unless_is x None t h = ap (fault_of before) (sym (is x e h)) ∙ t
    unless_is x (Some f) t h = cc

    checked_is : (r : Result index_entry.Entry EntryFault) → checked before r ≡ Ok e → fault_of before e ≡ None
    checked_is (Err f) h = cc
    checked_is (Ok x) h = unless_is x (fault_of before x) refl h

    below : (n : ℕ) → nat_le most_revisions n ≡ false → n < most_revisions
    below n h = grind arith

    by : (b : Bool) → nat_le most_revisions (length before) ≡ b → cond b (Err (Limit Changesets)) (checked before (separate_at bytes (length before))) ≡ Ok e → (length before < most_revisions) × (fault_of before e ≡ None)
    by true t h = cc
    by false t h = (below (length before) t, checked_is (separate_at bytes (length before)) h)
