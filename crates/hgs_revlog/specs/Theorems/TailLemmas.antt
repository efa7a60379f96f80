-- What the ways to take the end of an index have to do with one another.
use Rattle.std.proofs.Common.{◌≡◌, ◌⊎◌, ℕ, zero, suc, ◌+◌, ◌-◌, ◌*◌, ◌/◌, ◌≤◌, Bool, true, false, cond, List, [], ◌++◌, length, take, drop, Option, Some, None, Result, Ok, Err, inl, inr, refl, sym, ◌∙◌, ap, arith, length-append}
use Rattle.std.specs.Prelude.{◌==◌}
use Rattle.std.proofs.lemmas.List.{take-take, drop-take, length-take, length-drop, length_push, take-append-le, drop-append-le}
use Rattle.hgs_bytes.specs.Bytes.{same}
use Rattle.hgs_index.specs.declared.entry.Entry as index_entry
use Rattle.hgs_index.specs.declared.node.Node.{Node}
use Rattle.hgs_revlog.specs.declared.fault.RevFault.{RevFault}
use Rattle.hgs_revlog.specs.declared.fault.RevFault.TheVariants.{Missing, Tail}
use Rattle.hgs_revlog.specs.declared.fault.Tail.TheVariants.{Ignore, Refuse, Until}
use Rattle.hgs_revlog.specs.Log.{Log, with_entry, place_of}
use Rattle.hgs_revlog.specs.Load.{entry_behind, after, load_from, loaded}
use Rattle.hgs_revlog.specs.Theorems.LogLemmas.{position_push_none, position_push_some}

after_same : (r : Result index_entry.Entry RevFault) (f g : index_entry.Entry → Result Log RevFault) → ((e : index_entry.Entry) → f e ≡ g e) → after r f ≡ after r g
after_same (Err fault) f g h = refl
after_same (Ok e) f g h = h e

-- an entry was taken, and the load went on behind it
after_ok : (r : Result index_entry.Entry RevFault) (f : index_entry.Entry → Result Log RevFault) (log : Log) → after r f ≡ Ok log → (e : index_entry.Entry) × (r ≡ Ok e) × (f e ≡ Ok log)
after_ok (Err fault) f log h = cc
after_ok (Ok e) f log h = (e, refl, h)

-- the front of some entries
front_first : (n : ℕ) (bytes : List ℕ) → take 64 (take (64 * suc n) bytes) ≡ take 64 bytes
front_first n bytes = take-take 64 (64 * suc n) bytes (omega arith)

front_rest : (n : ℕ) (bytes : List ℕ) → drop 64 (take (64 * suc n) bytes) ≡ take (64 * n) (drop 64 bytes)
front_rest n bytes = ap (λ m. drop 64 (take m bytes)) (omega arith) ∙ drop-take 64 (64 * n) bytes

ignore_front : (n : ℕ) (log : Log) (bytes : List ℕ) → load_from Ignore n log bytes ≡ load_from Refuse n log (take (64 * n) bytes)
ignore_front zero log bytes = refl
ignore_front (suc n) log bytes =
    after_same (entry_behind log.entries (take 64 bytes)) _ (λ e. load_from Refuse n (with_entry log e) (drop 64 (take (64 * suc n) bytes)))
    (λ e. ignore_front n (with_entry log e) (drop 64 bytes) ∙ ap (load_from Refuse n (with_entry log e)) (sym (front_rest n bytes)))
    ∙ ap (λ cell. after (entry_behind log.entries cell) (λ e. load_from Refuse n (with_entry log e) (drop 64 (take (64 * suc n) bytes)))) (sym (front_first n bytes))

whole_front : (index : List ℕ) → length (take (64 * (length index / 64)) index) / 64 ≡ length index / 64
whole_front index = ap (λ n. n / 64) (length-take (64 * (length index / 64)) index) ∙ omega arith

-- The whole entries with a rest passed over are those of the front that they are.
pub ignore-refuse : (index : List ℕ) → loaded Ignore index ≡ loaded Refuse (take (64 * (length index / 64)) index)
ignore-refuse index =
    ignore_front (length index / 64) _ index
    ∙ ap (λ n. load_from Refuse n (record { inline = false; entries = [] }) (take (64 * (length index / 64)) index)) (sym (whole_front index))

pub refuse_step : (n : ℕ) (log end : Log) (bytes : List ℕ) → load_from Refuse (suc n) log bytes ≡ Ok end
    → (e : index_entry.Entry) × (entry_behind log.entries (take 64 bytes) ≡ Ok e) × (load_from Refuse n (with_entry log e) (drop 64 bytes) ≡ Ok end)
refuse_step n log end bytes h = after_ok (entry_behind log.entries (take 64 bytes)) (λ e. load_from Refuse n (with_entry log e) (drop 64 bytes)) end h

pub refuse_none : (log end : Log) (bytes : List ℕ) → load_from Refuse zero log bytes ≡ Ok end → (log ≡ end) × (length bytes ≡ 0)
refuse_none log end bytes h = by (length bytes == 0) refl h
  where
    ok_is : (let a : Result Log RevFault = Ok log in a) ≡ Ok end → log ≡ end
    ok_is h = cc

    nothing : (n : ℕ) → (n == 0) ≡ true → n ≡ 0
    nothing n h = grind arith

    by : (b : Bool) → (length bytes == 0) ≡ b → cond b (Ok log) (Err (Tail (length log.entries))) ≡ Ok end → (log ≡ end) × (length bytes ≡ 0)
    by true t h = (ok_is h, nothing (length bytes) t)
    by false t h = cc

-- one entry for each 64 bytes
pub load_length : (n : ℕ) (log end : Log) (bytes : List ℕ) → load_from Refuse n log bytes ≡ Ok end → length end.entries ≡ length log.entries + n
load_length zero log end bytes h = ap (λ l. length l.entries) (sym (refuse_none log end bytes h).0) ∙ omega arith
load_length (suc n) log end bytes h =
    let s = refuse_step n log end bytes h in
    let rest = load_length n (with_entry log s.0) end (drop 64 bytes) s.2 in
    let more = length_push log.entries s.0 in
    omega (arith, rest, more)

-- a node that has its place keeps it
load_place : (n : ℕ) (log end : Log) (bytes node : List ℕ) (i : ℕ) → load_from Refuse n log bytes ≡ Ok end → place_of log.entries node ≡ Some i → place_of end.entries node ≡ Some i
load_place zero log end bytes node i h is = ap (λ l. place_of l.entries node) (sym (refuse_none log end bytes h).0) ∙ is
load_place (suc n) log end bytes node i h is =
    let s = refuse_step n log end bytes h in
    load_place n (with_entry log s.0) end (drop 64 bytes) node i s.2 (position_push_some (λ e. same e.node.0 node) log.entries s.0 i is)

some_is : (i j : ℕ) → Some i ≡ Some j → i ≡ j
some_is i j h = cc

-- Entries whose last is the first with a node are found whatever follows them.
until_from : (n m : ℕ) (log end : Log) (front rest : List ℕ) (node : Node) → n ≤ m → 64 * n ≤ length front → load_from Refuse n log front ≡ Ok end → place_of log.entries node.0 ≡ None
    → place_of end.entries node.0 ≡ Some (length end.entries - 1) → load_from (Until node) m log (front ++ rest) ≡ Ok end
until_from zero m log end front rest node h whole is none last =
    absurd (let no : None ≡ Some (length end.entries - 1) = sym none ∙ ap (λ l. place_of l.entries node.0) (refuse_none log end front is).0 ∙ last in cc)
until_from (suc n) zero log end front rest node h whole is none last = absurd (omega arith)
until_from (suc n) (suc m) log end front rest node h whole is none last =
    let s = refuse_step n log end front is in
    ap (λ cell. after (entry_behind log.entries cell) (λ e. cond (same e.node.0 node.0) (Ok (with_entry log e)) (load_from (Until node) m (with_entry log e) (drop 64 (front ++ rest))))) (take-append-le 64 front rest (omega arith))
    ∙ ap (λ r. after r (λ e. cond (same e.node.0 node.0) (Ok (with_entry log e)) (load_from (Until node) m (with_entry log e) (drop 64 (front ++ rest))))) s.1
    ∙ by s.0 s.2 (λ none. until_from n m (with_entry log s.0) end (drop 64 front) rest node (omega arith) (let d = length-drop 64 front in omega (arith, d)) s.2 none last) (same s.0.node.0 node.0) refl
  where
    placed : (e : index_entry.Entry) (b : Bool) → same e.node.0 node.0 ≡ b → place_of (with_entry log e).entries node.0 ≡ cond b (Some (length log.entries)) None
    placed e b t = position_push_none (λ x. same x.node.0 node.0) log.entries e none ∙ ap (λ b. cond b (Some (length log.entries)) None) t

    finish : (e : index_entry.Entry) (k : ℕ) → k ≡ 0 → load_from Refuse k (with_entry log e) (drop 64 front) ≡ Ok end → (with_entry log e) ≡ end
    finish e k z h = (refuse_none (with_entry log e) end (drop 64 front) (ap (λ k. load_from Refuse k (with_entry log e) (drop 64 front)) (sym z) ∙ h)).0

    by : (e : index_entry.Entry) → load_from Refuse n (with_entry log e) (drop 64 front) ≡ Ok end
        → (place_of (with_entry log e).entries node.0 ≡ None → load_from (Until node) m (with_entry log e) (drop 64 front ++ rest) ≡ Ok end)
        → (b : Bool) → same e.node.0 node.0 ≡ b
        → cond b (Ok (with_entry log e)) (load_from (Until node) m (with_entry log e) (drop 64 (front ++ rest))) ≡ Ok end
    by e on next true t =
        let first = load_place n (with_entry log e) end (drop 64 front) node.0 (length log.entries) on (placed e true t) in
        let at = some_is (length log.entries) (length end.entries - 1) (sym first ∙ last) in
        let long = load_length n (with_entry log e) end (drop 64 front) on in
        let more = length_push log.entries e in
        ap (λ l. Ok l) (finish e n (omega (arith, at, long, more)) on)
    by e on next false t =
        ap (load_from (Until node) m (with_entry log e)) (drop-append-le 64 front rest (omega arith))
        ∙ next (placed e false t)

pub refuse-until : (front rest : List ℕ) (log : Log) (node : Node) → loaded Refuse front ≡ Ok log → place_of log.entries node.0 ≡ Some (length log.entries - 1) → loaded (Until node) (front ++ rest) ≡ Ok log
refuse-until front rest log node is last =
    until_from (length front / 64) (length (front ++ rest) / 64) _ log front rest node (let l = length-append front rest in omega (arith, l)) (omega arith) is refl last

refuse_cons : (k : ℕ) (log end : Log) (bytes : List ℕ) (e : index_entry.Entry) → entry_behind log.entries (take 64 bytes) ≡ Ok e → load_from Refuse k (with_entry log e) (take (64 * k) (drop 64 bytes)) ≡ Ok end
    → load_from Refuse (suc k) log (take (64 * suc k) bytes) ≡ Ok end
refuse_cons k log end bytes e taken h =
    ap (λ cell. after (entry_behind log.entries cell) (λ e. load_from Refuse k (with_entry log e) (drop 64 (take (64 * suc k) bytes)))) (front_first k bytes)
    ∙ ap (λ r. after r (λ e. load_from Refuse k (with_entry log e) (drop 64 (take (64 * suc k) bytes)))) taken
    ∙ ap (load_from Refuse k (with_entry log e)) (front_rest k bytes)
    ∙ h

log_is : (log end : Log) → (let a : Result Log RevFault = Ok log in a) ≡ Ok end → log ≡ end
log_is log end h = cc

-- what a load up to a node gives, as the load of the front up to it
until_found : (n : ℕ) (log end : Log) (bytes : List ℕ) (node : Node) → load_from (Until node) n log bytes ≡ Ok end → place_of log.entries node.0 ≡ None
    → (k : ℕ) × (k ≤ n) × (load_from Refuse k log (take (64 * k) bytes) ≡ Ok end) × (place_of end.entries node.0 ≡ Some (length end.entries - 1))
until_found zero log end bytes node h none = cc
until_found (suc n) log end bytes node h none =
    let s = after_ok (entry_behind log.entries (take 64 bytes)) (λ e. cond (same e.node.0 node.0) (Ok (with_entry log e)) (load_from (Until node) n (with_entry log e) (drop 64 bytes))) end h in
    by s.0 s.1 (λ on none. until_found n (with_entry log s.0) end (drop 64 bytes) node on none) (same s.0.node.0 node.0) refl s.2
  where
    placed : (e : index_entry.Entry) (b : Bool) → same e.node.0 node.0 ≡ b → place_of (with_entry log e).entries node.0 ≡ cond b (Some (length log.entries)) None
    placed e b t = position_push_none (λ x. same x.node.0 node.0) log.entries e none ∙ ap (λ b. cond b (Some (length log.entries)) None) t

    by : (e : index_entry.Entry) → entry_behind log.entries (take 64 bytes) ≡ Ok e
        → (load_from (Until node) n (with_entry log e) (drop 64 bytes) ≡ Ok end → place_of (with_entry log e).entries node.0 ≡ None
        → (k : ℕ) × (k ≤ n) × (load_from Refuse k (with_entry log e) (take (64 * k) (drop 64 bytes)) ≡ Ok end) × (place_of end.entries node.0 ≡ Some (length end.entries - 1)))
        → (b : Bool) → same e.node.0 node.0 ≡ b → cond b (Ok (with_entry log e)) (load_from (Until node) n (with_entry log e) (drop 64 bytes)) ≡ Ok end
        → (k : ℕ) × (k ≤ suc n) × (load_from Refuse k log (take (64 * k) bytes) ≡ Ok end) × (place_of end.entries node.0 ≡ Some (length end.entries - 1))
    by e taken next true t is =
        let same_end = log_is (with_entry log e) end is in
        let long = length_push log.entries e in (
          1,
          omega arith,
          refuse_cons 0 log end bytes e taken is,
          ap (λ l. place_of l.entries node.0) (sym same_end) ∙ placed e true t ∙ ap (λ n. Some n) (omega (arith, long)) ∙ ap (λ l. Some (length l.entries - 1)) same_end,
        )
    by e taken next false t is =
        let r = next is (placed e false t) in
        (suc r.0, (let le = r.1 in omega (arith, le)), refuse_cons r.0 log end bytes e taken r.2, r.3)

pub until-refuse : (index : List ℕ) (log : Log) (node : Node) → loaded (Until node) index ≡ Ok log → (loaded Refuse (take (64 * length log.entries) index) ≡ Ok log) × (place_of log.entries node.0 ≡ Some (length log.entries - 1)) × (64 * length log.entries ≤ length index)
until-refuse index log node h =
    let r = until_found (length index / 64) (record { inline = false; entries = [] }) log index node h refl in
    let k : r.0 ≡ length log.entries = (let l = load_length r.0 (record { inline = false; entries = [] }) log (take (64 * r.0) index) r.2 in omega (arith, l)) in
    let fits : 64 * length log.entries ≤ length index = (let le = r.1 in omega (arith, le, k)) in
    let whole : length (take (64 * length log.entries) index) / 64 ≡ length log.entries = (let l = length-take (64 * length log.entries) index in omega (arith, l, fits)) in (
      ap (λ n. load_from Refuse n (record { inline = false; entries = [] }) (take (64 * length log.entries) index)) whole
          ∙ ap (λ n. load_from Refuse n (record { inline = false; entries = [] }) (take (64 * n) index)) (sym k) ∙ r.2,
      r.3,
      fits,
    )

no_place : (o : Option ℕ) → ((i : ℕ) → o ≡ Some i → ⊥) → o ≡ None
no_place None h = refl
no_place (Some i) h = absurd (h i refl)

-- a node that no entry has in the end has none before
load_none : (n : ℕ) (log end : Log) (bytes node : List ℕ) → load_from Ignore n log bytes ≡ Ok end → place_of end.entries node ≡ None → place_of log.entries node ≡ None
load_none n log end bytes node h none =
    no_place (place_of log.entries node) (λ i is. let there = load_place n log end (take (64 * n) bytes) node i (sym (ignore_front n log bytes) ∙ h) is in let no : None ≡ Some i = sym none ∙ there in cc)

until_none : (n : ℕ) (log end : Log) (bytes : List ℕ) (node : Node) → load_from Ignore n log bytes ≡ Ok end → place_of end.entries node.0 ≡ None → load_from (Until node) n log bytes ≡ Err Missing
until_none zero log end bytes node h none = refl
until_none (suc n) log end bytes node h none =
    let s = after_ok (entry_behind log.entries (take 64 bytes)) (λ e. load_from Ignore n (with_entry log e) (drop 64 bytes)) end h in
    ap (λ r. after r (λ e. cond (same e.node.0 node.0) (Ok (with_entry log e)) (load_from (Until node) n (with_entry log e) (drop 64 bytes)))) s.1
    ∙ by s.0 (load_none n (with_entry log s.0) end (drop 64 bytes) node.0 s.2 none) (load_none (suc n) log end bytes node.0 h none) (until_none n (with_entry log s.0) end (drop 64 bytes) node s.2 none) (same s.0.node.0 node.0) refl
  where
    by : (e : index_entry.Entry) → place_of (with_entry log e).entries node.0 ≡ None → place_of log.entries node.0 ≡ None → load_from (Until node) n (with_entry log e) (drop 64 bytes) ≡ Err Missing
        → (b : Bool) → same e.node.0 node.0 ≡ b → cond b (Ok (with_entry log e)) (load_from (Until node) n (with_entry log e) (drop 64 bytes)) ≡ Err Missing
    by e after before next true t =
        absurd (let no : None ≡ Some (length log.entries) = sym after ∙ position_push_none (λ x. same x.node.0 node.0) log.entries e before ∙ ap (λ b. cond b (Some (length log.entries)) None) t in cc)
    by e after before next false t = next

pub ignore-until : (index : List ℕ) (log : Log) (node : Node) → loaded Ignore index ≡ Ok log → place_of log.entries node.0 ≡ None → loaded (Until node) index ≡ Err Missing
ignore-until index log node h none = until_none (length index / 64) (record { inline = false; entries = [] }) log index node h none

-- ---- faults

abbrev pub Outcome : Result Log RevFault → RevFault → Type 0
Outcome r f = (r ≡ Err f) ⊎ ((log : Log) × (r ≡ Ok log))

after_fault : (r : Result index_entry.Entry RevFault) (k u : index_entry.Entry → Result Log RevFault) (f : RevFault) → ((e : index_entry.Entry) → k e ≡ Err f → Outcome (u e) f) → after r k ≡ Err f → Outcome (after r u) f
after_fault (Err g) k u f next h = inl h
after_fault (Ok e) k u f next h = next e h

ends_or : (b : Bool) (log : Log) (r : Result Log RevFault) (f : RevFault) → Outcome r f → Outcome (cond b (Ok log) r) f
ends_or true log r f h = inr (log, refl)
ends_or false log r f h = h

until_fault : (n : ℕ) (log : Log) (bytes : List ℕ) (node : Node) (f : RevFault) → load_from Ignore n log bytes ≡ Err f → Outcome (load_from (Until node) n log bytes) f
until_fault zero log bytes node f h = cc
until_fault (suc n) log bytes node f h =
    after_fault (entry_behind log.entries (take 64 bytes)) (λ e. load_from Ignore n (with_entry log e) (drop 64 bytes)) (λ e. cond (same e.node.0 node.0) (Ok (with_entry log e)) (load_from (Until node) n (with_entry log e) (drop 64 bytes))) f
    (λ e is. ends_or (same e.node.0 node.0) (with_entry log e) (load_from (Until node) n (with_entry log e) (drop 64 bytes)) f (until_fault n (with_entry log e) (drop 64 bytes) node f is)) h

-- a fault of the whole entries is that of a load up to a node, or the node comes before it
pub until-fault : (index : List ℕ) (node : Node) (f : RevFault) → loaded Ignore index ≡ Err f → (loaded (Until node) index ≡ Err f) ⊎ ((log : Log) × (loaded (Until node) index ≡ Ok log))
until-fault index node f h = until_fault (length index / 64) (record { inline = false; entries = [] }) index node f h
