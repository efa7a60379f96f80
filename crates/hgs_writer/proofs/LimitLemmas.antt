-- An index that holds revisions is refused only for a limit, however much of it is read.
use Rattle.std.proofs.Common.{◌≡◌, ℕ, zero, suc, ◌+◌, ◌*◌, ◌/◌, Bool, true, false, cond, ◌||◌, ◌&&◌, not, List, [], ◌∷◌, ◌++◌, length, take, drop, map, Option, Some, None, Result, Ok, Err, IsSome, refl, sym, ◌∙◌, ap, subst, arith, length-append, append_assoc, append-nil}
use Rattle.std.specs.Prelude.{◌==◌, nat_le, nat_lt, IfSome, flat_map}
use Rattle.std.specs.List.{AllByRecursion}
use Rattle.std.proofs.lemmas.List.{take-append-drop}
use Rattle.std.proofs.Math.Seq.{take-append_seam, drop-append_seam}
use Rattle.hgs_bytes.specs.Bytes.{among, same}
use Rattle.hgs_index.specs.declared.entry.Entry.{Entry}
use Rattle.hgs_index.specs.declared.entry.Header.{Header}
use Rattle.hgs_index.specs.declared.kinds.Which.{Which}
use Rattle.hgs_index.specs.declared.kinds.Which.TheVariants.{Changesets, Text, Data}
use Rattle.hgs_index.specs.Entry.{Fits, entry_bytes}
use Rattle.hgs_index.specs.Node.{null_node}
use Rattle.hgs_index.specs.Revision.{ParentsBefore, Revision, node_after, nodes, nodes_from}
use Rattle.hgs_index.specs.Revlog.{HoldsRevisions, Item, Stored, all_different, entry_after, index_bytes, item_bytes, items, items_from}
use Rattle.hgs_index.specs.Theorems.EntryPartLemmas.{length-entry_bytes}
use Rattle.hgs_index.specs.Theorems.RevisionLemmas.{nodes_from-prefix}
use Rattle.hgs_index.specs.Theorems.RevlogLemmas.{map-append}
use Rattle.hgs_revlog.specs.declared.fault.RevFault.{RevFault}
use Rattle.hgs_revlog.specs.declared.fault.RevFault.TheVariants as faults
use Rattle.hgs_revlog.specs.declared.fault.Tail.TheVariants.{Refuse}
use Rattle.hgs_revlog.specs.Load.{after, checked, entry_behind, fault_of, is_above, is_taken, load_from, loaded, most_data, most_revisions, most_text, unless}
use Rattle.hgs_revlog.specs.Log.{Log, nodes_of, place_of, stored_sum, with_entry}
use Rattle.hgs_revlog.specs.Theorems.AddedLemmas.{not_above, written-read}
use Rattle.hgs_revlog.specs.Theorems.HeldLemmas.{among_none, swap_same}
use Rattle.hgs_revlog.specs.Theorems.LoadLemmas.{neither}
use Rattle.hgs_revlog.specs.Theorems.LogLemmas.{sum_push}
use Rattle.hgs_revlog.specs.Theorems.TestLemmas.{number_test}

-- a limit, or no fault
abbrev pub IsLimitFault : RevFault → Type 0
IsLimitFault fault = (which : Which) × (fault ≡ faults.Limit which)

abbrev pub HasOnlyLimits : Result Log RevFault → Type 0
HasOnlyLimits (Ok log) = Unit {0}
HasOnlyLimits (Err fault) = IsLimitFault fault

abbrev revisions_of : List Stored → List Revision
revisions_of stored = map (λ (s : Stored). s.revision) stored

-- ---- each node is new, and none is the null node

abbrev AreFresh : List (List ℕ) → List Revision → Type 0
AreFresh known [] = Unit {0}
AreFresh known (r ∷ revisions) = (among (node_after known r) known ≡ false) × (same null_node (node_after known r) ≡ false) × AreFresh (known ++ node_after known r ∷ []) revisions

pub apart-within : (x y : List ℕ) (xs ys : List (List ℕ)) → among x (xs ++ y ∷ ys) ≡ false → same x y ≡ false
apart-within x y [] ys h = (neither (same x y) (among x ys) h).0
apart-within x y (z ∷ xs) ys h = apart-within x y xs ys (neither (same x z) (among x (xs ++ y ∷ ys)) h).1

both-are : (a b : Bool) → (not a && b) ≡ true → (a ≡ false) × (b ≡ true)
both-are true b h = cc
both-are false b h = (refl, h)

pub different-within : (y : List ℕ) (xs ys : List (List ℕ)) → all_different (xs ++ y ∷ ys) ≡ true → among y xs ≡ false
different-within y [] ys h = refl
different-within y (x ∷ xs) ys h =
    let s = both-are (among x (xs ++ y ∷ ys)) (all_different (xs ++ y ∷ ys)) h in
    ap (λ b. b || among y xs) (swap_same x y (apart-within x y xs ys s.0)) ∙ different-within y xs ys s.1

fresh-from : (known : List (List ℕ)) (revisions : List Revision) → all_different (nodes_from known revisions) ≡ true → among null_node (nodes_from known revisions) ≡ false → AreFresh known revisions
fresh-from known [] a b = tt
fresh-from known (r ∷ revisions) a b =
    let node = node_after known r in
    let p = nodes_from-prefix (known ++ node ∷ []) revisions in
    let is : nodes_from (known ++ node ∷ []) revisions ≡ known ++ node ∷ p.0 = p.1 ∙ append_assoc known (node ∷ []) p.0 in
    (different-within node known p.0 (ap all_different (sym is) ∙ a), apart-within null_node node known p.0 (ap (among null_node) (sym is) ∙ b), fresh-from (known ++ node ∷ []) revisions a b)

-- ---- one entry after another

-- what is true of stored revisions behind entries, whatever the limits
record AreNext (before : List Entry) (stored : List Stored) : Type 0 where
  fits : AllByRecursion (λ (i : Item). Fits i.entry None) (items_from (stored_sum before) (nodes_of before) stored)
  earlier : ParentsBefore (length before) (map (λ (r : Revision). r.parents) (revisions_of stored))
  fresh : AreFresh (nodes_of before) (revisions_of stored)

abbrev next-of : List Entry → Stored → Entry
next-of before s = entry_after (stored_sum before) (nodes_of before) s

nodes-push : (before : List Entry) (e : Entry) → nodes_of (before ++ e ∷ []) ≡ nodes_of before ++ e.node.0 ∷ []
nodes-push before e = map-append (λ (x : Entry). x.node.0) before (e ∷ [])

items-push : (before : List Entry) (s : Stored) (stored : List Stored)
    → items_from (stored_sum before + length s.chunk) (nodes_of before ++ (next-of before s).node.0 ∷ []) stored ≡ items_from (stored_sum (before ++ next-of before s ∷ [])) (nodes_of (before ++ next-of before s ∷ [])) stored
items-push before s stored =
    ap (λ o. items_from o (nodes_of before ++ (next-of before s).node.0 ∷ []) stored) (sym (sum_push before (next-of before s)))
    ∙ ap (λ known. items_from (stored_sum (before ++ next-of before s ∷ [])) known stored) (sym (nodes-push before (next-of before s)))

next-on : (before : List Entry) (s : Stored) (stored : List Stored) → AreNext before (s ∷ stored) → AreNext (before ++ next-of before s ∷ []) stored
next-on before s stored h =
    let e = next-of before s in
    let longer = length-append before (e ∷ []) in
    record {
      fits = subst (AllByRecursion (λ (i : Item). Fits i.entry None)) (items-push before s stored) h.fits.1;
      earlier = subst (λ n. ParentsBefore n (map (λ (r : Revision). r.parents) (revisions_of stored))) (let n : suc (length before) ≡ length (before ++ e ∷ []) = omega (arith, longer) in n) h.earlier.2;
      fresh = subst (λ known. AreFresh known (revisions_of stored)) (sym (nodes-push before e)) h.fresh.2;
    }

first-tests : (a b c d e : Bool) (v w x y z : RevFault) → a ≡ false → b ≡ false → c ≡ false → cond a (Some v) (cond b (Some w) (cond c (Some x) (cond d (Some y) (cond e (Some z) None)))) ≡ cond d (Some y) (cond e (Some z) None)
first-tests a b c d e v w x y z p q r = rw (p, q, r) refl

-- the only faults of such an entry are limits
fault-is : (before : List Entry) (s : Stored) (stored : List Stored) → AreNext before (s ∷ stored)
    → fault_of before (next-of before s) ≡ cond (nat_lt most_text (next-of before s).size) (Some (faults.Limit Text)) (cond (nat_lt most_data (stored_sum before + length s.chunk)) (Some (faults.Limit Data)) None)
fault-is before s stored h =
    first-tests (not (stored_sum before == stored_sum before)) (is_above (length before) s.revision.parents.0 || is_above (length before) s.revision.parents.1) (is_taken before (next-of before s).node.0) (nat_lt most_text (next-of before s).size) (nat_lt most_data (stored_sum before + length s.chunk))
    (faults.Offset (length before)) (faults.Parent (length before)) (faults.Twice (length before)) (faults.Limit Text) (faults.Limit Data)
    (number_test (stored_sum before) (stored_sum before) refl)
    (ap (λ b. b || is_above (length before) s.revision.parents.1) (not_above (length before) s.revision.parents.0 h.earlier.0) ∙ not_above (length before) s.revision.parents.1 h.earlier.1)
    (ap (λ b. b || is-there (place_of before (next-of before s).node.0)) h.fresh.1 ∙ ap is-there (among_none before (next-of before s).node.0 h.fresh.0))
  where
    is-there : Option ℕ → Bool
    is-there o = elim o [ None ↦ false | Some x ↦ true ]

-- the bytes of these entries, the first of which may begin with a header
abbrev bytes-from : Option Header → List Item → List ℕ
bytes-from first [] = []
bytes-from first (i ∷ more) = entry_bytes i.entry first ++ bytes-from None more

none-is : IsSome {T = Header} None → ⊥
none-is h = cc

front-of : (front rest : List ℕ) (n : ℕ) → length front ≡ n → take n (front ++ rest) ≡ front
front-of front rest n len = ap (λ m. take m (front ++ rest)) (sym len) ∙ take-append_seam front rest

rest-of : (front rest : List ℕ) (n : ℕ) → length front ≡ n → drop n (front ++ rest) ≡ rest
rest-of front rest n len = ap (λ m. drop m (front ++ rest)) (sym len) ∙ drop-append_seam front rest

sum-none : (entries : List Entry) → length entries ≡ 0 → stored_sum entries ≡ 0
sum-none [] h = refl
sum-none (e ∷ entries) h = absurd (omega arith)

header-fits : (before : List Entry) (e : Entry) (h : Option Header) → Fits e None → e.offset ≡ stored_sum before → (IsSome h → length before ≡ 0) → Fits e h
header-fits before e h f offset a = record { offset = f.offset; flags = f.flags; stored = f.stored; size = f.size; base = f.base; link = f.link; p1 = f.p1; p2 = f.p2; node = f.node; first = λ is. offset ∙ sum-none before (a is) }

limits-from : (before : Log) (first : Option Header) (stored more : List Stored) → AreNext before.entries (stored ++ more) → IfSome first (λ (h : Header). h.inline ≡ false) → (IsSome first → length before.entries ≡ 0) → (length before.entries ≡ 0 → IsSome first)
    → HasOnlyLimits (load_from Refuse (length stored) before (bytes-from first (items_from (stored_sum before.entries) (nodes_of before.entries) stored)))
limits-from before first [] more h separate a b = tt
limits-from before first (s ∷ stored) more h separate a b =
    subst HasOnlyLimits (sym (taken ∙ tested))
    (by (nat_le most_revisions (length before.entries)) (nat_lt most_text e.size) (nat_lt most_data (stored_sum before.entries + length s.chunk))
    (subst (λ (its : List Item). HasOnlyLimits (load_from Refuse (length stored) (with_entry before e) (bytes-from None its))) (sym (items-push before.entries s stored))
    (limits-from (with_entry before e) None stored more (next-on before.entries s (stored ++ more) h) tt (λ n. absurd (none-is n)) (λ z. absurd (let longer = length-append before.entries (e ∷ []) in omega (arith, longer, z))))))
  where
    e : Entry
    e = next-of before.entries s

    rest : List ℕ
    rest = bytes-from None (items_from (stored_sum before.entries + length s.chunk) (nodes_of before.entries ++ (next-of before.entries s).node.0 ∷ []) stored)

    on : Entry → Result Log RevFault
    on x = load_from Refuse (length stored) (with_entry before x) rest

    fits : Fits (next-of before.entries s) first
    fits = header-fits before.entries (next-of before.entries s) first h.fits.0 refl a

    long : length (entry_bytes (next-of before.entries s) first) ≡ 64
    long = length-entry_bytes (next-of before.entries s) first h.fits.0.node

    taken : load_from Refuse (suc (length stored)) before (entry_bytes (next-of before.entries s) first ++ rest) ≡ after (entry_behind before.entries (entry_bytes (next-of before.entries s) first)) on
    taken =
        let cell = front-of (entry_bytes (next-of before.entries s) first) rest 64 long in
        let left = rest-of (entry_bytes (next-of before.entries s) first) rest 64 long in
        λ i. after (entry_behind before.entries (cell i)) (λ x. load_from Refuse (length stored) (with_entry before x) (left i))

    limit : Bool → Bool → Bool → Result Log RevFault
    limit few text data_end = after (cond few (Err (faults.Limit Changesets)) (unless (cond text (Some (faults.Limit Text)) (cond data_end (Some (faults.Limit Data)) None)) (next-of before.entries s))) on

    tested : after (entry_behind before.entries (entry_bytes (next-of before.entries s) first)) on ≡ limit (nat_le most_revisions (length before.entries)) (nat_lt most_text (next-of before.entries s).size) (nat_lt most_data (stored_sum before.entries + length s.chunk))
    tested =
        ap (λ r. after (cond (nat_le most_revisions (length before.entries)) (Err (faults.Limit Changesets)) (checked before.entries r)) on) (written-read (next-of before.entries s) first (length before.entries) fits separate a b)
        ∙ ap (λ o. after (cond (nat_le most_revisions (length before.entries)) (Err (faults.Limit Changesets)) (unless o (next-of before.entries s))) on) (fault-is before.entries s (stored ++ more) h)

    by : (few text data_end : Bool) → HasOnlyLimits (load_from Refuse (length stored) (with_entry before (next-of before.entries s)) rest) → HasOnlyLimits (limit few text data_end)
    by true text data_end rec = (Changesets, refl)
    by false true data_end rec = (Text, refl)
    by false false true rec = (Data, refl)
    by false false false rec = rec

-- ---- a front of the index

take-none : (n : ℕ) → take {A = ℕ} n [] ≡ []
take-none zero = refl
take-none (suc n) = refl

take-more : (xs ys : List ℕ) (m n : ℕ) → n ≡ length xs + m → take n (xs ++ ys) ≡ xs ++ take m ys
take-more [] ys m n e = ap (λ k. take k ys) (let is : n ≡ m = omega (arith, e) in is)
take-more (x ∷ xs) ys m zero e = absurd (omega (arith, e))
take-more (x ∷ xs) ys m (suc n) e = ap (λ l. x ∷ l) (take-more xs ys m n (omega (arith, e)))

-- the first entries are those of the first revisions
front-bytes : (first : Option Header) (offset : ℕ) (known : List (List ℕ)) (stored : List Stored) (k : ℕ) → AllByRecursion (λ (i : Item). Fits i.entry None) (items_from offset known stored)
    → (take (64 * k) (bytes-from first (items_from offset known stored)) ≡ bytes-from first (items_from offset known (take k stored))) × (length (bytes-from first (items_from offset known (take k stored))) ≡ 64 * length (take k stored))
front-bytes first offset known stored zero fits = (refl, refl)
front-bytes first offset known [] (suc k) fits = (take-none (64 * suc k), refl)
front-bytes first offset known (s ∷ stored) (suc k) fits =
    let cell = entry_bytes (entry_after offset known s) first in
    let long = length-entry_bytes (entry_after offset known s) first fits.0.node in
    let rest = bytes-from None (items_from (offset + length s.chunk) (known ++ node_after known s.revision ∷ []) stored) in
    let front = bytes-from None (items_from (offset + length s.chunk) (known ++ node_after known s.revision ∷ []) (take k stored)) in
    let rec = front-bytes None (offset + length s.chunk) (known ++ node_after known s.revision ∷ []) stored k fits.1 in (
      take-more cell rest (64 * k) (64 * suc k) (omega (arith, long)) ∙ ap (λ l. cell ++ l) rec.0,
      omega (arith, length-append cell front, long, rec.1),
    )

plain-item : (h : Header) (first : Option Header) (i : Item) → h.inline ≡ false → item_bytes h first i ≡ entry_bytes i.entry first
plain-item h first i separate = ap (λ b. entry_bytes i.entry first ++ cond b i.chunk []) separate ∙ append-nil (entry_bytes i.entry first)

rest-bytes : (h : Header) (is : List Item) → h.inline ≡ false → flat_map (item_bytes h None) is ≡ bytes-from None is
rest-bytes h [] separate = refl
rest-bytes h (i ∷ is) separate = ap (λ l. l ++ flat_map (item_bytes h None) is) (plain-item h None i separate) ∙ ap (λ l. entry_bytes i.entry None ++ l) (rest-bytes h is separate)

all-bytes : (h : Header) (is : List Item) → h.inline ≡ false → index_bytes h is ≡ bytes-from (Some h) is
all-bytes h [] separate = refl
all-bytes h (i ∷ is) separate = ap (λ l. l ++ flat_map (item_bytes h None) is) (plain-item h (Some h) i separate) ∙ ap (λ l. entry_bytes i.entry (Some h) ++ l) (rest-bytes h is separate)

pub held-limited : (index data_bytes : List ℕ) (revisions : List Revision) (k : ℕ) → HoldsRevisions index data_bytes revisions → HasOnlyLimits (loaded Refuse (take (64 * k) index))
held-limited index data_bytes revisions k h =
    let stored = h.stored in
    let empty : Log = record { inline = false; entries = [] } in
    let spelled : index ≡ bytes-from (Some h.header) (items stored) = h.index_is ∙ all-bytes h.header (items stored) h.form in
    let front = front-bytes (Some h.header) 0 [] stored k h.fits in
    let bytes : take (64 * k) index ≡ bytes-from (Some h.header) (items (take k stored)) = ap (take (64 * k)) spelled ∙ front.0 in
    let whole : List Stored = take k stored ++ drop k stored in
    let is : stored ≡ whole = sym (take-append-drop k stored) in
    let next : AreNext [] stored = record {
      fits = h.fits;
      earlier = subst (λ rs. ParentsBefore 0 (map (λ (r : Revision). r.parents) rs)) (sym h.these) h.earlier;
      fresh = fresh-from [] (revisions_of stored) (ap (λ rs. all_different (nodes rs)) h.these ∙ h.different) (ap (λ rs. among null_node (nodes rs)) h.these ∙ h.not_null);
    } in
    let count : length (bytes-from (Some h.header) (items (take k stored))) / 64 ≡ length (take k stored) = omega (arith, front.1) in
    subst HasOnlyLimits (sym (ap (loaded Refuse) bytes ∙ ap (λ n. load_from Refuse n empty (bytes-from (Some h.header) (items (take k stored)))) count))
    (limits-from empty (Some h.header) (take k stored) (drop k stored) (subst (AreNext []) is next) h.form (λ some. refl) (λ none. refl))
