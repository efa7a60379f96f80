-- The reading of two files, entry by entry and text by text.
use Rattle.std.proofs.Common.{◌≤◌, ◌≡◌, ℕ, zero, suc, ◌+◌, ◌-◌, ◌/◌, ◌<◌, List, [], ◌∷◌, ◌++◌, Bool, true, false, cond, not, length, take, drop, refl, sym, ◌∙◌, ap, subst, arith, append_assoc, append-nil}
use Rattle.std.specs.Prelude.{Option, Some, None, Result, Ok, Err, IsOk, IsErr, IfSome, slice_get, ◌==◌, nat_lt}
use Rattle.std.proofs.lemmas.List.{length_push}
use Rattle.std.specs.List.{AllByRecursion}
use Rattle.hgs_index.specs.declared.entry.Entry.{Entry}
use Rattle.hgs_index.specs.Revision.{Revision, ParentsBefore, node_after, nodes_from, nodes}
use Rattle.hgs_model.specs.History as history
use Rattle.hgs_revlog.specs.declared.fault.RevFault.{RevFault}
use Rattle.hgs_revlog.specs.declared.fault.RevFault.TheVariants as faults
use Rattle.hgs_bytes.specs.Bytes.{same}
use Rattle.hgs_index.specs.Revlog.{chunk_text}
use Rattle.hgs_revlog.specs.Load.{entry_behind, most_text}
use Rattle.hgs_revlog.specs.Loaded.{parents_in}
use Rattle.hgs_revlog.specs.Log.{nodes_of, stored_sum}
use Rattle.hgs_revlog.specs.Text.{node_with, fitting_text, entry_text, text_at, text_of}
use Rattle.hgs_revlog.specs.Held.{chunk_in, revision_of, with_text, read_from, read_all}
use Rattle.hgs_findings.specs.Reading.{Reading, with_first, on_text, text_behind, on_entry, read_on, reading_of}
use Rattle.hgs_judge.specs.Read.{AreBehind, behind, AreFirst, IsEnd, IsSound, IsRead, links_in, links_of, revisions_or_none, revisions_in}
use Rattle.hgs_judge.proofs.Basics.{never}
use Rattle.hgs_judge.proofs.TextLemmas.{parents-before, nodes_of-append, node-among, slice_get-seam, text-seam, text-node, text-size, size-small}

abbrev pub prepended : List Revision → Reading → Reading
prepended [] rest = rest
prepended (r ∷ revisions) rest = with_first r (prepended revisions rest)

-- ---- one text

record Taken (all : List Entry) (k : ℕ) (e : Entry) (entries : List Entry) (data_bytes : List ℕ) (revisions : List Revision) : Type 0 where
  text : List ℕ
  more : List Revision
  reads : text_of all k (chunk_in data_bytes e) ≡ Ok text
  rest : read_from all data_bytes (suc k) entries ≡ Ok more
  is : revisions ≡ revision_of e text ∷ more

abbrev read_as : List Revision → Result (List Revision) RevFault
read_as revisions = Ok revisions

revisions-same : (x y : List Revision) → read_as x ≡ read_as y → x ≡ y
revisions-same x y h = cc

taken : (all : List Entry) (k : ℕ) (e : Entry) (entries : List Entry) (data_bytes : List ℕ) (revisions : List Revision) → read_from all data_bytes k (e ∷ entries) ≡ Ok revisions → Taken all k e entries data_bytes revisions
taken all k e entries data_bytes revisions h = by (text_of all k (chunk_in data_bytes e)) refl (read_from all data_bytes (suc k) entries) refl h
  where
    no : {A : Type 0} (f : RevFault) → (let r : Result (List Revision) RevFault = Err f in r) ≡ Ok revisions → A
    no f g = absurd (clash g)
      where
        clash : (let r : Result (List Revision) RevFault = Err f in r) ≡ Ok revisions → ⊥
        clash m = cc

    by : (t : Result (List ℕ) RevFault) → text_of all k (chunk_in data_bytes e) ≡ t → (m : Result (List Revision) RevFault) → read_from all data_bytes (suc k) entries ≡ m → with_text e t m ≡ Ok revisions → Taken all k e entries data_bytes revisions
    by (Err f) x m y g = no f g
    by (Ok text) x (Err f) y g = no f g
    by (Ok text) x (Ok more) y g = record { text = text; more = more; reads = x; rest = y; is = sym (revisions-same (revision_of e text ∷ more) revisions g) }

-- ---- the walk

record Walked (m n : ℕ) (before entries : List Entry) (rest data_bytes : List ℕ) (revisions : List Revision) : Type 0 where
  reading : read_on m before rest data_bytes ≡ prepended revisions (read_on n (before ++ entries) (behind (length entries) rest) data_bytes)
  parents : parents_in entries ≡ history.parents_in revisions
  links : links_in entries ≡ links_of revisions
  nodes_are : nodes_from (nodes_of before) revisions ≡ nodes_of (before ++ entries)
  earlier : ParentsBefore (length before) (parents_in entries)
  small : AllByRecursion (λ (r : Revision). length r.text ≤ most_text) revisions
  alone : (other more : List Entry) → other ≡ before ++ (entries ++ more) → read_from other data_bytes (length before) entries ≡ Ok revisions

walk : (entries before more all : List Entry) (rest data_bytes : List ℕ) (revisions : List Revision) (m n : ℕ) → all ≡ before ++ (entries ++ more) → m ≡ length entries + n → AreBehind before rest entries → read_from all data_bytes (length before) entries ≡ Ok revisions
    → Walked m n before entries rest data_bytes revisions
walk [] before more all rest data_bytes revisions m n is count are h =
    let none : [] ≡ revisions = revisions-same [] revisions h in
    subst (Walked m n before [] rest data_bytes) none (record {
      reading = ap (λ k. read_on k before rest data_bytes) (let e : m ≡ n = omega (arith, count) in e) ∙ ap (λ l. read_on n l rest data_bytes) (sym (append-nil before));
      parents = refl;
      links = refl;
      nodes_are = ap nodes_of (sym (append-nil before));
      earlier = tt;
      small = tt;
      alone = λ other rest same_it. refl;
    })
walk (e ∷ entries) before more all rest data_bytes revisions zero n is count are h = absurd (omega (arith, count))
walk (e ∷ entries) before more all rest data_bytes revisions (suc m) n is count are h =
    by (taken all (length before) e entries data_bytes revisions h) (λ (revs : List Revision) (r : read_from all data_bytes (length (before ++ e ∷ [])) entries ≡ Ok revs). walk entries (before ++ e ∷ []) more all (drop 64 rest) data_bytes revs m n (is ∙ sym (append_assoc before (e ∷ []) (entries ++ more))) (omega (arith, count)) are.1 r)
  where
    p : IfSome e.p1 (λ x. x < length before) × IfSome e.p2 (λ x. x < length before)
    p = parents-before before (take 64 rest) e are.0

    longer : length (before ++ e ∷ []) ≡ suc (length before)
    longer = (let l = length_push before e in omega (arith, l))

    by : Taken all (length before) e entries data_bytes revisions → ((revs : List Revision) → read_from all data_bytes (length (before ++ e ∷ [])) entries ≡ Ok revs → Walked m n (before ++ e ∷ []) entries (drop 64 rest) data_bytes revs) → Walked (suc m) n before (e ∷ entries) rest data_bytes revisions
    by t rec = subst (Walked (suc m) n before (e ∷ entries) rest data_bytes) (sym t.is) (record {
      reading =
          ap (λ o. on_entry before data_bytes o (λ x. read_on m (before ++ x ∷ []) (drop 64 rest) data_bytes)) are.0
          ∙ ap (λ o. on_text before e o (read_on m (before ++ e ∷ []) (drop 64 rest) data_bytes)) here
          ∙ ap (with_first (revision_of e t.text)) (w.reading ∙ ap (λ l. prepended t.more (read_on n l (behind (length entries) (drop 64 rest)) data_bytes)) joined);
      parents = ap (λ l. (e.p1, e.p2) ∷ l) w.parents;
      links = ap (λ l. e.link ∷ l) w.links;
      nodes_are = ap (λ x. nodes_from (nodes_of before ++ x ∷ []) t.more) node ∙ ap (λ l. nodes_from l t.more) (sym (nodes_of-append before (e ∷ []))) ∙ w.nodes_are ∙ ap nodes_of joined;
      earlier = (p.0, p.1, subst (λ k. ParentsBefore k (parents_in entries)) longer w.earlier);
      small = (subst (λ n. n ≤ most_text) (sym size) (size-small before (take 64 rest) e are.0), w.small);
      alone = λ other left same_it.
          ap (λ o. with_text e o (read_from other data_bytes (suc (length before)) entries)) (ap (λ l. text_of l (length before) (chunk_in data_bytes e)) same_it ∙ text-seam before (entries ++ left) e (chunk_in data_bytes e) p ∙ here)
          ∙ ap (with_text e (Ok t.text)) (ap (λ k. read_from other data_bytes k entries) (sym longer) ∙ w.alone other left (same_it ∙ sym (append_assoc before (e ∷ []) (entries ++ left))));
    })
      where
        w : Walked m n (before ++ e ∷ []) entries (drop 64 rest) data_bytes t.more
        w = rec t.more (ap (λ k. read_from all data_bytes k entries) longer ∙ t.rest)

        joined : (before ++ e ∷ []) ++ entries ≡ before ++ e ∷ entries
        joined = append_assoc before (e ∷ []) entries

        here : text_behind before e data_bytes ≡ Ok t.text
        here = sym (text-seam before (entries ++ more) e (chunk_in data_bytes e) p) ∙ ap (λ l. text_of l (length before) (chunk_in data_bytes e)) (sym is) ∙ t.reads

        fitting : entry_text (before ++ e ∷ []) (length before) (chunk_in data_bytes e) e ≡ Ok t.text
        fitting = sym (ap (text_at (before ++ e ∷ []) (length before) (chunk_in data_bytes e)) (slice_get-seam before e [])) ∙ here

        size : length t.text ≡ e.size
        size = text-size (before ++ e ∷ []) (length before) (chunk_in data_bytes e) t.text e fitting

        node : node_after (nodes_of before) (revision_of e t.text) ≡ e.node.0
        node = sym (node-among before (e ∷ []) e t.text p) ∙ text-node (before ++ e ∷ []) (length before) (chunk_in data_bytes e) t.text e fitting

-- ---- what is prepended

prepended-revisions : (revisions : List Revision) (rest : Reading) → rest.revisions ≡ [] → (prepended revisions rest).revisions ≡ revisions
prepended-revisions [] rest e = e
prepended-revisions (r ∷ revisions) rest e = ap (λ l. r ∷ l) (prepended-revisions revisions rest e)

prepended-broken : (revisions : List Revision) (rest : Reading) → (prepended revisions rest).broken ≡ rest.broken
prepended-broken [] rest = refl
prepended-broken (r ∷ revisions) rest = prepended-broken revisions rest

prepended-stored : (revisions : List Revision) (rest : Reading) → (prepended revisions rest).stored ≡ rest.stored
prepended-stored [] rest = refl
prepended-stored (r ∷ revisions) rest = prepended-stored revisions rest

-- these entries are read, and behind them nothing is
read-as : (index data_bytes : List ℕ) (entries more all : List Entry) (revisions : List Revision) (n : ℕ) (broken : Bool) → all ≡ entries ++ more → length index / 64 ≡ length entries + n → AreFirst index entries → read_from all data_bytes 0 entries ≡ Ok revisions
    → read_on n entries (behind (length entries) index) data_bytes ≡ record { revisions = []; broken = broken; stored = stored_sum entries } → IsRead index data_bytes entries broken
read-as index data_bytes entries more all revisions n broken is count first reads ends =
    let w = walk entries [] more all index data_bytes revisions (length index / 64) n is count first.are reads in
    let alone : read_all entries data_bytes ≡ Ok revisions = w.alone entries [] (sym (append-nil entries)) in
    let all_read : reading_of index data_bytes ≡ prepended revisions (record { revisions = []; broken = broken; stored = stored_sum entries }) = w.reading ∙ ap (prepended revisions) ends in
    let them : (reading_of index data_bytes).revisions ≡ revisions = ap (λ (r : Reading). r.revisions) all_read ∙ prepended-revisions revisions _ refl in
    let mine : revisions_in entries data_bytes ≡ revisions = ap revisions_or_none alone in
    let stands : revisions_in entries data_bytes ≡ (reading_of index data_bytes).revisions = mine ∙ sym them in
    record {
      are = record {
        reads = alone ∙ ap (λ l. Ok l) (sym mine);
        parents = w.parents ∙ ap history.parents_in (sym mine);
        links = w.links ∙ ap links_of (sym mine);
        nodes_are = sym w.nodes_are ∙ ap nodes (sym mine);
        earlier = w.earlier;
        small = subst (AllByRecursion (λ (r : Revision). length r.text ≤ most_text)) (sym mine) w.small;
      };
      revisions = stands;
      broken_is = sym (ap (λ (r : Reading). r.broken) all_read ∙ prepended-broken revisions _);
      stored = sym (ap (λ (r : Reading). r.stored) all_read ∙ prepended-stored revisions _);
    }

value-of : (r : Result (List Revision) RevFault) → IsOk r → (revisions : List Revision) × (r ≡ Ok revisions)
value-of (Ok revisions) h = (revisions, refl)
value-of (Err f) h = never (sym h)

take-all : (xs : List Entry) → take (length xs) xs ≡ xs
take-all [] = refl
take-all (x ∷ xs) = ap (λ l. x ∷ l) (take-all xs)

-- all texts of the entries read
pub all-read : (index data_bytes : List ℕ) (entries : List Entry) (broken : Bool) (count : ℕ) → IsEnd index entries broken → IsSound entries data_bytes count → count ≡ length entries → IsRead index data_bytes entries broken
all-read index data_bytes entries broken count e s is = by broken e.whole e.stops
  where
    reads : (revisions : List Revision) × (read_all entries data_bytes ≡ Ok revisions)
    reads = value-of (read_all entries data_bytes) (subst (λ l. IsOk (read_from entries data_bytes 0 l)) (ap (λ n. take n entries) is ∙ take-all entries) s.read)

    by : (b : Bool) → (b ≡ false → length index / 64 ≡ length entries) → (b ≡ true → (fault : RevFault) × (length entries < length index / 64) × (entry_behind entries (take 64 (behind (length entries) index)) ≡ Err fault)) → IsRead index data_bytes entries b
    by false whole stop = read-as index data_bytes entries [] entries reads.0 0 false (sym (append-nil entries)) (let w = whole refl in omega (arith, w)) e.first reads.1 refl
    by true whole stop =
        let f = stop refl in
        read-as index data_bytes entries [] entries reads.0 (suc (length index / 64 - length entries - 1)) true (sym (append-nil entries)) (omega (arith, f.1)) e.first reads.1
        (ap (λ o. on_entry entries data_bytes o (λ x. read_on (length index / 64 - length entries - 1) (entries ++ x ∷ []) (drop 64 (behind (length entries) index)) data_bytes)) f.2)

-- ---- a text that does not read

record Split (xs : List Entry) (k : ℕ) : Type 0 where
  entry : Entry
  more : List Entry
  is : xs ≡ take k xs ++ entry ∷ more
  at : slice_get xs k ≡ Some entry
  count : length (take k xs) ≡ k

split : (xs : List Entry) (k : ℕ) → k < length xs → Split xs k
split [] k lt = absurd (omega (arith, lt))
split (x ∷ xs) zero lt = record { entry = x; more = xs; is = refl; at = refl; count = refl }
split (x ∷ xs) (suc k) lt = let s = split xs k (omega (arith, lt)) in record { entry = s.entry; more = s.more; is = ap (λ l. x ∷ l) s.is; at = s.at; count = ap suc s.count }

front-behind : (xs ys before : List Entry) (e : Entry) (rest : List ℕ) → AreBehind before rest (xs ++ e ∷ ys) → AreBehind before rest xs × (entry_behind (before ++ xs) (take 64 (behind (length xs) rest)) ≡ Ok e)
front-behind [] ys before e rest are = (tt, ap (λ l. entry_behind l (take 64 rest)) (append-nil before) ∙ are.0)
front-behind (x ∷ xs) ys before e rest are =
    let f = front-behind xs ys (before ++ x ∷ []) e (drop 64 rest) are.1 in
    ((are.0, f.0), ap (λ l. entry_behind l (take 64 (behind (length xs) (drop 64 rest)))) (sym (append_assoc before (x ∷ []) xs)) ∙ f.1)

fault-of : (r : Result (List ℕ) RevFault) → IsErr r → (f : RevFault) × (r ≡ Err f)
fault-of (Ok text) h = never (sym h)
fault-of (Err f) h = (f, refl)

-- the texts of the first entries read, and the next does not
pub cut-read : (index data_bytes : List ℕ) (entries : List Entry) (broken : Bool) (count : ℕ) → IsEnd index entries broken → IsSound entries data_bytes count → count < length entries → AreFirst index (take count entries) × (length (take count entries) ≡ count) × IsRead index data_bytes (take count entries) true
cut-read index data_bytes entries broken count e s lt = (first, t.count, read-as index data_bytes (take count entries) (t.entry ∷ t.more) entries reads.0 (suc left) true t.is left_is first reads.1 ends)
  where
    t : Split entries count
    t = split entries count lt

    behind_all : AreBehind [] index (take count entries) × (entry_behind (take count entries) (take 64 (behind (length (take count entries)) index)) ≡ Ok t.entry)
    behind_all = front-behind (take count entries) t.more [] t.entry index (subst (AreBehind [] index) t.is e.first.are)

    first : AreFirst index (take count entries)
    first = record { are = behind_all.0; whole = (let w = e.first.whole in let n = t.count in omega (arith, w, n, lt)) }

    reads : (revisions : List Revision) × (read_from entries data_bytes 0 (take count entries) ≡ Ok revisions)
    reads = value-of (read_from entries data_bytes 0 (take count entries)) s.read

    left : ℕ
    left = length index / 64 - count - 1

    left_is : length index / 64 ≡ length (take count entries) + suc left
    left_is = (let w = e.first.whole in let n = t.count in omega (arith, w, n, lt))

    bad : (f : RevFault) × (text_of entries count (chunk_in data_bytes t.entry) ≡ Err f)
    bad = fault-of (text_of entries count (chunk_in data_bytes t.entry)) (s.next t.entry t.at)

    stops : text_behind (take count entries) t.entry data_bytes ≡ Err bad.0
    stops =
        sym (text-seam (take count entries) t.more t.entry (chunk_in data_bytes t.entry) (parents-before (take count entries) (take 64 (behind (length (take count entries)) index)) t.entry behind_all.1))
        ∙ ap (λ l. text_of l (length (take count entries)) (chunk_in data_bytes t.entry)) (sym t.is)
        ∙ ap (λ n. text_of entries n (chunk_in data_bytes t.entry)) t.count
        ∙ bad.1

    ends : read_on (suc left) (take count entries) (behind (length (take count entries)) index) data_bytes ≡ record { revisions = []; broken = true; stored = stored_sum (take count entries) }
    ends =
        ap (λ o. on_entry (take count entries) data_bytes o (λ x. read_on left (take count entries ++ x ∷ []) (drop 64 (behind (length (take count entries)) index)) data_bytes)) behind_all.1
        ∙ ap (λ o. on_text (take count entries) t.entry o (read_on left (take count entries ++ t.entry ∷ []) (drop 64 (behind (length (take count entries)) index)) data_bytes)) stops

-- ---- the text of a revision

pub read-text : (all : List Entry) (data_bytes : List ℕ) (k : ℕ) (entries : List Entry) (revisions : List Revision) (i : ℕ) (e : Entry) → read_from all data_bytes k entries ≡ Ok revisions → slice_get entries i ≡ Some e → text_of all (k + i) (chunk_in data_bytes e) ≡ Ok (history.text_at revisions i)
read-text all data_bytes k [] revisions i e h at = absurd (no at)
  where
    no : None ≡ Some e → ⊥
    no g = cc
read-text all data_bytes k (x ∷ entries) revisions zero e h at =
    let t = taken all k x entries data_bytes revisions h in
    ap (λ n. text_of all n (chunk_in data_bytes e)) (let n : k + 0 ≡ k = omega arith in n)
    ∙ ap (λ y. text_of all k (chunk_in data_bytes y)) (sym (some-entry x e at))
    ∙ t.reads
    ∙ ap (λ l. Ok (history.text_at l 0)) (sym t.is)
  where
    some-entry : (a b : Entry) → Some a ≡ Some b → a ≡ b
    some-entry a b g = ap (elim [ None ↦ a | Some z ↦ z ]) g
read-text all data_bytes k (x ∷ entries) revisions (suc i) e h at =
    let t = taken all k x entries data_bytes revisions h in
    ap (λ n. text_of all n (chunk_in data_bytes e)) (let n : k + suc i ≡ suc k + i = omega arith in n)
    ∙ read-text all data_bytes (suc k) entries t.more i e t.rest at
    ∙ ap (λ l. Ok (history.text_at l (suc i))) (sym t.is)

-- the chunk of a text that reads spells it
pub text-spelled : (all : List Entry) (rev : ℕ) (chunk text : List ℕ) (e : Entry) → slice_get all rev ≡ Some e → text_of all rev chunk ≡ Ok text → chunk_text chunk ≡ Some text
text-spelled all rev chunk text e at h = tests (not (e.flags == 0)) (not (e.base == rev)) (nat_lt (length chunk) e.stored) (chunk_text chunk) (sym (ap (text_at all rev chunk) at) ∙ h)
  where
    is : (x : List ℕ) → (let r : Result (List ℕ) RevFault = Ok x in r) ≡ Ok text → x ≡ text
    is x k = cc

    no : {A : Type 0} (f : RevFault) → (let r : Result (List ℕ) RevFault = Err f in r) ≡ Ok text → A
    no f k = absurd (clash k)
      where
        clash : (let r : Result (List ℕ) RevFault = Err f in r) ≡ Ok text → ⊥
        clash m = cc

    fits : (x : List ℕ) (a b : Bool) → cond a (Err (faults.Length rev)) (cond b (Err (faults.Hash rev)) (Ok x)) ≡ Ok text → Some x ≡ Some text
    fits x true b k = no (faults.Length rev) k
    fits x false true k = no (faults.Hash rev) k
    fits x false false k = ap Some (is x k)

    tests : (a b c : Bool) (o : Option (List ℕ)) → cond a (Err (faults.Flagged rev)) (cond b (Err (faults.Delta rev)) (cond c (Err (faults.Short rev)) (fitting_text all rev e o))) ≡ Ok text → o ≡ Some text
    tests true b c o k = no (faults.Flagged rev) k
    tests false true c o k = no (faults.Delta rev) k
    tests false false true o k = no (faults.Short rev) k
    tests false false false None k = no (faults.Compressed rev) k
    tests false false false (Some x) k = fits x (not (length x == e.size)) (not (same (node_with all e x) e.node.0)) k
