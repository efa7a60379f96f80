-- The text with a node, where the bytes of a revlog hold revisions.
use Rattle.std.proofs.Common.{◌≡◌, ℕ, zero, suc, ◌+◌, ◌-◌, ◌*◌, ◌/◌, ◌<◌, ◌≤◌, min, Bool, true, false, cond, ◌||◌, List, [], ◌∷◌, ◌++◌, take, drop, length, Option, Some, None, Result, Ok, Err, refl, sym, ◌∙◌, ap, arith}
use Rattle.std.specs.Prelude.{◌&&◌, ◌==◌, not, nat_lt, nat_le, unwrap_or, slice_get}
use Rattle.std.specs.Int.{from_be_bytes, w16}
use Rattle.std.proofs.lemmas.Bool.Decides.{nat_tests}
use Rattle.std.proofs.lemmas.List.{drop-drop, drop-take, length-append, length-drop, length-take, take-append-drop}
use Rattle.std.proofs.Math.Seq.{take-add}
use Rattle.hgs_bytes.specs.Bytes.{same}
use Rattle.hgs_files.specs.Tree.{Tree, bytes_at}
use Rattle.hgs_index.specs.declared.entry.Entry as index_entry
use Rattle.hgs_index.specs.declared.entry.EntryFault.{EntryFault}
use Rattle.hgs_index.specs.declared.entry.EntryFault.TheVariants.{Version, HeaderFlags, Negative, Padding}
use Rattle.hgs_index.specs.declared.node.Node.{Node}
use Rattle.hgs_index.specs.Revision.{Revision}
use Rattle.hgs_index.specs.Revlog.{BeginsWithRevisions}
use Rattle.hgs_index.specs.declared.kinds.Which.TheVariants.{Changesets}
use Rattle.hgs_index.specs.Entry.{part, entry_at, fields_of, has_bad_header, has_negative, has_padding, header_at}
use Rattle.hgs_index.specs.Inline.{says_inline}
use Rattle.hgs_revlog.specs.declared.fault.RevFault.{RevFault}
use Rattle.hgs_revlog.specs.declared.fault.RevFault.TheVariants.{Limit}
use Rattle.hgs_revlog.specs.declared.fault.Tail.TheVariants.{Until}
use Rattle.hgs_revlog.specs.Load.{most_revisions, fault_of, unless, checked, separate_at, entry_behind, after, load_from, loaded}
use Rattle.hgs_revlog.specs.Held.{AreWithinLimits, EndsFirstAt, chunk_in, read_from, revision_of}
use Rattle.hgs_revlog.specs.Log.{Log, with_entry, place_of}
use Rattle.hgs_revlog.specs.Text.{text_of}
use Rattle.hgs_revlog.specs.Theorems.ReadLemmas.{with_text_ok}
use Rattle.hgs_revlog.specs.Theorems.TailHeldLemmas.{front-until}
use Rattle.hgs_revlog.specs.Theorems.TailLemmas.{refuse-until, until-refuse}
use Rattle.hgs_load.specs.declared.answer.ReadAnswer.{ReadAnswer}
use Rattle.hgs_load.specs.Asks.{Asks, answer, part_of, at_rest}
use Rattle.hgs_reader.specs.Find.{has_node, is_last_of, bytes_until, log_until, text_answer, text_at_asks, separate_asks}
use Rattle.hgs_reader.specs.Line.{chunk_asks}
use Rattle.hgs_load.specs.View.{piece_length, most_pieces, log_answer}
use Rattle.hgs_reader.specs.Theorems.FindLemmas.{front_node, take_less}
use Rattle.hgs_load.specs.Theorems.OpenedLemmas.{rest_then}
use Rattle.hgs_load.specs.Theorems.PartLemmas.{part_is}

-- ---- the entries before and behind one another

either_false : (a b : Bool) → (a || b) ≡ false → (a ≡ false) × (b ≡ false)
either_false true b h = cc
either_false false b h = (refl, h)

no_less : (a n : ℕ) → 0 ≡ suc a + n → ⊥
no_less a n h = omega (arith, h)

first_node : List ℕ → List ℕ
first_node bytes = take 20 (drop 32 bytes)

-- entries behind some without the node
pub nodes_behind : (node : List ℕ) (a n m : ℕ) (bytes : List ℕ) (b : Bool) → m ≡ a + n → has_node node a bytes ≡ false → has_node node n (drop (64 * a) bytes) ≡ b → has_node node m bytes ≡ b
nodes_behind node zero n m bytes b e h k = let same_count : m ≡ n = omega (arith, e) in ap (λ x. has_node node x bytes) same_count ∙ k
nodes_behind node (suc a) n zero bytes b e h k = absurd (no_less a n e)
nodes_behind node (suc a) n (suc m) bytes b e h k =
    let parts = either_false (same (take 20 (drop 32 bytes)) node) (has_node node a (drop 64 bytes)) h in
    let place : 64 + 64 * a ≡ 64 * suc a = omega arith in
    let rest : drop (64 * a) (drop 64 bytes) ≡ drop (64 * suc a) bytes = drop-drop (64 * a) 64 bytes ∙ ap (λ x. drop x bytes) place in
    ap (λ x. x || has_node node m (drop 64 bytes)) parts.0 ∙ nodes_behind node a n m (drop 64 bytes) b (omega (arith, e)) parts.1 (ap (has_node node n) rest ∙ k)

-- entries of a front
pub nodes_in_front : (node : List ℕ) (n w : ℕ) (bytes : List ℕ) → 64 * n ≤ w → has_node node n (take w bytes) ≡ has_node node n bytes
nodes_in_front node zero w bytes h = refl
nodes_in_front node (suc n) w bytes h =
    let size : w ≡ 64 + (w - 64) = omega (arith, h) in
    let first : take 20 (drop 32 (take w bytes)) ≡ take 20 (drop 32 bytes) =
    sym (front_node (take w bytes) (take 64 bytes) (sym (take_less 64 w bytes (omega (arith, h))))) ∙ front_node bytes (take 64 bytes) refl in
    let rest : drop 64 (take w bytes) ≡ take (w - 64) (drop 64 bytes) = ap (λ x. drop 64 (take x bytes)) size ∙ drop-take 64 (w - 64) bytes in
    ap (λ x. same x node || has_node node n (drop 64 (take w bytes))) first
    ∙ ap (λ x. same (take 20 (drop 32 bytes)) node || has_node node n x) rest
    ∙ ap (λ x. same (take 20 (drop 32 bytes)) node || x) (nodes_in_front node n (w - 64) (drop 64 bytes) (omega (arith, h)))

-- one entry with the node is enough
true_or : (a b : Bool) → b ≡ true → (a || b) ≡ true
true_or true b h = refl
true_or false b h = h

pub more_nodes : (node : List ℕ) (n m : ℕ) (bytes : List ℕ) → n ≤ m → has_node node n bytes ≡ true → has_node node m bytes ≡ true
more_nodes node zero m bytes h k = cc
more_nodes node (suc n) zero bytes h k = absurd (none n h)
  where
    none : (n : ℕ) → suc n ≤ 0 → ⊥
    none n h = omega (arith, h)
more_nodes node (suc n) (suc m) bytes h k = by (same (take 20 (drop 32 bytes)) node) k (more_nodes node n m (drop 64 bytes) (omega (arith, h)))
  where
    by : (a : Bool) → (a || has_node node n (drop 64 bytes)) ≡ true → (has_node node n (drop 64 bytes) ≡ true → has_node node m (drop 64 bytes) ≡ true) → (a || has_node node m (drop 64 bytes)) ≡ true
    by true k more = refl
    by false k more = more k

-- ---- the entry that ends an index

log_is : (x y : Log) → (let a : Result Log RevFault = Ok x in a) ≡ Ok y → x ≡ y
log_is x y e = cc

no_log : (f : RevFault) (x : Log) → (let a : Result Log RevFault = Err f in a) ≡ Ok x → ⊥
no_log f x e = cc

entry_ok : (x y : index_entry.Entry) → (let a : Result index_entry.Entry RevFault = Ok x in a) ≡ Ok y → x ≡ y
entry_ok x y h = cc

read_ok : (x y : index_entry.Entry) → (let a : Result index_entry.Entry EntryFault = Ok x in a) ≡ Ok y → x ≡ y
read_ok x y h = cc

fields_are : (a b c d : Bool) (f g h k : EntryFault) (x e : index_entry.Entry) → cond a (Err f) (cond b (Err g) (cond c (Err h) (cond d (Err k) (Ok x)))) ≡ Ok e → x ≡ e
fields_are true b c d f g h k x e is = cc
fields_are false true c d f g h k x e is = cc
fields_are false false true d f g h k x e is = cc
fields_are false false false true f g h k x e is = cc
fields_are false false false false f g h k x e is = read_ok x e is

entry_fields : (bytes : List ℕ) (rev : ℕ) (e : index_entry.Entry) → entry_at bytes rev ≡ Ok e → fields_of bytes rev ≡ e
entry_fields bytes rev e h =
    fields_are (rev == 0 && not (from_be_bytes w16 (part 2 2 bytes) == 1)) (rev == 0 && has_bad_header (from_be_bytes w16 (part 0 2 bytes))) (has_negative bytes) (has_padding bytes rev) Version HeaderFlags Negative Padding (fields_of bytes rev) e h

-- the node of an entry that was read
node_read : (before : List index_entry.Entry) (bytes : List ℕ) (e : index_entry.Entry) → entry_behind before bytes ≡ Ok e → e.node.0 ≡ take 20 (drop 32 bytes)
node_read before bytes e h = by (nat_le most_revisions (length before)) h
  where
    unless_is : (x : index_entry.Entry) (o : Option RevFault) → unless o x ≡ Ok e → x ≡ e
    unless_is x None h = entry_ok x e h
    unless_is x (Some f) h = cc

    checked_is : (r : Result index_entry.Entry EntryFault) → checked before r ≡ Ok e → r ≡ Ok e
    checked_is (Err f) h = cc
    checked_is (Ok x) h = ap (λ y. Ok y) (unless_is x (fault_of before x) h)

    separate_is : (s : Bool) (r : Result index_entry.Entry EntryFault) → cond s (Err HeaderFlags) r ≡ Ok e → r ≡ Ok e
    separate_is true r h = cc
    separate_is false r h = h

    by : (b : Bool) → cond b (Err (Limit Changesets)) (checked before (separate_at bytes (length before))) ≡ Ok e → e.node.0 ≡ take 20 (drop 32 bytes)
    by true h = cc
    by false h =
        let is : fields_of bytes (length before) ≡ e = entry_fields bytes (length before) e (separate_is (length before == 0 && says_inline (header_at bytes)) (entry_at bytes (length before)) (checked_is (separate_at bytes (length before)) h)) in
        ap (λ (x : index_entry.Entry). x.node.0) (sym is)

-- how many entries stand behind those of the log, up to the one with the node
pub ending : (node : Node) (n : ℕ) (log out : Log) (bytes : List ℕ) → load_from (Until node) n log bytes ≡ Ok out
    → (k : ℕ) × (length out.entries ≡ length log.entries + suc k) × (has_node node.0 k bytes ≡ false) × (has_node node.0 (suc k) bytes ≡ true)
ending node zero log out bytes h = cc
ending node (suc n) log out bytes h = by (ending node n) (entry_behind log.entries (take 64 bytes)) refl h
  where
    Found : Log → List ℕ → Type 0
    Found from rest = (k : ℕ) × (length out.entries ≡ length from.entries + suc k) × (has_node node.0 k rest ≡ false) × (has_node node.0 (suc k) rest ≡ true)

    one : (xs : List index_entry.Entry) (e : index_entry.Entry) → length (xs ++ e ∷ []) ≡ length xs + 1
    one xs e = length-append xs (e ∷ [])

    first_is : (e : index_entry.Entry) → entry_behind log.entries (take 64 bytes) ≡ Ok e → e.node.0 ≡ take 20 (drop 32 bytes)
    first_is e t = node_read log.entries (take 64 bytes) e t ∙ front_node bytes (take 64 bytes) refl

    by : ((log out : Log) (bytes : List ℕ) → load_from (Until node) n log bytes ≡ Ok out → (k : ℕ) × (length out.entries ≡ length log.entries + suc k) × (has_node node.0 k bytes ≡ false) × (has_node node.0 (suc k) bytes ≡ true)) →
        (r : Result index_entry.Entry RevFault) → entry_behind log.entries (take 64 bytes) ≡ r →
        after r (λ e. cond (same e.node.0 node.0) (Ok (with_entry log e)) (load_from (Until node) n (with_entry log e) (drop 64 bytes))) ≡ Ok out →
        (k : ℕ) × (length out.entries ≡ length log.entries + suc k) × (has_node node.0 k bytes ≡ false) × (has_node node.0 (suc k) bytes ≡ true)
    by more (Err f) t h = absurd (no_log f out h)
    by more (Ok e) t h = last (same e.node.0 node.0) refl h
      where
        at : {b : Bool} → same e.node.0 node.0 ≡ b → same (take 20 (drop 32 bytes)) node.0 ≡ b
        at s = ap (λ x. same x node.0) (sym (first_is e t)) ∙ s

        last : (b : Bool) → same e.node.0 node.0 ≡ b → cond b (Ok (with_entry log e)) (load_from (Until node) n (with_entry log e) (drop 64 bytes)) ≡ Ok out →
            (k : ℕ) × (length out.entries ≡ length log.entries + suc k) × (has_node node.0 k bytes ≡ false) × (has_node node.0 (suc k) bytes ≡ true)
        last true s h = (
          0,
          ap (λ (l : Log). length l.entries) (sym (log_is (with_entry log e) out h)) ∙ one log.entries e,
          refl,
          ap (λ b. b || false) (at s),
        )
        last false s h =
            let r = more (with_entry log e) out (drop 64 bytes) h in
            let size = one log.entries e in
            let long = r.1 in (
              suc r.0,
              omega (arith, size, long),
              ap (λ b. b || has_node node.0 r.0 (drop 64 bytes)) (at s) ∙ r.2,
              ap (λ b. b || has_node node.0 (suc r.0) (drop 64 bytes)) (at s) ∙ r.3,
            )

-- ---- an index is read far enough

below_is : (a b : ℕ) → nat_lt a b ≡ true → a < b
below_is a b h = grind (arith, nat_tests, h)

not_below : (a b : ℕ) → nat_lt a b ≡ false → b ≤ a
not_below a b h = grind (arith, nat_tests, h)

most_is : (a b : ℕ) → nat_le a b ≡ true → a ≤ b
most_is a b h = grind (arith, nat_tests, h)

above_is : (a b : ℕ) → nat_le a b ≡ false → b < a
above_is a b h = grind (arith, nat_tests, h)

true_false : (b : Bool) → b ≡ true → b ≡ false → ⊥
true_false true e f = cc
true_false false e f = cc

-- the piece at this place was read
abbrev asked_behind : List ℕ → List ℕ → ℕ → List ℕ → List ℕ → Asks (Result (List ℕ) ReadAnswer)
asked_behind index node left bytes piece = cond (is_last_of node piece) (answer (Ok bytes)) (bytes_until index node left bytes)

-- The k entries before have another node, and the next one has it: so much is read that it stands in what was read.
pub read_enough : (t : Tree) (index node : List ℕ) (k : ℕ) → has_node node k (bytes_at t index) ≡ false → has_node node (suc k) (bytes_at t index) ≡ true → 64 * suc k ≤ length (bytes_at t index)
    → (left a : ℕ) → a ≤ k → k < a + 1024 * left → (m : ℕ) × (at_rest t (bytes_until index node left (take (64 * a) (bytes_at t index))) ≡ Ok (take m (bytes_at t index))) × (64 * suc k ≤ m)
read_enough t index node k before there stands zero a low high = absurd (omega (arith, low, high))
read_enough t index node k before there stands (suc left) a low high = by (is_last_of node piece) refl (read_enough t index node k before there stands left (a + 1024))
  where
    bytes : List ℕ
    bytes = bytes_at t index

    piece : List ℕ
    piece = take 65536 (drop (64 * a) bytes)

    here : 64 * a ≤ length bytes
    here = omega (arith, low, stands)

    front : length (take (64 * a) bytes) ≡ 64 * a
    front = let l = length-take (64 * a) bytes in omega (arith, l, here)

    read : unwrap_or (part_of t index (length (take (64 * a) bytes)) piece_length) [] ≡ piece
    read = part_is (t index) (length (take (64 * a) bytes)) piece_length ∙ ap (λ n. take piece_length (drop n bytes)) front

    joined : take (64 * a) bytes ++ piece ≡ take (64 * a + 65536) bytes
    joined = sym (take-add (64 * a) 65536 bytes)

    step : at_rest t (bytes_until index node (suc left) (take (64 * a) bytes)) ≡ at_rest t (asked_behind index node left (take (64 * a + 65536) bytes) piece)
    step = ap (λ p. at_rest t (asked_behind index node left (take (64 * a) bytes ++ p) p)) read ∙ ap (λ l. at_rest t (asked_behind index node left l piece)) joined

    size : length piece ≡ min 65536 (length bytes - 64 * a)
    size = length-take 65536 (drop (64 * a) bytes) ∙ ap (λ n. min 65536 n) (length-drop (64 * a) bytes)

    none_before : has_node node a bytes ≡ false
    none_before = not_there (has_node node a bytes) refl
      where
        not_there : (b : Bool) → has_node node a bytes ≡ b → has_node node a bytes ≡ false
        not_there false e = e
        not_there true e = absurd (true_false (has_node node k bytes) (more_nodes node a k bytes low e) before)

    in_piece : length piece ≡ 65536 → has_node node (length piece / 64) piece ≡ has_node node (a + length piece / 64) bytes
    in_piece full =
        let whole : 64 * (length piece / 64) ≤ 65536 = omega (arith, full) in
        nodes_in_front node (length piece / 64) 65536 (drop (64 * a) bytes) whole
        ∙ sym (nodes_behind node a (length piece / 64) (a + length piece / 64) bytes (has_node node (length piece / 64) (drop (64 * a) bytes)) refl none_before refl)

    by : (b : Bool) → is_last_of node piece ≡ b → (a + 1024 ≤ k → k < (a + 1024) + 1024 * left → (m : ℕ) × (at_rest t (bytes_until index node left (take (64 * (a + 1024)) bytes)) ≡ Ok (take m bytes)) × (64 * suc k ≤ m))
        → (m : ℕ) × (at_rest t (bytes_until index node (suc left) (take (64 * a) bytes)) ≡ Ok (take m bytes)) × (64 * suc k ≤ m)
    by true e more =
        (64 * a + 65536, step ∙ ap (λ b. at_rest t (cond b (answer (Ok (take (64 * a + 65536) bytes))) (bytes_until index node left (take (64 * a + 65536) bytes)))) e, far (nat_lt (length piece) 65536) refl e)
      where
        far : (s : Bool) → nat_lt (length piece) 65536 ≡ s → (s || has_node node (length piece / 64) piece) ≡ true → 64 * suc k ≤ 64 * a + 65536
        far true s e = let short = below_is (length piece) 65536 s in omega (arith, short, size, stands)
        far false s e =
            let long = not_below (length piece) 65536 s in
            let full : length piece ≡ 65536 = omega (arith, long, size) in
            let count : a + length piece / 64 ≡ a + 1024 = omega (arith, full) in
            late (nat_le (suc k) (a + length piece / 64)) refl full (sym (in_piece full) ∙ e)
          where
            late : (b : Bool) → nat_le (suc k) (a + length piece / 64) ≡ b → length piece ≡ 65536 → has_node node (a + length piece / 64) bytes ≡ true → 64 * suc k ≤ 64 * a + 65536
            late true b full e = let le = most_is (suc k) (a + length piece / 64) b in omega (arith, le, full)
            late false b full e = absurd (true_false (has_node node k bytes) (more_nodes node (a + length piece / 64) k bytes (let gt = above_is (suc k) (a + length piece / 64) b in omega (arith, gt)) e) before)
    by false e more =
        let parts = either_false (nat_lt (length piece) 65536) (has_node node (length piece / 64) piece) e in
        let long = not_below (length piece) 65536 parts.0 in
        let full : length piece ≡ 65536 = omega (arith, long, size) in
        let later = not_yet full parts.1 (nat_le (a + 1024) k) refl in
        let r = more later (omega (arith, high)) in
        let count : 64 * a + 65536 ≡ 64 * (a + 1024) = omega arith in
        (r.0, step ∙ ap (λ b. at_rest t (cond b (answer (Ok (take (64 * a + 65536) bytes))) (bytes_until index node left (take (64 * a + 65536) bytes)))) e ∙ ap (λ n. at_rest t (bytes_until index node left (take n bytes))) count ∙ r.1, r.2)
      where
        not_yet : length piece ≡ 65536 → has_node node (length piece / 64) piece ≡ false → (b : Bool) → nat_le (a + 1024) k ≡ b → a + 1024 ≤ k
        not_yet full none true b = most_is (a + 1024) k b
        not_yet full none false b =
            let gt = above_is (a + 1024) k b in
            absurd (true_false (has_node node (a + length piece / 64) bytes) (more_nodes node (suc k) (a + length piece / 64) bytes (omega (arith, gt, full)) there) (sym (in_piece full) ∙ none))

-- ---- the text of the last revision

revision_is : (x y : Revision) → (let o : Option Revision = Some x in o) ≡ Some y → x ≡ y
revision_is x y e = cc

none_read : (x : List Revision) → (let a : Result (List Revision) RevFault = Ok [] in a) ≡ Ok x → [] ≡ x
none_read x e = cc

no_revision : (i : ℕ) (r : Revision) → (let l : List Revision = [] in slice_get l i) ≡ Some r → ⊥
no_revision i r h = cc

-- the entry and the text of one of the revisions that are read
pub read_there : (all entries : List index_entry.Entry) (data_bytes : List ℕ) (first i : ℕ) (revisions : List Revision) (r : Revision) → read_from all data_bytes first entries ≡ Ok revisions → slice_get revisions i ≡ Some r
    → (e : index_entry.Entry) × (slice_get entries i ≡ Some e) × (text_of all (first + i) (chunk_in data_bytes e) ≡ Ok r.text)
read_there all [] data_bytes first i revisions r texts found = absurd (no_revision i r (ap (λ l. slice_get l i) (none_read revisions texts) ∙ found))
read_there all (x ∷ entries) data_bytes first zero revisions r texts found =
    let w = with_text_ok x (text_of all first (chunk_in data_bytes x)) (read_from all data_bytes (suc first) entries) revisions texts in
    let same_revision : revision_of x w.0 ≡ r = revision_is (revision_of x w.0) r (ap (λ rs. slice_get rs 0) (sym w.4) ∙ found) in
    let here : first + 0 ≡ first = omega arith in
    (x, refl, ap (λ n. text_of all n (chunk_in data_bytes x)) here ∙ w.2 ∙ ap (λ (y : Revision). let a : Result (List ℕ) RevFault = Ok y.text in a) same_revision)
read_there all (x ∷ entries) data_bytes first (suc i) revisions r texts found =
    let w = with_text_ok x (text_of all first (chunk_in data_bytes x)) (read_from all data_bytes (suc first) entries) revisions texts in
    let next = read_there all entries data_bytes (suc first) i w.1 r w.3 (ap (λ rs. slice_get rs (suc i)) (sym w.4) ∙ found) in
    let there : first + suc i ≡ suc first + i = omega arith in
    (next.0, next.1, ap (λ n. text_of all n (chunk_in data_bytes next.0)) there ∙ next.2)

pub read_length : (all entries : List index_entry.Entry) (data_bytes : List ℕ) (first : ℕ) (revisions : List Revision) → read_from all data_bytes first entries ≡ Ok revisions → length revisions ≡ length entries
read_length all [] data_bytes first revisions texts = ap length (sym (none_read revisions texts))
read_length all (x ∷ entries) data_bytes first revisions texts =
    let w = with_text_ok x (text_of all first (chunk_in data_bytes x)) (read_from all data_bytes (suc first) entries) revisions texts in
    ap length w.4 ∙ ap suc (read_length all entries data_bytes (suc first) w.1 w.3)

module _ (t : Tree) (index chunks : List ℕ) (revisions : List Revision) (last : Revision) (node : List ℕ) (held : BeginsWithRevisions (bytes_at t index) (bytes_at t chunks) revisions) (ends : EndsFirstAt node revisions) (limits : AreWithinLimits revisions held.data_front) (is_last : slice_get revisions (length revisions - 1) ≡ Some last) where
  pub held-text : at_rest t (separate_asks index chunks node) ≡ Ok last.text
  held-text =
      let named : Node = record { 0 = node } in
      let h = front-until (bytes_at t index) (bytes_at t chunks) revisions named held ends limits in
      let log = h.0 in
      let r = until-refuse (bytes_at t index) log named h.1 in
      let e = ending named (length (bytes_at t index) / 64) (record { inline = false; entries = [] }) log (bytes_at t index) h.1 in
      let count = read_length log.entries log.entries (bytes_at t chunks) 0 revisions h.2 in
      let long : length log.entries ≡ suc e.0 = (let l = e.1 in omega (arith, l)) in
      let few = limits.few in
      let fits = r.2 in
      let m = read_enough t index node e.0 e.2 e.3 (omega (arith, fits, long)) 977 0 (omega arith) (omega (arith, few, count, long)) in
      let far : 64 * length log.entries ≤ m.0 = (let l = m.2 in omega (arith, l, long)) in
      let front : take m.0 (bytes_at t index) ≡ take (64 * length log.entries) (bytes_at t index) ++ drop (64 * length log.entries) (take m.0 (bytes_at t index)) =
      sym (take-append-drop (64 * length log.entries) (take m.0 (bytes_at t index))) ∙ ap (λ l. l ++ drop (64 * length log.entries) (take m.0 (bytes_at t index))) (take_less (64 * length log.entries) m.0 (bytes_at t index) far) in
      let loads : loaded (Until named) (take m.0 (bytes_at t index)) ≡ Ok log =
      ap (loaded (Until named)) front ∙ refuse-until (take (64 * length log.entries) (bytes_at t index)) (drop (64 * length log.entries) (take m.0 (bytes_at t index))) log named r.0 r.1 in
      let asked : at_rest t (log_until index node) ≡ Ok log =
      rest_then t (bytes_until index node most_pieces []) (λ bytes. answer (log_answer index (loaded (Until named) bytes))) (take m.0 (bytes_at t index)) m.1 ∙ ap (log_answer index) loads in
      let place : length revisions - 1 ≡ length log.entries - 1 = ap (λ n. n - 1) count in
      let there = read_there log.entries log.entries (bytes_at t chunks) 0 (length log.entries - 1) revisions last h.2 (ap (slice_get revisions) (sym place) ∙ is_last) in
      let from_first : 0 + (length log.entries - 1) ≡ length log.entries - 1 = omega arith in
      rest_then t (log_until index node) (λ log. text_at_asks index chunks log (place_of log.entries node)) log asked
      ∙ ap (λ o. at_rest t (text_at_asks index chunks log o)) r.1
      ∙ ap (λ o. at_rest t (chunk_asks chunks o (λ chunk. text_answer index (text_of log.entries (length log.entries - 1) chunk)))) there.1
      ∙ ap (λ chunk. text_answer index (text_of log.entries (length log.entries - 1) chunk)) (part_is (t chunks) there.0.offset there.0.stored)
      ∙ ap (text_answer index) (ap (λ n. text_of log.entries n (chunk_in (bytes_at t chunks) there.0)) (sym from_first) ∙ there.2)
