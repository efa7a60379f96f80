-- Texts that are read in turn, and the revisions that they give.
use Rattle.std.proofs.Common.{◌≤◌, ◌≡◌, ℕ, suc, ◌+◌, ◌<◌, List, [], ◌∷◌, ◌++◌, Bool, true, false, cond, ◌||◌, ◌&&◌, not, length, take, refl, sym, ◌∙◌, ap, subst, arith}
use Rattle.std.specs.Prelude.{Option, Some, None, Result, Ok, Err, is_ok, is_err, IsOk, IfSome, ◌==◌, nat_lt, nat_le, slice_get, slice_index_or}
use Rattle.std.specs.Cmp.Lexicographic.{bytes_decides}
use Rattle.std.specs.Result.{result_map_both}
use Rattle.std.proofs.lemmas.Bool.Decides.{nat_tests}
use Rattle.std.proofs.lemmas.List.{length-map, length-take, take_more}
use Rattle.std.proofs.lemmas.Option.{slice_get_within, get_or_from_slice_get}
use Rattle.std.proofs.Math.ListN.{get_or-append}
use Rattle.hgs_bytes.specs.Bytes.{same}
use Rattle.hgs_index.specs.declared.entry.Entry.{Entry}
use Rattle.hgs_index.specs.declared.entry.EntryFault.{EntryFault}
use Rattle.hgs_index.specs.declared.kinds.Which.TheVariants.{Changesets, Text, Data}
use Rattle.hgs_index.specs.Node.{null_node, node_hash}
use Rattle.hgs_index.specs.Revision.{Revision, parent_node}
use Rattle.hgs_index.specs.Revlog.{chunk_text}
use Rattle.hgs_revlog.specs.declared.fault.RevFault.{RevFault}
use Rattle.hgs_revlog.specs.declared.fault.RevFault.TheVariants as faults
use Rattle.hgs_revlog.specs.Load.{most_revisions, most_text, most_data, is_above, is_taken, unless, checked, separate_at, entry_behind}
use Rattle.hgs_revlog.specs.Log.{nodes_of, stored_sum}
use Rattle.hgs_revlog.specs.Text.{node_with, fitting_text, entry_text, text_at, text_of}
use Rattle.hgs_revlog.specs.Held.{chunk_in, with_text, read_from}
use Rattle.hgs_judge.specs.Read.{IsSound}
use Rattle.hgs_judge.proofs.Basics.{never, eq-test}

-- ---- entries behind others

at-most : (m n : ℕ) → nat_lt m n ≡ false → n ≤ m
at-most m n h = grind (arith, nat_tests)

below : (rev : ℕ) (p : Option ℕ) → is_above rev p ≡ false → IfSome p (λ x. x < rev)
below rev None h = tt
below rev (Some x) h = grind arith

-- an entry that is taken has its parents before it
pub parents-before : (before : List Entry) (bytes : List ℕ) (e : Entry) → entry_behind before bytes ≡ Ok e → IfSome e.p1 (λ p. p < length before) × IfSome e.p2 (λ p. p < length before)
parents-before before bytes e h = by (nat_le most_revisions (length before)) h
  where
    is : (x : Entry) → (let r : Result Entry RevFault = Ok x in r) ≡ Ok e → x ≡ e
    is x k = cc

    no : {A : Type 0} (f : RevFault) → (let r : Result Entry RevFault = Err f in r) ≡ Ok e → A
    no f k = absurd (clash k)
      where
        clash : (let r : Result Entry RevFault = Err f in r) ≡ Ok e → ⊥
        clash m = cc

    neither : (a b : Bool) → (a || b) ≡ false → (a ≡ false) × (b ≡ false)
    neither true b k = never k
    neither false b k = (refl, k)

    parents : (x : Entry) → (is_above (length before) x.p1 || is_above (length before) x.p2) ≡ false → x ≡ e → IfSome e.p1 (λ p. p < length before) × IfSome e.p2 (λ p. p < length before)
    parents x k same_it = let n = neither (is_above (length before) x.p1) (is_above (length before) x.p2) k in subst (λ (y : Entry). IfSome y.p1 (λ p. p < length before) × IfSome y.p2 (λ p. p < length before)) same_it (below (length before) x.p1 n.0, below (length before) x.p2 n.1)

    tests : (x : Entry) (a b : Bool) (f g : RevFault) (rest : Option RevFault) → (is_above (length before) x.p1 || is_above (length before) x.p2) ≡ b → unless (cond a (Some f) (cond b (Some g) rest)) x ≡ Ok e → IfSome e.p1 (λ p. p < length before) × IfSome e.p2 (λ p. p < length before)
    tests x true b f g rest t k = no f k
    tests x false true f g rest t k = no g k
    tests x false false f g None t k = parents x t (is x k)
    tests x false false f g (Some other) t k = no other k

    checked_at : (o : Result Entry EntryFault) → checked before o ≡ Ok e → IfSome e.p1 (λ p. p < length before) × IfSome e.p2 (λ p. p < length before)
    checked_at (Err f) k = no (faults.Entry (length before) f) k
    checked_at (Ok x) k = tests x _ (is_above (length before) x.p1 || is_above (length before) x.p2) _ _ _ refl k

    by : (b : Bool) → cond b (Err (faults.Limit Changesets)) (checked before (separate_at bytes (length before))) ≡ Ok e → IfSome e.p1 (λ p. p < length before) × IfSome e.p2 (λ p. p < length before)
    by true k = no (faults.Limit Changesets) k
    by false k = checked_at (separate_at bytes (length before)) k

-- and a text within the limit
pub size-small : (before : List Entry) (bytes : List ℕ) (e : Entry) → entry_behind before bytes ≡ Ok e → e.size ≤ most_text
size-small before bytes e h = by (nat_le most_revisions (length before)) h
  where
    is : (x : Entry) → (let r : Result Entry RevFault = Ok x in r) ≡ Ok e → x ≡ e
    is x k = cc

    no : {A : Type 0} (f : RevFault) → (let r : Result Entry RevFault = Err f in r) ≡ Ok e → A
    no f k = absurd (clash k)
      where
        clash : (let r : Result Entry RevFault = Err f in r) ≡ Ok e → ⊥
        clash m = cc

    tests : (x : Entry) (a b c d : Bool) (f g j k : RevFault) (rest : Option RevFault) → nat_lt most_text x.size ≡ d → unless (cond a (Some f) (cond b (Some g) (cond c (Some j) (cond d (Some k) rest)))) x ≡ Ok e → e.size ≤ most_text
    tests x true b c d f g j k rest t h = no f h
    tests x false true c d f g j k rest t h = no g h
    tests x false false true d f g j k rest t h = no j h
    tests x false false false true f g j k rest t h = no k h
    tests x false false false false f g j k (Some other) t h = no other h
    tests x false false false false f g j k None t h = subst (λ (y : Entry). y.size ≤ most_text) (is x h) (at-most most_text x.size t)

    checked_at : (o : Result Entry EntryFault) → checked before o ≡ Ok e → e.size ≤ most_text
    checked_at (Err f) k = no (faults.Entry (length before) f) k
    checked_at (Ok x) k = tests x (not (x.offset == stored_sum before)) (is_above (length before) x.p1 || is_above (length before) x.p2) (is_taken before x.node.0) (nat_lt most_text x.size) (faults.Offset (length before)) (faults.Parent (length before)) (faults.Twice (length before)) (faults.Limit Text) (cond (nat_lt most_data (x.offset + x.stored)) (Some (faults.Limit Data)) None) refl k

    by : (b : Bool) → cond b (Err (faults.Limit Changesets)) (checked before (separate_at bytes (length before))) ≡ Ok e → e.size ≤ most_text
    by true k = no (faults.Limit Changesets) k
    by false k = checked_at (separate_at bytes (length before)) k

length-nodes_of : (entries : List Entry) → length (nodes_of entries) ≡ length entries
length-nodes_of entries = length-map entries (λ (e : Entry). e.node.0)

pub nodes_of-append : (xs ys : List Entry) → nodes_of (xs ++ ys) ≡ nodes_of xs ++ nodes_of ys
nodes_of-append [] ys = refl
nodes_of-append (x ∷ xs) ys = ap (λ l. x.node.0 ∷ l) (nodes_of-append xs ys)

-- a parent that comes before is the same among more entries
parent-among : (before more : List Entry) (p : Option ℕ) → IfSome p (λ a. a < length before) → parent_node (nodes_of (before ++ more)) p ≡ parent_node (nodes_of before) p
parent-among before more None h = refl
parent-among before more (Some a) h =
    ap (λ known. slice_index_or known a null_node) (nodes_of-append before more)
    ∙ get_or-append (nodes_of before) (nodes_of more) null_node a (let n = length-nodes_of before in omega (arith, n, h))

pub node-among : (before more : List Entry) (e : Entry) (text : List ℕ) → IfSome e.p1 (λ p. p < length before) × IfSome e.p2 (λ p. p < length before) → node_with (before ++ more) e text ≡ node_hash (parent_node (nodes_of before) e.p1) (parent_node (nodes_of before) e.p2) text
node-among before more e text p =
    ap (λ n. node_hash n (parent_node (nodes_of (before ++ more)) e.p2) text) (parent-among before more e.p1 p.0)
    ∙ ap (λ n. node_hash (parent_node (nodes_of before) e.p1) n text) (parent-among before more e.p2 p.1)

pub slice_get-seam : (before : List Entry) (e : Entry) (more : List Entry) → slice_get (before ++ e ∷ more) (length before) ≡ Some e
slice_get-seam [] e more = refl
slice_get-seam (x ∷ before) e more = slice_get-seam before e more

-- ---- the text of an entry hangs on the entries before it alone

entry_text-same : (all other : List Entry) (rev : ℕ) (chunk : List ℕ) (e : Entry) → ((text : List ℕ) → node_with all e text ≡ node_with other e text) → entry_text all rev chunk e ≡ entry_text other rev chunk e
entry_text-same all other rev chunk e h = by (chunk_text chunk)
  where
    by : (o : Option (List ℕ)) → cond (not (e.flags == 0)) (Err (faults.Flagged rev)) (cond (not (e.base == rev)) (Err (faults.Delta rev)) (cond (nat_lt (length chunk) e.stored) (Err (faults.Short rev)) (fitting_text all rev e o)))
        ≡ cond (not (e.flags == 0)) (Err (faults.Flagged rev)) (cond (not (e.base == rev)) (Err (faults.Delta rev)) (cond (nat_lt (length chunk) e.stored) (Err (faults.Short rev)) (fitting_text other rev e o)))
    by None = refl
    by (Some text) = ap (λ n. cond (not (e.flags == 0)) (Err (faults.Flagged rev)) (cond (not (e.base == rev)) (Err (faults.Delta rev)) (cond (nat_lt (length chunk) e.stored) (Err (faults.Short rev)) (cond (not (length text == e.size)) (Err (faults.Length rev)) (cond (not (same n e.node.0)) (Err (faults.Hash rev)) (Ok text)))))) (h text)

pub text-seam : (before more : List Entry) (e : Entry) (chunk : List ℕ) → IfSome e.p1 (λ p. p < length before) × IfSome e.p2 (λ p. p < length before) → text_of (before ++ e ∷ more) (length before) chunk ≡ text_of (before ++ e ∷ []) (length before) chunk
text-seam before more e chunk p =
    ap (text_at (before ++ e ∷ more) (length before) chunk) (slice_get-seam before e more)
    ∙ entry_text-same (before ++ e ∷ more) (before ++ e ∷ []) (length before) chunk e (λ text. node-among before (e ∷ more) e text p ∙ sym (node-among before (e ∷ []) e text p))
    ∙ sym (ap (text_at (before ++ e ∷ []) (length before) chunk) (slice_get-seam before e []))

-- a text that reads has the node of its entry
pub text-node : (all : List Entry) (rev : ℕ) (chunk text : List ℕ) (e : Entry) → entry_text all rev chunk e ≡ Ok text → node_with all e text ≡ e.node.0
text-node all rev chunk text e h = tests (not (e.flags == 0)) (not (e.base == rev)) (nat_lt (length chunk) e.stored) (chunk_text chunk) h
  where
    is : (x : List ℕ) → (let r : Result (List ℕ) RevFault = Ok x in r) ≡ Ok text → x ≡ text
    is x k = cc

    no : {A : Type 0} (f : RevFault) → (let r : Result (List ℕ) RevFault = Err f in r) ≡ Ok text → A
    no f k = absurd (clash k)
      where
        clash : (let r : Result (List ℕ) RevFault = Err f in r) ≡ Ok text → ⊥
        clash m = cc

    fits : (x : List ℕ) (a b : Bool) → same (node_with all e x) e.node.0 ≡ b → cond (not a) (Err (faults.Length rev)) (cond (not b) (Err (faults.Hash rev)) (Ok x)) ≡ Ok text → node_with all e text ≡ e.node.0
    fits x false b t k = no (faults.Length rev) k
    fits x true false t k = no (faults.Hash rev) k
    fits x true true t k = ap (node_with all e) (sym (is x k)) ∙ (bytes_decides (node_with all e x) e.node.0).0 t

    tests : (a b c : Bool) (o : Option (List ℕ)) → cond a (Err (faults.Flagged rev)) (cond b (Err (faults.Delta rev)) (cond c (Err (faults.Short rev)) (fitting_text all rev e o))) ≡ Ok text → node_with all e text ≡ e.node.0
    tests true b c o k = no (faults.Flagged rev) k
    tests false true c o k = no (faults.Delta rev) k
    tests false false true o k = no (faults.Short rev) k
    tests false false false None k = no (faults.Compressed rev) k
    tests false false false (Some x) k = fits x (length x == e.size) (same (node_with all e x) e.node.0) refl k

-- and the length that its entry says
pub text-size : (all : List Entry) (rev : ℕ) (chunk text : List ℕ) (e : Entry) → entry_text all rev chunk e ≡ Ok text → length text ≡ e.size
text-size all rev chunk text e h = tests (not (e.flags == 0)) (not (e.base == rev)) (nat_lt (length chunk) e.stored) (chunk_text chunk) h
  where
    is : (x : List ℕ) → (let r : Result (List ℕ) RevFault = Ok x in r) ≡ Ok text → x ≡ text
    is x k = cc

    no : {A : Type 0} (f : RevFault) → (let r : Result (List ℕ) RevFault = Err f in r) ≡ Ok text → A
    no f k = absurd (clash k)
      where
        clash : (let r : Result (List ℕ) RevFault = Err f in r) ≡ Ok text → ⊥
        clash m = cc

    fits : (x : List ℕ) (a b : Bool) → (length x == e.size) ≡ a → cond (not a) (Err (faults.Length rev)) (cond b (Err (faults.Hash rev)) (Ok x)) ≡ Ok text → length text ≡ e.size
    fits x false b t k = no (faults.Length rev) k
    fits x true true t k = no (faults.Hash rev) k
    fits x true false t k = ap length (sym (is x k)) ∙ eq-test (length x) e.size t

    tests : (a b c : Bool) (o : Option (List ℕ)) → cond a (Err (faults.Flagged rev)) (cond b (Err (faults.Delta rev)) (cond c (Err (faults.Short rev)) (fitting_text all rev e o))) ≡ Ok text → length text ≡ e.size
    tests true b c o k = no (faults.Flagged rev) k
    tests false true c o k = no (faults.Delta rev) k
    tests false false true o k = no (faults.Short rev) k
    tests false false false None k = no (faults.Compressed rev) k
    tests false false false (Some x) k = fits x (length x == e.size) (not (same (node_with all e x) e.node.0)) refl k

-- ---- texts in turn

with-text : (e : Entry) (t : Result (List ℕ) RevFault) (more : Result (List Revision) RevFault) → is_ok (with_text e t more) ≡ (is_ok t && is_ok more)
with-text e (Err f) more = refl
with-text e (Ok text) (Err f) = refl
with-text e (Ok text) (Ok revisions) = refl

read-push : (all : List Entry) (data_bytes : List ℕ) (k : ℕ) (xs : List Entry) (e : Entry) → is_ok (read_from all data_bytes k (xs ++ e ∷ [])) ≡ (is_ok (read_from all data_bytes k xs) && is_ok (text_of all (k + length xs) (chunk_in data_bytes e)))
read-push all data_bytes k [] e = with-text e (text_of all k (chunk_in data_bytes e)) (Ok []) ∙ by (is_ok (text_of all k (chunk_in data_bytes e))) ∙ ap (λ n. is_ok (text_of all n (chunk_in data_bytes e))) (let n : k ≡ k + 0 = omega arith in n)
  where
    by : (b : Bool) → (b && true) ≡ b
    by true = refl
    by false = refl
read-push all data_bytes k (x ∷ xs) e =
    with-text x (text_of all k (chunk_in data_bytes x)) (read_from all data_bytes (suc k) (xs ++ e ∷ []))
    ∙ ap (λ b. is_ok (text_of all k (chunk_in data_bytes x)) && b) (read-push all data_bytes (suc k) xs e)
    ∙ by (is_ok (text_of all k (chunk_in data_bytes x))) (is_ok (read_from all data_bytes (suc k) xs)) (is_ok (text_of all (suc k + length xs) (chunk_in data_bytes e)))
    ∙ ap (λ b. b && is_ok (text_of all (suc k + length xs) (chunk_in data_bytes e))) (sym (with-text x (text_of all k (chunk_in data_bytes x)) (read_from all data_bytes (suc k) xs)))
    ∙ ap (λ n. is_ok (with_text x (text_of all k (chunk_in data_bytes x)) (read_from all data_bytes (suc k) xs)) && is_ok (text_of all n (chunk_in data_bytes e))) (let n : suc k + length xs ≡ k + suc (length xs) = omega arith in n)
  where
    by : (a b c : Bool) → (a && (b && c)) ≡ ((a && b) && c)
    by true b c = refl
    by false b c = refl

-- the first texts read, and the next does too
pub read-more : (entries : List Entry) (data_bytes : List ℕ) (i : ℕ) (e : Entry) → slice_get entries i ≡ Some e → IsOk (read_from entries data_bytes 0 (take i entries)) → IsOk (text_of entries i (chunk_in data_bytes e)) → IsOk (read_from entries data_bytes 0 (take (i + 1) entries))
read-more entries data_bytes i e at before here =
    let lt : i < length entries = slice_get_within entries i e at in
    ap (λ l. is_ok (read_from entries data_bytes 0 l)) (take_more entries i e lt ∙ ap (λ x. take i entries ++ x ∷ []) (get_or_from_slice_get entries i e e at))
    ∙ read-push entries data_bytes 0 (take i entries) e
    ∙ ap (λ b. b && is_ok (text_of entries (0 + length (take i entries)) (chunk_in data_bytes e))) before
    ∙ ap (λ n. is_ok (text_of entries n (chunk_in data_bytes e))) (let n : 0 + length (take i entries) ≡ i = (let l = length-take i entries in omega (arith, l, lt)) in n)
    ∙ here

pub ok-both : {T U E D : Type 0} (f : T → U) (g : E → D) (r : Result T E) → is_ok (result_map_both f g r) ≡ is_ok r
ok-both f g (Ok x) = refl
ok-both f g (Err e) = refl

pub err-both : {T U E D : Type 0} (f : T → U) (g : E → D) (r : Result T E) → is_err (result_map_both f g r) ≡ is_err r
err-both f g (Ok x) = refl
err-both f g (Err e) = refl

-- all texts read
pub all-sound : (entries : List Entry) (data_bytes : List ℕ) (count : ℕ) → count ≡ length entries → IsOk (read_from entries data_bytes 0 (take count entries)) → IsSound entries data_bytes count
all-sound entries data_bytes count is read = record {
  within = omega (arith, is);
  read = read;
  next = λ e at. absurd (let w = slice_get_within entries count e at in omega (arith, w, is));
}
