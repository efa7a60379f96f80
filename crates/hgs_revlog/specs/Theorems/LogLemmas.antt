-- One more entry: the revision of each node, and the bytes that the chunks take.
use Rattle.std.proofs.Common.{◌≡◌, ℕ, suc, ◌+◌, ◌≤◌, Bool, true, false, cond, List, [], ◌∷◌, ◌++◌, length, Option, Some, None, refl, sym, ◌∙◌, ap, arith}
use Rattle.std.specs.Prelude.{◌==◌, nat_lt, not, position}
use Rattle.std.specs.List.{position_or_len}
use Rattle.std.specs.Ordering.{nat_cmp}
use Rattle.std.specs.BTreeMap.{is_at}
use Rattle.std.specs.Cmp.Lexicographic.{slice_cmp}
use Rattle.std.proofs.lemmas.List.Folds.{position_or_len_push}
use Rattle.std.proofs.lemmas.List.Sums.{sum_by_push, prefix_len-le-length}
use Rattle.std.proofs.lemmas.List.{length_push}
use Rattle.std.proofs.lemmas.Map.Text.{is_eq-slice_cmp}
use Rattle.std.proofs.lemmas.Slice.Eq.{bytes_eq-Decides}
use Rattle.hgs_bytes.specs.Bytes.{same}
use Rattle.hgs_index.specs.declared.entry.Entry.{Entry}
use Rattle.hgs_revlog.specs.Log.{place_of, stored_sum, nodes_of}

-- the same bytes are one list
pub equal_from_same : (x y : List ℕ) → same x y ≡ true → x ≡ y
equal_from_same x y h = (bytes_eq-Decides x y).0 h

pub same_itself : (x : List ℕ) → same x x ≡ true
same_itself x = (bytes_eq-Decides x x).1 refl

none_then : (n len more : ℕ) (b : Bool) → n ≤ len → more ≡ cond (n == len) (len + cond b 0 1) n → cond (nat_lt n len) (Some n) None ≡ None → cond (nat_lt more (len + 1)) (Some more) None ≡ cond b (Some len) None
none_then n len more true h e none = grind arith
none_then n len more false h e none = grind arith

some_then : (n len more i : ℕ) (b : Bool) → n ≤ len → more ≡ cond (n == len) (len + cond b 0 1) n → cond (nat_lt n len) (Some n) None ≡ Some i → cond (nat_lt more (len + 1)) (Some more) None ≡ Some i
some_then n len more i true h e is = grind arith
some_then n len more i false h e is = grind arith

pub position_push_none : {A : Type 0} (p : A → Bool) (xs : List A) (y : A) → position p xs ≡ None → position p (xs ++ y ∷ []) ≡ cond (p y) (Some (length xs)) None
position_push_none p xs y h =
    ap (λ len. cond (nat_lt (position_or_len p (xs ++ y ∷ [])) len) (Some (position_or_len p (xs ++ y ∷ []))) None) (length_push xs y)
    ∙ none_then (position_or_len p xs) (length xs) (position_or_len p (xs ++ y ∷ [])) (p y) (prefix_len-le-length (λ x. not (p x)) xs) (position_or_len_push p xs y) h

pub position_push_some : {A : Type 0} (p : A → Bool) (xs : List A) (y : A) (i : ℕ) → position p xs ≡ Some i → position p (xs ++ y ∷ []) ≡ Some i
position_push_some p xs y i h =
    ap (λ len. cond (nat_lt (position_or_len p (xs ++ y ∷ [])) len) (Some (position_or_len p (xs ++ y ∷ []))) None) (length_push xs y)
    ∙ some_then (position_or_len p xs) (length xs) (position_or_len p (xs ++ y ∷ [])) i (p y) (prefix_len-le-length (λ x. not (p x)) xs) (position_or_len_push p xs y) h

-- The revision of each node after one more entry: where a table tells it before, and the entry's node is new, the table
-- with that node at the next revision tells it after.
place_at : (xs : List Entry) (e : Entry) (q : List ℕ) (before after : Option ℕ) (here : Bool) → before ≡ place_of xs q → (same e.node.0 q ≡ true → before ≡ None) → same e.node.0 q ≡ here → after ≡ cond here (Some (length xs)) before → after ≡ place_of (xs ++ e ∷ []) q
place_at xs e q None after here is new test then = then ∙ ap (λ b. cond b (Some (length xs)) None) (sym test) ∙ sym (position_push_none (λ x. same x.node.0 q) xs e (sym is))
place_at xs e q (Some i) after true is new test then = absurd (let no : Some i ≡ None = new test in cc)
place_at xs e q (Some i) after false is new test then = then ∙ sym (position_push_some (λ x. same x.node.0 q) xs e i (sym is))

pub place_push : (xs : List Entry) (e : Entry) (old new : List ℕ → Option ℕ) → ((q : List ℕ) → old q ≡ place_of xs q) → place_of xs e.node.0 ≡ None
    → ((q : List ℕ) → new q ≡ cond (is_at (slice_cmp nat_cmp e.node.0) q) (Some (length xs)) (old q)) → (q : List ℕ) → new q ≡ place_of (xs ++ e ∷ []) q
place_push xs e old new was fresh is q =
    place_at xs e q (old q) (new q) (is_at (slice_cmp nat_cmp e.node.0) q) (was q)
    (λ t. was q ∙ ap (place_of xs) (sym (equal_from_same e.node.0 q t)) ∙ fresh) (sym (is_eq-slice_cmp e.node.0 q)) (is q)

pub sum_push : (xs : List Entry) (e : Entry) → stored_sum (xs ++ e ∷ []) ≡ stored_sum xs + e.stored
sum_push xs e = sum_by_push (λ (x : Entry). x.stored) xs e

pub length-nodes_of : (entries : List Entry) → length (nodes_of entries) ≡ length entries
length-nodes_of [] = refl
length-nodes_of (e ∷ entries) = ap suc (length-nodes_of entries)
