-- Heads by branch, and their lines.
use Rattle.std.proofs.Common.{◌≡◌, ◌<◌, ◌≤◌, ℕ, zero, suc, ◌+◌, ◌-◌, Bool, true, false, cond, ◌&&◌, List, [], ◌∷◌, ◌++◌, append_assoc, append-nil, length, Some, refl, sym, ◌∙◌, ap, inl, inr, arith}
use Rattle.std.specs.Prelude.{◌==◌, ◌↔◌, flat_map, if◌then◌else◌, not, slice_get, slice_index_or, insert}
use Rattle.std.specs.List.{filter, list_any, range_with_len}
use Rattle.hex.specs.Hex.{encode_with}
use Rattle.hgs_bytes.specs.Bytes.{same, is_below}
use Rattle.hgs_bytes.specs.Theorems.ByteLemmas.{same-eq, same-refl}
use Rattle.hgs_index.specs.Ancestor.{is_ancestor}
use Rattle.hgs_index.specs.Revision.{Parents, ParentsBefore}
use Rattle.hgs_index.specs.Theorems.AncestorTestLemmas.{is_ancestor-decides}
use Rattle.hgs_index.specs.Hex.{hex}
use Rattle.hgs_index.specs.declared.entry.Entry.{Entry}
use Rattle.hgs_revlog.specs.Log.{nodes_of}
use Rattle.hgs_branch.specs.Heads.{branch_at, by_branch, goes_on, is_head, with_head, IsHead}
use Rattle.hgs_branch.specs.Kept.{names_in, TracksCourse}
use Rattle.hgs_branch.specs.Reached.{IsLeftWithin}
use Rattle.hgs_branch.specs.Text.{branches_text, head_line, head_lines, node_text}
use Rattle.hgs_branch.specs.Tracked.{numbers_in, parents_in}
use Rattle.hgs_branch.specs.declared.course.Course.{Course}
use Rattle.hgs_branch.specs.declared.reach.Known.{Known}
use Rattle.hgs_branch.proofs.ListLemmas.{both, both_of, either, either_left, either_right, false_is, get_map, get_there, length_map, not_number, number_same, same_number, some_is, true_or_false}
use Rattle.hgs_branch.proofs.TrackLemmas.{marks_are_exact}

-- ---- one changeset after another

-- so many first ones were looked at
pub filter_next : (test : ℕ → Bool) (heads next : List ℕ) (rev n : ℕ) → rev < n → next ≡ heads ++ (if test rev then rev ∷ [] else []) → next ++ filter test (range_with_len (rev + 1) (n - (rev + 1))) ≡ heads ++ filter test (range_with_len rev (n - rev))
filter_next test heads next rev n lt is =
    ap (λ h. h ++ filter test (range_with_len (rev + 1) (n - (rev + 1)))) is ∙ append_assoc heads (if test rev then rev ∷ [] else []) (filter test (range_with_len (rev + 1) (n - (rev + 1)))) ∙ ap (λ l. heads ++ l) (by (test rev))
    ∙ sym (ap (λ k. heads ++ filter test (range_with_len rev k)) more)
  where
    more : n - rev ≡ suc (n - (rev + 1))
    more = omega (arith, lt)

    by : (b : Bool) → (if b then rev ∷ [] else []) ++ filter test (range_with_len (rev + 1) (n - (rev + 1))) ≡ cond b (rev ∷ filter test (range_with_len (rev + 1) (n - (rev + 1)))) (filter test (range_with_len (rev + 1) (n - (rev + 1))))
    by true = refl
    by false = refl

pub filter_done : (test : ℕ → Bool) (heads : List ℕ) (rev n : ℕ) → n ≤ rev → heads ++ filter test (range_with_len rev (n - rev)) ≡ heads
filter_done test heads rev n le = ap (λ k. heads ++ filter test (range_with_len rev k)) none ∙ append-nil heads
  where
    none : n - rev ≡ 0
    none = omega (arith, le)

pub by_branch_same : (test also : ℕ → Bool) (names : List (List ℕ)) (heads : List ℕ) (start n : ℕ) → ((c : ℕ) → c < start + n → test c ≡ also c) → by_branch test names heads (range_with_len start n) ≡ by_branch also names heads (range_with_len start n)
by_branch_same test also names heads start zero h = refl
by_branch_same test also names heads start (suc n) h =
    ap (λ b. by_branch test names (if b then with_head names start heads else heads) (range_with_len (start + 1) n)) (h start (omega arith))
    ∙ by_branch_same test also names (if also start then with_head names start heads else heads) (start + 1) n (λ c lt. h c (omega (arith, lt)))

pub flat_map_more : {A B : Type 0} (f : A → List B) (xs : List A) (x : A) → flat_map f (xs ++ x ∷ []) ≡ flat_map f xs ++ f x
flat_map_more f [] x = append-nil (f x)
flat_map_more f (y ∷ xs) x = ap (λ l. f y ++ l) (flat_map_more f xs x) ∙ sym (append_assoc (f y) (flat_map f xs) (f x))

-- ---- what the test of heads says

any_from : (a n : ℕ) (test : ℕ → Bool) → list_any test (range_with_len a n) ≡ true → (m : ℕ) × (m < a + n) × (test m ≡ true)
any_from a zero test h = false_is h
any_from a (suc n) test h = elim (either (test a) (list_any test (range_with_len (a + 1) n)) h) [
  | inl k ↦ (a, omega arith, k)
  | inr k ↦ (let m = any_from (a + 1) n test k in let lt = m.1 in (m.0, omega (arith, lt), m.2))
]

from_any : (a n : ℕ) (test : ℕ → Bool) (m : ℕ) → a ≤ m → m < a + n → test m ≡ true → list_any test (range_with_len a n) ≡ true
from_any a zero test m low high h = absurd (omega (arith, low, high))
from_any a (suc n) test m low high h = elim (true_or_false (m == a)) [
  | inl e ↦ either_left (test a) (list_any test (range_with_len (a + 1) n)) (ap test (sym (number_same m a e)) ∙ h)
  | inr e ↦ either_right (test a) (list_any test (range_with_len (a + 1) n)) (from_any (a + 1) n test m (let ne = not_number m a e in above a m low ne) (omega (arith, high)) h)
]
  where
    above : (x y : ℕ) → x ≤ y → (y ≡ x → ⊥) → x + 1 ≤ y
    above x y l k = omega (arith, l, k)

not_true_is : (b : Bool) → not b ≡ true → b ≡ true → ⊥
not_true_is true h k = false_is h
not_true_is false h k = false_is k

is_not : (b : Bool) → (b ≡ true → ⊥) → not b ≡ true
is_not true h = absurd (h refl)
is_not false h = refl

at_place : (names : List (List ℕ)) (c : ℕ) → c < length names → slice_get names c ≡ Some (branch_at names c)
at_place [] c lt = absurd (omega (arith, lt))
at_place (n ∷ names) zero lt = refl
at_place (n ∷ names) (suc c) lt = at_place names c (omega (arith, lt))

pub test_is : (parents : List Parents) (names : List (List ℕ)) (rev : ℕ) → ParentsBefore 0 parents → length parents ≡ length names → rev < length names → (is_head parents names rev ≡ true ↔ IsHead parents names rev)
test_is parents names rev b long low = (
  λ h. record {
    there = low;
    last = λ other o same_name above. elim (true_or_false (other == rev)) [
      | inl e ↦ number_same other rev e
      | inr e ↦ absurd (not_true_is (list_any (goes_on parents names rev) (range_with_len 0 (length names))) h (from_any 0 (length names) (goes_on parents names rev) other (omega arith) (omega (arith, o))
          (both_of (same (branch_at names other) (branch_at names rev) && is_ancestor parents rev other) (not (other == rev))
          (both_of (same (branch_at names other) (branch_at names rev)) (is_ancestor parents rev other) (same_names other o same_name) ((is_ancestor-decides parents b rev other (omega (arith, o, long))).1 above)) (ap not e))))
    ];
  },
  λ h. is_not (list_any (goes_on parents names rev) (range_with_len 0 (length names))) (λ any. other_head h (any_from 0 (length names) (goes_on parents names rev) any)),
)
  where
    same_names : (other : ℕ) → other < length names → slice_get names other ≡ slice_get names rev → same (branch_at names other) (branch_at names rev) ≡ true
    same_names other o e = ap (λ x. same x (branch_at names rev)) (some_is (branch_at names other) (branch_at names rev) (sym (at_place names other o) ∙ e ∙ at_place names rev low)) ∙ same-refl (branch_at names rev)

    other_head : IsHead parents names rev → (m : ℕ) × (m < 0 + length names) × (goes_on parents names rev m ≡ true) → ⊥
    other_head h m =
        let p = both (same (branch_at names m.0) (branch_at names rev) && is_ancestor parents rev m.0) (not (m.0 == rev)) m.2 in
        let q = both (same (branch_at names m.0) (branch_at names rev)) (is_ancestor parents rev m.0) p.0 in
        let o : m.0 < length names = (let lt = m.1 in omega (arith, lt)) in
        let e = h.last m.0 o (at_place names m.0 o ∙ ap (λ x. Some x) (same-eq (branch_at names m.0) (branch_at names rev) q.0) ∙ sym (at_place names rev low)) ((is_ancestor-decides parents b rev m.0 (omega (arith, o, long))).0 q.1) in
        not_true_is (m.0 == rev) p.1 (ap (λ x. x == rev) e ∙ same_number rev)

-- ---- numbers and names

name_at : (names : List (List ℕ)) (number : ℕ) → number < length names → slice_get names number ≡ Some (slice_index_or names number [])
name_at names number lt = at_place names number lt

numbers_are_names : (course : Course) → TracksCourse course → (c d : ℕ) → c < length course.known.items → d < length course.known.items →
    (slice_get (numbers_in course.known.items) c ≡ slice_get (numbers_in course.known.items) d ↔ slice_get (names_in course.names.items course.known.items) c ≡ slice_get (names_in course.names.items course.known.items) d)
numbers_are_names course t c d lc ld = (
  λ e. name_at_place c lc ∙ ap (λ n. Some (slice_index_or names n [])) (some_is (number c lc) (number d ld) (sym (number_at_place c lc) ∙ e ∙ number_at_place d ld)) ∙ sym (name_at_place d ld),
  λ e. number_at_place c lc ∙ same_place (number c lc) (number d ld) (slice_index_or names (number d ld) []) (name_at names (number c lc) (t.numbers c (number c lc) (number_at_place c lc)) ∙ sym (name_at_place c lc) ∙ e ∙ name_at_place d ld)
      (name_at names (number d ld) (t.numbers d (number d ld) (number_at_place d ld))) ∙ sym (number_at_place d ld),
)
  where
    names : List (List ℕ)
    names = course.names.items

    number : (i : ℕ) → i < length course.known.items → ℕ
    number i lt = (get_there course.known.items i lt).0.branch

    number_at_place : (i : ℕ) (lt : i < length course.known.items) → slice_get (numbers_in course.known.items) i ≡ Some (number i lt)
    number_at_place i lt = get_map (λ (x : Known). x.branch) course.known.items i (get_there course.known.items i lt).0 (get_there course.known.items i lt).1

    name_at_place : (i : ℕ) (lt : i < length course.known.items) → slice_get (names_in names course.known.items) i ≡ Some (slice_index_or names (number i lt) [])
    name_at_place i lt = get_map (λ (x : Known). slice_index_or names x.branch []) course.known.items i (get_there course.known.items i lt).0 (get_there course.known.items i lt).1

    -- a name has one number
    same_place : (a b : ℕ) (name : List ℕ) → slice_get names a ≡ Some name → slice_get names b ≡ Some name → Some a ≡ Some b
    same_place a b name at also = sym (t.numbered a name at) ∙ t.numbered b name also

bools_same : (a b : Bool) → (a ≡ true → b ≡ true) → (b ≡ true → a ≡ true) → a ≡ b
bools_same true b h k = sym (h refl)
bools_same false true h k = k refl
bools_same false false h k = refl

-- the marks are those of the heads
pub marks_are_heads : (course : Course) → TracksCourse course → IsLeftWithin course.reaches.items 0 0 → ParentsBefore 0 (parents_in course.known.items) → (c : ℕ) → c < length course.known.items → slice_index_or course.heads.items c false ≡ is_head (parents_in course.known.items) (names_in course.names.items course.known.items) c
marks_are_heads course t none b c low = bools_same (slice_index_or course.heads.items c false) (is_head (parents_in known) (names_in names known) c) (λ op. test.1 (by_names (exact.0 op))) (λ h. exact.1 (by_numbers (test.0 h)))
  where
    known : List Known
    known = course.known.items

    names : List (List ℕ)
    names = course.names.items

    exact : slice_index_or course.heads.items c false ≡ true ↔ IsHead (parents_in known) (numbers_in known) c
    exact = marks_are_exact known course.heads.items course.reaches.items c t.reached none b low

    long_names : length (names_in names known) ≡ length known
    long_names = length_map (λ (x : Known). slice_index_or names x.branch []) known

    long_numbers : length (numbers_in known) ≡ length known
    long_numbers = length_map (λ (x : Known). x.branch) known

    long_parents : length (parents_in known) ≡ length known
    long_parents = length_map (λ (x : Known). (x.p1, x.p2)) known

    test : is_head (parents_in known) (names_in names known) c ≡ true ↔ IsHead (parents_in known) (names_in names known) c
    test = test_is (parents_in known) (names_in names known) c b (let a = long_names in let d = long_parents in omega (arith, a, d)) (let a = long_names in omega (arith, a, low))

    by_names : IsHead (parents_in known) (numbers_in known) c → IsHead (parents_in known) (names_in names known) c
    by_names h = record {
      there = let a = long_names in omega (arith, a, low);
      last = λ other o e above. let o_low : other < length known = (let a = long_names in omega (arith, a, o)) in h.last other (let a = long_numbers in omega (arith, a, o_low)) ((numbers_are_names course t other c o_low low).1 e) above;
    }

    by_numbers : IsHead (parents_in known) (names_in names known) c → IsHead (parents_in known) (numbers_in known) c
    by_numbers h = record {
      there = let a = long_numbers in omega (arith, a, low);
      last = λ other o e above. let o_low : other < length known = (let a = long_numbers in omega (arith, a, o)) in h.last other (let a = long_names in omega (arith, a, o_low)) ((numbers_are_names course t other c o_low low).0 e) above;
    }

pub lines_are_text : (course : Course) (nodes : List (List ℕ)) → TracksCourse course → IsLeftWithin course.reaches.items 0 0 → ParentsBefore 0 (parents_in course.known.items) →
    head_lines (λ rev. slice_index_or course.heads.items rev false) (names_in course.names.items course.known.items) nodes ≡ branches_text (parents_in course.known.items) (names_in course.names.items course.known.items) nodes
lines_are_text course nodes t none b =
    ap (flat_map (head_line names nodes)) (by_branch_same (λ rev. slice_index_or course.heads.items rev false) (is_head (parents_in course.known.items) names) names [] 0 (length names) (λ c lt. marks_are_heads course t none b c (low c lt)))
  where
    names : List (List ℕ)
    names = names_in course.names.items course.known.items

    low : (c : ℕ) → c < 0 + length names → c < length course.known.items
    low c lt = let a = length_map (λ (x : Known). slice_index_or course.names.items x.branch []) course.known.items in omega (arith, a, lt)

pub index_past : (xs : List (List ℕ)) (i : ℕ) → length xs ≤ i → slice_index_or xs i [] ≡ []
index_past [] i le = refl
index_past (x ∷ xs) zero le = absurd (omega (arith, le))
index_past (x ∷ xs) (suc i) le = index_past xs i (omega (arith, le))

pub no_node : (entries : List Entry) (rev : ℕ) → length entries ≤ rev → node_text (nodes_of entries) rev ≡ []
unfolding encode_with
no_node entries rev le = ap hex (index_past (nodes_of entries) rev (let a = length_map (λ (e : Entry). e.node.0) entries in omega (arith, a, le)))
