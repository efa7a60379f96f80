-- Bookmarks by revision and by node.
use Rattle.std.proofs.Common.{◌≡◌, ℕ, List, [], ◌∷◌, Bool, true, false, cond, ◌&&◌, not, map, refl, sym, ◌∙◌, ap}
use Rattle.std.specs.List.{AllByRecursion}
use Rattle.std.specs.Cmp.Lexicographic.{slice_cmp, nat_list_cmp_total, lists_ties}
use Rattle.std.specs.Cmp.{unsigned_ties}
use Rattle.std.specs.Ordering.{nat_cmp, is_lt, is_eq, match_ordering}
use Rattle.std.specs.declared.cmp.Ordering.{Ordering}
use Rattle.std.specs.declared.cmp.Ordering.TheVariants.{Less, Equal, Greater}
use Rattle.std.proofs.lemmas.Slice.Eq.{bytes_eq-Decides}
use Rattle.hgs_bytes.specs.Bytes.{same, is_below}
use Rattle.hgs_bytes.specs.Text.{ascends}
use Rattle.hgs_marks.specs.Bookmarks.{with_mark as with_node, without}
use Rattle.hgs_model.specs.Repo.{Bookmark}
use Rattle.hgs_model.specs.Step.{with_mark, without_mark}
use Rattle.hgs_stands.specs.Stands.{mark_of}

-- ---- texts

tied : (x y : List ℕ) → same x y ≡ is_eq (slice_cmp nat_cmp x y)
tied x y = lists_ties nat_cmp unsigned_ties x y

swapped : (x y : List ℕ) → same x y ≡ same y x
swapped x y = by (same x y) refl (same y x) refl
  where
    clash : true ≡ false → ⊥
    clash h = cc

    one_way : (a b : List ℕ) → same a b ≡ true → same b a ≡ true
    one_way a b h = (bytes_eq-Decides b a).1 (sym ((bytes_eq-Decides a b).0 h))

    by : (a : Bool) → same x y ≡ a → (b : Bool) → same y x ≡ b → same x y ≡ same y x
    by true e true f = e ∙ sym f
    by false e false f = e ∙ sym f
    by true e false f = absurd (clash (sym (one_way x y e) ∙ f))
    by false e true f = absurd (clash (sym (one_way y x f) ∙ e))

-- a text that is above another is not the same
above_other : (x y : List ℕ) → is_below x y ≡ true → same y x ≡ false
above_other x y h = swapped y x ∙ tied x y ∙ by (slice_cmp nat_cmp x y) h
  where
    by : (o : Ordering) → is_lt o ≡ true → is_eq o ≡ false
    by Less k = refl
    by Equal k = cc
    by Greater k = cc

below_on : (x y z : List ℕ) → is_below x y ≡ true → is_below y z ≡ true → is_below x z ≡ true
below_on x y z a b = ap is_lt (nat_list_cmp_total.trans x y z (less (slice_cmp nat_cmp x y) a) (less (slice_cmp nat_cmp y z) b))
  where
    less : (o : Ordering) → is_lt o ≡ true → o ≡ Less
    less Less k = refl
    less Equal k = cc
    less Greater k = cc

both : (a b : Bool) → (a && b) ≡ true → (a ≡ true) × (b ≡ true)
both true b h = (refl, h)
both false b h = cc

-- ---- a bookmark is set

set_case : (known : List (List ℕ)) (m : Bookmark) (marks : List Bookmark) (name : List ℕ) (rev : ℕ) → map (mark_of known) (with_mark marks name rev) ≡ with_node (map (mark_of known) marks) (mark_of known (record { name = name; rev = rev }))
    → (o : Ordering) → slice_cmp nat_cmp name m.name ≡ o
    → map (mark_of known) (cond (is_eq o) (record { name = name; rev = rev } ∷ marks) (cond (is_lt o) (record { name = name; rev = rev } ∷ m ∷ marks) (m ∷ with_mark marks name rev)))
    ≡ match_ordering o (mark_of known (record { name = name; rev = rev }) ∷ mark_of known m ∷ map (mark_of known) marks) (mark_of known (record { name = name; rev = rev }) ∷ map (mark_of known) marks) (mark_of known m ∷ with_node (map (mark_of known) marks) (mark_of known (record { name = name; rev = rev })))
set_case known m marks name rev on Less e = refl
set_case known m marks name rev on Equal e = refl
set_case known m marks name rev on Greater e = ap (λ l. mark_of known m ∷ l) on

pub set-by-nodes : (known : List (List ℕ)) (marks : List Bookmark) (name : List ℕ) (rev : ℕ) → map (mark_of known) (with_mark marks name rev) ≡ with_node (map (mark_of known) marks) (mark_of known (record { name = name; rev = rev }))
set-by-nodes known [] name rev = refl
set-by-nodes known (m ∷ marks) name rev =
    ap (λ b. map (mark_of known) (cond b (record { name = name; rev = rev } ∷ marks) (cond (is_below name m.name) (record { name = name; rev = rev } ∷ m ∷ marks) (m ∷ with_mark marks name rev)))) (tied name m.name)
    ∙ set_case known m marks name rev (set-by-nodes known marks name rev) (slice_cmp nat_cmp name m.name) refl

-- ---- a bookmark is deleted

above_all : (x : List ℕ) (marks : List Bookmark) → ascends (x ∷ map (λ (m : Bookmark). m.name) marks) ≡ true → AllByRecursion (λ (m : Bookmark). is_below x m.name ≡ true) marks
above_all x [] h = tt
above_all x (m ∷ marks) h =
    let b = both (is_below x m.name) (ascends (m.name ∷ map (λ (m : Bookmark). m.name) marks)) h in
    (b.0, lower marks b.0 (above_all m.name marks b.1))
  where
    lower : (rest : List Bookmark) → is_below x m.name ≡ true → AllByRecursion (λ (y : Bookmark). is_below m.name y.name ≡ true) rest → AllByRecursion (λ (y : Bookmark). is_below x y.name ≡ true) rest
    lower [] low all = tt
    lower (y ∷ rest) low all = (below_on x m.name y.name low all.0, lower rest low all.1)

ascends_on : (x : List ℕ) (marks : List Bookmark) → ascends (x ∷ map (λ (m : Bookmark). m.name) marks) ≡ true → ascends (map (λ (m : Bookmark). m.name) marks) ≡ true
ascends_on x [] h = refl
ascends_on x (m ∷ marks) h = (both (is_below x m.name) (ascends (m.name ∷ map (λ (m : Bookmark). m.name) marks)) h).1

-- none of those above a name has it
kept_all : (name : List ℕ) (marks : List Bookmark) → AllByRecursion (λ (m : Bookmark). is_below name m.name ≡ true) marks → without_mark marks name ≡ marks
kept_all name [] all = refl
kept_all name (m ∷ marks) all =
    ap (λ b. cond (not b) (m ∷ without_mark marks name) (without_mark marks name)) (above_other name m.name all.0) ∙ ap (λ l. m ∷ l) (kept_all name marks all.1)

pub deleted-by-nodes : (known : List (List ℕ)) (marks : List Bookmark) (name : List ℕ) → ascends (map (λ (m : Bookmark). m.name) marks) ≡ true → map (mark_of known) (without_mark marks name) ≡ without name (map (mark_of known) marks)
deleted-by-nodes known [] name h = refl
deleted-by-nodes known (m ∷ marks) name h =
    ap (λ b. map (mark_of known) (cond (not b) (m ∷ without_mark marks name) (without_mark marks name))) (swapped m.name name)
    ∙ by (same name m.name) refl (deleted-by-nodes known marks name (ascends_on m.name marks h))
  where
    by : (b : Bool) → same name m.name ≡ b → map (mark_of known) (without_mark marks name) ≡ without name (map (mark_of known) marks)
        → map (mark_of known) (cond (not b) (m ∷ without_mark marks name) (without_mark marks name)) ≡ cond b (map (mark_of known) marks) (mark_of known m ∷ without name (map (mark_of known) marks))
    by true e on = ap (map (mark_of known)) (kept_all name marks (here ((bytes_eq-Decides name m.name).0 e)))
      where
        here : name ≡ m.name → AllByRecursion (λ (x : Bookmark). is_below name x.name ≡ true) marks
        here same_name = above_all name marks (ap (λ n. ascends (n ∷ map (λ (m : Bookmark). m.name) marks)) same_name ∙ h)
    by false e on = ap (λ l. mark_of known m ∷ l) on
