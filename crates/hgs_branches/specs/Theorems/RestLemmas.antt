-- Changesets that were read of files at rest.
use Rattle.std.proofs.Common.{◌≡◌, ◌<◌, ◌≤◌, ℕ, zero, suc, ◌+◌, ◌-◌, Bool, true, false, List, [], ◌∷◌, ◌++◌, length, map, take, drop, Option, Some, None, Result, Ok, Err, refl, sym, ◌∙◌, ap, subst, arith}
use Rattle.std.specs.Prelude.{⊤, slice_get}
use Rattle.std.specs.Bool.{MatchBool}
use Rattle.hgs_files.specs.declared.op.Op.{Op}
use Rattle.hgs_files.specs.Tree.{Tree, after_all}
use Rattle.hgs_index.specs.ChangeText.{Change}
use Rattle.hgs_index.specs.Revision.{Parents}
use Rattle.hgs_index.specs.declared.entry.Entry.{Entry}
use Rattle.hgs_load.specs.declared.answer.ReadAnswer.{ReadAnswer}
use Rattle.hgs_load.specs.Answer.{is_of_outside}
use Rattle.hgs_load.specs.Asks.{at_rest}
use Rattle.hgs_load.specs.Theorems.AskLemmas.{either}
use Rattle.hgs_load.specs.Theorems.RestLemmas.{told_at_rest}
use Rattle.hgs_load.specs.View.{View}
use Rattle.hgs_reader.specs.Line.{change_asks}
use Rattle.hgs_branch.specs.Extras.{branch_of}
use Rattle.hgs_branch.specs.Taken.{parents_of, with_changes, Taken}
use Rattle.hgs_branch.specs.declared.changeset.OnBranch.{OnBranch}
use Rattle.hgs_branches.specs.Read.{AreRead, IsRead, IsRefused, IsRefusedAt}
use Rattle.hgs_branches.specs.Rest.{branch_then, branches_from}

-- the parents that entries name
abbrev pub entry_parents : List Entry → List Parents
entry_parents entries = map (λ e. (e.p1, e.p2)) entries

-- So many changesets were taken of a view, from the first on.
pub record AreTaken (t : Tree) (view : View) (count : ℕ) (taken : Taken) : Type 0 where
  pub parents : taken.parents ≡ take count (entry_parents view.changelog.entries)
  pub names : branches_from (λ rev. at_rest t (change_asks view rev)) 0 count ≡ Ok taken.names

-- ---- lists

abbrev pub joined : List (List ℕ) → Result (List (List ℕ)) ReadAnswer → Result (List (List ℕ)) ReadAnswer
joined xs (Ok ys) = Ok (xs ++ ys)
joined xs (Err e) = Err e

then_joined : (c : Change) (xs : List (List ℕ)) (r : Result (List (List ℕ)) ReadAnswer) → branch_then (Ok c) (joined xs r) ≡ joined (branch_of c.extras ∷ xs) r
then_joined c xs (Ok ys) = refl
then_joined c xs (Err e) = refl

join_none : (r : Result (List (List ℕ)) ReadAnswer) → r ≡ joined [] r
join_none (Ok ys) = refl
join_none (Err e) = refl

ok_is : (x y : List (List ℕ)) → (let r : Result (List (List ℕ)) ReadAnswer = Ok x in r) ≡ Ok y → x ≡ y
ok_is x y e = cc

-- a changeset, and then more
first_more : (change : ℕ → Result Change ReadAnswer) (n m a : ℕ) (xs : List (List ℕ)) (c : Result Change ReadAnswer) → change a ≡ c → (r : Result (List (List ℕ)) ReadAnswer) → branches_from change (suc a) n ≡ r → branches_from change a (suc n) ≡ Ok xs
    → ((ys : List (List ℕ)) → branches_from change (suc a) n ≡ Ok ys → branches_from change (suc a) (n + m) ≡ joined ys (branches_from change (suc a + n) m)) → branches_from change a (suc n + m) ≡ joined xs (branches_from change (a + suc n) m)
first_more change n m a xs (Err e) is r rest h rec =
    let bad : branch_then (Err e) (branches_from change (suc a) n) ≡ Ok xs = sym (ap (λ q. branch_then q (branches_from change (suc a) n)) is) ∙ h in cc
first_more change n m a xs (Ok c) is (Err e) rest h rec =
    let bad : branch_then (Ok c) (Err e) ≡ Ok xs = sym (ap (λ q. branch_then q (branches_from change (suc a) n)) is ∙ ap (branch_then (Ok c)) rest) ∙ h in cc
first_more change n m a xs (Ok c) is (Ok ys) rest h rec =
    let first : suc n + m ≡ suc (n + m) = omega arith in
    let more : suc a + n ≡ a + suc n = omega arith in
    let good : branch_then (Ok c) (Ok ys) ≡ Ok xs = sym (ap (λ q. branch_then q (branches_from change (suc a) n)) is ∙ ap (branch_then (Ok c)) rest) ∙ h in
    let same : branch_of c.extras ∷ ys ≡ xs = ok_is (branch_of c.extras ∷ ys) xs good in
    ap (branches_from change a) first ∙ ap (λ q. branch_then q (branches_from change (suc a) (n + m))) is ∙ ap (branch_then (Ok c)) (rec ys rest)
    ∙ then_joined c ys (branches_from change (suc a + n) m) ∙ ap (λ l. joined l (branches_from change (suc a + n) m)) same ∙ ap (λ k. joined xs (branches_from change k m)) more

-- the first so many, and then more
from_more : (change : ℕ → Result Change ReadAnswer) (n m a : ℕ) (xs : List (List ℕ)) → branches_from change a n ≡ Ok xs → branches_from change a (n + m) ≡ joined xs (branches_from change (a + n) m)
from_more change zero m a xs h =
    let none : [] ≡ xs = ok_is [] xs h in
    let P : 0 + m ≡ m = omega arith in
    let Q : a ≡ a + 0 = omega arith in
    ap (branches_from change a) P ∙ join_none (branches_from change a m) ∙ ap (λ l. joined l (branches_from change a m)) none ∙ ap (λ k. joined xs (branches_from change k m)) Q
from_more change (suc n) m a xs h = first_more change n m a xs (change a) refl (branches_from change (suc a) n) refl h (from_more change n m (suc a))

take_more : {A : Type 0} (n m : ℕ) (xs : List A) → take (n + m) xs ≡ take n xs ++ take m (drop n xs)
take_more zero m xs = let e : 0 + m ≡ m = omega arith in ap (λ k. take k xs) e
take_more (suc n) m [] = let e : suc n + m ≡ suc (n + m) = omega arith in ap (λ k. take k []) e ∙ sym (none m)
  where
    none : {A : Type 0} (k : ℕ) → take k (let l : List A = [] in l) ≡ []
    none zero = refl
    none (suc k) = refl
take_more (suc n) m (x ∷ xs) = let e : suc n + m ≡ suc (n + m) = omega arith in ap (λ k. take k (x ∷ xs)) e ∙ ap (λ l. x ∷ l) (take_more n m xs)

-- ---- changesets

-- an entry is the next of those that are left
left_of : (entries : List Entry) (rev : ℕ) (e : Entry) → slice_get entries rev ≡ Some e → drop rev (entry_parents entries) ≡ (e.p1, e.p2) ∷ drop (suc rev) (entry_parents entries)
left_of [] rev e h = cc
left_of (x ∷ xs) zero e h = ap (λ (y : Entry). (y.p1, y.p2) ∷ entry_parents xs) (some_is x h)
  where
    some_is : (y : Entry) → Some y ≡ Some e → y ≡ e
    some_is y d = cc
left_of (x ∷ xs) (suc rev) e h = left_of xs rev e h

read_parents : (before : Option (List Op)) (start : Tree) (after : Option (List Op)) (view : View) (rev : ℕ) (xs : List OnBranch) → AreRead before start after view rev xs → map parents_of xs ≡ take (length xs) (drop rev (entry_parents view.changelog.entries))
read_parents before start after view rev [] h = refl
read_parents before start after view rev (x ∷ xs) h =
    let one = h.0 in
    let own : parents_of x ≡ (one.entry.p1, one.entry.p2) = ap (λ p. (p, x.p2)) one.p1 ∙ ap (λ p. (one.entry.p1, p)) one.p2 in
    let rest = read_parents before start after view (suc rev) xs h.1 in
    ap (λ p. p ∷ map parents_of xs) own ∙ ap (λ l. (one.entry.p1, one.entry.p2) ∷ l) rest ∙ sym (ap (take (suc (length xs))) (left_of view.changelog.entries rev one.entry one.there))

read_names : (seen : Option (List Op)) (l : List Op) (start : Tree) (view : View) (rev : ℕ) (xs : List OnBranch) → seen ≡ Some l → AreRead (Some l) start seen view rev xs → branches_from (λ r. at_rest (after_all l start) (change_asks view r)) rev (length xs) ≡ Ok (map (λ c. c.branch) xs)
read_names seen l start view rev [] s h = refl
read_names seen l start view rev (x ∷ xs) s h =
    let change : ℕ → Result Change ReadAnswer = λ r. at_rest (after_all l start) (change_asks view r) in
    let one = h.0 in
    let is : change rev ≡ Ok one.change = sym (told_at_rest seen l start (change_asks view rev) (Ok one.change) s one.answer) in
    ap (λ q. branch_then q (branches_from change (suc rev) (length xs))) is ∙ ap (branch_then (Ok one.change)) (read_names seen l start view (suc rev) xs s h.1) ∙ ap (λ b. Ok (b ∷ map (λ c. c.branch) xs)) (sym one.branch)

pub none_taken : (t : Tree) (view : View) → AreTaken t view 0 (record { parents = []; names = [] })
none_taken t view = record { parents = refl; names = refl }

-- more were taken
pub more_taken : (seen : Option (List Op)) (l : List Op) (start : Tree) (view : View) (count upto : ℕ) (taken : Taken) (xs : List OnBranch) → seen ≡ Some l → count + length xs ≡ upto → AreTaken (after_all l start) view count taken → AreRead (Some l) start seen view count xs → AreTaken (after_all l start) view upto (with_changes taken xs)
more_taken seen l start view count upto taken xs s e is h =
    let P : ℕ → Type 0 = λ n. AreTaken (after_all l start) view n (with_changes taken xs) in
    let change : ℕ → Result Change ReadAnswer = λ r. at_rest (after_all l start) (change_asks view r) in
    subst P e (record {
      parents = ap (λ a. a ++ map parents_of xs) is.parents ∙ ap (λ b. take count (entry_parents view.changelog.entries) ++ b) (read_parents (Some l) start seen view count xs h) ∙ sym (take_more count (length xs) (entry_parents view.changelog.entries));
      names = from_more change count (length xs) 0 taken.names is.names ∙ ap (joined taken.names) (ap (λ k. branches_from change k (length xs)) (zero_more count) ∙ read_names seen l start view count xs s h);
    })
  where
    zero_more : (n : ℕ) → 0 + n ≡ n
    zero_more n = omega arith

-- the next ones were refused
pub refused_taken : (seen : Option (List Op)) (l : List Op) (start : Tree) (view : View) (count upto most : ℕ) (taken : Taken) (e : ReadAnswer) → seen ≡ Some l → upto ≤ most → AreTaken (after_all l start) view count taken → IsRefused (Some l) start seen view count upto e →
    MatchBool (is_of_outside e) ⊤ (branches_from (λ rev. at_rest (after_all l start) (change_asks view rev)) 0 most ≡ Err e)
refused_taken seen l start view count upto most taken e s le is refused = either (is_of_outside e) (IsRefusedAt (Some l) start seen view count upto e) (branches_from change 0 most ≡ Err e) by refused
  where
    change : ℕ → Result Change ReadAnswer
    change r = at_rest (after_all l start) (change_asks view r)

    by : IsRefusedAt (Some l) start seen view count upto e → branches_from change 0 most ≡ Err e
    by h =
        let k = more_taken seen l start view count h.rev taken h.changes s h.count is h.read in
        let less = h.below in
        let left = most - suc h.rev in
        let parts : most ≡ h.rev + suc left = omega (arith, less, le) in
        let first : 0 + h.rev ≡ h.rev = omega arith in
        let bad : change h.rev ≡ Err e = sym (told_at_rest seen l start (change_asks view h.rev) (Err e) s h.answer) in
        let names = (with_changes taken h.changes).names in
        ap (branches_from change 0) parts ∙ from_more change h.rev (suc left) 0 names k.names ∙ ap (λ i. joined names (branches_from change i (suc left))) first
        ∙ ap (λ q. joined names (branch_then q (branches_from change (suc h.rev) left))) bad
