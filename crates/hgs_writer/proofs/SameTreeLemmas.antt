-- Two trees whose paths ascend are the same where each has the other's files.
use Rattle.std.proofs.Common.{◌≡◌, ℕ, List, [], ◌∷◌, Bool, true, false, ◌&&◌, ◌||◌, cond, refl, sym, ◌∙◌, ap, subst}
use Rattle.std.specs.Prelude.{Some, find}
use Rattle.std.specs.List.{AllByRecursion}
use Rattle.std.specs.Cmp.Lexicographic.{nat_list_cmp_total}
use Rattle.std.specs.Ordering.{is_lt}
use Rattle.std.proofs.lemmas.Cmp.{tied_itself}
use Rattle.hgs_bytes.specs.Bytes.{among, is_below, same}
use Rattle.hgs_bytes.specs.Text.{ascends}
use Rattle.hgs_bytes.specs.Theorems.ByteLemmas.{same-eq, same-refl}
use Rattle.hgs_index.specs.declared.kinds.Flag.{Flag}
use Rattle.hgs_index.specs.declared.kinds.Flag.TheVariants.{Plain, Exec, Link}
use Rattle.hgs_model.specs.History.{same_flag}
use Rattle.hgs_model.specs.Repo.{TreeFile, tree_paths}
use Rattle.hgs_model.specs.Step.{same_file, same_tree}
use Rattle.hgs_model.specs.Theorems.ListLemmas.{all-map, and-left, and-right, ascends-head, ascends-tail, below-trans, never, none-some, some-same}

-- ---- files and trees that are the same

pub same_flag-refl : (a : Flag) → same_flag a a ≡ true
same_flag-refl Plain = refl
same_flag-refl Exec = refl
same_flag-refl Link = refl

pub same_flag-eq : (a b : Flag) → same_flag a b ≡ true → a ≡ b
same_flag-eq Plain Plain e = refl
same_flag-eq Exec Exec e = refl
same_flag-eq Link Link e = refl
same_flag-eq Plain Exec e = never (sym e)
same_flag-eq Plain Link e = never (sym e)
same_flag-eq Exec Plain e = never (sym e)
same_flag-eq Exec Link e = never (sym e)
same_flag-eq Link Plain e = never (sym e)
same_flag-eq Link Exec e = never (sym e)

same_file-refl : (f : TreeFile) → same_file f f ≡ true
same_file-refl f =
    let path = same-refl f.path in
    let flag = same_flag-refl f.flag in
    let prefix = same-refl f.prefix in
    let body = same-refl f.body in
    λ i. path i && flag i && prefix i && body i

same_file-eq : (f g : TreeFile) → same_file f g ≡ true → f ≡ g
same_file-eq f g e = by (same f.path g.path) refl (same_flag f.flag g.flag) refl (same f.prefix g.prefix) refl (same f.body g.body) refl e
  where
    by : (a : Bool) → same f.path g.path ≡ a → (b : Bool) → same_flag f.flag g.flag ≡ b → (c : Bool) → same f.prefix g.prefix ≡ c → (d : Bool) → same f.body g.body ≡ d → (a && b && c && d) ≡ true → f ≡ g
    by true p true q true u true v h =
        let path = same-eq f.path g.path p in
        let flag = same_flag-eq f.flag g.flag q in
        let prefix = same-eq f.prefix g.prefix u in
        let body = same-eq f.body g.body v in
        λ i. record { path = path i; flag = flag i; prefix = prefix i; body = body i }
    by true p true q true u false v h = never (sym h)
    by true p true q false u d v h = never (sym h)
    by true p false q c u d v h = never (sym h)
    by false p b q c u d v h = never (sym h)

pub same_tree-refl : (tree : List TreeFile) → same_tree tree tree ≡ true
same_tree-refl [] = refl
same_tree-refl (f ∷ tree) =
    let first = same_file-refl f in
    let rest = same_tree-refl tree in
    λ i. first i && rest i

pub same_tree-eq : (old new : List TreeFile) → same_tree old new ≡ true → old ≡ new
same_tree-eq [] [] e = refl
same_tree-eq [] (f ∷ new) e = never (sym e)
same_tree-eq (g ∷ old) [] e = never (sym e)
same_tree-eq (g ∷ old) (f ∷ new) e =
    let first = same_file-eq g f (and-left (same_file g f) (same_tree old new) e) in
    let rest = same_tree-eq old new (and-right (same_file g f) (same_tree old new) e) in
    λ i. first i ∷ rest i

-- ---- paths that ascend

not-below-itself : {A : Type 0} (x : List ℕ) → is_below x x ≡ true → A
not-below-itself x e = never (sym e ∙ ap is_lt (tied_itself nat_list_cmp_total x))

-- a text below another is another one
below-differs : (x y : List ℕ) → is_below x y ≡ true → same x y ≡ false
below-differs x y e = by (same x y) refl
  where
    by : (b : Bool) → same x y ≡ b → b ≡ false
    by false s = refl
    by true s = not-below-itself x (ap (is_below x) (same-eq x y s) ∙ e)

above-differs : (x y : List ℕ) → is_below x y ≡ true → same y x ≡ false
above-differs x y e = by (same y x) refl
  where
    by : (b : Bool) → same y x ≡ b → b ≡ false
    by false s = refl
    by true s = not-below-itself x (ap (is_below x) (sym (same-eq y x s)) ∙ e)

all-above : (x : List ℕ) (ys : List (List ℕ)) → ascends (x ∷ ys) ≡ true → AllByRecursion (λ y. is_below x y ≡ true) ys
all-above x [] a = tt
all-above x (y ∷ ys) a =
    let first = ascends-head x (y ∷ ys) a in
    (first, all-map (λ z. is_below y z ≡ true) (λ z. is_below x z ≡ true) ys (λ z b. below-trans x y z first b) (all-above y ys (ascends-tail x (y ∷ ys) a)))

-- a text of a list has the fact of all
among-has : (P : List ℕ → Type 0) (x : List ℕ) (ys : List (List ℕ)) → AllByRecursion P ys → among x ys ≡ true → P x
among-has P x [] all e = never (sym e)
among-has P x (y ∷ ys) all e = by (same x y) refl e (among-has P x ys all.1)
  where
    by : (b : Bool) → same x y ≡ b → (b || among x ys) ≡ true → (among x ys ≡ true → P x) → P x
    by true s h rec = subst P (sym (same-eq x y s)) all.0
    by false s h rec = rec h

or-right : (a b : Bool) → b ≡ true → (a || b) ≡ true
or-right true b e = refl
or-right false b e = e

-- a path that is found is there
pub found-among : (tree : List TreeFile) (path : List ℕ) (f : TreeFile) → find (λ (g : TreeFile). same g.path path) tree ≡ Some f → among path (tree_paths tree) ≡ true
found-among [] path f e = none-some f e
found-among (g ∷ tree) path f e = by (same g.path path) refl e (found-among tree path f)
  where
    by : (b : Bool) → same g.path path ≡ b → cond b (Some g) (find (λ (x : TreeFile). same x.path path) tree) ≡ Some f → (find (λ (x : TreeFile). same x.path path) tree ≡ Some f → among path (tree_paths tree) ≡ true) → (same path g.path || among path (tree_paths tree)) ≡ true
    by true s h rec = ap (λ b. b || among path (tree_paths tree)) (ap (same path) (same-eq g.path path s) ∙ same-refl path)
    by false s h rec = or-right (same path g.path) (among path (tree_paths tree)) (rec h)

-- ---- trees with the same files

IsFoundIn : List TreeFile → TreeFile → Type 0
IsFoundIn tree f = find (λ (g : TreeFile). same g.path f.path) tree ≡ Some f

-- behind the first file of a tree its path is not
found-behind : (x : TreeFile) (tree new : List TreeFile) → AllByRecursion (λ y. is_below x.path y ≡ true) (tree_paths new) → AllByRecursion (IsFoundIn (x ∷ tree)) new → AllByRecursion (IsFoundIn tree) new
unfolding IsFoundIn
found-behind x tree [] above all = tt
found-behind x tree (f ∷ new) above all =
    (ap (λ b. cond b (Some x) (find (λ (g : TreeFile). same g.path f.path) tree)) (sym (below-differs x.path f.path above.0)) ∙ all.0, found-behind x tree new above.1 all.1)

among-behind : (path : List ℕ) (paths more : List (List ℕ)) → AllByRecursion (λ y. is_below path y ≡ true) more → AllByRecursion (λ y. among y (path ∷ paths) ≡ true) more → AllByRecursion (λ y. among y paths ≡ true) more
among-behind path paths [] above all = tt
among-behind path paths (y ∷ more) above all =
    (ap (λ b. b || among y paths) (sym (above-differs path y above.0)) ∙ all.0, among-behind path paths more above.1 all.1)

-- each file of the one is found in the other, and each path of that is among those of the one
pub alike : (old new : List TreeFile) → ascends (tree_paths old) ≡ true → ascends (tree_paths new) ≡ true → AllByRecursion (λ (f : TreeFile). find (λ (g : TreeFile). same g.path f.path) old ≡ Some f) new → AllByRecursion (λ path. among path (tree_paths new) ≡ true) (tree_paths old) → old ≡ new
unfolding IsFoundIn
alike [] [] a b found there = refl
alike [] (f ∷ new) a b found there = none-some f found.0
alike (g ∷ old) [] a b found there = never (sym there.0)
alike (g ∷ old) (f ∷ new) a b found there =
    by (same g.path f.path) refl (alike old new (ascends-tail g.path (tree_paths old) a) (ascends-tail f.path (tree_paths new) b))
  where
    above_old : AllByRecursion (λ y. is_below g.path y ≡ true) (tree_paths old)
    above_old = all-above g.path (tree_paths old) a

    above_new : AllByRecursion (λ y. is_below f.path y ≡ true) (tree_paths new)
    above_new = all-above f.path (tree_paths new) b

    by : (z : Bool) → same g.path f.path ≡ z → (AllByRecursion (λ (x : TreeFile). find (λ (y : TreeFile). same y.path x.path) old ≡ Some x) new → AllByRecursion (λ path. among path (tree_paths new) ≡ true) (tree_paths old) → old ≡ new) → g ∷ old ≡ f ∷ new
    by true s rec =
        let first : g ≡ f = some-same g g f (ap (λ z. cond z (Some g) (find (λ (x : TreeFile). same x.path f.path) old)) (sym s) ∙ found.0) in
        let path = same-eq g.path f.path s in
        let rest = rec
        (found-behind g old new (subst (λ p. AllByRecursion (λ y. is_below p y ≡ true) (tree_paths new)) (sym path) above_new) found.1)
        (among-behind f.path (tree_paths new) (tree_paths old) (subst (λ p. AllByRecursion (λ y. is_below p y ≡ true) (tree_paths old)) path above_old) there.1) in
        λ i. first i ∷ rest i
    by false s rec =
        let behind = found-among old f.path f (ap (λ z. cond z (Some g) (find (λ (x : TreeFile). same x.path f.path) old)) (sym s) ∙ found.0) in
        let one = among-has (λ y. is_below g.path y ≡ true) f.path (tree_paths old) above_old behind in
        let other = among-has (λ y. is_below f.path y ≡ true) g.path (tree_paths new) above_new (ap (λ z. z || among g.path (tree_paths new)) (sym s) ∙ there.0) in
        not-below-itself g.path (below-trans g.path f.path g.path one other)
