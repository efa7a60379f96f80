-- A commit on at most one parent changes no path exactly where its tree is that of the parent.
use Rattle.std.proofs.Common.{◌≡◌, ℕ, zero, suc, List, [], ◌∷◌, ◌++◌, Bool, true, false, ◌||◌, ◌==◌, not, cond, length, map, take, refl, sym, ◌∙◌, ap, subst, arith, append-nil}
use Rattle.std.specs.Prelude.{◌<◌, Option, Some, None, IfSome, filter, find, is_none, is_some, option_map, slice_get, unwrap_or}
use Rattle.std.specs.List.{AllByRecursion}
use Rattle.std.proofs.lemmas.Bool.Decides.{nat_tests}
use Rattle.hgs_bytes.specs.Bytes.{among, is_below, same}
use Rattle.hgs_bytes.specs.Text.{ascends}
use Rattle.hgs_bytes.specs.Theorems.ByteLemmas.{same-eq, same-refl}
use Rattle.hgs_index.specs.FileText.{body_of, prefix_of, unpacked}
use Rattle.hgs_index.specs.Revision.{Parents, Revision, number_of, with_revision}
use Rattle.hgs_index.specs.Theorems.FileTextLemmas.{unpacked-joins}
use Rattle.hgs_model.specs.History.{History, Placed, changed_paths, file_parents, file_parents_of, file_revision, filelog_with, has_other_flag, history, in_order, inserted, first_of, is_changed, kept, kept_of, log_with_file, parent_file, parents_in, placed_at, placed_file, placed_of, removed_paths, rev_of_file, same_flag, text_at}
use Rattle.hgs_model.specs.IsRepo.{HasKeptPrefix, IsRepo}
use Rattle.hgs_model.specs.Repo.{Changeset, Repo, TreeFile, file_text, tree_at, tree_paths}
use Rattle.hgs_model.specs.Step.{new_changeset, new_file, new_prefix, same_tree}
use Rattle.hgs_model.specs.declared.command.NewChange.{NewChange}
use Rattle.hgs_model.specs.declared.files.NewFile.{NewFile}
use Rattle.hgs_model.specs.Theorems.CountLemmas.{found-self}
use Rattle.hgs_model.specs.Theorems.ListLemmas.{all-map, found-has, found-is, never, none-some, some-same}
use Rattle.hgs_model.specs.Theorems.ListedLemmas.{number-text, text_at-front}
use Rattle.hgs_writer.proofs.HistoryLemmas.{IsAddedAt, added, all-last, got, index-is}
use Rattle.hgs_writer.proofs.SameTreeLemmas.{alike, found-among, same_flag-eq, same_flag-refl, same_tree-eq, same_tree-refl}

-- ---- the text of a changeset's file

-- the body of the revision that is kept
kept-body : (log : List Revision) (a b : Option ℕ) (body : List ℕ) (rev : ℕ) → kept_of log a b body ≡ Some rev → body_of (text_at log rev) ≡ body
kept-body log None b body rev e = none-some rev e
kept-body log (Some a) (Some b) body rev e = none-some rev e
kept-body log (Some a) None body rev e = by (same (body_of (text_at log a)) body) refl e
  where
    by : (z : Bool) → same (body_of (text_at log a)) body ≡ z → cond z (Some a) None ≡ Some rev → body_of (text_at log rev) ≡ body
    by false s h = none-some rev h
    by true s h = ap (λ k. body_of (text_at log k)) (sym (some-same 0 a rev h)) ∙ same-eq (body_of (text_at log a)) body s

file-text : (h : History) (c : Changeset) (f : TreeFile) → HasKeptPrefix h c f → find (λ (g : TreeFile). same g.path f.path) c.tree ≡ Some f → text_at (filelog_with h c f.path) (rev_of_file h c f) ≡ file_text f
file-text h c f prefix found = by (kept h c.parents f.path f.body) refl prefix
  where
    log : List Revision
    log = h.filelog f.path

    at : (o : Option ℕ) → kept h c.parents f.path f.body ≡ o
        → text_at (filelog_with h c f.path) (rev_of_file h c f) ≡ text_at (cond (is_some o) (h.filelog f.path) (with_revision (h.filelog f.path) (file_revision h c f))) (unwrap_or o (number_of (h.filelog f.path) (file_text f) (file_parents h c.parents f.path)))
    at o k =
        let logs = ap (λ x. log_with_file h c x (h.filelog f.path)) found ∙ ap (λ x. cond (is_some x) (h.filelog f.path) (with_revision (h.filelog f.path) (file_revision h c f))) k in
        let number = ap (λ x. unwrap_or x (number_of (h.filelog f.path) (file_text f) (file_parents h c.parents f.path))) k in
        λ i. text_at (logs i) (number i)

    by : (o : Option ℕ) → kept h c.parents f.path f.body ≡ o → IfSome o (λ rev. f.prefix ≡ prefix_of (text_at (h.filelog f.path) rev)) → text_at (filelog_with h c f.path) (rev_of_file h c f) ≡ file_text f
    by None k p = at None k ∙ number-text (h.filelog f.path) (file_revision h c f)
    by (Some rev) k p =
        at (Some rev) k
        ∙ sym (unpacked-joins (text_at (h.filelog f.path) rev)) ∙ ap (λ x. x ++ body_of (text_at (h.filelog f.path) rev)) (sym p)
        ∙ ap (λ x. f.prefix ++ x) (kept-body (h.filelog f.path) (file_parents h c.parents f.path).0 (file_parents h c.parents f.path).1 f.body rev k)

-- ---- the tree of a parent

abbrev placing : (TreeFile → ℕ) → TreeFile → Placed
placing number f = record { path = f.path; flag = f.flag; rev = number f }

-- a file's revision has its text, which is its prefix and its body
record IsTextAt (h : History) (number : TreeFile → ℕ) (f : TreeFile) : Type 0 where
  text : text_at (h.filelog f.path) (number f) ≡ file_text f
  split : unpacked (file_text f) ≡ (f.prefix, f.body)

-- The files of the changeset with some number, or of none.
record IsTreeAt (h : History) (o : Option ℕ) (old : List TreeFile) : Type 0 where
  number : TreeFile → ℕ
  placed : placed_at h o ≡ map (placing number) old
  texts : AllByRecursion (IsTextAt h number) old
  ordered : ascends (tree_paths old) ≡ true

abbrev pub tree_of : List Changeset → Option ℕ → List TreeFile
tree_of changesets None = []
tree_of changesets (Some rev) = tree_at changesets rev

tree-at : (changesets : List Changeset) (rev : ℕ) (c : Changeset) → slice_get changesets rev ≡ Some c → tree_at changesets rev ≡ c.tree
tree-at [] rev c e = none-some c e
tree-at (d ∷ changesets) zero c e = ap (λ (x : Changeset). x.tree) (some-same d d c e)
tree-at (d ∷ changesets) (suc rev) c e = tree-at changesets rev c e

texts-of : (before k : History) (rev : ℕ) (c : Changeset) (is : IsAddedAt before k rev c) (tree : List TreeFile) → AllByRecursion (λ (f : TreeFile). unpacked (file_text f) ≡ (f.prefix, f.body)) tree → AllByRecursion (HasKeptPrefix before c) tree
    → AllByRecursion (λ (f : TreeFile). find (λ (g : TreeFile). same g.path f.path) c.tree ≡ Some f) tree → AllByRecursion (λ (p : Placed). p.rev < length (filelog_with before c p.path)) (map (placing (rev_of_file before c)) tree) → AllByRecursion (IsTextAt k (rev_of_file before c)) tree
texts-of before k rev c is [] splits prefixes found below = tt
texts-of before k rev c is (f ∷ tree) splits prefixes found below = (
  record {
    text = text_at-front (filelog_with before c f.path) (k.filelog f.path) (is.extends.filelogs f.path) (rev_of_file before c f) below.0 ∙ file-text before c f prefixes.0 found.0;
    split = splits.0;
  },
  texts-of before k rev c is tree splits.1 prefixes.1 found.1 below.1,
)

tree-added : (before k : History) (rev : ℕ) (c : Changeset) → IsAddedAt before k rev c → IsTreeAt k (Some rev) c.tree
tree-added before k rev c is = record {
  number = rev_of_file before c;
  placed = index-is k.placed rev [] (placed_of before c) is.placed;
  texts = texts-of before k rev c is c.tree is.next.texts is.next.prefixes (found-self c.tree is.next.ordered) (all-last _ before.placed (placed_of before c) is.sound.files);
  ordered = is.next.ordered;
}

parent-tree : (r : Repo) (o : Option ℕ) → IsRepo r → IfSome o (λ rev. rev < length r.changesets) → IsTreeAt (history r.changesets) o (tree_of r.changesets o)
parent-tree r None is low = record { number = λ f. 0; placed = refl; texts = tt; ordered = refl }
parent-tree r (Some rev) is low =
    let c = got r.changesets rev low in
    subst (IsTreeAt (history r.changesets) (Some rev)) (sym (tree-at r.changesets rev c.0 c.1)) (tree-added (history (take rev r.changesets)) (history r.changesets) rev c.0 (added r.changesets is.changesets rev c.0 c.1))

-- ---- which paths are changed

abbrev is-at : List ℕ → TreeFile → Bool
is-at path g = same g.path path

all-none : {A : Type 0} (p : A → Bool) (xs : List A) → AllByRecursion (λ x. p x ≡ false) xs → filter p xs ≡ []
all-none p [] all = refl
all-none p (x ∷ xs) all = ap (λ b. cond b (x ∷ filter p xs) (filter p xs)) all.0 ∙ all-none p xs all.1

none-all : {A : Type 0} (p : A → Bool) (xs : List A) → filter p xs ≡ [] → AllByRecursion (λ x. p x ≡ false) xs
none-all p [] e = tt
none-all p (x ∷ xs) e = by (p x) refl e (none-all p xs)
  where
    by : (b : Bool) → p x ≡ b → cond b (x ∷ filter p xs) (filter p xs) ≡ [] → (filter p xs ≡ [] → AllByRecursion (λ y. p y ≡ false) xs) → AllByRecursion (λ y. p y ≡ false) (x ∷ xs)
    by false s h rec = (s, rec h)
    by true s h rec = absurd (no h)
      where
        no : x ∷ filter p xs ≡ [] → ⊥
        no g = cc

some-count : (n : ℕ) → (suc n == 0) ≡ false
some-count n = grind (arith, nat_tests)

no-count : {A : Type 0} (xs : List A) → (length xs == 0) ≡ true → xs ≡ []
no-count [] e = refl
no-count (x ∷ xs) e = never (sym e ∙ some-count (length xs))

inserted-some : (x : List ℕ) (ys : List (List ℕ)) → (length (inserted x ys) == 0) ≡ false
inserted-some x [] = refl
inserted-some x (y ∷ ys) = by (same x y) (is_below x y)
  where
    by : (a b : Bool) → (length (cond a (y ∷ ys) (cond b (x ∷ y ∷ ys) (y ∷ inserted x ys))) == 0) ≡ false
    by true b = some-count (length ys)
    by false true = some-count (length (y ∷ ys))
    by false false = some-count (length (inserted x ys))

-- a list in order is empty only where the list is
in_order-none : (xs : List (List ℕ)) → (length (in_order xs) == 0) ≡ true → xs ≡ []
in_order-none [] e = refl
in_order-none (x ∷ xs) e = never (sym e ∙ inserted-some x (in_order xs))

none-left : {A : Type 0} (xs ys : List A) → xs ++ ys ≡ [] → xs ≡ []
none-left [] ys e = refl
none-left {A} (x ∷ xs) ys e = absurd (no e)
  where
    no : ◌≡◌ {A = List A} (x ∷ xs ++ ys) [] → ⊥
    no h = cc

none-right : {A : Type 0} (xs ys : List A) → xs ++ ys ≡ [] → ys ≡ []
none-right xs ys e = ap (λ l. l ++ ys) (sym (none-left xs ys e)) ∙ e

none-mapped : {A B : Type 0} (f : A → B) (xs : List A) → map f xs ≡ [] → xs ≡ []
none-mapped f [] e = refl
none-mapped {A} {B} f (x ∷ xs) e = absurd (no e)
  where
    no : ◌≡◌ {A = List B} (f x ∷ map f xs) [] → ⊥
    no h = cc

not-false : (b : Bool) → not b ≡ false → b ≡ true
not-false true e = refl
not-false false e = never e

both-ways : (a b : Bool) → (a ≡ true → b ≡ true) → (b ≡ true → a ≡ true) → a ≡ b
both-ways true b to back = sym (to refl)
both-ways false true to back = back refl
both-ways false false to back = refl

module _ (h : History) (o : Option ℕ) (old : List TreeFile) (is : IsTreeAt h o old) (n : NewChange) where
  abbrev parents : Parents
  parents = (o, None)

  abbrev c : Changeset
  c = new_changeset h parents n

  placed-in : (path : List ℕ) (tree : List TreeFile) → placed_file (map (placing is.number) tree) path ≡ option_map (placing is.number) (find (is-at path) tree)
  placed-in path [] = refl
  placed-in path (g ∷ tree) = by (same g.path path) (placed-in path tree)
    where
      by : (b : Bool) → placed_file (map (placing is.number) tree) path ≡ option_map (placing is.number) (find (is-at path) tree)
          → cond b (Some (placing is.number g)) (placed_file (map (placing is.number) tree) path) ≡ option_map (placing is.number) (cond b (Some g) (find (is-at path) tree))
      by true rec = refl
      by false rec = rec

  placed-by : (path : List ℕ) (q : Option TreeFile) → find (is-at path) old ≡ q → placed_file (placed_at h o) path ≡ option_map (placing is.number) q
  placed-by path q e = ap (λ files. placed_file files path) is.placed ∙ placed-in path old ∙ ap (option_map (placing is.number)) e

  -- the revision that is kept of a file, by the parent's file with its path
  abbrev kept-from : List ℕ → List ℕ → Option TreeFile → Option ℕ
  kept-from path body None = None
  kept-from path body (Some g) = cond (same (body_of (text_at (h.filelog path) (is.number g))) body) (Some (is.number g)) None

  kept-by : (path body : List ℕ) (q : Option TreeFile) → find (is-at path) old ≡ q → kept h parents path body ≡ kept-from path body q
  kept-by path body q e =
      ap (λ (x : Option Placed). let ps = file_parents_of (parents_in (h.filelog path)) (option_map (λ p. p.rev) x) None in kept_of (h.filelog path) ps.0 ps.1 body) (placed-by path q e) ∙ by q
    where
      by : (x : Option TreeFile) → (let ps : Parents = file_parents_of (parents_in (h.filelog path)) (option_map (λ (p : Placed). p.rev) (option_map (placing is.number) x)) None in kept_of (h.filelog path) ps.0 ps.1 body) ≡ kept-from path body x
      by None = refl
      by (Some g) = refl

  -- the text of the parent's file with this path
  text-by : (path : List ℕ) (g : TreeFile) → find (is-at path) old ≡ Some g → text_at (h.filelog path) (is.number g) ≡ file_text g × (unpacked (file_text g) ≡ (g.prefix, g.body))
  text-by path g e =
      let has = found-has (IsTextAt h is.number) (is-at path) old g is.texts e in
      (ap (λ p. text_at (h.filelog p) (is.number g)) (sym (same-eq g.path path has.1)) ∙ has.0.text, has.0.split)

  -- a file is changed unless the parent has it with this path, flag and body
  abbrev changed-from : NewFile → Option TreeFile → Bool
  changed-from f None = true
  changed-from f (Some g) = not (same g.body f.body) || not (same_flag f.flag g.flag)

  changed-by : (f : NewFile) (q : Option TreeFile) → find (is-at f.path) old ≡ q → is_changed h c (new_file h parents f) ≡ changed-from f q
  changed-by f None e =
      let keeps = kept-by f.path f.body None e in
      ap (λ x. is_none x || has_other_flag f.flag (parent_file h parents f.path)) keeps
  changed-by f (Some g) e =
      let text = text-by f.path g e in
      let body : body_of (text_at (h.filelog f.path) (is.number g)) ≡ g.body = ap body_of text.0 ∙ ap (λ (p : List ℕ × List ℕ). p.1) text.1 in
      let keeps = kept-by f.path f.body (Some g) e ∙ ap (λ b. cond (same b f.body) (Some (is.number g)) None) body in
      let flag = ap (λ x. has_other_flag f.flag (first_of x None)) (placed-by f.path (Some g) e) in
      (λ i. is_none (keeps i) || flag i) ∙ by (same g.body f.body)
    where
      by : (b : Bool) → (is_none (cond b (Some (is.number g)) None) || not (same_flag f.flag g.flag)) ≡ (not b || not (same_flag f.flag g.flag))
      by true = refl
      by false = refl

  -- and then it is the parent's
  unchanged-is : (f : NewFile) → is_changed h c (new_file h parents f) ≡ false → find (is-at f.path) old ≡ Some (new_file h parents f)
  unchanged-is f e = by (find (is-at f.path) old) refl
    where
      with-file : (g : TreeFile) → find (is-at f.path) old ≡ Some g → (b : Bool) → same g.body f.body ≡ b → (d : Bool) → same_flag f.flag g.flag ≡ d → (not b || not d) ≡ false → g ≡ new_file h parents f
      with-file g at true b true d k =
          let text = text-by f.path g at in
          let body = ap body_of text.0 ∙ ap (λ (p : List ℕ × List ℕ). p.1) text.1 in
          let keeps : kept h parents f.path f.body ≡ Some (is.number g) = kept-by f.path f.body (Some g) at ∙ ap (λ z. cond (same z f.body) (Some (is.number g)) None) body ∙ ap (λ z. cond z (Some (is.number g)) None) b in
          let path = same-eq g.path f.path (found-is (is-at f.path) old g at) in
          let flag = sym (same_flag-eq f.flag g.flag d) in
          let prefix = sym (ap (λ x. new_prefix h parents f x) keeps ∙ ap prefix_of text.0 ∙ ap (λ (p : List ℕ × List ℕ). p.0) text.1) in
          let same_body = same-eq g.body f.body b in
          λ i. record { path = path i; flag = flag i; prefix = prefix i; body = same_body i }
      with-file g at true b false d k = never k
      with-file g at false b d k l = never l

      by : (q : Option TreeFile) → find (is-at f.path) old ≡ q → find (is-at f.path) old ≡ Some (new_file h parents f)
      by None q = never (sym (changed-by f None q) ∙ e)
      by (Some g) q = q ∙ ap (λ x. Some x) (with-file g q (same g.body f.body) refl (same_flag f.flag g.flag) refl (sym (changed-by f (Some g) q) ∙ e))

  is-unchanged : (f : NewFile) → find (is-at f.path) old ≡ Some (new_file h parents f) → is_changed h c (new_file h parents f) ≡ false
  is-unchanged f e =
      let body = same-refl f.body in
      let flag = same_flag-refl f.flag in
      changed-by f (Some (new_file h parents f)) e ∙ (λ i. not (body i) || not (flag i))

  -- ---- all files

  all-found : (files : List NewFile) → AllByRecursion (λ (g : TreeFile). is_changed h c g ≡ false) (map (new_file h parents) files) → AllByRecursion (λ (g : TreeFile). find (is-at g.path) old ≡ Some g) (map (new_file h parents) files)
  all-found [] all = tt
  all-found (f ∷ files) all = (unchanged-is f all.0, all-found files all.1)

  all-unchanged : (files : List NewFile) → AllByRecursion (λ (g : TreeFile). find (is-at g.path) old ≡ Some g) (map (new_file h parents) files) → AllByRecursion (λ (g : TreeFile). is_changed h c g ≡ false) (map (new_file h parents) files)
  all-unchanged [] all = tt
  all-unchanged (f ∷ files) all = (is-unchanged f all.0, all-unchanged files all.1)

  -- the paths of the parent's files
  old-paths : map (λ (p : Placed). p.path) (placed_at h o ++ []) ≡ tree_paths old
  old-paths = ap (map (λ (p : Placed). p.path)) (append-nil (placed_at h o) ∙ is.placed) ∙ paths old
    where
      paths : (tree : List TreeFile) → map (λ (p : Placed). p.path) (map (placing is.number) tree) ≡ tree_paths tree
      paths [] = refl
      paths (g ∷ tree) = ap (λ l. g.path ∷ l) (paths tree)

  abbrev is-gone : List ℕ → Bool
  is-gone path = not (among path (tree_paths c.tree))

  module _ (ordered : ascends (tree_paths c.tree) ≡ true) where
    same-without-change : (length (changed_paths h c) == 0) ≡ true → same_tree old c.tree ≡ true
    same-without-change e =
        let changed = tree_paths (filter (is_changed h c) c.tree) in
        let none = in_order-none (changed ++ removed_paths h c) e in
        let kept_files = none-all (is_changed h c) c.tree (none-mapped (λ (f : TreeFile). f.path) (filter (is_changed h c) c.tree) (none-left changed (removed_paths h c) none)) in
        let gone = subst (AllByRecursion (λ path. is-gone path ≡ false)) old-paths (none-all is-gone (map (λ (p : Placed). p.path) (placed_at h o ++ [])) (none-right changed (removed_paths h c) none)) in
        let there = all-map (λ path. is-gone path ≡ false) (λ path. among path (tree_paths c.tree) ≡ true) (tree_paths old) (λ path. not-false (among path (tree_paths c.tree))) gone in
        ap (λ tree. same_tree tree c.tree) (alike old c.tree is.ordered ordered (all-found n.files kept_files) there) ∙ same_tree-refl c.tree

    all-there : (tree : List TreeFile) → AllByRecursion (λ (g : TreeFile). find (is-at g.path) c.tree ≡ Some g) tree → AllByRecursion (λ path. is-gone path ≡ false) (tree_paths tree)
    all-there [] all = tt
    all-there (g ∷ tree) all = (ap not (found-among c.tree g.path g all.0), all-there tree all.1)

    no-change-of-same : same_tree old c.tree ≡ true → (length (changed_paths h c) == 0) ≡ true
    no-change-of-same e =
        let is_same = same_tree-eq old c.tree e in
        let found = found-self c.tree ordered in
        let changed = all-none (is_changed h c) c.tree (all-unchanged n.files (subst (λ tree. AllByRecursion (λ (g : TreeFile). find (is-at g.path) tree ≡ Some g) c.tree) (sym is_same) found)) in
        let gone = ap (filter is-gone) (old-paths ∙ ap tree_paths is_same) ∙ all-none is-gone (tree_paths c.tree) (all-there c.tree found) in
        λ i. length (in_order (tree_paths (changed i) ++ gone i)) == 0

    no-change : (length (changed_paths h c) == 0) ≡ same_tree old c.tree
    no-change = both-ways (length (changed_paths h c) == 0) (same_tree old c.tree) same-without-change no-change-of-same

pub unchanged : (r : Repo) (o : Option ℕ) (n : NewChange) → IsRepo r → IfSome o (λ rev. rev < length r.changesets) → ascends (tree_paths (new_changeset (history r.changesets) (o, None) n).tree) ≡ true
    → (length (changed_paths (history r.changesets) (new_changeset (history r.changesets) (o, None) n)) == 0) ≡ same_tree (tree_of r.changesets o) (new_changeset (history r.changesets) (o, None) n).tree
unchanged r o n is low ordered = no-change (history r.changesets) o (tree_of r.changesets o) (parent-tree r o is low) n ordered
