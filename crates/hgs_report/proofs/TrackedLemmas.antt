-- Paths of rows, and sets of paths.
use Rattle.std.proofs.Common.{◌≡◌, ℕ, zero, suc, List, [], ◌∷◌, Bool, true, false, cond, ◌&&◌, ◌||◌, not, nat_eq, take, map, length, refl, sym, ◌∙◌, ap, arith}
use Rattle.std.specs.Prelude.{Vec, Option, Some, None, is_some, option_map, slice_get}
use Rattle.std.specs.BTreeSet.{insert_key}
use Rattle.std.specs.List.{list_all}
use Rattle.std.specs.Cmp.Lexicographic.{bytes_decides, slice_cmp, texts_ties}
use Rattle.std.specs.declared.alloc.Global.{Global}
use Rattle.std.specs.declared.cmp.Ordering.{Ordering}
use Rattle.std.specs.declared.cmp.Ordering.TheVariants.{Less, Equal, Greater}
use Rattle.std.specs.Ordering.{nat_cmp, is_eq, match_ordering}
use Rattle.std.proofs.lemmas.Bool.Decides.{nat_tests}
use Rattle.hgs_bytes.specs.Bytes.{same, among}
use Rattle.hgs_index.specs.Manifest.{Row}
use Rattle.hgs_index.specs.Revision.{Revision}
use Rattle.hgs_index.specs.TrackedPath.{is_tracked}
use Rattle.hgs_findings.specs.Findings.{have_same, tracks_others, paths_of_seen}
use Rattle.hgs_findings.specs.Sight.{Sight, row_paths, tracked_rows, seen, seen_of}
use Rattle.hgs_judge.specs.declared.changesets.Changeset.{Changeset}
use Rattle.hgs_judge.specs.declared.changesets.Tree.{Tree}
use Rattle.hgs_judge.specs.Changesets.{changeset_as}
use Rattle.hgs_judge.specs.Trees.{rows_read, rows_in_tree}
use Rattle.hgs_report.specs.Lines.{has_key, tracked_in}
use Rattle.hgs_report.proofs.EachLemmas.{never}
use Rattle.hgs_report.proofs.StoreLemmas.{mapped-at, at-mapped}

pub same-turned : (x y : List ℕ) → same x y ≡ same y x
same-turned x y = by (same x y) refl (same y x) refl
  where
    by : (a : Bool) → same x y ≡ a → (b : Bool) → same y x ≡ b → a ≡ b
    by true p true q = refl
    by false p false q = refl
    by true p false q = never (sym ((bytes_decides y x).1 (sym ((bytes_decides x y).0 p))) ∙ q)
    by false p true q = never (sym ((bytes_decides x y).1 (sym ((bytes_decides y x).0 q))) ∙ p)

or-swap : (a b c : Bool) → (a || (b || c)) ≡ (b || (a || c))
or-swap true true c = refl
or-swap true false c = refl
or-swap false b c = refl

-- ---- the rows that may be tracked

-- the paths of one row more
rows-more : (rows : List Row) (i : ℕ) (r : Row) (path : List ℕ) → slice_get rows i ≡ Some r
    → among path (row_paths (tracked_rows (take (suc i) rows))) ≡ cond (is_tracked r.path) (same path r.path || among path (row_paths (tracked_rows (take i rows)))) (among path (row_paths (tracked_rows (take i rows))))
rows-more [] i r path at = absurd (clash at)
  where
    clash : None ≡ Some r → ⊥
    clash h = cc
rows-more (x ∷ rows) zero r path at = by (is_tracked x.path) ∙ ap (λ (y : Row). cond (is_tracked y.path) (same path y.path || false) false) (some-row x r at)
  where
    some-row : (a b : Row) → Some a ≡ Some b → a ≡ b
    some-row a b h = ap (elim [ None ↦ a | Some z ↦ z ]) h

    by : (b : Bool) → among path (row_paths (cond b (x ∷ []) [])) ≡ cond b (same path x.path || false) false
    by true = refl
    by false = refl
rows-more (x ∷ rows) (suc i) r path at = by (is_tracked x.path) (rows-more rows i r path at)
  where
    before : List (List ℕ)
    before = row_paths (tracked_rows (take i rows))

    after : List (List ℕ)
    after = row_paths (tracked_rows (take (suc i) rows))

    deep : (t : Bool) → among path after ≡ cond t (same path r.path || among path before) (among path before) → (same path x.path || among path after) ≡ cond t (same path r.path || (same path x.path || among path before)) (same path x.path || among path before)
    deep true e = ap (λ b. same path x.path || b) e ∙ or-swap (same path x.path) (same path r.path) (among path before)
    deep false e = ap (λ b. same path x.path || b) e

    by : (b : Bool) → among path after ≡ cond (is_tracked r.path) (same path r.path || among path before) (among path before)
        → among path (row_paths (cond b (x ∷ tracked_rows (take (suc i) rows)) (tracked_rows (take (suc i) rows)))) ≡ cond (is_tracked r.path) (same path r.path || among path (row_paths (cond b (x ∷ tracked_rows (take i rows)) (tracked_rows (take i rows))))) (among path (row_paths (cond b (x ∷ tracked_rows (take i rows)) (tracked_rows (take i rows)))))
    by true e = deep (is_tracked r.path) e
    by false e = e

pub row-entered : (rows : List Row) (i : ℕ) (r : Row) (path : List ℕ) → slice_get rows i ≡ Some r → is_tracked r.path ≡ true → among path (row_paths (tracked_rows (take (suc i) rows))) ≡ (same path r.path || among path (row_paths (tracked_rows (take i rows))))
row-entered rows i r path at is = rows-more rows i r path at ∙ ap (λ b. cond b (same path r.path || among path (row_paths (tracked_rows (take i rows)))) (among path (row_paths (tracked_rows (take i rows))))) is

pub row-passed : (rows : List Row) (i : ℕ) (r : Row) (path : List ℕ) → slice_get rows i ≡ Some r → is_tracked r.path ≡ false → among path (row_paths (tracked_rows (take (suc i) rows))) ≡ among path (row_paths (tracked_rows (take i rows)))
row-passed rows i r path at is = rows-more rows i r path at ∙ ap (λ b. cond b (same path r.path || among path (row_paths (tracked_rows (take i rows)))) (among path (row_paths (tracked_rows (take i rows))))) is

pub mapped-some : {A B : Type 0} (f : A → B) (o : Option A) → is_some (option_map f o) ≡ is_some o
mapped-some f None = refl
mapped-some f (Some x) = refl

pub kept-more : (f : List ℕ → Bool) (rows : List Row) (i : ℕ) (r : Row) → slice_get rows i ≡ Some r → list_all f (row_paths (tracked_rows (take i rows))) ≡ true → (not (is_tracked r.path) || f r.path) ≡ true → list_all f (row_paths (tracked_rows (take (suc i) rows))) ≡ true
kept-more f [] i r at all one = refl
kept-more f (x ∷ rows) zero r at all one = by (is_tracked x.path) (ap (λ (y : Row). not (is_tracked y.path) || f y.path) (some-row x r at) ∙ one)
  where
    some-row : (a b : Row) → Some a ≡ Some b → a ≡ b
    some-row a b h = ap (elim [ None ↦ a | Some z ↦ z ]) h

    by : (b : Bool) → (not b || f x.path) ≡ true → list_all f (row_paths (cond b (x ∷ []) [])) ≡ true
    by true e = ap (λ b. b && true) e
    by false e = refl
kept-more f (x ∷ rows) (suc i) r at all one = by (is_tracked x.path) all (λ rest. kept-more f rows i r at rest one)
  where
    deep : (b : Bool) → (b && list_all f (row_paths (tracked_rows (take i rows)))) ≡ true → (list_all f (row_paths (tracked_rows (take i rows))) ≡ true → list_all f (row_paths (tracked_rows (take (suc i) rows))) ≡ true) → (b && list_all f (row_paths (tracked_rows (take (suc i) rows)))) ≡ true
    deep true e rec = rec e
    deep false e rec = e

    by : (b : Bool) → list_all f (row_paths (cond b (x ∷ tracked_rows (take i rows)) (tracked_rows (take i rows)))) ≡ true → (list_all f (row_paths (tracked_rows (take i rows))) ≡ true → list_all f (row_paths (tracked_rows (take (suc i) rows))) ≡ true)
        → list_all f (row_paths (cond b (x ∷ tracked_rows (take (suc i) rows)) (tracked_rows (take (suc i) rows)))) ≡ true
    by true e rec = deep (f x.path) e rec
    by false e rec = rec e

pub not-kept : (f : List ℕ → Bool) (rows : List Row) (i : ℕ) (r : Row) → slice_get rows i ≡ Some r → (not (is_tracked r.path) || f r.path) ≡ false → list_all f (row_paths (tracked_rows rows)) ≡ false
not-kept f [] i r at one = absurd (clash at)
  where
    clash : None ≡ Some r → ⊥
    clash h = cc
not-kept f (x ∷ rows) zero r at one = by (is_tracked x.path) (ap (λ (y : Row). not (is_tracked y.path) || f y.path) (some-row x r at) ∙ one)
  where
    some-row : (a b : Row) → Some a ≡ Some b → a ≡ b
    some-row a b h = ap (elim [ None ↦ a | Some z ↦ z ]) h

    by : (b : Bool) → (not b || f x.path) ≡ false → list_all f (row_paths (cond b (x ∷ tracked_rows rows) (tracked_rows rows))) ≡ false
    by true e = ap (λ b. b && list_all f (row_paths (tracked_rows rows))) e
    by false e = never e
not-kept f (x ∷ rows) (suc i) r at one = by (is_tracked x.path) (not-kept f rows i r at one)
  where
    off : (b c : Bool) → c ≡ false → (b && c) ≡ false
    off true c e = e
    off false c e = refl

    by : (b : Bool) → list_all f (row_paths (tracked_rows rows)) ≡ false → list_all f (row_paths (cond b (x ∷ tracked_rows rows) (tracked_rows rows))) ≡ false
    by true e = off (f x.path) (list_all f (row_paths (tracked_rows rows))) e
    by false e = e

-- ---- sets of paths

or-twice : (a c : Bool) → (a || c) ≡ (a || (a || c))
or-twice true c = refl
or-twice false c = refl

pub key-more : (cmp : Vec ℕ Global → Vec ℕ Global → Ordering) → ((a b : Vec ℕ Global) → cmp a b ≡ slice_cmp nat_cmp a.items b.items) → (keys : List (Vec ℕ Global)) (k : Vec ℕ Global) (path : List ℕ) → has_key (insert_key cmp keys k) path ≡ (same path k.items || has_key keys path)
key-more cmp is [] k path = ap (λ b. b || false) (sym (texts_ties path k.items))
key-more cmp is (x ∷ keys) k path = by (cmp k x) refl (key-more cmp is keys k path)
  where
    told : is_eq (slice_cmp nat_cmp path k.items) ≡ same path k.items
    told = sym (texts_ties path k.items)

    by : (o : Ordering) → cmp k x ≡ o → has_key (insert_key cmp keys k) path ≡ (same path k.items || has_key keys path) → has_key (match_ordering o (k ∷ x ∷ keys) (x ∷ keys) (x ∷ insert_key cmp keys k)) path ≡ (same path k.items || has_key (x ∷ keys) path)
    by Less e rec = ap (λ b. b || has_key (x ∷ keys) path) told
    by Equal e rec = here ∙ ap (λ b. b || (is_eq (slice_cmp nat_cmp path x.items) || has_key keys path)) (sym one)
      where
        equal : k.items ≡ x.items
        equal = (bytes_decides k.items x.items).0 (texts_ties k.items x.items ∙ ap is_eq (sym (is k x) ∙ e))

        one : same path k.items ≡ is_eq (slice_cmp nat_cmp path x.items)
        one = ap (same path) equal ∙ texts_ties path x.items

        here : has_key (x ∷ keys) path ≡ (is_eq (slice_cmp nat_cmp path x.items) || (is_eq (slice_cmp nat_cmp path x.items) || has_key keys path))
        here = or-twice (is_eq (slice_cmp nat_cmp path x.items)) (has_key keys path)
    by Greater e rec = ap (λ b. is_eq (slice_cmp nat_cmp path x.items) || b) rec ∙ or-swap (is_eq (slice_cmp nat_cmp path x.items)) (same path k.items) (has_key keys path)

pub among-more : (xs : List (List ℕ)) (i : ℕ) (x path : List ℕ) → slice_get xs i ≡ Some x → among path (take (suc i) xs) ≡ (same path x || among path (take i xs))
among-more [] i x path at = absurd (clash at)
  where
    clash : None ≡ Some x → ⊥
    clash h = cc
among-more (y ∷ xs) zero x path at = ap (λ z. same path z || false) (some-same y x at)
  where
    some-same : (a b : List ℕ) → Some a ≡ Some b → a ≡ b
    some-same a b h = ap (elim [ None ↦ a | Some z ↦ z ]) h
among-more (y ∷ xs) (suc i) x path at = ap (λ b. same path y || b) (among-more xs i x path at) ∙ or-swap (same path y) (same path x) (among path (take i xs))

-- ---- other paths

nothing-among : (xs : List (List ℕ)) → not (nat_eq (length xs) 0) ≡ not (have_same xs [])
nothing-among [] = refl
nothing-among (x ∷ xs) = ap not (let e : nat_eq (suc (length xs)) 0 ≡ false = grind (arith, nat_tests) in e)

pub others-none : (trees : List (Option (List Row))) (tree : Tree) (paths : List (List ℕ)) → rows_in_tree trees tree ≡ Some [] → (n : ℕ) → n ≡ length paths → not (nat_eq n 0) ≡ tracks_others paths (tracked_in trees tree)
others-none trees tree paths e n is = ap (λ m. not (nat_eq m 0)) is ∙ nothing-among paths ∙ sym (ap (λ o. tracks_others paths (option_map row_paths (option_map tracked_rows o))) e)

pub others-some : (trees : List (Option (List Row))) (tree : Tree) (paths : List (List ℕ)) (rows : List Row) (b : Bool) → rows_in_tree trees tree ≡ Some rows → b ≡ have_same paths (row_paths (tracked_rows rows)) → not b ≡ tracks_others paths (tracked_in trees tree)
others-some trees tree paths rows b e is = ap not is ∙ sym (ap (λ o. tracks_others paths (option_map row_paths (option_map tracked_rows o))) e)

pub others-unknown : (trees : List (Option (List Row))) (tree : Tree) (paths : List (List ℕ)) → rows_in_tree trees tree ≡ None → false ≡ tracks_others paths (tracked_in trees tree)
others-unknown trees tree paths e = sym (ap (λ o. tracks_others paths (option_map row_paths (option_map tracked_rows o))) e)

-- ---- the tree of a changeset

abbrev pub TrackedTrees : Type 0
TrackedTrees = (s : Sight) (r : Revision) → (seen_of s r).rows ≡ option_map tracked_rows (rows_in_tree (map rows_read s.manifest) (changeset_as (seen_of s r)).tree)

pub tree-seen : TrackedTrees → (s : Sight) (rev : ℕ) (x : Changeset) → slice_get (map changeset_as (seen s)) rev ≡ Some x → tracked_in (map rows_read s.manifest) x.tree ≡ paths_of_seen (slice_get (seen s) rev)
tree-seen law s rev x at =
    let c = mapped-at changeset_as (seen s) rev x at in
    let r = mapped-at (seen_of s) s.changelog rev c.0 c.1 in
    ap (λ (y : Changeset). tracked_in (map rows_read s.manifest) y.tree) (c.2 ∙ ap changeset_as r.2)
    ∙ ap (option_map row_paths) (sym (law s r.0))
    ∙ sym (ap paths_of_seen (at-mapped (seen_of s) s.changelog rev r.0 r.1))
