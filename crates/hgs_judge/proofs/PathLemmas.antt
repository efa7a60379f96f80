-- The paths that the changesets use.
use Rattle.std.proofs.Common.{◌≡◌, ℕ, zero, suc, ◌+◌, ◌-◌, ◌<◌, Bool, true, false, cond, List, [], ◌∷◌, ◌++◌, length, drop, map, refl, sym, ◌∙◌, ap, arith}
use Rattle.std.specs.Prelude.{Option, Some, None, option_map, slice_get, unwrap_or, flat_map, is_some}
use Rattle.std.specs.BTreeSet.{insert_key}
use Rattle.std.specs.declared.cmp.Ordering.{Ordering}
use Rattle.std.specs.declared.cmp.Ordering.TheVariants.{Less, Equal, Greater}
use Rattle.std.specs.Ordering.{match_ordering, nat_cmp, is_eq, is_lt}
use Rattle.std.specs.Cmp.Lexicographic.{slice_cmp, texts_ties}
use Rattle.hgs_bytes.specs.Bytes.{same, is_below}
use Rattle.hgs_index.specs.Manifest.{Row, read_manifest}
use Rattle.hgs_index.specs.Revision.{Revision}
use Rattle.hgs_index.specs.TrackedPath.{is_tracked}
use Rattle.hgs_model.specs.History.{in_order, inserted, text_at}
use Rattle.hgs_findings.specs.Regular.{rows_of_seen}
use Rattle.hgs_findings.specs.Sight.{Sight, Seen, value, row_paths, tracked_rows, has_null_manifest, rows_of, seen, seen_of, manifest_of_seen}
use Rattle.hgs_judge.specs.declared.changesets.Changeset.{Changeset}
use Rattle.hgs_judge.specs.Changesets.{changeset_as, tree_as}
use Rattle.hgs_judge.specs.Paths.{entered, paths_in_tree}
use Rattle.hgs_judge.specs.Trees.{rows_read}
use Rattle.hgs_judge.proofs.ChangesetLemmas.{mapped-at}
use Rattle.hgs_judge.proofs.EnteredLemmas.{entered-before-others}
use Rattle.hgs_judge.proofs.TreeLemmas.{rows_when, text-rows}

-- a set takes a path as the list in order does
pub insert-is : (keys : List (List ℕ)) (path : List ℕ) → insert_key (slice_cmp nat_cmp) keys path ≡ inserted path keys
insert-is [] path = refl
insert-is (x ∷ keys) path = by (slice_cmp nat_cmp path x) refl (insert-is keys path)
  where
    by : (o : Ordering) → slice_cmp nat_cmp path x ≡ o → insert_key (slice_cmp nat_cmp) keys path ≡ inserted path keys
        → match_ordering o (path ∷ x ∷ keys) (x ∷ keys) (x ∷ insert_key (slice_cmp nat_cmp) keys path)
        ≡ cond (same path x) (x ∷ keys) (cond (is_below path x) (path ∷ x ∷ keys) (x ∷ inserted path keys))
    by Less e rec = sym (ap (λ b. cond b (x ∷ keys) (cond (is_below path x) (path ∷ x ∷ keys) (x ∷ inserted path keys))) (texts_ties path x ∙ ap is_eq e) ∙ ap (λ o. cond (is_lt o) (path ∷ x ∷ keys) (x ∷ inserted path keys)) e)
    by Equal e rec = sym (ap (λ b. cond b (x ∷ keys) (cond (is_below path x) (path ∷ x ∷ keys) (x ∷ inserted path keys))) (texts_ties path x ∙ ap is_eq e))
    by Greater e rec = ap (λ l. x ∷ l) rec ∙ sym (ap (λ b. cond b (x ∷ keys) (cond (is_below path x) (path ∷ x ∷ keys) (x ∷ inserted path keys))) (texts_ties path x ∙ ap is_eq e) ∙ ap (λ o. cond (is_lt o) (path ∷ x ∷ keys) (x ∷ inserted path keys)) e)

pub entered-joined : (xs ys keys : List (List ℕ)) → entered (xs ++ ys) keys ≡ entered xs (entered ys keys)
entered-joined [] ys keys = refl
entered-joined (x ∷ xs) ys keys = ap (inserted x) (entered-joined xs ys keys)

pub entered-all : (xs : List (List ℕ)) → entered xs [] ≡ in_order xs
entered-all [] = refl
entered-all (x ∷ xs) = ap (inserted x) (entered-all xs)

-- the list from one element before
pub drop-before : {A : Type 0} (xs : List A) (i : ℕ) (x : A) → slice_get xs i ≡ Some x → drop i xs ≡ x ∷ drop (i + 1) xs
drop-before [] i x e = absurd (no_x e)
  where
    no_x : None ≡ Some x → ⊥
    no_x h = cc
drop-before {A = A} (y ∷ xs) zero x e = ap (λ z. z ∷ xs) (some-same y x e)
  where
    some-same : (a b : A) → Some a ≡ Some b → a ≡ b
    some-same a b h = ap (elim [ None ↦ a | Some z ↦ z ]) h
drop-before (y ∷ xs) (suc i) x e = drop-before xs i x e ∙ ap (λ n. x ∷ drop n (y ∷ xs)) (let n : suc (i + 1) ≡ suc i + 1 = omega arith in n)

pub drop-all : {A : Type 0} (xs : List A) → drop (length xs) xs ≡ []
drop-all [] = refl
drop-all (x ∷ xs) = drop-all xs

-- ---- rows

pub row-entered : (r : Row) (rows : List Row) (keys : List (List ℕ)) → is_tracked r.path ≡ true → entered (row_paths (tracked_rows (r ∷ rows))) keys ≡ inserted r.path (entered (row_paths (tracked_rows rows)) keys)
row-entered r rows keys e = ap (λ b. entered (row_paths (cond b (r ∷ tracked_rows rows) (tracked_rows rows))) keys) e

pub row-passed : (r : Row) (rows : List Row) (keys : List (List ℕ)) → is_tracked r.path ≡ false → entered (row_paths (tracked_rows (r ∷ rows))) keys ≡ entered (row_paths (tracked_rows rows)) keys
row-passed r rows keys e = ap (λ b. entered (row_paths (cond b (r ∷ tracked_rows rows) (tracked_rows rows))) keys) e

-- the rows from one before
rows-before : (rows : List Row) (left : ℕ) (r : Row) → 0 < left → slice_get rows (left - 1) ≡ Some r → drop (left - 1) rows ≡ r ∷ drop left rows
rows-before rows left r lt at = drop-before rows (left - 1) r at ∙ ap (λ n. r ∷ drop n rows) (let e : left - 1 + 1 ≡ left = omega (arith, lt) in e)

pub entered-before : (rows : List Row) (left : ℕ) (r : Row) (start old new : List (List ℕ)) (key : List ℕ) → 0 < left → slice_get rows (left - 1) ≡ Some r → is_tracked r.path ≡ true → key ≡ r.path
    → old ≡ entered (row_paths (tracked_rows (drop left rows))) start → new ≡ insert_key (slice_cmp nat_cmp) old key → new ≡ entered (row_paths (tracked_rows (drop (left - 1) rows))) start
entered-before rows left r start old new key lt at tracked is before one =
    one
    ∙ insert-is old key
    ∙ ap (λ k. inserted k old) is
    ∙ ap (inserted r.path) before
    ∙ sym (row-entered r (drop left rows) start tracked)
    ∙ ap (λ l. entered (row_paths (tracked_rows l)) start) (sym (rows-before rows left r lt at))

pub passed-before : (rows : List Row) (left : ℕ) (r : Row) (start old : List (List ℕ)) → 0 < left → slice_get rows (left - 1) ≡ Some r → is_tracked r.path ≡ false → old ≡ entered (row_paths (tracked_rows (drop left rows))) start → old ≡ entered (row_paths (tracked_rows (drop (left - 1) rows))) start
passed-before rows left r start old lt at untracked before =
    before
    ∙ sym (row-passed r (drop left rows) start untracked)
    ∙ ap (λ l. entered (row_paths (tracked_rows l)) start) (sym (rows-before rows left r lt at))

-- a row whose path stood there before
pub passed-known : (rows : List Row) (left : ℕ) (r : Row) (start old : List (List ℕ)) → 0 < left → slice_get rows (left - 1) ≡ Some r → (is_tracked r.path ≡ true → inserted r.path start ≡ start) → old ≡ entered (row_paths (tracked_rows (drop left rows))) start → old ≡ entered (row_paths (tracked_rows (drop (left - 1) rows))) start
passed-known rows left r start old lt at known before = by (is_tracked r.path) refl
  where
    by : (b : Bool) → is_tracked r.path ≡ b → old ≡ entered (row_paths (tracked_rows (drop (left - 1) rows))) start
    by false t = passed-before rows left r start old lt at t before
    by true t =
        before
        ∙ sym (entered-before-others r.path (row_paths (tracked_rows (drop left rows))) start (known t))
        ∙ sym (row-entered r (drop left rows) start t)
        ∙ ap (λ l. entered (row_paths (tracked_rows l)) start) (sym (rows-before rows left r lt at))

-- ---- changesets

seen-paths : (s : Sight) (null : Bool) (manifest : Option ℕ) → paths_in_tree (map rows_read s.manifest) (tree_as (cond (is_some manifest) (Some manifest) (cond null (Some None) None)))
    ≡ row_paths (unwrap_or (rows_when null manifest (λ m. option_map tracked_rows (value (read_manifest (text_at s.manifest m))))) [])
seen-paths s null (Some m) = ap (λ o. row_paths (unwrap_or (option_map tracked_rows o) [])) (text-rows s.manifest m)
seen-paths s true None = refl
seen-paths s false None = refl

tree-paths : (s : Sight) (r : Revision) → paths_in_tree (map rows_read s.manifest) (tree_as (manifest_of_seen (Some (seen_of s r)))) ≡ row_paths (rows_of_seen (seen_of s r))
tree-paths s r = seen-paths s (has_null_manifest (seen_of s r).change) (seen_of s r).manifest ∙ by (seen_of s r).manifest
  where
    by : (m : Option ℕ) → row_paths (unwrap_or (rows_when (has_null_manifest (seen_of s r).change) m (λ n. option_map tracked_rows (value (read_manifest (text_at s.manifest n))))) []) ≡ row_paths (unwrap_or (rows_of s (seen_of s r).change m) [])
    by None = refl
    by (Some n) = refl

abbrev pub paths_of_seen : Seen → List (List ℕ)
paths_of_seen c = row_paths (rows_of_seen c)

-- one more changeset, before those that were entered
pub seen-entered : (s : Sight) (i : ℕ) (item : Changeset) (trees : List (Option (List Row))) (changesets : List Changeset) (old new : List (List ℕ)) → trees ≡ map rows_read s.manifest → changesets ≡ map changeset_as (seen s) → slice_get changesets i ≡ Some item
    → old ≡ in_order (flat_map paths_of_seen (drop (i + 1) (seen s))) → new ≡ entered (paths_in_tree trees item.tree) old → new ≡ in_order (flat_map paths_of_seen (drop i (seen s)))
seen-entered s i item trees changesets old new t is at before one =
    one
    ∙ ap (λ l. entered (paths_in_tree l item.tree) old) t
    ∙ ap (λ (x : Changeset). entered (paths_in_tree (map rows_read s.manifest) x.tree) old) (found.2 ∙ ap changeset_as of.2)
    ∙ ap (λ l. entered l old) (tree-paths s of.0 ∙ ap paths_of_seen (sym of.2))
    ∙ ap (entered (paths_of_seen found.0)) (before ∙ sym (entered-all (flat_map paths_of_seen (drop (i + 1) (seen s)))))
    ∙ sym (entered-joined (paths_of_seen found.0) (flat_map paths_of_seen (drop (i + 1) (seen s))) [])
    ∙ entered-all (paths_of_seen found.0 ++ flat_map paths_of_seen (drop (i + 1) (seen s)))
    ∙ ap (λ l. in_order (flat_map paths_of_seen l)) (sym (drop-before (seen s) i found.0 found.1))
  where
    found : (x : Seen) × (slice_get (seen s) i ≡ Some x) × (item ≡ changeset_as x)
    found = mapped-at changeset_as (seen s) i item (ap (λ l. slice_get l i) (sym is) ∙ at)

    of : (x : Revision) × (slice_get s.changelog i ≡ Some x) × (found.0 ≡ seen_of s x)
    of = mapped-at (seen_of s) s.changelog i found.0 found.1
