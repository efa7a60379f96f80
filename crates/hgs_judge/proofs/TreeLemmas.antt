-- The rows of trees, and the words of the changesets.
use Rattle.std.proofs.Common.{◌≡◌, ℕ, zero, suc, ◌≤◌, Bool, true, false, cond, ◌&&◌, List, [], ◌∷◌, length, take, map, refl, sym, ◌∙◌, ap, arith}
use Rattle.std.specs.Prelude.{Option, Some, None, Ok, Err, is_some, option_map, slice_get, find}
use Rattle.std.specs.List.{AllByRecursion, list_all}
use Rattle.std.specs.Cmp.Lexicographic.{bytes_decides}
use Rattle.std.specs.Str.{is_utf8}
use Rattle.hgs_bytes.specs.Bytes.{same, among}
use Rattle.hgs_bytes.specs.Text.{ascends}
use Rattle.hgs_index.specs.declared.kinds.Flag.{Flag}
use Rattle.hgs_index.specs.declared.texts.ChangeFault.{ChangeFault}
use Rattle.hgs_index.specs.ChangeText.{Change, Header, When, read_change, change_parts, change_of, change_with, split_at_blank, header_of, header_lines, when_at}
use Rattle.hgs_index.specs.Hex.{node_at}
use Rattle.hgs_index.specs.Manifest.{Row, read_manifest}
use Rattle.hgs_index.specs.Revision.{Revision}
use Rattle.hgs_index.specs.TrackedPath.{is_tracked}
use Rattle.hgs_manifest.specs.Held.{found_in}
use Rattle.hgs_model.specs.History.{text_at}
use Rattle.hgs_revlog.specs.Load.{most_text}
use Rattle.hgs_findings.specs.Sight.{Sight, value, row_paths, tracked_rows, has_null_manifest, rows_of, seen_of, manifest_of_seen}
use Rattle.hgs_judge.specs.declared.changesets.Tree.{Tree}
use Rattle.hgs_findings.specs.OnePath.{word_of}
use Rattle.hgs_judge.specs.declared.changesets.Changeset.{Changeset}
use Rattle.hgs_judge.specs.declared.words.Word.{Word}
use Rattle.hgs_judge.specs.Changesets.{changeset_as, files_of, tree_as}
use Rattle.hgs_judge.specs.Words.{row_in, word_in}
use Rattle.hgs_judge.specs.Trees.{rows_read, rows_or_none, rows_in_tree, row_for}
use Rattle.hgs_judge.proofs.Basics.{never}

pub small-at : (revs : List Revision) (rev : ℕ) → AllByRecursion (λ (r : Revision). length r.text ≤ most_text) revs → length (text_at revs rev) ≤ most_text
small-at [] rev all = omega arith
small-at (r ∷ revs) zero all = all.0
small-at (r ∷ revs) (suc rev) all = small-at revs rev all.1

-- ---- paths that are tracked

pub tracked-more : (rows : List Row) (i : ℕ) (r : Row) → slice_get rows i ≡ Some r → list_all is_tracked (row_paths (take i rows)) ≡ true → is_tracked r.path ≡ true → list_all is_tracked (row_paths (take (suc i) rows)) ≡ true
tracked-more [] i r at all one = refl
tracked-more (x ∷ rows) zero r at all one = ap (λ (y : Row). is_tracked y.path && true) (some-row x r at) ∙ ap (λ b. b && true) one
  where
    some-row : (a b : Row) → Some a ≡ Some b → a ≡ b
    some-row a b h = ap (elim [ None ↦ a | Some z ↦ z ]) h
tracked-more (x ∷ rows) (suc i) r at all one = by (is_tracked x.path) all (λ rest. tracked-more rows i r at rest one)
  where
    by : (b : Bool) → (b && list_all is_tracked (row_paths (take i rows))) ≡ true → (list_all is_tracked (row_paths (take i rows)) ≡ true → list_all is_tracked (row_paths (take (suc i) rows)) ≡ true) → (b && list_all is_tracked (row_paths (take (suc i) rows))) ≡ true
    by true h rec = rec h
    by false h rec = h

pub untracked : (rows : List Row) (i : ℕ) (r : Row) → slice_get rows i ≡ Some r → is_tracked r.path ≡ false → list_all is_tracked (row_paths rows) ≡ false
untracked [] i r at not_so = absurd (clash at)
  where
    clash : None ≡ Some r → ⊥
    clash h = cc
untracked (x ∷ rows) zero r at not_so = ap (λ (y : Row). is_tracked y.path && list_all is_tracked (row_paths rows)) (some-row x r at) ∙ ap (λ b. b && list_all is_tracked (row_paths rows)) not_so
  where
    some-row : (a b : Row) → Some a ≡ Some b → a ≡ b
    some-row a b h = ap (elim [ None ↦ a | Some z ↦ z ]) h
untracked (x ∷ rows) (suc i) r at not_so = ap (λ b. is_tracked x.path && b) (untracked rows i r at not_so) ∙ by (is_tracked x.path)
  where
    by : (b : Bool) → (b && false) ≡ false
    by true = refl
    by false = refl

-- ---- the row of a path

pub row-found : (path : List ℕ) (rows : List Row) → find (λ (r : Row). same r.path path) rows ≡ option_map (λ (x : List ℕ × Flag). let r : Row = record { path = path; node = x.0; flag = x.1 } in r) (found_in path rows)
row-found path [] = refl
row-found path (r ∷ rows) = by (same r.path path) refl (row-found path rows)
  where
    by : (b : Bool) → same r.path path ≡ b → find (λ (x : Row). same x.path path) rows ≡ option_map (λ (x : List ℕ × Flag). let y : Row = record { path = path; node = x.0; flag = x.1 } in y) (found_in path rows)
        → cond b (Some r) (find (λ (x : Row). same x.path path) rows) ≡ option_map (λ (x : List ℕ × Flag). let y : Row = record { path = path; node = x.0; flag = x.1 } in y) (cond b (Some (r.node, r.flag)) (found_in path rows))
    by true e rec = λ i. Some (record { path = (bytes_decides r.path path).0 e i; node = r.node; flag = r.flag })
    by false e rec = rec

-- only a tracked path has one among the rows that are tracked
tracked-row : (path : List ℕ) (rows : List Row) → row_for (is_tracked path) path rows ≡ find (λ (r : Row). same r.path path) (tracked_rows rows)
tracked-row path [] = by (is_tracked path)
  where
    by : (b : Bool) → cond b None None ≡ (let o : Option Row = None in o)
    by true = refl
    by false = refl
tracked-row path (r ∷ rows) = by (same r.path path) refl (is_tracked r.path) refl (is_tracked path) refl (tracked-row path rows)
  where
    by : (a : Bool) → same r.path path ≡ a → (b : Bool) → is_tracked r.path ≡ b → (c : Bool) → is_tracked path ≡ c
        → cond c (find (λ (x : Row). same x.path path) rows) None ≡ find (λ (x : Row). same x.path path) (tracked_rows rows)
        → cond c (cond a (Some r) (find (λ (x : Row). same x.path path) rows)) None ≡ find (λ (x : Row). same x.path path) (cond b (r ∷ tracked_rows rows) (tracked_rows rows))
    by true e true f true g rec = sym (ap (λ t. cond t (Some r) (find (λ (x : Row). same x.path path) (tracked_rows rows))) e)
    by true e false f true g rec = never (sym g ∙ sym (ap is_tracked ((bytes_decides r.path path).0 e)) ∙ f)
    by true e true f false g rec = never (sym f ∙ ap is_tracked ((bytes_decides r.path path).0 e) ∙ g)
    by true e false f false g rec = rec
    by false e true f true g rec = rec ∙ sym (ap (λ t. cond t (Some r) (find (λ (x : Row). same x.path path) (tracked_rows rows))) e)
    by false e true f false g rec = rec ∙ sym (ap (λ t. cond t (Some r) (find (λ (x : Row). same x.path path) (tracked_rows rows))) e)
    by false e false f true g rec = rec
    by false e false f false g rec = rec

-- ---- the rows of a changeset's tree

pub text-rows : (revs : List Revision) (rev : ℕ) → rows_or_none (slice_get (map rows_read revs) rev) ≡ value (read_manifest (text_at revs rev))
text-rows [] rev = refl
text-rows (r ∷ revs) zero = refl
text-rows (r ∷ revs) (suc rev) = text-rows revs rev

abbrev tree_with : Option ℕ → Bool → Tree
tree_with manifest null = tree_as (cond (is_some manifest) (Some manifest) (cond null (Some None) None))

abbrev pub rows_when : Bool → Option ℕ → (ℕ → Option (List Row)) → Option (List Row)
rows_when null None f = cond null (Some []) None
rows_when null (Some m) f = f m

seen-rows : (s : Sight) (path : List ℕ) (null : Bool) (manifest : Option ℕ) → option_map (row_for (is_tracked path) path) (rows_in_tree (map rows_read s.manifest) (tree_with manifest null))
    ≡ option_map (λ rows. find (λ (r : Row). same r.path path) rows) (rows_when null manifest (λ m. option_map tracked_rows (value (read_manifest (text_at s.manifest m)))))
seen-rows s path null (Some m) = ap (option_map (row_for (is_tracked path) path)) (text-rows s.manifest m) ∙ by (value (read_manifest (text_at s.manifest m)))
  where
    by : (o : Option (List Row)) → option_map (row_for (is_tracked path) path) o ≡ option_map (λ rows. find (λ (r : Row). same r.path path) rows) (option_map tracked_rows o)
    by None = refl
    by (Some rows) = ap Some (tracked-row path rows)
seen-rows s path true None = ap Some (tracked-row path [])
seen-rows s path false None = refl

-- what a tree has at a path
pub tree-row : (s : Sight) (r : Revision) (path : List ℕ) → option_map (row_for (is_tracked path) path) (rows_in_tree (map rows_read s.manifest) (tree_as (manifest_of_seen (Some (seen_of s r)))))
    ≡ option_map (λ rows. find (λ (x : Row). same x.path path) rows) (seen_of s r).rows
tree-row s r path = seen-rows s path (has_null_manifest (seen_of s r).change) (seen_of s r).manifest ∙ by (seen_of s r).manifest
  where
    by : (m : Option ℕ) → option_map (λ rows. find (λ (x : Row). same x.path path) rows) (rows_when (has_null_manifest (seen_of s r).change) m (λ n. option_map tracked_rows (value (read_manifest (text_at s.manifest n)))))
        ≡ option_map (λ rows. find (λ (x : Row). same x.path path) rows) (rows_of s (seen_of s r).change m)
    by None = refl
    by (Some n) = refl

rows-tracked : (s : Sight) (null : Bool) (manifest : Option ℕ) → option_map tracked_rows (rows_in_tree (map rows_read s.manifest) (tree_with manifest null)) ≡ rows_when null manifest (λ m. option_map tracked_rows (value (read_manifest (text_at s.manifest m))))
rows-tracked s null (Some m) = ap (option_map tracked_rows) (text-rows s.manifest m)
rows-tracked s true None = refl
rows-tracked s false None = refl

-- the rows of a tree
pub tree-rows : (s : Sight) (r : Revision) → option_map tracked_rows (rows_in_tree (map rows_read s.manifest) (tree_as (manifest_of_seen (Some (seen_of s r))))) ≡ (seen_of s r).rows
tree-rows s r = rows-tracked s (has_null_manifest (seen_of s r).change) (seen_of s r).manifest ∙ by (seen_of s r).manifest
  where
    by : (m : Option ℕ) → rows_when (has_null_manifest (seen_of s r).change) m (λ n. option_map tracked_rows (value (read_manifest (text_at s.manifest n)))) ≡ rows_of s (seen_of s r).change m
    by None = refl
    by (Some n) = refl

-- ---- the list of changed files

-- it ascends where the text has the form
pub files-ascend : (text : List ℕ) (v : Change) → value (read_change text) ≡ Some v → ascends v.files ≡ true
files-ascend text v e = by (split_at_blank text) e
  where
    some-change : (a b : Change) → Some a ≡ Some b → a ≡ b
    some-change a b h = ap (elim [ None ↦ a | Some z ↦ z ]) h

    none : {A : Type 0} → (let o : Option Change = None in o) ≡ Some v → A
    none h = absurd (clash h)
      where
        clash : (let o : Option Change = None in o) ≡ Some v → ⊥
        clash k = cc

    tests : (a b : Bool) (x : Change) (f g : ChangeFault) → ascends x.files ≡ a → value (cond a (cond b (Ok x) (Err g)) (Err f)) ≡ Some v → ascends v.files ≡ true
    tests false b x f g t h = none h
    tests true false x f g t h = none h
    tests true true x f g t h = ap (λ (y : Change). ascends y.files) (sym (some-change x v h)) ∙ t

    with_parts : (node : Option (List ℕ)) (when : Option When) (user : List ℕ) (files : List (List ℕ)) (description : List ℕ) → value (change_with node when user files description) ≡ Some v → ascends v.files ≡ true
    with_parts None when user files description h = none h
    with_parts (Some node) None user files description h = none h
    with_parts (Some node) (Some when) user files description h =
        tests (ascends files) (is_utf8 user && is_utf8 description) (record { manifest = node; user = user; seconds = when.seconds; offset = when.offset; extras = when.extras; files = files; description = description }) _ _ refl h

    of_header : (o : Option Header) (description : List ℕ) → value (change_of o description) ≡ Some v → ascends v.files ≡ true
    of_header None description h = none h
    of_header (Some x) description h = with_parts (node_at x.node) (when_at x.date) x.user x.files description h

    by : (o : Option (List ℕ × List ℕ)) → value (change_parts o) ≡ Some v → ascends v.files ≡ true
    by None h = none h
    by (Some p) h = of_header (header_of (header_lines p.0)) p.1 h

pub listed-ascend : (text : List ℕ) (files : List (List ℕ)) → Some files ≡ files_of (value (read_change text)) → ascends files ≡ true
listed-ascend text files e = by (value (read_change text)) refl e
  where
    some-same : (a b : List (List ℕ)) → Some a ≡ Some b → a ≡ b
    some-same a b h = ap (elim [ None ↦ a | Some z ↦ z ]) h

    by : (o : Option Change) → value (read_change text) ≡ o → Some files ≡ files_of o → ascends files ≡ true
    by None t h = absurd (clash h)
      where
        clash : Some files ≡ (let x : Option (List (List ℕ)) = None in x) → ⊥
        clash k = cc
    by (Some v) t h = ap ascends (some-same files v.files h) ∙ files-ascend text v t

-- ---- words

pub word-same : (s : Sight) (r : Revision) (path : List ℕ) (w : Word) (x : Changeset) → x ≡ changeset_as (seen_of s r) → w.parents ≡ x.parents
    → row_in path w.found ≡ option_map (row_for (is_tracked path) path) (rows_in_tree (map rows_read s.manifest) x.tree) → w.listed ≡ option_map (among path) x.files → word_in path w ≡ word_of path (seen_of s r)
word-same s r path w x is parents found listed =
    let p = parents ∙ ap (λ (y : Changeset). y.parents) is in
    let f = found ∙ ap (λ (y : Changeset). option_map (row_for (is_tracked path) path) (rows_in_tree (map rows_read s.manifest) y.tree)) is ∙ tree-row s r path in
    let l = listed ∙ ap (λ (y : Changeset). option_map (among path) y.files) is ∙ by (seen_of s r).change in
    λ i. record { parents = p i; row = f i; listed = l i }
  where
    by : (o : Option Change) → option_map (among path) (files_of o) ≡ option_map (λ (v : Change). among path v.files) o
    by None = refl
    by (Some v) = refl
