-- The whole tree of a commit is that of the repository's next changeset.
use Rattle.std.proofs.Common.{◌≡◌, ℕ, List, [], ◌∷◌, ◌++◌, Bool, true, false, cond, length, map, filter, not, refl, sym, ◌∙◌, ap, subst, arith}
use Rattle.std.specs.Prelude.{◌<◌, Some, IfSome, Ok, find}
use Rattle.std.specs.List.{AllByRecursion, AllZip}
use Rattle.hgs_bytes.specs.Bytes.{among, same}
use Rattle.hgs_bytes.specs.Text.{ascends}
use Rattle.hgs_files.specs.Tree.{Tree}
use Rattle.hgs_index.specs.Manifest.{Row}
use Rattle.hgs_index.specs.Revision.{Parents, Revision}
use Rattle.hgs_loading.specs.Found.{and_then}
use Rattle.hgs_loading.specs.Parent.{Files}
use Rattle.hgs_manifest.specs.Held.{found_in}
use Rattle.hgs_model.specs.History.{History, Placed, changed_paths, filelog_with, history, in_order, is_changed, manifest_parents_of, placed_at, rev_of_file, row_of}
use Rattle.hgs_model.specs.Repo.{Changeset, Repo, TreeFile, tree_paths}
use Rattle.hgs_model.specs.Step.{new_changeset, new_file}
use Rattle.hgs_model.specs.Valid.{new_paths}
use Rattle.hgs_model.specs.declared.command.NewChange.{NewChange}
use Rattle.hgs_model.specs.declared.files.NewFile.{NewFile}
use Rattle.hgs_model.specs.Theorems.CountLemmas.{found-self, length-placed}
use Rattle.hgs_model.specs.Theorems.HeldLemmas.{count}
use Rattle.hgs_model.specs.Theorems.ListedLemmas.{length-nodes}
use Rattle.hgs_index.specs.declared.entry.Entry.{Entry}
use Rattle.std.proofs.lemmas.List.{length-map}
use Rattle.hgs_commit.specs.Changeset.{of_changelog, of_manifest}
use Rattle.hgs_writer.specs.Logs.{IsLogOf}
use Rattle.hgs_path.specs.Fncache.{listing}
use Rattle.hgs_load.specs.declared.answer.ReadAnswer.{ReadAnswer}
use Rattle.hgs_stands.specs.Stands.{Stands}
use Rattle.hgs_steps.specs.Planned.{IsLoadedOf}
use Rattle.hgs_steps.specs.declared.loaded.Loaded.{Loaded}
use Rattle.hgs_commit.specs.Commit.{OfTrees, grown_in, manifests_of, parent_files, trees_in}
use Rattle.hgs_commit.specs.Files.{OfFile, file_in, source_node}
use Rattle.hgs_commit.specs.Obstacles.{Obstacle}
use Rattle.hgs_commit.specs.Tree.{OfFiles, paths_of, with_first}
use Rattle.hgs_commit.specs.Trees.{OfGrown, all_files_in, file_paths, grown_of}
use Rattle.hgs_writer.specs.CommitsBelow.{Below}
use Rattle.hgs_writer.specs.Files.{files_at, told_at}
use Rattle.hgs_writer.specs.Trees.{IsFileOf, IsTreeOf}
use Rattle.hgs_writer.proofs.Basics.{both, ok-is}
use Rattle.hgs_writer.proofs.FileLemmas.{told-of}
use Rattle.hgs_writer.proofs.ParentLemmas.{parent-files}
use Rattle.hgs_writer.proofs.RowLemmas.{file-of}

abbrev placed-by : History → Changeset → TreeFile → Placed
placed-by h c f = record { path = f.path; flag = f.flag; rev = rev_of_file h c f }

-- ---- files that are the changeset's

rows-of : (h : History) (c : Changeset) (tree : List TreeFile) (xs : List OfFile) → AllZip (IsFileOf h c) tree xs → map (λ (x : OfFile). x.row) xs ≡ map (row_of (filelog_with h c)) (map (placed-by h c) tree)
rows-of h c [] [] all = refl
rows-of h c [] (x ∷ xs) all = absurd all
rows-of h c (g ∷ tree) [] all = absurd all
rows-of h c (g ∷ tree) (x ∷ xs) all =
    let row = all.0.row in
    let rest = rows-of h c tree xs all.1 in
    λ i. row i ∷ rest i

paths-are : (h : History) (c : Changeset) (tree : List TreeFile) (xs : List OfFile) → AllZip (IsFileOf h c) tree xs → file_paths xs ≡ tree_paths tree
paths-are h c [] [] all = refl
paths-are h c [] (x ∷ xs) all = absurd all
paths-are h c (g ∷ tree) [] all = absurd all
paths-are h c (g ∷ tree) (x ∷ xs) all =
    let path = ap (λ (r : Row). r.path) all.0.row in
    let rest = paths-are h c tree xs all.1 in
    λ i. path i ∷ rest i

changed-are : (h : History) (c : Changeset) (tree : List TreeFile) (xs : List OfFile) → AllZip (IsFileOf h c) tree xs → file_paths (filter (λ (x : OfFile). x.changed) xs) ≡ tree_paths (filter (is_changed h c) tree)
changed-are h c [] [] all = refl
changed-are h c [] (x ∷ xs) all = absurd all
changed-are h c (g ∷ tree) [] all = absurd all
changed-are h c (g ∷ tree) (x ∷ xs) all =
    ap (λ b. file_paths (cond b (x ∷ filter (λ (y : OfFile). y.changed) xs) (filter (λ (y : OfFile). y.changed) xs))) all.0.changed ∙ by (is_changed h c g) (changed-are h c tree xs all.1)
  where
    path : x.row.path ≡ g.path
    path = ap (λ (r : Row). r.path) all.0.row

    by : (b : Bool) → file_paths (filter (λ (y : OfFile). y.changed) xs) ≡ tree_paths (filter (is_changed h c) tree)
        → file_paths (cond b (x ∷ filter (λ (y : OfFile). y.changed) xs) (filter (λ (y : OfFile). y.changed) xs)) ≡ tree_paths (cond b (g ∷ filter (is_changed h c) tree) (filter (is_changed h c) tree))
    by true rec = λ i. path i ∷ rec i
    by false rec = rec

-- the paths of two parents' rows
parent-paths : (logs : List ℕ → List Revision) (first second : List Placed) → paths_of (map (row_of logs) first) ++ paths_of (map (row_of logs) second) ≡ map (λ (p : Placed). p.path) (first ++ second)
parent-paths logs [] [] = refl
parent-paths logs [] (q ∷ second) = ap (λ l. q.path ∷ l) (parent-paths logs [] second)
parent-paths logs (p ∷ first) second = ap (λ l. p.path ∷ l) (parent-paths logs first second)

tree-of : (h : History) (parents : Parents) (n : NewChange) (xs : List OfFile) → AllZip (IsFileOf h (new_changeset h parents n)) (new_changeset h parents n).tree xs
    → IsTreeOf h (new_changeset h parents n) (grown_of (files_at h parents.0).1 (files_at h parents.1).1 xs, manifest_parents_of (files_at h parents.0).0 (files_at h parents.1).0)
tree-of h parents n xs all = record { rows = rows-of h c c.tree xs all; changed = changed; parents = refl }
  where
    c : Changeset
    c = new_changeset h parents n

    changed : (grown_of (files_at h parents.0).1 (files_at h parents.1).1 xs).changed ≡ changed_paths h c
    changed =
        let files = changed-are h c c.tree xs all in
        let paths = paths-are h c c.tree xs all in
        let there = parent-paths h.filelog (placed_at h parents.0) (placed_at h parents.1) in
        λ i. in_order (files i ++ filter (λ path. not (among path (paths i))) (there i))

-- ---- the tree of a commit

pub new-paths-are : (h : History) (parents : Parents) (files : List NewFile) → tree_paths (map (new_file h parents) files) ≡ new_paths files
new-paths-are h parents [] = refl
new-paths-are h parents (f ∷ files) = ap (λ l. f.path ∷ l) (new-paths-are h parents files)

module _ (laws : Below) (t : Tree) (r : Repo) (l : Loaded) (s : Stands t r) (loads : IsLoadedOf t l) (n : NewChange) (parents : Parents) (link : ℕ) (linked : link ≡ length (history r.changesets).placed) where
  abbrev h : History
  h = history r.changesets

  abbrev c : Changeset
  c = new_changeset h parents n

  all-of : (files : List NewFile) (xs : OfFiles) → AllByRecursion (λ (g : TreeFile). find (λ (x : TreeFile). same x.path g.path) c.tree ≡ Some g) (map (new_file h parents) files)
      → all_files_in (listing l.fncache) link (files_at h parents.0).1 (files_at h parents.1).1 files t ≡ Ok xs → AllZip (IsFileOf h c) (map (new_file h parents) files) xs.0
  all-of [] xs found e = subst (λ (y : OfFiles). AllZip (IsFileOf h c) [] y.0) (ok-is {E = ReadAnswer} ([], []) xs e) tt
  all-of (f ∷ files) xs found e =
      let lists = listing l.fncache in
      let first = (files_at h parents.0).1 in
      let second = (files_at h parents.1).1 in
      let a = both (file_in lists link f (source_node first f.from) (found_in f.path first) (found_in f.path second) t) (λ x. and_then (all_files_in lists link first second files t) (λ ys. Ok (with_first x ys))) xs e in
      let b = both (all_files_in lists link first second files t) (λ ys. Ok (with_first a.0 ys)) xs a.2 in
      let one = told-of h parents.0 f.path in
      let two = told-of h parents.1 f.path in
      let told : file_in lists link f (source_node first f.from) (found_in f.path first) (found_in f.path second) t ≡ file_in lists link f (source_node first f.from) (told_at h parents.0 f.path) (told_at h parents.1 f.path) t = (λ i. file_in lists link f (source_node first f.from) (one i) (two i) t) in
      subst (λ (y : OfFiles). AllZip (IsFileOf h c) (map (new_file h parents) (f ∷ files)) y.0) (ok-is {E = ReadAnswer} (with_first a.0 b.0) xs b.2)
      (file-of laws t r l s loads n parents link linked f (source_node first f.from) refl a.0 found.0 (sym told ∙ a.1), all-of files b.0 found.1 b.1)

-- what is worked out of the files of two parents and of those of the commit
abbrev pub shown_of : Files → Files → OfFiles → (OfGrown × Parents) × List Obstacle
shown_of first second files = ((grown_of first.1 second.1 files.0, manifest_parents_of first.0 second.0), files.1)

-- The trees that were read, of which the parents' are those of the repository.
pub record AreTrees (t : Tree) (r : Repo) (l : Loaded) (n : NewChange) (parents : Parents) (y : (OfGrown × Parents) × List Obstacle) : Type 0 where
  pub trees : OfTrees
  pub read : trees_in l n parents t ≡ Ok trees
  pub first : trees.first ≡ files_at (history r.changesets) parents.0
  pub second : trees.second ≡ files_at (history r.changesets) parents.1
  pub files : all_files_in (listing l.fncache) (length l.changelog.entries) (files_at (history r.changesets) parents.0).1 (files_at (history r.changesets) parents.1).1 n.files t ≡ Ok trees.files
  pub grown : shown_of (files_at (history r.changesets) parents.0) (files_at (history r.changesets) parents.1) trees.files ≡ y

pub trees-of : (t : Tree) (r : Repo) (l : Loaded) (s : Stands t r) → IsLogOf t (of_changelog l.changelog) (history r.changesets).changelog → IsLogOf t (of_manifest l.manifest) (history r.changesets).manifest → (n : NewChange) (parents : Parents) (y : (OfGrown × Parents) × List Obstacle)
    → IfSome parents.0 (λ rev. rev < length r.changesets) → IfSome parents.1 (λ rev. rev < length r.changesets) → grown_in l n parents t ≡ Ok y → AreTrees t r l n parents y
trees-of t r l s changelog manifest n parents y low_first low_second e =
    let h = history r.changesets in
    let lists = listing l.fncache in
    let link = length l.changelog.entries in
    let x = both (trees_in l n parents t) (λ z. Ok ((grown_of z.first.1 z.second.1 z.files.0, manifests_of z), z.files.1)) y e in
    let a = both (parent_files l parents.0 t) (λ first. and_then (parent_files l parents.1 t) (λ second. and_then (all_files_in lists link first.1 second.1 n.files t) (λ files. Ok (record { first = first; second = second; files = files })))) x.0 x.1 in
    let b = both (parent_files l parents.1 t) (λ second. and_then (all_files_in lists link a.0.1 second.1 n.files t) (λ files. Ok (record { first = a.0; second = second; files = files }))) x.0 a.2 in
    let d = both (all_files_in lists link a.0.1 b.0.1 n.files t) (λ files. Ok (record { first = a.0; second = b.0; files = files })) x.0 b.2 in
    let one = parent-files t r l parents.0 a.0 s changelog manifest low_first a.1 in
    let two = parent-files t r l parents.1 b.0 s changelog manifest low_second b.1 in
    let made : OfTrees = record { first = a.0; second = b.0; files = d.0 } in
    let trees : made ≡ x.0 = ok-is {E = ReadAnswer} made x.0 d.2 in
    let files : all_files_in lists link (files_at h parents.0).1 (files_at h parents.1).1 n.files t ≡ all_files_in lists link a.0.1 b.0.1 n.files t = sym (λ i. all_files_in lists link (one i).1 (two i).1 n.files t) in
    let given : shown_of x.0.first x.0.second x.0.files ≡ y = ok-is {E = ReadAnswer} (shown_of x.0.first x.0.second x.0.files) y x.2 in
    record {
      trees = x.0;
      read = x.1;
      first = ap (λ (z : OfTrees). z.first) (sym trees) ∙ one;
      second = ap (λ (z : OfTrees). z.second) (sym trees) ∙ two;
      files = files ∙ d.1 ∙ ap (λ (z : OfTrees). Ok z.files) trees;
      grown = ap (λ (z : Files). shown_of z (files_at h parents.1) x.0.files) (sym one ∙ ap (λ (z : OfTrees). z.first) trees) ∙ ap (λ (z : Files). shown_of x.0.first z x.0.files) (sym two ∙ ap (λ (z : OfTrees). z.second) trees) ∙ given;
    }

-- the changeset's link is its number
pub link-is : (t : Tree) (r : Repo) (l : Loaded) → Stands t r → IsLogOf t (of_changelog l.changelog) (history r.changesets).changelog → length l.changelog.entries ≡ length (history r.changesets).placed
link-is t r l s changelog = omega (arith, length-map l.changelog.entries (λ (x : Entry). x.node.0), ap length changelog.nodes_are, length-nodes (history r.changesets).changelog, count r.changesets s.repository.changesets, length-placed r.changesets)

-- each file of the changeset is found by its path
pub found-files : (h : History) (n : NewChange) (parents : Parents) → ascends (new_paths n.files) ≡ true
    → AllByRecursion (λ (g : TreeFile). find (λ (x : TreeFile). same x.path g.path) (new_changeset h parents n).tree ≡ Some g) (new_changeset h parents n).tree
found-files h n parents ordered = found-self (new_changeset h parents n).tree (ap ascends (new-paths-are h parents n.files) ∙ ordered)

pub grown-of : (laws : Below) (t : Tree) (r : Repo) (l : Loaded) (s : Stands t r) (loads : IsLoadedOf t l) → IsLogOf t (of_changelog l.changelog) (history r.changesets).changelog → IsLogOf t (of_manifest l.manifest) (history r.changesets).manifest → (n : NewChange) (parents : Parents) (y : (OfGrown × Parents) × List Obstacle) → ascends (new_paths n.files) ≡ true
    → IfSome parents.0 (λ rev. rev < length r.changesets) → IfSome parents.1 (λ rev. rev < length r.changesets) → grown_in l n parents t ≡ Ok y → IsTreeOf (history r.changesets) (new_changeset (history r.changesets) parents n) y.0
grown-of laws t r l s loads changelog manifest n parents y ordered low_first low_second e =
    let h = history r.changesets in
    let x = trees-of t r l s changelog manifest n parents y low_first low_second e in
    let all = all-of laws t r l s loads n parents (length l.changelog.entries) (link-is t r l s changelog) n.files x.trees.files (found-files h n parents ordered) x.files in
    subst (IsTreeOf h (new_changeset h parents n)) (ap (λ (z : (OfGrown × Parents) × List Obstacle). z.0) x.grown) (tree-of h parents n x.trees.files.0 all)
