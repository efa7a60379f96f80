-- What a commit appends to the filelogs is what those of its paths grow by.
use Rattle.std.proofs.Common.{◌≡◌, ◌<◌, ℕ, List, [], ◌∷◌, ◌++◌, Bool, true, false, ◌==◌, cond, length, map, drop, refl, sym, ◌∙◌, ap, subst, arith, append-nil}
use Rattle.std.specs.Prelude.{Some, IfSome, Ok, find, flat_map}
use Rattle.std.specs.List.{AllByRecursion, AllZip}
use Rattle.std.proofs.lemmas.Grind.{flat_map-append}
use Rattle.hgs_bytes.specs.Bytes.{is_below, same}
use Rattle.hgs_bytes.specs.Text.{ascends, line}
use Rattle.hgs_files.specs.declared.op.Op.{Op}
use Rattle.hgs_files.specs.Tree.{Tree}
use Rattle.hgs_index.specs.Revision.{Parents, Revision}
use Rattle.hgs_loading.specs.Found.{and_then}
use Rattle.hgs_manifest.specs.Held.{found_in}
use Rattle.hgs_model.specs.History.{History, filelog_with, history, in_order, inserted, with_changeset}
use Rattle.hgs_model.specs.Repo.{Changeset, Repo, TreeFile, tree_paths}
use Rattle.hgs_model.specs.Step.{new_changeset, new_file}
use Rattle.hgs_model.specs.Valid.{new_paths as paths_of_files}
use Rattle.hgs_model.specs.declared.command.NewChange.{NewChange}
use Rattle.hgs_model.specs.declared.files.NewFile.{NewFile}
use Rattle.hgs_model.specs.Theorems.HistoryLemmas.{history-push}
use Rattle.hgs_model.specs.Theorems.ListLemmas.{ascends-head, ascends-tail}
use Rattle.hgs_ops.specs.Growth.{begins_inline, filelog_growth, filelogs_grow, new_names, new_names_of, new_paths}
use Rattle.hgs_ops.specs.Theorems.FileGrowth.{head-others}
use Rattle.hgs_ops.specs.Theorems.GrowLemmas.{drop-front}
use Rattle.hgs_ops.specs.Theorems.Touch.{same-sym}
use Rattle.hgs_path.specs.declared.name.Ext.TheVariants.{D, I}
use Rattle.hgs_path.specs.Fncache.{listing}
use Rattle.hgs_path.specs.StoreName.{listed_name}
use Rattle.hgs_load.specs.declared.answer.ReadAnswer.{ReadAnswer}
use Rattle.hgs_stands.specs.Stands.{Stands}
use Rattle.hgs_steps.specs.Planned.{IsLoadedOf}
use Rattle.hgs_steps.specs.declared.loaded.Loaded.{Loaded}
use Rattle.hgs_transaction.specs.declared.parts.Change.{Change}
use Rattle.hgs_commit.specs.Changeset.{of_changelog, of_manifest}
use Rattle.hgs_commit.specs.Commit.{grown_in}
use Rattle.hgs_commit.specs.Files.{OfFile, file_in, source_node}
use Rattle.hgs_commit.specs.Obstacles.{Obstacle}
use Rattle.hgs_commit.specs.Texts.{changes_of}
use Rattle.hgs_commit.specs.Tree.{OfFiles, new_lines, with_first}
use Rattle.hgs_commit.specs.Trees.{OfGrown, all_files_in, grown_of}
use Rattle.hgs_writer.specs.CommitsBelow.{Below}
use Rattle.hgs_writer.specs.Files.{files_at, told_at}
use Rattle.hgs_writer.specs.Growth.{AreAppends, AreGrownFilesOf, IsGrownFileOf}
use Rattle.hgs_writer.specs.Logs.{IsLogOf}
use Rattle.hgs_writer.proofs.Basics.{both, ok-is}
use Rattle.hgs_writer.proofs.FileLemmas.{told-of}
use Rattle.hgs_writer.proofs.FormLemmas.{some-length}
use Rattle.hgs_writer.proofs.GrownFileLemmas.{grown-file}
use Rattle.hgs_writer.proofs.GrowthLemmas.{appends-join, no-appends}
use Rattle.hgs_writer.proofs.TreeLemmas.{AreTrees, found-files, link-is, new-paths-are, trees-of}
use Rattle.hgs_writer.proofs.WholeTextLemmas.{none-left, none-right}

-- ---- files that grow

appends-of : (t : Tree) (h : History) (c : Changeset) (tree : List TreeFile) (xs : List OfFile) → AllZip (IsGrownFileOf t h c) tree xs → AreAppends t (filelogs_grow t h.filelog (filelog_with h c) (tree_paths tree)) (flat_map (λ (x : OfFile). changes_of x.growth) xs)
appends-of t h c [] [] all = no-appends t
appends-of t h c [] (x ∷ xs) all = absurd all
appends-of t h c (g ∷ tree) [] all = absurd all
appends-of t h c (g ∷ tree) (x ∷ xs) all =
    appends-join t (filelog_growth t g.path (h.filelog g.path) (filelog_with h c g.path)) (filelogs_grow t h.filelog (filelog_with h c) (tree_paths tree)) (changes_of x.growth) (flat_map (λ (y : OfFile). changes_of y.growth) xs)
    all.0.growth (appends-of t h c tree xs all.1)

-- the lines of a filelog that has no revision
lines-one : (path : List ℕ) (log all : List Revision) (inline : Bool) → (log ≡ [] → inline ≡ begins_inline all) → new_lines (length log == 0) inline path ≡ flat_map line (new_names_of path log all)
lines-one path [] all inline is = ap (λ b. new_lines true b path) (is refl) ∙ by (begins_inline all)
  where
    by : (b : Bool) → new_lines true b path ≡ flat_map line (listed_name path I ∷ (cond b [] (listed_name path D ∷ [])))
    by true = refl
    by false = refl
lines-one path (r ∷ log) all inline is = ap (λ b. new_lines b inline path) (some-length (length (r ∷ log)) (omega arith))

lines-of : (t : Tree) (h : History) (c : Changeset) (tree : List TreeFile) (xs : List OfFile) → AllZip (IsGrownFileOf t h c) tree xs → flat_map (λ (x : OfFile). new_lines x.new x.inline x.row.path) xs ≡ flat_map line (new_names h.filelog (filelog_with h c) (tree_paths tree))
lines-of t h c [] [] all = refl
lines-of t h c [] (x ∷ xs) all = absurd all
lines-of t h c (g ∷ tree) [] all = absurd all
lines-of t h c (g ∷ tree) (x ∷ xs) all =
    ap (λ p. new_lines x.new x.inline p ++ flat_map (λ (y : OfFile). new_lines y.new y.inline y.row.path) xs) all.0.path
    ∙ ap (λ b. new_lines b x.inline g.path ++ flat_map (λ (y : OfFile). new_lines y.new y.inline y.row.path) xs) all.0.new
    ∙ ap (λ l. l ++ flat_map (λ (y : OfFile). new_lines y.new y.inline y.row.path) xs) (lines-one g.path (h.filelog g.path) (filelog_with h c g.path) x.inline all.0.inline)
    ∙ ap (λ l. flat_map line (new_names_of g.path (h.filelog g.path) (filelog_with h c g.path)) ++ l) (lines-of t h c tree xs all.1)
    ∙ sym (flat_map-append line (new_names_of g.path (h.filelog g.path) (filelog_with h c g.path)) (new_names h.filelog (filelog_with h c) (tree_paths tree)))

-- ---- the new paths

inserted-first : (x : List ℕ) (ys : List (List ℕ)) → ascends (x ∷ ys) ≡ true → inserted x ys ≡ x ∷ ys
inserted-first x [] a = refl
inserted-first x (y ∷ ys) a = by (same x y) (is_below x y) (same-sym y x (head-others x (y ∷ ys) a).0) (ascends-head x (y ∷ ys) a)
  where
    by : (p q : Bool) → p ≡ false → q ≡ true → cond p (y ∷ ys) (cond q (x ∷ y ∷ ys) (y ∷ inserted x ys)) ≡ x ∷ y ∷ ys
    by p q e f = ap (λ z. cond z (y ∷ ys) (cond q (x ∷ y ∷ ys) (y ∷ inserted x ys))) e ∙ ap (λ z. cond z (x ∷ y ∷ ys) (y ∷ inserted x ys)) f

-- what ascends is in order
pub ordered-stays : (xs : List (List ℕ)) → ascends xs ≡ true → in_order xs ≡ xs
ordered-stays [] a = refl
ordered-stays (x ∷ xs) a = ap (inserted x) (ordered-stays xs (ascends-tail x xs a)) ∙ inserted-first x xs a

pub new-paths-of : (r next : Repo) (c : Changeset) → next.changesets ≡ r.changesets ++ c ∷ [] → ascends (tree_paths c.tree) ≡ true → new_paths r next ≡ tree_paths c.tree
new-paths-of r next c e a =
    ap (λ (all : List Changeset). in_order (flat_map (λ (x : Changeset). tree_paths x.tree) (drop (length r.changesets) all))) e
    ∙ ap (λ (new : List Changeset). in_order (flat_map (λ (x : Changeset). tree_paths x.tree) new)) (drop-front r.changesets (c ∷ []))
    ∙ ap in_order (append-nil (tree_paths c.tree)) ∙ ordered-stays (tree_paths c.tree) a

pub history-next : (r next : Repo) (c : Changeset) → next.changesets ≡ r.changesets ++ c ∷ [] → history next.changesets ≡ with_changeset (history r.changesets) c
history-next r next c e = ap history e ∙ history-push r.changesets c

-- ---- the files of a commit

module _ (laws : Below) (t : Tree) (r : Repo) (l : Loaded) (s : Stands t r) (loads : IsLoadedOf t l) (n : NewChange) (parents : Parents) (link : ℕ) (linked : link ≡ length (history r.changesets).placed) where
  abbrev h : History
  h = history r.changesets

  abbrev c : Changeset
  c = new_changeset h parents n

  all-grown : (files : List NewFile) (xs : OfFiles) → AllByRecursion (λ (g : TreeFile). find (λ (x : TreeFile). same x.path g.path) c.tree ≡ Some g) (map (new_file h parents) files)
      → all_files_in (listing l.fncache) link (files_at h parents.0).1 (files_at h parents.1).1 files t ≡ Ok xs → xs.1 ≡ [] → AllZip (IsGrownFileOf t h c) (map (new_file h parents) files) xs.0
  all-grown [] xs found e free = subst (λ (y : OfFiles). AllZip (IsGrownFileOf t h c) [] y.0) (ok-is {E = ReadAnswer} ([], []) xs e) tt
  all-grown (f ∷ files) xs found e free =
      let lists = listing l.fncache in
      let first = (files_at h parents.0).1 in
      let second = (files_at h parents.1).1 in
      let a = both (file_in lists link f (source_node first f.from) (found_in f.path first) (found_in f.path second) t) (λ x. and_then (all_files_in lists link first second files t) (λ ys. Ok (with_first x ys))) xs e in
      let b = both (all_files_in lists link first second files t) (λ ys. Ok (with_first a.0 ys)) xs a.2 in
      let one = told-of h parents.0 f.path in
      let two = told-of h parents.1 f.path in
      let told : file_in lists link f (source_node first f.from) (found_in f.path first) (found_in f.path second) t ≡ file_in lists link f (source_node first f.from) (told_at h parents.0 f.path) (told_at h parents.1 f.path) t = (λ i. file_in lists link f (source_node first f.from) (one i) (two i) t) in
      let made : with_first a.0 b.0 ≡ xs = ok-is {E = ReadAnswer} (with_first a.0 b.0) xs b.2 in
      let none : a.0.1 ++ b.0.1 ≡ [] = ap (λ (y : OfFiles). y.1) made ∙ free in
      subst (λ (y : OfFiles). AllZip (IsGrownFileOf t h c) (map (new_file h parents) (f ∷ files)) y.0) made
      (grown-file laws t r l s loads n parents link linked f (source_node first f.from) refl a.0 found.0 (sym told ∙ a.1) (none-left a.0.1 b.0.1 none), all-grown files b.0 found.1 b.1 (none-right a.0.1 b.0.1 none))

-- The files of a commit with nothing in its way, each of which grows.
pub record AreFree (t : Tree) (r : Repo) (l : Loaded) (n : NewChange) (parents : Parents) (x : OfGrown × Parents) : Type 0 where
  pub trees : AreTrees t r l n parents (x, [])
  pub all : AllZip (IsGrownFileOf t (history r.changesets) (new_changeset (history r.changesets) parents n)) (new_changeset (history r.changesets) parents n).tree trees.trees.files.0

pub free-of : (laws : Below) (t : Tree) (r : Repo) (l : Loaded) (s : Stands t r) (loads : IsLoadedOf t l) → IsLogOf t (of_changelog l.changelog) (history r.changesets).changelog → IsLogOf t (of_manifest l.manifest) (history r.changesets).manifest → (n : NewChange) (parents : Parents) (x : OfGrown × Parents) → ascends (paths_of_files n.files) ≡ true
    → IfSome parents.0 (λ rev. rev < length r.changesets) → IfSome parents.1 (λ rev. rev < length r.changesets) → grown_in l n parents t ≡ Ok (x, []) → AreFree t r l n parents x
free-of laws t r l s loads changelog manifest n parents x ordered low_first low_second e = record {
  trees = read;
  all = all-grown laws t r l s loads n parents (length l.changelog.entries) (link-is t r l s changelog) n.files read.trees.files (found-files (history r.changesets) n parents ordered) read.files (ap (λ (z : (OfGrown × Parents) × List Obstacle). z.1) read.grown);
}
  where
    read : AreTrees t r l n parents (x, [])
    read = trees-of t r l s changelog manifest n parents (x, []) low_first low_second e

-- what they append
pub files-grow : (t : Tree) (r next : Repo) (l : Loaded) (n : NewChange) (parents : Parents) (x : OfGrown × Parents) → AreFree t r l n parents x → ascends (paths_of_files n.files) ≡ true → next.changesets ≡ r.changesets ++ new_changeset (history r.changesets) parents n ∷ [] → AreGrownFilesOf t r next x.0
files-grow t r next l n parents x free ordered e = record {
  filelogs = subst (λ (g : OfGrown). AreAppends t (filelogs_grow t h.filelog (history next.changesets).filelog (new_paths r next)) g.growth) shown
      (subst (λ (ops : List Op). AreAppends t ops growth) (λ i. filelogs_grow t h.filelog (sym logs i).filelog (sym paths i)) (appends-of t h c c.tree files free.all));
  lines = ap (λ (g : OfGrown). g.lines) (sym shown) ∙ lines-of t h c c.tree files free.all ∙ (λ i. flat_map line (new_names h.filelog (sym logs i).filelog (sym paths i)));
}
  where
    h : History
    h = history r.changesets

    c : Changeset
    c = new_changeset h parents n

    files : List OfFile
    files = free.trees.trees.files.0

    growth : List Change
    growth = flat_map (λ (y : OfFile). changes_of y.growth) files

    shown : grown_of (files_at h parents.0).1 (files_at h parents.1).1 files ≡ x.0
    shown = ap (λ (z : (OfGrown × Parents) × List Obstacle). z.0.0) free.trees.grown

    paths : new_paths r next ≡ tree_paths c.tree
    paths = new-paths-of r next c e (ap ascends (new-paths-are h parents n.files) ∙ ordered)

    logs : history next.changesets ≡ with_changeset h c
    logs = history-next r next c e
