-- The whole tree of a commit is that of its files, beside the whole manifests of the parents.
use Rattle.std.proofs.Common.{◌≡◌, ℕ, List, [], ◌∷◌, ◌++◌, Bool, true, false, cond, ◌&&◌, length, Option, Some, None, Result, Ok, Err, refl, sym, ◌∙◌, ap, subst}
use Rattle.std.specs.Prelude.{nat_lt, ◌==◌, OnOk}
use Rattle.hgs_bytes.specs.Bytes.{same, is_below}
use Rattle.hgs_bytes.specs.Text.{ascends}
use Rattle.hgs_files.specs.Tree.{Tree}
use Rattle.hgs_index.specs.Manifest.{Row, AreRows, AscendFrom, manifest_text, read_manifest}
use Rattle.hgs_index.specs.Node.{null_node}
use Rattle.hgs_index.specs.declared.kinds.Which.TheVariants as limits
use Rattle.hgs_index.specs.declared.texts.ManifestFault.{ManifestFault}
use Rattle.hgs_index.specs.Revision.{Parents}
use Rattle.hgs_loading.specs.Found.{and_then}
use Rattle.hgs_loading.specs.Logs.{text_in_form}
use Rattle.hgs_loading.specs.Parent.{Files, change_in, rows_at, rows_in, rows_of_text}
use Rattle.hgs_manifest.specs.Held.{found_in, is_row_path}
use Rattle.hgs_model.specs.Theorems.ListLemmas.{below-trans}
use Rattle.hgs_model.specs.History.{first_of, in_order, manifest_parents_of}
use Rattle.hgs_model.specs.Valid.{new_paths as paths_of_files}
use Rattle.hgs_model.specs.declared.command.NewChange.{NewChange}
use Rattle.hgs_model.specs.declared.files.NewFile.{NewFile}
use Rattle.hgs_path.specs.Fncache.{listing}
use Rattle.hgs_path.specs.declared.name.Ext.{Ext}
use Rattle.hgs_reader.specs.Contents.{manifest_data, manifest_index, most_files, rows_answer}
use Rattle.hgs_load.specs.View.{changelog_data}
use Rattle.hgs_load.specs.declared.answer.ReadAnswer.{ReadAnswer}
use Rattle.hgs_revlog.specs.Log.{Log, place_of}
use Rattle.hgs_steps.specs.declared.fault.PlanFault.{PlanFault}
use Rattle.hgs_steps.specs.declared.loaded.Loaded.{Loaded}
use Rattle.hgs_commit.specs.Commit.{ClashOn, OfTrees, both_parents, copies_tested, grown_in, grown_on, manifests_of, parent_files, trees_in}
use Rattle.hgs_commit.specs.Files.{OfFile, can_follow, changed_in, file_in, file_on, file_with, formed, filelog_in, fresh_text, kept_file, kept_in, place_in, parents_by, row_with, source_node}
use Rattle.hgs_commit.specs.Obstacles.{Met, Obstacle, noted, noting}
use Rattle.hgs_commit.specs.Texts.{OfLog, OfText, new_text_in}
use Rattle.hgs_commit.specs.Tree.{ClashIn, OfFiles, OfTree, adding, files_in, paths_of, rest_at, row_at, tree_on, with_files, with_first}
use Rattle.hgs_commit.specs.Trees.{OfGrown, all_files_in, file_paths, grown_of}
use Rattle.hgs_commit.specs.Walk.{Told}
use Rattle.hgs_commit.proofs.ChangedLemmas.{changed-is, changed-with, growth-with, lines-with, rows-with}
use Rattle.hgs_commit.proofs.RowLemmas.{rest-above, rest-found, row-found}

-- ---- one answer and the next

abbrev pub Comes : {A B : Type 0} → Result A ReadAnswer → (A → Result B ReadAnswer) → B → Type 0
Comes {A} r more y = (x : A) × (r ≡ Ok x) × (more x ≡ Ok y)

pub comes : {A B : Type 0} (r : Result A ReadAnswer) (more : A → Result B ReadAnswer) (y : B) → and_then r more ≡ Ok y → Comes r more y
comes (Ok x) more y h = (x, refl, h)
comes (Err e) more y h = cc

ok-is : {A : Type 0} (d x y : A) → (let r : Result A ReadAnswer = Ok x in r ≡ Ok y) → x ≡ y
ok-is d x y e = ap (λ r. elim r [ Ok z ↦ z | Err f ↦ d ]) e

-- ---- a file stands at its path

abbrev with_text : OfLog → NewFile → OfText × List Obstacle → List Obstacle → OfFile × List Obstacle
with_text f file text obstacles = (record { row = row_with file text.0.node; changed = true; growth = text.0.growth; new = length f.log.entries == 0; inline = f.log.inline }, obstacles ++ text.1)

abbrev with_place : OfLog → NewFile → Tree → OfText × List Obstacle → Result (OfFile × List Obstacle) ReadAnswer
with_place f file t text = and_then (place_in f t) (λ obstacles. Ok (with_text f file text obstacles))

file-path-changed : (f : OfLog) (file : NewFile) (source : List ℕ) (parents : Parents) (link : ℕ) (t : Tree) (x : OfFile) (obstacles : List Obstacle) → changed_in f file source parents link t ≡ Ok (x, obstacles) → x.row.path ≡ file.path
file-path-changed f file source parents link t x obstacles h =
    let a = comes (new_text_in f (record { text = fresh_text file source; parents = parents; link = link }) t) (with_place f file t) (x, obstacles) h in
    let b = comes (place_in f t) (λ o. Ok (with_text f file a.0 o)) (x, obstacles) a.2 in
    sym (ap (λ (p : OfFile × List Obstacle). p.0.row.path) (ok-is (x, obstacles) (with_text f file a.0 b.0) (x, obstacles) b.2))

file-path-with : (f : OfLog) (file : NewFile) (source : List ℕ) (old : Option Told) (parents : Parents) (link : ℕ) (rev : Option ℕ) (t : Tree) (x : OfFile) (obstacles : List Obstacle) → file_with f file source old parents link rev t ≡ Ok (x, obstacles) → x.row.path ≡ file.path
file-path-with f file source old parents link None t x obstacles h = file-path-changed (formed f (fresh_text file source)) file source parents link t x obstacles h
file-path-with f file source old parents link (Some rev) t x obstacles h = sym (ap (λ (p : OfFile × List Obstacle). p.0.row.path) (ok-is (x, obstacles) (kept_file f file old rev, []) (x, obstacles) h))

pub file-path : (lists : List ℕ → Ext → Bool) (link : ℕ) (file : NewFile) (source : List ℕ) (first second : Option Told) (t : Tree) (x : OfFile) (obstacles : List Obstacle) → file_in lists link file source first second t ≡ Ok (x, obstacles) → x.row.path ≡ file.path
file-path lists link file source first second t x obstacles h =
    let a = comes (filelog_in lists file.path t) (λ f. and_then (parents_by f first second) (λ parents. file_on f file source (first_of first second) parents link t)) (x, obstacles) h in
    let b = comes (parents_by a.0 first second) (λ parents. file_on a.0 file source (first_of first second) parents link t) (x, obstacles) a.2 in
    let d = comes (kept_in a.0 b.0.0 b.0.1 file.body t) (λ rev. file_with a.0 file source (first_of first second) b.0 link rev t) (x, obstacles) b.2 in
    file-path-with a.0 file source (first_of first second) b.0 link d.0 t x obstacles d.2

module _ (lists : List ℕ → Ext → Bool) (link : ℕ) (t : Tree) where
  pub files-paths : (first second : List Row) (files : List NewFile) (xs : OfFiles) → all_files_in lists link first second files t ≡ Ok xs → file_paths xs.0 ≡ paths_of_files files
  files-paths first second [] xs h = ap (λ (q : OfFiles). file_paths q.0) (sym (ok-is xs ([], []) xs h))
  files-paths first second (f ∷ files) xs h =
      let a = comes _ _ xs h in
      let b = comes _ _ xs a.2 in
      let is = ok-is xs (with_first a.0 b.0) xs b.2 in
      ap (λ (q : OfFiles). file_paths q.0) (sym is)
      ∙ ap (λ p. p ∷ file_paths b.0.0) (file-path lists link f (source_node first f.from) (found_in f.path first) (found_in f.path second) t a.0.0 a.0.1 a.1)
      ∙ ap (λ ps. f.path ∷ ps) (files-paths first second files b.0 b.1)

  both : (a b : Bool) → a && b ≡ true → (a ≡ true) × (b ≡ true)
  both true b e = (refl, e)
  both false b e = cc

  -- the rows of each path are those of the whole manifests
  files-all : (sources : List Row) (last : List ℕ) (files : List NewFile) (first second all_first all_second : List Row) (la lb : List ℕ) → can_follow last files ≡ true → AscendFrom la first → AscendFrom lb second →
      ((q : List ℕ) → is_below last q ≡ true → found_in q first ≡ found_in q all_first) → ((q : List ℕ) → is_below last q ≡ true → found_in q second ≡ found_in q all_second) →
      sources ≡ all_first → files_in lists link sources files first second t ≡ all_files_in lists link all_first all_second files t
  files-all sources last [] first second all_first all_second la lb follow a b u v same_rows = refl
  files-all sources last (f ∷ files) first second all_first all_second la lb follow a b u v same_rows =
      let hs = both (is_row_path f.path && is_below last f.path) (can_follow f.path files) follow in
      let up = (both (is_row_path f.path) (is_below last f.path) hs.0).1 in
      ap (λ q. and_then (file_in lists link f (source_node sources f.from) q (row_at f.path second) t) (λ x. and_then (files_in lists link sources files (rest_at f.path first) (rest_at f.path second) t) (λ xs. Ok (with_first x xs)))) (row-found f.path la first a ∙ u f.path up)
      ∙ ap (λ q. and_then (file_in lists link f (source_node sources f.from) (found_in f.path all_first) q t) (λ x. and_then (files_in lists link sources files (rest_at f.path first) (rest_at f.path second) t) (λ xs. Ok (with_first x xs)))) (row-found f.path lb second b ∙ v f.path up)
      ∙ ap (λ q. and_then (file_in lists link f (source_node q f.from) (found_in f.path all_first) (found_in f.path all_second) t) (λ x. and_then (files_in lists link sources files (rest_at f.path first) (rest_at f.path second) t) (λ xs. Ok (with_first x xs)))) same_rows
      ∙ ap (λ r. and_then (file_in lists link f (source_node all_first f.from) (found_in f.path all_first) (found_in f.path all_second) t) (λ x. and_then r (λ xs. Ok (with_first x xs))))
      (files-all sources f.path files (rest_at f.path first) (rest_at f.path second) all_first all_second f.path f.path hs.1 (rest-above f.path la first a) (rest-above f.path lb second b)
      (λ q h. rest-found f.path q first h ∙ u q (below-trans last f.path q up h)) (λ q h. rest-found f.path q second h ∙ v q (below-trans last f.path q up h)) same_rows)

  pub whole-files : (files : List NewFile) (first second : List Row) → can_follow [] files ≡ true → AreRows first → AreRows second → files_in lists link first files first second t ≡ all_files_in lists link first second files t
  whole-files files first second follow a b = files-all first [] files first second first second [] [] follow a b (λ q h. refl) (λ q h. refl) refl

-- ---- the parents' rows ascend

abbrev pub IsReadLaw : Type 0
IsReadLaw = (text : List ℕ) (rows : List Row) → read_manifest text ≡ Ok rows → (text ≡ manifest_text rows) × AreRows rows

ascend-answer : IsReadLaw → (text : List ℕ) (rows : List Row) → rows_answer (read_manifest text) ≡ Ok rows → AreRows rows
ascend-answer law text rows h = by (read_manifest text) refl h
  where
    few : (b : Bool) (read : List Row) → read_manifest text ≡ Ok read → (let r : Result (List Row) ReadAnswer = cond b (Err (ReadAnswer.Limit limits.Tree)) (Ok read) in r) ≡ Ok rows → AreRows rows
    few true read e k = cc
    few false read e k = subst AreRows (ok-is rows read rows k) (law text read e).1

    by : (r : Result (List Row) ManifestFault) → read_manifest text ≡ r → rows_answer r ≡ Ok rows → AreRows rows
    by (Ok read) e k = few (nat_lt most_files (length read)) read e k
    by (Err f) e k = cc

ascend-text : IsReadLaw → (rev : ℕ) (text : List ℕ) (x : Files) → rows_of_text rev text ≡ Ok x → AreRows x.1
ascend-text law rev text x h =
    let a = comes (rows_answer (read_manifest text)) (λ rows. Ok (Some rev, rows)) x h in
    let P : Files → Type 0 = λ y. AreRows y.1 in
    subst P (ok-is x (Some rev, a.0) x a.2) (ascend-answer law text a.0 a.1)

ascend-at : IsReadLaw → (chunks : List ℕ) (manifest : Log) (t : Tree) (rev : Option ℕ) (x : Files) → rows_at chunks manifest t rev ≡ Ok x → AreRows x.1
ascend-at law chunks manifest t None x h = cc
ascend-at law chunks manifest t (Some rev) x h =
    let a = comes (text_in_form manifest_index chunks manifest rev t) (rows_of_text rev) x h in
    ascend-text law rev a.0 x a.2

ascend-rows : IsReadLaw → (chunks : List ℕ) (manifest : Log) (node : List ℕ) (t : Tree) (x : Files) → rows_in chunks manifest node t ≡ Ok x → AreRows x.1
ascend-rows law chunks manifest node t x h = by (same node null_node) h
  where
    by : (b : Bool) → (let r : Result Files ReadAnswer = cond b (Ok (None, [])) (rows_at chunks manifest t (place_of manifest.entries node)) in r) ≡ Ok x → AreRows x.1
    by true k = let P : Files → Type 0 = λ y. AreRows y.1 in subst P (ok-is x (None, []) x k) tt
    by false k = ascend-at law chunks manifest t (place_of manifest.entries node) x k

pub parent-ascends : IsReadLaw → (l : Loaded) (rev : Option ℕ) (t : Tree) (x : Files) → parent_files l rev t ≡ Ok x → AreRows x.1
parent-ascends law l None t x h = let P : Files → Type 0 = λ y. AreRows y.1 in subst P (ok-is x (None, []) x h) tt
parent-ascends law l (Some rev) t x h =
    let a = comes (change_in changelog_data l.changelog rev t) (λ c. rows_in manifest_data l.manifest c.manifest t) x h in
    ascend-rows law manifest_data l.manifest a.0.manifest t x a.2

-- ---- the whole tree

abbrev pub whole_tree : OfTree → OfGrown
whole_tree tree = record {
  rows = tree.rows;
  changed = in_order (tree.changed ++ (paths_of tree.first ++ paths_of tree.second));
  growth = tree.growth;
  lines = tree.lines;
}

grown-is : (first second : List Row) (xs : List OfFile) → ascends (file_paths xs) ≡ true → AreRows first → AreRows second → whole_tree (with_files (tree_on first second) xs) ≡ grown_of first second xs
grown-is first second xs up a b =
    let tree = tree_on first second in
    let rows = rows-with tree xs in
    let growth = growth-with tree xs in
    let lines = lines-with tree xs in
    let changed = ap in_order (changed-with tree xs) ∙ changed-is xs [] [] first second up a b in
    λ i. record { rows = rows i; changed = changed i; growth = growth i; lines = lines i }

module _ (l : Loaded) (c : NewChange) (first second : Files) (t : Tree) (follow : can_follow [] c.files ≡ true) (rows_first : AreRows first.1) (rows_second : AreRows second.1) where
  abbrev link : ℕ
  link = length l.changelog.entries

  all-is : files_in (listing l.fncache) link first.1 c.files first.1 second.1 t ≡ all_files_in (listing l.fncache) link first.1 second.1 c.files t
  all-is = whole-files (listing l.fncache) link t c.files first.1 second.1 follow rows_first rows_second

  pub grown-found : (m new : Met) (tree : OfTree) → ascends (paths_of_files c.files) ≡ true → adding (tree_on first.1 second.1) m (files_in (listing l.fncache) link first.1 c.files first.1 second.1 t) ≡ Ok (tree, new) →
      noting m (grown_on l c first second t) ≡ Ok ((whole_tree tree, manifest_parents_of first.0 second.0), new)
  grown-found m new tree up h = by (all_files_in (listing l.fncache) link first.1 second.1 c.files t) refl (ap (adding (tree_on first.1 second.1) m) (sym all-is) ∙ h)
    where
      by : (r : Result OfFiles ReadAnswer) → all_files_in (listing l.fncache) link first.1 second.1 c.files t ≡ r → adding (tree_on first.1 second.1) m r ≡ Ok (tree, new) → noting m (grown_on l c first second t) ≡ Ok ((whole_tree tree, manifest_parents_of first.0 second.0), new)
      by (Err e) is k = cc
      by (Ok xs) is k =
          let pair = ok-is (tree, new) (with_files (tree_on first.1 second.1) xs.0, noted m xs.1) (tree, new) k in
          let ordered : ascends (file_paths xs.0) ≡ true = ap ascends (files-paths (listing l.fncache) link t first.1 second.1 c.files xs is) ∙ up in
          ap (λ r. noting m (and_then r (λ files. Ok ((grown_of first.1 second.1 files.0, manifest_parents_of first.0 second.0), files.1)))) is
          ∙ ap (λ g. Ok ((g, manifest_parents_of first.0 second.0), noted m xs.1)) (sym (grown-is first.1 second.1 xs.0 ordered rows_first rows_second) ∙ ap whole_tree (ap (λ p. p.0) pair))
          ∙ ap (λ n. Ok ((whole_tree tree, manifest_parents_of first.0 second.0), n)) (ap (λ p. p.1) pair)

  pub grown-fault : (m : Met) (e : ReadAnswer) → adding (tree_on first.1 second.1) m (files_in (listing l.fncache) link first.1 c.files first.1 second.1 t) ≡ Err e → noting m (grown_on l c first second t) ≡ Err e
  grown-fault m e h = by (all_files_in (listing l.fncache) link first.1 second.1 c.files t) refl (ap (adding (tree_on first.1 second.1) m) (sym all-is) ∙ h)
    where
      by : (r : Result OfFiles ReadAnswer) → all_files_in (listing l.fncache) link first.1 second.1 c.files t ≡ r → adding (tree_on first.1 second.1) m r ≡ Err e → noting m (grown_on l c first second t) ≡ Err e
      by (Ok xs) is k = cc
      by (Err f) is k = ap (λ r. noting m (and_then r (λ files. Ok ((grown_of first.1 second.1 files.0, manifest_parents_of first.0 second.0), files.1)))) is ∙ err-is f e k
        where
          err-is : (f e : ReadAnswer) → (let r : Result (OfTree × Met) ReadAnswer = Err f in r ≡ Err e) → (let r : Result ((OfGrown × Parents) × Met) ReadAnswer = Err f in r ≡ Err e)
          err-is f e h = cc

  pub clash-found : (old new : Option (List ℕ)) → ClashIn (listing l.fncache) (files_in (listing l.fncache) link first.1 c.files first.1 second.1 t) old new → ClashIn (listing l.fncache) (all_files_in (listing l.fncache) link first.1 second.1 c.files t) old new
  clash-found old new h = let P : Result OfFiles ReadAnswer → Type 0 = λ r. ClashIn (listing l.fncache) r old new in subst P all-is h

-- ---- the files of the parents

abbrev pub AreParents : Loaded → Parents → Tree → Files → Files → Type 0
AreParents l parents t first second = (parent_files l parents.0 t ≡ Ok first) × (parent_files l parents.1 t ≡ Ok second)

pub are-parents : (l : Loaded) (parents : Parents) (t : Tree) (first second : Files) → both_parents l parents t ≡ Ok (first, second) → AreParents l parents t first second
are-parents l parents t first second h =
    let a = comes (parent_files l parents.0 t) (λ x. and_then (parent_files l parents.1 t) (λ y. Ok (x, y))) (first, second) h in
    let b = comes (parent_files l parents.1 t) (λ y. Ok (a.0, y)) (first, second) a.2 in
    let pair = ok-is (first, second) (a.0, b.0) (first, second) b.2 in
    (a.1 ∙ ap (λ (p : Files × Files). Ok p.0) pair, b.1 ∙ ap (λ (p : Files × Files). Ok p.1) pair)

pub both-found : (l : Loaded) (parents : Parents) (t : Tree) (first second : Files) → parent_files l parents.0 t ≡ Ok first → parent_files l parents.1 t ≡ Ok second → both_parents l parents t ≡ Ok (first, second)
both-found l parents t first second a b =
    ap (λ r. and_then r (λ x. and_then (parent_files l parents.1 t) (λ y. Ok (x, y)))) a ∙ ap (λ r. and_then r (λ y. Ok (first, y))) b

pub first-fault : (l : Loaded) (parents : Parents) (t : Tree) (e : ReadAnswer) → parent_files l parents.0 t ≡ Err e → both_parents l parents t ≡ Err e
first-fault l parents t e h = ap (λ r. and_then r (λ x. and_then (parent_files l parents.1 t) (λ y. Ok (x, y)))) h

pub second-fault : (l : Loaded) (parents : Parents) (t : Tree) (first : Files) (e : ReadAnswer) → parent_files l parents.0 t ≡ Ok first → parent_files l parents.1 t ≡ Err e → both_parents l parents t ≡ Err e
second-fault l parents t first e g h =
    ap (λ r. and_then r (λ x. and_then (parent_files l parents.1 t) (λ y. Ok (x, y)))) g ∙ ap (λ r. and_then r (λ y. Ok (first, y))) h

module _ (l : Loaded) (c : NewChange) (parents : Parents) (t : Tree) where
  abbrev trees_of : Files → Files → OfFiles → OfTrees
  trees_of x y files = record { first = x; second = y; files = files }

  abbrev all_of : Files → Files → Result OfFiles ReadAnswer
  all_of x y = all_files_in (listing l.fncache) (length l.changelog.entries) x.1 y.1 c.files t

  -- without the files of the parents there is no tree
  pub trees-unread : (e : ReadAnswer) → both_parents l parents t ≡ Err e → trees_in l c parents t ≡ Err e
  trees-unread e h = by (parent_files l parents.0 t) (parent_files l parents.1 t) h
    where
      by : (a b : Result Files ReadAnswer) → (let r : Result (Files × Files) ReadAnswer = and_then a (λ x. and_then b (λ y. Ok (x, y))) in r) ≡ Err e → and_then a (λ x. and_then b (λ y. and_then (all_of x y) (λ files. Ok (trees_of x y files)))) ≡ Err e
      by (Err f) b k = err-is f k
        where
          err-is : (f : ReadAnswer) → (let r : Result (Files × Files) ReadAnswer = Err f in r ≡ Err e) → (let r : Result OfTrees ReadAnswer = Err f in r ≡ Err e)
          err-is f k = cc
      by (Ok x) (Err f) k = err-is f k
        where
          err-is : (f : ReadAnswer) → (let r : Result (Files × Files) ReadAnswer = Err f in r ≡ Err e) → (let r : Result OfTrees ReadAnswer = Err f in r ≡ Err e)
          err-is f k = cc
      by (Ok x) (Ok y) k = cc

  module _ (first second : Files) (read : both_parents l parents t ≡ Ok (first, second)) where
    -- with them it is that of the files
    trees : trees_in l c parents t ≡ and_then (all_of first second) (λ files. Ok (trees_of first second files))
    trees =
        let are = are-parents l parents t first second read in
        ap (λ a. and_then a (λ x. and_then (parent_files l parents.1 t) (λ y. and_then (all_of x y) (λ files. Ok (trees_of x y files))))) are.0
        ∙ ap (λ b. and_then b (λ y. and_then (all_of first y) (λ files. Ok (trees_of first y files)))) are.1

    abbrev told : OfTrees → Result ((OfGrown × Parents) × List Obstacle) ReadAnswer
    told x = Ok ((grown_of x.first.1 x.second.1 x.files.0, manifests_of x), x.files.1)

    abbrev told_on : OfFiles → Result ((OfGrown × Parents) × List Obstacle) ReadAnswer
    told_on files = Ok ((grown_of first.1 second.1 files.0, manifest_parents_of first.0 second.0), files.1)

    pub grown-of-parents : grown_in l c parents t ≡ grown_on l c first second t
    grown-of-parents = ap (λ r. and_then r told) trees ∙ by (all_of first second)
      where
        by : (r : Result OfFiles ReadAnswer) → and_then (and_then r (λ files. Ok (trees_of first second files))) told ≡ and_then r told_on
        by (Ok files) = refl
        by (Err e) = refl

    pub clash-of-parents : (old new : Option (List ℕ)) → ClashIn (listing l.fncache) (all_of first second) old new → ClashOn l c (trees_in l c parents t) old new
    clash-of-parents old new h = let P : Result OfTrees ReadAnswer → Type 0 = λ r. ClashOn l c r old new in subst P (sym trees) (by (all_of first second) h)
      where
        free : (r : Result (Unit {0}) PlanFault) (P : Type 0) → P → OnOk r P
        free (Ok x) P p = p
        free (Err e) P p = tt

        by : (r : Result OfFiles ReadAnswer) → ClashIn (listing l.fncache) r old new → ClashOn l c (and_then r (λ files. Ok (trees_of first second files))) old new
        by (Ok xs) k = free (copies_tested first.1 second.1 c.files) (ClashIn (listing l.fncache) (Ok xs) old new) k
        by (Err e) k = tt

    -- no clash is looked for where the copies are refused
    pub clash-unasked : (f : PlanFault) → copies_tested first.1 second.1 c.files ≡ Err f → ClashOn l c (trees_in l c parents t) None None
    clash-unasked f refused = let P : Result OfTrees ReadAnswer → Type 0 = λ r. ClashOn l c r None None in subst P (sym trees) (by (all_of first second))
      where
        by : (r : Result OfFiles ReadAnswer) → ClashOn l c (and_then r (λ files. Ok (trees_of first second files))) None None
        by (Ok xs) = let P : Result (Unit {0}) PlanFault → Type 0 = λ r. OnOk r (ClashIn (listing l.fncache) (Ok xs) None None) in subst P (sym refused) tt
        by (Err e) = tt

-- a tree of no files yet on the parents' rows
pub on-parents : (lists : List ℕ → Ext → Bool) (link other : ℕ) (sources : List Row) (files all : List NewFile) (first second : List Row) (tree : OfTree) (m : Met) (t : Tree) → other ≡ link → all ≡ files → tree.first ≡ first → tree.second ≡ second → tree.rows ≡ [] → tree.changed ≡ [] → tree.growth ≡ [] → tree.lines ≡ [] →
    adding (tree_on first second) m (files_in lists link sources files first second t) ≡ adding tree m (files_in lists other sources all tree.first tree.second t)
on-parents lists link other sources files all first second tree m t is_link is_files f s r c g n =
    let is : tree_on first second ≡ tree = (let f = sym f in let s = sym s in let r = sym r in let c = sym c in let g = sym g in let n = sym n in λ i. record { first = f i; second = s i; rows = r i; changed = c i; growth = g i; lines = n i }) in
    ap (λ (x : OfTree). adding x m (files_in lists link sources files x.first x.second t)) is
    ∙ ap (λ k. adding tree m (files_in lists k sources files tree.first tree.second t)) (sym is_link)
    ∙ ap (λ k. adding tree m (files_in lists other sources k tree.first tree.second t)) (sym is_files)
