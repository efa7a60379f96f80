-- What the steps of records lay, joined, are the parts of their import.
use Rattle.std.proofs.Common.{◌≡◌, ℕ, List, [], ◌∷◌, ◌++◌, Bool, true, false, ◌||◌, length, map, flat_map, refl, sym, ◌∙◌, ap, subst}
use Rattle.std.specs.Prelude.{Some, is_some, unwrap_or, if◌then◌else◌}
use Rattle.std.specs.List.{AllByRecursion, list_all}
use Rattle.std.proofs.lemmas.List.{map-append}
use Rattle.hgs_bytes.specs.Bytes.{among, same}
use Rattle.hgs_bytes.specs.Text.{line}
use Rattle.hgs_bytes.specs.Theorems.ByteLemmas.{same-refl}
use Rattle.hgs_commit.specs.Appended.{append_some as append_to}
use Rattle.hgs_files.specs.declared.op.Op.{Op}
use Rattle.hgs_files.specs.declared.op.Op.TheVariants as ops
use Rattle.hgs_files.specs.Tree.{Tree, after_all, bytes_at}
use Rattle.hgs_files.specs.Theorems.TreeLemmas.{after_all-append}
use Rattle.hgs_model.specs.History.{history, in_order}
use Rattle.hgs_model.specs.IsRepo.{IsRepo}
use Rattle.hgs_model.specs.Repo.{Repo}
use Rattle.hgs_model.specs.Step.{sets_bookmark}
use Rattle.hgs_model.specs.Theorems.ListLemmas.{all-join}
use Rattle.hgs_model.specs.Valid.{IsValid}
use Rattle.hgs_model.specs.Valid.{new_paths as paths_of_files}
use Rattle.hgs_model.specs.declared.command.Command.TheVariants.{Import}
use Rattle.hgs_model.specs.declared.command.NewChange.{NewChange}
use Rattle.hgs_ops.specs.Growth.{append_some, appended, growth, growth_of, new_changelog_entry, new_names_of, new_paths}
use Rattle.hgs_ops.specs.Laid.{AreLaid, Record, appended_by, changes_of, changes_roots, laid, names_with, put_whole, repo_behind, tree_behind}
use Rattle.hgs_ops.specs.Operations.{appending, changes_before, new_changelog_index, new_changelog_path, renames_after}
use Rattle.hgs_ops.specs.Replaced.{dirstate_with, marks_with, new_bookmarks, new_dirstate, new_rename, new_roots, only_if, replacements, roots_change, roots_of, roots_with}
use Rattle.hgs_ops.specs.Theorems.CommitLemmas.{growth-appends}
use Rattle.hgs_ops.specs.Theorems.CommitTree.{is_append}
use Rattle.hgs_ops.specs.Theorems.Touch.{appended-append}
use Rattle.hgs_path.specs.StoreName.{store_name}
use Rattle.hgs_path.specs.declared.name.Ext.TheVariants.{I, D}
use Rattle.hgs_stands.specs.Places.{bookmarks_path, changelog_data, changelog_index, dirstate_path, fncache_path, manifest_data, manifest_index, roots_path}
use Rattle.hgs_stands.specs.Stands.{Stands}
use Rattle.hgs_steps.specs.Planned.{IsLoadedOf}
use Rattle.hgs_steps.specs.declared.loaded.Loaded.{Loaded}
use Rattle.hgs_steps.specs.declared.step.Step.{Step}
use Rattle.hgs_transaction.specs.OfTransaction.{ArePartsOf, IsOfTree}
use Rattle.hgs_transaction.specs.Parts.{all_changes, change_op, replacement_of, replacings_of}
use Rattle.hgs_transaction.specs.declared.parts.Change.{Change}
use Rattle.hgs_transaction.specs.declared.parts.Change.TheVariants.{MakeIndex, RenameIndex, Replace}
use Rattle.hgs_transaction.specs.declared.parts.Parts.{Parts}
use Rattle.hgs_transaction.specs.declared.parts.ReplacedFile.{ReplacedFile}
use Rattle.hgs_transaction.specs.declared.parts.ReplacedFile.TheVariants.{PhaseRoots, Dirstate, Bookmarks}
use Rattle.hgs_transaction.specs.declared.parts.Replacing.{Replacing}
use Rattle.hgs_writer.specs.Joined.{all_laid, are_put, joined_append, joined_appends, joined_filelog, joined_lines, joined_names, joined_parts, joined_paths, lays, puts, replaced_path, standing_in}
use Rattle.hgs_writer.proofs.Basics.{never}
use Rattle.hgs_writer.proofs.FollowLemmas.{AreStepsOf}
use Rattle.hgs_writer.proofs.LayingLemmas.{parts-lay}
use Rattle.hgs_writer.proofs.PartsLemmas.{none-replaced, replacings-back, replacings-join}

-- what the laws of hgs_ops say of records that are laid
pub record LaidLaws : Type 0 where
  pub appends : (t : Tree) (r next : Repo) (n : NewChange) (path : List ℕ) → appended path (laid t r n next) ≡ appended path (appending t r next)
  pub growth_is : (t : Tree) (r : Repo) (x : Record) (records : List Record) → Stands t r → IsValid (Import (changes_of (x ∷ records))) → AreLaid t r (x ∷ records) → growth t r (repo_behind r (x ∷ records)) ≡ growth_of (λ path. appended_by path t r (x ∷ records)) r (repo_behind r (x ∷ records))
  pub entries : (t : Tree) (r : Repo) (x : Record) (records : List Record) → Stands t r → IsValid (Import (changes_of (x ∷ records))) → AreLaid t r (x ∷ records) → new_changelog_entry t r (repo_behind r (x ∷ records)) ≡ appended_by changelog_index t r (x ∷ records)
  pub roots : (t : Tree) (r : Repo) (x : Record) (records : List Record) → Stands t r → IsValid (Import (changes_of (x ∷ records))) → AreLaid t r (x ∷ records) → tree_behind t r (x ∷ records) roots_path ≡ (if roots_change r (repo_behind r (x ∷ records)) then Some (roots_of (repo_behind r (x ∷ records))) else t roots_path)
  pub dirstate : (t : Tree) (r : Repo) (x : Record) (records : List Record) → Stands t r → IsValid (Import (changes_of (x ∷ records))) → AreLaid t r (x ∷ records) → tree_behind t r (x ∷ records) dirstate_path ≡ Some (new_dirstate (repo_behind r (x ∷ records))).text
  pub bookmarks : (t : Tree) (r : Repo) (x : Record) (records : List Record) → Stands t r → IsValid (Import (changes_of (x ∷ records))) → AreLaid t r (x ∷ records) → tree_behind t r (x ∷ records) bookmarks_path ≡ (if sets_bookmark (changes_of (x ∷ records)) then Some (new_bookmarks (repo_behind r (x ∷ records))).text else t bookmarks_path)
  pub changing : (t : Tree) (r : Repo) (records : List Record) → Stands t r → AreLaid t r records → roots_change r (repo_behind r records) ≡ changes_roots r records
  pub paths : (t : Tree) (r : Repo) (records : List Record) → IsRepo r → AreLaid t r records → new_paths r (repo_behind r records) ≡ in_order (flat_map (λ (n : NewChange). paths_of_files n.files) (changes_of records))
  pub names : (t : Tree) (r : Repo) (x : Record) (records : List Record) (path : List ℕ) → Stands t r → IsValid (Import (changes_of (x ∷ records))) → AreLaid t r (x ∷ records) → among path (new_paths r (repo_behind r (x ∷ records))) ≡ true
      → new_names_of path ((history r.changesets).filelog path) ((history (repo_behind r (x ∷ records)).changesets).filelog path) ≡ names_with path (bytes_at t (store_name path I)) (appended_by (store_name path I) t r (x ∷ records)) (appended_by (store_name path D) t r (x ∷ records))

-- ---- what the steps lay

module _ (laws : LaidLaws) where
  laid-appended : (t : Tree) (r : Repo) (records : List Record) (steps : List Step) (path : List ℕ) → AreStepsOf t r records steps → appended path (all_laid steps) ≡ appended_by path t r records
  laid-appended t r [] [] path are = refl
  laid-appended t r [] (s ∷ steps) path are = absurd are
  laid-appended t r (x ∷ records) [] path are = absurd are
  laid-appended t r (x ∷ records) (s ∷ steps) path are =
      appended-append path (lays s.parts) (all_laid steps)
      ∙ (λ i. appended path (parts-lay t r x.1 x.0 s.parts are.0.2.parts i) ++ appended path (all_laid steps))
      ∙ (λ i. laws.appends t r x.1 x.0 path i ++ laid-appended (after_all (laid t r x.0 x.1) t) x.1 records steps path are.1 i)

laid-tree : (t : Tree) (r : Repo) (records : List Record) (steps : List Step) → AreStepsOf t r records steps → after_all (all_laid steps) t ≡ tree_behind t r records
laid-tree t r [] [] are = refl
laid-tree t r [] (s ∷ steps) are = absurd are
laid-tree t r (x ∷ records) [] are = absurd are
laid-tree t r (x ∷ records) (s ∷ steps) are =
    after_all-append (lays s.parts) (all_laid steps) t
    ∙ (λ i. after_all (all_laid steps) (after_all (parts-lay t r x.1 x.0 s.parts are.0.2.parts i) t))
    ∙ laid-tree (after_all (laid t r x.0 x.1) t) x.1 records steps are.1

-- ---- which files they put whole

puts-join : (path : List ℕ) (xs ys : List Op) → are_put path (xs ++ ys) ≡ (are_put path xs || are_put path ys)
puts-join path [] ys = refl
puts-join path (x ∷ xs) ys = by (puts path x) (puts-join path xs ys)
  where
    by : (b : Bool) → are_put path (xs ++ ys) ≡ (are_put path xs || are_put path ys) → (b || are_put path (xs ++ ys)) ≡ ((b || are_put path xs) || are_put path ys)
    by true e = refl
    by false e = e

appends-put : (path : List ℕ) (xs : List Op) → list_all is_append xs ≡ true → are_put path xs ≡ false
appends-put path [] e = refl
appends-put path (ops.Append p bytes ∷ xs) e = appends-put path xs e
appends-put path (ops.Create p bytes ∷ xs) e = never (sym e)
appends-put path (ops.Cut p n ∷ xs) e = never (sym e)
appends-put path (ops.Rename from to ∷ xs) e = never (sym e)
appends-put path (ops.Remove p ∷ xs) e = never (sym e)
appends-put path (ops.Sync p ∷ xs) e = never (sym e)
appends-put path (ops.Settle ∷ xs) e = never (sym e)

-- what is laid beside the growth
abbrev small : Bool → Bool → List ℕ → List ℕ → List ℕ → List ℕ → List Op
small rc bk roots entry dirstate marks = map put_whole (only_if rc (roots_with roots)) ++ (ops.Append changelog_index entry ∷ map put_whole (dirstate_with dirstate ∷ only_if bk (marks_with marks)))

small-roots : (rc bk : Bool) (roots entry dirstate marks : List ℕ) → are_put roots_path (small rc bk roots entry dirstate marks) ≡ rc
small-roots true true roots entry dirstate marks = refl
small-roots true false roots entry dirstate marks = refl
small-roots false true roots entry dirstate marks = refl
small-roots false false roots entry dirstate marks = refl

small-dirstate : (rc bk : Bool) (roots entry dirstate marks : List ℕ) → are_put dirstate_path (small rc bk roots entry dirstate marks) ≡ true
small-dirstate true true roots entry dirstate marks = refl
small-dirstate true false roots entry dirstate marks = refl
small-dirstate false true roots entry dirstate marks = refl
small-dirstate false false roots entry dirstate marks = refl

small-marks : (rc bk : Bool) (roots entry dirstate marks : List ℕ) → are_put bookmarks_path (small rc bk roots entry dirstate marks) ≡ bk
small-marks true true roots entry dirstate marks = refl
small-marks true false roots entry dirstate marks = refl
small-marks false true roots entry dirstate marks = refl
small-marks false false roots entry dirstate marks = refl

laid-small : (path : List ℕ) (t : Tree) (r next : Repo) (n : NewChange) → are_put path (laid t r n next) ≡ are_put path (small (roots_change r next) (is_some n.bookmark) (roots_of next) (new_changelog_entry t r next) (new_dirstate next).text (new_bookmarks next).text)
laid-small path t r next n =
    puts-join path (growth t r next) (small (roots_change r next) (is_some n.bookmark) (roots_of next) (new_changelog_entry t r next) (new_dirstate next).text (new_bookmarks next).text)
    ∙ ap (λ b. b || are_put path (small (roots_change r next) (is_some n.bookmark) (roots_of next) (new_changelog_entry t r next) (new_dirstate next).text (new_bookmarks next).text)) (appends-put path (growth t r next) (growth-appends t r next))

-- of one step and of those behind it
step-puts : (path : List ℕ) (t : Tree) (r : Repo) (x : Record) (records : List Record) (s : Step) (steps : List Step) → AreStepsOf t r (x ∷ records) (s ∷ steps) → (b : Bool)
    → are_put path (small (roots_change r x.1) (is_some x.0.bookmark) (roots_of x.1) (new_changelog_entry t r x.1) (new_dirstate x.1).text (new_bookmarks x.1).text) ≡ b → are_put path (all_laid (s ∷ steps)) ≡ (b || are_put path (all_laid steps))
step-puts path t r x records s steps are b e =
    puts-join path (lays s.parts) (all_laid steps)
    ∙ ap (λ z. z || are_put path (all_laid steps)) (ap (are_put path) (parts-lay t r x.1 x.0 s.parts are.0.2.parts) ∙ laid-small path t r x.1 x.0 ∙ e)

roots-put : (t : Tree) (r : Repo) (records : List Record) (steps : List Step) → AreStepsOf t r records steps → are_put roots_path (all_laid steps) ≡ changes_roots r records
roots-put t r [] [] are = refl
roots-put t r [] (s ∷ steps) are = absurd are
roots-put t r (x ∷ records) [] are = absurd are
roots-put t r (x ∷ records) (s ∷ steps) are =
    step-puts roots_path t r x records s steps are (roots_change r x.1) (small-roots (roots_change r x.1) (is_some x.0.bookmark) (roots_of x.1) (new_changelog_entry t r x.1) (new_dirstate x.1).text (new_bookmarks x.1).text)
    ∙ ap (λ b. roots_change r x.1 || b) (roots-put (after_all (laid t r x.0 x.1) t) x.1 records steps are.1)

marks-put : (t : Tree) (r : Repo) (records : List Record) (steps : List Step) → AreStepsOf t r records steps → are_put bookmarks_path (all_laid steps) ≡ sets_bookmark (changes_of records)
marks-put t r [] [] are = refl
marks-put t r [] (s ∷ steps) are = absurd are
marks-put t r (x ∷ records) [] are = absurd are
marks-put t r (x ∷ records) (s ∷ steps) are =
    step-puts bookmarks_path t r x records s steps are (is_some x.0.bookmark) (small-marks (roots_change r x.1) (is_some x.0.bookmark) (roots_of x.1) (new_changelog_entry t r x.1) (new_dirstate x.1).text (new_bookmarks x.1).text)
    ∙ ap (λ b. is_some x.0.bookmark || b) (marks-put (after_all (laid t r x.0 x.1) t) x.1 records steps are.1)

dirstate-put : (t : Tree) (r : Repo) (x : Record) (records : List Record) (steps : List Step) → AreStepsOf t r (x ∷ records) steps → are_put dirstate_path (all_laid steps) ≡ true
dirstate-put t r x records [] are = absurd are
dirstate-put t r x records (s ∷ steps) are = step-puts dirstate_path t r x records s steps are true (small-dirstate (roots_change r x.1) (is_some x.0.bookmark) (roots_of x.1) (new_changelog_entry t r x.1) (new_dirstate x.1).text (new_bookmarks x.1).text)

-- ---- lists

flat-same : (f g : List ℕ → List (List ℕ)) (paths : List (List ℕ)) → ((q : List ℕ) → among q paths ≡ true → f q ≡ g q) → flat_map f paths ≡ flat_map g paths
flat-same f g [] each = refl
flat-same f g (q ∷ paths) each =
    let one = each q (ap (λ z. z || among q paths) (same-refl q)) in
    let rest = flat-same f g paths (λ p e. each p (behind (same p q) (among p paths) e)) in
    λ i. one i ++ rest i
  where
    behind : (a b : Bool) → b ≡ true → (a || b) ≡ true
    behind true b e = refl
    behind false b e = e

-- ---- appends

one-append : (path : List ℕ) (before : ℕ) (bytes : List ℕ) → map change_op (append_to path before bytes) ≡ append_some path bytes
one-append path before [] = refl
one-append path before (b ∷ bytes) = refl

append-standing : (t : Tree) (path bytes : List ℕ) → AllByRecursion (IsOfTree t) (append_to path (length (bytes_at t path)) bytes)
append-standing t path [] = tt
append-standing t path (b ∷ bytes) = (refl, tt)

module _ (t : Tree) (bytes : List ℕ → List ℕ) where
  abbrev filelog_ops : List ℕ → List Op
  filelog_ops q = append_some (store_name q D) (bytes (store_name q D)) ++ append_some (store_name q I) (bytes (store_name q I))

  one-filelog : (q : List ℕ) → map change_op (joined_filelog t bytes q) ≡ filelog_ops q
  one-filelog q =
      map-append change_op (joined_append t bytes (store_name q D)) (joined_append t bytes (store_name q I))
      ∙ (λ i. one-append (store_name q D) (length (bytes_at t (store_name q D))) (bytes (store_name q D)) i ++ one-append (store_name q I) (length (bytes_at t (store_name q I))) (bytes (store_name q I)) i)

  all-filelogs : (paths : List (List ℕ)) → map change_op (flat_map (joined_filelog t bytes) paths) ≡ flat_map filelog_ops paths
  all-filelogs [] = refl
  all-filelogs (q ∷ paths) = map-append change_op (joined_filelog t bytes q) (flat_map (joined_filelog t bytes) paths) ∙ (λ i. one-filelog q i ++ all-filelogs paths i)

  filelogs-standing : (paths : List (List ℕ)) → AllByRecursion (IsOfTree t) (flat_map (joined_filelog t bytes) paths)
  filelogs-standing [] = tt
  filelogs-standing (q ∷ paths) =
      all-join (IsOfTree t) (joined_filelog t bytes q) (flat_map (joined_filelog t bytes) paths)
      (all-join (IsOfTree t) (joined_append t bytes (store_name q D)) (joined_append t bytes (store_name q I)) (append-standing t (store_name q D) (bytes (store_name q D))) (append-standing t (store_name q I) (bytes (store_name q I))))
      (filelogs-standing paths)

  module _ (paths : List (List ℕ)) where
    abbrev logs : List Change
    logs = flat_map (joined_filelog t bytes) paths

    abbrev listed : List Change
    listed = append_to fncache_path (length (bytes_at t fncache_path)) (joined_lines t bytes paths)

    abbrev manifests : List Change
    manifests = joined_append t bytes manifest_data ++ joined_append t bytes manifest_index

    abbrev changelogs : List Change
    changelogs = joined_append t bytes changelog_data

    at : (path : List ℕ) → map change_op (joined_append t bytes path) ≡ append_some path (bytes path)
    at path = one-append path (length (bytes_at t path)) (bytes path)

    appends-are : map change_op (joined_appends t bytes paths) ≡ flat_map filelog_ops paths ++ append_some fncache_path (joined_lines t bytes paths) ++ (append_some manifest_data (bytes manifest_data) ++ append_some manifest_index (bytes manifest_index)) ++ append_some changelog_data (bytes changelog_data)
    appends-are =
        map-append change_op (logs ++ listed ++ manifests) changelogs
        ∙ ap (λ l. l ++ map change_op changelogs) (map-append change_op (logs ++ listed) manifests ∙ ap (λ l. l ++ map change_op manifests) (map-append change_op logs listed))
        ∙ (λ i. all-filelogs paths i ++ one-append fncache_path (length (bytes_at t fncache_path)) (joined_lines t bytes paths) i ++ map-append change_op (joined_append t bytes manifest_data) (joined_append t bytes manifest_index) i ++ at changelog_data i)
        ∙ (λ i. flat_map filelog_ops paths ++ append_some fncache_path (joined_lines t bytes paths) ++ (at manifest_data i ++ at manifest_index i) ++ append_some changelog_data (bytes changelog_data))

    appends-standing : AllByRecursion (IsOfTree t) (joined_appends t bytes paths)
    appends-standing =
        all-join (IsOfTree t) (logs ++ listed ++ manifests) changelogs
        (all-join (IsOfTree t) (logs ++ listed) manifests
        (all-join (IsOfTree t) logs listed (filelogs-standing paths) (append-standing t fncache_path (joined_lines t bytes paths)))
        (all-join (IsOfTree t) (joined_append t bytes manifest_data) (joined_append t bytes manifest_index) (append-standing t manifest_data (bytes manifest_data)) (append-standing t manifest_index (bytes manifest_index))))
        (append-standing t changelog_data (bytes changelog_data))

-- ---- replaced files

abbrev replacing : ReplacedFile → List ℕ → Loaded → Replacing
replacing file text l = record { file = file; text = text; standing = standing_in l.standing file }

only-standing : (t : Tree) (l : Loaded) (file : ReplacedFile) (b : Bool) (text : List ℕ) → IsLoadedOf t l → AllByRecursion (IsOfTree t) (map (λ (x : Replacing). Replace x) (only_if b (replacing file text l)))
only-standing t l PhaseRoots true text h = (h.standing_roots, tt)
only-standing t l Dirstate true text h = (h.standing_dirstate, tt)
only-standing t l Bookmarks true text h = (h.standing_bookmarks, tt)
only-standing t l file false text h = tt

map-joined : (xs ys : List Replacing) → map (λ (x : Replacing). Replace x) (xs ++ ys) ≡ map (λ (x : Replacing). Replace x) xs ++ map (λ (x : Replacing). Replace x) ys
map-joined [] ys = refl
map-joined (x ∷ xs) ys = ap (λ l. Replace x ∷ l) (map-joined xs ys)

-- the roots are replaced where they change, the dirstate, and the bookmarks where one is set
roots-ops : (rc : Bool) (text : List ℕ) (next : Repo) (l : Loaded) → map change_op (map (λ (x : Replacing). Replace x) (only_if rc (replacing PhaseRoots text l))) ≡ (if rc then new_rename (new_roots next) ∷ [] else [])
roots-ops true text next l = refl
roots-ops false text next l = refl

after-ops : (bk : Bool) (dirstate marks : List ℕ) (next : Repo) (l : Loaded) → map (λ (x : Replacing). new_rename (replacement_of x)) (only_if true (replacing Dirstate dirstate l) ++ only_if bk (replacing Bookmarks marks l)) ≡ new_rename (new_dirstate next) ∷ only_if bk (new_rename (new_bookmarks next))
after-ops true dirstate marks next l = refl
after-ops false dirstate marks next l = refl

files-replaced : (rc bk : Bool) (roots dirstate marks : List ℕ) (next : Repo) (l : Loaded) → (rc ≡ true → roots ≡ roots_of next) → dirstate ≡ (new_dirstate next).text → (bk ≡ true → marks ≡ (new_bookmarks next).text)
    → map replacement_of (only_if rc (replacing PhaseRoots roots l) ++ (only_if true (replacing Dirstate dirstate l) ++ only_if bk (replacing Bookmarks marks l))) ≡ only_if rc (new_roots next) ++ new_dirstate next ∷ only_if bk (new_bookmarks next)
files-replaced true true roots dirstate marks next l a b c = λ i. roots_with (a refl i) ∷ dirstate_with (b i) ∷ marks_with (c refl i) ∷ []
files-replaced true false roots dirstate marks next l a b c = λ i. roots_with (a refl i) ∷ dirstate_with (b i) ∷ []
files-replaced false true roots dirstate marks next l a b c = λ i. dirstate_with (b i) ∷ marks_with (c refl i) ∷ []
files-replaced false false roots dirstate marks next l a b c = λ i. dirstate_with (b i) ∷ []

-- ---- the parts

module _ (laws : LaidLaws) (t : Tree) (r : Repo) (l : Loaded) (x : Record) (records : List Record) (steps : List Step) (s : Stands t r) (h : IsLoadedOf t l) (valid : IsValid (Import (changes_of (x ∷ records)))) (all : AreLaid t r (x ∷ records)) (are : AreStepsOf t r (x ∷ records) steps) where
  abbrev next : Repo
  next = repo_behind r (x ∷ records)

  abbrev changes : List NewChange
  changes = changes_of (x ∷ records)

  abbrev written : List Op
  written = all_laid steps

  abbrev bytes : List ℕ → List ℕ
  bytes path = appended path (all_laid steps)

  abbrev these : List (List ℕ)
  these = joined_paths (changes_of (x ∷ records))

  abbrev parts : Parts
  parts = joined_parts t l.standing (joined_paths (changes_of (x ∷ records))) (all_laid steps)

  paths-are : new_paths r next ≡ these
  paths-are = laws.paths t r (x ∷ records) s.repository all

  by-path : (path : List ℕ) → bytes path ≡ appended_by path t r (x ∷ records)
  by-path path = laid-appended laws t r (x ∷ records) steps path are

  lines-are : joined_lines t bytes these ≡ flat_map line (flat_map (λ path. new_names_of path ((history r.changesets).filelog path) ((history next.changesets).filelog path)) (new_paths r next))
  lines-are =
      ap (λ p. joined_lines t bytes p) (sym paths-are)
      ∙ ap (flat_map line) (flat-same (joined_names t bytes) (λ path. new_names_of path ((history r.changesets).filelog path) ((history next.changesets).filelog path)) (new_paths r next)
      (λ q e. (λ i. names_with q (bytes_at t (store_name q I)) (by-path (store_name q I) i) (by-path (store_name q D) i)) ∙ sym (laws.names t r x records q s valid all e)))

  growth-are : map change_op (joined_appends t bytes these) ≡ growth t r next
  growth-are =
      appends-are t bytes these
      ∙ (λ i. flat_map (filelog_ops t bytes) (sym paths-are i) ++ append_some fncache_path (lines-are i) ++ (append_some manifest_data (bytes manifest_data) ++ append_some manifest_index (bytes manifest_index)) ++ append_some changelog_data (bytes changelog_data))
      ∙ ap (λ f. growth_of f r next) (λ i path. by-path path i)
      ∙ sym (laws.growth_is t r x records s valid all)

  index-is : bytes_at t changelog_index ++ bytes changelog_index ≡ new_changelog_index t r next
  index-is = ap (λ e. bytes_at t changelog_index ++ e) (by-path changelog_index ∙ sym (laws.entries t r x records s valid all))

  -- the texts of the files that are replaced
  abbrev text : ReplacedFile → List ℕ
  text file = bytes_at (after_all (all_laid steps) t) (replaced_path file)

  tree-is : after_all written t ≡ tree_behind t r (x ∷ records)
  tree-is = laid-tree t r (x ∷ records) steps are

  roots-are : are_put roots_path written ≡ roots_change r next
  roots-are = roots-put t r (x ∷ records) steps are ∙ sym (laws.changing t r (x ∷ records) s all)

  marks-are : are_put bookmarks_path written ≡ sets_bookmark changes
  marks-are = marks-put t r (x ∷ records) steps are

  dirstate-is : are_put dirstate_path written ≡ true
  dirstate-is = dirstate-put t r x records steps are

  roots-text : roots_change r next ≡ true → text PhaseRoots ≡ roots_of next
  roots-text e = (λ i. bytes_at (tree-is i) roots_path) ∙ ap (λ o. unwrap_or o []) (laws.roots t r x records s valid all ∙ ap (λ b. if b then Some (roots_of next) else t roots_path) e)

  dirstate-text : text Dirstate ≡ (new_dirstate next).text
  dirstate-text = (λ i. bytes_at (tree-is i) dirstate_path) ∙ ap (λ o. unwrap_or o []) (laws.dirstate t r x records s valid all)

  marks-text : sets_bookmark changes ≡ true → text Bookmarks ≡ (new_bookmarks next).text
  marks-text e = (λ i. bytes_at (tree-is i) bookmarks_path) ∙ ap (λ o. unwrap_or o []) (laws.bookmarks t r x records s valid all ∙ ap (λ b. if b then Some (new_bookmarks next).text else t bookmarks_path) e)

  abbrev roots_put : List Replacing
  roots_put = only_if (are_put roots_path (all_laid steps)) (replacing PhaseRoots (text PhaseRoots) l)

  abbrev dirstate_put : List Replacing
  dirstate_put = only_if (are_put dirstate_path (all_laid steps)) (replacing Dirstate (text Dirstate) l)

  abbrev marks_put : List Replacing
  marks_put = only_if (are_put bookmarks_path (all_laid steps)) (replacing Bookmarks (text Bookmarks) l)

  abbrev after_put : List Replacing
  after_put = dirstate_put ++ marks_put

  abbrev making : Change
  making = MakeIndex (bytes_at t changelog_index ++ appended changelog_index (all_laid steps))

  before-are : map change_op parts.before ≡ changes_before t r (Import changes) next
  before-are =
      map-append change_op (joined_appends t bytes these) (making ∷ map (λ (x : Replacing). Replace x) roots_put)
      ∙ (λ i. growth-are i ++ (ops.Create new_changelog_path (index-is i) ∷ (ap (λ b. map change_op (map (λ (x : Replacing). Replace x) (only_if b (replacing PhaseRoots (text PhaseRoots) l)))) roots-are ∙ roots-ops (roots_change r next) (text PhaseRoots) next l) i))

  after-are : map (λ (x : Replacing). new_rename (replacement_of x)) parts.after ≡ renames_after (Import changes) next
  after-are =
      (λ i. map (λ (x : Replacing). new_rename (replacement_of x)) (only_if (dirstate-is i) (replacing Dirstate (text Dirstate) l) ++ only_if (marks-are i) (replacing Bookmarks (text Bookmarks) l)))
      ∙ after-ops (sets_bookmark changes) (text Dirstate) (text Bookmarks) next l

  none-grown : replacings_of (joined_appends t bytes these) ≡ []
  none-grown = none-replaced (joined_appends t bytes these) (ap (list_all is_append) growth-are ∙ growth-appends t r next)

  replacings-are : replacings_of (all_changes parts) ≡ roots_put ++ after_put
  replacings-are =
      replacings-join (joined_appends t bytes these ++ making ∷ map (λ (x : Replacing). Replace x) roots_put) (RenameIndex (length (bytes_at t changelog_index)) ∷ map (λ (x : Replacing). Replace x) after_put)
      ∙ (λ i. replacings-join (joined_appends t bytes these) (making ∷ map (λ (x : Replacing). Replace x) roots_put) i ++ replacings-back after_put i)
      ∙ (λ i. (none-grown i ++ replacings-back roots_put i) ++ after_put)

  replaced-are : map replacement_of (replacings_of (all_changes parts)) ≡ replacements r (Import changes) next
  replaced-are =
      ap (map replacement_of) replacings-are
      ∙ (λ i. map replacement_of (only_if (roots-are i) (replacing PhaseRoots (text PhaseRoots) l) ++ (only_if (dirstate-is i) (replacing Dirstate (text Dirstate) l) ++ only_if (marks-are i) (replacing Bookmarks (text Bookmarks) l))))
      ∙ files-replaced (roots_change r next) (sets_bookmark changes) (text PhaseRoots) (text Dirstate) (text Bookmarks) next l roots-text dirstate-text marks-text

  behind-standing : AllByRecursion (IsOfTree t) (map (λ (x : Replacing). Replace x) after_put)
  behind-standing =
      subst (AllByRecursion (IsOfTree t)) (sym (map-joined dirstate_put marks_put))
      (all-join (IsOfTree t) (map (λ (x : Replacing). Replace x) dirstate_put) (map (λ (x : Replacing). Replace x) marks_put) (only-standing t l Dirstate (are_put dirstate_path written) (text Dirstate) h) (only-standing t l Bookmarks (are_put bookmarks_path written) (text Bookmarks) h))

  standing-are : AllByRecursion (IsOfTree t) (all_changes parts)
  standing-are =
      all-join (IsOfTree t) (joined_appends t bytes these ++ making ∷ map (λ (x : Replacing). Replace x) roots_put) (RenameIndex (length (bytes_at t changelog_index)) ∷ map (λ (x : Replacing). Replace x) after_put)
      (all-join (IsOfTree t) (joined_appends t bytes these) (making ∷ map (λ (x : Replacing). Replace x) roots_put) (appends-standing t bytes these) (tt, only-standing t l PhaseRoots (are_put roots_path written) (text PhaseRoots) h))
      (refl, behind-standing)

  pub joined-parts : ArePartsOf t r (Import changes) next parts
  joined-parts = record { before = before-are; publish = refl; after = after-are; replaced = replaced-are; standing = standing-are }
