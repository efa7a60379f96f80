-- The paths that a commit appends to, and the files that it replaces, are such as its journal and its list may name.
use Rattle.std.proofs.Common.{◌≡◌, ℕ, List, [], ◌∷◌, ◌++◌, Bool, true, false, refl, map}
use Rattle.std.specs.List.{AllByRecursion}
use Rattle.hex.specs.Hex.{IsBytes}
use Rattle.hgs_files.specs.Tree.{Tree}
use Rattle.hgs_index.specs.Revision.{Revision}
use Rattle.hgs_journal.specs.Covers.{no_repeat}
use Rattle.hgs_journal.specs.Names.{journal_path}
use Rattle.hgs_model.specs.History.{history}
use Rattle.hgs_model.specs.Repo.{Repo}
use Rattle.hgs_model.specs.Theorems.ListLemmas.{all-join}
use Rattle.hgs_path.specs.declared.name.Ext.{Ext}
use Rattle.hgs_path.specs.declared.name.Ext.TheVariants.{I, D}
use Rattle.hgs_path.specs.StoreName.{listed_name, store_name}
use Rattle.hgs_path.specs.Theorems.ReadableLemmas.{listed-small}
use Rattle.hgs_path.specs.Theorems.ShapeLemmas.{encoded-path, small-of}
use Rattle.hgs_stands.specs.Places.{changelog_data, changelog_index, fncache_path, manifest_data, manifest_index}
use Rattle.hgs_stands.specs.Theorems.LooseLemmas.{store-not-loose}
use Rattle.hgs_ops.specs.Growth.{append_some, filelog_growth, filelogs_grow, growth, grown, new_data, new_entries, new_paths}
use Rattle.hgs_ops.specs.Theorems.FileGrowth.{added, form}
use Rattle.hgs_ops.specs.Operations.{journal_lines, strays}
use Rattle.hgs_ops.specs.Replaced.{Replacement, dirstate_with, marks_with, roots_with}
use Rattle.hgs_ops.specs.Theorems.Apart.{fixed, among-part, stores-fixed}
use Rattle.hgs_ops.specs.Theorems.CommitLemmas.{part_data, part_files, part_lines, part_manifest}
use Rattle.hgs_ops.specs.Theorems.CommitTree.{files_of, first_of, second_of}
use Rattle.hgs_ops.proofs.JournalLemmas.{IsGood, IsGoodPath, IsOneFile, place_of_file, small_paths}
use Rattle.hgs_ops.specs.Theorems.StandsCommit.{not-fixed}
use Rattle.hgs_ops.specs.Theorems.Touch.{or-both}

-- ---- the paths that a commit appends to

store-good : (path : List ℕ) (ext : Ext) → IsBytes path → IsGoodPath (store_name path ext)
store-good path ext bytes = record {
  spelled = refl;
  valid = encoded-path (listed_name path ext) ext (listed-small path ext (small-of path bytes));
  kept = or-both _ _ (store-not-loose strays path ext refl) (not-fixed (store_name path ext) journal_path refl (stores-fixed path ext));
  other = among-part small_paths fixed (store_name path ext) refl (stores-fixed path ext);
}

fncache-good : IsGoodPath fncache_path
fncache-good = record { spelled = refl; valid = refl; kept = refl; other = refl }

manifest-good : IsGoodPath manifest_index × IsGoodPath manifest_data
manifest-good = (
  record { spelled = refl; valid = refl; kept = refl; other = refl },
  record { spelled = refl; valid = refl; kept = refl; other = refl },
)

changelog-good : IsGoodPath changelog_index × IsGoodPath changelog_data
changelog-good = (
  record { spelled = refl; valid = refl; kept = refl; other = refl },
  record { spelled = refl; valid = refl; kept = refl; other = refl },
)

some-good : (files : List Replacement) (path bytes : List ℕ) → IsGoodPath path → AllByRecursion (IsGood files) (append_some path bytes)
some-good files path [] g = tt
some-good files path (b ∷ bytes) g = (g, tt)

grown-good : (f : Bool) (files : List Replacement) (t : Tree) (index data_path : List ℕ) (old all : List Revision) → IsGoodPath index → IsGoodPath data_path → AllByRecursion (IsGood files) (grown f t index data_path old all)
grown-good f files t index data_path old all i d =
    all-join (IsGood files) (append_some data_path (new_data f (added f t index data_path old all))) (append_some index (new_entries f old (added f t index data_path old all)))
    (some-good files data_path (new_data f (added f t index data_path old all)) d) (some-good files index (new_entries f old (added f t index data_path old all)) i)

filelogs-good : (files : List Replacement) → (t : Tree) (old new : List ℕ → List Revision) (paths : List (List ℕ)) → AllByRecursion IsBytes paths → AllByRecursion (IsGood files) (filelogs_grow t old new paths)
filelogs-good files t old new [] bytes = tt
filelogs-good files t old new (q ∷ paths) bytes =
    all-join (IsGood files) (filelog_growth t q (old q) (new q)) (filelogs_grow t old new paths)
    (grown-good (form t old new q) files t (store_name q I) (store_name q D) (old q) (new q) (store-good q I bytes.0) (store-good q D bytes.0)) (filelogs-good files t old new paths bytes.1)

pub growth-good : (files : List Replacement) → (t : Tree) (r next : Repo) → AllByRecursion IsBytes (new_paths r next) → AllByRecursion (IsGood files) (growth t r next)
growth-good files t r next bytes =
    all-join (IsGood files) (part_files t r next ++ append_some fncache_path (part_lines r next) ++ part_manifest t r next) (append_some changelog_data (part_data t r next))
    (all-join (IsGood files) (part_files t r next ++ append_some fncache_path (part_lines r next)) (part_manifest t r next)
    (all-join (IsGood files) (part_files t r next) (append_some fncache_path (part_lines r next))
    (filelogs-good files t (history r.changesets).filelog (history next.changesets).filelog (new_paths r next) bytes) (some-good files fncache_path (part_lines r next) fncache-good))
    (grown-good false files t manifest_index manifest_data (history r.changesets).manifest (history next.changesets).manifest manifest-good.0 manifest-good.1))
    (some-good files changelog_data (part_data t r next) changelog-good.1)

pub publish-good : IsGoodPath changelog_index
publish-good = changelog-good.0

-- ---- the files that a commit replaces

pub files-ones : (rc bk : Bool) (a b c : List ℕ) → AllByRecursion IsOneFile (files_of rc bk a b c)
files-ones true true a b c = (refl, (refl, (refl, tt)))
files-ones true false a b c = (refl, (refl, tt))
files-ones false true a b c = (refl, (refl, tt))
files-ones false false a b c = (refl, tt)

pub files-once : (rc bk : Bool) (a b c : List ℕ) → no_repeat (map place_of_file (files_of rc bk a b c)) ≡ true
files-once true true a b c = refl
files-once true false a b c = refl
files-once false true a b c = refl
files-once false false a b c = refl

pub first-good : (rc bk : Bool) (a b c : List ℕ) → AllByRecursion (IsGood (files_of rc bk a b c)) (first_of rc a)
first-good true true a b c = ((roots_with a, refl, refl, refl, refl), tt)
first-good true false a b c = ((roots_with a, refl, refl, refl, refl), tt)
first-good false bk a b c = tt

pub second-good : (rc bk : Bool) (a b c : List ℕ) → AllByRecursion (IsGood (files_of rc bk a b c)) (second_of bk b c)
second-good true true a b c = ((dirstate_with b, refl, refl, refl, refl), ((marks_with c, refl, refl, refl, refl), tt))
second-good true false a b c = ((dirstate_with b, refl, refl, refl, refl), tt)
second-good false true a b c = ((dirstate_with b, refl, refl, refl, refl), ((marks_with c, refl, refl, refl, refl), tt))
second-good false false a b c = ((dirstate_with b, refl, refl, refl, refl), tt)

pub second-none : (t : Tree) (bk : Bool) (b c : List ℕ) → journal_lines t (second_of bk b c) ≡ []
second-none t true b c = refl
second-none t false b c = refl
