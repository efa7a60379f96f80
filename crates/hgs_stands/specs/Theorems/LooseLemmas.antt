-- Locks and strays are no files that a repository stands on.
use Rattle.std.proofs.Common.{◌≡◌, ℕ, List, [], ◌∷◌, ◌++◌, Bool, true, false, ◌&&◌, ◌||◌, not, refl, sym, ◌∙◌, ap}
use Rattle.std.specs.Prelude.{None, codes, unwrap_or}
use Rattle.std.specs.List.{list_all}
use Rattle.hgs_bytes.specs.Bytes.{same, among, begins_with}
use Rattle.hgs_files.specs.Tree.{Tree, bytes_at}
use Rattle.hgs_journal.specs.Covers.{is_loose}
use Rattle.hgs_journal.specs.Names.{journal_path, locks}
use Rattle.hgs_model.specs.Repo.{Repo}
use Rattle.hgs_path.specs.declared.name.Ext.{Ext}
use Rattle.hgs_path.specs.ListedNames.{is_listed}
use Rattle.hgs_path.specs.StoreName.{store_name}
use Rattle.hgs_stands.specs.Places.{requires_path, bookmarks_path, dirstate_path, roots_path, fncache_path, changelog_index, changelog_data, manifest_index, manifest_data, standing_files}
use Rattle.hgs_stands.specs.Same.{AreStrays, SameFiles, is_stray}
use Rattle.hgs_stands.specs.Stands.{Stands, listed_file}
use Rattle.hgs_stands.specs.Theorems.Below.{NameLaws}
use Rattle.hgs_stands.specs.Theorems.Lower as lower
use Rattle.hgs_stands.specs.Theorems.StayLemmas.{stands-on}
use Rattle.hgs_stands.specs.Theorems.Basics.{and-left, and-right, never, same-eq}

not-stray : (path : List ℕ) (strays : List (List ℕ)) → AreStrays strays → is_stray path ≡ false → among path strays ≡ false
not-stray path [] are none_of = refl
not-stray path (x ∷ strays) are none_of = by (same path x) refl (not-stray path strays (and-right (is_stray x) (list_all is_stray strays) are) none_of)
  where
    by : (b : Bool) → same path x ≡ b → among path strays ≡ false → (b || among path strays) ≡ false
    by true e rec = never (sym (ap is_stray (same-eq path x e) ∙ and-left (is_stray x) (list_all is_stray strays) are) ∙ none_of)
    by false e rec = rec

neither : (a b : Bool) → a ≡ false → b ≡ false → (a || b) ≡ false
neither false b e f = f
neither true b e f = e

pub not-loose : (strays : List (List ℕ)) (path : List ℕ) → AreStrays strays → among path locks ≡ false → is_stray path ≡ false → is_loose strays path ≡ false
not-loose strays path are lock none_of = neither (among path locks) (among path strays) lock (not-stray path strays are none_of)

-- a name behind `store/` that begins with a d
pub file-not-loose : (strays : List (List ℕ)) (path rest : List ℕ) → AreStrays strays → path ≡ codes "store/" ++ 100 ∷ rest → is_loose strays path ≡ false
file-not-loose strays path rest are e = not-loose strays path are (ap (λ z. among z locks) e) (ap (λ z. not (begins_with z (codes "store/d")) && not (among z standing_files)) e)

pub filelog-not-loose : (names : NameLaws) (strays : List (List ℕ)) (path : List ℕ) (ext : Ext) → AreStrays strays → is_loose strays (store_name path ext) ≡ false
filelog-not-loose names strays path ext are = let d = names.file path ext in file-not-loose strays (store_name path ext) d.0 are d.1

pub line-not-loose : (names : NameLaws) (strays : List (List ℕ)) (name : List ℕ) → AreStrays strays → is_listed name ≡ true → is_loose strays (listed_file name) ≡ false
line-not-loose names strays name are is = let d = names.listed name is in file-not-loose strays (listed_file name) d.0 are d.1

-- where what stands at `requires` is the same, and all bytes but those of locks and strays are, all files are the same
pub same-beside : (names : NameLaws) (strays : List (List ℕ)) (t u : Tree) (r : Repo) → AreStrays strays → u requires_path ≡ t requires_path → ((path : List ℕ) → is_loose strays path ≡ false → bytes_at u path ≡ bytes_at t path) → u journal_path ≡ None → SameFiles t u r
same-beside names strays t u r are requires at none = record {
  requires = requires;
  revlogs = record {
    changelog = at changelog_index (not-loose strays changelog_index are refl refl);
    changelog_chunks = at changelog_data (not-loose strays changelog_data are refl refl);
    manifest = at manifest_index (not-loose strays manifest_index are refl refl);
    manifest_chunks = at manifest_data (not-loose strays manifest_data are refl refl);
    filelogs = λ path ext used. at (store_name path ext) (filelog-not-loose names strays path ext are);
  };
  list = record { text = at fncache_path (not-loose strays fncache_path are refl refl); empty = λ name is e. at (listed_file name) (line-not-loose names strays name are is) ∙ e };
  bookmarks = at bookmarks_path (not-loose strays bookmarks_path are refl refl);
  dirstate = at dirstate_path (not-loose strays dirstate_path are refl refl);
  roots = at roots_path (not-loose strays roots_path are refl refl);
  no_journal = none;
}

pub stands-beside : (names : NameLaws) (strays : List (List ℕ)) (t u : Tree) (r : Repo) → AreStrays strays → ((path : List ℕ) → is_loose strays path ≡ false → u path ≡ t path) → Stands t r → Stands u r
stands-beside names strays t u r are same s =
    stands-on names t u r (same-beside names strays t u r are (same requires_path (not-loose strays requires_path are refl refl)) (λ path none_of. ap (λ o. unwrap_or o []) (same path none_of)) (same journal_path (not-loose strays journal_path are refl refl) ∙ s.no_journal)) s

-- ---- the same, over the proofs of the crates below

pub store-not-loose : (strays : List (List ℕ)) (path : List ℕ) (ext : Ext) → AreStrays strays → is_loose strays (store_name path ext) ≡ false
store-not-loose = filelog-not-loose lower.file_names

pub same-files : (strays : List (List ℕ)) (t u : Tree) (r : Repo) → AreStrays strays → u requires_path ≡ t requires_path → ((path : List ℕ) → is_loose strays path ≡ false → bytes_at u path ≡ bytes_at t path) → u journal_path ≡ None → SameFiles t u r
same-files = same-beside lower.file_names

pub loose-do-not-matter : (strays : List (List ℕ)) (t u : Tree) (r : Repo) → AreStrays strays → ((path : List ℕ) → is_loose strays path ≡ false → u path ≡ t path) → Stands t r → Stands u r
loose-do-not-matter = stands-beside lower.file_names
