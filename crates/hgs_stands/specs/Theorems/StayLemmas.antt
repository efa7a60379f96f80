-- What stands in a tree stands in another that agrees in its files.
use Rattle.std.proofs.Common.{◌≡◌, ℕ, List, [], ◌∷◌, true, not, refl, sym, ◌∙◌, ap, subst, inl, inr}
use Rattle.std.specs.List.{AllByRecursion}
use Rattle.hgs_files.specs.Tree.{Tree, bytes_at}
use Rattle.hgs_index.specs.Revision.{Revision}
use Rattle.hgs_index.specs.Either.{HoldsEither}
use Rattle.hgs_index.specs.Inline.{is_inline}
use Rattle.hgs_marks.specs.Bookmarks.{mark_lines}
use Rattle.hgs_marks.specs.Dirstate.{read_dirstate}
use Rattle.hgs_model.specs.History.{history}
use Rattle.hgs_model.specs.Repo.{Changeset, Repo}
use Rattle.hgs_path.specs.declared.name.Ext.{Ext}
use Rattle.hgs_path.specs.declared.name.Ext.TheVariants.{I, D}
use Rattle.hgs_path.specs.ListedNames.{is_listed, names_of}
pub use Rattle.hgs_path.specs.Theorems.ReadNamesLemmas.{names-listed}
use Rattle.hgs_path.specs.StoreName.{store_name}
use Rattle.hgs_phases.specs.Roots.{read_roots}
use Rattle.hgs_stands.specs.Places.{fncache_path, changelog_index, changelog_data, manifest_index, manifest_data}
use Rattle.hgs_stands.specs.Same.{SameAt, SameRevlogs, SameList, SameFiles}
use Rattle.hgs_stands.specs.Stands.{HoldsAt, HoldsChangesets, IsUsedName, ListsFilelogs, Stands, has_file}
use Rattle.hgs_stands.specs.Theorems.Below.{NameLaws}
use Rattle.hgs_stands.specs.Theorems.Lower as lower

pub holds-stays : (t u : Tree) (index data_path : List ℕ) (revisions : List Revision) → SameAt t u index → SameAt t u data_path → HoldsAt t index data_path revisions → HoldsAt u index data_path revisions
holds-stays t u index data_path revisions i d h = subst (λ x. HoldsEither x (bytes_at u data_path) revisions) (sym i) (subst (λ x. HoldsEither (bytes_at t index) x revisions) (sym d) h)

pub revlogs-stay : (t u : Tree) (changesets : List Changeset) → SameRevlogs t u changesets → HoldsChangesets t changesets → HoldsChangesets u changesets
revlogs-stay t u changesets same h = record {
  changelog = holds-stays t u changelog_index changelog_data (history changesets).changelog same.changelog same.changelog_chunks h.changelog;
  manifest = holds-stays t u manifest_index manifest_data (history changesets).manifest same.manifest same.manifest_chunks h.manifest;
  filelogs = λ path used. holds-stays t u (store_name path I) (store_name path D) ((history changesets).filelog path) (same.filelogs path I used) (same.filelogs path D used) (h.filelogs path used);
  names = h.names;
}

-- ---- the list

used-stays : (t u : Tree) (changesets : List Changeset) (names : List (List ℕ)) → SameList t u → AllByRecursion (λ name. is_listed name ≡ true) names → AllByRecursion (IsUsedName t changesets) names → AllByRecursion (IsUsedName u changesets) names
used-stays t u changesets [] same listed used = tt
used-stays t u changesets (name ∷ names) same listed used = (by used.0, used-stays t u changesets names same listed.1 used.1)
  where
    by : IsUsedName t changesets name → IsUsedName u changesets name
    by (inl e) = inl (same.empty name listed.0 e)
    by (inr owner) = inr owner

-- the files of a filelog are the same where its index is
pub has-stays : (t u : Tree) (path : List ℕ) (ext : Ext) → SameAt t u (store_name path I) → has_file u path ext ≡ has_file t path ext
has-stays t u path I same = refl
has-stays t u path D same = ap (λ x. not (is_inline x)) same

pub list-goes-on : (names : NameLaws) (t u : Tree) (changesets : List Changeset) → SameRevlogs t u changesets → SameList t u → ListsFilelogs t changesets → ListsFilelogs u changesets
list-goes-on names t u changesets logs same h = record {
  names = h.names;
  text = ap names_of same.text ∙ h.text;
  listed = λ path ext used has. h.listed path ext used (sym (has-stays t u path ext (logs.filelogs path I used)) ∙ has);
  used = used-stays t u changesets h.names same (names.read (bytes_at t fncache_path) h.names h.text) h.used;
}

-- ---- the whole

pub stands-on : (names : NameLaws) (t u : Tree) (r : Repo) → SameFiles t u r → Stands t r → Stands u r
stands-on names t u r same s = record {
  repository = s.repository;
  requires = record { text = s.requires.text; there = same.requires ∙ s.requires.there; known = s.requires.known; whole = s.requires.whole };
  revlogs = revlogs-stay t u r.changesets same.revlogs s.revlogs;
  fncache = list-goes-on names t u r.changesets same.revlogs same.list s.fncache;
  phases = record { roots = s.phases.roots; text = ap read_roots same.roots ∙ s.phases.text; known = s.phases.known; phases = s.phases.phases };
  bookmarks = record { lines = s.bookmarks.lines; text = ap mark_lines same.bookmarks ∙ s.bookmarks.text; known = s.bookmarks.known; marks = s.bookmarks.marks };
  dirstate = record { dirstate = s.dirstate.dirstate; text = ap read_dirstate same.dirstate ∙ s.dirstate.text; first = s.dirstate.first; second = s.dirstate.second; paths = s.dirstate.paths };
  no_journal = same.no_journal;
}

pub list-stays : (t u : Tree) (changesets : List Changeset) → SameRevlogs t u changesets → SameList t u → ListsFilelogs t changesets → ListsFilelogs u changesets
list-stays = list-goes-on lower.file_names

pub stands-stays : (t u : Tree) (r : Repo) → SameFiles t u r → Stands t r → Stands u r
stands-stays = stands-on lower.file_names
