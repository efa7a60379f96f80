-- A tree that stands for a repository shows it.
use Rattle.std.proofs.Common.{List, [], ◌∙◌, ap, arith}
use Rattle.std.specs.Prelude.{Ok}
use Rattle.hgs_files.specs.Tree.{Tree, bytes_at}
use Rattle.hgs_marks.specs.Bookmarks.{Mark, all_with}
use Rattle.hgs_model.specs.History.{EachChangeset, no_history, history}
use Rattle.hgs_model.specs.IsRepo.{IsNextChangeset}
use Rattle.hgs_model.specs.Repo.{Changeset, Repo}
use Rattle.hgs_path.specs.declared.name.Ext.TheVariants.{I, D}
use Rattle.hgs_path.specs.StoreName.{store_name}
use Rattle.hgs_stands.specs.Places.{changelog_index, changelog_data, manifest_index, manifest_data}
use Rattle.hgs_stands.specs.Shows.{BeginsChangesets, Shows}
use Rattle.hgs_stands.specs.Stands.{HoldsChangesets, Stands}
use Rattle.hgs_stands.specs.Theorems.Below.{HistoryLaws, TextLaws}
use Rattle.hgs_stands.specs.Theorems.Lower as lower

pub holds-begins : (texts : TextLaws) (laws : HistoryLaws) (t : Tree) (changesets : List Changeset) → EachChangeset IsNextChangeset no_history changesets → HoldsChangesets t changesets → BeginsChangesets t changesets
holds-begins texts laws t changesets each h = record {
  whole = (let n = texts.either_length (bytes_at t changelog_index) (bytes_at t changelog_data) (history changesets).changelog h.changelog in let m = laws.count changesets each in omega (arith, n, m));
  changelog = texts.either_begins (bytes_at t changelog_index) (bytes_at t changelog_data) (history changesets).changelog h.changelog;
  manifest = texts.either_begins (bytes_at t manifest_index) (bytes_at t manifest_data) (history changesets).manifest h.manifest;
  filelogs = λ path used. texts.either_begins (bytes_at t (store_name path I)) (bytes_at t (store_name path D)) ((history changesets).filelog path) (h.filelogs path used);
}

pub shows-itself : (texts : TextLaws) (laws : HistoryLaws) (t : Tree) (r : Repo) → Stands t r → Shows t r r r
shows-itself texts laws t r s = record {
  requires = s.requires;
  revlogs = holds-begins texts laws t r.changesets s.repository.changesets s.revlogs;
  phases = record { roots = s.phases.roots; text = s.phases.text; phases = s.phases.phases };
  bookmarks = ap (all_with []) s.bookmarks.text ∙ ap (λ (x : List Mark). Ok x) s.bookmarks.marks;
  working = record { dirstate = s.dirstate.dirstate; text = s.dirstate.text; first = s.dirstate.first; second = s.dirstate.second };
}

pub stands-shows : (t : Tree) (r : Repo) → Stands t r → Shows t r r r
stands-shows = shows-itself lower.texts lower.histories
