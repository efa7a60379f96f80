-- The files of a store have what was committed.
use Rattle.std.proofs.Common.{◌≡◌, ℕ, ◌<◌, List, [], ◌∷◌, Bool, true, length, refl, sym, ◌∙◌, ap}
use Rattle.std.specs.Prelude.{Some, slice_get, slice_index_or}
use Rattle.std.specs.List.{AllByRecursion, AllZip}
use Rattle.hgs_files.specs.Tree.{Tree}
use Rattle.hgs_index.specs.Manifest.{Row, manifest_text}
use Rattle.hgs_index.specs.Node.{null_node}
use Rattle.hgs_index.specs.Revision.{Revision}
use Rattle.hgs_model.specs.Held.{IsPlacedIn}
use Rattle.hgs_model.specs.Repo.{Repo, TreeFile, Changeset, file_text}
use Rattle.hgs_model.specs.History.{history, uses, changeset_nodes, node_at, text_at}
use Rattle.hgs_path.specs.declared.name.Ext.TheVariants.{I, D}
use Rattle.hgs_path.specs.StoreName.{store_name}
use Rattle.hgs_stands.specs.Committed.{HasRevision, IsRowOf, IsCommitted}
use Rattle.hgs_stands.specs.Places.{manifest_index, manifest_data}
use Rattle.hgs_stands.specs.Stands.{HoldsAt, Stands}
pub use Rattle.hgs_model.specs.Theorems.UsedLemmas.{used-paths}
use Rattle.hgs_stands.specs.Theorems.Below.{HistoryLaws}

-- ---- revlogs have the revisions

revision-of : (laws : HistoryLaws) (t : Tree) (index data_path : List ℕ) (revisions : List Revision) (rev : ℕ) (node text : List ℕ) → HoldsAt t index data_path revisions → rev < length revisions → text_at revisions rev ≡ text → node_at revisions rev ≡ node
    → HasRevision t index data_path rev node text
revision-of laws t index data_path revisions rev node text holds lt is at =
    let r = laws.there revisions rev lt in
    record { revisions = revisions; held = holds; revision = r.0; there = r.1; node_is = at; text_is = r.2 ∙ is }

row-of : (laws : HistoryLaws) (t : Tree) (logs : List ℕ → List Revision) (f : TreeFile) (row : Row) → HoldsAt t (store_name f.path I) (store_name f.path D) (logs f.path) → IsPlacedIn logs f row → IsRowOf t f row
row-of laws t logs f row holds is = record {
  path = ap (λ (x : Row). x.path) is.row_is;
  flag = ap (λ (x : Row). x.flag) is.row_is;
  rev = is.rev;
  text = revision-of laws t (store_name f.path I) (store_name f.path D) (logs f.path) is.rev row.node (file_text f) holds is.below is.text (sym (ap (λ (x : Row). x.node) is.row_is));
}

rows-of : (laws : HistoryLaws) (t : Tree) (logs : List ℕ → List Revision) (uses_path : List ℕ → Bool) → ((path : List ℕ) → uses_path path ≡ true → HoldsAt t (store_name path I) (store_name path D) (logs path))
    → (tree : List TreeFile) (rows : List Row) → AllByRecursion (λ (f : TreeFile). uses_path f.path ≡ true) tree → AllZip (IsPlacedIn logs) tree rows → AllZip (IsRowOf t) tree rows
rows-of laws t logs uses_path holds [] [] used all = tt
rows-of laws t logs uses_path holds [] (row ∷ rows) used all = absurd all
rows-of laws t logs uses_path holds (f ∷ tree) [] used all = absurd all
rows-of laws t logs uses_path holds (f ∷ tree) (row ∷ rows) used all = (row-of laws t logs f row (holds f.path used.0) all.0, rows-of laws t logs uses_path holds tree rows used.1 all.1)

-- the files have what was committed
pub committed : (laws : HistoryLaws) (t : Tree) (r : Repo) (rev : ℕ) (c : Changeset) → Stands t r → slice_get r.changesets rev ≡ Some c → IsCommitted t rev (slice_index_or (changeset_nodes r.changesets) rev null_node) c
committed laws t r rev c stands found =
    let is = laws.held r.changesets stands.repository.changesets rev c found in
    record {
      change = is.change;
      in_form = is.in_form;
      tells = is.tells;
      changelog = record { revisions = (history r.changesets).changelog; held = stands.revlogs.changelog; revision = is.revision; there = is.there; node_is = refl; text_is = is.text_is };
      parents = is.parents_are;
      rows = is.rows;
      ascend = is.ascend;
      manifest_rev = is.manifest_rev;
      manifest = revision-of laws t manifest_index manifest_data (history r.changesets).manifest is.manifest_rev is.change.manifest (manifest_text is.rows) stands.revlogs.manifest is.below is.manifest_text_is (sym is.node_is);
      files = rows-of laws t (history r.changesets).filelog (uses r.changesets) stands.revlogs.filelogs c.tree is.rows (laws.used r.changesets rev c found) is.files;
    }
