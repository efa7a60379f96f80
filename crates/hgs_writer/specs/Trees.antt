-- The files of a commit's tree, as the repository's next changeset has them.
use Rattle.std.specs.Prelude.{◌≡◌, ◌<◌, ◌≤◌, ℕ, List, [], length, IfSome}
use Rattle.hgs_model.specs.History.{History, changed_paths, changeset_revision, filelog_with, is_changed, manifest_revision, manifest_with, node_at, rev_of_file, row_of, rows_of, with_changeset}
use Rattle.hgs_model.specs.Repo.{Changeset, TreeFile}
use Rattle.hgs_index.specs.Revision.{Parents, number_of, standing as standing_in}
use Rattle.hgs_ops.specs.Unhindered.{AreNewRevisions}
use Rattle.hgs_revlog.specs.Load.{most_revisions}
use Rattle.hgs_steps.specs.declared.loaded.Loaded.{Loaded}
use Rattle.hgs_commit.specs.Changeset.{of_changelog, of_manifest}
use Rattle.hgs_commit.specs.Commit.{OfTexts}
use Rattle.hgs_commit.specs.Obstacles.{Obstacle}
use Rattle.hgs_commit.specs.Files.{OfFile}
use Rattle.hgs_commit.specs.Trees.{OfGrown}
use Rattle.hgs_writer.specs.NewTexts.{growth_by}

-- The row is that of the file in the changeset, and it is changed where the changeset changes it.
pub record IsFileOf (h : History) (c : Changeset) (g : TreeFile) (x : OfFile) : Type 0 where
  pub row : x.row ≡ row_of (filelog_with h c) (record { path = g.path; flag = g.flag; rev = rev_of_file h c g })
  pub changed : x.changed ≡ is_changed h c g

-- The rows and the changed paths are those of the changeset, and the manifest's parents are.
pub record IsTreeOf (h : History) (c : Changeset) (x : OfGrown × Parents) : Type 0 where
  pub rows : x.0.rows ≡ rows_of h c
  pub changed : x.0.changed ≡ changed_paths h c
  pub parents : x.1 ≡ (manifest_revision h c).parents

-- Manifest and changeset become what the lists of their revisions have of the changeset: its node, the changeset that it is
-- already, and where nothing keeps them from being written what is appended, and both lists are within the limit and have no
-- node twice.
pub record AreTextsOf (l : Loaded) (h : History) (c : Changeset) (x : OfTexts × List Obstacle) : Type 0 where
  pub node : x.0.changeset.node ≡ node_at (with_changeset h c).changelog (number_of h.changelog (changeset_revision h c).text c.parents)
  pub standing : x.0.changeset.standing ≡ standing_in h.changelog (changeset_revision h c).text c.parents
  pub changeset : x.1 ≡ [] → x.0.changeset.growth ≡ growth_by (of_changelog l.changelog) (changeset_revision h c) (standing_in h.changelog (changeset_revision h c).text c.parents)
  pub manifest : x.1 ≡ [] → x.0.manifest ≡ growth_by (of_manifest l.manifest) (manifest_revision h c) (standing_in h.manifest (manifest_revision h c).text (manifest_revision h c).parents)
  pub changesets_fresh : x.1 ≡ [] → AreNewRevisions h.changelog (with_changeset h c).changelog
  pub changesets_few : x.1 ≡ [] → length (with_changeset h c).changelog ≤ most_revisions
  pub manifests_fresh : x.1 ≡ [] → AreNewRevisions h.manifest (manifest_with h c)

-- both parents, where they are there, are below this number
pub record AreBelow (n : ℕ) (parents : Parents) : Type 0 where
  pub first : IfSome parents.0 (λ rev. rev < n)
  pub second : IfSome parents.1 (λ rev. rev < n)
