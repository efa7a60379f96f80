-- What is read of a store before its filelogs, and what is found of it.
use Rattle.std.specs.Prelude.{◌≡◌, ◌==◌, ℕ, List, [], true, false, length, Option, Some, map, unwrap_or, is_some, slice_get}
use Rattle.hgs_files.specs.Tree.{Tree}
use Rattle.hgs_index.specs.Revision.{Revision}
use Rattle.hgs_stands.specs.Places.{changelog_index, changelog_data, manifest_index, manifest_data}
use Rattle.hgs_findings.specs.Namings.{is_unneeded, is_misplaced, is_wrongly_made}
use Rattle.hgs_findings.specs.Reading.{Log, sight_of, has_index_rest, has_data_rest, index_in, data_in, reading, the_changelog, the_manifest}
use Rattle.hgs_findings.specs.Regular.{is_change, is_manifest}
use Rattle.hgs_findings.specs.Sight.{Seen, seen, manifest_namings}
use Rattle.hgs_judge.specs.Changesets.{changeset_as}
use Rattle.hgs_judge.specs.Read.{IsRead}
use Rattle.hgs_judge.specs.Trees.{rows_read}
use Rattle.hgs_report.specs.declared.store.ReadLog.{ReadLog}
use Rattle.hgs_report.specs.declared.store.Store.{Store}

-- What was read of a revlog in a tree, of its bytes as a separate one has them.
pub record IsLogOf (which : Log) (log : ReadLog) (t : Tree) : Type 0 where
  pub bytes : unwrap_or log.chunks [] ≡ data_in t which
  pub read : IsRead (index_in t which) (data_in t which) log.reading.log.entries log.reading.broken
  pub index_rest : log.index_rest ≡ has_index_rest (index_in t which) (data_in t which)
  pub data_rest : log.data_rest ≡ has_data_rest (index_in t which) (data_in t which)

-- What was read of a store that is this tree: both revlogs, what can be read of each changeset, and the rows of each manifest.
pub record IsStoreOf (s : Store) (t : Tree) : Type 0 where
  pub changelog : IsLogOf the_changelog s.changelog t
  pub manifest : IsLogOf the_manifest s.manifest t
  pub changesets : s.changesets.items ≡ map changeset_as (seen (sight_of t))
  pub trees : s.trees.items ≡ map rows_read (sight_of t).manifest

-- the findings of the changelog and of the manifest, the lists of changed files aside
pub data IsOfStore (t : Tree) : List ℕ → Option ℕ → ℕ → Type 0 where
  changelog_fault : (reading t the_changelog).broken ≡ true → IsOfStore t changelog_index (Some (length (reading t the_changelog).revisions)) 3
  manifest_fault : (reading t the_manifest).broken ≡ true → IsOfStore t manifest_index (Some (length (reading t the_manifest).revisions)) 3
  bad_changeset : (rev : ℕ) (r : Revision) → slice_get (sight_of t).changelog rev ≡ Some r → is_change r.text ≡ false → IsOfStore t changelog_index (Some rev) 4
  bad_manifest : (rev : ℕ) (r : Revision) → slice_get (sight_of t).manifest rev ≡ Some r → is_manifest r.text ≡ false → IsOfStore t manifest_index (Some rev) 4
  no_manifest : (rev : ℕ) (c : Seen) → slice_get (seen (sight_of t)) rev ≡ Some c → is_some c.change ≡ true → is_some c.manifest ≡ false → IsOfStore t manifest_index (Some rev) 5
  other_link : (rev : ℕ) (r : Revision) → slice_get (sight_of t).changelog rev ≡ Some r → (r.link == rev) ≡ false → IsOfStore t changelog_index (Some rev) 7
  unneeded : (rev : ℕ) (r : Revision) → slice_get (sight_of t).manifest rev ≡ Some r → is_unneeded (manifest_namings (sight_of t)) rev ≡ true → IsOfStore t manifest_index (Some rev) 6
  misplaced : (rev : ℕ) (r : Revision) → slice_get (sight_of t).manifest rev ≡ Some r → is_misplaced (manifest_namings (sight_of t)) rev r.link ≡ true → IsOfStore t manifest_index (Some rev) 7
  wrongly_made : (rev : ℕ) (r : Revision) → slice_get (sight_of t).manifest rev ≡ Some r → is_wrongly_made (manifest_namings (sight_of t)) rev r.parents ≡ true → IsOfStore t manifest_index (Some rev) 8
  changelog_index_rest : has_index_rest (index_in t the_changelog) (data_in t the_changelog) ≡ true → IsOfStore t changelog_index (Some (length (reading t the_changelog).revisions)) 17
  changelog_data_rest : has_data_rest (index_in t the_changelog) (data_in t the_changelog) ≡ true → IsOfStore t changelog_data (Some (length (reading t the_changelog).revisions)) 17
  manifest_index_rest : has_index_rest (index_in t the_manifest) (data_in t the_manifest) ≡ true → IsOfStore t manifest_index (Some (length (reading t the_manifest).revisions)) 17
  manifest_data_rest : has_data_rest (index_in t the_manifest) (data_in t the_manifest) ≡ true → IsOfStore t manifest_data (Some (length (reading t the_manifest).revisions)) 17
