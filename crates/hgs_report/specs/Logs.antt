-- The findings of the changelog and of the manifest, as lists.
use Rattle.std.specs.Prelude.{ℕ, not, ◌==◌, ◌&&◌, List, ◌++◌, Bool, true, false, length, Option, is_some, is_none}
use Rattle.hgs_index.specs.declared.entry.Entry.{Entry}
use Rattle.hgs_index.specs.Manifest.{Row}
use Rattle.hgs_stands.specs.Places.{changelog_data, changelog_index, manifest_data, manifest_index}
use Rattle.hgs_findings.specs.Findings.{Finding}
use Rattle.hgs_findings.specs.Regular.{are_tracked}
use Rattle.hgs_judge.specs.declared.changesets.Changeset.{Changeset}
use Rattle.hgs_judge.specs.declared.changesets.Tree.{Tree}
use Rattle.hgs_judge.specs.declared.changesets.Tree.TheVariants.{Unknown, Empty, Manifest}
use Rattle.hgs_judge.specs.declared.kinds.Kinds.{Kinds}
use Rattle.hgs_judge.specs.Report.{each_from, of_kinds, one_if}
use Rattle.hgs_report.specs.declared.store.ReadLog.{ReadLog}
use Rattle.hgs_report.specs.declared.store.Store.{Store}

-- the fault of a revlog of so many revisions, and what stands behind its entries and its chunks
abbrev pub of_log : List ℕ → List ℕ → ℕ → Bool → Bool → Bool → List Finding
of_log index chunks count broken index_rest data_rest = one_if broken index count 3 ++ (one_if index_rest index count 17 ++ one_if data_rest chunks count 17)

abbrev pub of_read_log : List ℕ → List ℕ → ReadLog → List Finding
of_read_log index chunks log = of_log index chunks (length log.reading.log.entries) log.reading.broken log.index_rest log.data_rest

abbrev pub names_manifest : Tree → Bool
names_manifest Unknown = false
names_manifest Empty = false
names_manifest (Manifest rev) = true

abbrev pub lacks_manifest : Changeset → Bool
lacks_manifest c = is_some c.files && not (names_manifest c.tree)

abbrev pub of_changeset : List ℕ → List ℕ → ℕ → Changeset → List Finding
of_changeset changelog manifest rev c = one_if (is_none c.files) changelog rev 4 ++ one_if (lacks_manifest c) manifest rev 5

abbrev pub of_link : List ℕ → ℕ → Entry → List Finding
of_link changelog rev e = one_if (not (e.link == rev)) changelog rev 7

abbrev pub of_tree : List ℕ → ℕ → Option (List Row) → List Finding
of_tree manifest rev tree = one_if (not (are_tracked tree)) manifest rev 4

-- all of them, of which these are the revisions of the manifest
abbrev pub of_store : Store → List Kinds → List Finding
of_store s kinds =
    of_read_log changelog_index changelog_data s.changelog
    ++ (of_read_log manifest_index manifest_data s.manifest
    ++ (each_from (of_changeset changelog_index manifest_index) 0 s.changesets.items
    ++ (each_from (of_link changelog_index) 0 s.changelog.reading.log.entries
    ++ (each_from (of_tree manifest_index) 0 s.trees.items
    ++ each_from (of_kinds manifest_index) 0 kinds))))
