-- What the manifest and the changeset of a commit become.
use Rattle.std.specs.Prelude.{ℕ, List, length, Result}
use Rattle.hgs_files.specs.Tree.{Tree}
use Rattle.hgs_index.specs.ChangeText.{Change, change_text}
use Rattle.hgs_index.specs.Manifest.{Row, manifest_text}
use Rattle.hgs_index.specs.Revision.{Parents}
use Rattle.hgs_model.specs.Step.{branch_extras}
use Rattle.hgs_model.specs.declared.command.NewChange.{NewChange}
use Rattle.hgs_load.specs.declared.answer.ReadAnswer.{ReadAnswer}
use Rattle.hgs_reader.specs.Contents.{manifest_index, manifest_data}
use Rattle.hgs_load.specs.View.{changelog_index, changelog_data}
use Rattle.hgs_revlog.specs.Log.{Log}
use Rattle.hgs_commit.specs.Obstacles.{Obstacle}
use Rattle.hgs_commit.specs.Texts.{OfLog, OfText, new_text_in}

abbrev pub of_manifest : Log → OfLog
of_manifest log = record { index = manifest_index; chunks = manifest_data; log = log }

abbrev pub of_changelog : Log → OfLog
of_changelog log = record { index = changelog_index; chunks = changelog_data; log = log }

-- the manifest of these rows
abbrev pub manifest_in : Log → List Row → Parents → ℕ → Tree → Result (OfText × List Obstacle) ReadAnswer
manifest_in log rows parents link t = new_text_in (of_manifest log) (record { text = manifest_text rows; parents = parents; link = link }) t

-- what the changeset says that has this manifest and these changed paths
abbrev pub change_of : NewChange → List ℕ → List (List ℕ) → Change
change_of c manifest changed = record {
  manifest = manifest;
  user = c.user;
  seconds = c.seconds;
  offset = c.offset;
  extras = branch_extras c.branch;
  files = changed;
  description = c.description;
}

-- the changeset, linked to itself
abbrev pub changeset_in : Log → NewChange → Parents → List ℕ → List (List ℕ) → Tree → Result (OfText × List Obstacle) ReadAnswer
changeset_in log c parents manifest changed t =
    new_text_in (of_changelog log) (record { text = change_text (change_of c manifest changed); parents = parents; link = length log.entries }) t
