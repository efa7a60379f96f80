-- What contracts see of a changeset.
use Rattle.hgs_index.specs.ChangeText.{Change, When}
use Rattle.hgs_changelog.specs.declared.date.When.{When as CodeWhen}
use Rattle.hgs_changelog.specs.declared.text.ChangeText.{ChangeText}

abbrev pub view_when : CodeWhen → When
view_when w = record { seconds = w.seconds; offset = w.offset; extras = w.extras }

abbrev pub view_change : ChangeText → Change
view_change c = record {
  manifest = c.manifest.0;
  user = c.user;
  seconds = c.seconds;
  offset = c.offset;
  extras = c.extras;
  files = c.files;
  description = c.description;
}
