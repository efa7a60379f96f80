-- What a set is asked of, where a repository was loaded.
use Rattle.std.specs.Prelude.{map}
use Rattle.hgs_load.specs.View.{View}
use Rattle.hgs_model.specs.Phase.{phase_number}
use Rattle.hgs_phases.specs.Phases.{history_of}
use Rattle.hgs_reader.specs.Names.{mark_named, named}
use Rattle.hgs_revlog.specs.Log.{nodes_of}
use Rattle.hgs_revset.specs.Members.{Story}

-- what a view tells
abbrev pub story_of : View → Story
story_of v = record {
  parents = history_of v.changelog.entries;
  phases = map phase_number v.phases;
  named = named v;
  marked = mark_named v.changelog.entries v.bookmarks;
  nodes = nodes_of v.changelog.entries;
}
