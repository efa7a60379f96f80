use Rattle.hgs_revlog.specs.declared.fault.Tail.TheVariants.{Refuse}
use Rattle.hgs_writer.proofs.commit_laws.laws_below.Goals as goal

pub returns : goal.returns
returns c = record {
  held = c.loaded_entries_are_held.ensures;
  entries = λ index log e. c.loaded_entries.ensures.entries Refuse index log e;
  loads = c.whole_index.ensures.loads;
  whole = c.indexes_are_read_whole.ensures.loads;
  plain = c.either_form.ensures.separate;
  places = c.inline_index.ensures.places;
  entry_nodes = c.entries_of_revisions.ensures.nodes;
  entry_parents = c.entries_of_revisions.ensures.parents;
  entry_count = c.entries_of_revisions.ensures.count;
  index_length = c.held_index_length.ensures;
  empty = c.empty_entries.ensures;
  unused = c.used_paths_have_revisions.ensures.unused;
  names = λ p q e f same. (c.listed_names_differ.ensures p q e f same).0;
  kinds = c.filelogs_have_their_own_names.ensures.kinds;
  file = c.listed_names_name_files.ensures.file;
}
