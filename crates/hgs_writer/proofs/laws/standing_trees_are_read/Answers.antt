use Rattle.hgs_writer.proofs.StandingLemmas.{tree-read}
use Rattle.hgs_writer.proofs.laws.standing_trees_are_read.Goals as goal

pub returns : goal.returns
returns c = tree-read (record {
  index_length = c.held_index_length.ensures;
  short = c.indexes_are_read_whole.ensures.short;
  loads = c.whole_index.ensures.loads;
  entry_nodes = c.entries_of_revisions.ensures.nodes;
  working = c.older_parts_stay.ensures.working;
})
