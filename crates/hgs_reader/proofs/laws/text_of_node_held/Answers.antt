use Rattle.hgs_reader.proofs.InlineHeldLemmas.{either-text-held}
use Rattle.hgs_reader.proofs.laws.text_of_node_held.Goals as goal

pub returns : goal.returns
returns c = either-text-held c.inline_taken_apart.ensures.separate c.inline_taken_apart.ensures.fronts c.inline_index.ensures.places
