use Rattle.hgs_reader.proofs.InlineHeldLemmas.{ends-inline}
use Rattle.hgs_reader.proofs.laws.inline_text_at_moments.Goals as goal

pub returns : goal.returns
returns c = ends-inline c.inline_index.ensures.places
