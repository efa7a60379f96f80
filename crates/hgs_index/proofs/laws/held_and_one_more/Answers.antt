use Rattle.hgs_index.specs.Theorems.RevlogFrontLemmas.{held-one-more}
use Rattle.hgs_index.proofs.laws.held_and_one_more.Goals as goal

pub returns : goal.returns
returns c index data_bytes revisions new header held separate text first second fits fresh =
    (held-one-more index data_bytes revisions new header held separate text first second fits fresh).0
