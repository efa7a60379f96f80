use Rattle.hgs_stands.specs.Samples.{two_drafts, two_drafts_files}
use Rattle.hgs_built.proofs.SampleLemmas.{empty-stored}
use Rattle.hgs_built.proofs.examples.samples_can_be_stored.Goals as goal

pub returns : goal.returns
returns c = record { two_drafts = c.repositories_have_trees.ensures.only two_drafts_files two_drafts c.two_drafts_stand.ensures.stands; empty = empty-stored }
