use Rattle.hgs_model.specs.Theorems.ListedLemmas.{node_at-front, slice_get-front, text_at-front, there}
use Rattle.hgs_model.proofs.history_laws.revisions_stay.Goals as goal

pub returns-clause-there : goal.returns-clause-there
returns-clause-there c = there

pub returns-clause-revision : goal.returns-clause-revision
returns-clause-revision c front revisions rev r p e = slice_get-front front revisions p rev r e

pub returns-clause-text : goal.returns-clause-text
returns-clause-text c front revisions rev p lt = text_at-front front revisions p rev lt

pub returns-clause-node : goal.returns-clause-node
returns-clause-node c front revisions rev p lt = node_at-front front revisions p rev lt
