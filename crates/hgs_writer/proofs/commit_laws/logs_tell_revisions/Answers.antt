use Rattle.hgs_writer.proofs.TextLemmas.{node-of, place-of, text-in}
use Rattle.hgs_writer.proofs.commit_laws.logs_tell_revisions.Goals as goal

pub returns-clause-place : goal.returns-clause-place
returns-clause-place c = place-of

pub returns-clause-node : goal.returns-clause-node
returns-clause-node c = node-of

pub returns-clause-text : goal.returns-clause-text
returns-clause-text c = text-in
