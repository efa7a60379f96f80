use Rattle.hgs_revset.proofs.StoryLemmas.{has_over, known_over, text_over}
use Rattle.hgs_revset.proofs.laws.members_of_alike.Goals as goal

pub returns-clause-members : goal.returns-clause-members
returns-clause-members c = has_over

pub returns-clause-known : goal.returns-clause-known
returns-clause-known c = known_over

pub returns-clause-text : goal.returns-clause-text
returns-clause-text c = text_over
