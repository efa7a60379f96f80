use Rattle.hgs_steps.proofs.CommitLemmas.{commit-limit, dirstate-replaced, marks-replaced, roots-where}
use Rattle.hgs_steps.proofs.ViewLemmas.{holds-is}
use Rattle.hgs_steps.proofs.laws.files_of_commits_agree.Goals as goal

pub returns-clause-roots : goal.returns-clause-roots
returns-clause-roots c = λ t r next l phases entries s h. roots-where c.laws_below.ensures t r next l phases entries s h (holds-is c.laws_below.ensures t r l s h)

pub returns-clause-bookmarks : goal.returns-clause-bookmarks
returns-clause-bookmarks c = λ t r next l name rev s h. marks-replaced c.laws_below.ensures t r next l name rev s h (holds-is c.laws_below.ensures t r l s h)

pub returns-clause-limit : goal.returns-clause-limit
returns-clause-limit c = λ t r next l name node rev s h. commit-limit c.laws_below.ensures r next l name node rev (holds-is c.laws_below.ensures t r l s h)

pub returns-clause-dirstate : goal.returns-clause-dirstate
returns-clause-dirstate c = dirstate-replaced
