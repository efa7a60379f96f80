use Rattle.hgs_shown.proofs.AnswerLemmas.{opens, count-is, line-is, heads-are, parents-are, bookmarks-are, names-are, phase-is, files-are, body-is}
use Rattle.hgs_shown.proofs.answers.answers_of_repository.Goals as goal

pub returns-clause-opens : goal.returns-clause-opens
returns-clause-opens c = opens c.laws_below.ensures

pub returns-clause-count : goal.returns-clause-count
returns-clause-count c = count-is c.laws_below.ensures

pub returns-clause-line : goal.returns-clause-line
returns-clause-line c = line-is c.laws_below.ensures

pub returns-clause-heads : goal.returns-clause-heads
returns-clause-heads c = heads-are c.laws_below.ensures

pub returns-clause-parents : goal.returns-clause-parents
returns-clause-parents c = parents-are c.laws_below.ensures

pub returns-clause-bookmarks : goal.returns-clause-bookmarks
returns-clause-bookmarks c = bookmarks-are c.laws_below.ensures

pub returns-clause-names : goal.returns-clause-names
returns-clause-names c = names-are c.laws_below.ensures

pub returns-clause-phase : goal.returns-clause-phase
returns-clause-phase c = phase-is c.laws_below.ensures

pub returns-clause-files : goal.returns-clause-files
returns-clause-files c = files-are c.laws_below.ensures

pub returns-clause-body : goal.returns-clause-body
returns-clause-body c = body-is c.laws_below.ensures
