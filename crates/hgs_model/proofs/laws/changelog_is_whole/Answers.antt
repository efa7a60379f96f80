use Rattle.hgs_model.specs.Theorems.HistoryLemmas.{length-changelog}
use Rattle.hgs_model.specs.Theorems.BeforeLemmas.{changelog-parents}
use Rattle.hgs_model.proofs.laws.changelog_is_whole.Goals as goal

pub returns-clause-count : goal.returns-clause-count
returns-clause-count c = length-changelog

pub returns-clause-parents : goal.returns-clause-parents
returns-clause-parents c = changelog-parents
