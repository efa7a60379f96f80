use Rattle.hgs_writer.proofs.LengthLemmas.{changelog_counted}
use Rattle.hgs_writer.proofs.laws.changelogs_are_counted.Goals as goal

pub returns : goal.returns
returns c = λ t l entries separate is. changelog_counted t l separate entries.few is
