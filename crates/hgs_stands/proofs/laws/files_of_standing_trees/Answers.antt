use Rattle.hgs_stands.specs.Theorems.FilesLemmas.{files-apart, name-used, path-listed, stands-closed}
use Rattle.hgs_stands.proofs.laws.files_of_standing_trees.Goals as goal

pub returns : goal.returns
returns c = record { apart = files-apart; used = name-used; listed = path-listed; not_open = stands-closed }
