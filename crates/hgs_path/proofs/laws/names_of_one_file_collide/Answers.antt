use Rattle.hgs_path.proofs.OneFileLemmas.{one-file}
use Rattle.hgs_path.proofs.laws.names_of_one_file_collide.Goals as goal

pub returns : goal.returns
returns c = one-file
