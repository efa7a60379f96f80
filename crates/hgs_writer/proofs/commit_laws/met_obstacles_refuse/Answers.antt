use Rattle.hgs_writer.proofs.MetLemmas.{all-none}
use Rattle.hgs_writer.proofs.commit_laws.met_obstacles_refuse.Goals as goal

pub returns : goal.returns
returns c = all-none
