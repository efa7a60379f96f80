use Rattle.hgs_reader.proofs.TreeLemmas.{body-held, path-lacks}
use Rattle.hgs_reader.proofs.laws.body_of_file_held.Goals as goal

pub returns : goal.returns
returns c = record { body = body-held c.text_of_node_held.ensures; unknown = path-lacks }
