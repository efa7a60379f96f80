use Rattle.hgs_reader.proofs.TreeLemmas.{tree-held, files-held}
use Rattle.hgs_reader.proofs.laws.files_of_manifest_held.Goals as goal

pub returns : goal.returns
returns c = record { tree = tree-held c.text_of_node_held.ensures; files = files-held }
