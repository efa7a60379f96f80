use Rattle.hgs_index.specs.Node.{null_node}
use Rattle.hgs_index.specs.Theorems.PlaceLemmas.{among-at, place-same, position-there, not-null}
use Rattle.hgs_index.proofs.laws.nodes_have_places.Goals as goal

pub returns-clause-among : goal.returns-clause-among
returns-clause-among c known rev lt = among-at known rev null_node lt

pub returns-clause-one : goal.returns-clause-one
returns-clause-one c = place-same

pub returns-clause-first : goal.returns-clause-first
returns-clause-first c known rev different lt = position-there known rev null_node different lt

pub returns-clause-not_null : goal.returns-clause-not_null
returns-clause-not_null c known rev none lt = not-null known rev null_node none lt
