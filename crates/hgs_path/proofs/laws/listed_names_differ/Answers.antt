use Rattle.hgs_path.specs.Theorems.FncacheLemmas.{listed-once}
use Rattle.hgs_path.proofs.laws.listed_names_differ.Goals as goal

pub returns : goal.returns
returns c = listed-once
