use Rattle.hgs_path.specs.Theorems.ReadableLemmas.{names-once}
use Rattle.hgs_path.proofs.laws.plain_names_differ.Goals as goal

pub returns : goal.returns
returns c = names-once
