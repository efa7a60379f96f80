use Rattle.hgs_path.proofs.LengthLemmas.{short-one}
use Rattle.hgs_path.proofs.laws.short_paths_have_plain_names.Goals as goal

pub returns : goal.returns
returns c = short-one
