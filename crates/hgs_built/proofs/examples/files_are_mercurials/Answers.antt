use Rattle.hgs_built.proofs.SampleLemmas.{files-same}
use Rattle.hgs_built.proofs.examples.files_are_mercurials.Goals as goal

pub returns : goal.returns
returns c = files-same
