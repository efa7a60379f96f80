use Rattle.hgs_judge.proofs.FoundLemmas.{found-are}
use Rattle.hgs_judge.proofs.laws.path_findings.Goals as goal

pub returns : goal.returns
returns c = found-are (c.one_path.ensures.namings, c.one_path.ensures.listed)
