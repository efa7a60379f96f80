use Rattle.hgs_findings.specs.Findings.{repo_of}
use Rattle.hgs_findings.proofs.AbsentLemmas.{absent}
use Rattle.hgs_findings.proofs.CleanLemmas.{clean}
use Rattle.hgs_findings.proofs.laws.made_of_files.Goals as goal

pub returns : goal.returns
returns c t r bytes is within = c.stands_for_one.ensures t r (repo_of t) is.stands (clean t (record { bytes = bytes; none = absent t r is within }) is.stands.requires).stands
