use Rattle.hgs_files.specs.Reads.{Rose}
use Rattle.hgs_top.proofs.VerifiedLemmas.{told-whole}
use Rattle.hgs_top.proofs.laws.reports_are_told_whole.Goals as goal

pub returns : goal.returns
returns c = λ faults_old faults_new. told-whole (Rose faults_old faults_new)
