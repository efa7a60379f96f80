use Rattle.hgs_ops.proofs.SampleLemmas.{first-laid, import-accepted, import-leads, import-ready, import-valid}
use Rattle.hgs_ops.proofs.examples.first_import.Goals as goal

pub returns : goal.returns
returns c = record { valid = import-valid; accepted = import-accepted; ready = import-ready; laid = first-laid; leads = import-leads }
