use Rattle.hgs_ops.proofs.SampleLemmas.{delete-accepted, delete-leads, publish-accepted, publish-leads, set-accepted, set-leads, set-valid}
use Rattle.hgs_ops.proofs.examples.commands_on_it.Goals as goal

pub returns : goal.returns
returns c = record {
  valid = (set-valid, tt, tt);
  accepted = (set-accepted, publish-accepted, delete-accepted);
  leads = λ who. (set-leads who, publish-leads who, delete-leads who);
}
