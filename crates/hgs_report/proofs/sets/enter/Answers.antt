use Rattle.std.proofs.Common.{refl, ◌∙◌, ap}
use Rattle.hgs_report.specs.Lines.{has_key}
use Rattle.hgs_report.proofs.TrackedLemmas.{key-more}
use Rattle.hgs_report.proofs.sets.enter.Goals as goal

pub returns-clause-keys : goal.returns-clause-keys
returns-clause-keys c = λ path. ap (λ keys. has_key keys path) c.in_ok-is_new.ensures.keys ∙ key-more _ (λ a b. refl) c.args.set.now.keys c.args.name path
