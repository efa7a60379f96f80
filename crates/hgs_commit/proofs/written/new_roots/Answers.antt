use Rattle.hgs_steps.specs.Steps.{phases_text}
use Rattle.hgs_commit.proofs.RootLemmas.{roots-answer}
use Rattle.hgs_commit.proofs.written.new_roots.Goals as goal

pub returns-clause-file : goal.returns-clause-file
returns-clause-file c = roots-answer c.args.loaded.now (phases_text c.in_ok-phases.phases c.in_ok-changelog.changelog.entries) c.replace_roots.result c.replace_roots.ensures
