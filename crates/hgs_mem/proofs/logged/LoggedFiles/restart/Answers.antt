use Rattle.std.proofs.Common.{◌∙◌}
use Rattle.hgs_mem.proofs.logged.LoggedFiles.restart.Goals as goal

pub returns-clause-start : goal.returns-clause-start
returns-clause-start c = c.from_map.ensures.start ∙ c.args.self.kept
