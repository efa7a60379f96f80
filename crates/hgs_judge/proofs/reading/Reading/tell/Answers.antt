use Rattle.std.proofs.Common.{length}
use Rattle.hgs_judge.proofs.reading.Reading.tell.Goals as goal

pub own_rule-requires-clause-first : goal.own_rule-requires-clause-first
own_rule-requires-clause-first c = c.parent_use-first.ensures.among (length c.args.self.now.log.entries) c.requires.uses

pub own_rule-requires-clause-second : goal.own_rule-requires-clause-second
own_rule-requires-clause-second c = c.parent_use-second.ensures.among (length c.args.self.now.log.entries) c.requires.uses
