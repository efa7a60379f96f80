use Rattle.std.proofs.Common.{sym, arith}
use Rattle.hgs_phases.specs.Theorems.PhaseLemmas.{history-length}
use Rattle.hgs_members.specs.Story.{story_of}
use Rattle.hgs_members.proofs.EvalLemmas.{name_put}
use Rattle.hgs_members.proofs.eval.put_name.Goals as goal

pub returns : goal.returns
returns c =
    let low = c.in-Some.ensures.below in
    let long = history-length c.args.session.now.changelog.entries in
    name_put (story_of c.args.session.now) c.args.name.now c.in-Some.rev c.args.stack.now.items c.push.new.self.items (sym c.in-Some.ensures.named) (omega (arith, low, long)) c.in_ok-push.ensures.items
