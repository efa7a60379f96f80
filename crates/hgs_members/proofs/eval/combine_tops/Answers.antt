use Rattle.std.proofs.Common.{◌∙◌, sym}
use Rattle.hgs_phases.specs.Theorems.PhaseLemmas.{history-length}
use Rattle.hgs_members.specs.Story.{story_of}
use Rattle.hgs_members.proofs.EvalLemmas.{gave, two_lengths, two_stepped}
use Rattle.hgs_members.proofs.eval.combine_tops.Goals as goal

pub combine-requires-clause-same : goal.combine-requires-clause-same
combine-requires-clause-same c =
    let view = c.args.session.now in
    let stood = gave c.args.stack.now.items c.pop.new.self.items c.pop.result c.in-Some.right c.pop.ensures.items c.in-Some.is in
    let next = gave c.pop.new.self.items c.pop-2.new.self.items c.pop-2.result c.in-Some-pop.left c.pop-2.ensures.items c.in-Some-pop.is in
    two_lengths (story_of view) c.args.stack.now.items c.pop.new.self.items c.pop-2.new.self.items c.in-Some-pop.left c.in-Some.right c.len.result (c.len.ensures ∙ sym (history-length view.changelog.entries)) stood next c.requires.shown.0 c.requires.shown.1

pub returns : goal.returns
returns c =
    let view = c.args.session.now in
    let stood = gave c.args.stack.now.items c.pop.new.self.items c.pop.result c.in-Some.right c.pop.ensures.items c.in-Some.is in
    let next = gave c.pop.new.self.items c.pop-2.new.self.items c.pop-2.result c.in-Some-pop.left c.pop-2.ensures.items c.in-Some-pop.is in
    two_stepped (story_of view) c.args.step.now c.args.stack.now.items c.pop.new.self.items c.push-2.new.self.items c.pop-2.new.self.items c.in-Some-pop.left c.in-Some.right c.len.result c.in_ok-made.made c.requires.two (c.len.ensures ∙ sym (history-length view.changelog.entries)) stood next c.in_ok-push-2.ensures.items c.in_ok-made.ensures
