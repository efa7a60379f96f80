use Rattle.std.proofs.Common.{◌∙◌, sym, ap, subst, length}
use Rattle.hgs_phases.specs.Theorems.PhaseLemmas.{history-length}
use Rattle.hgs_members.specs.Members.{Changes}
use Rattle.hgs_members.specs.Story.{story_of}
use Rattle.hgs_members.proofs.EvalLemmas.{gave, one_count, one_stepped}
use Rattle.hgs_members.proofs.eval.change_top.Goals as goal

pub change-requires : goal.change-requires
change-requires c =
    let view = c.args.session.now in
    let stood = gave c.args.stack.now.items c.pop.new.self.items c.pop.result c.in-Some.operand c.pop.ensures.items c.in-Some.is in
    one_count (story_of view) c.args.stack.now.items c.pop.new.self.items c.in-Some.operand c.len.result c.in_ok-members.members (c.len.ensures ∙ sym (history-length view.changelog.entries)) c.in_ok-members.ensures stood c.requires.shown.0 c.requires.shown.1
    ∙ sym (ap (λ h. length h) c.requires.parents)

pub returns-in_ok-push : goal.returns-in_ok-push
returns-in_ok-push c =
    let view = c.args.session.now in
    let stood = gave c.args.stack.now.items c.pop.new.self.items c.pop.result c.in-Some.operand c.pop.ensures.items c.in-Some.is in
    one_stepped (story_of view) c.args.step.now c.args.stack.now.items c.push.new.self.items c.pop.new.self.items c.in-Some.operand c.len.result c.in_ok-members.members c.change.new.members c.requires.one (c.len.ensures ∙ sym (history-length view.changelog.entries)) c.in_ok-members.ensures stood c.in_ok-push.ensures.items
    (subst (λ h. Changes h c.args.step.now c.in_ok-members.members c.change.new.members) c.requires.parents c.change.ensures)
