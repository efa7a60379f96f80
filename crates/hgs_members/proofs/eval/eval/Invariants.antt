use Rattle.hgs_members.specs.Members.{marks_of}
use Rattle.hgs_members.specs.Story.{story_of}
use Rattle.hgs_members.proofs.EvalLemmas.{Done}
use Rattle.hgs_members.proofs.eval.eval.Given as goal

abbrev pub invariant-loop-place : goal.invariant-loop-place
invariant-loop-place l = Done (story_of l.session) l.steps l.place (marks_of (story_of l.session) l.stack.items)
