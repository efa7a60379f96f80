use Rattle.std.proofs.Common.{◌≡◌, ◌∙◌, ◌++◌, List, ℕ, ap, subst}
use Rattle.hgs_index.specs.Revision.{ParentsBefore}
use Rattle.hgs_revlog.specs.Log.{nodes_of}
use Rattle.hgs_branch.specs.Taken.{Taken}
use Rattle.hgs_branch.specs.Text.{branches_text}
use Rattle.hgs_branch.proofs.PrintLemmas.{lines_are_text}
use Rattle.hgs_branch.proofs.heads.BranchHeads.print.Goals as goal

pub returns-clause-ok : goal.returns-clause-ok
returns-clause-ok c =
    let nodes = nodes_of c.args.history.now.entries in
    subst (λ (t : Taken). ParentsBefore 0 t.parents → c.extend_from_slice.new.self.items ≡ c.args.into.now.items ++ branches_text t.parents t.names nodes) c.self.view_is
    (λ b. c.in_ok-extend_from_slice.ensures.items ∙ ap (λ (l : List ℕ). c.args.into.now.items ++ l) (c.deref.ensures.value ∙ c.in_ok-lines.ensures ∙ lines_are_text c.self.inside.course nodes c.self.invariant.0 c.self.invariant.1 b))
