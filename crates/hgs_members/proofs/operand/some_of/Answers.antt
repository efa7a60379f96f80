use Rattle.std.proofs.Common.{◌∙◌, sym, ap, subst, length}
use Rattle.std.specs.Prelude.{if◌then◌else◌}
use Rattle.hgs_members.specs.Members.{marks_in, AreBoth}
use Rattle.hgs_members.specs.declared.operand.Operand.TheVariants.{Empty, One}
use Rattle.hgs_members.proofs.OperandLemmas.{one_both}
use Rattle.hgs_members.proofs.operand.some_of.Goals as goal

pub returns-in-One : goal.returns-in-One
returns-in-One c = λ count same.
    let rev = c.in-One.rev in
    let is = c.in-One.is in
    let made = c.one_when.ensures ∙ ap (λ b. if b then One rev else Empty) c.has.ensures in
    subst (λ o. AreBoth c.args.members (marks_in count o) (marks_in count c.one_when.result)) (sym is)
    (subst (λ o. AreBoth c.args.members (marks_in count (One rev)) (marks_in count o)) (sym made) (one_both c.args.members count rev (same ∙ ap (λ o. length (marks_in count o)) is)))
