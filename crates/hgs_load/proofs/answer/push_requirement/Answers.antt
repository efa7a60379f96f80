use Rattle.std.proofs.Common.{◌++◌, codes, ◌∙◌, ap, append_assoc}
use Rattle.hgs_load.proofs.answer.push_requirement.Goals as goal

pub returns : goal.returns
returns c =
    c.in_ok-extend_from_slice-2.ensures.items ∙ ap (λ l. l ++ c.as_slice.result.now) c.in_ok-extend_from_slice.ensures.items
    ∙ append_assoc c.args.into.now.items (codes "requirement ") c.as_slice.result.now ∙ ap (λ w. c.args.into.now.items ++ (codes "requirement " ++ w)) c.as_slice.ensures
