use Rattle.std.proofs.Common.{◌∙◌, Some, ap, sym}
use Rattle.hgs_bytes.specs.Bytes.{same}
use Rattle.hgs_bytes.specs.Theorems.ByteLemmas.{same-eq, same-refl}
use Rattle.hgs_branch.proofs.ListLemmas.{get_is, some_is}
use Rattle.hgs_branch.proofs.course.is_name.Goals as goal

pub returns-in-Some : goal.returns-in-Some
returns-in-Some c =
    let there = get_is c.args.names.now c.args.number c.in-Some.tried.now c.in-Some.ensures.lookup.3 in
    let left = c.as_slice.result.now in
    let right = c.as_slice-in-Some.result.now in (
      λ e. there ∙ ap (λ x. Some x) (sym c.as_slice.ensures ∙ same-eq left right (sym c.equal.ensures ∙ e) ∙ c.as_slice-in-Some.ensures),
      λ at. c.equal.ensures ∙ ap (λ x. same x right) (c.as_slice.ensures ∙ some_is c.in-Some.tried.now c.args.name.now (sym there ∙ at) ∙ sym c.as_slice-in-Some.ensures) ∙ same-refl right,
    )
