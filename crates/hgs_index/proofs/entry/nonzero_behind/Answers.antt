use Rattle.std.proofs.Common.{◌||◌, sym, ◌∙◌, ap}
use Rattle.hgs_index.specs.Entry.{is_nonzero, part}
use Rattle.hgs_index.proofs.PaddingLemmas.{padding_nonzero}
use Rattle.hgs_index.proofs.entry.nonzero_behind.Goals as goal

pub returns-then-nonzero_at : goal.returns-then-nonzero_at
returns-then-nonzero_at c =
    let bytes = c.args.bytes.now in
    sym (padding_nonzero bytes ∙ ap (λ b. (b || is_nonzero (part 56 4 bytes)) || is_nonzero (part 60 4 bytes)) (sym c.nonzero_at.ensures ∙ c.if-nonzero_at.true))

pub returns-then-nonzero_at-2 : goal.returns-then-nonzero_at-2
returns-then-nonzero_at-2 c =
    let bytes = c.args.bytes.now in
    sym (padding_nonzero bytes ∙ (λ i. ((sym c.nonzero_at.ensures ∙ c.if-nonzero_at.false) i || (sym c.nonzero_at-2.ensures ∙ c.if-nonzero_at-2.true) i) || is_nonzero (part 60 4 bytes)))

pub returns : goal.returns
returns c =
    let bytes = c.args.bytes.now in
    sym (padding_nonzero bytes ∙ (λ i. ((sym c.nonzero_at.ensures ∙ c.if-nonzero_at.false) i || (sym c.nonzero_at-2.ensures ∙ c.if-nonzero_at-2.false) i) || sym c.nonzero_at-3.ensures i))
