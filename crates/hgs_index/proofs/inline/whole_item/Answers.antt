use Rattle.std.proofs.Common.{◌≡◌, ◌++◌, ◌<◌, drop, length, Some, inl, inr, sym, ◌∙◌, ap, arith, append-nil}
use Rattle.std.proofs.Math.Seq.{drop-length}
use Rattle.std.proofs.lemmas.List.Folds.{drop_split}
use Rattle.std.specs.List.{slice_range}
use Rattle.hgs_index.specs.Theorems.InlineLemmas.{item-found, item-refused}
use Rattle.hgs_index.proofs.inline.whole_item.Goals as goal

pub returns-in-Some-get : goal.returns-in-Some-get
returns-in-Some-get c =
    let cell = c.in-Some.parts.0.now in
    let behind = c.in-Some.parts.1.now in
    let stored = c.u32_at-stored.result in
    let found = c.in-Some-get.ensures.lookup.0 in
    let cut : slice_range behind stored (length behind) ≡ drop stored behind =
    sym (append-nil (slice_range behind stored (length behind))) ∙ ap (λ l. slice_range behind stored (length behind) ++ l) (sym (drop-length behind)) ∙ sym (drop_split behind stored (length behind) found.0) in
    let whole = c.in-Some.ensures.cases.2 in
    ap (λ l. Some (cell, l)) (found.2 ∙ cut)
    ∙ sym (item-found c.args.bytes.now cell behind stored c.in-Some.ensures.cases.0 c.in-Some.ensures.cases.1 (omega (arith, whole)) c.u32_at-stored.ensures found.0)

pub returns-else-stored-lt2147483648 : goal.returns-else-stored-lt2147483648
returns-else-stored-lt2147483648 c =
    let cell = c.in-Some.parts.0.now in
    let behind = c.in-Some.parts.1.now in
    let stored = c.u32_at-stored.result in
    let whole = c.in-Some.ensures.cases.2 in
    let short : length behind < stored = elim c.in-None-get.ensures.lookup.0 [ inl lt ↦ lt | inr past ↦ absurd (omega (arith, past)) ] in
    sym (item-refused c.args.bytes.now cell behind stored c.in-Some.ensures.cases.0 c.in-Some.ensures.cases.1 (omega (arith, whole)) c.u32_at-stored.ensures short c.if-stored-lt2147483648.false)
