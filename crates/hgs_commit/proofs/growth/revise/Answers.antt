use Rattle.std.proofs.Common.{Ok, sym, ◌∙◌, ap}
use Rattle.std.specs.Option.{option_copied}
use Rattle.hgs_index.specs.Revision.{Revision}
use Rattle.hgs_commit.specs.Revised.{revised}
use Rattle.hgs_commit.specs.declared.growth.Became.TheVariants.{New}
use Rattle.hgs_commit.proofs.growth.revise.Goals as goal

pub returns-in-Ok-New-clause-fits : goal.returns-in-Ok-New-clause-fits
returns-in-Ok-New-clause-fits c = λ separate own.
    let r : Revision = record { text = c.args.text.now; parents = (c.args.p1, c.args.p2); link = c.args.link } in
    c.new_revision.ensures.fits c.args.log.now r (option_copied c.args.standing) c.in-Ok-New.entry c.in-Ok-New.chunk c.in-Ok-New.node separate c.requires.first c.requires.second c.requires.link own (c.in-Ok-New.ensures ∙ ap Ok c.in-Ok-New.field-0-is)

pub returns-in-Ok-New-clause-revised : goal.returns-in-Ok-New-clause-revised
returns-in-Ok-New-clause-revised c =
    let r : Revision = record { text = c.args.text.now; parents = (c.args.p1, c.args.p2); link = c.args.link } in
    let e = c.in-Ok-New.ensures ∙ ap Ok c.in-Ok-New.field-0-is in
    ap (revised c.args.log.now r) e
    ∙ ap (λ n. Ok (record { node = n; became = New c.in-Ok-New.entry c.in-Ok-New.chunk })) (sym (c.new_revision.ensures.named c.args.log.now r (option_copied c.args.standing) c.in-Ok-New.entry c.in-Ok-New.chunk c.in-Ok-New.node e).1)
