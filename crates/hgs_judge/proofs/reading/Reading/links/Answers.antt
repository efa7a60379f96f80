use Rattle.std.proofs.Common.{[], ◌∷◌, ◌++◌, ◌∙◌, sym, ap, arith}
use Rattle.hgs_index.specs.declared.entry.Entry.{Entry}
use Rattle.hgs_judge.specs.Read.{links_in}
use Rattle.hgs_judge.proofs.Basics.{map-more, take-whole}
use Rattle.hgs_judge.proofs.reading.Reading.links.Goals as goal

pub loop-rev-preserved : goal.loop-rev-preserved
loop-rev-preserved c =
    c.in_ok-push.ensures.items
    ∙ ap (λ l. l ++ (λ (e : Entry). e.link) c.entry.result.now ∷ []) c.loop-rev.invariant
    ∙ sym (map-more (λ (e : Entry). e.link) c.args.self.now.log.entries c.loop-rev.rev c.entry.result.now c.entry.ensures)

pub returns : goal.returns
returns c = c.loop-rev.invariant ∙ ap links_in (take-whole c.args.self.now.log.entries c.loop-rev.rev (let a = c.loop-rev-test.false in let b = c.len-rev-end.ensures in omega (arith, a, b)))
