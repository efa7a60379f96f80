use Rattle.std.proofs.Common.{[], ◌∷◌, ◌++◌, ◌∙◌, sym, ap, arith}
use Rattle.hgs_index.specs.declared.entry.Entry.{Entry}
use Rattle.hgs_index.specs.Revision.{Parents}
use Rattle.hgs_revlog.specs.Loaded.{parents_in}
use Rattle.hgs_judge.proofs.Basics.{map-more, take-whole}
use Rattle.hgs_judge.proofs.reading.Reading.parents.Goals as goal

abbrev of_entry : Entry → Parents
of_entry e = (e.p1, e.p2)

pub loop-rev-preserved : goal.loop-rev-preserved
loop-rev-preserved c =
    c.in_ok-push.ensures.items
    ∙ ap (λ l. l ++ of_entry c.entry-entry.result.now ∷ []) c.loop-rev.invariant
    ∙ sym (map-more of_entry c.args.self.now.log.entries c.loop-rev.rev c.entry-entry.result.now c.entry-entry.ensures)

pub returns : goal.returns
returns c = c.loop-rev.invariant ∙ ap parents_in (take-whole c.args.self.now.log.entries c.loop-rev.rev (let a = c.loop-rev-test.false in let b = c.len-rev-end.ensures in omega (arith, a, b)))
