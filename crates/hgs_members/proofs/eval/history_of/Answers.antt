use Rattle.std.proofs.Common.{◌∙◌, ◌++◌, [], ◌∷◌, ap, arith}
use Rattle.hgs_index.specs.declared.entry.Entry.{Entry}
use Rattle.hgs_members.proofs.EachLemmas.{mapped_all, mapped_next}
use Rattle.hgs_members.proofs.eval.history_of.Goals as goal

pub loop-rev-preserved : goal.loop-rev-preserved
loop-rev-preserved c =
    let e = c.entry-entry.result.now in
    c.in_ok-push.ensures.items ∙ ap (λ h. h ++ (e.p1, e.p2) ∷ []) c.loop-rev.invariant ∙ mapped_next (λ (x : Entry). (x.p1, x.p2)) c.args.known.now.entries c.loop-rev.rev e c.entry-entry.ensures

pub returns : goal.returns
returns c = c.loop-rev.invariant ∙ mapped_all (λ (x : Entry). (x.p1, x.p2)) c.args.known.now.entries c.loop-rev.rev (let past = c.loop-rev-test.false in let n = c.len-rev-end.ensures in omega (arith, past, n))
