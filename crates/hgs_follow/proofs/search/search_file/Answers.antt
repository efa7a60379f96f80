use Rattle.std.proofs.Common.{◌<◌, length, subst, sym, refl}
use Rattle.hgs_follow.specs.declared.filelogs.Filelog.{Filelog}
use Rattle.hgs_follow.specs.Search.{asked_of}
use Rattle.hgs_follow.proofs.ChainLemmas.{stopped_in}
use Rattle.hgs_follow.proofs.SearchLemmas.{keeps_first, keeps_low, keeps_on}
use Rattle.hgs_follow.proofs.search.search_file.Goals as goal

pub loop-rev-init : goal.loop-rev-init
loop-rev-init g c = record {
  filelog = refl;
  found = keeps_first g.F.Filelogs.gives c.args.path.now c.args.reached.now.filelog.log.entries c.args.from c.args.files.now c.args.reached.now.marks.items c.mark.new.marks.items c.new-waiting.result.items c.mark.new.waiting.items c.args.finds.now c.new-waiting.ensures.items c.in_ok-mark.ensures;
}

pub mark_parents-requires : goal.mark_parents-requires
mark_parents-requires g c =
    subst (λ (f : Filelog). c.in-Some.rev < length f.log.entries) (sym c.loop-rev.invariant.filelog)
    (keeps_low g.F.Filelogs.gives c.args.path.now c.args.reached.now.filelog.log.entries c.args.from c.args.files.now c.loop-rev.files c.args.reached.now.marks.items c.loop-rev.reached.marks.items c.loop-rev.waiting.items c.pop.new.self.items c.args.finds.now c.loop-rev.finds c.in-Some.rev c.requires.size c.loop-rev.invariant.found c.in-Some.ensures.items)

pub look_at-requires-clause-there : goal.look_at-requires-clause-there
look_at-requires-clause-there g c =
    subst (λ (f : Filelog). c.in-Some.rev < length f.log.entries) (sym c.loop-rev.invariant.filelog)
    (keeps_low g.F.Filelogs.gives c.args.path.now c.args.reached.now.filelog.log.entries c.args.from c.args.files.now c.loop-rev.files c.args.reached.now.marks.items c.loop-rev.reached.marks.items c.loop-rev.waiting.items c.pop.new.self.items c.args.finds.now c.loop-rev.finds c.in-Some.rev c.requires.size c.loop-rev.invariant.found c.in-Some.ensures.items)

pub loop-rev-preserved : goal.loop-rev-preserved
loop-rev-preserved g c = record {
  filelog = c.loop-rev.invariant.filelog;
  found = keeps_on g.F.Filelogs.gives c.args.path.now c.loop-rev.reached.filelog c.args.reached.now.filelog c.args.from c.args.files.now c.loop-rev.files c.look_at.new.files c.args.reached.now.marks.items c.loop-rev.reached.marks.items c.mark_parents.new.marks.items c.loop-rev.waiting.items c.pop.new.self.items c.mark_parents.new.waiting.items
      c.args.finds.now c.loop-rev.finds c.look_at.new.finds c.in-Some.rev c.loop-rev.invariant.filelog c.requires.earlier c.requires.size c.loop-rev.invariant.found c.in-Some.ensures.items c.in_ok-mark_parents.ensures c.in_ok-look_at.ensures.ok;
}

pub returns-in_err-look_at-clause-err : goal.returns-in_err-look_at-clause-err
returns-in_err-look_at-clause-err g c =
    let k = c.loop-rev.invariant.found in
    stopped_in g.F.Filelogs.gives g.F.Filelogs.refuses c.args.files.now c.loop-rev.files c.look_at.new.files (asked_of c.args.path.now k.texts) c.in_err-look_at.field-0.0 c.from_residual-in_err-look_at.result k.chain c.in_err-look_at.ensures.err c.from_residual-in_err-look_at.ensures.1
