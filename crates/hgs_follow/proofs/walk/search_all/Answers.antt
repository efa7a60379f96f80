use Rattle.std.proofs.Common.{refl}
use Rattle.hgs_follow.specs.Search.{view_copied}
use Rattle.hgs_follow.proofs.ChainLemmas.{stopped_in}
use Rattle.hgs_follow.proofs.WalkLemmas.{begins, goes_further, pushed_first}
use Rattle.hgs_follow.proofs.walk.search_all.Goals as goal

pub loop-init : goal.loop-init
loop-init g c = begins g.F.Filelogs.gives g.F.Filelogs.holds (view_copied c.args.first) c.args.files.now c.new-logs.result _ c.new-logs.ensures.empty (pushed_first c.new.result.items c.push.new.self.items c.args.first c.new.ensures.items c.in_ok-push.ensures.items) c.new-2.ensures.items

pub returns-in_err-look_for-clause-err : goal.returns-in_err-look_for-clause-err
returns-in_err-look_for-clause-err g c =
    let u = c.loop.invariant in
    stopped_in g.F.Filelogs.gives g.F.Filelogs.refuses c.args.files.now c.loop.files c.look_for.new.files u.asked c.in_err-look_for.field-0.0 c.from_residual-in_err-look_for.result u.chain c.in_err-look_for.ensures.err c.from_residual-in_err-look_for.ensures.1

pub loop-preserved : goal.loop-preserved
loop-preserved g c =
    goes_further g.F.Filelogs.gives g.F.Filelogs.holds (view_copied c.args.first) c.args.files.now c.loop.files c.look_for.new.files c.loop.logs c.look_for.new.logs c.loop.finds (record { sources = c.pop.new.self; lines = c.loop.finds.lines }) c.look_for.new.finds c.in-Some.source c.loop.invariant c.in-Some.ensures.items refl c.in_ok-look_for.ensures.ok c.in_ok-look_for.ensures.held
