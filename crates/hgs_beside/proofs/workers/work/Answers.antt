use Rattle.std.proofs.Common.{sym, subst}
use Rattle.std.proofs.Math.Logic.{∥∥₁_map}
use Rattle.hgs_session.specs.Session.{MayRun}
use Rattle.hgs_beside.proofs.WorkLemmas.{keeps}
use Rattle.hgs_beside.proofs.workers.work.Goals as goal

pub session-requires-clause-allows : goal.session-requires-clause-allows
session-requires-clause-allows g c κs within =
    let lists = c.requires.lists in
    let files = g.Y.Yard.files c.args.yard in
    let jobs = c.args.script.now.workers in
    subst (λ l. MayRun jobs l (g.Y.A.Reads.start files) g.Y.W.Files.allows) (sym lists.1)
    (λ x same begins log led. c.requires.protocol x.start log (c.sessions_make_legal_logs.ensures.taken jobs lists.0 (g.Y.A.Reads.start files) c.requires.can.shares lists.2 x same begins log led))

pub returns-clause-comes : goal.returns-clause-comes
returns-clause-comes g c =
    let lists = c.requires.lists in
    ∥∥₁_map c.session.ensures.comes
    (λ k. (
      k.0,
      k.1,
      k.2,
      keeps c.sessions_keep_their_history.ensures k.0 c.args.script.now.workers (g.Y.A.Files.log (g.Y.Yard.files c.args.yard)) (g.Y.A.Reads.start (g.Y.Yard.files c.args.yard)) (g.Y.A.Reads.faults (g.Y.Yard.files c.args.yard))
          (g.Y.A.Reads.denied (g.Y.Yard.files c.args.yard)) lists.0 c.requires.can.shares lists.1 lists.2 k.1 k.2,
    ))
