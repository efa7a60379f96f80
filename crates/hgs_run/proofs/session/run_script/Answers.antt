use Rattle.hgs_session.specs.Session.{AreCounted, IsAt, IsWhole, LeftAs, RestsOn}
use Rattle.std.specs.Prelude.{⊤}
use Rattle.hgs_run.proofs.Given.{ran_so, status_tells}
use Rattle.hgs_run.proofs.session.run_script.Goals as goal

pub returns-clause-runs : goal.returns-clause-runs
returns-clause-runs g c =
    let s = c.status_with-status.ensures in
    ran_so
    (λ last. LeftAs c.session-left.result.left (λ y. RestsOn (g.Y.A.Files.log (g.Y.Yard.files c.args.yard)) (g.Y.A.Reads.start (g.Y.Yard.files c.args.yard)) last.log (g.Y.A.Files.log (g.Y.Yard.files y)) (g.Y.A.Reads.start (g.Y.Yard.files y))) (λ w. IsAt last (g.Y.W.Files.log w) (g.Y.W.Reads.faults w) (g.Y.W.Reads.denied w)))
    (λ last states. LeftAs c.session-left.result.left (λ y. AreCounted last states (g.Y.A.Reads.faults (g.Y.Yard.files y)) (g.Y.A.Reads.denied (g.Y.Yard.files y))) (λ w. ⊤)) (IsWhole c.session-left.result.left)
    c.args.script.now.workers (g.Y.A.Files.log (g.Y.Yard.files c.args.yard)) (g.Y.A.Reads.start (g.Y.Yard.files c.args.yard)) (g.Y.A.Reads.faults (g.Y.Yard.files c.args.yard)) (g.Y.A.Reads.denied (g.Y.Yard.files c.args.yard)) c.status_with-status.result (g.K.Sink.written c.args.out.now) (g.K.Sink.written c.tell-told.new.out)
    c.session-left.result.result c.session-left.ensures.comes c.session-left.ensures.whole
    (status_tells c.session-left.result.left c.session-left.result.result c.tell-told.result c.status_with-status.result (g.K.Sink.written c.args.out.now) (g.K.Sink.written c.tell-told.new.out) c.session-left.ensures.whole s.same s.parts c.tell-told.ensures.tells)
