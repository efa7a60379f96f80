use Rattle.std.proofs.Common.{rules, ◌≡◌, ◌++◌, ◌∷◌, [], refl}
use Rattle.hgs_session.specs.Calls.{Call}
use Rattle.hgs_session.specs.Desk.{said_by}
use Rattle.hgs_session.specs.Noted.{call_of}
use Rattle.hgs_session.proofs.desk.Desk.write.Goals as goal

pub returns-clause-done : goal.returns-clause-done
returns-clause-done g c =
    let desk = c.call-noted.new.self in
    let call : Call = call_of g.W.Front.Told.log c.call-noted.result in
    let history : c.in_ok-history.history ≡ desk.history ++ call ∷ [] = c.in_ok-history.ensures.history in
    let says : c.in_ok-answered.answered ≡ said_by c.args.command.now call = search rules in
    ∣ (record {
      before = desk.history;
      call = call;
      history_is = history;
      worker_is = c.call-noted.ensures.worker;
      job_is = c.call-noted.ensures.job;
      says = says;
      log_is = refl;
    }) ∣₁
