use Rattle.std.proofs.Common.{None, length, refl, ap}
use Rattle.hgs_session.specs.Jobs.{Progress}
use Rattle.hgs_session.proofs.worker.Worker.new.Goals as goal

pub invariant_of-result : goal.invariant_of-result
invariant_of-result g c =
    let end = c.new.result.end in
    let now : Progress = record {
      done = length c.args.room.items;
      place = length c.args.history;
      told = (g.R.Reads.ties end).told;
      seen = g.R.Reads.seen end;
      start = g.R.Reads.start end;
      view = None;
      faults = g.R.Reads.faults end;
      denied = g.R.Reads.denied end;
    } in
    record {
      done = ∣ (λ sound. record {
        first = now;
        fresh = record {
          done = ap length c.requires.room;
          place = ap length c.requires.history;
          view = refl;
          faults = rw c.new.ensures c.requires.faults;
          denied = rw c.new.ensures c.requires.denied;
          seen = rw c.new.ensures c.requires.begins;
        };
        does = rw c.requires.room refl;
      }) ∣₁;
    }
