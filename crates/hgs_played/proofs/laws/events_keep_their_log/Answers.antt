use Rattle.std.proofs.Common.{subst}
use Rattle.hgs_legal.specs.LegalLog.{IsRun}
use Rattle.hgs_played.proofs.Events.{first_logs, happens_log, played}
use Rattle.hgs_played.proofs.laws.events_keep_their_log.Goals as goal

pub returns : goal.returns
returns c =
    let l = c.laws_below.ensures in
    record {
      first = first_logs l;
      keeps = happens_log l;
      played = played l;
      legal = λ s b h begins is r clean. (h.last, subst (λ x. IsRun h.start x h.log h.last) (c.stands_for_one.ensures h.start h.first r h.stands clean.stands) h.run);
    }
