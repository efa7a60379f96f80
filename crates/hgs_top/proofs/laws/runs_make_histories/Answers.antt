use Rattle.hgs_machine.specs.Refusals.{WereRefused}
use Rattle.hgs_top.proofs.PiecesLemmas.{Taken, made}
use Rattle.hgs_top.proofs.laws.runs_make_histories.Goals as goal

pub returns : goal.returns
returns c =
    let taken : Taken = record {
      valid = c.commands_are_valid.ensures;
      answered = c.answered_commands_make_histories.ensures;
      new_stops = c.new_repositories_are_empty.ensures.stops;
      open_found = c.recovering_leads_back.ensures.found;
      open_leads = c.recovering_leads_back.ensures.leads;
      open_stops = c.recovering_leads_back.ensures.stops;
      standing_stops = c.nothing_but_leftovers_is_removed.ensures.stops;
    } in
    λ words left old new start status written_old written_new f0 f1 d0 d1 obeys. made taken words left old new start status written_old written_new (λ n. WereRefused n f0 f1 d0 d1) obeys
