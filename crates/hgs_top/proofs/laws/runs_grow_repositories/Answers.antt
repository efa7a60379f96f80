use Rattle.hgs_machine.specs.Refusals.{WereRefused}
use Rattle.hgs_top.proofs.GrowthLemmas.{TakenOfGrowth, grows}
use Rattle.hgs_top.proofs.laws.runs_grow_repositories.Goals as goal

pub returns : goal.returns
returns c =
    let taken : TakenOfGrowth = record {
      new_stops = c.new_repositories_are_empty.ensures.stops;
      made = c.new_repositories_are_empty.ensures.made;
      committed = c.grown_repositories_stand.ensures;
      stopped = c.growing_may_stop_anywhere.ensures;
    } in
    λ words left old new start status written_old written_new f0 f1 d0 d1 obeys. grows taken words left old new start status written_old written_new (λ n. WereRefused n f0 f1 d0 d1) obeys
