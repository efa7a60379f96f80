use Rattle.std.proofs.Common.{[], length, ap, ◌∙◌}
use Rattle.hgs_legal.specs.Numbers.{n_of}
use Rattle.hgs_model.specs.Repo.{Repo}
use Rattle.hgs_world.specs.Texts.{loaded_line}
use Rattle.hgs_played.proofs.FirstLemmas.{empty_at, within}
use Rattle.hgs_played.proofs.examples.first_loads_find_nothing.Goals as goal

pub returns : goal.returns
returns c = record {
  within = within;
  loads = λ readers s number r first there.
      let logs = c.events_keep_their_log.ensures in
      let begun = logs.first readers s first in
      let p = logs.played s begun.0 [] begun.1 in
      let h = p.0 in
      let see = c.events_keep_what_readers_see.ensures.first readers s begun.0 h.log first in
      let load = c.no_load_of_a_play_is_refused.ensures.loads s begun.0 h number r p.2 (within readers s begun.0 h first begun.1.begins p.2) see there in
      load.4 ∙ ap (λ (x : Repo). loaded_line (length x.changesets)) (empty_at readers s begun.0 h first begun.1.begins p.2 (n_of h.last));
}
