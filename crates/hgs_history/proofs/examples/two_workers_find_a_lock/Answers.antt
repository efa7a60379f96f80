use Rattle.hgs_history.proofs.SampleLemmas.{held-lists, held-made, held-order, held-is-session, held-shares, held-stands}
use Rattle.hgs_history.specs.Samples.{held_calls, held_result, held_session, held_states, nothing_done}
use Rattle.hgs_model.specs.Repo.{empty_repo}
use Rattle.std.proofs.Common.{refl}
use Rattle.hgs_history.proofs.examples.two_workers_find_a_lock.Goals as goal

pub returns : goal.returns
returns c = record {
  stands = held-stands;
  shares = held-shares;
  order = held-order;
  session = held-is-session;
  lists = held-lists;
  keeps = (held-made, c.sessions_keep_their_history.ensures held_session empty_repo held_calls nothing_done held_states held_result held-made held-is-session held-stands refl held-shares held-lists);
}
