use denote.Exit as Exit
use denote.Param.Send.{arg_send, param_send, sendable}
use Rattle.std.proofs.Crossing.{crosses}
use Rattle.core.specs.contracts.rt.LibcRuntime as Runtime
use Rattle.hgs_write_examples.specs.contracts.ends.Free as Free
use Rattle.hgs_write_examples.specs.contracts.ends.FreeProtocol.TheImpl as Impl
use Rattle.hgs_write_examples.proofs.SendLemmas.{reader-send, writer-send}
use Rattle.hgs_write_examples.proofs.sessions.workers_run_beside_each_other.Goals as goal

pub session-result-requires-send-Y-W : goal.session-result-requires-send-Y-W
session-result-requires-send-Y-W g c κs = param_send _ _ (arg_send _ Exit.no _ (writer-send Free.the_row Runtime.the_row Impl.ghosts (search (sendable, crosses) depth 20)))

pub session-result-requires-send-Y-R : goal.session-result-requires-send-Y-R
session-result-requires-send-Y-R g c κs = param_send _ _ (arg_send _ Exit.no _ (reader-send Free.the_row Impl.ghosts))
