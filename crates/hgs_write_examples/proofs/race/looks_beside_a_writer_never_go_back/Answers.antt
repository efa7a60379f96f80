use denote.Exit as Exit
use denote.Param.Send.{arg_send, param_send, sendable}
use Rattle.std.proofs.Crossing.{crosses}
use Rattle.core.specs.contracts.rt.LibcRuntime as Runtime
use Rattle.hgs_write_examples.specs.contracts.ends.Free as Free
use Rattle.hgs_write_examples.specs.contracts.ends.FreeProtocol.TheImpl as Impl
use Rattle.hgs_write_examples.proofs.SendLemmas.{reader-send, writer-send}
use Rattle.hgs_write_examples.proofs.race.looks_beside_a_writer_never_go_back.Goals as goal

pub race-fine-requires-send-W : goal.race-fine-requires-send-W
race-fine-requires-send-W g c κs = param_send _ _ (arg_send _ Exit.no _ (writer-send Free.the_row Runtime.the_row Impl.ghosts (search (sendable, crosses) depth 20)))

pub race-fine-requires-send-F : goal.race-fine-requires-send-F
race-fine-requires-send-F g c κs = param_send _ _ (arg_send _ Exit.no _ (reader-send Free.the_row Impl.ghosts))
