use Rattle.hgs_filelog.proofs.MarkerLemmas.{packed_back}
use Rattle.hgs_filelog.proofs.file_text.pack_then_unpack.Goals as goal

pub returns : goal.returns
returns c = packed_back
