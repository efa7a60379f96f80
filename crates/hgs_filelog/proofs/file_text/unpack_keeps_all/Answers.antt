use Rattle.hgs_filelog.proofs.MarkerLemmas.{all_kept}
use Rattle.hgs_filelog.proofs.file_text.unpack_keeps_all.Goals as goal

pub returns : goal.returns
returns c = all_kept
