use Rattle.hgs_bytes.specs.Theorems.TwoLemmas.{two_answer}
use Rattle.hgs_filelog.proofs.file_text.marker_place.Goals as goal

pub returns-clause-value : goal.returns-clause-value
returns-clause-value c = two_answer 1 10 c.args.text.now c.find.result c.find.ensures
