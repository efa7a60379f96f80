use Rattle.hgs_model.specs.Theorems.ImportLemmas.{import-gone, import-last}
use Rattle.hgs_model.proofs.answers.import_answers.Goals as goal

pub returns : goal.returns
returns c r next changes answer valid e = let d = import-gone r changes (next, answer) valid.each e in (d.changesets, d.count, import-last r changes (next, answer) e)
