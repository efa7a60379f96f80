use Rattle.hgs_input.proofs.ImportLemmas.{import_found, text_valid}
use Rattle.hgs_input.proofs.laws.read_imports_are_imports.Goals as goal

pub returns : goal.returns
returns c bytes changes e = let found = import_found bytes changes e in (found, text_valid bytes changes found.text)
