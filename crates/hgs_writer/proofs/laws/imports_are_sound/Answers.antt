use Rattle.hgs_writer.proofs.ImportSoundLemmas.{import_sound}
use Rattle.hgs_writer.proofs.laws.imports_are_sound.Goals as goal

pub returns : goal.returns
returns c = import_sound
