use Rattle.hgs_writer.proofs.SoundLemmas.{commit_sound}
use Rattle.hgs_writer.proofs.laws.commits_are_sound.Goals as goal

pub returns : goal.returns
returns c = commit_sound
