use Rattle.std.proofs.Common.{refl}
use Rattle.hex.specs.Hex.{encode_with, decode_pairs}
use Rattle.hgs_follow.proofs.examples.copies_by_mercurial.Goals as goal

pub returns-clause-first : goal.returns-clause-first
unfolding encode_with decode_pairs
returns-clause-first c = refl

pub returns-clause-second : goal.returns-clause-second
unfolding encode_with decode_pairs
returns-clause-second c = refl
