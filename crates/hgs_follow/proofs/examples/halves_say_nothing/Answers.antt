use Rattle.std.proofs.Common.{refl}
use Rattle.hex.specs.Hex.{encode_with, decode_pairs}
use Rattle.hgs_follow.proofs.examples.halves_say_nothing.Goals as goal

pub returns-clause-path : goal.returns-clause-path
unfolding encode_with decode_pairs
returns-clause-path c = refl

pub returns-clause-node : goal.returns-clause-node
unfolding encode_with decode_pairs
returns-clause-node c = refl

pub returns-clause-capitals : goal.returns-clause-capitals
unfolding encode_with decode_pairs
returns-clause-capitals c = refl

pub returns-clause-short : goal.returns-clause-short
unfolding encode_with decode_pairs
returns-clause-short c = refl
