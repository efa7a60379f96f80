use Rattle.std.proofs.Common.{refl}
use Rattle.hex.specs.Hex.{encode_with, decode_pairs}
use Rattle.hgs_follow.proofs.examples.first_lines_count.Goals as goal

pub returns-clause-twice : goal.returns-clause-twice
unfolding encode_with decode_pairs
returns-clause-twice c = refl

pub returns-clause-others : goal.returns-clause-others
unfolding encode_with decode_pairs
returns-clause-others c = refl
