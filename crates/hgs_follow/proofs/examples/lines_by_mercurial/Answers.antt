use Rattle.std.proofs.Common.{refl}
use Rattle.std.specs.Fmt.{digits}
use Rattle.hex.specs.Hex.{encode_with, decode_pairs}
use Rattle.hgs_follow.proofs.examples.lines_by_mercurial.Goals as goal

pub returns : goal.returns
unfolding encode_with decode_pairs digits
returns c = refl
