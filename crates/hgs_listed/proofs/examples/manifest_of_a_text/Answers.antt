use Rattle.std.proofs.Common.{refl}
use Rattle.std.specs.Fmt.{digits}
use Rattle.hex.specs.Hex.{encode_with}
use Rattle.sha1.specs.Sha1.{sha1, first_words, schedule, rounds, compress, hash_after, digest_bytes}
use Rattle.hgs_listed.proofs.examples.manifest_of_a_text.Goals as goal

pub returns : goal.returns
unfolding encode_with sha1 first_words schedule rounds compress hash_after digest_bytes digits
returns c = refl
