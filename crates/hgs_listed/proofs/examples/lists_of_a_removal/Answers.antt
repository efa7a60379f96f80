use Rattle.std.proofs.Common.{refl}
use Rattle.std.specs.Fmt.{digits}
use Rattle.hex.specs.Hex.{encode_with}
use Rattle.sha1.specs.Sha1.{sha1, first_words, schedule, rounds, compress, hash_after, digest_bytes}
use Rattle.hgs_listed.proofs.examples.lists_of_a_removal.Goals as goal

pub returns-clause-second : goal.returns-clause-second
unfolding encode_with sha1 first_words schedule rounds compress hash_after digest_bytes digits
returns-clause-second c = refl

pub returns-clause-third : goal.returns-clause-third
unfolding encode_with sha1 first_words schedule rounds compress hash_after digest_bytes digits
returns-clause-third c = refl

pub returns-clause-used : goal.returns-clause-used
unfolding encode_with sha1 first_words schedule rounds compress hash_after digest_bytes digits
returns-clause-used c = refl
