use Rattle.std.proofs.Common.{refl}
use Rattle.std.specs.Fmt.{digits}
use Rattle.hex.specs.Hex.{encode_with}
use Rattle.sha1.specs.Sha1.{sha1, first_words, schedule, rounds, compress, hash_after, digest_bytes}
use Rattle.hgs_model.proofs.commits.unchanged_commits.Goals as goal

pub returns-clause-empty : goal.returns-clause-empty
unfolding encode_with sha1 first_words schedule rounds compress hash_after digest_bytes digits
returns-clause-empty c = refl

pub returns-clause-stands : goal.returns-clause-stands
unfolding encode_with sha1 first_words schedule rounds compress hash_after digest_bytes digits
returns-clause-stands c = refl
