use Rattle.std.proofs.Common.{refl}
use Rattle.std.specs.Fmt.{digits}
use Rattle.hex.specs.Hex.{encode_with}
use Rattle.sha1.specs.Sha1.{sha1, first_words, schedule, rounds, compress, hash_after, digest_bytes}
use Rattle.hgs_ops.proofs.examples.first_record_laid.Goals as goal

pub returns-clause-roots : goal.returns-clause-roots
unfolding encode_with sha1 first_words schedule rounds compress hash_after digest_bytes digits
returns-clause-roots c = refl

pub returns-clause-names : goal.returns-clause-names
unfolding encode_with sha1 first_words schedule rounds compress hash_after digest_bytes digits
returns-clause-names c = refl
