use Rattle.std.proofs.Common.{refl}
use Rattle.std.specs.Fmt.{digits}
use Rattle.hex.specs.Hex.{encode_with}
use Rattle.sha1.specs.Sha1.{sha1, first_words, schedule, rounds, compress, hash_after, digest_bytes}
use Rattle.hgs_model.proofs.examples.phases_move.Goals as goal

pub returns-clause-public : goal.returns-clause-public
unfolding encode_with sha1 first_words schedule rounds compress hash_after digest_bytes digits
returns-clause-public c = refl

pub returns-clause-secret : goal.returns-clause-secret
unfolding encode_with sha1 first_words schedule rounds compress hash_after digest_bytes digits
returns-clause-secret c = refl

pub returns-clause-force : goal.returns-clause-force
unfolding encode_with sha1 first_words schedule rounds compress hash_after digest_bytes digits
returns-clause-force c = refl

pub returns-clause-same : goal.returns-clause-same
unfolding encode_with sha1 first_words schedule rounds compress hash_after digest_bytes digits
returns-clause-same c = refl

pub returns-clause-unknown : goal.returns-clause-unknown
unfolding encode_with sha1 first_words schedule rounds compress hash_after digest_bytes digits
returns-clause-unknown c = refl
