use Rattle.std.proofs.Common.{refl}
use Rattle.std.specs.Fmt.{digits}
use Rattle.hex.specs.Hex.{encode_with}
use Rattle.sha1.specs.Sha1.{sha1, first_words, schedule, rounds, compress, hash_after, digest_bytes}
use Rattle.hgs_views.proofs.examples.nodes_of_equal_bodies.Goals as goal

pub returns-clause-first : goal.returns-clause-first
unfolding encode_with sha1 first_words schedule rounds compress hash_after digest_bytes digits
returns-clause-first c = refl

pub returns-clause-last : goal.returns-clause-last
unfolding encode_with sha1 first_words schedule rounds compress hash_after digest_bytes digits
returns-clause-last c = refl

pub returns-clause-body : goal.returns-clause-body
returns-clause-body c = refl
