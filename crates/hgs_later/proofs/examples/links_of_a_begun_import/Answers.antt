use Rattle.std.proofs.Common.{refl}
use Rattle.std.specs.Fmt.{digits}
use Rattle.hex.specs.Hex.{encode_with}
use Rattle.sha1.specs.Sha1.{sha1, first_words, schedule, rounds, compress, hash_after, digest_bytes}
use Rattle.hgs_later.proofs.examples.links_of_a_begun_import.Goals as goal

pub returns-clause-file : goal.returns-clause-file
unfolding encode_with sha1 first_words schedule rounds compress hash_after digest_bytes digits
returns-clause-file c = refl

pub returns-clause-manifest : goal.returns-clause-manifest
unfolding encode_with sha1 first_words schedule rounds compress hash_after digest_bytes digits
returns-clause-manifest c = refl

pub returns-clause-counted : goal.returns-clause-counted
unfolding encode_with sha1 first_words schedule rounds compress hash_after digest_bytes digits
returns-clause-counted c = refl

pub returns-clause-of_manifest : goal.returns-clause-of_manifest
unfolding encode_with sha1 first_words schedule rounds compress hash_after digest_bytes digits
returns-clause-of_manifest c = refl

pub returns-clause-changelog : goal.returns-clause-changelog
unfolding encode_with sha1 first_words schedule rounds compress hash_after digest_bytes digits
returns-clause-changelog c = refl
