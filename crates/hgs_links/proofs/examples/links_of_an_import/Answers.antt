use Rattle.std.proofs.Common.{refl}
use Rattle.std.specs.Fmt.{digits}
use Rattle.hex.specs.Hex.{encode_with}
use Rattle.sha1.specs.Sha1.{sha1, first_words, schedule, rounds, compress, hash_after, digest_bytes}
use Rattle.hgs_links.proofs.examples.links_of_an_import.Goals as goal

pub returns-clause-file : goal.returns-clause-file
unfolding encode_with sha1 first_words schedule rounds compress hash_after digest_bytes digits
returns-clause-file c = refl

pub returns-clause-manifest : goal.returns-clause-manifest
unfolding encode_with sha1 first_words schedule rounds compress hash_after digest_bytes digits
returns-clause-manifest c = refl

pub returns-clause-changelog : goal.returns-clause-changelog
unfolding encode_with sha1 first_words schedule rounds compress hash_after digest_bytes digits
returns-clause-changelog c = refl

pub returns-clause-before : goal.returns-clause-before
unfolding encode_with sha1 first_words schedule rounds compress hash_after digest_bytes digits
returns-clause-before c = refl

pub returns-clause-between : goal.returns-clause-between
unfolding encode_with sha1 first_words schedule rounds compress hash_after digest_bytes digits
returns-clause-between c = refl
