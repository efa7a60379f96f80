use Rattle.std.proofs.Common.{refl}
use Rattle.std.specs.Fmt.{digits}
use Rattle.hex.specs.Hex.{encode_with}
use Rattle.sha1.specs.Sha1.{sha1, first_words, schedule, rounds, compress, hash_after, digest_bytes}
use Rattle.hgs_ops.proofs.examples.two_records_at_once.Goals as goal

pub returns-clause-accepted : goal.returns-clause-accepted
unfolding encode_with sha1 first_words schedule rounds compress hash_after digest_bytes digits
returns-clause-accepted c = refl

pub returns-clause-marks : goal.returns-clause-marks
unfolding encode_with sha1 first_words schedule rounds compress hash_after digest_bytes digits
returns-clause-marks c who = refl

pub returns-clause-roots : goal.returns-clause-roots
unfolding encode_with sha1 first_words schedule rounds compress hash_after digest_bytes digits
returns-clause-roots c who = refl

pub returns-clause-changelog : goal.returns-clause-changelog
unfolding encode_with sha1 first_words schedule rounds compress hash_after digest_bytes digits
returns-clause-changelog c who = refl

pub returns-clause-changes : goal.returns-clause-changes
unfolding encode_with sha1 first_words schedule rounds compress hash_after digest_bytes digits
returns-clause-changes c who = refl

pub returns-clause-manifest : goal.returns-clause-manifest
unfolding encode_with sha1 first_words schedule rounds compress hash_after digest_bytes digits
returns-clause-manifest c who = refl

pub returns-clause-rows : goal.returns-clause-rows
unfolding encode_with sha1 first_words schedule rounds compress hash_after digest_bytes digits
returns-clause-rows c who = refl

pub returns-clause-list : goal.returns-clause-list
unfolding encode_with sha1 first_words schedule rounds compress hash_after digest_bytes digits
returns-clause-list c who = refl
