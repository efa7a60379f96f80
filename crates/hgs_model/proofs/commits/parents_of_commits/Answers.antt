use Rattle.std.proofs.Common.{refl}
use Rattle.std.specs.Fmt.{digits}
use Rattle.hex.specs.Hex.{encode_with}
use Rattle.sha1.specs.Sha1.{sha1, first_words, schedule, rounds, compress, hash_after, digest_bytes}
use Rattle.hgs_model.proofs.commits.parents_of_commits.Goals as goal

pub returns-clause-null : goal.returns-clause-null
unfolding encode_with sha1 first_words schedule rounds compress hash_after digest_bytes digits
returns-clause-null c = refl

pub returns-clause-dot : goal.returns-clause-dot
unfolding encode_with sha1 first_words schedule rounds compress hash_after digest_bytes digits
returns-clause-dot c = refl

pub returns-clause-equal : goal.returns-clause-equal
unfolding encode_with sha1 first_words schedule rounds compress hash_after digest_bytes digits
returns-clause-equal c = refl

pub returns-clause-dot_alone : goal.returns-clause-dot_alone
unfolding encode_with sha1 first_words schedule rounds compress hash_after digest_bytes digits
returns-clause-dot_alone c = refl

pub returns-clause-unknown : goal.returns-clause-unknown
unfolding encode_with sha1 first_words schedule rounds compress hash_after digest_bytes digits
returns-clause-unknown c = refl

pub returns-clause-second : goal.returns-clause-second
unfolding encode_with sha1 first_words schedule rounds compress hash_after digest_bytes digits
returns-clause-second c = refl
