use Rattle.std.proofs.Common.{refl}
use Rattle.std.specs.Fmt.{digits}
use Rattle.hex.specs.Hex.{encode_with}
use Rattle.sha1.specs.Sha1.{sha1, first_words, schedule, rounds, compress, hash_after, digest_bytes}
use Rattle.hgs_model.proofs.commits.states_after_commits.Goals as goal

pub returns-clause-bookmark : goal.returns-clause-bookmark
unfolding encode_with sha1 first_words schedule rounds compress hash_after digest_bytes digits
returns-clause-bookmark c = refl

pub returns-clause-working : goal.returns-clause-working
unfolding encode_with sha1 first_words schedule rounds compress hash_after digest_bytes digits
returns-clause-working c = refl

pub returns-clause-phases : goal.returns-clause-phases
unfolding encode_with sha1 first_words schedule rounds compress hash_after digest_bytes digits
returns-clause-phases c = refl

pub returns-clause-merge : goal.returns-clause-merge
unfolding encode_with sha1 first_words schedule rounds compress hash_after digest_bytes digits
returns-clause-merge c = refl

pub returns-clause-answer : goal.returns-clause-answer
unfolding encode_with sha1 first_words schedule rounds compress hash_after digest_bytes digits
returns-clause-answer c = refl
