use Rattle.std.proofs.Common.{refl}
use Rattle.std.specs.Fmt.{digits}
use Rattle.hex.specs.Hex.{encode_with}
use Rattle.sha1.specs.Sha1.{sha1, first_words, schedule, rounds, compress, hash_after, digest_bytes}
use Rattle.hgs_model.proofs.imports.records_one_after_another.Goals as goal

pub returns-clause-left : goal.returns-clause-left
unfolding encode_with sha1 first_words schedule rounds compress hash_after digest_bytes digits
returns-clause-left c = refl

pub returns-clause-answer : goal.returns-clause-answer
unfolding encode_with sha1 first_words schedule rounds compress hash_after digest_bytes digits
returns-clause-answer c = refl

pub returns-clause-again : goal.returns-clause-again
unfolding encode_with sha1 first_words schedule rounds compress hash_after digest_bytes digits
returns-clause-again c = refl

pub returns-clause-unknown : goal.returns-clause-unknown
unfolding encode_with sha1 first_words schedule rounds compress hash_after digest_bytes digits
returns-clause-unknown c = refl

pub returns-clause-none : goal.returns-clause-none
unfolding encode_with sha1 first_words schedule rounds compress hash_after digest_bytes digits
returns-clause-none c = refl
