use Rattle.std.proofs.Common.{refl}
use Rattle.std.specs.Fmt.{digits}
use Rattle.hex.specs.Hex.{encode_with}
use Rattle.sha1.specs.Sha1.{sha1, first_words, schedule, rounds, compress, hash_after, digest_bytes}
use Rattle.hgs_history.proofs.examples.answers_of_two_drafts.Goals as goal

pub returns-clause-log : goal.returns-clause-log
unfolding encode_with sha1 first_words schedule rounds compress hash_after digest_bytes digits
returns-clause-log c = refl

pub returns-clause-files : goal.returns-clause-files
unfolding encode_with sha1 first_words schedule rounds compress hash_after digest_bytes digits
returns-clause-files c = refl

pub returns-clause-unknown_name : goal.returns-clause-unknown_name
unfolding encode_with sha1 first_words schedule rounds compress hash_after digest_bytes digits
returns-clause-unknown_name c = refl

pub returns-clause-unknown_path : goal.returns-clause-unknown_path
unfolding encode_with sha1 first_words schedule rounds compress hash_after digest_bytes digits
returns-clause-unknown_path c = refl
