use Rattle.std.proofs.Common.{refl}
use Rattle.std.specs.Fmt.{digits}
use Rattle.hex.specs.Hex.{encode_with}
use Rattle.sha1.specs.Sha1.{sha1, first_words, schedule, rounds, compress, hash_after, digest_bytes}
use Rattle.hgs_model.proofs.commits.files_of_commits.Goals as goal

pub returns-clause-removed : goal.returns-clause-removed
unfolding encode_with sha1 first_words schedule rounds compress hash_after digest_bytes digits
returns-clause-removed c = refl

pub returns-clause-removed_path : goal.returns-clause-removed_path
unfolding encode_with sha1 first_words schedule rounds compress hash_after digest_bytes digits
returns-clause-removed_path c = refl

pub returns-clause-flag : goal.returns-clause-flag
unfolding encode_with sha1 first_words schedule rounds compress hash_after digest_bytes digits
returns-clause-flag c = refl

pub returns-clause-flag_alone : goal.returns-clause-flag_alone
unfolding encode_with sha1 first_words schedule rounds compress hash_after digest_bytes digits
returns-clause-flag_alone c = refl

pub returns-clause-marker : goal.returns-clause-marker
unfolding encode_with sha1 first_words schedule rounds compress hash_after digest_bytes digits
returns-clause-marker c = refl

pub returns-clause-block : goal.returns-clause-block
unfolding encode_with sha1 first_words schedule rounds compress hash_after digest_bytes digits
returns-clause-block c = refl
