use Rattle.std.proofs.Common.{refl}
use Rattle.std.specs.Fmt.{digits}
use Rattle.hex.specs.Hex.{encode_with}
use Rattle.sha1.specs.Sha1.{sha1, first_words, schedule, rounds, compress, hash_after, digest_bytes}
use Rattle.hgs_model.proofs.examples.merged_file.Goals as goal

pub returns-clause-filelog : goal.returns-clause-filelog
unfolding encode_with sha1 first_words schedule rounds compress hash_after digest_bytes digits
returns-clause-filelog c = refl

pub returns-clause-other : goal.returns-clause-other
unfolding encode_with sha1 first_words schedule rounds compress hash_after digest_bytes digits
returns-clause-other c = refl

pub returns-clause-manifest : goal.returns-clause-manifest
unfolding encode_with sha1 first_words schedule rounds compress hash_after digest_bytes digits
returns-clause-manifest c = refl

pub returns-clause-again : goal.returns-clause-again
unfolding encode_with sha1 first_words schedule rounds compress hash_after digest_bytes digits
returns-clause-again c = refl

pub returns-clause-changed : goal.returns-clause-changed
unfolding encode_with sha1 first_words schedule rounds compress hash_after digest_bytes digits
returns-clause-changed c = refl
