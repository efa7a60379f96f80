use Rattle.std.proofs.Common.{refl}
use Rattle.std.specs.Fmt.{digits}
use Rattle.hex.specs.Hex.{encode_with}
use Rattle.sha1.specs.Sha1.{sha1, first_words, schedule, rounds, compress, hash_after, digest_bytes}
use Rattle.hgs_model.proofs.imports.refused_copies.Goals as goal

pub returns-clause-unknown : goal.returns-clause-unknown
unfolding encode_with sha1 first_words schedule rounds compress hash_after digest_bytes digits
returns-clause-unknown c = refl

pub returns-clause-no_parent : goal.returns-clause-no_parent
unfolding encode_with sha1 first_words schedule rounds compress hash_after digest_bytes digits
returns-clause-no_parent c = refl

pub returns-clause-over : goal.returns-clause-over
unfolding encode_with sha1 first_words schedule rounds compress hash_after digest_bytes digits
returns-clause-over c = refl

pub returns-clause-source_first : goal.returns-clause-source_first
unfolding encode_with sha1 first_words schedule rounds compress hash_after digest_bytes digits
returns-clause-source_first c = refl

pub returns-clause-name_first : goal.returns-clause-name_first
unfolding encode_with sha1 first_words schedule rounds compress hash_after digest_bytes digits
returns-clause-name_first c = refl
