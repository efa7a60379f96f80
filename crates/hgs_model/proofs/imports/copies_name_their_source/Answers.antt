use Rattle.std.proofs.Common.{refl}
use Rattle.std.specs.Fmt.{digits}
use Rattle.hex.specs.Hex.{encode_with}
use Rattle.sha1.specs.Sha1.{sha1, first_words, schedule, rounds, compress, hash_after, digest_bytes}
use Rattle.hgs_model.proofs.imports.copies_name_their_source.Goals as goal

pub returns-clause-answer : goal.returns-clause-answer
unfolding encode_with sha1 first_words schedule rounds compress hash_after digest_bytes digits
returns-clause-answer c = refl

pub returns-clause-length : goal.returns-clause-length
unfolding encode_with sha1 first_words schedule rounds compress hash_after digest_bytes digits
returns-clause-length c = refl

pub returns-clause-node : goal.returns-clause-node
unfolding encode_with sha1 first_words schedule rounds compress hash_after digest_bytes digits
returns-clause-node c = refl

pub returns-clause-moved : goal.returns-clause-moved
unfolding encode_with sha1 first_words schedule rounds compress hash_after digest_bytes digits
returns-clause-moved c = refl
