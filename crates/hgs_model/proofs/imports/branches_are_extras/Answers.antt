use Rattle.std.proofs.Common.{refl}
use Rattle.std.specs.Fmt.{digits}
use Rattle.hex.specs.Hex.{encode_with}
use Rattle.sha1.specs.Sha1.{sha1, first_words, schedule, rounds, compress, hash_after, digest_bytes}
use Rattle.hgs_model.proofs.imports.branches_are_extras.Goals as goal

pub returns-clause-answer : goal.returns-clause-answer
unfolding encode_with sha1 first_words schedule rounds compress hash_after digest_bytes digits
returns-clause-answer c = refl

pub returns-clause-extras : goal.returns-clause-extras
unfolding encode_with sha1 first_words schedule rounds compress hash_after digest_bytes digits
returns-clause-extras c = refl
