use Rattle.std.proofs.Common.{refl}
use Rattle.std.specs.Fmt.{digits}
use Rattle.hex.specs.Hex.{encode_with}
use Rattle.sha1.specs.Sha1.{sha1, first_words, schedule, rounds, compress, hash_after, digest_bytes}
use Rattle.hgs_model.proofs.examples.nodes_of_changesets.Goals as goal

pub returns-clause-merged : goal.returns-clause-merged
unfolding encode_with sha1 first_words schedule rounds compress hash_after digest_bytes digits
returns-clause-merged c = refl

pub returns-clause-two : goal.returns-clause-two
unfolding encode_with sha1 first_words schedule rounds compress hash_after digest_bytes digits
returns-clause-two c = refl
