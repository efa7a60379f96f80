use Rattle.std.proofs.Common.{refl}
use Rattle.std.specs.Fmt.{digits}
use Rattle.hex.specs.Hex.{encode_with, decode_pairs}
use Rattle.sha1.specs.Sha1.{sha1, first_words, schedule, rounds, compress, hash_after, digest_bytes}
use Rattle.hgs_model.proofs.examples.names_of_revisions.Goals as goal

pub returns-clause-draft : goal.returns-clause-draft
unfolding encode_with decode_pairs sha1 first_words schedule rounds compress hash_after digest_bytes digits
returns-clause-draft c = refl

pub returns-clause-bookmark : goal.returns-clause-bookmark
unfolding encode_with decode_pairs sha1 first_words schedule rounds compress hash_after digest_bytes digits
returns-clause-bookmark c = refl

pub returns-clause-empty : goal.returns-clause-empty
unfolding encode_with decode_pairs sha1 first_words schedule rounds compress hash_after digest_bytes digits
returns-clause-empty c = refl
