use Rattle.std.proofs.Common.{refl}
use Rattle.std.specs.Fmt.{digits}
use Rattle.hex.specs.Hex.{encode_with}
use Rattle.sha1.specs.Sha1.{sha1, first_words, schedule, rounds, compress, hash_after, digest_bytes}
use Rattle.hgs_model.proofs.examples.bookmarks_move.Goals as goal

pub returns-clause-same : goal.returns-clause-same
unfolding encode_with sha1 first_words schedule rounds compress hash_after digest_bytes digits
returns-clause-same c = refl

pub returns-clause-gone : goal.returns-clause-gone
unfolding encode_with sha1 first_words schedule rounds compress hash_after digest_bytes digits
returns-clause-gone c = refl

pub returns-clause-order : goal.returns-clause-order
unfolding encode_with sha1 first_words schedule rounds compress hash_after digest_bytes digits
returns-clause-order c = refl
