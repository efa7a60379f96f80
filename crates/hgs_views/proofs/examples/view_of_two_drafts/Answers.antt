use Rattle.std.proofs.Common.{refl, ◌∙◌}
use Rattle.std.specs.Fmt.{digits}
use Rattle.hex.specs.Hex.{encode_with}
use Rattle.sha1.specs.Sha1.{sha1, first_words, schedule, rounds, compress, hash_after, digest_bytes}
use Rattle.hgs_stands.specs.Samples.{two_drafts}
use Rattle.hgs_views.proofs.examples.view_of_two_drafts.Goals as goal

pub returns-clause-heads : goal.returns-clause-heads
unfolding encode_with sha1 first_words schedule rounds compress hash_after digest_bytes digits
returns-clause-heads c = λ t view is. (c.views_say_their_repository.ensures t two_drafts view c.two_drafts_stand.ensures.stands.repository is).heads ∙ refl

pub returns-clause-bookmarks : goal.returns-clause-bookmarks
unfolding encode_with sha1 first_words schedule rounds compress hash_after digest_bytes digits
returns-clause-bookmarks c = λ t view is. (c.views_say_their_repository.ensures t two_drafts view c.two_drafts_stand.ensures.stands.repository is).bookmarks ∙ refl

pub returns-clause-parents : goal.returns-clause-parents
unfolding encode_with sha1 first_words schedule rounds compress hash_after digest_bytes digits
returns-clause-parents c = λ t view is. (c.views_say_their_repository.ensures t two_drafts view c.two_drafts_stand.ensures.stands.repository is).parents ∙ refl
