use Rattle.std.proofs.Common.{refl}
use Rattle.std.specs.Fmt.{digits}
use Rattle.std.specs.Str.{is_utf8, chars}
use lib.Utf8.{encode}
use Rattle.hex.specs.Hex.{encode_with, decode_pairs}
use Rattle.hgs_index.specs.ChangeText.{split_at_blank, header_lines, when_at, number_within}
use Rattle.sha1.specs.Sha1.{sha1, first_words, schedule, rounds, compress, hash_after, digest_bytes}
use Rattle.std.specs.Prelude.{List, [], ◌∷◌, ℕ, codes, unwrap_or}
use Rattle.hgs_index.specs.ChangeText.{Change}
use Rattle.hgs_index.specs.Revision.{Revision}
use Rattle.hgs_findings.specs.Findings as found
use Rattle.hgs_findings.specs.Reading.{sight_of}
use Rattle.hgs_findings.specs.Samples.{drafts_listing, listing_files, needless}
use Rattle.hgs_findings.specs.Sight.{Seen, no_change, seen_of}
use Rattle.hgs_findings.proofs.examples.lists_of_changed_files.Goals as goal

abbrev second_of : List Revision → Revision
second_of [] = needless
second_of (r ∷ []) = needless
second_of (r ∷ s ∷ revisions) = s

abbrev seen_second : List (List ℕ) → Seen
seen_second files = seen_of (sight_of (listing_files files)) (second_of (drafts_listing files))

abbrev change_second : List (List ℕ) → Change
change_second files = unwrap_or (seen_second files).change no_change

pub returns-clause-lacks : goal.returns-clause-lacks
unfolding encode encode_with decode_pairs split_at_blank header_lines when_at number_within is_utf8 chars sha1 first_words schedule rounds compress hash_after digest_bytes digits
returns-clause-lacks c = found.wrongly_listed 1 (seen_second []) (change_second []) (codes "b") refl refl refl

pub returns-clause-more : goal.returns-clause-more
unfolding encode encode_with decode_pairs split_at_blank header_lines when_at number_within is_utf8 chars sha1 first_words schedule rounds compress hash_after digest_bytes digits
returns-clause-more c = found.wrongly_listed 1 (seen_second (codes "a" ∷ codes "b" ∷ [])) (change_second (codes "a" ∷ codes "b" ∷ [])) (codes "a") refl refl refl
