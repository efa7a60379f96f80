use Rattle.std.proofs.Common.{refl}
use Rattle.std.specs.Fmt.{digits}
use Rattle.std.specs.Str.{is_utf8, chars}
use lib.Utf8.{encode}
use Rattle.hex.specs.Hex.{encode_with, decode_pairs}
use Rattle.hgs_index.specs.ChangeText.{split_at_blank, header_lines, when_at, number_within}
use Rattle.sha1.specs.Sha1.{sha1, first_words, schedule, rounds, compress, hash_after, digest_bytes}
use Rattle.std.specs.Prelude.{codes}
use Rattle.hgs_findings.specs.Findings as found
use Rattle.hgs_findings.specs.Reading.{the_changelog, the_filelog}
use Rattle.hgs_findings.proofs.SampleLemmas.{inline-report}
use Rattle.hgs_findings.proofs.examples.inline_drafts.Goals as goal

pub returns-clause-report : goal.returns-clause-report
returns-clause-report c = inline-report c.two_drafts_stand.ensures

pub returns-clause-cut : goal.returns-clause-cut
unfolding encode encode_with decode_pairs split_at_blank header_lines when_at number_within is_utf8 chars sha1 first_words schedule rounds compress hash_after digest_bytes digits
returns-clause-cut c = found.index_rest (the_filelog (codes "a")) refl refl

pub returns-clause-fault : goal.returns-clause-fault
unfolding encode encode_with decode_pairs split_at_blank header_lines when_at number_within is_utf8 chars sha1 first_words schedule rounds compress hash_after digest_bytes digits
returns-clause-fault c = found.fault (the_filelog (codes "a")) refl refl

pub returns-clause-change_cut : goal.returns-clause-change_cut
unfolding encode encode_with decode_pairs split_at_blank header_lines when_at number_within is_utf8 chars sha1 first_words schedule rounds compress hash_after digest_bytes digits
returns-clause-change_cut c = found.index_rest the_changelog refl refl

pub returns-clause-change_fault : goal.returns-clause-change_fault
unfolding encode encode_with decode_pairs split_at_blank header_lines when_at number_within is_utf8 chars sha1 first_words schedule rounds compress hash_after digest_bytes digits
returns-clause-change_fault c = found.fault the_changelog refl refl
