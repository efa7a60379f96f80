use Rattle.std.proofs.Common.{◌∙◌}
use Rattle.hgs_load.specs.Marks.{bookmarks_answer, bookmarks_path, dirstate_answer, dirstate_path, roots_answer, roots_path}
use Rattle.hgs_load.specs.Open.{most_bookmarks_text, most_dirstate, most_requires, most_roots, requires_path}
use Rattle.hgs_load.specs.Requirements.{requires_answer}
use Rattle.hgs_load.proofs.IndexLemmas.{apart-rest, inline-rest, once-long, once-whole}
use Rattle.hgs_load.proofs.WholeLemmas.{index-read, whole-read}
use Rattle.hgs_load.proofs.laws.files_are_read_whole.Goals as goal

pub returns-clause-requires_file : goal.returns-clause-requires_file
returns-clause-requires_file c t few = whole-read t requires_path most_requires requires_answer few

pub returns-clause-bookmarks : goal.returns-clause-bookmarks
returns-clause-bookmarks c t few = whole-read t bookmarks_path most_bookmarks_text bookmarks_answer few

pub returns-clause-dirstate : goal.returns-clause-dirstate
returns-clause-dirstate c t few = whole-read t dirstate_path most_dirstate dirstate_answer few

pub returns-clause-roots : goal.returns-clause-roots
returns-clause-roots c t few = whole-read t roots_path most_roots roots_answer few

pub returns-clause-index : goal.returns-clause-index
returns-clause-index c t plain few = apart-rest t (λ r. r) plain ∙ index-read t few

pub returns-clause-inline_index : goal.returns-clause-inline_index
returns-clause-inline_index c t inline few = inline-rest t (λ r. r) inline ∙ once-whole t (λ r. r) few

pub returns-clause-long_index : goal.returns-clause-long_index
returns-clause-long_index c t inline many = inline-rest t (λ r. r) inline ∙ once-long t (λ r. r) inline many
