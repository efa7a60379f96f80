use Rattle.std.proofs.Common.{◌∙◌, arith}
use Rattle.hgs_files.specs.Tree.{after_all}
use Rattle.hgs_load.specs.Open.{inline_log_asks, separate_log_asks}
use Rattle.hgs_load.specs.Refresh.{inline_whole_asks, separate_whole_asks}
use Rattle.hgs_load.specs.View.{changelog_index, piece_length}
use Rattle.hgs_load.specs.Theorems.FormLemmas.{may-apart, part-form}
use Rattle.hgs_load.proofs.IndexLemmas.{apart-rest}
use Rattle.hgs_load.proofs.laws.separate_indexes_are_asked.Goals as goal

pub returns-clause-rest : goal.returns-clause-rest
returns-clause-rest c t plain = apart-rest t (λ r. r) plain

pub returns-clause-moments : goal.returns-clause-moments
returns-clause-moments c start from last y plain m =
    may-apart start from last inline_log_asks separate_log_asks y (λ now f g. part-form (after_all now start) changelog_index piece_length (omega arith) ∙ plain now f g) m

pub returns-clause-again : goal.returns-clause-again
returns-clause-again c start from last old y plain m =
    may-apart start from last (inline_whole_asks old) (separate_whole_asks old) y (λ now f g. part-form (after_all now start) changelog_index piece_length (omega arith) ∙ plain now f g) m
