use Rattle.std.proofs.Common.{◌≡◌, Bool, List, cond, sym, subst}
use Rattle.hgs_bytes.specs.Bytes.{IsPrefixOf}
use Rattle.hgs_files.specs.declared.op.Op.{Op}
use Rattle.hgs_files.specs.Tree.{after_all}
use Rattle.hgs_load.specs.Asks.{MayAnswer, at_rest}
use Rattle.hgs_load.specs.Refresh.{behind_log_asks, inline_whole_asks, log_after}
use Rattle.hgs_load.proofs.IndexLemmas.{once-moment, said-moment}
use Rattle.hgs_load.proofs.laws.inline_indexes_are_read_at_once.Goals as goal

pub returns-clause-loaded : goal.returns-clause-loaded
returns-clause-loaded c start from last y inline m = said-moment start from last (λ r. r) start y inline m

pub returns-clause-again : goal.returns-clause-again
returns-clause-again c start from last old y was inline m =
    let P : Bool → Type 0 = λ b. MayAnswer start from (cond b (inline_whole_asks old.entries) (behind_log_asks old)) last y
    → (now : List Op) × IsPrefixOf from now × IsPrefixOf now last × (y ≡ at_rest (after_all now start) (cond b (inline_whole_asks old.entries) (behind_log_asks old))) in
    subst P (sym was) (λ m. once-moment start from last (log_after old.entries) start y inline m) m
