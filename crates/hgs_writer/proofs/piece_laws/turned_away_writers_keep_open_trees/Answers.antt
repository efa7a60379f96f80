use Rattle.hgs_files.specs.Tree.{after_all}
use Rattle.hgs_legal.specs.Theorems.TreeFacts.{other-path, same-sym}
use Rattle.hgs_ops.specs.Operations.{lock_path, strays, wlock_path}
use Rattle.hgs_writer.proofs.AwayLemmas.{turned-away-others}
use Rattle.hgs_writer.proofs.UnderLemmas.{not-lock}
use Rattle.hgs_writer.proofs.piece_laws.turned_away_writers_keep_open_trees.Goals as goal

pub returns : goal.returns
returns c = λ t r who why swept log d is away stop.
    let lead = c.undo_leads_back.ensures.read strays t is.0 is.1 in (
      is.0,
      (c.transactions_stay_covered.ensures.locks strays t (after_all d t) is.0 lead.0 lead.1 lead.2
          (λ path free. let n = not-lock path free in turned-away-others t who why swept log d away stop path (other-path wlock_path path (same-sym path wlock_path n.0)) (other-path lock_path path (same-sym path lock_path n.1)))).covers,
      is.2,
    )
