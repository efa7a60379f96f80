use Rattle.std.proofs.Common.{◌∷◌, [], ◌++◌, sym, ap, ◌∙◌, append-nil}
use Rattle.hgs_files.specs.declared.op.Op.TheVariants.{Rename}
use Rattle.hgs_transaction.proofs.gathered.Gathered.rename_index.Goals as goal

pub returns-clause-adds : goal.returns-clause-adds
returns-clause-adds c =
    let old = c.args.self.now in
    let from = c.in_ok-from.ensures in
    let to = c.in_ok-to.ensures in record {
      journal = c.in_ok-push.ensures.items ∙ ap (λ l. old.journal.items ++ l ∷ []) c.in_ok-journal_line.ensures;
      backups = sym (append-nil old.backups.items);
      kept = sym (append-nil old.kept.items);
      texts = sym (append-nil old.texts.items);
      ops = c.in_ok-push-2.ensures.items ∙ λ i. old.ops.items ++ Rename (from i) (to i) ∷ [];
    }
