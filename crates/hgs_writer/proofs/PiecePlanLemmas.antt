-- A plan has the parts of its transaction.
use Rattle.std.proofs.Common.{◌≡◌, ℕ, ◌+◌, List, [], ◌∷◌, ◌++◌, length, take, drop, map, sym, ◌∙◌, ap, arith, append_assoc, length-append}
use Rattle.std.proofs.lemmas.List.{length-map}
use Rattle.hgs_files.specs.declared.op.Op.{Op}
use Rattle.hgs_files.specs.declared.op.Op.TheVariants.{Create, Remove}
use Rattle.hgs_files.specs.Tree.{Tree}
use Rattle.hgs_journal.specs.Names.{journal_path}
use Rattle.hgs_legal.specs.LegalLog as legal
use Rattle.hgs_machine.specs.Course.{before_journal, between, through_publishing, through_removal}
use Rattle.hgs_model.specs.Repo.{Repo}
use Rattle.hgs_model.specs.declared.command.Command.{Command}
use Rattle.hgs_ops.specs.Operations.{Transaction, lock_path, operations, removals, transaction_of, wlock_path}
use Rattle.hgs_ops.specs.Replaced.{new_rename}
use Rattle.hgs_transaction.specs.Assembled.{IsPlanOf, before_commit, preparing}
use Rattle.hgs_transaction.specs.OfTransaction.{ArePartsOf}
use Rattle.hgs_transaction.specs.Parts.{all_changes, change_op, replacement_of}
use Rattle.hgs_transaction.specs.declared.assemble.Plan.{Plan}
use Rattle.hgs_transaction.specs.declared.parts.Change.{Change}
use Rattle.hgs_transaction.specs.declared.parts.Change.TheVariants.{Replace}
use Rattle.hgs_transaction.specs.declared.parts.Parts.{Parts}
use Rattle.hgs_writer.proofs.ListLemmas.{front, slice}

-- the lists of a plan are those of a transaction
pub record AreListsOf (plan : Plan) (who : List ℕ) (x : Transaction) : Type 0 where
  pub before : Create wlock_path who ∷ Create lock_path who ∷ before_journal plan ≡ x.before
  pub through : through_publishing plan ≡ legal.through_publishing x
  pub removal : through_removal plan ≡ legal.through_removal x
  pub undo : plan.undo.items ≡ x.undo

-- a list in parts, and the places of these
pub record IsInParts (ops p c r s : List Op) (j q k : Op) (journal publish commit : ℕ) : Type 0 where
  pub whole : ops ≡ p ++ j ∷ (c ++ q ∷ (r ++ k ∷ s))
  pub at_journal : journal ≡ length p
  pub at_publish : publish ≡ length p + 1 + length c
  pub at_commit : commit ≡ length p + 1 + length c + 1 + length r

module _ (ops p c r s : List Op) (j q k : Op) (journal publish commit : ℕ) (parts : IsInParts ops p c r s j q k journal publish commit) where
  part-before : take journal ops ≡ p
  part-before = ap (take journal) parts.whole ∙ front p (j ∷ (c ++ q ∷ (r ++ k ∷ s))) journal parts.at_journal

  part-through : between journal (publish + 1) ops ≡ j ∷ (c ++ q ∷ [])
  part-through =
      let split : ops ≡ p ++ ((j ∷ (c ++ q ∷ [])) ++ (r ++ k ∷ s)) = parts.whole ∙ ap (λ l. p ++ j ∷ l) (sym (append_assoc c (q ∷ []) (r ++ k ∷ s))) in
      let len = length-append c (q ∷ []) in
      let a = parts.at_publish in
      ap (between journal (publish + 1)) split ∙ slice p (j ∷ (c ++ q ∷ [])) (r ++ k ∷ s) journal (publish + 1) parts.at_journal (omega (arith, a, len))

  part-removal : between (publish + 1) (commit + 1) ops ≡ r ++ k ∷ []
  part-removal =
      let split : ops ≡ (p ++ (j ∷ (c ++ q ∷ []))) ++ ((r ++ k ∷ []) ++ s) =
      parts.whole ∙ ap (λ l. p ++ j ∷ l) (sym (append_assoc c (q ∷ []) (r ++ k ∷ s))) ∙ sym (append_assoc p (j ∷ (c ++ q ∷ [])) (r ++ k ∷ s))
      ∙ ap (λ l. (p ++ (j ∷ (c ++ q ∷ []))) ++ l) (sym (append_assoc r (k ∷ []) s)) in
      let len = length-append c (q ∷ []) in
      let len_p = length-append p (j ∷ (c ++ q ∷ [])) in
      let len_r = length-append r (k ∷ []) in
      let a = parts.at_publish in
      let b = parts.at_commit in
      ap (between (publish + 1) (commit + 1)) split
      ∙ slice (p ++ (j ∷ (c ++ q ∷ []))) (r ++ k ∷ []) s (publish + 1) (commit + 1) (omega (arith, a, len, len_p)) (omega (arith, a, b, len, len_p, len_r))

-- ---- the places of a plan

module _ (t : Tree) (r next : Repo) (command : Command) (who : List ℕ) (p : Parts) (plan : Plan) (are : ArePartsOf t r command next p) (is : IsPlanOf p plan)
    (ops_are : Create wlock_path who ∷ Create lock_path who ∷ plan.ops.items ≡ operations (transaction_of t r command who next)) (undo_is : plan.undo.items ≡ (transaction_of t r command who next).undo) where
  abbrev prepared : List Op
  prepared = drop 2 (transaction_of t r command who next).before

  plan-in-parts : IsInParts plan.ops.items prepared (transaction_of t r command who next).changes (transaction_of t r command who next).renames removals (transaction_of t r command who next).journal (transaction_of t r command who next).publish (Remove journal_path) plan.journal plan.publish plan.commit
  plan-in-parts =
      let y = transaction_of t r command who next in
      let whole : plan.ops.items ≡ prepared ++ y.journal ∷ (y.changes ++ y.publish ∷ (y.renames ++ Remove journal_path ∷ removals)) =
      ap (λ l. drop 2 l) (ops_are ∙ append_assoc (y.before ++ y.journal ∷ y.changes) (y.publish ∷ y.renames) (Remove journal_path ∷ removals) ∙ append_assoc y.before (y.journal ∷ y.changes) (y.publish ∷ (y.renames ++ Remove journal_path ∷ removals))) in
      let changes : length y.changes ≡ length p.before = sym (ap (λ l. length l) are.before) ∙ length-map p.before change_op in
      let renames : length y.renames ≡ length p.after = sym (ap (λ l. length l) are.after) ∙ length-map p.after (λ z. new_rename (replacement_of z)) in
      let replaced : List Change = map (λ z. Replace z) p.after in
      let all_len : length (all_changes p) ≡ length p.before + (1 + length p.after) = (
      let a = length-append p.before (p.publishing ∷ replaced) in
      let b : length replaced ≡ length p.after = length-map p.after (λ z. Replace z) in
      omega (arith, a, b)
      ) in
      let journal = is.journal in
      let publish : plan.publish ≡ length (preparing p) + length p.before = is.publish ∙ length-append (preparing p) (map change_op p.before) ∙ ap (λ n. length (preparing p) + n) (length-map p.before change_op) in
      let commit : plan.commit ≡ length (preparing p) + length (all_changes p) = is.commit ∙ length-append (preparing p) (map change_op (all_changes p)) ∙ ap (λ n. length (preparing p) + n) (length-map (all_changes p) change_op) in
      let total : length plan.ops.items ≡ length (before_commit p) + (1 + length removals) = ap (λ l. length l) is.ops ∙ length-append (before_commit p) (Remove journal_path ∷ removals) in
      let by_commit = is.commit in
      let parts : length plan.ops.items ≡ length prepared + (1 + (length y.changes + (1 + (length y.renames + (1 + length removals))))) = (
      let a = ap (λ l. length l) whole in
      let b = length-append prepared (y.journal ∷ (y.changes ++ y.publish ∷ (y.renames ++ Remove journal_path ∷ removals))) in
      let c = length-append y.changes (y.publish ∷ (y.renames ++ Remove journal_path ∷ removals)) in
      let d = length-append y.renames (Remove journal_path ∷ removals) in
      omega (arith, a, b, c, d)
      ) in
      record {
        whole = whole;
        at_journal = omega (arith, changes, renames, all_len, journal, commit, total, by_commit, parts);
        at_publish = omega (arith, changes, renames, all_len, journal, publish, commit, total, by_commit, parts);
        at_commit = omega (arith, changes, renames, all_len, journal, publish, commit, total, by_commit, parts);
      }

  pub lists-are : AreListsOf plan who (transaction_of t r command who next)
  lists-are =
      let y = transaction_of t r command who next in
      let o = plan.ops.items in
      record {
        before = ap (λ l. Create wlock_path who ∷ Create lock_path who ∷ l) (part-before o prepared y.changes y.renames removals y.journal y.publish (Remove journal_path) plan.journal plan.publish plan.commit plan-in-parts);
        through = part-through o prepared y.changes y.renames removals y.journal y.publish (Remove journal_path) plan.journal plan.publish plan.commit plan-in-parts;
        removal = part-removal o prepared y.changes y.renames removals y.journal y.publish (Remove journal_path) plan.journal plan.publish plan.commit plan-in-parts;
        undo = undo_is;
      }
