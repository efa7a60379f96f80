use Rattle.std.proofs.Common.{[], ◌∷◌, ◌++◌, map}
use Rattle.hgs_files.specs.declared.op.Op.TheVariants.{Remove}
use Rattle.hgs_journal.specs.Names.{journal_path}
use Rattle.hgs_ops.specs.Operations.{lock_path, strays, wlock_path}
use Rattle.hgs_transaction.proofs.OwnedLoops.{joined}
use Rattle.hgs_transaction.proofs.puts.add_removals.Goals as goal

pub returns : goal.returns
returns c =
    let e2 = joined c.args.ops.now.items c.add_removal.new.ops.items c.add_stray_removals.new.ops.items (Remove journal_path ∷ []) (map (λ path. Remove path) strays) c.in_ok-add_removal.ensures c.in_ok-add_stray_removals.ensures in
    let e3 = joined c.args.ops.now.items c.add_stray_removals.new.ops.items c.add_removal-2.new.ops.items (Remove journal_path ∷ map (λ path. Remove path) strays) (Remove lock_path ∷ []) e2 c.in_ok-add_removal-2.ensures in
    joined c.args.ops.now.items c.add_removal-2.new.ops.items c.add_removal-3.new.ops.items (Remove journal_path ∷ map (λ path. Remove path) strays ++ Remove lock_path ∷ []) (Remove wlock_path ∷ []) e3 c.in_ok-add_removal-3.ensures
