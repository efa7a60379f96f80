use Rattle.std.proofs.Common.{ℕ, List, [], ◌∷◌, map, take}
use Rattle.std.specs.Prelude.{codes}
use Rattle.hgs_files.specs.declared.op.Op.{Op}
use Rattle.hgs_files.specs.declared.op.Op.TheVariants.{Remove}
use Rattle.hgs_journal.specs.Names.{new_journal_path}
use Rattle.hgs_ops.specs.Operations.{new_changelog_path, strays}
use Rattle.hgs_transaction.proofs.OwnedLoops.{joined}
use Rattle.hgs_transaction.proofs.puts.add_stray_removals.Goals as goal

-- the first removals
abbrev front : ℕ → List Op
front n = map (λ path. Remove path) (take n strays)

pub returns : goal.returns
returns c =
    let e2 = joined c.args.ops.now.items c.add_removal.new.ops.items c.add_removal-2.new.ops.items (front 1) (Remove (codes "store/journal.backup.phaseroots") ∷ []) c.in_ok-add_removal.ensures c.in_ok-add_removal-2.ensures in
    let e3 = joined c.args.ops.now.items c.add_removal-2.new.ops.items c.add_removal-3.new.ops.items (front 2) (Remove (codes "store/journal.new.phaseroots") ∷ []) e2 c.in_ok-add_removal-3.ensures in
    let e4 = joined c.args.ops.now.items c.add_removal-3.new.ops.items c.add_removal-4.new.ops.items (front 3) (Remove (codes "journal.backup.dirstate") ∷ []) e3 c.in_ok-add_removal-4.ensures in
    let e5 = joined c.args.ops.now.items c.add_removal-4.new.ops.items c.add_removal-5.new.ops.items (front 4) (Remove (codes "journal.new.dirstate") ∷ []) e4 c.in_ok-add_removal-5.ensures in
    let e6 = joined c.args.ops.now.items c.add_removal-5.new.ops.items c.add_removal-6.new.ops.items (front 5) (Remove (codes "journal.backup.bookmarks") ∷ []) e5 c.in_ok-add_removal-6.ensures in
    let e7 = joined c.args.ops.now.items c.add_removal-6.new.ops.items c.add_removal-7.new.ops.items (front 6) (Remove (codes "journal.new.bookmarks") ∷ []) e6 c.in_ok-add_removal-7.ensures in
    let e8 = joined c.args.ops.now.items c.add_removal-7.new.ops.items c.add_removal-8.new.ops.items (front 7) (Remove (codes "journal.new.requires") ∷ []) e7 c.in_ok-add_removal-8.ensures in
    let e9 = joined c.args.ops.now.items c.add_removal-8.new.ops.items c.add_removal-9.new.ops.items (front 8) (Remove new_changelog_path ∷ []) e8 c.in_ok-add_removal-9.ensures in
    joined c.args.ops.now.items c.add_removal-9.new.ops.items c.add_removal-10.new.ops.items (front 9) (Remove new_journal_path ∷ []) e9 c.in_ok-add_removal-10.ensures
