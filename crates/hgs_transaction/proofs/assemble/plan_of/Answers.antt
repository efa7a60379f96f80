use Rattle.std.proofs.Common.{[], refl, ◌≡◌, ◌+◌, ◌∷◌, ◌++◌, length, ap, ◌∙◌, arith, length-append}
use Rattle.hgs_files.specs.declared.op.Op.{Op}
use Rattle.hgs_files.specs.declared.op.Op.TheVariants.{Remove, Rename}
use Rattle.hgs_journal.specs.Names.{journal_path, new_journal_path}
use Rattle.hgs_ops.specs.Operations.{removals}
use Rattle.hgs_transaction.specs.Gathered.{prepared}
use Rattle.hgs_transaction.proofs.PlanLemmas.{grown-by-one, ready, ready-most, undone-same}
use Rattle.hgs_transaction.proofs.assemble.plan_of.Goals as goal

pub overflow_add-publish : goal.overflow_add-publish
overflow_add-publish c =
    let most = ready-most c.args.gathered c.name_journal.new.ops.items (ready c.args.gathered c.new-ops.result.items c.add_backups.new.ops.items c.extend.new.ops.items c.add_list.new.ops.items c.add_journal.new.ops.items c.name_journal.new.ops.items c.as_slice.result.now c.from_vec-backup_lines.result c.from_vec-journal_lines.result c.new-ops.ensures.items c.as_slice.ensures c.from_vec-backup_lines.ensures c.from_vec-journal_lines.ensures c.in_ok-add_backups.ensures c.in_ok-extend.ensures c.in_ok-add_list.ensures c.in_ok-add_journal.ensures c.in_ok-name_journal.ensures) in
    let len = c.len.ensures in
    omega arith

pub overflow_cast-publish : goal.overflow_cast-publish
overflow_cast-publish c =
    let most = ready-most c.args.gathered c.name_journal.new.ops.items (ready c.args.gathered c.new-ops.result.items c.add_backups.new.ops.items c.extend.new.ops.items c.add_list.new.ops.items c.add_journal.new.ops.items c.name_journal.new.ops.items c.as_slice.result.now c.from_vec-backup_lines.result c.from_vec-journal_lines.result c.new-ops.ensures.items c.as_slice.ensures c.from_vec-backup_lines.ensures c.from_vec-journal_lines.ensures c.in_ok-add_backups.ensures c.in_ok-extend.ensures c.in_ok-add_list.ensures c.in_ok-add_journal.ensures c.in_ok-name_journal.ensures) in
    let len = c.len.ensures in
    omega arith

pub overflow_cast-journal_place : goal.overflow_cast-journal_place
overflow_cast-journal_place c =
    let named : Op = Rename new_journal_path journal_path in
    let most = ready-most c.args.gathered (c.add_journal.new.ops.items ++ named ∷ []) (ready c.args.gathered c.new-ops.result.items c.add_backups.new.ops.items c.extend.new.ops.items c.add_list.new.ops.items c.add_journal.new.ops.items (c.add_journal.new.ops.items ++ named ∷ []) c.as_slice.result.now c.from_vec-backup_lines.result c.from_vec-journal_lines.result c.new-ops.ensures.items c.as_slice.ensures c.from_vec-backup_lines.ensures c.from_vec-journal_lines.ensures c.in_ok-add_backups.ensures c.in_ok-extend.ensures c.in_ok-add_list.ensures c.in_ok-add_journal.ensures refl) in
    let len = c.len-journal_place.ensures in
    let both = length-append c.add_journal.new.ops.items (named ∷ []) in
    omega arith

pub overflow_cast-commit : goal.overflow_cast-commit
overflow_cast-commit c =
    let most = ready-most c.args.gathered c.name_journal.new.ops.items (ready c.args.gathered c.new-ops.result.items c.add_backups.new.ops.items c.extend.new.ops.items c.add_list.new.ops.items c.add_journal.new.ops.items c.name_journal.new.ops.items c.as_slice.result.now c.from_vec-backup_lines.result c.from_vec-journal_lines.result c.new-ops.ensures.items c.as_slice.ensures c.from_vec-backup_lines.ensures c.from_vec-journal_lines.ensures c.in_ok-add_backups.ensures c.in_ok-extend.ensures c.in_ok-add_list.ensures c.in_ok-add_journal.ensures c.in_ok-name_journal.ensures) in
    let whole = ap (λ o. length o) c.in_ok-extend-2.ensures in
    let both = length-append c.name_journal.new.ops.items c.args.gathered.ops.items in
    let len = c.len-commit.ensures in
    omega arith

pub returns : goal.returns
returns c =
    let done : c.name_journal.new.ops.items ≡ prepared c.args.gathered = ready c.args.gathered c.new-ops.result.items c.add_backups.new.ops.items c.extend.new.ops.items c.add_list.new.ops.items c.add_journal.new.ops.items c.name_journal.new.ops.items c.as_slice.result.now c.from_vec-backup_lines.result c.from_vec-journal_lines.result c.new-ops.ensures.items c.as_slice.ensures c.from_vec-backup_lines.ensures c.from_vec-journal_lines.ensures c.in_ok-add_backups.ensures c.in_ok-extend.ensures c.in_ok-add_list.ensures c.in_ok-add_journal.ensures c.in_ok-name_journal.ensures in
    let all : c.extend-2.new.ops.items ≡ prepared c.args.gathered ++ c.args.gathered.ops.items = c.in_ok-extend-2.ensures ∙ ap (λ o. o ++ c.args.gathered.ops.items) done in
    let len : c.len.result ≡ length c.name_journal.new.ops.items = omega arith in
    let len-all : c.len-commit.result ≡ length c.extend-2.new.ops.items = omega arith in
    record {
      ops = c.in_ok-add_removals.ensures ∙ ap (λ o. o ++ Remove journal_path ∷ removals) all;
      undo = c.in_ok-undo.ensures ∙ undone-same c.from_vec-journal_lines.result c.args.gathered.journal.items c.from_vec-backup_lines.result c.args.gathered.backups.items c.deref.result.now c.args.gathered.kept.items c.from_vec-journal_lines.ensures c.from_vec-backup_lines.ensures c.deref.ensures.value;
      journal = grown-by-one c.len-journal_place.result c.add_journal.new.ops.items c.name_journal.new.ops.items (prepared c.args.gathered) (Rename new_journal_path journal_path) (omega arith) c.in_ok-name_journal.ensures done;
      publish = ap (λ n. n + c.args.published) (len ∙ ap (λ o. length o) done);
      commit = len-all ∙ ap (λ o. length o) all;
      before = refl;
    }
