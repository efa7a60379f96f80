use Rattle.std.proofs.Common.{◌∙◌, ap, arith}
use Rattle.std.proofs.lemmas.Bool.Decides.{nat_tests}
use Rattle.hgs_journal.specs.Names.{place, new_name}
use Rattle.hgs_journal.proofs.UndoSteps.{both_ops}
use Rattle.hgs_journal.proofs.undo.add_backup.Goals as goal

pub returns : goal.returns
returns c =
    both_ops c.args.line.now c.args.kept.now c.in_ok-bytes.bytes c.in_ok-path.path c.in_ok-from.from c.in_ok-file.file c.args.ops.now.items c.push-2.new.self.items c.push-3.new.self.items
    (let filled = c.is_empty.ensures in let test = c.if-is_empty.false in grind (arith, nat_tests, filled, test))
    c.in_ok-push-2.ensures.items c.in_ok-push-3.ensures.items c.in_ok-bytes.ensures (c.in_ok-path.ensures ∙ ap (place c.args.line.now.plain) (c.deref.ensures.value ∙ c.in_ok-new.ensures ∙ ap new_name c.as_slice-2.ensures)) c.in_ok-from.ensures (c.in_ok-file.ensures ∙ ap (place c.args.line.now.plain) c.as_slice.ensures)
