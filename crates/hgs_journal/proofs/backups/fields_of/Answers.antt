use Rattle.std.proofs.Common.{sym, ◌∙◌, ap}
use Rattle.std.specs.Prelude.{option_map}
use Rattle.hgs_journal.specs.Theorems.FieldLemmas.{one_field, two_fields, three_fields, four_fields, five_fields}
use Rattle.hgs_journal.proofs.backups.fields_of.Goals as goal

pub returns-in_err-location : goal.returns-in_err-location
returns-in_err-location c = ap (option_map _) c.from_residual.ensures ∙ sym (one_field c.args.line.now (sym c.in_err-location.ensures))

pub returns-in_err-file : goal.returns-in_err-file
returns-in_err-file c =
    ap (option_map _) c.from_residual-in_err-file.ensures
    ∙ sym (two_fields c.args.line.now (c.in_ok-location.location.now, c.in_ok-location.rest.now) (sym c.in_ok-location.ensures) (sym c.in_err-file.ensures))

pub returns-in_err-backup : goal.returns-in_err-backup
returns-in_err-backup c =
    ap (option_map _) c.from_residual-in_err-backup.ensures
    ∙ sym (three_fields c.args.line.now (c.in_ok-location.location.now, c.in_ok-location.rest.now) (c.in_ok-file.file.now, c.in_ok-file.rest.now) (sym c.in_ok-location.ensures) (sym c.in_ok-file.ensures)
    (sym c.in_err-backup.ensures))

pub returns-in-Some : goal.returns-in-Some
returns-in-Some c =
    sym (five_fields c.args.line.now (c.in_ok-location.location.now, c.in_ok-location.rest.now) (c.in_ok-file.file.now, c.in_ok-file.rest.now) (c.in_ok-backup.backup.now, c.in_ok-backup.cache.now)
    (c.in-Some.field-0.0.now, c.in-Some.field-0.1.now) (sym c.in_ok-location.ensures) (sym c.in_ok-file.ensures) (sym c.in_ok-backup.ensures) (sym c.in-Some.ensures))

pub returns-in-None : goal.returns-in-None
returns-in-None c =
    sym (four_fields c.args.line.now (c.in_ok-location.location.now, c.in_ok-location.rest.now) (c.in_ok-file.file.now, c.in_ok-file.rest.now) (c.in_ok-backup.backup.now, c.in_ok-backup.cache.now)
    (sym c.in_ok-location.ensures) (sym c.in_ok-file.ensures) (sym c.in_ok-backup.ensures) (sym c.in-None.ensures))
