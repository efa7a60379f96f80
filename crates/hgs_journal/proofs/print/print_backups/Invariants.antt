use Rattle.std.proofs.Common.{◌≡◌, ◌++◌, drop}
use Rattle.std.specs.Prelude.{codes, flat_map}
use Rattle.hgs_bytes.specs.Bytes.{IsPrefixOf}
use Rattle.hgs_journal.specs.Texts.{backup_line, backups_text}
use Rattle.hgs_journal.proofs.print.print_backups.Given as goal

abbrev pub invariant-loop-line : goal.invariant-loop-line
invariant-loop-line l = record {
  left : l.into.items ++ flat_map (λ b. backup_line b (codes "0")) (drop l.line-index l.lines) ≡ l.fn.into.items ++ backups_text l.lines;
  front : IsPrefixOf l.fn.into.items l.into.items;
}
