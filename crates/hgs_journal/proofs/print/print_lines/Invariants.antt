use Rattle.std.proofs.Common.{◌≡◌, ◌++◌, drop}
use Rattle.hgs_bytes.specs.Bytes.{IsPrefixOf}
use Rattle.hgs_journal.specs.Texts.{journal_text}
use Rattle.hgs_journal.proofs.print.print_lines.Given as goal

abbrev pub invariant-loop-line : goal.invariant-loop-line
invariant-loop-line l = record {
  left : l.into.items ++ journal_text (drop l.line-index l.lines) ≡ l.fn.into.items ++ journal_text l.lines;
  front : IsPrefixOf l.fn.into.items l.into.items;
}
