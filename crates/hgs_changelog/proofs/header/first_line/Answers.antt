use Rattle.std.proofs.Common.{sym}
use Rattle.hgs_bytes.specs.Theorems.TextLemmas.{split_shorter}
use Rattle.hgs_index.specs.Theorems.HeaderText.{header_lines_split, header_lines_last}
use Rattle.hgs_changelog.proofs.header.first_line.Goals as goal

pub returns-in-Some-clause-lines : goal.returns-in-Some-clause-lines
returns-in-Some-clause-lines c = header_lines_split c.args.text.now (c.in-Some.line.now, c.in-Some.rest.now) (sym c.in-Some.ensures)

pub returns-in-Some-clause-shorter : goal.returns-in-Some-clause-shorter
returns-in-Some-clause-shorter c = split_shorter 10 c.args.text.now (c.in-Some.line.now, c.in-Some.rest.now) (sym c.in-Some.ensures)

pub returns-in-None-clause-lines : goal.returns-in-None-clause-lines
returns-in-None-clause-lines c = header_lines_last c.args.text.now (sym c.in-None.ensures)
