use Rattle.std.proofs.Common.{sym}
use Rattle.hgs_bytes.specs.Theorems.TextLemmas.{lines_split, lines_last_of, split_shorter}
use Rattle.hgs_bytes.proofs.parts.next_line.Goals as goal

pub returns-in-Some-clause-lines : goal.returns-in-Some-clause-lines
returns-in-Some-clause-lines c = lines_split c.args.text.now (c.in-Some.line.now, c.in-Some.rest.now) (sym c.in-Some.ensures)

pub returns-in-Some-clause-shorter : goal.returns-in-Some-clause-shorter
returns-in-Some-clause-shorter c = split_shorter 10 c.args.text.now (c.in-Some.line.now, c.in-Some.rest.now) (sym c.in-Some.ensures)

pub returns-in-None-clause-lines : goal.returns-in-None-clause-lines
returns-in-None-clause-lines c = lines_last_of c.args.text.now c.requires (sym c.in-None.ensures)
