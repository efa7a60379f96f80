use Rattle.std.proofs.Common.{sym}
use Rattle.hgs_bytes.specs.Theorems.TextLemmas.{split_shorter}
use Rattle.hgs_branch.proofs.ExtrasLemmas.{items_split, items_last}
use Rattle.hgs_branch.proofs.extras.first_item.Goals as goal

pub returns-in-Some-clause-last : goal.returns-in-Some-clause-last
returns-in-Some-clause-last c = items_split c.args.text.now (c.in-Some.item.now, c.in-Some.rest.now) (sym c.in-Some.ensures)

pub returns-in-Some-clause-shorter : goal.returns-in-Some-clause-shorter
returns-in-Some-clause-shorter c = split_shorter 0 c.args.text.now (c.in-Some.item.now, c.in-Some.rest.now) (sym c.in-Some.ensures)

pub returns-in-None-clause-last : goal.returns-in-None-clause-last
returns-in-None-clause-last c = items_last c.args.text.now (sym c.in-None.ensures)
