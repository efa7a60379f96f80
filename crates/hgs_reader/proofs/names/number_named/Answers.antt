use Rattle.std.proofs.Common.{sym, ◌∙◌}
use Rattle.hgs_reader.proofs.NumberLemmas.{number_found, other_number, no_number}
use Rattle.hgs_reader.proofs.names.number_named.Goals as goal

pub returns-then-spells : goal.returns-then-spells
returns-then-spells c = sym (number_found c.args.count c.in-Some.number c.args.name.now c.ranges.count.fits (sym c.spells.ensures ∙ c.if-spells.true))

pub returns-else-spells : goal.returns-else-spells
returns-else-spells c = sym (other_number c.args.count c.in-Some.number c.args.name.now c.ranges.count.fits c.in-Some.ensures (sym c.spells.ensures ∙ c.if-spells.false))

pub returns-in-None : goal.returns-in-None
returns-in-None c = sym (no_number c.args.count c.args.name.now c.ranges.count.fits c.in-None.ensures)
