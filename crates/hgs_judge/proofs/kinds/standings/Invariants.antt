use Rattle.std.proofs.Common.{◌≡◌, take, replicate}
use Rattle.hgs_judge.specs.Kinds.{AreStandings, namings_in}
use Rattle.std.specs.Prelude.{None, false}
use Rattle.hgs_judge.proofs.kinds.standings.Given as goal

abbrev pub invariant-loop : goal.invariant-loop
invariant-loop l = l.standings.items ≡ replicate l.index (record { first = None; is_given = false; is_wrong = false })

abbrev pub invariant-loop-changeset : goal.invariant-loop-changeset
invariant-loop-changeset l = AreStandings (namings_in (take l.changeset l.namings)) l.parents l.standings.items
