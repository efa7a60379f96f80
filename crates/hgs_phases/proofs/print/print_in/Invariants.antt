use Rattle.std.proofs.Common.{◌≡◌, ◌++◌, drop}
use Rattle.hgs_bytes.specs.Bytes.{IsPrefixOf}
use Rattle.hgs_phases.specs.Printed.{roots_in}
use Rattle.hgs_phases.specs.Roots.{roots_text}
use Rattle.hgs_phases.proofs.print.print_in.Given as goal

abbrev pub invariant-loop-rev : goal.invariant-loop-rev
invariant-loop-rev l = record {
  left : l.into.items ++ roots_text (roots_in l.phase l.phases l.rev (drop l.rev l.known.entries)) ≡ l.fn.into.items ++ roots_text (roots_in l.phase l.phases 0 l.known.entries);
  front : IsPrefixOf l.fn.into.items l.into.items;
}
