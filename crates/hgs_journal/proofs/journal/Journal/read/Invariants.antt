use Rattle.std.proofs.Common.{◌≡◌, ◌+◌, ◌≤◌, length}
use Rattle.hgs_journal.specs.Read.{read_journal}
use Rattle.hgs_journal.proofs.ReadLemmas.{all_of}
use Rattle.hgs_journal.proofs.journal.Journal.read.Given as goal

abbrev pub invariant-loop-line : goal.invariant-loop-line
invariant-loop-line l = record {
  read : all_of l.lines.items l.number l.rest ≡ read_journal l.text;
  room : l.number + length l.rest ≤ length l.text;
}

abbrev pub decreases-loop-line : goal.decreases-loop-line
decreases-loop-line l = length l.rest
