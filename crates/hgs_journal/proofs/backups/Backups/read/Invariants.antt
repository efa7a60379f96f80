use Rattle.std.proofs.Common.{◌≡◌, ◌+◌, ◌≤◌, length}
use Rattle.hgs_journal.specs.Read.{read_backups}
use Rattle.hgs_journal.proofs.ReadLemmas.{backups_so_far}
use Rattle.hgs_journal.proofs.backups.Backups.read.Given as goal

abbrev pub invariant-loop-rest : goal.invariant-loop-rest
invariant-loop-rest l = record {
  read : backups_so_far l.lines.items l.number l.rest ≡ read_backups l.text;
  room : l.number + length l.rest ≤ length l.text;
}

abbrev pub decreases-loop-rest : goal.decreases-loop-rest
decreases-loop-rest l = length l.rest
