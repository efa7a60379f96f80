use Rattle.std.proofs.Common.{◌≡◌, ◌≤◌, All, vec_len}
use Rattle.hgs_os.proofs.yard.readers_over.Given as goal

abbrev pub invariant-loop : goal.invariant-loop
invariant-loop l = (l.counter ≤ l.n) × (vec_len l.readers ≡ l.counter) × All (λ r. (r.files.tally.faults ≡ 0) × (r.files.tally.denied ≡ 0)) l.readers.items
