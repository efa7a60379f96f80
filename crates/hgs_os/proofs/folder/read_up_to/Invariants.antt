use Rattle.std.proofs.Common.{◌≡◌, ◌≤◌, ◌++◌, length, List, ℕ}
use Rattle.hgs_os.proofs.folder.read_up_to.Given as goal

abbrev pub invariant-loop : goal.invariant-loop
invariant-loop g l = (l.start ≡ length l.initial.into.items) × (l.count ≤ l.most) × (l.most ≡ l.initial.most) × (more : List ℕ) × (l.into.items ≡ l.initial.into.items ++ more) × (length more ≡ l.count)
