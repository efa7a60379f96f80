-- Calls that were refused, one after another.
use Rattle.std.proofs.Common.{ℕ, ◌+◌, ◌≤◌, arith}
use Rattle.hgs_machine.specs.Refusals.{WereRefused}

pub none-refused : (f d : ℕ) → WereRefused 0 f f d d
none-refused f d = record { failed = 0; wanting = 0; all = omega arith; faults = omega arith; denied = omega arith }

pub fewer-refused : (m n f g d e : ℕ) → m ≤ n → WereRefused n f g d e → WereRefused m f g d e
fewer-refused m n f g d e less h = record { failed = h.failed; wanting = h.wanting; all = omega arith; faults = h.faults; denied = h.denied }

pub both-refused : (m n f g h d e i : ℕ) → WereRefused m f g d e → WereRefused n g h e i → WereRefused (m + n) f h d i
both-refused m n f g h d e i a b = record {
  failed = a.failed + b.failed;
  wanting = a.wanting + b.wanting;
  all = omega arith;
  faults = omega (arith, a.faults, b.faults);
  denied = omega (arith, a.denied, b.denied);
}
