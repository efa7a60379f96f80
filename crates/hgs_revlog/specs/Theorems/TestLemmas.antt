-- What tests on numbers say.
use Rattle.std.proofs.Common.{◌≡◌, ℕ, ◌≤◌, false, not, arith}
use Rattle.std.specs.Prelude.{◌==◌, nat_lt}

pub same_number : (a b : ℕ) → not (a == b) ≡ false → a ≡ b
same_number a b h = grind arith

pub number_test : (a b : ℕ) → a ≡ b → not (a == b) ≡ false
number_test a b h = grind arith

pub at_most : (a b : ℕ) → nat_lt a b ≡ false → b ≤ a
at_most a b h = grind arith

pub at_most_test : (a b : ℕ) → b ≤ a → nat_lt a b ≡ false
at_most_test a b h = grind arith
