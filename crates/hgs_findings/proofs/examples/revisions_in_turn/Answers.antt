use Rattle.std.proofs.Common.{◌≡◌, ℕ, ◌<◌, refl, true, inl, inr, arith}
use Rattle.std.specs.Prelude.{nat_lt}
use Rattle.std.proofs.lemmas.Bool.Decides.{nat_tests}
use Rattle.hgs_findings.proofs.examples.revisions_in_turn.Goals as goal

small : (a b : ℕ) → nat_lt a b ≡ true → a < b
small a b e = grind (arith, nat_tests, e)

pub returns-clause-built : goal.returns-clause-built
returns-clause-built c = (
  inr (record { r = _; there = refl; is = refl; parents = refl; link = refl }),
  (
    inr (record { r = _; there = refl; is = refl; parents = refl; link = refl }),
    (
      (refl, small 0 2 refl),
      (
        inr (record { r = _; there = refl; is = refl; parents = refl; link = refl }),
        (inl (record { r = _; there = refl; below = small 2 3 refl; parents = refl }), refl),
      ),
    ),
  ),
)

pub returns-clause-told : goal.returns-clause-told
returns-clause-told c = (small 0 3 refl, tt, (small 1 3 refl, tt, (small 0 3 refl, small 0 2 refl, (small 2 3 refl, tt, (small 2 3 refl, tt, tt)))))
