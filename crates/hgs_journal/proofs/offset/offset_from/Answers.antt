use Rattle.std.proofs.Common.{rules, ◌≡◌, ℕ, List, Option, Some, None, decimal, true, false, sym, ◌∙◌, ap}
use Rattle.hgs_bytes.specs.Bytes.{same}
use Rattle.hgs_bytes.specs.Theorems.ByteLemmas.{same-refl}
use Rattle.hgs_journal.specs.Theorems.OffsetLemmas.{offset-found, offset-missing}
use Rattle.hgs_journal.proofs.offset.offset_from.Goals as goal

some_none : (o : Option ℕ) (n : ℕ) → o ≡ Some n → o ≡ None → ⊥
some_none o n e f = cc

some_is : (o : Option ℕ) (m n : ℕ) → o ≡ Some n → o ≡ Some m → m ≡ n
some_is o m n e f = cc

differs : (m n : ℕ) (text : List ℕ) → same (decimal m) text ≡ false → m ≡ n → text ≡ decimal n → ⊥
differs m n text e is spelled = no (sym (same-refl (decimal n)) ∙ ap (same (decimal n)) (sym spelled) ∙ ap (λ k. same (decimal k) text) (sym is) ∙ e)
  where
    no : true ≡ false → ⊥
    no h = cc

pub returns-in_err-number : goal.returns-in_err-number
returns-in_err-number c = c.from_residual.ensures ∙ sym (offset-missing c.args.text.now (λ n few e. some_none c.parsed.result n (c.parsed.ensures n few e) c.in_err-number.was))

pub returns-then-spells : goal.returns-then-spells
returns-then-spells c = sym (offset-found c.in_ok-number.number c.args.text.now (search rules) (sym c.spells.ensures ∙ c.if-spells.true))

pub returns-else-spells : goal.returns-else-spells
returns-else-spells c =
    sym (offset-missing c.args.text.now (λ n few e.
    differs c.in_ok-number.number n c.args.text.now (sym c.spells.ensures ∙ c.if-spells.false) (some_is c.parsed.result c.in_ok-number.number n (c.parsed.ensures n few e) c.in_ok-number.was) e))
