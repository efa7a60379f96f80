use Rattle.std.proofs.Common.{◌≤◌, ◌∙◌, length, sym, ap, subst, arith}
use Rattle.std.specs.Prelude.{nat_le}
use Rattle.std.proofs.lemmas.Bool.Decides.{nat_tests}
use Rattle.std.proofs.lemmas.List.{length-map}
use mathlib.Core.List.{IsPrefix}
use Rattle.hgs_session.specs.Noted.{call_of}
use Rattle.hgs_session.proofs.Fronts.{prefix_map, prefix_shorter}
use Rattle.hgs_session.proofs.history.Front.begins.Goals as goal

pub returns : goal.returns
returns g c = record {
  order =
      let self = c.self.invariant.0 ∙ sym (length-map c.self.inside.seen.log (call_of g.F.Told.log)) in
      let other = c.other.invariant.0 ∙ sym (length-map c.other.inside.seen.log (call_of g.F.Told.log)) in
      rw (← c.self.view_is, ← c.other.view_is) (λ i. nat_le (self i) (other i));
  prefix = λ e.
      let both = c.learn.new.self.log in
      let this : IsPrefix c.self.inside.seen.log both = subst (λ l. IsPrefix l both) (ap (λ s. s.log) c.again-both.ensures) c.learn.ensures.2 in
      let le : c.self.inside.count ≤ c.other.inside.count = grind (arith, nat_tests) in
      let less : length c.self.inside.seen.log ≤ length c.other.inside.seen.log = omega (arith, le, c.self.invariant.0, c.other.invariant.0) in
      rw (← c.self.view_is, ← c.other.view_is)
      (prefix_map (call_of g.F.Told.log) c.self.inside.seen.log c.other.inside.seen.log (prefix_shorter c.self.inside.seen.log c.other.inside.seen.log both this c.learn.ensures.3 less));
}
