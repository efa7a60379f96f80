use Rattle.std.proofs.Common.{◌≡◌, ◌≤◌, length, sym, ◌∙◌, ap, subst}
use Rattle.std.specs.Prelude.{slice_get}
use Rattle.hgs_revlog.specs.Load.{most_revisions}
use Rattle.hgs_revlog.specs.Log.{place_of, stored_sum}
use Rattle.hgs_revlog.specs.Chains.{AreChains}
use Rattle.hgs_revlog.specs.Places.{chained, place_in}
use Rattle.hgs_revlog.proofs.revlog.Revlog.copy.Goals as goal

pub invariant_of-result : goal.invariant_of-result
invariant_of-result c =
    let same : c.in_ok-copy_of.field-0.items ≡ c.self.inside.entries.items = c.in_ok-copy_of.ensures ∙ c.deref.ensures.value in
    record {
      few = subst (λ es. length es ≤ most_revisions) (sym same) c.self.invariant.few;
      sum = c.self.invariant.sum ∙ ap stored_sum (sym same);
      short = c.self.invariant.short;
      low = λ rev e there. c.self.invariant.low rev e (ap (λ es. slice_get es rev) (sym same) ∙ there);
      chains = c.in_ok-copy.ensures.chains c.in_ok-copy_of.field-0.items (subst (λ es. AreChains c.self.inside.places.chains (chained c.self.inside.places es)) (sym same) c.self.invariant.chains);
      places = λ q. c.in_ok-copy.ensures.places c.in_ok-copy_of.field-0.items q ∙ ap (λ es. place_in c.self.inside.places es q) same ∙ c.self.invariant.places q ∙ ap (λ es. place_of es q) (sym same);
    }

pub returns : goal.returns
returns c = (λ i. record { inline = c.self.inside.inline; entries = (c.in_ok-copy_of.ensures ∙ c.deref.ensures.value) i }) ∙ c.self.view_is
