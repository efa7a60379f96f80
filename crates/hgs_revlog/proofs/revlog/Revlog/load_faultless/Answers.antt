use Rattle.std.proofs.Common.{◌≡◌, ◌≤◌, Ok, length, sym, subst}
use Rattle.std.specs.Prelude.{IfSome}
use Rattle.hgs_revlog.specs.declared.revlog.Fitting.{Fitting}
use Rattle.hgs_revlog.specs.declared.places.Places.{Places}
use Rattle.hgs_revlog.specs.Load.{loaded, most_data, most_revisions}
use Rattle.hgs_revlog.specs.Loaded.{HaveOwnNodes}
use Rattle.hgs_revlog.specs.Log.{place_of, stored_sum}
use Rattle.hgs_revlog.specs.Places.{place_in}
use Rattle.hgs_revlog.specs.Chains.{AreChains}
use Rattle.hgs_revlog.proofs.PlacesLemmas.{chains_all}
use Rattle.hgs_revlog.proofs.FittingLemmas.{loaded_low, loaded_short, separate}
use Rattle.hgs_revlog.proofs.revlog.Revlog.load_faultless.Goals as goal

pub invariant_of-result : goal.invariant_of-result
invariant_of-result c =
    let entries = c.in-Some.fitting.entries.items in
    let few : length entries ≤ most_revisions = subst (λ o. IfSome o (λ (f : Fitting). length f.entries.items ≤ most_revisions)) c.in-Some.is c.in_ok-fitting.ensures.few in
    let sum : c.in-Some.fitting.end ≡ stored_sum entries = subst (λ o. IfSome o (λ (f : Fitting). f.end ≡ stored_sum f.entries.items)) c.in-Some.is c.in_ok-fitting.ensures.sum in
    let loads : HaveOwnNodes entries → loaded c.args.tail c.args.index.now ≡ Ok (separate entries) = subst (λ o. IfSome o (λ (f : Fitting). HaveOwnNodes f.entries.items → loaded c.args.tail c.args.index.now ≡ Ok (separate f.entries.items))) c.in-Some.is c.in_ok-fitting.ensures.loads in
    let chains : AreChains c.in-Some-2.places.chains entries = subst (AreChains c.in-Some-2.places.chains) c.deref.ensures.value (subst (λ o. IfSome o (λ (p : Places). AreChains p.chains c.deref.result.now)) c.in-Some-2.is c.in_ok-places.ensures.chains) in
    let own : HaveOwnNodes entries = chains.own in
    record {
      few = few;
      sum = sum;
      short = subst (λ n. n ≤ most_data) (sym sum) (loaded_short c.args.tail c.args.index.now entries (loads own));
      low = loaded_low c.args.tail c.args.index.now entries (loads own);
      chains = chains_all c.in-Some-2.places entries chains;
      places = subst (λ es. (node : _) → place_in c.in-Some-2.places es node ≡ place_of es node) c.deref.ensures.value
          (subst (λ o. IfSome o (λ (p : Places). (node : _) → place_in p c.deref.result.now node ≡ place_of c.deref.result.now node)) c.in-Some-2.is c.in_ok-places.ensures.places);
    }
