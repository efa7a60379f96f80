use Rattle.std.proofs.Common.{◌≡◌, ◌<◌, ◌≤◌, ◌+◌, ◌-◌, ◌++◌, ◌∷◌, [], None, Some, cond, length, take, refl, arith, rules, sym, ◌∙◌, ap, subst}
use Rattle.std.specs.Prelude.{slice_get}
use Rattle.std.specs.Ordering.{nat_cmp}
use Rattle.std.specs.BTreeMap.{is_at}
use Rattle.std.specs.Cmp.Lexicographic.{slice_cmp}
use Rattle.std.proofs.lemmas.List.{length_push, take_at}
use Rattle.hgs_revlog.specs.Log.{place_of, stored_sum}
use Rattle.hgs_revlog.specs.Load.{fault_of, most_revisions}
use Rattle.hgs_revlog.specs.Places.{place_in}
use Rattle.hgs_revlog.specs.Theorems.LogLemmas.{place_push, sum_push}
use Rattle.hgs_revlog.specs.Theorems.LoadLemmas.{faultless}
use Rattle.hgs_revlog.proofs.LoadedLemmas.{low-push}
use Rattle.hgs_revlog.proofs.PlacesLemmas.{chains_kept, chains_more, place_more}
use Rattle.hgs_revlog.proofs.revlog.Revlog.append.Goals as goal

pub invariant_of-self-in-Ok : goal.invariant_of-self-in-Ok
invariant_of-self-in-Ok c =
    let items = c.in_ok-push.ensures.items in
    let old = c.self.inside.entries.items in
    let entry = c.args.entry in
    let was : c.args.self.now.entries ≡ old = ap (λ log. log.entries) (sym c.self.view_is) in
    let none : fault_of old entry ≡ None = ap (λ es. fault_of es entry) (sym was) ∙ c.requires.faultless in
    let fine = faultless old entry none in
    let places = c.self.inside.places in
    let few : length old < most_revisions = subst (λ es. length es < most_revisions) was c.requires.few in
    record {
      few = (let len = ap length items in omega (arith, len, few, length_push old entry));
      sum = ap (λ n. n + entry.stored) c.self.invariant.sum ∙ sym (sum_push old entry) ∙ ap stored_sum (sym items);
      short = (let offset = fine.offset in let fits = fine.data_end in let sum = c.self.invariant.sum in omega (arith, offset, fits, sum));
      low = low-push old c.push.new.self.items entry items c.self.invariant.low (let offset = fine.offset in let sum = c.self.invariant.sum in let short = c.self.invariant.short in omega (arith, offset, sum, short));
      chains = chains_more places c.put.new.self old c.push.new.self.items entry c.put.ensures.chains items c.self.invariant.chains;
      places = λ q. place_more places c.put.new.self old c.push.new.self.items entry c.put.ensures.chains items c.self.invariant.chains q
          ∙ place_push old entry (place_in places old) (place_in c.put.new.self old) c.self.invariant.places fine.fresh
          (λ r. c.in-Ok.ensures.ok old r (c.self.invariant.places entry.node.0 ∙ fine.fresh) ∙ ap (λ n. cond (is_at (slice_cmp nat_cmp entry.node.0) r) (Some n) (place_in places old r)) (search rules)) q
          ∙ ap (λ es. place_of es q) (sym items);
    }

pub invariant_of-self-in-Err : goal.invariant_of-self-in-Err
invariant_of-self-in-Err c =
    let items = c.in_ok-push.ensures.items in
    let old = c.self.inside.entries.items in
    let entry = c.args.entry in
    let last : length (old ++ entry ∷ []) - 1 ≡ length old = (let more = length_push old entry in omega (arith, more)) in
    let back : c.pop.new.self.items ≡ old = c.pop.ensures.rest ∙ ap (λ n. take (n - 1) c.push.new.self.items) c.push.new.self.ok.0 ∙ ap (λ l. take (length l - 1) l) items ∙ ap (λ n. take n (old ++ entry ∷ [])) last ∙ take_at old (entry ∷ []) (length old) refl in
    record {
      few = subst (λ es. length es ≤ most_revisions) (sym back) c.self.invariant.few;
      sum = c.self.invariant.sum ∙ ap stored_sum (sym back);
      short = c.self.invariant.short;
      low = λ rev e there. c.self.invariant.low rev e (ap (λ es. slice_get es rev) (sym back) ∙ there);
      chains = chains_kept c.self.inside.places c.put.new.self old c.pop.new.self.items c.put.ensures.chains back c.self.invariant.chains;
      places = λ q. c.in-Err.ensures.kept c.pop.new.self.items q ∙ ap (λ es. place_in c.self.inside.places es q) back ∙ c.self.invariant.places q ∙ ap (λ es. place_of es q) (sym back);
    }
