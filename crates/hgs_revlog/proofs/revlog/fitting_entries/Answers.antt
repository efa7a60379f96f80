use Rattle.std.proofs.Common.{◌≡◌, ◌<◌, ◌≤◌, ◌+◌, None, Ok, length, arith, sym, ◌∙◌, ap, subst}
use Rattle.std.proofs.lemmas.List.{length_push}
use Rattle.hgs_revlog.specs.Log.{place_of, stored_sum}
use Rattle.hgs_revlog.specs.Load.{entry_behind, most_revisions}
use Rattle.hgs_revlog.specs.Theorems.LogLemmas.{sum_push}
use Rattle.hgs_revlog.proofs.FittingLemmas.{fitting_ends, fitting_on}
use Rattle.hgs_revlog.proofs.revlog.fitting_entries.Goals as goal

pub returns-then-ends-clause-loads : goal.returns-then-ends-clause-loads
returns-then-ends-clause-loads c own =
    let rest = c.loop-bytes.rest.now in
    let old = c.loop-bytes.entries.items in
    let e = c.in-Some-fitting_entry.entry in
    let whole : 64 ≤ length rest = (let len = c.in-Some.ensures.cases.2 in omega (arith, len)) in
    let fits = subst (λ es. place_of es e.node.0 ≡ None → entry_behind es c.in-Some.bytes.now ≡ Ok e) c.deref.ensures.value c.in-Some-fitting_entry.ensures.behind in
    fitting_ends c.args.tail c.args.index.now rest c.in-Some.bytes.now old c.push.new.self.items e c.in_ok-push.ensures.items whole c.in-Some.ensures.cases.0 fits c.loop-bytes.invariant.3 own (sym c.ends.ensures ∙ c.if-ends.true)

pub loop-bytes-preserved : goal.loop-bytes-preserved
loop-bytes-preserved c =
    let rest = c.loop-bytes.rest.now in
    let old = c.loop-bytes.entries.items in
    let e = c.in-Some-fitting_entry.entry in
    let items = c.in_ok-push.ensures.items in
    let whole : 64 ≤ length rest = (let len = c.in-Some.ensures.cases.2 in omega (arith, len)) in
    let fits = subst (λ es. place_of es e.node.0 ≡ None → entry_behind es c.in-Some.bytes.now ≡ Ok e) c.deref.ensures.value c.in-Some-fitting_entry.ensures.behind in
    let few : length old < most_revisions = subst (λ es. length es < most_revisions) c.deref.ensures.value c.in-Some-fitting_entry.ensures.few in (
      ap (λ n. n + e.stored) c.loop-bytes.invariant.0 ∙ sym (sum_push old e) ∙ ap stored_sum (sym items),
      c.in-Some-fitting_entry.ensures.short,
      (let size = ap length items ∙ length_push old e in omega (arith, size, few)),
      λ own. fitting_on c.args.tail c.args.index.now rest c.in-Some.bytes.now old c.push.new.self.items e items whole c.in-Some.ensures.cases.0 fits c.loop-bytes.invariant.3 own c.in-Some.behind.now c.in-Some.ensures.cases.1 (sym c.ends.ensures ∙ c.if-ends.false),
    )
