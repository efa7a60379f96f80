use Rattle.std.proofs.Common.{◌≡◌, ℕ, suc, ◌<◌, false, length, Option, None, Some, refl, sym, ◌∙◌, ap, subst, arith}
use Rattle.std.specs.Prelude.{is_some, slice_get}
use Rattle.std.proofs.Math.ListN.{set}
use Rattle.std.proofs.lemmas.List.{length_push}
use Rattle.std.proofs.lemmas.Option.{slice_get_read}
use Rattle.hgs_revlog.specs.Chains.{part_of}
use Rattle.hgs_revlog.proofs.ChainLemmas.{chains_push, on_start}
use Rattle.hgs_revlog.proofs.chains.Chains.put.Goals as goal

pub find_from-requires-clause-on : goal.find_from-requires-clause-on
find_from-requires-clause-on c =
    let lasts = c.args.self.now.lasts.items in
    let node = c.args.entry.now.node.0 in
    let many : c.len.result ≡ length lasts = c.len.ensures ∙ c.args.self.now.lasts.ok.0 in
    let part : c.part_of-part.result ≡ part_of (length lasts) node = c.part_of-part.ensures.value ∙ ap (λ n. part_of n node) many in
    let within : c.part_of-part.result < length lasts = subst (λ n. c.part_of-part.result < n) many c.part_of-part.ensures.within in
    on_start c.args.self.now c.args.known.now c.requires.chains node c.index-last.result.now
    (ap (slice_get lasts) (sym part) ∙ slice_get_read lasts (length lasts) c.part_of-part.result c.index-last.result.now refl within c.index-last.ensures) (subst (λ n. n < length lasts) part within)

pub returns-clause-chains : goal.returns-clause-chains
returns-clause-chains c is =
    let lasts = c.args.self.now.lasts.items in
    let node = c.args.entry.now.node.0 in
    let many : c.len.result ≡ length lasts = c.len.ensures ∙ c.args.self.now.lasts.ok.0 in
    let part : c.part_of-part.result ≡ part_of (length lasts) node = c.part_of-part.ensures.value ∙ ap (λ n. part_of n node) many in
    let within : c.part_of-part.result < length lasts = subst (λ n. c.part_of-part.result < n) many c.part_of-part.ensures.within in
    let more : c.len-2.result ≡ suc (length c.args.known.now) = c.len-2.ensures ∙ c.push.new.self.ok.0 ∙ ap length c.in_ok-push.ensures.items ∙ length_push c.args.self.now.links.items c.index-last.result.now ∙ (let all = c.requires.chains.all in omega (arith, all)) in
    chains_push c.args.self.now _ c.args.known.now c.args.entry.now c.index-last.result.now c.requires.chains (none_is _ (sym c.is_some.ensures ∙ c.if-is_some.false) c.find_from.ensures)
    (subst (λ n. n < length lasts) part within)
    (ap (slice_get lasts) (sym part) ∙ slice_get_read lasts (length lasts) c.part_of-part.result c.index-last.result.now refl within c.index-last.ensures)
    (λ i. set lasts (part i) (more i)) c.in_ok-push.ensures.items
  where
    none_is : {o : Option ℕ} (p : Option ℕ) → is_some p ≡ false → p ≡ o → o ≡ None
    none_is None h is = sym is
    none_is (Some x) h is = cc
