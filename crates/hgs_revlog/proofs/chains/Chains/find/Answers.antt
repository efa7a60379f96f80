use Rattle.std.proofs.Common.{◌≡◌, ◌<◌, length, refl, sym, ◌∙◌, ap, subst}
use Rattle.std.specs.Prelude.{slice_get}
use Rattle.std.proofs.lemmas.Option.{slice_get_read}
use Rattle.hgs_revlog.specs.Chains.{part_of}
use Rattle.hgs_revlog.proofs.ChainLemmas.{on_start}
use Rattle.hgs_revlog.proofs.chains.Chains.find.Goals as goal

pub find_from-requires-clause-on : goal.find_from-requires-clause-on
find_from-requires-clause-on c =
    let lasts = c.args.self.now.lasts.items in
    let many : c.len.result ≡ length lasts = c.len.ensures ∙ c.args.self.now.lasts.ok.0 in
    let part : c.part_of-part.result ≡ part_of (length lasts) c.args.node.now = c.part_of-part.ensures.value ∙ ap (λ n. part_of n c.args.node.now) many in
    let within : c.part_of-part.result < length lasts = subst (λ n. c.part_of-part.result < n) many c.part_of-part.ensures.within in
    on_start c.args.self.now c.args.known.now c.requires c.args.node.now c.index.result.now
    (ap (slice_get lasts) (sym part) ∙ slice_get_read lasts (length lasts) c.part_of-part.result c.index.result.now refl within c.index.ensures) (subst (λ n. n < length lasts) part within)
