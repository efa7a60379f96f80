use Rattle.std.proofs.Common.{sym, ◌∙◌, ap, subst}
use Rattle.hgs_recent.specs.Texts.{AreKept, Texts, looked_up}
use Rattle.hgs_recent.proofs.TextLemmas.{looked-kept, promoted-is}
use Rattle.hgs_recent.proofs.texts.RecentTexts.look_up.Goals as goal

pub invariant_of-self : goal.invariant_of-self
invariant_of-self c =
    let cache = c.self.inside.cache in
    let node = c.args.node.now.0 in
    let is = c.promote.ensures.entries ∙ ap (λ (es : Texts). record { entries = es; cap = cache.cap }) (promoted-is node cache.entries c.self.invariant.few) in
    subst AreKept (sym is) (looked-kept node cache.entries cache.cap c.self.invariant)

pub returns : goal.returns
returns c =
    let cache = c.self.inside.cache in
    let node = c.args.node.now.0 in
    ap (λ l. l.entries) c.promote.ensures.entries ∙ promoted-is node cache.entries c.self.invariant.few ∙ ap (looked_up node) c.self.view_is
