use Rattle.std.proofs.Common.{sym, ◌∙◌, ap, subst, inl}
use Rattle.hgs_recent.specs.Texts.{AreKept, Texts, used}
use Rattle.hgs_recent.proofs.TextLemmas.{put-is, used-kept}
use Rattle.hgs_recent.proofs.texts.RecentTexts.keep.Goals as goal

pub invariant_of-self : goal.invariant_of-self
invariant_of-self c =
    let cache = c.self.inside.cache in
    let node = c.args.node.now.0 in
    let is = c.in-Ok.ensures.entries ∙ ap (λ (es : Texts). record { entries = es; cap = cache.cap }) (put-is node cache.entries c.self.invariant.few c.args.text cache.cap c.self.invariant.cap) in
    subst AreKept (sym is) (used-kept node c.args.text cache.entries cache.cap c.self.invariant.cap c.requires c.self.invariant.small)

pub returns-in-Ok : goal.returns-in-Ok
returns-in-Ok c =
    let cache = c.self.inside.cache in
    let node = c.args.node.now.0 in
    inl (ap (λ l. l.entries) c.in-Ok.ensures.entries ∙ put-is node cache.entries c.self.invariant.few c.args.text cache.cap c.self.invariant.cap ∙ ap (used node c.args.text) c.self.view_is)
