use Rattle.std.proofs.Common.{sym, ◌∙◌, ap}
use Rattle.hgs_session.proofs.Adding.{adds_moves}
use Rattle.hgs_session.proofs.history.Front.with.Goals as goal

pub compare_exchange-found-requires : goal.compare_exchange-found-requires
compare_exchange-found-requires g c =
    let h = c.args.head.now.head_is in
    let again = c.again-seen.ensures in
    let offer = c.plain-offer.ensures in
    let pen = c.no_pen-pen.ensures in
    let book = ap (λ s. s.book) again ∙ (c.self.invariant.1 ∙ sym (ap (λ w. w.book) h)) in (
      ap (λ w. w.tracked) h,
      book,
      pen.0 ∙ book,
      offer.0 ∙ sym (ap (λ s. s.names) again),
      rw (ap (λ w. w.key) h, pen.1, offer.1, offer.3, ap (λ s. s.log) again) (adds_moves c.self.inside.seen.log c.args.noted.now c.self.inside.count (sym c.self.invariant.0)),
    )
