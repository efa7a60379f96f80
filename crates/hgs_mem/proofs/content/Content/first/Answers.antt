use Rattle.std.proofs.Common.{rules, ◌≡◌, ◌<◌, ◌-◌, ◌+◌, [], ◌∷◌, ◌++◌, length, take, drop, get_or, ◌∙◌, ap}
use Rattle.hgs_mem.specs.Content.{joined}
use Rattle.hgs_mem.proofs.ContentLemmas.{joined_next, one_more, take_more}
use Rattle.hgs_mem.proofs.content.Content.first.Goals as goal

pub loop-piece-preserved : goal.loop-piece-preserved
loop-piece-preserved c =
    let xs = c.deref-piece-items.result.now in
    let i = c.loop-piece.piece-index in
    let d = c.piece-item.result in
    let lt : i < length xs = search rules in
    let piece = get_or xs i d in
    let more : c.in_ok-first.field-0 ≡ take c.loop-piece.left piece = search rules in
    let less : c.saturating_sub-left.result ≡ c.loop-piece.left - length piece = search rules in
    let pushed : c.push.new.self.items ≡ c.loop-piece.pieces.items ++ c.in_ok-first.field-0 ∷ [] = search rules in
    ap (λ l. l ++ take c.saturating_sub-left.result (joined (drop (i + 1) xs))) (one_more c.loop-piece.pieces.items c.push.new.self.items c.in_ok-first.field-0 pushed)
    ∙ take_more (take c.args.most (joined xs)) (joined c.loop-piece.pieces.items) c.in_ok-first.field-0 piece (joined (drop i xs)) (joined (drop (i + 1) xs)) c.loop-piece.left c.saturating_sub-left.result
    c.loop-piece.invariant (joined_next xs i d lt) more less
