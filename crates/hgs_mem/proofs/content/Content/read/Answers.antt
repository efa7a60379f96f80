use Rattle.std.proofs.Common.{rules, ◌≡◌, ◌<◌, ◌-◌, ◌+◌, ◌++◌, length, take, drop, get_or, ◌∙◌, ap, arith, length-append, refl}
use Rattle.std.proofs.lemmas.List.{take-append-le}
use Rattle.hgs_mem.specs.Content.{joined}
use Rattle.hgs_mem.proofs.ContentLemmas.{joined_next, read_more}
use Rattle.hgs_mem.proofs.content.Content.read.Goals as goal

pub loop-piece-preserved : goal.loop-piece-preserved
loop-piece-preserved c =
    let xs = c.deref-piece-items.result.now in
    let i = c.loop-piece.piece-index in
    let d = c.piece-item.result in
    let lt : i < length xs = search rules in
    let piece = get_or xs i d in
    let part = c.front-part.result.now in
    let old = c.loop-piece.into.items in
    let inv = c.loop-piece.invariant in
    let added : c.extend_from_slice.new.self.items ≡ old ++ part = search rules in
    let is : part ≡ take c.loop-piece.left (drop c.loop-piece.skip piece) = search rules in
    let later : c.saturating_sub-skip.result ≡ c.loop-piece.skip - length piece = search rules in
    let all = c.args.into.now.items ++ take c.args.most (drop c.args.from (joined xs)) in (
      ap (take c.len-before.result) added ∙ take-append-le c.len-before.result old part inv.1 ∙ inv.0,
      omega (arith, inv.1, ap length added, length-append old part),
      ap (λ l. l ++ take (c.loop-piece.left - length part) (drop c.saturating_sub-skip.result (joined (drop (i + 1) xs)))) added
          ∙ read_more all old part piece (joined (drop i xs)) (joined (drop (i + 1) xs)) c.loop-piece.left (c.loop-piece.left - length part) c.loop-piece.skip c.saturating_sub-skip.result
          inv.2 (joined_next xs i d lt) is refl later,
    )
