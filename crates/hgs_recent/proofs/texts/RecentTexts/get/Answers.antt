use Rattle.std.proofs.Common.{List, ℕ, ◌≤◌, length, sym, Option, Some, None, subst}
use Rattle.std.specs.Prelude.{IfSome, option_copied}
use Rattle.std.specs.Borrow.{Bor}
use Rattle.hgs_revlog.specs.Load.{most_text}
use Rattle.hgs_recent.proofs.TextLemmas.{found-small}
use Rattle.hgs_recent.proofs.texts.RecentTexts.get.Goals as goal

shown : (o : Option (Bor (List ℕ))) → IfSome (option_copied o) (λ text. length text ≤ most_text) → IfSome o (λ text. length text.now ≤ most_text)
shown None h = tt
shown (Some text) h = h

pub returns-clause-small : goal.returns-clause-small
returns-clause-small c =
    let small = found-small c.args.node.now.0 c.self.inside.cache.entries c.self.invariant.small in
    shown c.peek.result (subst (λ o. IfSome o (λ (text : List ℕ). length text ≤ most_text)) (sym c.peek.ensures) small)
