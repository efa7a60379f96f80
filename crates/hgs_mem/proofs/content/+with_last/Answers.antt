use Rattle.std.proofs.Common.{rules, ◌≡◌, List, ℕ, [], ◌∷◌, ◌++◌, IfOk, subst}
use Rattle.hgs_mem.specs.Content.{joined}
use Rattle.hgs_mem.proofs.ContentLemmas.{last_two}
use Rattle.hgs_mem.proofs.content.+with_last.Goals as goal

pub returns : goal.returns
returns n c =
    let both : c.append.new.self ≡ c.in-Some.before ++ c.args.behind = search rules in
    let popped : c.args.pieces.now.items ≡ c.pop.new.self.items ++ c.in-Some.before ∷ [] = search rules in
    subst (λ (l : List ℕ). IfOk c.with_last.result (λ last. joined c.with_last.new.pieces.items ++ last ≡ l))
    (last_two c.pop.new.self.items c.args.pieces.now.items c.in-Some.before c.args.behind c.append.new.self popped both) c.with_last.ensures
