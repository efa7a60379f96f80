use Rattle.std.proofs.Common.{◌≡◌, ◌∙◌, ap}
use Rattle.hgs_index.specs.declared.node.Node.{Node}
use Rattle.hgs_marks.specs.Held.{mark_in}
use Rattle.hgs_marks.proofs.CopyLemmas.{zip-map, zip-same}
use Rattle.hgs_marks.proofs.bookmarks.Bookmarks.copy.Goals as goal

pub returns : goal.returns
returns c =
    zip-map mark_in _ (λ p q h. (let name = zip-same p.0.items q.0.items h.0.0 in let node : q.1.0 ≡ p.1.0 = ap (λ (n : Node). n.0) h.1 in λ i. record { name = name i; node = node i })) c.self.inside.marks.entries c.in_ok-clone.field-0.entries c.in_ok-clone.ensures.cases
    ∙ c.self.view_is
