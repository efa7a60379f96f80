-- The nodes of lines.
use Rattle.std.proofs.Common.{◌≡◌, ℕ, zero, suc, List, [], ◌∷◌, take, refl, ◌∙◌, ap}
use Rattle.std.specs.Prelude.{Some, slice_get, option_map}
use Rattle.std.proofs.lemmas.Option.{slice_get-map}
use Rattle.hgs_index.specs.declared.node.Node.{Node}
use Rattle.hgs_marks.specs.Lines.{node_values}

pub values-taken : (nodes : List Node) (i : ℕ) → node_values (take i nodes) ≡ take i (node_values nodes)
values-taken [] zero = refl
values-taken [] (suc i) = refl
values-taken (x ∷ nodes) zero = refl
values-taken (x ∷ nodes) (suc i) = ap (λ l. x.0 ∷ l) (values-taken nodes i)

pub value-at : (nodes : List Node) (i : ℕ) (x : Node) → slice_get nodes i ≡ Some x → slice_get (node_values nodes) i ≡ Some x.0
value-at nodes i x at = slice_get-map (λ (n : Node). n.0) nodes i ∙ ap (option_map (λ (n : Node). n.0)) at
