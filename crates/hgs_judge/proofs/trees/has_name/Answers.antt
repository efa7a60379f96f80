use Rattle.std.proofs.Common.{List, ℕ, ap, ◌∙◌, rules}
use Rattle.std.specs.Ordering.{nat_cmp}
use Rattle.std.specs.Cmp.Lexicographic.{slice_cmp}
use Rattle.std.proofs.lemmas.Fn.{always_returns_same}
use Rattle.hgs_bytes.specs.Bytes.{among}
use Rattle.hgs_bytes.specs.Text.{ascends}
use Rattle.hgs_judge.proofs.SearchLemmas.{searched}
use Rattle.hgs_judge.proofs.trees.has_name.Goals as goal

pub returns : goal.returns
returns c = λ a.
    let facts = c.binary_search_by.ensures in
    let names = c.as_slice.result.now in
    let by_name = facts.position (λ (f : List ℕ). slice_cmp nat_cmp f c.args.path.now) (always_returns_same _ _ _ (λ a r f' called. search rules)) in
    c.is_ok.ensures.value
    ∙ searched names c.args.path.now c.binary_search_by.result (ap ascends c.as_slice.ensures ∙ a) facts.bound by_name
    ∙ ap (among c.args.path.now) c.as_slice.ensures
