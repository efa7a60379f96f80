use Rattle.std.proofs.Common.{◌∙◌, rules}
use Rattle.std.specs.Ordering.{nat_cmp}
use Rattle.std.specs.Cmp.Lexicographic.{slice_cmp}
use Rattle.std.proofs.lemmas.Fn.{always_returns_same}
use Rattle.hgs_model.specs.declared.files.NewFile.{NewFile}
use Rattle.hgs_input.proofs.PathLemmas.{searched}
use Rattle.hgs_input.proofs.apart.has_path.Goals as goal

pub returns : goal.returns
returns c =
    let facts = c.binary_search_by.ensures in
    let by_path = facts.position (λ (f : NewFile). slice_cmp nat_cmp f.path c.args.path.now) (always_returns_same _ _ _ (λ a r f' called. search rules)) in
    c.is_ok.ensures.value ∙ searched c.args.files.now c.args.path.now c.binary_search_by.result c.requires facts.bound by_path
