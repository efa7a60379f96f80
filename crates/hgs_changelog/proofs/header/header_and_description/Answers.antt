use Rattle.std.proofs.Common.{◌+◌, ◌∙◌, ap, take, Some, None}
use Rattle.std.proofs.lemmas.List.{take_rest}
use Rattle.hgs_bytes.specs.Theorems.TwoLemmas.{two_answer}
use Rattle.hgs_index.specs.ChangeText.{split_at_blank}
use Rattle.hgs_changelog.proofs.header.header_and_description.Goals as goal

pub returns-in-Some : goal.returns-in-Some
unfolding split_at_blank
returns-in-Some c =
    ap (λ l. Some (take c.in-Some.at c.args.text.now, l)) (take_rest c.args.text.now (c.in-Some.at + 2)) ∙ two_answer 10 10 c.args.text.now (Some c.in-Some.at) c.in-Some.ensures

pub returns-in-None : goal.returns-in-None
unfolding split_at_blank
returns-in-None c = two_answer 10 10 c.args.text.now None c.in-None.ensures
