use Rattle.std.proofs.Common.{◌≡◌, [], Option, map, ap, ◌∙◌, subst}
use Rattle.std.specs.Result.{result_map_both}
use Rattle.std.specs.String.{string_bytes}
use Rattle.hgs_top.specs.Words.{Request, request_of, asked_with, about_named, alone_else, operands_in}
use Rattle.hgs_top.proofs.words.command_named.Goals as goal

pub returns-in-Some-clause-asked : goal.returns-in-Some-clause-asked
returns-in-Some-clause-asked c =
    let name = string_bytes c.args.name.now in
    let words = map string_bytes c.args.words.now in
    let P : Option Request → Type 0 = λ o. result_map_both request_of (λ place. place) c.alone.result ≡ alone_else o (about_named name words) words in
    subst P c.in-Some.ensures.asked (c.alone.ensures.asked ∙ ap (λ rest. asked_with (λ w. request_of c.in-Some.asked) (operands_in rest [])) c.at.ensures)
