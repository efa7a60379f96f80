use Rattle.std.proofs.Common.{◌++◌, ◌∙◌, ap, rules}
use Rattle.std.proofs.lemmas.Int.{to_z-of_z}
use Rattle.std.specs.Int.{w32, w64}
use Rattle.std.specs.Fmt.{signed_decimal}
use Rattle.hgs_index.specs.ChangeText.{extras_text}
use Rattle.hgs_changelog.proofs.PrintLemmas.{date_joined}
use Rattle.hgs_changelog.proofs.print.print_date.Goals as goal

pub returns-clause-ok : goal.returns-clause-ok
returns-clause-ok c =
    date_joined c.args.into.now.items (signed_decimal c.args.seconds) (signed_decimal c.args.offset ++ extras_text c.args.extras.now) _ _ _ _
    (c.in_ok-print_number.ensures.ok ∙ ap (λ y. c.args.into.now.items ++ signed_decimal y) (to_z-of_z w64 c.args.seconds (search rules)))
    c.in_ok-push.ensures.items
    (c.in_ok-print_zone.ensures.ok ∙ ap (λ y. c.push.new.self.items ++ (signed_decimal y ++ extras_text c.args.extras.now)) (to_z-of_z w32 c.args.offset (search rules)))
    c.in_ok-push-2.ensures.items
