use Rattle.std.proofs.Common.{◌∙◌, ◌++◌, ap, sym, List, ℕ}
use Rattle.std.specs.Option.{option_map}
use Rattle.hgs_branch.specs.Extras.{unescaped}
use Rattle.hgs_branch.proofs.ExtrasLemmas.{one_more}
use Rattle.hgs_branch.proofs.extras.unescape.Goals as goal

pub loop-rest-preserved : goal.loop-rest-preserved
loop-rest-preserved c =
    ap (λ (p : List ℕ). option_map (λ r. p ++ r) (unescaped c.in-Some.behind.now)) c.in_ok-push.ensures.items ∙ one_more c.loop-rest.plain.items c.in-Some.byte (unescaped c.in-Some.behind.now)
    ∙ ap (option_map (λ r. c.loop-rest.plain.items ++ r)) (sym c.in-Some.ensures.some) ∙ c.loop-rest.invariant
