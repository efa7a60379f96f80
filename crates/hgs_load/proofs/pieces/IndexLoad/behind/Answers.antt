use Rattle.std.proofs.Common.{◌∙◌, ap, [], None}
use Rattle.hgs_load.specs.Load.{left_to_ask, first_turn, former_of}
use Rattle.hgs_load.proofs.FeedLemmas.{behind_old}
use Rattle.hgs_load.proofs.pieces.IndexLoad.behind.Goals as goal

pub returns : goal.returns
returns c =
    ap (λ former. left_to_ask c.behind.result former 977 c.new.result.items None) c.of.ensures
    ∙ ap (λ bytes. left_to_ask c.behind.result (former_of c.in_ok-copy.field-0) 977 bytes None) c.new.ensures.items
    ∙ ap (λ turn. left_to_ask turn (former_of c.in_ok-copy.field-0) 977 [] None) c.behind.ensures
    ∙ ap (λ old. left_to_ask (first_turn c.args.old.now) (former_of old) 977 [] None) c.in_ok-copy.ensures
    ∙ behind_old c.args.old.now
