use Rattle.std.proofs.Common.{map, ◌∙◌, ap}
use Rattle.hgs_model.specs.History.{inserted}
use Rattle.hgs_commit.proofs.OrderLemmas.{put}
use Rattle.hgs_commit.proofs.tree.insert_path.Goals as goal

pub returns : goal.returns
returns c =
    ap (map (λ p. p.items)) c.in_ok-insert.ensures.keys
    ∙ put c.args.ordered.now.keys c.into_vec.result
    ∙ ap (λ p. inserted p (map (λ p. p.items) c.args.ordered.now.keys)) c.into_vec.ensures
