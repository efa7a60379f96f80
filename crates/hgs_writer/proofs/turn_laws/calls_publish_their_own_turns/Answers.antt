use Rattle.hgs_writer.proofs.Written.{written}
use Rattle.hgs_writer.proofs.turn_laws.calls_publish_their_own_turns.Goals as goal

pub returns : goal.returns
returns c = λ s command who answer changeset done rested stands valid lists w.
    written c.laws_below.ensures (record { ops = c.plans_are_transactions.ensures.ops; undo = c.plans_are_transactions.ensures.undo }) s rested stands command who answer changeset done valid lists w
