use Rattle.std.proofs.Common.{map, ◌++◌, [], refl}
use Rattle.std.specs.Prelude.{reverse}
use Rattle.hgs_journal.specs.Undo.{undo_backups, undo_line}
use Rattle.hgs_legal.specs.LegalLog.{Turn}
use Rattle.hgs_ops.specs.Operations.{backups_of, journal_of, transaction_of}
use Rattle.hgs_ops.specs.Replaced.{replacements, standing_file}
use Rattle.std.specs.Prelude.{unwrap_or}
use Rattle.hgs_writer.proofs.CarriedLemmas.{piece-of}
use Rattle.hgs_writer.proofs.PiecePlanLemmas.{lists-are}
use Rattle.hgs_writer.proofs.piece_laws.transactions_are_pieces.Goals as goal

pub returns : goal.returns
returns c = λ t r next command who answer p plan outcome swept locking carrying valid accepted ready are is locked carried.
    let x : Turn = record { who = who; command = command; first = r; next = next; answer = answer; ops = transaction_of t r command who next } in
    let lists = lists-are t r next command who p plan are is (c.plans_are_transactions.ensures.ops t r next command who p plan are is) (c.plans_are_transactions.ensures.undo t r next command who p plan are is) in
    let lines = map undo_line (reverse (journal_of t r command next)) in
    let files = undo_backups (backups_of t r command next) (map (λ z. unwrap_or (standing_file t z) []) (replacements r command next)) in
    piece-of t r x plan (record { valid = valid; accepted = accepted; from = refl; listed = refl; ready = ready }) lists locking locked (lines ++ files) refl outcome swept carrying carried
