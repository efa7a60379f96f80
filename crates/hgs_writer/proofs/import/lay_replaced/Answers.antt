use Rattle.std.proofs.Common.{◌∙◌, ap}
use Rattle.hgs_journal.specs.Names.{place}
use Rattle.hgs_transaction.specs.Parts.{file_name, is_plain}
use Rattle.hgs_writer.proofs.LaysLemmas.{put-answer}
use Rattle.hgs_writer.proofs.import.lay_replaced.Goals as goal

pub returns-clause-lays : goal.returns-clause-lays
returns-clause-lays g c =
    let x = c.args.replacing in
    put-answer c.replace.result c.args.overlay.now.layers c.replace.new.self.layers c.in_ok-path.path (place (is_plain x.file) (file_name x.file)) x.text
    (c.in_ok-path.ensures ∙ ap (λ b. place b c.name.result.now) c.is_plain.ensures ∙ ap (place (is_plain x.file)) c.name.ensures)
    c.replace.ensures.at c.replace.ensures.tree
