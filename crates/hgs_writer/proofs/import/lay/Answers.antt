use Rattle.std.proofs.Common.{sym, subst}
use Rattle.std.specs.Prelude.{OnOk}
use Rattle.hgs_writer.specs.Joined.{laying}
use Rattle.hgs_writer.specs.Layered.{Lays}
use Rattle.hgs_writer.proofs.LaysLemmas.{append-answer}
use Rattle.hgs_writer.proofs.import.lay.Goals as goal

pub returns-in-Append-clause-lays : goal.returns-in-Append-clause-lays
returns-in-Append-clause-lays g c =
    let a = c.in-Append.field-0 in
    let old = c.args.overlay.now.layers in
    let new = c.append.new.self.layers in
    subst (λ x. OnOk c.append.result (Lays old new (laying x))) (sym c.in-Append.is)
    (append-answer c.append.result old new a.path a.bytes c.append.ensures.at c.append.ensures.tree)
