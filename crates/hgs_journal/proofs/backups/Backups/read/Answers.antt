use Rattle.std.proofs.Common.{sym, ◌∙◌, ap, arith}
use Rattle.std.specs.Prelude.{Ok}
use Rattle.hgs_journal.proofs.PathLemmas.{backups-read}
use Rattle.hgs_journal.proofs.ReadLemmas.{backups_end}
use Rattle.hgs_journal.proofs.backups.Backups.read.Goals as goal

pub returns-clause-paths : goal.returns-clause-paths
returns-clause-paths c = backups-read c.args.text.now c.from_vec-lines.result (backups_end c.loop-rest.lines.items c.loop-rest.number c.loop-rest.rest.now _ c.loop-rest.invariant.read (omega (arith, c.loop-rest-test.false)) ∙ ap (λ ls. Ok ls) (sym c.from_vec-lines.ensures))
