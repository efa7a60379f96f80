use Rattle.std.proofs.Common.{◌∙◌, sym}
use Rattle.hgs_machine.specs.Carry.{tree_now}
use Rattle.hgs_recover.proofs.Left.{absent, unknown}
use Rattle.hgs_recover.proofs.leftovers.clear.Goals as goal

pub returns-in-Ok-None-clause-log : goal.returns-in-Ok-None-clause-log
returns-in-Ok-None-clause-log g c =
    let old = c.args.files.now in
    let new = c.size.new.self in
    let latest = g.met.F.Files.latest in
    let seen = c.size.ensures.still g.met.F.Files.only_writer ∙ latest old in
    absent (g.F.Files.log old) (g.F.Files.log new) (g.F.Reads.seen new) (g.F.Reads.start old) (g.F.Reads.start new) c.args.path.now c.in-Ok-None.field-0 (g.F.Reads.faults old) (g.F.Reads.faults new) (g.F.Reads.denied old) (g.F.Reads.denied new)
    (sym (latest new) ∙ seen) seen c.size.ensures.same_start c.in-Ok-None.field-0-is c.in-Ok-None.ensures.answer c.in-Ok-None.ensures.counts

pub returns-in-Err-clause-log : goal.returns-in-Err-clause-log
returns-in-Err-clause-log g c =
    let old = c.args.files.now in
    let new = c.size.new.self in
    let latest = g.met.F.Files.latest in
    let same = sym (latest new) ∙ c.size.ensures.still g.met.F.Files.only_writer ∙ latest old in
    unknown (g.F.Files.log old) (g.F.Files.log new) (tree_now (g.F.Files.log old) (g.F.Reads.start old)) c.args.path.now c.in-Err.field-0 (g.F.Reads.faults old) (g.F.Reads.faults new) (g.F.Reads.denied old) (g.F.Reads.denied new) same c.in-Err.ensures.counts
