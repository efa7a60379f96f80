use Rattle.std.proofs.Common.{true, sym, ◌∙◌, arith}
use Rattle.hgs_machine.specs.Carry.{tree_now}
use Rattle.hgs_recover.specs.Recovering.{RecoversBy}
use Rattle.hgs_recover.specs.Undoing.{Undoes}
use Rattle.hgs_recover.proofs.Left.{left-behind, left-then, not-read, nothing-done}
use Rattle.hgs_recover.proofs.Restoring.{restored}
use Rattle.hgs_recover.proofs.recover.recover.Goals as goal

pub returns-clause-log : goal.returns-clause-log
returns-clause-log g c =
    let old = c.args.files.now in
    let mid = c.find.new.files in
    let latest = g.met.F.Files.latest in
    let found = c.in-Ok-Some.ensures in
    let alone = g.met.F.Files.only_writer in
    let seen = found.still alone ∙ latest old in
    restored c.in-Ok-Some.field-0 c.in-Ok-Some.ops (λ v. v.items) (g.F.Files.log old) (g.F.Files.log mid) (g.F.Files.log c.undo.new.files) (g.F.Files.log c.sweep-swept-2.new.files) (g.F.Reads.seen mid) (g.F.Reads.start old) (g.F.Reads.start mid) (g.F.Reads.start c.undo.new.files)
    c.deref.result.now c.undo.result c.sweep-swept-2.result c.in-Ok-Some.field-0-is (sym (latest mid) ∙ seen) seen found.same_start c.undo.ensures.same_start c.deref.ensures.value c.if-not-undo.false (found.found alone) c.undo.ensures.log c.sweep-swept-2.ensures.log

pub returns-in-Err-clause-log : goal.returns-in-Err-clause-log
returns-in-Err-clause-log g c =
    let old = c.args.files.now in
    let mid = c.find.new.files in
    let latest = g.met.F.Files.latest in
    let same = sym (latest mid) ∙ c.find.ensures.still g.met.F.Files.only_writer ∙ latest old in
    let t = tree_now (g.F.Files.log old) (g.F.Reads.start old) in
    nothing-done (g.F.Files.log old) (g.F.Files.log mid) (RecoversBy t c.of_read.result true) same (not-read c.in-Err.refusal c.of_read.result t c.of_read.ensures)

pub returns-in-Ok-None-clause-left : goal.returns-in-Ok-None-clause-left
returns-in-Ok-None-clause-left g c =
    let old = c.args.files.now in
    let mid = c.find.new.files in
    let new = c.sweep-swept.new.files in
    let latest = g.met.F.Files.latest in
    let found = c.in-Ok-None.ensures in
    let same = sym (latest mid) ∙ found.still g.met.F.Files.only_writer ∙ latest old in
    left-then (g.F.Files.log old) (g.F.Files.log mid) (g.F.Files.log new) (g.F.Reads.start old) (g.F.Reads.start mid) (g.F.Reads.faults old) (g.F.Reads.faults mid) (g.F.Reads.faults new) (g.F.Reads.denied old) (g.F.Reads.denied mid) (g.F.Reads.denied new)
    same found.same_start found.cause.later found.cause.refused c.sweep-swept.ensures.left

pub returns-clause-left : goal.returns-clause-left
returns-clause-left g c =
    let old = c.args.files.now in
    let mid = c.find.new.files in
    let undone = c.undo.new.files in
    let new = c.sweep-swept-2.new.files in
    let latest = g.met.F.Files.latest in
    let found = c.in-Ok-Some.ensures in
    let counts = c.undo.ensures.counts in
    let same = sym (latest mid) ∙ found.still g.met.F.Files.only_writer ∙ latest old in
    left-behind (g.F.Files.log old) (g.F.Files.log mid) (g.F.Files.log undone) (g.F.Files.log new) (g.F.Reads.start old) (g.F.Reads.start undone) (Undoes c.deref.result.now c.undo.result)
    (g.F.Reads.faults old) (g.F.Reads.faults undone) (g.F.Reads.faults new) (g.F.Reads.denied old) (g.F.Reads.denied undone) (g.F.Reads.denied new)
    same (c.undo.ensures.same_start ∙ found.same_start) (omega (arith, found.cause.later, counts.faults)) (omega (arith, found.cause.refused, counts.denied)) c.undo.ensures.log c.sweep-swept-2.ensures.left
