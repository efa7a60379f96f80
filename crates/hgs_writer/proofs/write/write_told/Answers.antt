use Rattle.std.proofs.Common.{◌+◌, Some, None, refl}
use Rattle.std.specs.Prelude.{is_some}
use Rattle.hgs_files.specs.Tree.{after_all}
use Rattle.hgs_machine.specs.Carry.{tree_now}
use Rattle.hgs_machine.specs.Refusals.{WereRefused, how_many_stand}
use Rattle.hgs_writer.specs.Refusals.{paths_behind, refusals_of, refusals_of_outcome, refusals_with}
use Rattle.hgs_writer.specs.Begun.{Begins, IsRefused}
use Rattle.hgs_writer.specs.declared.begin.Begun.TheVariants.{Ready}
use Rattle.hgs_writer.specs.Written.{IsCarriedOut, IsWrittenFor, has_no_plan, has_plan}
use Rattle.hgs_writer.proofs.AllowedLemmas.{may-carry}
use Rattle.hgs_writer.proofs.RefusalLemmas.{begun-first, begun-left}
use Rattle.hgs_writer.proofs.WrittenLemmas.{and_then, as_well}
use Rattle.hgs_writer.proofs.write.write_told.Goals as goal

pub carried-requires-clause-allows : goal.carried-requires-clause-allows
carried-requires-clause-allows g c =
    may-carry g.F.Files.allows c.args.who.now c.args.command.now c.in-Ready.planned (g.F.Files.log c.args.files.now) (g.F.Files.log c.begin.new.files) (g.F.Reads.start c.args.files.now) (g.F.Reads.start c.begin.new.files) c.begin.ensures.same_start
    c.requires.allows c.in-Ready.ensures.log

pub returns-in-Ready-clause-log : goal.returns-in-Ready-clause-log
returns-in-Ready-clause-log g c =
    let who = c.args.who.now in
    let command = c.args.command.now in
    let planned = c.in-Ready.planned in
    let answer = c.carried.result in
    and_then (g.F.Files.log c.args.files.now) (g.F.Files.log c.begin.new.files) (g.F.Files.log c.carried.new.files) (g.F.Reads.start c.args.files.now) (g.F.Reads.start c.begin.new.files)
    (λ t. Begins who command t (Ready planned)) (λ t. IsCarriedOut t planned answer) (λ t. IsWrittenFor who command t answer (Some (planned.rev, planned.node))) c.begin.ensures.same_start
    (λ t a b begun carried. has_plan planned a b _ begun.0 begun.1 carried refl) c.in-Ready.ensures.log c.carried.ensures.log

pub returns-in-Refused-clause-log : goal.returns-in-Refused-clause-log
returns-in-Refused-clause-log g c =
    let who = c.args.who.now in
    let command = c.args.command.now in
    let t = tree_now (g.F.Files.log c.args.files.now) (g.F.Reads.start c.args.files.now) in
    let answer = c.in-Refused.answer in
    as_well (g.F.Files.log c.args.files.now) (g.F.Files.log c.begin.new.files) (IsRefused who command t answer) (IsWrittenFor who command t answer None) (λ done h. has_no_plan done h) c.in-Refused.ensures.log

pub returns-in-Ready-clause-calls : goal.returns-in-Ready-clause-calls
returns-in-Ready-clause-calls g c =
    let before = c.args.files.now in
    let begun = c.begin.new.files in
    let after = c.carried.new.files in
    let told = is_some (g.F.Files.log before) in
    begun-first (g.F.Reads.faults before) (g.F.Reads.faults begun) (g.F.Reads.faults after) (g.F.Reads.denied before) (g.F.Reads.denied begun) (g.F.Reads.denied after) (refusals_of told c.carried.result) c.begin.ensures.later c.begin.ensures.refused
    (c.carried.ensures.calls told)

pub returns-in-Ready-clause-left : goal.returns-in-Ready-clause-left
returns-in-Ready-clause-left g c =
    let before = c.args.files.now in
    let begun = c.begin.new.files in
    let after = c.carried.new.files in
    let planned = c.in-Ready.planned in
    let outcome = c.carried.result.outcome in
    let told = is_some (g.F.Files.log before) in
    and_then (g.F.Files.log before) (g.F.Files.log begun) (g.F.Files.log after) (g.F.Reads.start before) (g.F.Reads.start begun)
    (λ t. Begins c.args.who.now c.args.command.now t (Ready planned))
    (λ t done. WereRefused (refusals_of_outcome told outcome + how_many_stand (paths_behind outcome) (after_all done t)) (g.F.Reads.faults begun) (g.F.Reads.faults after) (g.F.Reads.denied begun) (g.F.Reads.denied after))
    (λ t done. WereRefused (refusals_with told outcome (Some (planned.rev, planned.node)) t done) (g.F.Reads.faults before) (g.F.Reads.faults after) (g.F.Reads.denied before) (g.F.Reads.denied after)) c.begin.ensures.same_start
    (λ t a b begins left. begun-left (g.F.Reads.faults before) (g.F.Reads.faults begun) (g.F.Reads.faults after) (g.F.Reads.denied before) (g.F.Reads.denied begun) (g.F.Reads.denied after) told outcome t a b c.begin.ensures.later c.begin.ensures.refused left)
    c.in-Ready.ensures.log (c.carried.ensures.left told)
