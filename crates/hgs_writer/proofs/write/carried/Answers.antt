use Rattle.std.proofs.Common.{◌+◌, refl}
use Rattle.hgs_answers.specs.declared.answer.Answer.{Answer}
use Rattle.hgs_files.specs.Tree.{after_all}
use Rattle.hgs_machine.specs.Carry.{tree_now}
use Rattle.hgs_machine.specs.Course.{CarriedOut}
use Rattle.hgs_machine.specs.Refusals.{WereRefused, how_many_stand, paths_removed_after, refusals_of_short}
use Rattle.hgs_writer.specs.Refusals.{paths_behind, refusals_of_outcome}
use Rattle.hgs_writer.specs.Written.{IsCarriedOut}
use Rattle.hgs_writer.proofs.RefusalLemmas.{carried-left, carried-out}
use Rattle.hgs_writer.proofs.WrittenLemmas.{as_well}
use Rattle.hgs_writer.proofs.write.carried.Goals as goal

pub returns-clause-log : goal.returns-clause-log
returns-clause-log g c =
    let t = tree_now (g.F.Files.log c.args.files.now) (g.F.Reads.start c.args.files.now) in
    let answer : Answer = record { outcome = c.of_ended.result; swept = c.carry_out-ended.result.swept } in
    as_well (g.F.Files.log c.args.files.now) (g.F.Files.log c.carry_out-ended.new.files) (CarriedOut t c.args.planned.plan c.carry_out-ended.result.outcome c.carry_out-ended.result.swept) (IsCarriedOut t c.args.planned answer)
    (λ done h. record { ended = c.carry_out-ended.result.outcome; carried = h; outcome = c.of_ended.ensures }) c.carry_out-ended.ensures.log

pub returns-clause-calls : goal.returns-clause-calls
returns-clause-calls g c = λ told.
    let before = c.args.files.now in
    let after = c.carry_out-ended.new.files in
    let ended = c.carry_out-ended.result in
    let answer : Answer = record { outcome = c.of_ended.result; swept = ended.swept } in
    carried-out (g.F.Reads.faults before) (g.F.Reads.faults after) (g.F.Reads.denied before) (g.F.Reads.denied after) told ended.outcome ended.swept c.args.planned.rev c.args.planned.node answer c.of_ended.ensures refl
    c.carry_out-ended.ensures.calls

pub returns-clause-left : goal.returns-clause-left
returns-clause-left g c = λ told.
    let before = c.args.files.now in
    let after = c.carry_out-ended.new.files in
    let ended = c.carry_out-ended.result.outcome in
    let outcome = c.of_ended.result in
    let t = tree_now (g.F.Files.log before) (g.F.Reads.start before) in
    as_well (g.F.Files.log before) (g.F.Files.log after)
    (λ done. WereRefused (refusals_of_short ended + how_many_stand (paths_removed_after ended) (after_all done t)) (g.F.Reads.faults before) (g.F.Reads.faults after) (g.F.Reads.denied before) (g.F.Reads.denied after))
    (λ done. WereRefused (refusals_of_outcome told outcome + how_many_stand (paths_behind outcome) (after_all done t)) (g.F.Reads.faults before) (g.F.Reads.faults after) (g.F.Reads.denied before) (g.F.Reads.denied after))
    (λ done h. carried-left (g.F.Reads.faults before) (g.F.Reads.faults after) (g.F.Reads.denied before) (g.F.Reads.denied after) told ended c.args.planned.rev c.args.planned.node outcome (after_all done t) c.of_ended.ensures h) c.carry_out-ended.ensures.left
