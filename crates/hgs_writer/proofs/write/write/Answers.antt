use Rattle.std.proofs.Common.{ℕ, List, Option}
use Rattle.std.specs.Prelude.{is_some}
use Rattle.hgs_answers.specs.declared.answer.Answer.{Answer}
use Rattle.hgs_files.specs.declared.op.Op.{Op}
use Rattle.hgs_files.specs.Tree.{Tree}
use Rattle.hgs_index.specs.declared.node.Node.{Node}
use Rattle.hgs_machine.specs.Carry.{tree_now}
use Rattle.hgs_machine.specs.Refusals.{WereRefused}
use Rattle.hgs_model.specs.declared.command.Command.{Command}
use Rattle.hgs_writer.specs.Begun.{IsRefused, has_no_locks, has_no_plan as refused_without_plan}
use Rattle.hgs_writer.specs.Refusals.{refusals_with}
use Rattle.hgs_writer.specs.Written.{IsWritten, IsWrittenFor, has_no_plan, has_plan, is_carried_out, is_not_planned, is_turned_away}
use Rattle.hgs_writer.proofs.WrittenLemmas.{as_well, together}
use Rattle.hgs_writer.proofs.write.write.Goals as goal

refused : (who : List ℕ) (command : Command) (t : Tree) (answer : Answer) (done : List Op) → IsRefused who command t answer done → IsWritten who command t answer done
refused who command t answer done (has_no_locks why turned outcome) = is_turned_away why turned outcome
refused who command t answer done (refused_without_plan fault locking releasing locked plans removed outcome whole) = is_not_planned fault locking releasing locked plans removed outcome whole

written : (who : List ℕ) (command : Command) (t : Tree) (answer : Answer) (changeset : Option (ℕ × Node)) (done : List Op) → IsWrittenFor who command t answer changeset done → IsWritten who command t answer done
written who command t answer _ _ (has_no_plan done h) = refused who command t answer done h
written who command t answer _ _ (has_plan planned locking carrying done locked plans carried whole) = is_carried_out planned locking carrying locked plans carried whole

pub returns-clause-log : goal.returns-clause-log
returns-clause-log g c =
    let who = c.args.who.now in
    let command = c.args.command.now in
    let t = tree_now (g.F.Files.log c.args.files.now) (g.F.Reads.start c.args.files.now) in
    let told = c.write_told-answer.result in
    as_well (g.F.Files.log c.args.files.now) (g.F.Files.log c.write_told-answer.new.files) (IsWrittenFor who command t told.answer told.changeset) (IsWritten who command t told.answer) (written who command t told.answer told.changeset) c.write_told-answer.ensures.log

pub returns-clause-left : goal.returns-clause-left
returns-clause-left g c =
    let before = c.args.files.now in
    let after = c.write_told-answer.new.files in
    let written = c.write_told-answer.result in
    let outcome = written.answer.outcome in
    let told = is_some (g.F.Files.log before) in
    let t = tree_now (g.F.Files.log before) (g.F.Reads.start before) in
    let W : Option (ℕ × Node) → List Op → Type 0 = λ changeset done. IsWrittenFor c.args.who.now c.args.command.now t written.answer changeset done in
    let R : Option (ℕ × Node) → List Op → Type 0 = λ changeset done. WereRefused (refusals_with told outcome changeset t done) (g.F.Reads.faults before) (g.F.Reads.faults after) (g.F.Reads.denied before) (g.F.Reads.denied after) in
    as_well (g.F.Files.log before) (g.F.Files.log after) (λ done. W written.changeset done × R written.changeset done) (λ done. (changeset : Option (ℕ × Node)) × W changeset done × R changeset done) (λ done h. (written.changeset, h.0, h.1))
    (together (g.F.Files.log before) (g.F.Files.log after) (W written.changeset) (R written.changeset) c.write_told-answer.ensures.log c.write_told-answer.ensures.left)
