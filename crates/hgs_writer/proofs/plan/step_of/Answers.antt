use Rattle.std.proofs.Common.{subst, sym}
use Rattle.hgs_model.specs.Valid.{AreNewChanges, IsValid}
use Rattle.hgs_writer.proofs.PlanLemmas.{always-at-rest, at-rest, commit-comes, import-comes, mark-comes, move-comes, unmark-comes, weaker}
use Rattle.hgs_commit.specs.Commit.{Steps}
use Rattle.hgs_writer.specs.Planning.{ComesTo}
use Rattle.hgs_writer.specs.Records.{ImportComesTo}
use Rattle.hgs_writer.proofs.plan.step_of.Goals as goal

pub returns-in-Move-clause-sound : goal.returns-in-Move-clause-sound
returns-in-Move-clause-sound g c = weaker c.args.loaded c.moved.result c.moved.ensures.sound

pub returns-in-Mark-clause-sound : goal.returns-in-Mark-clause-sound
returns-in-Mark-clause-sound g c = weaker c.args.loaded c.marked.result c.marked.ensures.sound

pub returns-in-Unmark-clause-sound : goal.returns-in-Unmark-clause-sound
returns-in-Unmark-clause-sound g c = weaker c.args.loaded c.unmarked.result c.unmarked.ensures.sound

pub returns-in-Commit-clause-comes : goal.returns-in-Commit-clause-comes
returns-in-Commit-clause-comes g c =
    at-rest g.R.Reads.alone (g.R.Reads.seen c.committed.new.files) (g.R.Reads.start c.committed.new.files) (λ t. Steps c.args.loaded c.in-Commit.change t c.committed.result) (λ t. ComesTo t c.args.loaded c.args.command.now c.committed.result)
    (λ t comes. commit-comes t c.args.loaded c.args.command.now c.in-Commit.change c.committed.result c.in-Commit.is c.committed.ensures.parts comes) c.committed.ensures.comes

pub returns-in-Move-clause-comes : goal.returns-in-Move-clause-comes
returns-in-Move-clause-comes g c =
    always-at-rest g.R.Reads.alone (g.R.Reads.seen c.args.files.now) (g.R.Reads.start c.args.files.now) (λ t. ComesTo t c.args.loaded c.args.command.now c.moved.result)
    (λ t. move-comes t c.args.loaded c.args.command.now c.in-Move.rev c.as_slice-in-Move.result.now c.in-Move.phase c.in-Move.force c.moved.result c.in-Move.is c.as_slice-in-Move.ensures c.moved.ensures.comes)

pub returns-in-Mark-clause-comes : goal.returns-in-Mark-clause-comes
returns-in-Mark-clause-comes g c =
    always-at-rest g.R.Reads.alone (g.R.Reads.seen c.args.files.now) (g.R.Reads.start c.args.files.now) (λ t. ComesTo t c.args.loaded c.args.command.now c.marked.result)
    (λ t. mark-comes t c.args.loaded c.args.command.now c.in-Mark.name c.in-Mark.rev c.as_slice-in-Mark.result.now c.as_slice-in-Mark-2.result.now c.marked.result c.in-Mark.is c.as_slice-in-Mark.ensures c.as_slice-in-Mark-2.ensures c.marked.ensures.comes)

pub returns-in-Unmark-clause-comes : goal.returns-in-Unmark-clause-comes
returns-in-Unmark-clause-comes g c =
    always-at-rest g.R.Reads.alone (g.R.Reads.seen c.args.files.now) (g.R.Reads.start c.args.files.now) (λ t. ComesTo t c.args.loaded c.args.command.now c.unmarked.result)
    (λ t. unmark-comes t c.args.loaded c.args.command.now c.in-Unmark.name c.as_slice-in-Unmark.result.now c.unmarked.result c.in-Unmark.is c.as_slice-in-Unmark.ensures c.unmarked.ensures.comes)

pub import-requires-clause-valid : goal.import-requires-clause-valid
import-requires-clause-valid g c = subst AreNewChanges (sym c.as_slice.ensures) (subst IsValid c.in-Import.is c.requires.valid)

pub returns-in-Import-clause-sound : goal.returns-in-Import-clause-sound
returns-in-Import-clause-sound g c = weaker c.args.loaded c.import.result c.import.ensures.sound

pub returns-in-Import-clause-comes : goal.returns-in-Import-clause-comes
returns-in-Import-clause-comes g c =
    at-rest g.R.Reads.alone (g.R.Reads.seen c.import.new.files) (g.R.Reads.start c.import.new.files) (λ t. ImportComesTo t c.args.loaded c.as_slice.result.now c.import.result) (λ t. ComesTo t c.args.loaded c.args.command.now c.import.result)
    (λ t comes. import-comes t c.args.loaded c.args.command.now c.in-Import.changes c.as_slice.result.now c.import.result c.in-Import.is c.as_slice.ensures comes) c.import.ensures.comes
