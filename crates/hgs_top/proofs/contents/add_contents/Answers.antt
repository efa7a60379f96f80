use Rattle.hgs_load.specs.Theorems.GivenLemmas.{text-no-memory}
use Rattle.hgs_top.specs.Outcome.{contents_asks, subject_of}
use Rattle.hgs_top.proofs.contents.add_contents.Goals as goal

pub returns-in_err-add_phase-in-AtPhase-clause-given : goal.returns-in_err-add_phase-in-AtPhase-clause-given
returns-in_err-add_phase-in-AtPhase-clause-given g c =
    text-no-memory (g.R.Reads.given c.args.files.now) (g.R.Reads.seen c.args.files.now) (g.R.Reads.start c.args.files.now) (contents_asks c.args.session.now c.args.rev (subject_of c.args.about)) c.args.into.now.items c.add_phase.new.into.items c.from_residual.result c.from_residual.ensures.0 c.from_residual.ensures.1
