use Rattle.hgs_load.specs.Theorems.GivenLemmas.{refused-first}
use Rattle.hgs_branches.specs.Windows.{held_asks}
use Rattle.hgs_branches.proofs.window.Window.hold.Goals as goal

pub returns-clause-given : goal.returns-clause-given
returns-clause-given g c =
    let e = c.in-Err.ensures in
    refused-first (g.R.Reads.given c.args.files.now) (g.R.Reads.given c.read_part.new.files) (g.R.Reads.seen c.args.files.now) (g.R.Reads.seen c.read_part.new.files) (g.R.Reads.start c.args.files.now) (held_asks c.args.session.now c.args.self c.args.rev c.args.upto) c.in-Err.refusal e.answer e.given e.seen
