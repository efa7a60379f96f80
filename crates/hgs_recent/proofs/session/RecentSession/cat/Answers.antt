use Rattle.std.proofs.Common.{List, refl}
use Rattle.hgs_index.specs.Manifest.{Row}
use Rattle.hgs_load.specs.Asks.{answer, then_asks}
use Rattle.hgs_reader.specs.Contents.{file_node, body_asks}
use Rattle.hgs_recent.specs.Questions.{tree_asks, changeset_use_asks}
use Rattle.hgs_recent.proofs.KeepLemmas.{keeps-later}
use Rattle.hgs_load.specs.Theorems.GivenLemmas.{text-then, refused-then}
use Rattle.hgs_load.specs.Theorems.AskLemmas.{adds-then, adds-refused}
use Rattle.hgs_recent.proofs.session.RecentSession.cat.Goals as goal

pub returns-in-Err-clause-answer : goal.returns-in-Err-clause-answer
returns-in-Err-clause-answer g c =
    adds-refused (λ (rows : List Row). rows) (g.R.Reads.seen c.args.files.now) (g.R.Reads.seen c.manifest.new.files) (g.R.Reads.start c.args.files.now)
    (tree_asks c.args.self.now.texts c.args.self.now.view c.args.rev) (λ (rows : List Row). then_asks (answer (file_node c.args.path.now rows)) (λ node. body_asks c.args.path.now node))
    c.args.into.now.items c.args.into.now.items c.in-Err.refusal refl c.in-Err.ensures.answer

pub returns-clause-answer : goal.returns-clause-answer
returns-clause-answer g c =
    adds-then (λ (rows : List Row). rows) (g.R.Reads.seen c.args.files.now) (g.R.Reads.seen c.manifest.new.files) (g.R.Reads.seen c.add_file.new.files) (g.R.Reads.start c.args.files.now) (g.R.Reads.start c.manifest.new.files)
    (tree_asks c.args.self.now.texts c.args.self.now.view c.args.rev) (λ (rows : List Row). then_asks (answer (file_node c.args.path.now rows)) (λ node. body_asks c.args.path.now node)) c.in-Ok.manifest c.args.into.now.items c.add_file.new.into.items c.add_file.result
    c.in-Ok.ensures.seen c.in-Ok.ensures.same_start c.in-Ok.ensures.answer c.add_file.ensures.answer

pub returns-in-Err-clause-given : goal.returns-in-Err-clause-given
returns-in-Err-clause-given g c =
    refused-then (g.R.Reads.given c.args.files.now) (g.R.Reads.given c.manifest.new.files) (g.R.Reads.seen c.args.files.now) (g.R.Reads.seen c.manifest.new.files) (g.R.Reads.start c.args.files.now)
    (tree_asks c.args.self.now.texts c.args.self.now.view c.args.rev) (λ (rows : List Row). then_asks (answer (file_node c.args.path.now rows)) (λ node. body_asks c.args.path.now node)) c.in-Err.refusal c.in-Err.ensures.given

pub returns-clause-given : goal.returns-clause-given
returns-clause-given g c =
    text-then (λ (rows : List Row). rows) (g.R.Reads.given c.args.files.now) (g.R.Reads.given c.manifest.new.files) (g.R.Reads.given c.add_file.new.files) (g.R.Reads.seen c.args.files.now) (g.R.Reads.seen c.manifest.new.files) (g.R.Reads.seen c.add_file.new.files) (g.R.Reads.start c.args.files.now) (g.R.Reads.start c.manifest.new.files)
    (tree_asks c.args.self.now.texts c.args.self.now.view c.args.rev) (λ (rows : List Row). then_asks (answer (file_node c.args.path.now rows)) (λ node. body_asks c.args.path.now node)) c.in-Ok.manifest c.args.into.now.items c.add_file.new.into.items c.add_file.result
    c.in-Ok.ensures.same_start c.in-Ok.ensures.given c.add_file.ensures.given

pub returns-clause-texts : goal.returns-clause-texts
returns-clause-texts g c =
    keeps-later (g.R.Reads.seen c.args.files.now) (g.R.Reads.seen c.manifest.new.files) (g.R.Reads.seen c.add_file.new.files) (g.R.Reads.start c.args.files.now) (changeset_use_asks c.args.self.now.texts c.args.self.now.view c.args.rev) c.args.self.now.texts c.manifest.new.self.texts c.add_file.result
    c.in-Ok.ensures.seen c.add_file.ensures.seen c.in-Ok.ensures.texts
