use Rattle.std.proofs.Common.{List}
use Rattle.hgs_changelog.specs.View.{view_change}
use Rattle.hgs_index.specs.ChangeText.{Change}
use Rattle.hgs_index.specs.Manifest.{Row}
use Rattle.hgs_reader.specs.Contents.{rows_asks}
use Rattle.hgs_reader.specs.Line.{change_asks}
use Rattle.hgs_load.specs.Theorems.GivenLemmas.{takes-then, refused-then}
use Rattle.hgs_load.specs.Theorems.AskLemmas.{answers-then, answers-refused, grows-trans}
use Rattle.hgs_reader.proofs.session.Session.manifest.Goals as goal

pub returns-in-Ok-clause-answer : goal.returns-in-Ok-clause-answer
returns-in-Ok-clause-answer g c =
    answers-then view_change (λ (rows : List Row). rows) (g.R.Reads.seen c.args.files.now) (g.R.Reads.seen c.change.new.files) (g.R.Reads.seen c.manifest_of.new.files) (g.R.Reads.start c.args.files.now) (g.R.Reads.start c.change.new.files)
    (change_asks c.args.self.now c.args.rev) (λ (change : Change). rows_asks change.manifest) c.in-Ok.change c.manifest_of.result c.in-Ok.ensures.seen c.in-Ok.ensures.same_start c.in-Ok.ensures.answer c.manifest_of.ensures.answer

pub returns-in-Err-clause-answer : goal.returns-in-Err-clause-answer
returns-in-Err-clause-answer g c =
    answers-refused view_change (λ (rows : List Row). rows) (g.R.Reads.seen c.args.files.now) (g.R.Reads.seen c.change.new.files) (g.R.Reads.start c.args.files.now)
    (change_asks c.args.self.now c.args.rev) (λ (change : Change). rows_asks change.manifest) c.in-Err.refusal c.in-Err.ensures.answer

pub returns-in-Ok-clause-given : goal.returns-in-Ok-clause-given
returns-in-Ok-clause-given g c =
    takes-then view_change (λ (rows : List Row). rows) (g.R.Reads.given c.args.files.now) (g.R.Reads.given c.change.new.files) (g.R.Reads.given c.manifest_of.new.files) (g.R.Reads.seen c.args.files.now) (g.R.Reads.seen c.change.new.files) (g.R.Reads.seen c.manifest_of.new.files) (g.R.Reads.start c.args.files.now) (g.R.Reads.start c.change.new.files)
    (change_asks c.args.self.now c.args.rev) (λ (change : Change). rows_asks change.manifest) c.in-Ok.change c.manifest_of.result c.in-Ok.ensures.same_start c.in-Ok.ensures.given c.manifest_of.ensures.given

pub returns-in-Err-clause-given : goal.returns-in-Err-clause-given
returns-in-Err-clause-given g c =
    refused-then (g.R.Reads.given c.args.files.now) (g.R.Reads.given c.change.new.files) (g.R.Reads.seen c.args.files.now) (g.R.Reads.seen c.change.new.files) (g.R.Reads.start c.args.files.now)
    (change_asks c.args.self.now c.args.rev) (λ (change : Change). rows_asks change.manifest) c.in-Err.refusal c.in-Err.ensures.given

pub returns-in-Ok-clause-seen : goal.returns-in-Ok-clause-seen
returns-in-Ok-clause-seen g c = grows-trans (g.R.Reads.seen c.args.files.now) (g.R.Reads.seen c.change.new.files) (g.R.Reads.seen c.manifest_of.new.files) c.in-Ok.ensures.seen c.manifest_of.ensures.seen
