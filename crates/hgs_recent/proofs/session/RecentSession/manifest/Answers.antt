use Rattle.std.proofs.Common.{List, subst, Err}
use Rattle.hgs_changelog.specs.View.{view_change}
use Rattle.hgs_index.specs.ChangeText.{Change}
use Rattle.hgs_index.specs.Manifest.{Row}
use Rattle.hgs_load.specs.Asks.{Answers}
use Rattle.hgs_load.specs.Given.{Takes}
use Rattle.hgs_load.specs.Theorems.AskLemmas.{answers-then, answers-refused, grows-trans}
use Rattle.hgs_load.specs.Theorems.GivenLemmas.{takes-then, refused-then}
use Rattle.hgs_reader.specs.Line.{change_asks}
use Rattle.hgs_recent.specs.Questions.{Recent, rows_asks, tree_asks, use_asks, changeset_use_asks, Keeps}
use Rattle.hgs_recent.proofs.KeepLemmas.{keeps-then}
use Rattle.hgs_recent.proofs.session.RecentSession.manifest.Goals as goal

pub returns-in-Ok-clause-answer : goal.returns-in-Ok-clause-answer
returns-in-Ok-clause-answer g c =
    let s = c.self.inside in
    let P : Recent → Type 0 = λ s. Answers (λ (rows : List Row). rows) (g.R.Reads.seen c.args.files.now) (g.R.Reads.start c.args.files.now) (g.R.Reads.seen c.manifest_of.new.files) (tree_asks s.texts s.view c.args.rev) c.manifest_of.result in
    subst P c.self.view_is
    (answers-then view_change (λ (rows : List Row). rows) (g.R.Reads.seen c.args.files.now) (g.R.Reads.seen c.change.new.files) (g.R.Reads.seen c.manifest_of.new.files) (g.R.Reads.start c.args.files.now) (g.R.Reads.start c.change.new.files)
    (change_asks s.session c.args.rev) (λ (change : Change). rows_asks s.texts change.manifest) c.in-Ok.change c.manifest_of.result c.in-Ok.ensures.seen c.in-Ok.ensures.same_start c.in-Ok.ensures.answer c.manifest_of.ensures.answer)

pub returns-in-Ok-clause-given : goal.returns-in-Ok-clause-given
returns-in-Ok-clause-given g c =
    let s = c.self.inside in
    let P : Recent → Type 0 = λ s. Takes (λ (rows : List Row). rows) (g.R.Reads.given c.args.files.now) (g.R.Reads.given c.manifest_of.new.files) (g.R.Reads.seen c.args.files.now) (g.R.Reads.start c.args.files.now) (g.R.Reads.seen c.manifest_of.new.files) (tree_asks s.texts s.view c.args.rev) c.manifest_of.result in
    subst P c.self.view_is
    (takes-then view_change (λ (rows : List Row). rows) (g.R.Reads.given c.args.files.now) (g.R.Reads.given c.change.new.files) (g.R.Reads.given c.manifest_of.new.files) (g.R.Reads.seen c.args.files.now) (g.R.Reads.seen c.change.new.files) (g.R.Reads.seen c.manifest_of.new.files) (g.R.Reads.start c.args.files.now) (g.R.Reads.start c.change.new.files)
    (change_asks s.session c.args.rev) (λ (change : Change). rows_asks s.texts change.manifest) c.in-Ok.change c.manifest_of.result c.in-Ok.ensures.same_start c.in-Ok.ensures.given c.manifest_of.ensures.given)

pub returns-in-Ok-clause-texts : goal.returns-in-Ok-clause-texts
returns-in-Ok-clause-texts g c =
    let s = c.self.inside in
    let P : Recent → Type 0 = λ s. Keeps (g.R.Reads.seen c.args.files.now) (g.R.Reads.start c.args.files.now) (g.R.Reads.seen c.manifest_of.new.files) (changeset_use_asks s.texts s.view c.args.rev) s.texts c.manifest_of.new.texts c.manifest_of.result in
    subst P c.self.view_is
    (keeps-then view_change (g.R.Reads.seen c.args.files.now) (g.R.Reads.seen c.change.new.files) (g.R.Reads.seen c.manifest_of.new.files) (g.R.Reads.start c.args.files.now) (g.R.Reads.start c.change.new.files)
    (change_asks s.session c.args.rev) (λ (change : Change). use_asks s.texts change.manifest) c.in-Ok.change s.texts c.manifest_of.new.texts c.manifest_of.result c.in-Ok.ensures.seen c.in-Ok.ensures.same_start c.in-Ok.ensures.answer c.manifest_of.ensures.kept)

pub returns-in-Ok-clause-seen : goal.returns-in-Ok-clause-seen
returns-in-Ok-clause-seen g c = grows-trans (g.R.Reads.seen c.args.files.now) (g.R.Reads.seen c.change.new.files) (g.R.Reads.seen c.manifest_of.new.files) c.in-Ok.ensures.seen c.manifest_of.ensures.seen

pub returns-in-Err-clause-answer : goal.returns-in-Err-clause-answer
returns-in-Err-clause-answer g c =
    let s = c.self.inside in
    let P : Recent → Type 0 = λ s. Answers (λ (rows : List Row). rows) (g.R.Reads.seen c.args.files.now) (g.R.Reads.start c.args.files.now) (g.R.Reads.seen c.change.new.files) (tree_asks s.texts s.view c.args.rev) (Err c.in-Err.refusal) in
    subst P c.self.view_is
    (answers-refused view_change (λ (rows : List Row). rows) (g.R.Reads.seen c.args.files.now) (g.R.Reads.seen c.change.new.files) (g.R.Reads.start c.args.files.now)
    (change_asks s.session c.args.rev) (λ (change : Change). rows_asks s.texts change.manifest) c.in-Err.refusal c.in-Err.ensures.answer)

pub returns-in-Err-clause-given : goal.returns-in-Err-clause-given
returns-in-Err-clause-given g c =
    let s = c.self.inside in
    let P : Recent → Type 0 = λ s. Takes (λ (rows : List Row). rows) (g.R.Reads.given c.args.files.now) (g.R.Reads.given c.change.new.files) (g.R.Reads.seen c.args.files.now) (g.R.Reads.start c.args.files.now) (g.R.Reads.seen c.change.new.files) (tree_asks s.texts s.view c.args.rev) (Err c.in-Err.refusal) in
    subst P c.self.view_is
    (refused-then (g.R.Reads.given c.args.files.now) (g.R.Reads.given c.change.new.files) (g.R.Reads.seen c.args.files.now) (g.R.Reads.seen c.change.new.files) (g.R.Reads.start c.args.files.now)
    (change_asks s.session c.args.rev) (λ (change : Change). rows_asks s.texts change.manifest) c.in-Err.refusal c.in-Err.ensures.given)
