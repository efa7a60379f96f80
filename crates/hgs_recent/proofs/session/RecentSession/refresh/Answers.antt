use Rattle.std.proofs.Common.{ap, subst}
use Rattle.std.specs.Prelude.{OnOk}
use Rattle.hgs_load.specs.Beyond.{RefreshesBeyond}
use Rattle.hgs_load.specs.Given.{TakesView}
use Rattle.hgs_load.specs.Refresh.{refresh_asks, GivenFew}
use Rattle.hgs_load.specs.View.{View}
use Rattle.hgs_recent.specs.Questions.{Recent}
use Rattle.hgs_recent.proofs.session.RecentSession.refresh.Goals as goal

pub returns-clause-given : goal.returns-clause-given
returns-clause-given g c =
    let P : View → Type 0 = λ old. TakesView (g.R.Reads.given c.args.files.now) (g.R.Reads.given c.refresh.new.files) (g.R.Reads.seen c.args.files.now) (g.R.Reads.start c.args.files.now) (g.R.Reads.seen c.refresh.new.files) (refresh_asks old) c.refresh.new.self c.refresh.result in
    subst P (ap (λ (s : Recent). s.view) c.self.view_is) c.refresh.ensures.given

pub returns-clause-few : goal.returns-clause-few
returns-clause-few g c =
    let P : View → Type 0 = λ old. OnOk c.refresh.result (GivenFew g.R.Reads.alone (g.R.Reads.given c.args.files.now) (g.R.Reads.given c.refresh.new.files) (g.R.Reads.seen c.args.files.now) (g.R.Reads.start c.args.files.now) old c.refresh.new.self) in
    subst P (ap (λ (s : Recent). s.view) c.self.view_is) c.refresh.ensures.few

pub returns-clause-beyond : goal.returns-clause-beyond
returns-clause-beyond g c =
    let P : View → Type 0 = λ old. RefreshesBeyond (g.R.Reads.ties c.args.files.now).told (g.R.Reads.seen c.args.files.now) (g.R.Reads.start c.args.files.now) (g.R.Reads.seen c.refresh.new.files) (refresh_asks old) c.refresh.new.self c.refresh.result in
    subst P (ap (λ (s : Recent). s.view) c.self.view_is) c.refresh.ensures.beyond
