use Rattle.std.proofs.Common.{◌≡◌, ◌∙◌, ◌+◌, ◌-◌, ℕ, suc, List, length, refl, sym, ap, subst, arith}
use Rattle.hgs_branch.specs.declared.changeset.OnBranch.{OnBranch}
use Rattle.hgs_branches.specs.Read.{AreRead}
use Rattle.hgs_load.specs.Given.{Gave}
use Rattle.hgs_load.specs.Theorems.AskLemmas.{grows-refl, grows-trans}
use Rattle.hgs_load.specs.Theorems.GivenLemmas.{gave-none}
use Rattle.hgs_branches.specs.Windows.{changes_asks, changes_behind}
use Rattle.hgs_branches.specs.declared.window.Window.{Window}
use Rattle.hgs_branches.proofs.HoldLemmas.{covers_behind, covers_next, held_next, made_read, none_covers, none_held, IsHeld}
use Rattle.hgs_branches.proofs.ReadLemmas.{all_taken, held_on, held_refused, length_next, made_on, outside_refused, read_next, refused_next, unmade_on}
use Rattle.hgs_branches.proofs.WindowLemmas.{CoversFrom}
use Rattle.hgs_branches.proofs.read.read_changes.Goals as goal

pub loop-rev-init : goal.loop-rev-init
loop-rev-init g c =
    let H : Window → Type 0 = λ w. IsHeld (g.R.Reads.seen c.args.files.now) (g.R.Reads.start c.args.files.now) (g.R.Reads.seen c.args.files.now) c.args.session.now w in
    let C : Window → Type 0 = λ w. CoversFrom c.args.session.now.changelog w.run c.args.from in
    let A : Window → Type 0 = λ w. Gave (g.R.Reads.given c.args.files.now) (g.R.Reads.given c.args.files.now) (g.R.Reads.seen c.args.files.now) (g.R.Reads.start c.args.files.now) (g.R.Reads.seen c.args.files.now) (changes_asks c.args.session.now c.args.from c.args.upto) (changes_behind c.args.session.now c.args.upto w c.args.from (c.args.upto - c.args.from)) in
    let w = sym c.before-window.ensures in
    record {
      low = omega arith;
      count = let e = ap (λ (l : List OnBranch). length l) c.new-changes.ensures.items in omega (arith, e);
      read = (let A : List OnBranch → Type 0 = λ l. AreRead (g.R.Reads.seen c.args.files.now) (g.R.Reads.start c.args.files.now) (g.R.Reads.seen c.args.files.now) c.args.session.now c.args.from l in subst A (sym c.new-changes.ensures.items) tt);
      held = subst H w (none_held (g.R.Reads.seen c.args.files.now) (g.R.Reads.start c.args.files.now) c.args.session.now c.args.from);
      covers = subst C w (none_covers c.args.session.now.changelog c.args.from);
      gave = subst A w (gave-none (g.R.Reads.given c.args.files.now) (g.R.Reads.given c.args.files.now) (g.R.Reads.seen c.args.files.now) (g.R.Reads.seen c.args.files.now) (g.R.Reads.start c.args.files.now) (changes_asks c.args.session.now c.args.from c.args.upto) refl (grows-refl (g.R.Reads.seen c.args.files.now)));
      seen = grows-refl (g.R.Reads.seen c.args.files.now);
      same_start = refl;
      still = λ alone. refl;
      later = omega arith;
      later_denied = omega arith;
    }

pub returns-in-Err-clause-refused : goal.returns-in-Err-clause-refused
returns-in-Err-clause-refused g c = outside_refused (g.R.Reads.seen c.args.files.now) (g.R.Reads.seen c.hold.new.files) (g.R.Reads.start c.args.files.now) c.args.session.now c.args.from c.args.upto c.in-Err.refusal c.in-Err.ensures.outside

pub returns-in-Err-clause-given : goal.returns-in-Err-clause-given
returns-in-Err-clause-given g c = held_refused (g.R.Reads.given c.args.files.now) (g.R.Reads.given c.loop-rev.files) (g.R.Reads.given c.hold.new.files) (g.R.Reads.seen c.args.files.now) (g.R.Reads.seen c.loop-rev.files) (g.R.Reads.seen c.hold.new.files) (g.R.Reads.start c.args.files.now) (g.R.Reads.start c.loop-rev.files) c.args.session.now c.args.from c.loop-rev.rev c.args.upto c.loop-rev.window c.loop-rev.invariant.same_start c.loop-rev-test.true c.loop-rev.invariant.gave c.in-Err.refusal c.in-Err.ensures.given

pub returns-in-Err-clause-seen : goal.returns-in-Err-clause-seen
returns-in-Err-clause-seen g c = grows-trans (g.R.Reads.seen c.args.files.now) (g.R.Reads.seen c.loop-rev.files) (g.R.Reads.seen c.hold.new.files) c.loop-rev.invariant.seen c.in-Err.ensures.seen

pub returns-in-Err-change_in-clause-refused : goal.returns-in-Err-change_in-clause-refused
returns-in-Err-change_in-clause-refused g c =
    refused_next (g.R.Reads.seen c.args.files.now) (g.R.Reads.seen c.loop-rev.files) (g.R.Reads.seen c.hold.new.files) (g.R.Reads.start c.args.files.now) c.args.session.now c.in-Ok.window c.args.from c.loop-rev.rev c.args.upto c.loop-rev.changes.items c.in-Err-change_in.refusal c.loop-rev.invariant.count c.loop-rev-test.true c.requires.there c.in-Ok.ensures.seen c.loop-rev.invariant.read
    ((covers_next c.args.session.now c.loop-rev.window c.in-Ok.window c.loop-rev.rev c.args.upto c.loop-rev-test.true c.requires.there c.loop-rev.invariant.covers c.in-Ok.ensures.run).0 c.loop-rev.rev (omega arith) (covers_next c.args.session.now c.loop-rev.window c.in-Ok.window c.loop-rev.rev c.args.upto c.loop-rev-test.true c.requires.there c.loop-rev.invariant.covers c.in-Ok.ensures.run).1) (held_next (g.R.Reads.seen c.args.files.now) (g.R.Reads.seen c.loop-rev.files) (g.R.Reads.seen c.hold.new.files) (g.R.Reads.start c.args.files.now) (g.R.Reads.start c.loop-rev.files) c.args.session.now c.loop-rev.window c.in-Ok.window c.loop-rev.rev c.args.upto c.loop-rev.invariant.same_start c.loop-rev.invariant.seen c.in-Ok.ensures.seen c.loop-rev.invariant.held c.in-Ok.ensures.answer) c.in-Err-change_in.ensures.refused

pub returns-in-Err-change_in-clause-given : goal.returns-in-Err-change_in-clause-given
returns-in-Err-change_in-clause-given g c = unmade_on (g.R.Reads.given c.args.files.now) (g.R.Reads.given c.loop-rev.files) (g.R.Reads.given c.hold.new.files) (g.R.Reads.seen c.args.files.now) (g.R.Reads.seen c.loop-rev.files) (g.R.Reads.seen c.hold.new.files) (g.R.Reads.start c.args.files.now) (g.R.Reads.start c.loop-rev.files) c.args.session.now c.args.from c.loop-rev.rev c.args.upto c.loop-rev.window c.loop-rev.invariant.same_start c.loop-rev-test.true c.loop-rev.invariant.gave c.in-Ok.window c.in-Err-change_in.refusal c.in-Err-change_in.ensures.refused c.in-Ok.ensures.given

pub returns-in-Err-change_in-clause-seen : goal.returns-in-Err-change_in-clause-seen
returns-in-Err-change_in-clause-seen g c = grows-trans (g.R.Reads.seen c.args.files.now) (g.R.Reads.seen c.loop-rev.files) (g.R.Reads.seen c.hold.new.files) c.loop-rev.invariant.seen c.in-Ok.ensures.seen

pub returns-in-Err-push-clause-given : goal.returns-in-Err-push-clause-given
returns-in-Err-push-clause-given g c =
    let made = c.in-Ok-change_in.ensures.made in (changes_behind c.args.session.now c.args.upto c.in-Ok.window (suc c.loop-rev.rev) (c.args.upto - suc c.loop-rev.rev), made_on (g.R.Reads.given c.args.files.now) (g.R.Reads.given c.loop-rev.files) (g.R.Reads.given c.hold.new.files) (g.R.Reads.seen c.args.files.now) (g.R.Reads.seen c.loop-rev.files) (g.R.Reads.seen c.hold.new.files) (g.R.Reads.start c.args.files.now) (g.R.Reads.start c.loop-rev.files) c.args.session.now c.args.from c.loop-rev.rev c.args.upto c.loop-rev.window c.loop-rev.invariant.same_start c.loop-rev-test.true c.loop-rev.invariant.gave c.in-Ok.window made.change made.text c.in-Ok.ensures.given)

pub returns-in-Err-push-clause-seen : goal.returns-in-Err-push-clause-seen
returns-in-Err-push-clause-seen g c = grows-trans (g.R.Reads.seen c.args.files.now) (g.R.Reads.seen c.loop-rev.files) (g.R.Reads.seen c.hold.new.files) c.loop-rev.invariant.seen c.in-Ok.ensures.seen

pub loop-rev-preserved : goal.loop-rev-preserved
loop-rev-preserved g c =
    let made = c.in-Ok-change_in.ensures.made in
    let held = (held_next (g.R.Reads.seen c.args.files.now) (g.R.Reads.seen c.loop-rev.files) (g.R.Reads.seen c.hold.new.files) (g.R.Reads.start c.args.files.now) (g.R.Reads.start c.loop-rev.files) c.args.session.now c.loop-rev.window c.in-Ok.window c.loop-rev.rev c.args.upto c.loop-rev.invariant.same_start c.loop-rev.invariant.seen c.in-Ok.ensures.seen c.loop-rev.invariant.held c.in-Ok.ensures.answer) in
    let covers = (covers_next c.args.session.now c.loop-rev.window c.in-Ok.window c.loop-rev.rev c.args.upto c.loop-rev-test.true c.requires.there c.loop-rev.invariant.covers c.in-Ok.ensures.run) in
    let next : suc c.loop-rev.rev ≡ c.loop-rev.rev + 1 = omega arith in
    let N : ℕ → Type 0 = λ n. Gave (g.R.Reads.given c.args.files.now) (g.R.Reads.given c.hold.new.files) (g.R.Reads.seen c.args.files.now) (g.R.Reads.start c.args.files.now) (g.R.Reads.seen c.hold.new.files) (changes_asks c.args.session.now c.args.from c.args.upto) (changes_behind c.args.session.now c.args.upto c.in-Ok.window n (c.args.upto - n)) in
    record {
      low = let l = c.loop-rev.invariant.low in omega (arith, l);
      count = let size = length_next c.loop-rev.changes.items c.push.new.self.items c.in-Ok-change_in.change c.in-Ok-push.ensures.items in let count = c.loop-rev.invariant.count in omega (arith, size, count);
      read = read_next (g.R.Reads.seen c.args.files.now) (g.R.Reads.seen c.loop-rev.files) (g.R.Reads.seen c.hold.new.files) (g.R.Reads.start c.args.files.now) c.args.session.now c.args.from c.loop-rev.rev c.loop-rev.changes.items c.push.new.self.items c.in-Ok-change_in.change c.in-Ok-push.ensures.items c.loop-rev.invariant.count c.in-Ok.ensures.seen c.loop-rev.invariant.read
          (made_read (g.R.Reads.seen c.args.files.now) (g.R.Reads.seen c.hold.new.files) (g.R.Reads.start c.args.files.now) c.args.session.now c.in-Ok.window c.loop-rev.rev c.in-Ok-change_in.change (covers.0 c.loop-rev.rev (omega arith) covers.1) held made);
      held = held;
      covers = covers_behind c.args.session.now.changelog c.in-Ok.window.run c.loop-rev.rev covers.0;
      gave = subst N next (made_on (g.R.Reads.given c.args.files.now) (g.R.Reads.given c.loop-rev.files) (g.R.Reads.given c.hold.new.files) (g.R.Reads.seen c.args.files.now) (g.R.Reads.seen c.loop-rev.files) (g.R.Reads.seen c.hold.new.files) (g.R.Reads.start c.args.files.now) (g.R.Reads.start c.loop-rev.files) c.args.session.now c.args.from c.loop-rev.rev c.args.upto c.loop-rev.window c.loop-rev.invariant.same_start c.loop-rev-test.true c.loop-rev.invariant.gave c.in-Ok.window made.change made.text c.in-Ok.ensures.given);
      seen = grows-trans (g.R.Reads.seen c.args.files.now) (g.R.Reads.seen c.loop-rev.files) (g.R.Reads.seen c.hold.new.files) c.loop-rev.invariant.seen c.in-Ok.ensures.seen;
      same_start = c.in-Ok.ensures.same_start ∙ c.loop-rev.invariant.same_start;
      still = λ alone. c.in-Ok.ensures.still alone ∙ c.loop-rev.invariant.still alone;
      later = let a = c.loop-rev.invariant.later in let b = c.in-Ok.ensures.cause.later in omega (arith, a, b);
      later_denied = let a = c.loop-rev.invariant.later_denied in let b = c.in-Ok.ensures.cause.refused in omega (arith, a, b);
    }

pub returns-clause-given : goal.returns-clause-given
returns-clause-given g c = all_taken (g.R.Reads.given c.args.files.now) (g.R.Reads.given c.loop-rev.files) (g.R.Reads.seen c.args.files.now) (g.R.Reads.seen c.loop-rev.files) (g.R.Reads.start c.args.files.now) c.args.session.now c.args.from c.loop-rev.rev c.args.upto c.loop-rev.window (let l = c.loop-rev-test.false in omega (arith, l)) c.loop-rev.invariant.gave
