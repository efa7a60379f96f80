use Rattle.std.proofs.Common.{List, Ok, Err, inl, inr, ap, subst, refl, ◌∙◌, arith}
use Rattle.hgs_files.specs.declared.op.Op.{Op}
use Rattle.hgs_load.specs.Beyond.{StepsBeyond}
use Rattle.hgs_load.specs.Load.{asks_of}
use Rattle.hgs_load.specs.Theorems.AskLemmas.{continues-start, grows-refl, grows-trans}
use Rattle.hgs_load.specs.Theorems.GivenLemmas.{gave-none}
use Rattle.hgs_load.proofs.StepLemmas.{goes_on, has_ended, is_refused, gave_on, gave_all, gave_refused}
use Rattle.hgs_load.proofs.BeyondLemmas.{begun_on, begun_ended, begun_refused}
use Rattle.hgs_load.proofs.step.load_with.Goals as goal

pub loop-machine-init : goal.loop-machine-init
loop-machine-init g c =
    let seen = g.R.Reads.seen c.args.files.now in
    let start = g.R.Reads.start c.args.files.now in
    record {
      asked = continues-start seen start (asks_of c.args.load);
      gave = gave-none (g.R.Reads.given c.args.files.now) (g.R.Reads.given c.args.files.now) seen seen start (asks_of c.args.load) refl (grows-refl seen);
      grown = grows-refl seen;
      same_start = refl;
      still = λ h. refl;
      tied = refl;
      shown = λ h. h;
      begun = inl (refl, refl);
      later = omega arith;
      refused = omega arith;
    }

pub loop-machine-preserved : goal.loop-machine-preserved
loop-machine-preserved g c =
    let i = c.loop-machine.invariant in
    let e = c.in-Ok-true.ensures in
    record {
      asked = goes_on (g.R.Reads.seen c.args.files.now) (g.R.Reads.seen c.loop-machine.files) (g.R.Reads.seen c.feed_next.new.files) (g.R.Reads.start c.args.files.now) (g.R.Reads.start c.loop-machine.files) (asks_of c.args.load) (asks_of c.loop-machine.machine) (asks_of c.feed_next.new.machine)
          i.asked i.grown i.same_start c.in-Ok-true.field-0 c.in-Ok-true.field-0-test e.asked;
      gave = gave_on (g.R.Reads.given c.args.files.now) (g.R.Reads.given c.loop-machine.files) (g.R.Reads.given c.feed_next.new.files) (g.R.Reads.seen c.args.files.now) (g.R.Reads.seen c.loop-machine.files) (g.R.Reads.seen c.feed_next.new.files) (g.R.Reads.start c.args.files.now) (g.R.Reads.start c.loop-machine.files) (asks_of c.args.load) (asks_of c.loop-machine.machine) (asks_of c.feed_next.new.machine) i.same_start i.gave c.in-Ok-true.field-0 c.in-Ok-true.field-0-test e.given;
      grown = grows-trans (g.R.Reads.seen c.args.files.now) (g.R.Reads.seen c.loop-machine.files) (g.R.Reads.seen c.feed_next.new.files) i.grown e.seen;
      same_start = e.same_start ∙ i.same_start;
      still = λ h. e.still h ∙ i.still h;
      tied = e.same_ties ∙ i.tied;
      shown = λ h. e.shown (i.shown h);
      begun = (let S : List (List Op) → Type 0 = λ t. StepsBeyond t (g.R.Reads.start c.loop-machine.files) (g.R.Reads.seen c.feed_next.new.files) (asks_of c.loop-machine.machine) (asks_of c.feed_next.new.machine) (Ok c.in-Ok-true.field-0) in inr (begun_on (g.R.Reads.ties c.args.files.now).told (g.R.Reads.seen c.args.files.now) (g.R.Reads.seen c.loop-machine.files) (g.R.Reads.seen c.feed_next.new.files) (g.R.Reads.start c.args.files.now) (g.R.Reads.start c.loop-machine.files) (asks_of c.args.load) (asks_of c.loop-machine.machine) (asks_of c.feed_next.new.machine) i.begun i.same_start e.seen c.in-Ok-true.field-0 c.in-Ok-true.field-0-test (subst S (ap (λ t. t.told) i.tied) e.beyond) e.asked));
      later = (let l = e.cause.later in omega (arith, l, i.later));
      refused = (let l = e.cause.refused in omega (arith, l, i.refused));
    }

pub returns-in-Ok-false-clause-answer : goal.returns-in-Ok-false-clause-answer
returns-in-Ok-false-clause-answer g c =
    let i = c.loop-machine.invariant in
    has_ended (g.R.Reads.seen c.args.files.now) (g.R.Reads.seen c.loop-machine.files) (g.R.Reads.seen c.feed_next.new.files) (g.R.Reads.start c.args.files.now) (g.R.Reads.start c.loop-machine.files) (asks_of c.args.load) (asks_of c.loop-machine.machine) (asks_of c.feed_next.new.machine)
    i.asked i.grown i.same_start c.in-Ok-false.field-0 c.take.result c.in-Ok-false.field-0-test c.in-Ok-false.ensures.asked c.take.ensures

pub returns-in-Err-clause-answer : goal.returns-in-Err-clause-answer
returns-in-Err-clause-answer g c =
    let i = c.loop-machine.invariant in
    is_refused (g.R.Reads.seen c.args.files.now) (g.R.Reads.seen c.loop-machine.files) (g.R.Reads.seen c.feed_next.new.files) (g.R.Reads.start c.args.files.now) (g.R.Reads.start c.loop-machine.files) (asks_of c.args.load) (asks_of c.loop-machine.machine) (asks_of c.feed_next.new.machine)
    i.asked i.grown i.same_start c.in-Err.refusal c.in-Err.ensures.asked

pub returns-in-Err-clause-seen : goal.returns-in-Err-clause-seen
returns-in-Err-clause-seen g c =
    grows-trans (g.R.Reads.seen c.args.files.now) (g.R.Reads.seen c.loop-machine.files) (g.R.Reads.seen c.feed_next.new.files) c.loop-machine.invariant.grown c.in-Err.ensures.seen

pub returns-in-Ok-false-clause-given : goal.returns-in-Ok-false-clause-given
returns-in-Ok-false-clause-given g c =
    let i = c.loop-machine.invariant in
    let e = c.in-Ok-false.ensures in
    gave_all (g.R.Reads.given c.args.files.now) (g.R.Reads.given c.loop-machine.files) (g.R.Reads.given c.feed_next.new.files) (g.R.Reads.seen c.args.files.now) (g.R.Reads.seen c.loop-machine.files) (g.R.Reads.seen c.feed_next.new.files) (g.R.Reads.start c.args.files.now) (g.R.Reads.start c.loop-machine.files) (asks_of c.args.load) (asks_of c.loop-machine.machine) (asks_of c.feed_next.new.machine) i.same_start i.gave
    c.in-Ok-false.field-0 c.take.result c.in-Ok-false.field-0-test e.seen e.given e.asked c.take.ensures

pub returns-in-Err-clause-given : goal.returns-in-Err-clause-given
returns-in-Err-clause-given g c =
    let i = c.loop-machine.invariant in
    gave_refused (g.R.Reads.given c.args.files.now) (g.R.Reads.given c.loop-machine.files) (g.R.Reads.given c.feed_next.new.files) (g.R.Reads.seen c.args.files.now) (g.R.Reads.seen c.loop-machine.files) (g.R.Reads.seen c.feed_next.new.files) (g.R.Reads.start c.args.files.now) (g.R.Reads.start c.loop-machine.files) (asks_of c.args.load) (asks_of c.loop-machine.machine) (asks_of c.feed_next.new.machine) i.same_start i.gave
    c.in-Err.refusal c.in-Err.ensures.given

pub returns-in-Ok-false-clause-beyond : goal.returns-in-Ok-false-clause-beyond
returns-in-Ok-false-clause-beyond g c =
    let i = c.loop-machine.invariant in
    begun_ended (g.R.Reads.ties c.args.files.now).told (g.R.Reads.seen c.args.files.now) (g.R.Reads.seen c.loop-machine.files) (g.R.Reads.seen c.feed_next.new.files) (g.R.Reads.start c.args.files.now) (g.R.Reads.start c.loop-machine.files) (asks_of c.args.load) (asks_of c.loop-machine.machine) (asks_of c.feed_next.new.machine) i.begun i.same_start c.in-Ok-false.ensures.seen
    c.in-Ok-false.field-0 c.take.result c.in-Ok-false.field-0-test c.in-Ok-false.ensures.asked c.take.ensures

pub returns-in-Err-clause-beyond : goal.returns-in-Err-clause-beyond
returns-in-Err-clause-beyond g c =
    let i = c.loop-machine.invariant in
    let S : List (List Op) → Type 0 = λ t. StepsBeyond t (g.R.Reads.start c.loop-machine.files) (g.R.Reads.seen c.feed_next.new.files) (asks_of c.loop-machine.machine) (asks_of c.feed_next.new.machine) (Err c.in-Err.refusal) in
    inr (begun_refused (g.R.Reads.ties c.args.files.now).told (g.R.Reads.seen c.args.files.now) (g.R.Reads.seen c.loop-machine.files) (g.R.Reads.seen c.feed_next.new.files) (g.R.Reads.start c.args.files.now) (g.R.Reads.start c.loop-machine.files) (asks_of c.args.load) (asks_of c.loop-machine.machine) (asks_of c.feed_next.new.machine) i.begun i.same_start c.in-Err.ensures.seen
    c.in-Err.refusal (subst S (ap (λ t. t.told) i.tied) c.in-Err.ensures.beyond) c.in-Err.ensures.asked)
