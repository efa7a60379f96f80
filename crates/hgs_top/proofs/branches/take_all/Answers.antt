use Rattle.std.proofs.Common.{◌≡◌, ◌∙◌, ◌+◌, ◌-◌, ◌≤◌, ℕ, List, [], ◌∷◌, length, map, Some, Ok, refl, sym, ap, subst, arith, length-append}
use Rattle.hgs_branch.specs.Taken.{parents_of, with_changes, Taken}
use Rattle.hgs_branch.specs.declared.changeset.OnBranch.{OnBranch}
use Rattle.hgs_branches.specs.Windows.{changes_asks}
use Rattle.hgs_load.specs.Asks.{answer}
use Rattle.hgs_load.specs.Given.{Gave, GaveRefused}
use Rattle.hgs_load.specs.Theorems.AskLemmas.{grows-refl, grows-trans}
use Rattle.hgs_load.specs.Theorems.GivenLemmas.{gave-none}
use Rattle.hgs_top.specs.Branches.{all_asks, next_upto, steps_asks}
use Rattle.hgs_top.proofs.BranchLemmas.{step_on, step_refused, steps_end, taken_all, taken_first, taken_more, taken_refused}
use Rattle.hgs_top.proofs.branches.take_all.Goals as goal

count_more : (new b : Taken) (changes : List OnBranch) (upto : ℕ) → new ≡ with_changes b changes → length b.parents + length changes ≡ upto → length new.parents ≡ upto
count_more new b changes upto is sum =
    let p = ap (λ (t : Taken). length t.parents) is in
    let q = length-append b.parents (map parents_of changes) in
    let r = mapped changes in omega (arith, p, q, r, sum)
  where
    mapped : (xs : List OnBranch) → length (map parents_of xs) ≡ length xs
    mapped [] = refl
    mapped (x ∷ xs) = let e = mapped xs in omega (arith, e)

pub loop-taken-init : goal.loop-taken-init
loop-taken-init g c = record {
  told = λ alone. taken_first (g.R.Reads.seen c.args.files.now) (g.R.Reads.start c.args.files.now) c.args.session.now c.args.branches.now c.requires;
  gave = (length c.args.session.now.changelog.entries, omega arith, gave-none (g.R.Reads.given c.args.files.now) (g.R.Reads.given c.args.files.now) (g.R.Reads.seen c.args.files.now) (g.R.Reads.seen c.args.files.now) (g.R.Reads.start c.args.files.now) (all_asks c.args.steps c.args.session.now) refl (grows-refl (g.R.Reads.seen c.args.files.now)));
  size = ap (λ (t : Taken). length t.parents) c.requires;
  within = omega arith;
  grown = grows-refl (g.R.Reads.seen c.args.files.now);
  same_start = refl;
  still = λ alone. refl;
  later = omega arith;
  later_denied = omega arith;
}

pub returns-in-Err-clause-taken : goal.returns-in-Err-clause-taken
returns-in-Err-clause-taken g c = λ alone. taken_refused (g.R.Reads.seen c.args.files.now) (g.R.Reads.seen c.loop-taken.files) (g.R.Reads.seen c.advance.new.files) (g.R.Reads.start c.args.files.now) (g.R.Reads.start c.loop-taken.files) c.args.session.now c.loop-taken.taken c.next_upto-upto.result c.loop-taken.branches (c.loop-taken.invariant.still alone) (c.in-Err.ensures.still alone) c.loop-taken.invariant.same_start c.loop-taken.invariant.size (c.loop-taken.invariant.told alone) c.advance.new.self c.in-Err.refusal (let w = c.next_upto-upto.ensures.within in let n = c.len-count.ensures in omega (arith, w, n)) c.in-Err.ensures.refused

pub returns-in-Err-clause-given : goal.returns-in-Err-clause-given
returns-in-Err-clause-given g c = (let P : ℕ → Type 0 = λ n. GaveRefused (g.R.Reads.given c.loop-taken.files) (g.R.Reads.given c.advance.new.files) (g.R.Reads.seen c.loop-taken.files) (g.R.Reads.start c.loop-taken.files) (g.R.Reads.seen c.advance.new.files) (changes_asks c.args.session.now n c.next_upto-upto.result) c.in-Err.refusal in step_refused (g.R.Reads.given c.args.files.now) (g.R.Reads.given c.loop-taken.files) (g.R.Reads.given c.advance.new.files) (g.R.Reads.seen c.args.files.now) (g.R.Reads.seen c.loop-taken.files) (g.R.Reads.seen c.advance.new.files) (g.R.Reads.start c.args.files.now) (g.R.Reads.start c.loop-taken.files) c.args.session.now c.args.steps c.loop-taken.taken c.next_upto-upto.result c.loop-taken.invariant.same_start (let lt = c.loop-taken-test.true in let n = c.len-count.ensures in omega (arith, lt, n)) (c.next_upto-upto.ensures.is ∙ ap (λ n. next_upto c.args.steps n c.loop-taken.taken) c.len-count.ensures) c.in-Err.refusal c.loop-taken.invariant.gave (subst P c.loop-taken.invariant.size c.in-Err.ensures.given))

pub returns-in-Err-clause-seen : goal.returns-in-Err-clause-seen
returns-in-Err-clause-seen g c = grows-trans (g.R.Reads.seen c.args.files.now) (g.R.Reads.seen c.loop-taken.files) (g.R.Reads.seen c.advance.new.files) c.loop-taken.invariant.grown c.in-Err.ensures.seen

pub loop-taken-preserved : goal.loop-taken-preserved
loop-taken-preserved g c =
    let e = c.in-Ok.ensures in
    let more = c.next_upto-upto.ensures.more in
    record {
      told = λ alone. taken_more (g.R.Reads.seen c.args.files.now) (g.R.Reads.seen c.loop-taken.files) (g.R.Reads.seen c.advance.new.files) (g.R.Reads.start c.args.files.now) (g.R.Reads.start c.loop-taken.files) c.args.session.now c.loop-taken.taken c.next_upto-upto.result c.loop-taken.branches (c.loop-taken.invariant.still alone) (e.still alone) c.loop-taken.invariant.same_start c.loop-taken.invariant.size (c.loop-taken.invariant.told alone) c.advance.new.self e.ok;
      gave = (let P : ℕ → Type 0 = λ n. Gave (g.R.Reads.given c.loop-taken.files) (g.R.Reads.given c.advance.new.files) (g.R.Reads.seen c.loop-taken.files) (g.R.Reads.start c.loop-taken.files) (g.R.Reads.seen c.advance.new.files) (changes_asks c.args.session.now n c.next_upto-upto.result) (answer (Ok tt)) in step_on (g.R.Reads.given c.args.files.now) (g.R.Reads.given c.loop-taken.files) (g.R.Reads.given c.advance.new.files) (g.R.Reads.seen c.args.files.now) (g.R.Reads.seen c.loop-taken.files) (g.R.Reads.seen c.advance.new.files) (g.R.Reads.start c.args.files.now) (g.R.Reads.start c.loop-taken.files) c.args.session.now c.args.steps c.loop-taken.taken c.next_upto-upto.result c.loop-taken.invariant.same_start (let lt = c.loop-taken-test.true in let n = c.len-count.ensures in omega (arith, lt, n)) (c.next_upto-upto.ensures.is ∙ ap (λ n. next_upto c.args.steps n c.loop-taken.taken) c.len-count.ensures) more c.loop-taken.invariant.gave (subst P c.loop-taken.invariant.size e.given));
      size = count_more c.advance.new.self c.loop-taken.branches e.ok.0 c.next_upto-upto.result e.ok.1 e.ok.2;
      within = (let w = c.next_upto-upto.ensures.within in let n = c.len-count.ensures in omega (arith, w, n));
      grown = grows-trans (g.R.Reads.seen c.args.files.now) (g.R.Reads.seen c.loop-taken.files) (g.R.Reads.seen c.advance.new.files) c.loop-taken.invariant.grown e.seen;
      same_start = e.same_start ∙ c.loop-taken.invariant.same_start;
      still = λ alone. e.still alone ∙ c.loop-taken.invariant.still alone;
      later = let a = c.loop-taken.invariant.later in let b = e.cause.later in omega (arith, a, b);
      later_denied = let a = c.loop-taken.invariant.later_denied in let b = e.cause.refused in omega (arith, a, b);
    }

pub returns-clause-taken : goal.returns-clause-taken
returns-clause-taken g c = λ alone.
    let not = c.loop-taken-test.false in let n = c.len-count.ensures in let w = c.loop-taken.invariant.within in
    let u : Unit {0} = tt in
    taken_all (g.R.Reads.seen c.args.files.now) (g.R.Reads.start c.args.files.now) c.args.session.now c.loop-taken.taken c.loop-taken.branches u (omega (arith, not, n, w)) (c.loop-taken.invariant.told alone)

pub returns-clause-given : goal.returns-clause-given
returns-clause-given g c =
    let not = c.loop-taken-test.false in let n = c.len-count.ensures in
    steps_end (g.R.Reads.given c.args.files.now) (g.R.Reads.given c.loop-taken.files) (g.R.Reads.seen c.args.files.now) (g.R.Reads.seen c.loop-taken.files) (g.R.Reads.start c.args.files.now) c.args.session.now c.args.steps c.loop-taken.taken (omega (arith, not, n)) c.loop-taken.invariant.gave
