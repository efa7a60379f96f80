use Rattle.std.specs.Prelude.{is_some}
use Rattle.std.proofs.Common.{◌≡◌, ℕ, List, Some, Ok, Err, ◌∙◌, ap, subst, arith}
use Rattle.hgs_files.specs.declared.op.Op.{Op}
use Rattle.hgs_files.specs.Tree.{Tree, after_all}
use Rattle.hgs_gen.specs.declared.generator.Generator.{Generator}
use Rattle.hgs_machine.specs.Carry.{tree_now}
use Rattle.hgs_machine.specs.Theorems.RefusedLemmas.{none-refused}
use Rattle.hgs_grown.specs.declared.commits.Growing.{Growing}
use Rattle.hgs_grown.specs.Grown.{AreCommitted, CommitsNext, GrowsTo}
use Rattle.hgs_grown.proofs.GoLemmas.{as-well, then, told-on}
use Rattle.hgs_grown.proofs.GrowLemmas.{goes-behind, goes-first, stops-behind, stops-first, told-as}
use Rattle.hgs_grown.proofs.commits.commit_all.Goals as goal

pub returns-in-Err-clause-log : goal.returns-in-Err-clause-log
returns-in-Err-clause-log g c =
    let zero_is : c.new.result.made ≡ 0 = ap (λ (x : Generator). x.made) c.new.ensures in
    let some = c.requires.some in
    let t = tree_now (g.F.Files.log c.args.store.now) (g.F.Reads.start c.args.store.now) in
    as-well (g.F.Files.log c.args.store.now) (g.F.Files.log c.commit_next.new.store) _ _ (λ ops h. stops-first Growing c.args.who.now c.args.seed c.args.count c.in-Err.stop c.new.result.made t ops zero_is (omega (arith, zero_is, some)) h) c.in-Err.ensures.log

pub loop-growing-init : goal.loop-growing-init
loop-growing-init g c =
    let next = c.in-Ok.next in
    let zero_is : c.new.result.made ≡ 0 = ap (λ (x : Generator). x.made) c.new.ensures in
    let some = c.requires.some in
    let made = c.in-Ok.ensures.made in
    let more = made.1 in
    let t = tree_now (g.F.Files.log c.args.store.now) (g.F.Reads.start c.args.store.now) in
    record {
      seed = made.0;
      within = omega (arith, zero_is, some, more);
      log = as-well (g.F.Files.log c.args.store.now) (g.F.Files.log c.commit_next.new.store) _ _ (λ ops h. goes-first Growing c.args.who.now c.args.seed c.args.count next c.new.result.made next.0.generator.made t ops zero_is made.1 h) c.in-Ok.ensures.log;
      left = c.in-Ok.ensures.cause (g.F.Reads.faults c.args.store.now) (g.F.Reads.denied c.args.store.now) (none-refused (g.F.Reads.faults c.args.store.now) (g.F.Reads.denied c.args.store.now));
      later = c.in-Ok.ensures.later;
      same_start = c.in-Ok.ensures.same_start;
    }

pub returns-in-Err-commit_next-clause-log : goal.returns-in-Err-commit_next-clause-log
returns-in-Err-commit_next-clause-log g c =
    let who = c.args.who.now in
    let seed = c.args.seed in
    let stop = c.in-Err-commit_next.stop in
    let now = c.loop-growing.growing in
    let i = c.loop-growing.invariant in
    let P : Tree → List Op → Type 0 = λ t ops. AreCommitted who seed t now.generator.made (Some c.loop-growing.last) ops in
    let Q : ℕ → Tree → List Op → Type 0 = λ s t ops. CommitsNext {G = Growing} who s now.generator.made c.loop-growing.last.swept (Err stop) t ops in
    then (g.F.Files.log c.args.store.now) (g.F.Files.log c.loop-growing.store) (g.F.Files.log c.commit_next-in-loop-growing.new.store) (g.F.Reads.start c.args.store.now) (g.F.Reads.start c.loop-growing.store) P (Q now.seed) (GrowsTo who seed c.args.count (Err stop)) i.same_start
    (λ t a b before h. stops-behind Growing who seed c.args.count stop now.generator.made (Some c.loop-growing.last) t a b c.loop-growing-test.true before (subst (λ s. Q s (after_all a t) b) i.seed h))
    i.log c.in-Err-commit_next.ensures.log

pub returns-in-Err-commit_next-clause-cause : goal.returns-in-Err-commit_next-clause-cause
returns-in-Err-commit_next-clause-cause g c =
    let i = c.loop-growing.invariant in
    let old = g.F.Files.log c.args.store.now in
    let now = g.F.Files.log c.loop-growing.store in
    told-as (is_some old) (is_some now) (g.F.Reads.faults c.args.store.now) (g.F.Reads.faults c.commit_next-in-loop-growing.new.store) (g.F.Reads.denied c.args.store.now) (g.F.Reads.denied c.commit_next-in-loop-growing.new.store) (Err c.in-Err-commit_next.stop) (told-on old now _ i.log)
    (c.in-Err-commit_next.ensures.cause (g.F.Reads.faults c.args.store.now) (g.F.Reads.denied c.args.store.now) i.left)

pub returns-in-Err-clause-cause : goal.returns-in-Err-clause-cause
returns-in-Err-clause-cause g c = c.in-Err.ensures.cause (g.F.Reads.faults c.args.store.now) (g.F.Reads.denied c.args.store.now) (none-refused (g.F.Reads.faults c.args.store.now) (g.F.Reads.denied c.args.store.now))

pub loop-growing-preserved : goal.loop-growing-preserved
loop-growing-preserved g c =
    let who = c.args.who.now in
    let seed = c.args.seed in
    let next = c.in-Ok-commit_next.next in
    let now = c.loop-growing.growing in
    let i = c.loop-growing.invariant in
    let one = c.in-Ok-commit_next.ensures in
    let made = one.made in
    let P : Tree → List Op → Type 0 = λ t ops. AreCommitted who seed t now.generator.made (Some c.loop-growing.last) ops in
    let Q : ℕ → Tree → List Op → Type 0 = λ s t ops. CommitsNext {G = Growing} who s now.generator.made c.loop-growing.last.swept (Ok next) t ops in
    record {
      seed = made.0 ∙ i.seed;
      within = (let e = made.1 in let lt = c.loop-growing-test.true in omega (arith, e, lt));
      log = then (g.F.Files.log c.args.store.now) (g.F.Files.log c.loop-growing.store) (g.F.Files.log c.commit_next-in-loop-growing.new.store) (g.F.Reads.start c.args.store.now) (g.F.Reads.start c.loop-growing.store) P (Q now.seed)
          (λ t ops. AreCommitted who seed t next.0.generator.made (Some next.1) ops) i.same_start
          (λ t a b before h. goes-behind Growing who seed c.args.count next now.generator.made next.0.generator.made (Some c.loop-growing.last) t a b made.1 before (subst (λ s. Q s (after_all a t) b) i.seed h))
          i.log one.log;
      later = (let a = i.later in let b = one.later in omega (arith, a, b));
      left = one.cause (g.F.Reads.faults c.args.store.now) (g.F.Reads.denied c.args.store.now) i.left;
      same_start = one.same_start ∙ i.same_start;
    }
