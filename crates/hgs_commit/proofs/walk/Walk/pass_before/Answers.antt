use Rattle.std.proofs.Common.{◌++◌, map, sym, ◌∙◌, arith}
use Rattle.hgs_manifest.specs.Held.{view_row}
use Rattle.hgs_commit.specs.Walk.{before}
use Rattle.hgs_commit.proofs.WalkLemmas.{rest_kept, rest_passed, told_kept, told_passed}
use Rattle.hgs_commit.proofs.walk.Walk.pass_before.Goals as goal

pub returns-then-not-below-clause-rest : goal.returns-then-not-below-clause-rest
returns-then-not-below-clause-rest c = rest_kept c.args.path.now c.loop-self.self-inside.manifest.now c.loop-self.self-inside.next (view_row c.row-row.result) c.args.self.now c.row-row.ensures (sym c.below.ensures ∙ c.if-not-below.true) c.loop-self.invariant.rest

pub returns-then-not-below-clause-passed : goal.returns-then-not-below-clause-passed
returns-then-not-below-clause-passed c =
    let want = c.args.passed.now.items ++ map (λ r. r.path) (before c.args.path.now c.args.self.now) in
    told_kept c.args.path.now c.loop-self.self-inside.manifest.now c.loop-self.self-inside.next (view_row c.row-row.result) c.loop-self.passed.items want c.row-row.ensures (sym c.below.ensures ∙ c.if-not-below.true) c.loop-self.invariant.told

pub loop-self-preserved : goal.loop-self-preserved
loop-self-preserved c =
    let want = c.args.passed.now.items ++ map (λ r. r.path) (before c.args.path.now c.args.self.now) in
    let found = sym c.below.ensures ∙ c.if-not-below.false in
    record {
      within = (let a = c.loop-self-test.true in let b = c.len.ensures in omega (arith, a, b));
      rest = rest_passed c.args.path.now c.loop-self.self-inside.manifest.now c.loop-self.self-inside.next (view_row c.row-row.result) c.args.self.now c.row-row.ensures found c.loop-self.invariant.rest;
      told = told_passed c.args.path.now c.loop-self.self-inside.manifest.now c.loop-self.self-inside.next (view_row c.row-row.result) c.loop-self.passed.items c.push_path.new.passed.items want c.row-row.ensures found c.in_ok-push_path.ensures c.loop-self.invariant.told;
    }
