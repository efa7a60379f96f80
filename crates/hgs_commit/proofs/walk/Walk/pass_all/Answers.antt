use Rattle.std.proofs.Common.{◌++◌, map, arith}
use Rattle.hgs_manifest.specs.Held.{view_row}
use Rattle.hgs_commit.proofs.WalkLemmas.{told_next}
use Rattle.hgs_commit.proofs.walk.Walk.pass_all.Goals as goal

pub loop-self-preserved : goal.loop-self-preserved
loop-self-preserved c =
    let want = c.args.passed.now.items ++ map (λ r. r.path) c.args.self in
    record {
      within = (let a = c.loop-self-test.true in let b = c.len.ensures in omega (arith, a, b));
      told = told_next c.loop-self.self-inside.manifest.now c.loop-self.self-inside.next (view_row c.row-row.result) c.loop-self.passed.items c.push_path.new.passed.items want c.row-row.ensures c.in_ok-push_path.ensures c.loop-self.invariant.told;
    }
