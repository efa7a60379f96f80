use Rattle.std.proofs.Common.{◌<◌, [], arith}
use Rattle.std.specs.Prelude.{unwrap_or, option_map}
use Rattle.hgs_manifest.specs.Held.{view_row}
use Rattle.hgs_judge.proofs.EnteredLemmas.{among-tracked}
use Rattle.hgs_judge.proofs.PathLemmas.{entered-before, passed-known}
use Rattle.hgs_judge.proofs.paths.enter_rows.Goals as goal

pub loop-left-preserved-in_ok-insert : goal.loop-left-preserved-in_ok-insert
loop-left-preserved-in_ok-insert c =
    let left = c.loop-left.left in
    let lt : 0 < left = c.loop-left-test.true in
    record {
      within = (let w = c.loop-left.invariant.within in omega (arith, w));
      keys = entered-before c.args.rows.now left (view_row c.row.result) c.args.paths.now.keys c.loop-left.paths.keys c.insert.new.self.keys c.in_ok-from_slice.field-0 lt c.row.ensures (c.is_new.ensures.tracked c.if-is_new.true) c.in_ok-from_slice.ensures c.loop-left.invariant.keys c.in_ok-insert.ensures.keys;
    }

pub loop-left-preserved : goal.loop-left-preserved
loop-left-preserved c =
    let left = c.loop-left.left in
    let path = c.row.result.path.now in
    let others = unwrap_or (option_map (λ m. m.now) c.args.others) [] in
    let lt : 0 < left = c.loop-left-test.true in
    record {
      within = (let w = c.loop-left.invariant.within in omega (arith, w));
      keys = passed-known c.args.rows.now left (view_row c.row.result) c.args.paths.now.keys c.loop-left.paths.keys lt c.row.ensures
          (λ t. c.requires path (among-tracked path others t (c.is_new.ensures.known c.if-is_new.false t))) c.loop-left.invariant.keys;
    }
