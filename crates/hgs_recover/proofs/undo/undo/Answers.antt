use Rattle.std.proofs.Common.{◌+◌, ◌∙◌, drop, refl, arith}
use Rattle.hgs_recover.proofs.Undone.{all-stand, done-at, ends-at, here, never-fall, refused-at, stand-at, started, undo-ends}
use Rattle.hgs_recover.proofs.undo.undo.Goals as goal

pub loop-op-init : goal.loop-op-init
loop-op-init g c = record {
  log = started (g.F.Files.log c.args.files.now) c.args.ops.now;
  sources = all-stand c.args.ops.now (g.F.Files.log c.args.files.now) (g.F.Reads.start c.args.files.now) c.requires.undo;
  ends = undo-ends c.args.ops.now c.requires.undo;
  same_start = refl;
  counts = record { faults = omega arith; denied = omega arith };
}

pub returns-then-is_err-clause-log : goal.returns-then-is_err-clause-log
returns-then-is_err-clause-log g c =
    let ops = c.args.ops.now in
    let i = c.loop-op.op-index in
    refused-at ops (drop (i + 1) ops) i c.op-item.result (here ops i c.op-item.result c.loop-op-test.true c.op-item.is) c.do_op.result (g.F.Files.log c.args.files.now) (g.F.Files.log c.loop-op.files) (g.F.Files.log c.do_op.new.files) c.is_err.result
    c.if-is_err.true c.is_err.ensures.value c.loop-op.invariant.ends c.loop-op.invariant.log c.do_op.ensures.done

pub loop-op-preserved : goal.loop-op-preserved
loop-op-preserved g c =
    let ops = c.args.ops.now in
    let i = c.loop-op.op-index in
    let op = c.op-item.result in
    let rest = drop (i + 1) ops in
    let at = here ops i op c.loop-op-test.true c.op-item.is in
    let inv = c.loop-op.invariant in
    let did = c.do_op.ensures in
    record {
      log = done-at ops rest i op at c.do_op.result c.is_err.result c.if-is_err.false c.is_err.ensures.value (g.F.Files.log c.args.files.now) (g.F.Files.log c.loop-op.files) (g.F.Files.log c.do_op.new.files) inv.log did.done;
      sources = stand-at ops rest i op at c.do_op.result c.is_err.result c.if-is_err.false c.is_err.ensures.value c.pieces_join.ensures (g.F.Files.log c.loop-op.files) (g.F.Files.log c.do_op.new.files) (g.F.Reads.start c.loop-op.files) (g.F.Reads.start c.do_op.new.files) did.same_start inv.sources did.done;
      ends = ends-at ops rest i op at c.do_op.result inv.ends;
      same_start = did.same_start ∙ inv.same_start;
      counts = never-fall (g.F.Reads.faults c.args.files.now) (g.F.Reads.faults c.loop-op.files) (g.F.Reads.faults c.do_op.new.files) (g.F.Reads.denied c.args.files.now) (g.F.Reads.denied c.loop-op.files) (g.F.Reads.denied c.do_op.new.files) c.do_op.result inv.counts did.counts;
    }
