use Rattle.std.proofs.Common.{◌≡◌, ◌*◌, length, length-append, ◌∙◌, ap, arith}
use Rattle.hgs_load.specs.View.{piece_length}
use Rattle.hgs_loading.specs.Theorems.FoundLemmas.{grows-trans}
use Rattle.hgs_loading.proofs.IndexLemmas.{goes-on, ends, all-read, short-piece}
use Rattle.hgs_loading.proofs.logs.read_index.Goals as goal

pub returns-in_err-extend_from_slice-clause-seen : goal.returns-in_err-extend_from_slice-clause-seen
returns-in_err-extend_from_slice-clause-seen g c =
    grows-trans (g.R.Reads.seen c.args.files.now) (g.R.Reads.seen c.loop-left.files) (g.R.Reads.seen c.read_part.new.files) c.loop-left.invariant.grown c.in_ok-part.ensures.seen

pub returns-then-piece-lt-PIECE-clause-found : goal.returns-then-piece-lt-PIECE-clause-found
returns-then-piece-lt-PIECE-clause-found g c =
    let i = c.loop-left.invariant in
    let e = c.in_ok-part.ensures in
    let some = c.loop-left-test.true in
    let so_far = i.so_far in
    ends g.R.Reads.alone (g.R.Reads.seen c.loop-left.files) (g.R.Reads.seen c.read_part.new.files) (g.R.Reads.start c.loop-left.files) (g.R.Reads.start c.read_part.new.files)
    c.args.index.now c.loop-left.bytes.items c.bytes_of-piece.result.now c.extend_from_slice.new.self.items c.len.result c.in_ok-part.part (c.len.ensures ∙ c.loop-left.bytes.ok.0)
    e.still e.same_start i.front e.answer c.bytes_of-piece.ensures c.in_ok-extend_from_slice.ensures.items (c.args.pieces * piece_length) c.if-piece-lt-PIECE.true (omega (arith, some, so_far))

pub loop-left-preserved-else-piece-lt-PIECE : goal.loop-left-preserved-else-piece-lt-PIECE
loop-left-preserved-else-piece-lt-PIECE g c =
    let i = c.loop-left.invariant in
    let e = c.in_ok-part.ensures in
    let most = short-piece piece_length c.in_ok-part.part c.bytes_of-piece.result.now e.short c.bytes_of-piece.ensures in
    let least = c.if-piece-lt-PIECE.false in
    let size : length c.bytes_of-piece.result.now ≡ piece_length = omega (arith, most, least) in
    let joined = c.in_ok-extend_from_slice.ensures.items in
    record {
      front = goes-on g.R.Reads.alone (g.R.Reads.seen c.loop-left.files) (g.R.Reads.seen c.read_part.new.files) (g.R.Reads.start c.loop-left.files) (g.R.Reads.start c.read_part.new.files)
          c.args.index.now c.loop-left.bytes.items c.bytes_of-piece.result.now c.extend_from_slice.new.self.items c.len.result c.in_ok-part.part (c.len.ensures ∙ c.loop-left.bytes.ok.0)
          e.still e.same_start i.front e.answer c.bytes_of-piece.ensures joined size;
      so_far =
          (let n = ap length joined in
          let m = length-append c.loop-left.bytes.items c.bytes_of-piece.result.now in
          let some = c.loop-left-test.true in
          let so_far = i.so_far in
          omega (arith, n, m, size, some, so_far));
      grown = grows-trans (g.R.Reads.seen c.args.files.now) (g.R.Reads.seen c.loop-left.files) (g.R.Reads.seen c.read_part.new.files) i.grown e.seen;
      same_start = e.same_start ∙ i.same_start;
      still = λ h. e.still h ∙ i.still h;
      later = (let l = e.cause.later in let k = i.later in omega (arith, l, k));
      refused = (let l = e.cause.refused in let k = i.refused in omega (arith, l, k));
    }

pub returns-clause-found : goal.returns-clause-found
returns-clause-found g c =
    let i = c.loop-left.invariant in
    let past = c.loop-left-test.false in
    let so_far = i.so_far in
    λ h. all-read (c.args.pieces * piece_length) (g.R.Reads.seen c.loop-left.files) (g.R.Reads.start c.loop-left.files) c.args.index.now c.loop-left.bytes.items (omega (arith, past, so_far)) (i.front h)
