use Rattle.std.proofs.Common.{◌<◌, length, ap, arith}
use Rattle.std.specs.Prelude.{[], unwrap_or, ◌+◌}
use Rattle.hgs_verify.proofs.FileLemmas.{file-read}
use Rattle.hgs_verify.proofs.whole.read_text.Goals as goal

pub returns-clause-bytes : goal.returns-clause-bytes
returns-clause-bytes g c =
    let short : length (unwrap_or c.in_ok-part.part []) < c.args.most + 1 = (let few = c.if-bytes_of-most.false in let is = ap length c.bytes_of.ensures in omega (arith, few, is)) in
    file-read (g.R.Reads.seen c.read_part.new.files) (g.R.Reads.start c.read_part.new.files) c.args.path.now c.in_ok-part.part (c.args.most + 1) c.in_ok-part.ensures.answer short
