use Rattle.std.proofs.Common.{◌-◌, ◌^◌}
use Rattle.hgs_recover.proofs.Finding.{few-bytes, whole-file}
use Rattle.hgs_recover.proofs.find.read_file.Goals as goal

pub returns-clause-found : goal.returns-clause-found
returns-clause-found g c = λ alone.
    whole-file g.R.Reads.alone (g.R.Reads.seen c.read_part.new.files) (g.R.Reads.start c.read_part.new.files) c.args.path.now (2 ^ 64 - 1) c.in_ok-part.part
    (few-bytes (2 ^ 64 - 1) c.in_ok-part.part c.bytes_of.result.now c.bytes_of.ensures c.if-prove.false) c.in_ok-part.ensures.answer
