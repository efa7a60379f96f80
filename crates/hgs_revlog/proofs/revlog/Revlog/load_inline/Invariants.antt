use Rattle.std.proofs.Common.{◌≡◌, length}
use Rattle.hgs_revlog.specs.Load.{loaded_either}
use Rattle.hgs_revlog.proofs.FormLemmas.{left_of}
use Rattle.hgs_revlog.specs.Theorems.LoadLemmas.{load_rest}
use Rattle.hgs_revlog.proofs.revlog.Revlog.load_inline.Given as goal

abbrev pub invariant-loop-bytes : goal.invariant-loop-bytes
invariant-loop-bytes l = load_rest l.tail l.log (left_of l.log.entries l.rest) ≡ loaded_either l.tail l.index

abbrev pub decreases-loop-bytes : goal.decreases-loop-bytes
decreases-loop-bytes l = length l.rest
