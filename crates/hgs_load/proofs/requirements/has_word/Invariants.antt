use Rattle.std.proofs.Common.{◌≡◌, length}
use Rattle.hgs_bytes.specs.Bytes.{among}
use Rattle.hgs_load.specs.Requirements.{words_of}
use Rattle.hgs_load.proofs.requirements.has_word.Given as goal

abbrev pub invariant-loop-rest : goal.invariant-loop-rest
invariant-loop-rest l = record {
  among : among l.word (words_of l.rest) ≡ among l.word (words_of l.text);
}

abbrev pub decreases-loop-rest : goal.decreases-loop-rest
decreases-loop-rest l = length l.rest
