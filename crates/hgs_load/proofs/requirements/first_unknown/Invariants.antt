use Rattle.std.proofs.Common.{◌≡◌, length}
use Rattle.hgs_load.specs.Requirements.{first_unknown, words_of}
use Rattle.hgs_load.proofs.requirements.first_unknown.Given as goal

abbrev pub invariant-loop-rest : goal.invariant-loop-rest
invariant-loop-rest l = record {
  unknown : first_unknown (words_of l.rest) ≡ first_unknown (words_of l.text);
}

abbrev pub decreases-loop-rest : goal.decreases-loop-rest
decreases-loop-rest l = length l.rest
