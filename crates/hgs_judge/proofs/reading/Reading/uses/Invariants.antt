use Rattle.std.proofs.Common.{◌≡◌, ℕ, List, take, length}
use Rattle.hgs_judge.specs.Read.{AreRead, revisions_in}
use Rattle.hgs_judge.specs.Words.{AreAmong, uses_in, uses_of, words_in}
use Rattle.hgs_judge.proofs.reading.Reading.uses.Given as goal

abbrev pub invariant-loop-word : goal.invariant-loop-word
invariant-loop-word l = record {
  used : (path : List ℕ) (data_bytes : List ℕ) → AreRead l.self.log.entries data_bytes → uses_in l.uses.items ≡ uses_of (revisions_in l.self.log.entries data_bytes) (words_in path (take l.word-index l.words));
  among : AreAmong (length l.self.log.entries) l.uses.items;
}
