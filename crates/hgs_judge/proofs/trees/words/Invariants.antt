use Rattle.std.proofs.Common.{◌≡◌, take, map}
use Rattle.hgs_findings.specs.OnePath.{word_of}
use Rattle.hgs_findings.specs.Sight.{Sight, seen}
use Rattle.hgs_judge.specs.Changesets.{changeset_as}
use Rattle.hgs_judge.specs.Trees.{rows_read}
use Rattle.hgs_judge.specs.Words.{words_in}
use Rattle.hgs_judge.proofs.trees.words.Given as goal

abbrev pub invariant-loop-changeset : goal.invariant-loop-changeset
invariant-loop-changeset l = (s : Sight) → l.trees ≡ map rows_read s.manifest → l.changesets ≡ map changeset_as (seen s) → words_in l.path l.words.items ≡ map (word_of l.path) (take l.changeset-index (seen s))
