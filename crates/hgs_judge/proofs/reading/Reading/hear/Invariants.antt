use Rattle.std.proofs.Common.{◌≡◌, ℕ, List, take, map}
use Rattle.hgs_findings.specs.OnePath.{naming_word}
use Rattle.hgs_judge.specs.Kinds.{namings_in}
use Rattle.hgs_judge.specs.Read.{revisions_in}
use Rattle.hgs_judge.specs.Words.{is_listed_wrongly, lacks_file, words_in}
use Rattle.hgs_judge.proofs.reading.Reading.hear.Given as goal

abbrev pub invariant-loop-at : goal.invariant-loop-at
invariant-loop-at l = record {
  namings : (path : List ℕ) → namings_in l.namings.items ≡ map (naming_word (revisions_in l.self.log.entries l.data_bytes) (words_in path l.words)) (words_in path (take l.at l.words));
  listed : (path : List ℕ) → l.listed_wrongly.items ≡ map (is_listed_wrongly (revisions_in l.self.log.entries l.data_bytes) (words_in path l.words)) (words_in path (take l.at l.words));
  lacking : (path : List ℕ) → l.lacking.items ≡ map (lacks_file (revisions_in l.self.log.entries l.data_bytes)) (words_in path (take l.at l.words));
}
