-- What is found of one path.
use Rattle.std.specs.Prelude.{◌≡◌, ℕ, List, length, map}
use Rattle.hgs_model.specs.History.{parents_in}
use Rattle.hgs_findings.specs.OnePath.{Word, namings_of_words}
use Rattle.hgs_findings.specs.Reading.{reading_of, has_index_rest, has_data_rest}
use Rattle.hgs_judge.specs.declared.path.PathFindings.{PathFindings}
use Rattle.hgs_judge.specs.Kinds.{AreKinds}
use Rattle.hgs_judge.specs.Read.{links_of}
use Rattle.hgs_judge.specs.Words.{is_listed_wrongly, lacks_file}

-- These are the findings of a path: of the files of its filelog and of what each changeset says of it.
pub record IsJudged (index data_bytes : List ℕ) (all : List Word) (f : PathFindings) : Type 0 where
  pub count : f.count ≡ length (reading_of index data_bytes).revisions
  pub broken : f.broken ≡ (reading_of index data_bytes).broken
  pub kinds : AreKinds (namings_of_words (reading_of index data_bytes).revisions all) (parents_in (reading_of index data_bytes).revisions) (links_of (reading_of index data_bytes).revisions) f.kinds.items
  pub index_rest : f.index_rest ≡ has_index_rest index data_bytes
  pub data_rest : f.data_rest ≡ has_data_rest index data_bytes
  pub listed_wrongly : f.listed_wrongly.items ≡ map (is_listed_wrongly (reading_of index data_bytes).revisions all) all
  pub lacking : f.lacking.items ≡ map (lacks_file (reading_of index data_bytes).revisions) all
