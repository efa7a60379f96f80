-- The findings of one path, by what was read of it alone.
use Rattle.std.specs.Prelude.{◌≡◌, ℕ, List, true, length, Option, Some, slice_get}
use Rattle.hgs_files.specs.Tree.{Tree}
use Rattle.hgs_index.specs.Revision.{Revision}
use Rattle.hgs_stands.specs.Places.{changelog_index}
use Rattle.hgs_findings.specs.Namings.{is_unneeded, is_misplaced, is_wrongly_made}
use Rattle.hgs_findings.specs.OnePath.{Word, namings_of_words, words}
use Rattle.hgs_findings.specs.Reading.{reading_of, has_index_rest, has_data_rest, the_filelog, index_path, data_path, index_in, data_in, sight_of}
use Rattle.hgs_judge.specs.Words.{is_listed_wrongly, lacks_file}

-- What is found of a path whose filelog has these two files, of their bytes and of what the changesets say of it.
pub data IsFoundAt (index_file data_file index data_bytes : List ℕ) (all : List Word) : List ℕ → Option ℕ → ℕ → Type 0 where
  fault : (reading_of index data_bytes).broken ≡ true → IsFoundAt index_file data_file index data_bytes all index_file (Some (length (reading_of index data_bytes).revisions)) 3
  lacking : (rev : ℕ) (w : Word) → slice_get all rev ≡ Some w → lacks_file (reading_of index data_bytes).revisions w ≡ true → IsFoundAt index_file data_file index data_bytes all index_file (Some rev) 5
  unneeded : (rev : ℕ) (r : Revision) → slice_get (reading_of index data_bytes).revisions rev ≡ Some r → is_unneeded (namings_of_words (reading_of index data_bytes).revisions all) rev ≡ true → IsFoundAt index_file data_file index data_bytes all index_file (Some rev) 6
  misplaced : (rev : ℕ) (r : Revision) → slice_get (reading_of index data_bytes).revisions rev ≡ Some r → is_misplaced (namings_of_words (reading_of index data_bytes).revisions all) rev r.link ≡ true → IsFoundAt index_file data_file index data_bytes all index_file (Some rev) 7
  wrongly_made : (rev : ℕ) (r : Revision) → slice_get (reading_of index data_bytes).revisions rev ≡ Some r → is_wrongly_made (namings_of_words (reading_of index data_bytes).revisions all) rev r.parents ≡ true → IsFoundAt index_file data_file index data_bytes all index_file (Some rev) 8
  listed_wrongly : (rev : ℕ) (w : Word) → slice_get all rev ≡ Some w → is_listed_wrongly (reading_of index data_bytes).revisions all w ≡ true → IsFoundAt index_file data_file index data_bytes all changelog_index (Some rev) 9
  index_rest : has_index_rest index data_bytes ≡ true → IsFoundAt index_file data_file index data_bytes all index_file (Some (length (reading_of index data_bytes).revisions)) 17
  data_rest : has_data_rest index data_bytes ≡ true → IsFoundAt index_file data_file index data_bytes all data_file (Some (length (reading_of index data_bytes).revisions)) 17

-- what is found of a path of a tree
abbrev pub IsFoundOf : Tree → List ℕ → List ℕ → Option ℕ → ℕ → Type 0
IsFoundOf t path = IsFoundAt (index_path (the_filelog path)) (data_path (the_filelog path)) (index_in t (the_filelog path)) (data_in t (the_filelog path)) (words (sight_of t) path)
