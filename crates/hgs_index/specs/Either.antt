-- Which bytes hold a list of revisions in the form that their index says.
use Rattle.std.specs.Prelude.{ℕ, List, [], ◌++◌, Bool, true, false, Option}
use Rattle.hgs_index.specs.declared.entry.Header.{Header}
use Rattle.hgs_index.specs.Entry.{entry_bytes}
use Rattle.hgs_index.specs.Inline.{chunks_apart, is_inline}
use Rattle.hgs_index.specs.Revision.{Revision}
use Rattle.hgs_index.specs.Revlog.{Begins, Holds, Item}

-- The bytes hold these revisions and nothing else. Of data bytes beside an inline index nothing is said.
abbrev pub HoldsEither : List ℕ → List ℕ → List Revision → Type 0
HoldsEither index data_bytes revisions = Holds (is_inline index) index data_bytes revisions

-- the bytes begin with some that hold these revisions
abbrev pub BeginsEither : List ℕ → List ℕ → List Revision → Type 0
BeginsEither index data_bytes revisions = Begins (is_inline index) index data_bytes revisions

-- where the chunks of a revlog in this form stand: behind the entries, or as the data bytes
abbrev pub chunk_bytes : Bool → List ℕ → List ℕ → List ℕ
chunk_bytes true index data_bytes = chunks_apart index
chunk_bytes false index data_bytes = data_bytes

-- the chunks that stand so, in the form that the index says
abbrev pub chunks_either : List ℕ → List ℕ → List ℕ
chunks_either index data_bytes = chunk_bytes (is_inline index) index data_bytes

-- what one more revision appends to the index, and to the data
abbrev pub index_more : Bool → Option Header → Item → List ℕ
index_more true first i = entry_bytes i.entry first ++ i.chunk
index_more false first i = entry_bytes i.entry first

abbrev pub data_more : Bool → List ℕ → List ℕ
data_more true chunk = []
data_more false chunk = chunk
