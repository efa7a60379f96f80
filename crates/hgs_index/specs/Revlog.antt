-- Which bytes hold a list of revisions.
use Rattle.std.specs.Prelude.{◌≡◌, ℕ, ◌+◌, List, [], ◌∷◌, ◌++◌, Bool, true, false, ◌&&◌, not, ◌==◌, length, map, Option, Some, None, if◌then◌else◌, flat_map}
use Rattle.std.specs.List.{AllByRecursion, concat}
use Rattle.hgs_index.specs.declared.entry.Entry.{Entry}
use Rattle.hgs_index.specs.declared.entry.Header.{Header}
use Rattle.hgs_bytes.specs.Bytes.{among, IsPrefixOf}
use Rattle.hgs_index.specs.Entry.{entry_bytes, Fits}
use Rattle.hgs_index.specs.Node.{null_node}
use Rattle.hgs_index.specs.Revision.{Revision, node_after, nodes, ParentsBefore}

-- the text that a chunk stands for, none where it is compressed
abbrev pub chunk_text : List ℕ → Option (List ℕ)
chunk_text [] = Some []
chunk_text (b ∷ chunk) = if b == 0 then Some (b ∷ chunk) else (if b == 117 then Some chunk else None)

-- the chunk that is written of a text
abbrev pub chunk_of : List ℕ → List ℕ
chunk_of [] = []
chunk_of (b ∷ text) = if b == 0 then b ∷ text else 117 ∷ b ∷ text

-- a revision and the chunk that stands for its text
pub record Stored : Type 0 where
  pub revision : Revision
  pub chunk : List ℕ

-- an entry and its chunk
pub record Item : Type 0 where
  pub entry : Entry
  pub chunk : List ℕ

-- the entry of the revision that comes after these nodes, its chunk at this place: its base is itself, its flags are 0
abbrev pub entry_after : ℕ → List (List ℕ) → Stored → Entry
entry_after offset known s = record {
  offset = offset;
  flags = 0;
  stored = length s.chunk;
  size = length s.revision.text;
  base = length known;
  link = s.revision.link;
  p1 = s.revision.parents.0;
  p2 = s.revision.parents.1;
  node = record { 0 = node_after known s.revision };
}

-- each revision's entry, the chunks one after another without gaps
abbrev pub items_from : ℕ → List (List ℕ) → List Stored → List Item
items_from offset known [] = []
items_from offset known (s ∷ more) =
    record { entry = entry_after offset known s; chunk = s.chunk }
    ∷ items_from (offset + length s.chunk) (known ++ node_after known s.revision ∷ []) more

abbrev pub items : List Stored → List Item
items stored = items_from 0 [] stored

-- an entry, in an inline revlog with its chunk behind it
abbrev pub item_bytes : Header → Option Header → Item → List ℕ
item_bytes h first i = entry_bytes i.entry first ++ (if h.inline then i.chunk else [])

-- the bytes of the index: the first entry begins with the header
abbrev pub index_bytes : Header → List Item → List ℕ
index_bytes h [] = []
index_bytes h (i ∷ more) = item_bytes h (Some h) i ++ flat_map (item_bytes h None) more

-- none of them stands twice
abbrev pub all_different : List (List ℕ) → Bool
all_different [] = true
all_different (x ∷ xs) = not (among x xs) && all_different xs

-- The header that the next entry begins with: only the first entry of an index has one.
abbrev pub next_header : List Revision → Header → Option Header
next_header [] h = Some h
next_header (r ∷ revisions) h = None

-- The data bytes are the chunks and nothing else; of an inline revlog, whose chunks stand in the index, nothing is said.
abbrev pub IsDataOf : Bool → List Stored → List ℕ → Type 0
IsDataOf true stored data_bytes = Unit {0}
IsDataOf false stored data_bytes = data_bytes ≡ concat (map (λ s. s.chunk) stored)

-- The index bytes are the entries of these revisions, in an inline revlog each with its chunk, and nothing else. A chunk
-- may be spelled in any way that stands for its text. No two revisions have one node, and none has the null node.
pub record Holds (inline : Bool) (index data_bytes : List ℕ) (revisions : List Revision) : Type 0 where
  pub header : Header
  pub stored : List Stored
  pub these : map (λ s. s.revision) stored ≡ revisions
  pub texts : AllByRecursion (λ (s : Stored). chunk_text s.chunk ≡ Some s.revision.text) stored
  pub earlier : ParentsBefore 0 (map (λ r. r.parents) revisions)
  pub fits : AllByRecursion (λ (i : Item). Fits i.entry None) (items stored)
  pub different : all_different (nodes revisions) ≡ true
  pub not_null : among null_node (nodes revisions) ≡ false
  pub form : header.inline ≡ inline
  pub index_is : index ≡ index_bytes header (items stored)
  pub data_is : IsDataOf inline stored data_bytes

-- the index and the data begin with bytes that hold these revisions
pub record Begins (inline : Bool) (index data_bytes : List ℕ) (revisions : List Revision) : Type 0 where
  pub index_front : List ℕ
  pub data_front : List ℕ
  pub held : Holds inline index_front data_front revisions
  pub index_begins : IsPrefixOf index_front index
  pub data_begins : IsPrefixOf data_front data_bytes

-- the same of a separate revlog, which is the one that is written
abbrev pub HoldsRevisions : List ℕ → List ℕ → List Revision → Type 0
HoldsRevisions = Holds false

abbrev pub BeginsWithRevisions : List ℕ → List ℕ → List Revision → Type 0
BeginsWithRevisions = Begins false
