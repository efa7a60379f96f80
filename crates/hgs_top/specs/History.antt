-- Files that hold a history, and its lines.
use Rattle.std.specs.Prelude.{◌≡◌, ◌≤◌, ℕ, suc, ◌/◌, List, [], ◌∷◌, ◌++◌, length, map, decimal, slice_index_or, Some, Ok, true, ◌⊎◌, position}
use Rattle.std.specs.List.{AllByRecursion}
use Rattle.hgs_bytes.specs.Bytes.{same}
use Rattle.hgs_files.specs.Tree.{Tree, bytes_at}
use Rattle.hgs_index.specs.ChangeText.{Change, read_change}
use Rattle.hgs_index.specs.Either.{chunks_either}
use Rattle.hgs_index.specs.Hex.{hex}
use Rattle.hgs_index.specs.Inline.{index_apart, is_inline}
use Rattle.hgs_index.specs.Node.{null_node}
use Rattle.hgs_index.specs.Revision.{Revision, nodes}
use Rattle.hgs_index.specs.Revlog.{BeginsWithRevisions}
use Rattle.hgs_marks.specs.Bookmarks.{Mark}
use Rattle.hgs_phases.specs.declared.roots.Root.{Root}
use Rattle.hgs_load.specs.Asks.{at_rest}
use Rattle.hgs_load.specs.Form.{most_inline_index}
use Rattle.hgs_load.specs.Marks.{Nodes}
use Rattle.hgs_load.specs.Open.{requires_asks, bookmarks_asks, dirstate_asks, roots_asks}
use Rattle.hgs_reader.specs.Line.{field, parent_text, change_fields}
use Rattle.hgs_load.specs.View.{changelog_index, changelog_data}

-- a revision of the changelog, and what its text says
pub record Changeset : Type 0 where
  pub revision : Revision
  pub change : Change

abbrev pub revisions_of : List Changeset → List Revision
revisions_of history = map (λ c. c.revision) history

-- the text is that of the change
abbrev pub IsRead : Changeset → Type 0
IsRead c = read_change c.revision.text ≡ Ok c.change

-- the changelog's index and its chunks, as a separate revlog has them: an inline index is taken apart
abbrev pub index_in : Tree → List ℕ
index_in t = index_apart (bytes_at t changelog_index)

abbrev pub chunks_in : Tree → List ℕ
chunks_in t = chunks_either (bytes_at t changelog_index) (bytes_at t changelog_data)

-- an inline index has no more bytes than are read of one
abbrev pub IsReadWhole : Tree → Type 0
IsReadWhole t = is_inline (bytes_at t changelog_index) ≡ true → length (bytes_at t changelog_index) ≤ most_inline_index

-- The changelog of these files is this history, in the form that its index says: as many changesets as there are whole entries, and all of them are read.
pub record HoldsHistory (t : Tree) (history : List Changeset) : Type 0 where
  pub held : BeginsWithRevisions (index_in t) (chunks_in t) (revisions_of history)
  pub whole : length (revisions_of history) ≡ length (index_in t) / 64
  pub read : AllByRecursion IsRead history

-- its number, node and parents, and what its text says
abbrev pub line_among : List (List ℕ) → ℕ → Changeset → List ℕ
line_among known rev c =
    (decimal rev ++ field (hex (slice_index_or known rev null_node)) ++ field (parent_text c.revision.parents.0) ++ field (parent_text c.revision.parents.1))
    ++ change_fields c.change ++ 10 ∷ []

-- the lines of changesets, newest first, the oldest of which has this number
abbrev pub lines_from : List (List ℕ) → ℕ → List Changeset → List ℕ
lines_from known rev [] = []
lines_from known rev (c ∷ newer) = lines_from known (suc rev) newer ++ line_among known rev c

-- a line for each changeset, newest first
abbrev pub history_text : List Changeset → List ℕ
history_text history = lines_from (nodes (revisions_of history)) 0 history

-- a node of the history, or none
abbrev pub IsKnown : List (List ℕ) → List ℕ → Type 0
IsKnown known node = (same node null_node ≡ true) ⊎ ((rev : ℕ) × (position (λ n. same n node) known ≡ Some rev))

-- The other files that a session loads can be read: what the repository requires is known, bookmarks, working parents and phase roots have their forms, and the working parents are among these nodes.
pub record Opens (t : Tree) (known : List (List ℕ)) : Type 0 where
  pub required : at_rest t requires_asks ≡ Ok tt
  pub marks : List Mark
  pub bookmarks : at_rest t bookmarks_asks ≡ Ok marks
  pub nodes : Nodes
  pub dirstate : at_rest t dirstate_asks ≡ Ok nodes
  pub roots : List Root
  pub phases : at_rest t roots_asks ≡ Ok roots
  pub first : IsKnown known nodes.0
  pub second : IsKnown known nodes.1
