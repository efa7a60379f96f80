-- Files that hold the texts of a changeset.
use Rattle.std.specs.Prelude.{◌≡◌, ◌⊎◌, ◌-◌, ℕ, List, [], true, length, slice_get, Some}
use Rattle.hgs_bytes.specs.Bytes.{IsPrefixOf}
use Rattle.hgs_files.specs.Tree.{Tree, bytes_at}
use Rattle.hgs_index.specs.Inline.{chunks_apart}
use Rattle.hgs_index.specs.Revision.{Revision}
use Rattle.hgs_index.specs.Revlog.{BeginsWithRevisions, Holds}
use Rattle.hgs_revlog.specs.Held.{AreWithinLimits, EndsFirstAt}

-- A separate revlog with this index and these chunks has this text with this node: its bytes begin with those that hold revisions, of which the last is the first with the node, whatever follows; the limits are those of these bytes alone.
pub record HasSeparateText (t : Tree) (index chunks node text : List ℕ) : Type 0 where
  pub revisions : List Revision
  pub last : Revision
  pub held : BeginsWithRevisions (bytes_at t index) (bytes_at t chunks) revisions
  pub limits : AreWithinLimits revisions held.data_front
  pub ends : EndsFirstAt node revisions
  pub is_last : slice_get revisions (length revisions - 1) ≡ Some last
  pub text_is : last.text ≡ text

-- These bytes are an inline index that ends with this text: they hold revisions within the limits, each chunk behind its entry, of which the last is the first with the node.
pub record EndsInline (front node text : List ℕ) : Type 0 where
  pub revisions : List Revision
  pub last : Revision
  pub held : Holds true front [] revisions
  pub limits : AreWithinLimits revisions (chunks_apart front)
  pub ends : EndsFirstAt node revisions
  pub is_last : slice_get revisions (length revisions - 1) ≡ Some last
  pub text_is : last.text ≡ text

-- An inline revlog with this index has the text: it begins with such bytes. Nothing is asked of a data file.
abbrev pub HasInlineText : Tree → List ℕ → List ℕ → List ℕ → Type 0
HasInlineText t index node text = (front : List ℕ) × IsPrefixOf front (bytes_at t index) × EndsInline front node text

-- The revlog has the text in one form or the other.
abbrev pub HasText : Tree → List ℕ → List ℕ → List ℕ → List ℕ → Type 0
HasText t index chunks node text = HasSeparateText t index chunks node text ⊎ HasInlineText t index node text
