-- When a revlog that was loaded is a list of revisions.
use Rattle.std.specs.Prelude.{◌≡◌, ℕ, List, [], ◌∷◌, true, Some, Ok, slice_get}
use Rattle.hgs_files.specs.Tree.{Tree, bytes_at}
use Rattle.hgs_index.specs.declared.entry.Entry.{Entry}
use Rattle.hgs_index.specs.Either.{chunk_bytes}
use Rattle.hgs_index.specs.Inline.{is_inline}
use Rattle.hgs_index.specs.Revision.{Revision, nodes}
use Rattle.hgs_index.specs.Revlog.{all_different}
use Rattle.hgs_loading.specs.Logs.{chunk_in_form}
use Rattle.hgs_model.specs.History.{parents_in as parents_of}
use Rattle.hgs_revlog.specs.Held.{chunk_in, read_all}
use Rattle.hgs_revlog.specs.Loaded.{AreEntries, parents_in}
use Rattle.hgs_revlog.specs.Log.{nodes_of}
use Rattle.hgs_commit.specs.Texts.{OfLog}

-- the chunks of a revlog, where its form has them
abbrev pub held_chunks : Tree → OfLog → List ℕ
held_chunks t f = chunk_bytes f.log.inline (bytes_at t f.index) (bytes_at t f.chunks)

-- a revlog that has revisions is in the form that its index says
abbrev pub HasForm : Tree → OfLog → List Revision → Type 0
HasForm t f [] = Unit {0}
HasForm t f (r ∷ revisions) = f.log.inline ≡ is_inline (bytes_at t f.index)

-- The entries that were loaded are those of these revisions: they have their nodes, no two of which are one, and their parents,
-- and each text is read from its chunk, which stands where the form has it.
pub record IsLogOf (t : Tree) (f : OfLog) (revisions : List Revision) : Type 0 where
  pub entries : AreEntries f.log.entries
  pub form : HasForm t f revisions
  pub texts : read_all f.log.entries (held_chunks t f) ≡ Ok revisions
  pub places : (rev : ℕ) (e : Entry) → slice_get f.log.entries rev ≡ Some e → chunk_in_form f.index f.chunks f.log rev t ≡ chunk_in (held_chunks t f) e
  pub nodes_are : nodes_of f.log.entries ≡ nodes revisions
  pub different : all_different (nodes revisions) ≡ true
  pub parents_are : parents_in f.log.entries ≡ parents_of revisions
