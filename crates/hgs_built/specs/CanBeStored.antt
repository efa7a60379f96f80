-- Which repositories can be stored.
use Rattle.std.specs.Prelude.{◌≡◌, ℕ, List, true, false, None}
use Rattle.std.specs.List.{AllByRecursion}
use Rattle.hgs_bytes.specs.Bytes.{among}
use Rattle.hgs_index.specs.Entry.{Fits}
use Rattle.hgs_index.specs.MarkName.{is_mark_name}
use Rattle.hgs_index.specs.Node.{null_node}
use Rattle.hgs_index.specs.Revision.{Revision, nodes}
use Rattle.hgs_index.specs.Revlog.{Item, all_different, items}
use Rattle.hgs_model.specs.History.{history, uses}
use Rattle.hgs_model.specs.Repo.{Bookmark, Repo}
use Rattle.hgs_path.specs.Fncache.{clashes}
use Rattle.hgs_built.specs.Built.{stored_whole}

-- The revisions of one revlog can be stored.
pub record HasRoom (revisions : List Revision) : Type 0 where
  -- a revision is found by its node
  pub different : all_different (nodes revisions) ≡ true
  -- the null node stands for no revision
  pub not_null : among null_node (nodes revisions) ≡ false
  -- offsets, lengths, parents and links are numbers of so many bytes in an entry
  pub room : AllByRecursion (λ (i : Item). Fits i.entry None) (items (stored_whole revisions))

-- Each revlog of the repository can be stored, no two used paths would have one file, and each bookmark has a name that
-- its line can have. Phase roots and dirstates of repositories can always be written.
pub record CanBeStored (r : Repo) : Type 0 where
  pub changelog : HasRoom (history r.changesets).changelog
  pub manifest : HasRoom (history r.changesets).manifest
  pub filelogs : (path : List ℕ) → uses r.changesets path ≡ true → HasRoom ((history r.changesets).filelog path)
  pub names : (path other : List ℕ) → uses r.changesets path ≡ true → uses r.changesets other ≡ true → clashes path other ≡ false
  pub marks : AllByRecursion (λ (m : Bookmark). is_mark_name m.name ≡ true) r.bookmarks
