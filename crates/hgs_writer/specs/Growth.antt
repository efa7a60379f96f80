-- What a commit appends to the filelogs, as the next repository has it.
use Rattle.std.specs.Prelude.{◌≡◌, ◌≤◌, ◌<◌, ◌+◌, ◌*◌, ◌^◌, ◌==◌, ℕ, List, [], Bool, true, false, length, map, flat_map}
use Rattle.std.specs.List.{AllByRecursion}
use Rattle.hgs_bytes.specs.Text.{line}
use Rattle.hgs_files.specs.declared.op.Op.{Op}
use Rattle.hgs_files.specs.Tree.{Tree, bytes_at}
use Rattle.hgs_index.specs.declared.entry.Entry.{Entry}
use Rattle.hgs_model.specs.History.{History, filelog_with, history}
use Rattle.hgs_model.specs.Repo.{Changeset, Repo, TreeFile}
use Rattle.hgs_ops.specs.Growth.{begins_inline, filelog_growth, filelogs_grow, growing_chunks, grows_inline, is_part, new_names, new_paths}
use Rattle.hgs_ops.specs.Unhindered.{AreNewRevisions}
use Rattle.hgs_path.specs.declared.name.Ext.{Ext}
use Rattle.hgs_path.specs.declared.name.Ext.TheVariants.{D, I}
use Rattle.hgs_path.specs.StoreName.{store_name}
use Rattle.hgs_revlog.specs.Load.{most_data}
use Rattle.hgs_revlog.specs.Log.{stored_sum}
use Rattle.hgs_transaction.specs.OfTransaction.{IsOfTree}
use Rattle.hgs_transaction.specs.Parts.{change_op}
use Rattle.hgs_transaction.specs.declared.parts.Change.{Change}
use Rattle.hgs_commit.specs.Files.{OfFile}
use Rattle.hgs_commit.specs.Texts.{OfLog, changes_of}
use Rattle.hgs_commit.specs.Trees.{OfGrown}
use Rattle.hgs_writer.specs.Logs.{held_chunks}

-- The changes are these operations, each behind what stands in the tree.
pub record AreAppends (t : Tree) (ops : List Op) (changes : List Change) : Type 0 where
  pub are : map change_op changes ≡ ops
  pub standing : AllByRecursion (IsOfTree t) changes

-- where an index with these entries ends; of an inline one the chunks stand between them
abbrev pub index_end : Bool → List Entry → ℕ
index_end true entries = 64 * length entries + stored_sum entries
index_end false entries = 64 * length entries

-- The files of a revlog are as long as its entries say. Of a data file beside an inline index nothing is said.
pub record IsWhole (t : Tree) (f : OfLog) : Type 0 where
  pub entries : length (bytes_at t f.index) ≡ index_end f.log.inline f.log.entries
  pub chunks : length (held_chunks t f) ≡ stored_sum f.log.entries

-- What is appended for a file is what its path's filelog grows by. The filelog is new where it has no revision, is then inline
-- where its first text is short, and the files that it then has have no bytes. With the changeset it is within the limit and has no node twice,
-- and the lengths of the files that it appends to have room in a line.
pub record IsGrownFileOf (t : Tree) (h : History) (c : Changeset) (g : TreeFile) (x : OfFile) : Type 0 where
  pub path : x.row.path ≡ g.path
  pub growth : AreAppends t (filelog_growth t g.path (h.filelog g.path) (filelog_with h c g.path)) (changes_of x.growth)
  pub new : x.new ≡ (length (h.filelog g.path) == 0)
  pub inline : h.filelog g.path ≡ [] → x.inline ≡ begins_inline (filelog_with h c g.path)
  pub fresh : AreNewRevisions (h.filelog g.path) (filelog_with h c g.path)
  pub room : length (growing_chunks t g.path (h.filelog g.path) (filelog_with h c g.path)) ≤ most_data
  pub index_short : length (bytes_at t (store_name g.path I)) < 2 ^ 64
  pub data_short : grows_inline (bytes_at t (store_name g.path I)) (h.filelog g.path) (filelog_with h c g.path) ≡ false → length (bytes_at t (store_name g.path D)) < 2 ^ 64
  pub free : h.filelog g.path ≡ [] → (ext : Ext) → is_part (begins_inline (filelog_with h c g.path)) ext ≡ true → bytes_at t (store_name g.path ext) ≡ []

-- What is appended to the filelogs is what those of the new paths grow by, and the lines are the names of those that are new.
pub record AreGrownFilesOf (t : Tree) (r next : Repo) (x : OfGrown) : Type 0 where
  pub filelogs : AreAppends t (filelogs_grow t (history r.changesets).filelog (history next.changesets).filelog (new_paths r next)) x.growth
  pub lines : x.lines ≡ flat_map line (new_names (history r.changesets).filelog (history next.changesets).filelog (new_paths r next))
