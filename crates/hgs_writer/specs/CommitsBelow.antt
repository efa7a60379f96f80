-- What the laws of the crates below say, as the proofs of this crate take it.
use Rattle.std.specs.Prelude.{◌≡◌, ◌++◌, ◌*◌, ℕ, List, [], true, false, Some, Ok, drop, map, length, slice_get, take}
use Rattle.hgs_bytes.specs.Bytes.{same}
use Rattle.hgs_files.specs.Tree.{Tree, bytes_at}
use Rattle.hgs_index.specs.declared.entry.Entry.{Entry}
use Rattle.hgs_index.specs.Inline.{chunks_apart, is_inline}
use Rattle.hgs_index.specs.Revision.{Parents, Revision, nodes}
use Rattle.hgs_index.specs.Revlog.{HoldsRevisions}
use Rattle.hgs_loading.specs.Logs.{either_log_in}
use Rattle.hgs_model.specs.History.{history, uses}
use Rattle.hgs_model.specs.Repo.{Changeset}
use Rattle.hgs_path.specs.declared.name.Ext.{Ext}
use Rattle.hgs_path.specs.declared.name.Ext.TheVariants.{I, D}
use Rattle.hgs_path.specs.ListedNames.{listed_file}
use Rattle.hgs_path.specs.StoreName.{listed_name, store_name}
use Rattle.hgs_revlog.specs.Held.{Agrees, AreWithinLimits, chunk_in, read_all}
use Rattle.hgs_revlog.specs.Load.{loaded, loaded_either}
use Rattle.hgs_revlog.specs.Loaded.{AreEntries}
use Rattle.hgs_revlog.specs.Log.{Log, nodes_of}
use Rattle.hgs_revlog.specs.Text.{span_in}
use Rattle.hgs_revlog.specs.declared.fault.Tail.{Tail}
use Rattle.hgs_revlog.specs.declared.fault.Tail.TheVariants.{Refuse}

pub record Below : Type 0 where
  pub held : (index data_bytes : List ℕ) (revisions : List Revision) (log : Log) → HoldsRevisions index data_bytes revisions → loaded Refuse index ≡ Ok log → Agrees index data_bytes log.entries revisions
  pub entries : (index : List ℕ) (log : Log) → loaded Refuse index ≡ Ok log → AreEntries log.entries
  pub loads : (index data_bytes rest : List ℕ) (revisions : List Revision) → HoldsRevisions index data_bytes revisions → AreWithinLimits revisions data_bytes → (log : Log) × (loaded Refuse index ≡ Ok log) × (read_all log.entries (data_bytes ++ rest) ≡ Ok revisions) × Agrees index data_bytes log.entries revisions
  pub whole : (index : List ℕ) (t : Tree) (log : Log) → either_log_in index t ≡ Ok log → loaded_either Refuse (bytes_at t index) ≡ Ok log
  pub plain : (tail : Tail) (index : List ℕ) → is_inline index ≡ false → loaded_either tail index ≡ loaded tail index
  pub places : (tail : Tail) (index : List ℕ) (log : Log) (rev : ℕ) (e : Entry) → loaded_either tail index ≡ Ok log → log.inline ≡ true → slice_get log.entries rev ≡ Some e → take e.stored (drop (span_in true rev e).from index) ≡ chunk_in (chunks_apart index) e
  pub entry_nodes : (index data_bytes : List ℕ) (entries : List Entry) (revisions : List Revision) → Agrees index data_bytes entries revisions → nodes_of entries ≡ nodes revisions
  pub entry_parents : (index data_bytes : List ℕ) (entries : List Entry) (revisions : List Revision) → Agrees index data_bytes entries revisions → map (λ (e : Entry). let p : Parents = (e.p1, e.p2) in p) entries ≡ map (λ (r : Revision). r.parents) revisions
  pub entry_count : (index data_bytes : List ℕ) (entries : List Entry) (revisions : List Revision) → Agrees index data_bytes entries revisions → length entries ≡ length revisions
  pub index_length : (index data_bytes : List ℕ) (revisions : List Revision) → HoldsRevisions index data_bytes revisions → length index ≡ 64 * length revisions
  pub empty : AreEntries []
  pub unused : (changesets : List Changeset) (path : List ℕ) → uses changesets path ≡ false → (history changesets).filelog path ≡ []
  pub names : (p q : List ℕ) (e f : Ext) → listed_name p e ≡ listed_name q f → p ≡ q
  pub file : (path : List ℕ) (ext : Ext) → listed_file (listed_name path ext) ≡ store_name path ext
  pub kinds : (path other : List ℕ) → same (store_name path I) (store_name other D) ≡ false
