-- When nothing keeps an accepted commit from being written.
use Rattle.std.specs.Prelude.{◌≡◌, ◌≤◌, ◌+◌, ℕ, List, [], Bool, false, true, length, drop, flat_map, sum_by}
use Rattle.hgs_bytes.specs.Bytes.{among}
use Rattle.hgs_bytes.specs.Text.{line}
use Rattle.hgs_files.specs.Tree.{Tree, bytes_at}
use Rattle.hgs_index.specs.Either.{chunk_bytes}
use Rattle.hgs_index.specs.Revision.{Revision}
use Rattle.hgs_index.specs.Revlog.{chunk_of}
use Rattle.hgs_loading.specs.Small.{most_fncache}
use Rattle.hgs_model.specs.History.{history}
use Rattle.hgs_model.specs.Repo.{Repo}
use Rattle.hgs_ops.specs.Growth.{begins_inline, grows_inline, is_part, new_names, new_paths}
use Rattle.hgs_ops.specs.Unhindered.{AreNewRevisions}
use Rattle.hgs_path.specs.declared.name.Ext.{Ext}
use Rattle.hgs_path.specs.declared.name.Ext.TheVariants.{D, I}
use Rattle.hgs_path.specs.StoreName.{store_name}
use Rattle.hgs_revlog.specs.Load.{most_data, most_revisions}
use Rattle.hgs_stands.specs.Places.{changelog_data, changelog_index, fncache_path, manifest_data, manifest_index}
use Rattle.hgs_stands.specs.Stands.{has_inline_log}
use Rattle.hgs_steps.specs.Planned.{passes_limit}

-- A revlog that grows in this form to these revisions is within its limits, and has no node twice and not the null node.
pub record HasRoomFor (inline : Bool) (t : Tree) (index chunks : List ℕ) (old all : List Revision) : Type 0 where
  pub few : length all ≤ most_revisions
  pub data_end : length (chunk_bytes inline (bytes_at t index) (bytes_at t chunks)) + sum_by (λ (r : Revision). length (chunk_of r.text)) (drop (length old) all) ≤ most_data
  pub new : AreNewRevisions old all

-- the lines that are appended to the list of filelogs, those of the files of each filelog that is new
abbrev pub new_lines : Repo → Repo → List ℕ
new_lines r next = flat_map line (new_names (history r.changesets).filelog (history next.changesets).filelog (new_paths r next))

-- Changelog and manifest are separate, the bookmarks, the list of filelogs and each revlog are within their limits with the new
-- changeset, and where a filelog is new the files that it will have have no bytes.
pub record IsFree (t : Tree) (r next : Repo) : Type 0 where
  pub bookmarks : passes_limit r next ≡ false
  pub separate : has_inline_log t ≡ false
  pub changelog : HasRoomFor false t changelog_index changelog_data (history r.changesets).changelog (history next.changesets).changelog
  pub manifest : HasRoomFor false t manifest_index manifest_data (history r.changesets).manifest (history next.changesets).manifest
  pub filelogs : (path : List ℕ) → HasRoomFor (grows_inline (bytes_at t (store_name path I)) ((history r.changesets).filelog path) ((history next.changesets).filelog path)) t (store_name path I) (store_name path D) ((history r.changesets).filelog path) ((history next.changesets).filelog path)
  pub list : length (bytes_at t fncache_path) + length (new_lines r next) ≤ most_fncache
  pub files : (path : List ℕ) (ext : Ext) → among path (new_paths r next) ≡ true → (history r.changesets).filelog path ≡ [] → is_part (begins_inline ((history next.changesets).filelog path)) ext ≡ true → bytes_at t (store_name path ext) ≡ []
