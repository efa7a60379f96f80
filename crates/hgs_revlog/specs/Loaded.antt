-- What is true of the entries of an index that loads.
use Rattle.std.specs.Prelude.{◌≡◌, ◌≤◌, false, ℕ, List, length, take, map, Some, slice_get}
use Rattle.std.specs.List.{AllByRecursion}
use Rattle.hgs_bytes.specs.Bytes.{among}
use Rattle.hgs_index.specs.declared.entry.Entry.{Entry}
use Rattle.hgs_index.specs.Node.{IsNode, null_node}
use Rattle.hgs_index.specs.Revision.{Parents, ParentsBefore}
use Rattle.hgs_revlog.specs.Load.{most_revisions, most_text, most_data}
use Rattle.hgs_revlog.specs.Log.{nodes_of, place_of, stored_sum}

-- the parents of each entry
abbrev pub parents_in : List Entry → List Parents
parents_in entries = map (λ e. (e.p1, e.p2)) entries

-- each node is 20 bytes
abbrev pub HaveNodes : List Entry → Type 0
HaveNodes entries = (rev : ℕ) (e : Entry) → slice_get entries rev ≡ Some e → IsNode e.node.0

-- no node stands twice: each is found where it stands
abbrev pub HaveOwnNodes : List Entry → Type 0
HaveOwnNodes entries = (rev : ℕ) (e : Entry) → slice_get entries rev ≡ Some e → place_of entries e.node.0 ≡ Some rev

-- each chunk begins where those before it end
abbrev pub HaveOffsets : List Entry → Type 0
HaveOffsets entries = (rev : ℕ) (e : Entry) → slice_get entries rev ≡ Some e → e.offset ≡ stored_sum (take rev entries)

-- the text of none is above the limit
abbrev pub HaveSmallTexts : List Entry → Type 0
HaveSmallTexts entries = AllByRecursion (λ (e : Entry). e.size ≤ most_text) entries

-- Parents stand before their children; no node stands twice, and none is the null node; each chunk begins where those
-- before it end; and the limits are kept.
pub record AreEntries (entries : List Entry) : Type 0 where
  pub few : length entries ≤ most_revisions
  pub earlier : ParentsBefore 0 (parents_in entries)
  pub own : HaveOwnNodes entries
  pub not_null : among null_node (nodes_of entries) ≡ false
  pub offsets : HaveOffsets entries
  pub texts : HaveSmallTexts entries
  pub data_end : stored_sum entries ≤ most_data
