-- The entries and texts that can be read of two files, up to the first fault.
use Rattle.std.specs.Prelude.{◌≡◌, ◌<◌, ◌≤◌, ◌*◌, ◌/◌, ℕ, zero, suc, Bool, true, false, List, [], ◌∷◌, ◌++◌, length, take, drop, slice_get, Some, ◌⊎◌, Result, Ok, Err, IsOk, IsErr, map}
use Rattle.std.specs.List.{AllByRecursion}
use Rattle.hgs_index.specs.declared.entry.Entry.{Entry}
use Rattle.hgs_index.specs.declared.kinds.Which.{Which}
use Rattle.hgs_index.specs.Revision.{Revision, ParentsBefore, nodes}
use Rattle.hgs_model.specs.History as history
use Rattle.hgs_revlog.specs.declared.fault.RevFault.{RevFault}
use Rattle.hgs_revlog.specs.declared.fault.RevFault.TheVariants as faults
use Rattle.hgs_revlog.specs.Log.{nodes_of, stored_sum}
use Rattle.hgs_revlog.specs.declared.fault.Tail.TheVariants.{Ignore}
use Rattle.hgs_revlog.specs.Fault.{is_memory}
use Rattle.hgs_revlog.specs.Load.{entry_behind, loaded, most_text}
use Rattle.hgs_revlog.specs.Loaded.{parents_in}
use Rattle.hgs_revlog.specs.Text.{text_of}
use Rattle.hgs_revlog.specs.Held.{chunk_in, read_from, read_all}
use Rattle.hgs_findings.specs.Reading.{reading_of}

-- each entry is the one that the next 64 bytes are behind those before it
abbrev pub AreBehind : List Entry → List ℕ → List Entry → Type 0
AreBehind before index [] = Unit {0}
AreBehind before index (e ∷ entries) = (entry_behind before (take 64 index) ≡ Ok e) × AreBehind (before ++ e ∷ []) (drop 64 index) entries

-- the bytes behind so many entries
abbrev pub behind : ℕ → List ℕ → List ℕ
behind zero index = index
behind (suc n) index = behind n (drop 64 index)

-- the entries that an index begins with, each without a fault
pub record AreFirst (index : List ℕ) (entries : List Entry) : Type 0 where
  pub are : AreBehind [] index entries
  pub whole : 64 * length entries ≤ length index

-- all entries of an index, or those before its first that has a fault
pub record IsEnd (index : List ℕ) (entries : List Entry) (broken : Bool) : Type 0 where
  pub first : AreFirst index entries
  pub whole : broken ≡ false → length index / 64 ≡ length entries
  pub stops : broken ≡ true → (fault : RevFault) × (length entries < length index / 64) × (entry_behind entries (take 64 (behind (length entries) index)) ≡ Err fault)

-- so many texts read, and the next does not
pub record IsSound (entries : List Entry) (data_bytes : List ℕ) (count : ℕ) : Type 0 where
  pub within : count ≤ length entries
  pub read : IsOk (read_from entries data_bytes 0 (take count entries))
  pub next : (e : Entry) → slice_get entries count ≡ Some e → IsErr (text_of entries count (chunk_in data_bytes e))

-- a fault that is no finding but a refusal
abbrev pub is_refusal : RevFault → Bool
is_refusal (faults.Entry rev f) = false
is_refusal (faults.Compressed rev) = false
is_refusal (faults.Delta rev) = false
is_refusal (faults.Flagged rev) = false
is_refusal (faults.Short rev) = false
is_refusal (faults.Length rev) = false
is_refusal (faults.Hash rev) = false
is_refusal (faults.Parent rev) = false
is_refusal (faults.Collision rev) = false
is_refusal (faults.Limit which) = true
is_refusal faults.Memory = true
is_refusal (faults.Offset rev) = false
is_refusal (faults.Twice rev) = false
is_refusal (faults.Tail rev) = false
is_refusal faults.Missing = false

-- the revisions that entries have, where their texts can be read
abbrev pub revisions_or_none : Result (List Revision) RevFault → List Revision
revisions_or_none (Ok revisions) = revisions
revisions_or_none (Err fault) = []

abbrev pub revisions_in : List Entry → List ℕ → List Revision
revisions_in entries data_bytes = revisions_or_none (read_all entries data_bytes)

abbrev pub links_in : List Entry → List ℕ
links_in entries = map (λ e. e.link) entries

abbrev pub links_of : List Revision → List ℕ
links_of revisions = map (λ r. r.link) revisions

-- All texts of the entries can be read, and the entries are those of the revisions that they give.
pub record AreRead (entries : List Entry) (data_bytes : List ℕ) : Type 0 where
  pub reads : read_all entries data_bytes ≡ Ok (revisions_in entries data_bytes)
  pub parents : parents_in entries ≡ history.parents_in (revisions_in entries data_bytes)
  pub links : links_in entries ≡ links_of (revisions_in entries data_bytes)
  pub nodes_are : nodes_of entries ≡ nodes (revisions_in entries data_bytes)
  pub earlier : ParentsBefore 0 (parents_in entries)
  pub small : AllByRecursion (λ (r : Revision). length r.text ≤ most_text) (revisions_in entries data_bytes)

-- What was read of two files: the entries of the revisions before the first fault, and whether there is one.
pub record IsRead (index data_bytes : List ℕ) (entries : List Entry) (broken : Bool) : Type 0 where
  pub are : AreRead entries data_bytes
  pub revisions : revisions_in entries data_bytes ≡ (reading_of index data_bytes).revisions
  pub broken_is : broken ≡ (reading_of index data_bytes).broken
  pub stored : stored_sum entries ≡ (reading_of index data_bytes).stored

-- a refusal is want of memory, or that of the index
abbrev pub IsRefused : List ℕ → RevFault → Type 0
IsRefused index fault = (is_memory fault ≡ true) ⊎ ((loaded Ignore index ≡ Err fault) × (is_refusal fault ≡ true))

-- the first fault of an index, where it has one, is no limit
abbrev pub KeepsLimits : List ℕ → Type 0
KeepsLimits index = (which : Which) → loaded Ignore index ≡ Err (faults.Limit which) → ⊥
