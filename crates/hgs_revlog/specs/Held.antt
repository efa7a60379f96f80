-- What a loaded index and its data file say of revisions.
use Rattle.std.specs.Prelude.{◌≡◌, ℕ, suc, ◌-◌, ◌≤◌, position, Some, List, [], ◌∷◌, length, take, drop, Result, Ok, Err, map}
use Rattle.std.specs.List.{AllByRecursion}
use Rattle.hgs_bytes.specs.Bytes.{same}
use Rattle.hgs_index.specs.declared.entry.Entry.{Entry}
use Rattle.hgs_index.specs.Revision.{Revision, nodes}
use Rattle.hgs_index.specs.Revlog.{HoldsRevisions, items}
use Rattle.hgs_revlog.specs.declared.fault.RevFault.{RevFault}
use Rattle.hgs_revlog.specs.Load.{most_revisions, most_text, most_data}
use Rattle.hgs_revlog.specs.Text.{text_of}

-- the bytes of the data file at the span of an entry
abbrev pub chunk_in : List ℕ → Entry → List ℕ
chunk_in data_bytes e = take e.stored (drop e.offset data_bytes)

-- the revision that an entry with this text is
abbrev pub revision_of : Entry → List ℕ → Revision
revision_of e text = record { text = text; parents = (e.p1, e.p2); link = e.link }

abbrev pub with_text : Entry → Result (List ℕ) RevFault → Result (List Revision) RevFault → Result (List Revision) RevFault
with_text e (Err f) more = Err f
with_text e (Ok text) (Err f) = Err f
with_text e (Ok text) (Ok revisions) = Ok (revision_of e text ∷ revisions)

-- the revisions of some entries, the first of which has this number among all
abbrev pub read_from : List Entry → List ℕ → ℕ → List Entry → Result (List Revision) RevFault
read_from all data_bytes rev [] = Ok []
read_from all data_bytes rev (e ∷ entries) = with_text e (text_of all rev (chunk_in data_bytes e)) (read_from all data_bytes (suc rev) entries)

-- every text read from its span, or the first fault
abbrev pub read_all : List Entry → List ℕ → Result (List Revision) RevFault
read_all entries data_bytes = read_from entries data_bytes 0 entries

-- the limits of a revlog: its revisions, each text, and the data
pub record AreWithinLimits (revisions : List Revision) (data_bytes : List ℕ) : Type 0 where
  pub few : length revisions ≤ most_revisions
  pub texts : AllByRecursion (λ (r : Revision). length r.text ≤ most_text) revisions
  pub data_end : length data_bytes ≤ most_data

-- the first place of a node among those of these revisions is the last
abbrev pub EndsFirstAt : List ℕ → List Revision → Type 0
EndsFirstAt node revisions = position (λ n. same n node) (nodes revisions) ≡ Some (length revisions - 1)

-- Bytes hold these revisions, and the entries are those of the index, in every field.
pub record Agrees (index data_bytes : List ℕ) (entries : List Entry) (revisions : List Revision) : Type 0 where
  pub held : HoldsRevisions index data_bytes revisions
  pub entries_are : entries ≡ map (λ i. i.entry) (items held.stored)
