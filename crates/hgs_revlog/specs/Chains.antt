-- Entries in chains: of each part of the nodes the last entry, and of each entry the one before it in its part.
use Rattle.std.specs.Prelude.{◌≡◌, ◌<◌, ℕ, zero, suc, ◌%◌, ◌==◌, Bool, true, false, List, [], ◌∷◌, length, take, Some, slice_get}
use Rattle.std.specs.Int.{w32, from_be_bytes}
use Rattle.hgs_index.specs.declared.entry.Entry.{Entry}
use Rattle.hgs_revlog.specs.declared.chains.Chains.{Chains}
use Rattle.hgs_revlog.specs.Loaded.{HaveOwnNodes}
use Rattle.hgs_revlog.specs.Log.{place_of}

-- the part that a node belongs to by its first four bytes, of so many
abbrev pub part_of : ℕ → List ℕ → ℕ
part_of parts node = from_be_bytes w32 (take 4 node) % parts

-- whether an entry is of this part
abbrev pub is_of : ℕ → ℕ → Entry → Bool
is_of parts part e = part_of parts e.node.0 == part

-- of one entry, that passes or not, and others behind it, up to the last of which that passes there are so many
abbrev pub counted_on : Bool → ℕ → ℕ
counted_on true zero = 1
counted_on false zero = 0
counted_on passes (suc n) = suc (suc n)

-- how many entries there are up to the last that passes, 0 where none does
abbrev pub until_last : (Entry → Bool) → List Entry → ℕ
until_last passes [] = 0
until_last passes (e ∷ entries) = counted_on (passes e) (until_last passes entries)

-- of each part the last entry, of each entry the last before it of its part; and no node stands twice
pub record AreChains (chains : Chains) (entries : List Entry) : Type 0 where
  pub all : length chains.links.items ≡ length entries
  pub room : 0 < length entries → 0 < length chains.lasts.items
  pub lasts : (part : ℕ) → part < length chains.lasts.items → slice_get chains.lasts.items part ≡ Some (until_last (is_of (length chains.lasts.items) part) entries)
  pub links : (rev : ℕ) (e : Entry) → slice_get entries rev ≡ Some e → slice_get chains.links.items rev ≡ Some (until_last (is_of (length chains.lasts.items) (part_of (length chains.lasts.items) e.node.0)) (take rev entries))
  pub own : HaveOwnNodes entries

-- up to here a node's chain is left, and none of the entries behind has the node
pub record IsOn (chains : Chains) (entries : List Entry) (node : List ℕ) (until : ℕ) : Type 0 where
  pub last : until_last (is_of (length chains.lasts.items) (part_of (length chains.lasts.items) node)) (take until entries) ≡ until
  pub place : place_of (take until entries) node ≡ place_of entries node
