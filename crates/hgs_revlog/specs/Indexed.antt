-- What a revlog keeps beside its entries.
use Rattle.std.specs.Prelude.{◌≡◌, ℕ, ◌≤◌, List, length, Some, slice_get}
use Rattle.hgs_index.specs.declared.entry.Entry.{Entry}
use Rattle.hgs_revlog.specs.declared.revlog.Revlog.TheInside.{Inside}
use Rattle.hgs_revlog.specs.Log.{place_of, stored_sum}
use Rattle.hgs_revlog.specs.Load.{most_revisions, most_data}
use Rattle.hgs_revlog.specs.Chains.{AreChains}
use Rattle.hgs_revlog.specs.Places.{chained, place_in}

-- no more revisions and data than the limits allow, no offset past them, the end of the data, and each node's revision
pub record IsIndexed (a : Inside) : Type 0 where
  pub few : length a.entries.items ≤ most_revisions
  pub sum : a.end ≡ stored_sum a.entries.items
  pub short : a.end ≤ most_data
  pub low : (rev : ℕ) (e : Entry) → slice_get a.entries.items rev ≡ Some e → e.offset ≤ most_data
  pub chains : AreChains a.places.chains (chained a.places a.entries.items)
  pub places : (node : List ℕ) → place_in a.places a.entries.items node ≡ place_of a.entries.items node
