-- How a loaded index keeps the revision of each node.
use Rattle.std.specs.Prelude.{ℕ, List, length, take, Option}
use Rattle.std.specs.BTreeMap.{get}
use Rattle.std.specs.Cmp.Lexicographic.{slice_cmp}
use Rattle.std.specs.Option.{option_or}
use Rattle.std.specs.Ordering.{nat_cmp}
use Rattle.hgs_index.specs.declared.entry.Entry.{Entry}
use Rattle.hgs_revlog.specs.declared.places.Places.{Places}
use Rattle.hgs_revlog.specs.Log.{place_of}

-- the first entries, which are on chains
abbrev pub chained : Places → List Entry → List Entry
chained places entries = take (length places.chains.links.items) entries

-- the revision of a node among those on chains or, where it is not there, in the tree
abbrev pub place_in : Places → List Entry → List ℕ → Option ℕ
place_in places entries node = option_or (place_of (chained places entries) node) (get (slice_cmp nat_cmp) places.since node)
