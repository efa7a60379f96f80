-- How damage is printed.
use Rattle.std.specs.Prelude.{ℕ, List, [], ◌∷◌, ◌++◌, codes, decimal}
use Rattle.hgs_plan.specs.declared.damage.Part.{Part}
use Rattle.hgs_plan.specs.declared.damage.Part.TheVariants.{Revlog, Manifest, Change, Roots, Bookmarks, Dirstate, Fncache, Journal, Shrunk}
use Rattle.hgs_plan.specs.declared.damage.Damage.{Damage}

-- the part's name
abbrev pub part_name : Part → List ℕ
part_name Revlog = codes "revlog"
part_name Manifest = codes "manifest"
part_name Change = codes "change"
part_name Roots = codes "roots"
part_name Bookmarks = codes "bookmarks"
part_name Dirstate = codes "dirstate"
part_name Fncache = codes "fncache"
part_name Journal = codes "journal"
part_name Shrunk = codes "shrunk"

-- the path, a colon, and the part, the number and the place of the fault between spaces
abbrev pub damage_text : Damage → List ℕ
damage_text d = d.path ++ codes ": " ++ part_name d.what.part ++ 32 ∷ [] ++ decimal d.what.number ++ 32 ∷ [] ++ decimal d.what.place
