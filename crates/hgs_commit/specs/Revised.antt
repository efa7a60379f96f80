-- What a text becomes in a revlog, and what is appended to the two files.
use Rattle.std.specs.Prelude.{◌≡◌, Bool, true, false, IsOk, Result, Ok, Err}
use Rattle.hgs_index.specs.declared.node.Node.{Node}
use Rattle.hgs_bytes.specs.Bytes.{same}
use Rattle.hgs_index.specs.Node.{null_node}
use Rattle.hgs_index.specs.Revision.{Revision}
use Rattle.hgs_revlog.specs.declared.add.Added.{Added}
use Rattle.hgs_revlog.specs.declared.add.Added.TheVariants.{Old, New}
use Rattle.hgs_revlog.specs.declared.fault.RevFault.{RevFault}
use Rattle.hgs_revlog.specs.Add.{next_entry}
use Rattle.hgs_revlog.specs.Load.{entry_behind}
use Rattle.hgs_revlog.specs.Log.{Log}
use Rattle.hgs_commit.specs.declared.growth.Became.{Became}
use Rattle.hgs_commit.specs.declared.growth.Became.TheVariants.{Standing, New as NewRevision, Hindered}
use Rattle.hgs_commit.specs.declared.growth.Revised.{Revised}
use Rattle.hgs_commit.specs.declared.hindrance_kind.Hindrance.TheVariants.{Collision, Limit}

-- what a revision becomes, by what adding it gives: it stands, is new, or is kept from being written, always with its node
abbrev pub became_of : Added → Became
became_of (Old rev) = Standing rev
became_of (New entry chunk node) = NewRevision entry chunk

abbrev pub revised_by : Node → Result Added RevFault → Result Revised RevFault
revised_by node (Ok added) = Ok (record { node = node; became = became_of added })
revised_by node (Err (RevFault.Collision rev)) = Ok (record { node = node; became = Hindered (Collision rev) })
revised_by node (Err (RevFault.Limit which)) = Ok (record { node = node; became = Hindered (Limit which) })
revised_by node (Err fault) = Err fault

abbrev pub revised : Log → Revision → Result Added RevFault → Result Revised RevFault
revised log r added = revised_by (next_entry log.entries r).node added

-- the entry of a new revision may be pushed behind those of its revlog, unless it has the null node
abbrev pub Fits : Log → Node → Became → Type 0
Fits log node (NewRevision entry chunk) = same null_node node.0 ≡ false → IsOk (entry_behind log.entries entry)
Fits log node became = Unit {0}

abbrev pub is_standing : Became → Bool
is_standing (Standing rev) = true
is_standing _ = false
