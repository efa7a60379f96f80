-- A reading end as contracts see it.
use Rattle.std.specs.Prelude.{List, None}
use Rattle.logbook.specs.Pages.{Book}
use Rattle.left_right.specs.Sides.{view}
use Rattle.hgs_files.specs.declared.op.Op.{Op}
use Rattle.hgs_files.specs.Tree.{Tree}
use Rattle.hgs_mem.specs.declared.tally.Tally.{Tally}
use Rattle.hgs_files.specs.Ties.{Ties}
use Rattle.hgs_hub.specs.declared.told.Heard.{Heard}
use Rattle.hgs_hub.specs.declared.reader.HubReader.{HubReader}
use Rattle.hgs_hub.specs.Home.{home_of}
use Rattle.hgs_hub.specs.Rule.{start_from}
use Rattle.hgs_hub.specs.Told.{lists_of}

-- what ties an end of this book that was told this
abbrev pub ties_of : Book → Heard → Ties
ties_of book told = record { home = home_of book; told = lists_of told; earlier = None; earlier_start = λ path. None }

-- the list that it looked at last
abbrev pub seen_by : {P : Type 0} → HubReader P → List Op
seen_by r = r.last.value.log.value.items

-- the tree that this list starts from
abbrev pub start_by : {P : Type 0} → HubReader P → Tree
start_by r = start_from (view r.reader.place).first

-- what ties it to the others
abbrev pub ties_by : {P : Type 0} → HubReader P → Ties
ties_by r = ties_of r.best.sure.book r.told

-- what it has counted
abbrev pub tally_by : {P : Type 0} → HubReader P → Tally
tally_by r = r.tally
