-- The writing end as contracts see it.
use Rattle.std.specs.Prelude.{◌≡◌, [], List, Some}
use Rattle.logbook.specs.Pages.{Book}
use Rattle.hgs_files.specs.declared.op.Op.{Op}
use Rattle.hgs_files.specs.Tree.{Tree}
use Rattle.hgs_mem.specs.declared.tally.Tally.{Tally}
use Rattle.hgs_files.specs.Ties.{Ties}
use Rattle.hgs_mem.specs.declared.mem.MemFiles.{MemFiles}
use Rattle.hgs_mem.specs.MemFiles.{log_of, start_of, tree_now, tally_of}
use Rattle.hgs_hub.specs.Home.{home_of}
use Rattle.hgs_hub.specs.declared.moment.Origin.{Origin}
use Rattle.hgs_hub.specs.declared.rule.Shown.{Shown}
use Rattle.hgs_hub.specs.declared.writer.HubWriter.{HubWriter}
use Rattle.hgs_hub.specs.Rule.{log_at, first_at}

-- this log is shown, over the files of the start
abbrev pub Shows : Origin → List Op → Shown → Type 0
Shows first log x = (log_at x ≡ log) × (first_at x ≡ first)

-- what ties the writing end of this book, over these files at rest
abbrev pub leading_ties : Book → MemFiles → Ties
leading_ties book base = record { home = home_of book; told = []; earlier = Some (log_of base); earlier_start = start_of base }

-- the operations that it did, all of which are published
abbrev pub done_by : {P T : Type 0} → HubWriter P T → List Op
done_by w = w.log.items

-- the tree that they start from
abbrev pub base_of : {P T : Type 0} → HubWriter P T → Tree
base_of w = tree_now w.base

-- what ties it to the others
abbrev pub ties_at : {P T : Type 0} → HubWriter P T → Ties
ties_at w = leading_ties w.book.front.sure.book w.base

-- what it has counted
abbrev pub tally_at : {P T : Type 0} → HubWriter P T → Tally
tally_at w = tally_of w.base

-- what a writing end did, over which files at rest and of which book, and what it has counted, is the same
abbrev pub IsSameWriter : {P T : Type 0} → HubWriter P T → HubWriter P T → Type 0
IsSameWriter old new =
    (new.log.items ≡ old.log.items) × (log_of new.base ≡ log_of old.base) × (start_of new.base ≡ start_of old.base) × (tally_of new.base ≡ tally_of old.base)
    × (new.book.front.sure.book ≡ old.book.front.sure.book)
