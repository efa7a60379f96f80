-- New reading ends.
use Rattle.std.specs.Prelude.{◌≡◌, List, [], map, Option, All}
use mathlib.Core.List.{IsPrefix}
use Rattle.logbook.specs.Pages.{Book}
use Rattle.hgs_files.specs.declared.op.Op.{Op}
use Rattle.hgs_files.specs.Reads.{Covers}
use Rattle.left_right.specs.Sides.{view}
use Rattle.hgs_hub.specs.Told.{lists_of}
use Rattle.hgs_mem.specs.declared.tally.Tally.{Tally}
use Rattle.hgs_hub.specs.declared.front.Front.{Front}
use Rattle.hgs_hub.specs.declared.told.Heard.{Heard}
use Rattle.hgs_hub.specs.declared.moment.Moment.{Moment}
use Rattle.hgs_hub.specs.declared.moment.Origin.{Origin}
use Rattle.hgs_hub.specs.declared.reader.HubReader.{HubReader}

-- a reading end that saw nothing, was told nothing and counted nothing, of this book and over the files of this start
abbrev pub IsNew : {P : Type 0} → Option Origin → Book → HubReader P → Type 0
IsNew first book r =
    (r.last.value.log.value.items ≡ []) × (lists_of r.told ≡ []) × ((view r.reader.place).first ≡ first) × (r.best.sure.book ≡ book)
    × (r.tally.faults ≡ 0) × (r.tally.denied ≡ 0)

abbrev pub AllNew : {P : Type 0} → Option Origin → Book → List (HubReader P) → Type 0
AllNew first book rs = All (IsNew first book) rs

-- reading ends of this book
abbrev pub AllAt : {P : Type 0} → Book → List (HubReader P) → Type 0
AllAt book rs = All (λ r. r.best.sure.book ≡ book) rs

-- what a reading end saw and was told begins this log
abbrev pub IsWithin : {P : Type 0} → List Op → HubReader P → Type 0
IsWithin log r = IsPrefix r.last.value.log.value.items log × Covers (lists_of r.told) log

abbrev pub AllWithin : {P : Type 0} → List Op → List (HubReader P) → Type 0
AllWithin log rs = All (IsWithin log) rs

-- what a reading end saw, was told, knows as the latest front, and counted
pub record Mark : Type 0 where
  pub last : Moment
  pub told : Heard
  pub best : Front
  pub tally : Tally

abbrev pub mark_of : {P : Type 0} → HubReader P → Mark
mark_of r = record { last = r.last.value; told = r.told; best = r.best; tally = r.tally }

abbrev pub marks_of : {P : Type 0} → List (HubReader P) → List Mark
marks_of rs = map mark_of rs
