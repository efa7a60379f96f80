-- A disk in memory as contracts see it.
use Rattle.hgs_mem.specs.MemFiles.{tree_now}
use Rattle.hgs_power.specs.Disk as power
use Rattle.hgs_power_loss.specs.declared.disk.Disk.{Disk}
use Rattle.hgs_power_loss.specs.Kept.{disk_of}

-- the disk that it stands for
abbrev pub disk_in : Disk → power.Disk
disk_in d = disk_of (tree_now d.base) d.changes.items d.settled d.kept d.made.items
