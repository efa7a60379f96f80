-- Files in memory as contracts see them.
use Rattle.std.specs.Prelude.{◌≡◌, ℕ, List, [], Option, Some, None, Result, Ok, Err}
use Rattle.hgs_files.specs.declared.op.Op.{Op}
use Rattle.hgs_files.specs.declared.files.FileFault.{FileFault}
use Rattle.hgs_files.specs.declared.files.FileFault.TheVariants.{Failed, Memory}
use Rattle.hgs_files.specs.Tree.{Tree, after_all}
use Rattle.hgs_files.specs.Log.{IsDone}
use Rattle.hgs_mem.specs.declared.plan.Plan.{Plan}
use Rattle.hgs_mem.specs.declared.tally.Tally.{Tally}
use Rattle.hgs_mem.specs.declared.mem.MemFiles.{MemFiles}
use Rattle.hgs_mem.specs.declared.contents.Map.{Map}
use Rattle.hgs_mem.specs.Mem.{tree_of}

-- the operations done since the start
abbrev pub log_of : MemFiles → List Op
log_of m = m.kept.log.items

-- the tree at the start
abbrev pub start_of : MemFiles → Tree
start_of m = tree_of m.kept.first.value

-- the tree now
abbrev pub tree_now : MemFiles → Tree
tree_now m = after_all (log_of m) (start_of m)

-- the map of the files now
abbrev pub map_of : MemFiles → Map
map_of m = m.kept.files

-- the most bytes in one piece of an append
abbrev pub piece_of : MemFiles → ℕ
piece_of m = m.kept.piece

-- which calls are to fail, and the number of the next
abbrev pub plan_of : MemFiles → Plan
plan_of m = m.plan

abbrev pub tally_of : MemFiles → Tally
tally_of m = m.tally

-- nothing but the plan changed
abbrev pub KeepsFiles : MemFiles → MemFiles → Type 0
KeepsFiles old new = (log_of new ≡ log_of old) × (start_of new ≡ start_of old) × (piece_of new ≡ piece_of old) × (tally_of new ≡ tally_of old)

-- the files, their log and their pieces are the same
abbrev pub KeepsAllBut : MemFiles → MemFiles → Type 0
KeepsAllBut old new = (log_of new ≡ log_of old) × (start_of new ≡ start_of old) × (piece_of new ≡ piece_of old) × (map_of new ≡ map_of old)

-- A call fails exactly where that is its fate.
abbrev pub FailsBy : {T : Type 0} → Option ℕ → Result T FileFault → Type 0
FailsBy None (Ok x) = Unit {0}
FailsBy None (Err Failed) = ⊥
FailsBy None (Err Memory) = Unit {0}
FailsBy (Some bytes) result = result ≡ Err Failed

-- A call with bytes fails exactly where that is its fate, with just the front done that its fate names; want of memory may come first, where there is such a front.
abbrev pub FailsAfter : {T : Type 0} → Option ℕ → (ℕ → List Op) → Result T FileFault → List Op → Type 0
FailsAfter None front (Ok x) done = Unit {0}
FailsAfter None front (Err Failed) done = ⊥
FailsAfter None front (Err Memory) done = Unit {0}
FailsAfter (Some bytes) front (Ok x) done = ⊥
FailsAfter (Some bytes) front (Err Failed) done = IsDone (front bytes) done []
FailsAfter (Some bytes) front (Err Memory) done = front bytes ≡ [] → ⊥
