-- Streams in memory as contracts see them.
use Rattle.std.specs.Prelude.{◌≡◌, ℕ, List, drop, Option, Some, Result, Ok, Err}
use Rattle.hgs_files.specs.declared.streams.IoFault.{IoFault}
use Rattle.hgs_files.specs.declared.streams.IoFault.TheVariants.{Failed, Memory}
use Rattle.hgs_mem.specs.declared.streams.MemSource.{MemSource}
use Rattle.hgs_mem.specs.declared.streams.MemSink.{MemSink}

-- the bytes that a source still has
abbrev pub left_of : MemSource → List ℕ
left_of source = drop source.at source.bytes.items

-- the bytes that a sink has taken
abbrev pub written_to : MemSink → List ℕ
written_to sink = sink.bytes.items

-- the number of the next call, the call that is to fail, and how many failed
abbrev pub source_calls : MemSource → ℕ
source_calls source = source.calls

abbrev pub source_named : MemSource → Option ℕ
source_named source = source.named

abbrev pub source_faults : MemSource → ℕ
source_faults source = source.faults

abbrev pub sink_calls : MemSink → ℕ
sink_calls sink = sink.calls

abbrev pub sink_named : MemSink → Option ℕ
sink_named sink = sink.named

abbrev pub sink_faults : MemSink → ℕ
sink_faults sink = sink.faults

-- A call fails exactly where its number is the one named.
abbrev pub FailsAt : {T : Type 0} → Option ℕ → ℕ → Result T IoFault → Type 0
FailsAt named call (Ok x) = named ≡ Some call → ⊥
FailsAt named call (Err Failed) = named ≡ Some call
FailsAt named call (Err Memory) = named ≡ Some call → ⊥
