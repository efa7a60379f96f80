-- Which calls fail.
use Rattle.std.specs.Prelude.{ℕ, ◌==◌, nat_lt, Option, Some, None, if◌then◌else◌}
use Rattle.std.specs.BTreeMap.{get}
use Rattle.std.specs.Ordering.{nat_cmp}
use Rattle.hgs_files.specs.Reads.{counted}
use Rattle.hgs_mem.specs.declared.plan.Stop.{Stop}
use Rattle.hgs_mem.specs.declared.plan.Plan.{Plan}

-- after how many bytes the call of this number is named to fail
abbrev pub failure_at : Plan → ℕ → Option ℕ
failure_at plan call = get nat_cmp plan.failures call

-- The fate of the call of a number: after how many bytes it fails, and nothing where it does all that it is to do. A stop counts before a named failure; after a stop each call fails with nothing done.
abbrev pub fate : Option Stop → Option ℕ → ℕ → Option ℕ
fate None named call = named
fate (Some stop) named call = if stop.call == call then Some stop.bytes else (if nat_lt stop.call call then Some 0 else named)

-- the fate of the next call
abbrev pub next_fate : Plan → Option ℕ
next_fate plan = fate plan.stop (failure_at plan plan.calls) plan.calls

-- the plan after a call, which counts it
abbrev pub after_call : Plan → Plan
after_call plan = record plan { calls = counted plan.calls 1 }

-- of two stops the earlier counts, and of two at one call the later named
abbrev pub earlier : Option Stop → Stop → Stop
earlier None new = new
earlier (Some old) new = if nat_lt old.call new.call then old else new
