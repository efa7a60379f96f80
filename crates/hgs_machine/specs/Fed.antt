-- What a machine becomes by a reply.
use Rattle.std.specs.Prelude.{ℕ, ◌+◌, ◌-◌, Bool, true, false, ◌==◌, ◌&&◌, Option, Some, None, if◌then◌else◌, nat_lt, length, slice_get, unwrap_or}
use Rattle.hgs_transaction.specs.declared.assemble.Plan.{Plan}
use Rattle.hgs_machine.specs.declared.ended.Published.TheVariants.{No, Yes, Unknown}
use Rattle.hgs_machine.specs.declared.ended.Short.{Short}
use Rattle.hgs_machine.specs.declared.ended.Short.TheVariants.{Done as AllDone, Fault, Unfinished, Memory as OutOfMemory}
use Rattle.hgs_machine.specs.declared.machine.Machine.{Machine}
use Rattle.hgs_machine.specs.declared.machine.Reply.{Reply}
use Rattle.hgs_machine.specs.declared.machine.Reply.TheVariants.{Done, Failed, Memory, Size, SizeFailed, SizeMemory}
use Rattle.hgs_machine.specs.declared.machine.Stage.{Stage}
use Rattle.hgs_machine.specs.declared.machine.Stage.TheVariants.{Preparing, Beginning, Working, Publishing, Asking, Finishing, Undoing, Sweeping, Removing}
use Rattle.hgs_machine.specs.Asked.{bytes_in}
use Rattle.hgs_machine.specs.SoFar.{sweep_from}

-- a machine that has done nothing
abbrev pub new_machine : Plan → Machine
new_machine plan = record { plan = plan; stage = Preparing; done = 0; place = 0; outcome = AllDone; swept = true }

abbrev pub is_publishing_at : Stage → Bool
is_publishing_at Publishing = true
is_publishing_at _ = false

-- the next operation publishes
abbrev pub is_publishing : Machine → Bool
is_publishing m = is_publishing_at m.stage

abbrev pub is_finishing_at : Stage → Bool
is_finishing_at Finishing = true
is_finishing_at _ = false

-- the next operation removes the journal of a transaction that is published
abbrev pub is_cleaning : Machine → Bool
is_cleaning m = is_finishing_at m.stage && m.done == m.plan.commit

-- it ended behind its publishing operation
abbrev pub is_published_end : Short → Bool
is_published_end AllDone = true
is_published_end (Unfinished Yes) = true
is_published_end _ = false

abbrev pub is_published_at : Stage → Short → Bool
is_published_at Finishing outcome = true
is_published_at Sweeping outcome = is_published_end outcome
is_published_at Removing outcome = is_published_end outcome
is_published_at _ outcome = false

-- the publishing operation is done
abbrev pub is_published : Machine → Bool
is_published m = is_published_at m.stage m.outcome

abbrev pub is_done_end : Short → Bool
is_done_end AllDone = true
is_done_end _ = false

abbrev pub is_acknowledged_at : Stage → Short → Bool
is_acknowledged_at Sweeping outcome = is_done_end outcome
is_acknowledged_at Removing outcome = is_done_end outcome
is_acknowledged_at _ outcome = false

-- the journal of what is published is removed
abbrev pub is_acknowledged : Machine → Bool
is_acknowledged m = is_acknowledged_at m.stage m.outcome

-- with the operation at hand done, at this stage
abbrev pub advanced : Stage → Machine → Machine
advanced stage m = record m { stage = stage; done = m.done + 1 }

-- the list of undoing begins
abbrev pub undoing : Short → Machine → Machine
undoing outcome m = record m { stage = Undoing; place = 0; outcome = outcome }

-- the removals behind the transaction begin
abbrev pub sweeping : Short → Machine → Machine
sweeping outcome m = record m { stage = Sweeping; place = sweep_from m.plan outcome; outcome = outcome }

-- the next removal
abbrev pub passed : Bool → Machine → Machine
passed gone m = record m { stage = Sweeping; place = m.place + 1; swept = m.swept && gone }

abbrev pub working_at : ℕ → ℕ → Stage
working_at done publish = if done == publish then Publishing else Working

-- the operation at hand was done
abbrev pub fed_done : Stage → Machine → Machine
fed_done Preparing m = advanced (if m.done + 1 == m.plan.journal then Beginning else Preparing) m
fed_done Beginning m = advanced (working_at (m.done + 1) m.plan.publish) m
fed_done Working m = advanced (working_at (m.done + 1) m.plan.publish) m
fed_done Publishing m = advanced Finishing m
fed_done Asking m = advanced Finishing m
fed_done Finishing m = if nat_lt m.done m.plan.commit then advanced Finishing m else sweeping AllDone (advanced Finishing m)
fed_done Undoing m = if nat_lt (m.place + 1) (length m.plan.undo.items) then record m { place = m.place + 1 } else sweeping m.outcome m
fed_done Sweeping m = passed true m
fed_done Removing m = passed true m

-- the publishing operation failed: an append may stand in part
abbrev pub unpublished : ℕ → Machine → Machine
unpublished bytes m = if nat_lt 0 bytes then record m { stage = Asking; outcome = Fault } else undoing Fault m

-- it failed
abbrev pub fed_failed : Stage → Machine → Machine
fed_failed Preparing m = sweeping Fault m
fed_failed Beginning m = sweeping Fault m
fed_failed Working m = undoing Fault m
fed_failed Asking m = undoing Fault m
fed_failed Publishing m = unpublished (bytes_in (slice_get m.plan.ops.items m.done)) m
fed_failed Finishing m = sweeping (Unfinished Yes) m
fed_failed Undoing m = sweeping (Unfinished No) m
fed_failed Sweeping m = passed false m
fed_failed Removing m = passed false m

-- it found no memory
abbrev pub fed_denied : Stage → Machine → Machine
fed_denied Preparing m = sweeping OutOfMemory m
fed_denied Beginning m = sweeping OutOfMemory m
fed_denied Working m = undoing OutOfMemory m
fed_denied Publishing m = undoing OutOfMemory m
fed_denied Asking m = undoing OutOfMemory m
fed_denied Finishing m = sweeping (Unfinished Yes) m
fed_denied Undoing m = sweeping (Unfinished No) m
fed_denied Sweeping m = passed false m
fed_denied Removing m = passed false m

-- a stray stands, or does not
abbrev pub stray_sized : Option ℕ → Machine → Machine
stray_sized None m = passed true m
stray_sized (Some size) m = record m { stage = Removing }

-- the size of the file that was appended to, or of a stray
abbrev pub fed_size : Stage → Option ℕ → Machine → Machine
fed_size Asking size m =
    if nat_lt (unwrap_or size 0 - m.plan.before) (bytes_in (slice_get m.plan.ops.items m.done)) then undoing m.outcome m else advanced Finishing m
fed_size _ size m = stray_sized size m

-- that could not be had
abbrev pub fed_no_size : Stage → Machine → Machine
fed_no_size Asking m = sweeping (Unfinished Unknown) m
fed_no_size _ m = passed false m

abbrev pub fed : Machine → Reply → Machine
fed m Done = fed_done m.stage m
fed m Failed = fed_failed m.stage m
fed m Memory = fed_denied m.stage m
fed m (Size size) = fed_size m.stage size m
fed m SizeFailed = fed_no_size m.stage m
fed m SizeMemory = fed_no_size m.stage m
