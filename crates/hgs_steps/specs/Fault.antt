-- Why no step is planned.
use Rattle.std.specs.Prelude.{Bool, true, false}
use Rattle.hgs_steps.specs.declared.fault.PlanFault.{PlanFault}
use Rattle.hgs_steps.specs.declared.fault.PlanFault.TheVariants.{Refused, Limit, NameClash, InTheWay, Collision, Memory}

-- the fault that stands for want of memory
abbrev pub is_memory : PlanFault → Bool
is_memory (Refused e) = false
is_memory (Limit w) = false
is_memory (NameClash path) = false
is_memory (InTheWay path) = false
is_memory (Collision path rev) = false
is_memory Memory = true
