-- What keeps a commit from being written, and which of it is told.
use Rattle.std.specs.Prelude.{Bool, ◌||◌, Option, Some, None, is_some, Result, Ok, Err}
use Rattle.std.specs.Option.{option_map}
use Rattle.hgs_steps.specs.declared.fault.PlanFault.{PlanFault}
use Rattle.hgs_steps.specs.declared.fault.PlanFault.TheVariants.{Limit, NameClash, InTheWay, Collision}
use Rattle.hgs_commit.specs.declared.hindrance.Hindrances.{Hindrances}

-- something was met
abbrev pub is_met : Hindrances → Bool
is_met h = is_some h.limit || (is_some h.clash || (is_some h.in_the_way || is_some h.collision))

-- the first that is there refuses
infixr 10 ◌or◌
abbrev pub ◌or◌ : Option PlanFault → Result Unit PlanFault → Result Unit PlanFault
None or rest = rest
(Some fault) or rest = Err fault

abbrev pub refusal_of : Hindrances → Result Unit PlanFault
refusal_of h =
    option_map (λ which. Limit which) h.limit
    or (option_map (λ other. NameClash other) h.clash
    or (option_map (λ path. InTheWay path) h.in_the_way
    or (option_map (λ c. Collision c.path c.rev) h.collision or Ok tt)))
