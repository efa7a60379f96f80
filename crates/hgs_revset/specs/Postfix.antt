-- Sets in postfix form.
use Rattle.std.specs.Prelude.{◌≡◌, Bool, true, ◌&&◌, List, [], ◌∷◌, ◌++◌, is_some}
use Rattle.hgs_revset.specs.Members.{Set, Name, Marked, All, InPhase, Not, Ancestors, Descendants, Heads, Roots, And, Or, Story}
use Rattle.hgs_revset.specs.declared.step.Step.{Step}
use Rattle.hgs_revset.specs.declared.step.Step.TheVariants as steps

abbrev pub on_one : (Set → Set) → List Set → List Set
on_one f [] = []
on_one f (a ∷ rest) = f a ∷ rest

abbrev pub on_two : (Set → Set → Set) → List Set → List Set
on_two f [] = []
on_two f (b ∷ []) = b ∷ []
on_two f (b ∷ a ∷ rest) = f a b ∷ rest

-- the stack after a step, its top first
abbrev pub stepped : Step → List Set → List Set
stepped (steps.Name n) stack = Name n ∷ stack
stepped (steps.Marked n) stack = Marked n ∷ stack
stepped steps.All stack = All ∷ stack
stepped (steps.InPhase p) stack = InPhase p ∷ stack
stepped steps.Not stack = on_one Not stack
stepped steps.Ancestors stack = on_one Ancestors stack
stepped steps.Descendants stack = on_one Descendants stack
stepped steps.Heads stack = on_one Heads stack
stepped steps.Roots stack = on_one Roots stack
stepped steps.And stack = on_two And stack
stepped steps.Or stack = on_two Or stack

abbrev pub after : List Step → List Set → List Set
after [] stack = stack
after (s ∷ more) stack = after more (stepped s stack)

-- what stands on top at the end; without anything, the set of nothing
abbrev pub top_of : List Set → Set
top_of [] = Not All
top_of (a ∷ rest) = a

abbrev pub set_of : List Step → Set
set_of steps = top_of (after steps [])

-- the steps leave one set, and nothing else
abbrev pub IsWhole : List Step → Type 0
IsWhole steps = after steps [] ≡ set_of steps ∷ []

-- the steps of a set
abbrev pub postfix : Set → List Step
postfix (Name n) = steps.Name n ∷ []
postfix (Marked n) = steps.Marked n ∷ []
postfix All = steps.All ∷ []
postfix (InPhase p) = steps.InPhase p ∷ []
postfix (Not a) = postfix a ++ steps.Not ∷ []
postfix (Ancestors a) = postfix a ++ steps.Ancestors ∷ []
postfix (Descendants a) = postfix a ++ steps.Descendants ∷ []
postfix (Heads a) = postfix a ++ steps.Heads ∷ []
postfix (Roots a) = postfix a ++ steps.Roots ∷ []
postfix (And a b) = postfix a ++ postfix b ++ steps.And ∷ []
postfix (Or a b) = postfix a ++ postfix b ++ steps.Or ∷ []

-- whether a name that a step speaks of names a changeset
abbrev pub step_known : Story → Step → Bool
step_known s (steps.Name n) = is_some (s.named n)
step_known s (steps.Marked n) = is_some (s.marked n)
step_known s steps.All = true
step_known s (steps.InPhase p) = true
step_known s steps.Not = true
step_known s steps.Ancestors = true
step_known s steps.Descendants = true
step_known s steps.Heads = true
step_known s steps.Roots = true
step_known s steps.And = true
step_known s steps.Or = true

abbrev pub all_known : Story → List Step → Bool
all_known s [] = true
all_known s (step ∷ more) = step_known s step && all_known s more
