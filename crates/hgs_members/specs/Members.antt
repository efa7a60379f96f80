-- The members of a set, as a mark for each changeset, and how they are found by a stack.
use Rattle.std.specs.Prelude.{◌≡◌, ◌↔◌, ℕ, ◌<◌, ⊤, Bool, true, false, not, ◌&&◌, ◌||◌, List, [], ◌∷◌, ◌++◌, length, map, replicate, slice_index_or, slice_set, Result, Ok, Err}
use Rattle.hgs_index.specs.Revision.{Parents, ParentsBefore}
use Rattle.hgs_revset.specs.Members.{Set, Story, is_known, Has}
use Rattle.hgs_revset.specs.Postfix.{step_known, stepped}
use Rattle.hgs_revset.specs.declared.step.Step.{Step}
use Rattle.hgs_revset.specs.declared.step.Step.TheVariants as steps
use Rattle.hgs_members.specs.Passes.{AreAncestors, AreDescendants, AreHeads, AreRoots, IsMarked}
use Rattle.hgs_members.specs.declared.answer.SetAnswer.{SetAnswer}
use Rattle.hgs_members.specs.declared.answer.SetAnswer.TheVariants.{Memory, UnknownRevision}
use Rattle.hgs_members.specs.declared.operand.Operand.{Operand}
use Rattle.hgs_members.specs.declared.operand.Operand.TheVariants.{Empty, One, Many}

-- marks that stand for a set
pub record Shows (s : Story) (a : Set) (marks : List Bool) : Type 0 where
  pub count : length marks ≡ length s.parents
  pub each : ParentsBefore 0 s.parents → (rev : ℕ) → rev < length s.parents → (IsMarked marks rev ↔ Has s a rev)

-- The members are those of the set, where each name that it speaks of names a changeset; where one names none, that is said.
abbrev pub Evaluates : Story → Set → Result (List Bool) SetAnswer → Type 0
Evaluates s a (Ok marks) = (is_known s a ≡ true) × Shows s a marks
Evaluates s a (Err UnknownRevision) = is_known s a ≡ false
Evaluates s a (Err Memory) = ⊤

-- ---- the stack

-- of so many changesets one
abbrev pub one_mark : ℕ → ℕ → List Bool
one_mark count rev = slice_set (replicate count false) rev true

abbrev pub marks_in : ℕ → Operand → List Bool
marks_in count Empty = replicate count false
marks_in count (One rev) = one_mark count rev
marks_in count (Many marks) = marks

-- the marks of the operands on a stack
abbrev pub marks_of : Story → List Operand → List (List Bool)
marks_of s stack = map (marks_in (length s.parents)) stack

-- marks that stand for the sets of a stack, whose top is the last
abbrev pub AreShown : Story → List Set → List (List Bool) → Type 0
AreShown s [] stack = stack ≡ []
AreShown s (a ∷ rest) stack = (top : List Bool) × (below : List (List Bool)) × (stack ≡ below ++ top ∷ []) × Shows s a top × AreShown s rest below

-- what a step makes of a stack
abbrev pub Steps : Story → Step → List Operand → List Operand → Result Unit SetAnswer → Type 0
Steps s step old new (Ok done) = (step_known s step ≡ true) × ((sets : List Set) → AreShown s sets (marks_of s old) → AreShown s (stepped step sets) (marks_of s new))
Steps s step old new (Err UnknownRevision) = step_known s step ≡ false
Steps s step old new (Err Memory) = ⊤

-- what a step of one operand makes of it
abbrev pub Changes : List Parents → Step → List Bool → List Bool → Type 0
Changes history steps.Not old new = (length new ≡ length old) × ((i : ℕ) → i < length old → slice_index_or new i false ≡ not (slice_index_or old i false))
Changes history steps.Ancestors old new = (length new ≡ length old) × (ParentsBefore 0 history → AreAncestors history old new)
Changes history steps.Descendants old new = (length new ≡ length old) × (ParentsBefore 0 history → AreDescendants history old new)
Changes history steps.Heads old new = (length new ≡ length old) × (ParentsBefore 0 history → AreHeads history old new)
Changes history steps.Roots old new = (length new ≡ length old) × (ParentsBefore 0 history → AreRoots history old new)
Changes history (steps.Name n) old new = ⊤
Changes history (steps.Marked n) old new = ⊤
Changes history steps.All old new = ⊤
Changes history (steps.InPhase p) old new = ⊤
Changes history steps.And old new = ⊤
Changes history steps.Or old new = ⊤

-- those that both have, and those that one of the two has
pub record AreBoth (left right new : List Bool) : Type 0 where
  pub count : length new ≡ length left
  pub each : (i : ℕ) → i < length left → slice_index_or new i false ≡ (slice_index_or left i false && slice_index_or right i false)

pub record AreEither (left right new : List Bool) : Type 0 where
  pub count : length new ≡ length left
  pub each : (i : ℕ) → i < length left → slice_index_or new i false ≡ (slice_index_or left i false || slice_index_or right i false)

-- what a step of two operands makes of them
abbrev pub Combines : Step → List Bool → List Bool → List Bool → Type 0
Combines steps.And left right new = AreBoth left right new
Combines steps.Or left right new = AreEither left right new
Combines steps.Not left right new = ⊤
Combines steps.Ancestors left right new = ⊤
Combines steps.Descendants left right new = ⊤
Combines steps.Heads left right new = ⊤
Combines steps.Roots left right new = ⊤
Combines (steps.Name n) left right new = ⊤
Combines (steps.Marked n) left right new = ⊤
Combines steps.All left right new = ⊤
Combines (steps.InPhase p) left right new = ⊤

-- whether a step takes one set, or two
abbrev pub takes_one : Step → Bool
takes_one steps.Not = true
takes_one steps.Ancestors = true
takes_one steps.Descendants = true
takes_one steps.Heads = true
takes_one steps.Roots = true
takes_one (steps.Name n) = false
takes_one (steps.Marked n) = false
takes_one steps.All = false
takes_one (steps.InPhase p) = false
takes_one steps.And = false
takes_one steps.Or = false

abbrev pub takes_two : Step → Bool
takes_two steps.And = true
takes_two steps.Or = true
takes_two steps.Not = false
takes_two steps.Ancestors = false
takes_two steps.Descendants = false
takes_two steps.Heads = false
takes_two steps.Roots = false
takes_two (steps.Name n) = false
takes_two (steps.Marked n) = false
takes_two steps.All = false
takes_two (steps.InPhase p) = false
