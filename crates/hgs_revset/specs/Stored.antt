-- A set as a list that gives it back, by which proofs tell sets apart.
use Rattle.std.specs.Prelude.{◌≡◌, ℕ, ◌==◌, List, [], ◌∷◌, ◌++◌, map, if◌then◌else◌, refl}
use Rattle.std.specs.Coded.{Coded, code_by, coded×, coded_list, coded_ℕ}
use Rattle.std.proofs.Common.{◌∙◌, ap}
use Rattle.hgs_model.specs.declared.phase.Phase.TheVariants as phases
use Rattle.hgs_revset.specs.Members.{Set, Name, Marked, All, InPhase, Not, Ancestors, Descendants, Heads, Roots, And, Or}
use Rattle.hgs_revset.specs.Postfix.{after, postfix, set_of, stepped, top_of}
use Rattle.hgs_revset.specs.declared.step.Step.{Step}
use Rattle.hgs_revset.specs.declared.step.Step.TheVariants as steps

abbrev pub number_of : Step → ℕ × List ℕ
number_of (steps.Name n) = (0, n)
number_of (steps.Marked n) = (1, n)
number_of steps.All = (2, [])
number_of (steps.InPhase phases.Public) = (3, [])
number_of (steps.InPhase phases.Draft) = (4, [])
number_of (steps.InPhase phases.Secret) = (5, [])
number_of steps.Not = (6, [])
number_of steps.Ancestors = (7, [])
number_of steps.Descendants = (8, [])
number_of steps.Heads = (9, [])
number_of steps.Roots = (10, [])
number_of steps.And = (11, [])
number_of steps.Or = (12, [])

abbrev pub step_of : ℕ × List ℕ → Step
step_of p =
    if p.0 == 0 then steps.Name p.1
    else if p.0 == 1 then steps.Marked p.1
    else if p.0 == 2 then steps.All
    else if p.0 == 3 then steps.InPhase phases.Public
    else if p.0 == 4 then steps.InPhase phases.Draft
    else if p.0 == 5 then steps.InPhase phases.Secret
    else if p.0 == 6 then steps.Not
    else if p.0 == 7 then steps.Ancestors
    else if p.0 == 8 then steps.Descendants
    else if p.0 == 9 then steps.Heads
    else if p.0 == 10 then steps.Roots
    else if p.0 == 11 then steps.And
    else steps.Or

abbrev pub numbers_of : Set → List (ℕ × List ℕ)
numbers_of a = map number_of (postfix a)

abbrev pub set_with : List (ℕ × List ℕ) → Set
set_with numbers = set_of (map step_of numbers)

step-back : (step : Step) → step_of (number_of step) ≡ step
step-back (steps.Name n) = refl
step-back (steps.Marked n) = refl
step-back steps.All = refl
step-back (steps.InPhase phases.Public) = refl
step-back (steps.InPhase phases.Draft) = refl
step-back (steps.InPhase phases.Secret) = refl
step-back steps.Not = refl
step-back steps.Ancestors = refl
step-back steps.Descendants = refl
step-back steps.Heads = refl
step-back steps.Roots = refl
step-back steps.And = refl
step-back steps.Or = refl

steps-back : (all : List Step) → map step_of (map number_of all) ≡ all
steps-back [] = refl
steps-back (step ∷ more) = ap (λ s. s ∷ map step_of (map number_of more)) (step-back step) ∙ ap (λ ss. step ∷ ss) (steps-back more)

pub after_more : (xs ys : List Step) (stack : List Set) → after (xs ++ ys) stack ≡ after ys (after xs stack)
after_more [] ys stack = refl
after_more (x ∷ xs) ys stack = after_more xs ys (stepped x stack)

pub after_postfix : (a : Set) (stack : List Set) → after (postfix a) stack ≡ a ∷ stack
after_postfix (Name n) stack = refl
after_postfix (Marked n) stack = refl
after_postfix All stack = refl
after_postfix (InPhase p) stack = refl
after_postfix (Not a) stack = after_more (postfix a) (steps.Not ∷ []) stack ∙ ap (after (steps.Not ∷ [])) (after_postfix a stack)
after_postfix (Ancestors a) stack = after_more (postfix a) (steps.Ancestors ∷ []) stack ∙ ap (after (steps.Ancestors ∷ [])) (after_postfix a stack)
after_postfix (Descendants a) stack = after_more (postfix a) (steps.Descendants ∷ []) stack ∙ ap (after (steps.Descendants ∷ [])) (after_postfix a stack)
after_postfix (Heads a) stack = after_more (postfix a) (steps.Heads ∷ []) stack ∙ ap (after (steps.Heads ∷ [])) (after_postfix a stack)
after_postfix (Roots a) stack = after_more (postfix a) (steps.Roots ∷ []) stack ∙ ap (after (steps.Roots ∷ [])) (after_postfix a stack)
after_postfix (And a b) stack =
    after_more (postfix a ++ postfix b) (steps.And ∷ []) stack ∙ ap (after (steps.And ∷ [])) (after_more (postfix a) (postfix b) stack ∙ ap (after (postfix b)) (after_postfix a stack) ∙ after_postfix b (a ∷ stack))
after_postfix (Or a b) stack =
    after_more (postfix a ++ postfix b) (steps.Or ∷ []) stack ∙ ap (after (steps.Or ∷ [])) (after_more (postfix a) (postfix b) stack ∙ ap (after (postfix b)) (after_postfix a stack) ∙ after_postfix b (a ∷ stack))

pub back : (a : Set) → set_with (numbers_of a) ≡ a
back a = ap set_of (steps-back (postfix a)) ∙ ap top_of (after_postfix a [])

abbrev pub set_code : Coded Set
set_code = code_by (List (ℕ × List ℕ)) (coded_list (coded× coded_ℕ (coded_list coded_ℕ))) numbers_of set_with back
