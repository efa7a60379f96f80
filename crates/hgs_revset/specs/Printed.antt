-- How a set is printed so that it reads as itself.
use Rattle.std.specs.Prelude.{◌≡◌, ◌==◌, ℕ, ◌+◌, max, Bool, false, List, [], ◌∷◌, ◌++◌, codes}
use Rattle.std.specs.List.{list_any}
use Rattle.hgs_model.specs.Phase.{phase_name}
use Rattle.hgs_revset.specs.Members.{Set, Name, Marked, All, InPhase, Not, Ancestors, Descendants, Heads, Roots, And, Or}

-- between two `"`
abbrev pub quoted : List ℕ → List ℕ
quoted name = 34 ∷ name ++ 34 ∷ []

-- each argument and each operand stands between parentheses
abbrev pub printed : Set → List ℕ
printed (Name n) = quoted n
printed (Marked n) = codes "bookmark(" ++ quoted n ++ 41 ∷ []
printed All = codes "all()"
printed (InPhase p) = phase_name p ++ codes "()"
printed (Not a) = codes "not(" ++ printed a ++ 41 ∷ []
printed (Ancestors a) = codes "ancestors(" ++ printed a ++ 41 ∷ []
printed (Descendants a) = codes "descendants(" ++ printed a ++ 41 ∷ []
printed (Heads a) = codes "heads(" ++ printed a ++ 41 ∷ []
printed (Roots a) = codes "roots(" ++ printed a ++ 41 ∷ []
printed (And a b) = 40 ∷ printed a ++ codes ")and(" ++ printed b ++ 41 ∷ []
printed (Or a b) = 40 ∷ printed a ++ codes ")or(" ++ printed b ++ 41 ∷ []

-- how many `(` and `not` its text has open at most
abbrev pub depth_of : Set → ℕ
depth_of (Name n) = 0
depth_of (Marked n) = 1
depth_of All = 1
depth_of (InPhase p) = 1
depth_of (Not a) = depth_of a + 2
depth_of (Ancestors a) = depth_of a + 1
depth_of (Descendants a) = depth_of a + 1
depth_of (Heads a) = depth_of a + 1
depth_of (Roots a) = depth_of a + 1
depth_of (And a b) = max (depth_of a) (depth_of b) + 1
depth_of (Or a b) = max (depth_of a) (depth_of b) + 1

abbrev pub has_quote : List ℕ → Bool
has_quote name = list_any (λ b. b == 34) name

-- no name of it has a `"`
abbrev pub IsPrintable : Set → Type 0
IsPrintable (Name n) = has_quote n ≡ false
IsPrintable (Marked n) = has_quote n ≡ false
IsPrintable All = Unit {0}
IsPrintable (InPhase p) = Unit {0}
IsPrintable (Not a) = IsPrintable a
IsPrintable (Ancestors a) = IsPrintable a
IsPrintable (Descendants a) = IsPrintable a
IsPrintable (Heads a) = IsPrintable a
IsPrintable (Roots a) = IsPrintable a
IsPrintable (And a b) = IsPrintable a × IsPrintable b
IsPrintable (Or a b) = IsPrintable a × IsPrintable b
