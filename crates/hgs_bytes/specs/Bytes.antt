-- Words on lists of bytes that every crate uses.
use Rattle.std.specs.Prelude.{◌≡◌, ◌==◌, ℕ, List, ◌++◌, Bool, length, take}
use Rattle.std.specs.List.{list_any}
use Rattle.std.specs.Cmp.Lexicographic.{pointwise, slice_cmp}
use Rattle.std.specs.Ordering.{nat_cmp, is_lt}

-- whether two texts are the same
abbrev pub same : List ℕ → List ℕ → Bool
same = pointwise ◌==◌

-- whether a text stands in a list of texts
abbrev pub among : List ℕ → List (List ℕ) → Bool
among x xs = list_any (same x) xs

-- the order of bytes: by the first that differs, then by length
abbrev pub is_below : List ℕ → List ℕ → Bool
is_below x y = is_lt (slice_cmp nat_cmp x y)

-- whether a text begins with another
abbrev pub begins_with : List ℕ → List ℕ → Bool
begins_with text front = same front (take (length front) text)

-- the list begins with the other
abbrev pub IsPrefixOf : {A : Type 0} → List A → List A → Type 0
IsPrefixOf {A} front list = (rest : List A) × (list ≡ front ++ rest)
