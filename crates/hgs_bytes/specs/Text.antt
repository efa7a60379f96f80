-- Texts as lines and as parts between separators.
use Rattle.std.specs.Prelude.{◌≡◌, ◌⊎◌, ◌==◌, ◌&&◌, ℕ, List, [], ◌∷◌, ◌++◌, Bool, true, false, Option, Some, None, if◌then◌else◌, flat_map}
use Rattle.std.specs.Option.{option_map}
use Rattle.hgs_bytes.specs.Bytes.{is_below}

-- what stands before the first such byte, and behind it
abbrev pub split : ℕ → List ℕ → Option (List ℕ × List ℕ)
split byte [] = None
split byte (b ∷ bytes) = if b == byte then Some ([], bytes) else option_map (λ x. (b ∷ x.0, x.1)) (split byte bytes)

-- what stands before the first place where these two bytes stand side by side, and behind them
abbrev pub split_at_two : ℕ → ℕ → List ℕ → Option (List ℕ × List ℕ)
split_at_two a b [] = None
split_at_two a b (x ∷ []) = None
split_at_two a b (x ∷ y ∷ bytes) = if x == a && y == b then Some ([], bytes) else option_map (λ p. (x ∷ p.0, p.1)) (split_at_two a b (y ∷ bytes))

-- no such byte stands in it
abbrev pub Lacks : ℕ → List ℕ → Type 0
Lacks byte [] = Unit {0}
Lacks byte (b ∷ bytes) = ((b == byte) ≡ false) × Lacks byte bytes

-- a line's bytes, and whether an LF ends it
abbrev pub Line : Type 0
Line = List ℕ × Bool

-- one more byte before the first line
abbrev pub onto : ℕ → List Line → List Line
onto b [] = (b ∷ [], false) ∷ []
onto b (l ∷ ls) = (b ∷ l.0, l.1) ∷ ls

-- the lines of a text; after the last LF nothing is no line
abbrev pub lines_of : List ℕ → List Line
lines_of [] = []
lines_of (b ∷ bytes) = if b == 10 then ([], true) ∷ lines_of bytes else onto b (lines_of bytes)

-- an item with its LF, and each of a list with its LF
abbrev pub line : List ℕ → List ℕ
line item = item ++ 10 ∷ []

abbrev pub lines : List (List ℕ) → List ℕ
lines items = flat_map line items

-- the bytes are the text, or the text without its last LF
abbrev pub MayLackLastLf : List ℕ → List ℕ → Type 0
MayLackLastLf text bytes = (bytes ≡ text) ⊎ (text ≡ bytes ++ 10 ∷ [])

-- each item is below the next in the order of bytes
abbrev pub ascends : List (List ℕ) → Bool
ascends [] = true
ascends (x ∷ []) = true
ascends (x ∷ y ∷ items) = is_below x y && ascends (y ∷ items)
