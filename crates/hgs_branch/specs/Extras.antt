-- The branch that the extras of a changeset name. (Mercurial, changelog.py, `decodeextra` and `_string_unescape`.)
use Rattle.std.specs.Prelude.{ℕ, List, [], ◌∷◌, ◌==◌, codes, drop, Option, Some, None, if◌then◌else◌}
use Rattle.std.specs.Option.{option_map}
use Rattle.hgs_bytes.specs.Bytes.{begins_with}

-- what a backslash and the byte behind it stand for: a backslash, LF, CR or NUL
abbrev pub escaped_byte : ℕ → Option ℕ
escaped_byte b = if b == 92 then Some 92 else (if b == 110 then Some 10 else (if b == 114 then Some 13 else (if b == 48 then Some 0 else None)))

abbrev pub onto_text : Option ℕ → Option (List ℕ) → Option (List ℕ)
onto_text None text = None
onto_text (Some b) text = option_map (λ bytes. b ∷ bytes) text

-- a text with what its escapes stand for; none where it has another escape
abbrev pub unescaped : List ℕ → Option (List ℕ)
unescaped [] = Some []
unescaped (a ∷ []) = if a == 92 then None else Some (a ∷ [])
unescaped (a ∷ b ∷ bytes) = if a == 92 then onto_text (escaped_byte b) (unescaped bytes) else onto_text (Some a) (unescaped (b ∷ bytes))

-- what stands before each NUL, and behind the last
abbrev pub onto_item : ℕ → List (List ℕ) → List (List ℕ)
onto_item b [] = (b ∷ []) ∷ []
onto_item b (item ∷ items) = (b ∷ item) ∷ items

abbrev pub items_of : List ℕ → List (List ℕ)
items_of [] = [] ∷ []
items_of (b ∷ bytes) = if b == 0 then [] ∷ items_of bytes else onto_item b (items_of bytes)

-- the items of a text, none where there is no text
abbrev pub items_behind : Option (List ℕ) → List (List ℕ)
items_behind None = []
items_behind (Some text) = items_of text

-- the value of an item whose key is `branch`
abbrev pub branch_value : List ℕ → Option (List ℕ)
branch_value item = if begins_with item (codes "branch:") then unescaped (drop 7 item) else None

abbrev pub or_else : Option (List ℕ) → Option (List ℕ) → Option (List ℕ)
or_else None other = other
or_else (Some value) other = Some value

-- the value of the last such item
abbrev pub last_value : List (List ℕ) → Option (List ℕ)
last_value [] = None
last_value (item ∷ items) = or_else (last_value items) (branch_value item)

-- without a value, or with an empty one, the branch is `default`
abbrev pub or_default : Option (List ℕ) → List ℕ
or_default None = codes "default"
or_default (Some []) = codes "default"
or_default (Some (b ∷ bytes)) = b ∷ bytes

abbrev pub branch_of : List ℕ → List ℕ
branch_of extras = or_default (last_value (items_of extras))
