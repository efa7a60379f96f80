-- Which names a bookmark can have.
use Rattle.std.specs.Prelude.{◌==◌, ◌&&◌, ◌||◌, ◌-◌, ℕ, Bool, not, nat_le, List, [], ◌∷◌, length, codes, slice_index}
use Rattle.std.specs.List.{list_any, list_all}
use Rattle.std.specs.Str.{is_utf8}
use Rattle.hgs_bytes.specs.Bytes.{among}

-- names that stand for a revision
abbrev pub reserved_names : List (List ℕ)
reserved_names = codes "tip" ∷ codes "." ∷ codes "null" ∷ []

-- `:`, NUL, LF and CR
abbrev pub is_name_end : ℕ → Bool
is_name_end b = b == 58 || b == 0 || b == 10 || b == 13

abbrev pub is_digit : ℕ → Bool
is_digit b = nat_le 48 b && nat_le b 57

-- whether a name that is not empty has a space at either end
abbrev pub ends_in_space : List ℕ → Bool
ends_in_space name = slice_index name 0 == 32 || slice_index name (length name - 1) == 32

-- 1 to 255 bytes, not reserved, without `:`, NUL, LF and CR, not digits alone, without a space at either end, UTF-8
abbrev pub is_mark_name : List ℕ → Bool
is_mark_name name =
    not (length name == 0) && nat_le (length name) 255 && not (among name reserved_names) && not (list_any is_name_end name)
    && not (list_all is_digit name) && not (ends_in_space name) && is_utf8 name
