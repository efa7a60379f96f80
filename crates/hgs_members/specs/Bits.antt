-- Marks as bits, 64 to a word.
use Rattle.std.specs.Prelude.{ℕ, ◌+◌, ◌/◌, ◌%◌, ◌==◌, Bool, List, map, slice_index_or}
use Rattle.std.specs.Int.{bit_at}
use Rattle.std.specs.List.{range_with_len}

-- bit n of the words, counted from the lowest bit of the first
abbrev pub bit_of : List ℕ → ℕ → Bool
bit_of words n = bit_at (slice_index_or words (n / 64) 0) (n % 64) == 1

-- the first of the bits, so many
unfoldable pub bits_of : List ℕ → ℕ → List Bool
bits_of words count = map (bit_of words) (range_with_len 0 count)

-- as many words as so many bits take
abbrev pub words_for : ℕ → ℕ
words_for count = (count + 63) / 64
