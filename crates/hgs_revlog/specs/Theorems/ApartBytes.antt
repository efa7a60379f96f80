-- What an index of bytes is taken apart into are bytes.
use Rattle.std.proofs.Common.{ℕ, zero, suc, ◌+◌, Bool, true, false, cond, List, [], ◌∷◌, ◌++◌, length, take, drop, arith}
use Rattle.hex.specs.Hex.{IsBytes}
use Rattle.hgs_index.specs.Entry.{number_at}
use Rattle.hgs_index.specs.Inline.{entries_in, index_apart, is_cut, is_inline, without_inline}
use Rattle.hgs_revlog.specs.Theorems.ReadLemmas.{bytes_drop, bytes_take}

bytes-append : (xs ys : List ℕ) → IsBytes xs → IsBytes ys → IsBytes (xs ++ ys)
bytes-append [] ys a b i = b i
bytes-append (x ∷ xs) ys a b zero = a 0
bytes-append (x ∷ xs) ys a b (suc i) = bytes-append xs ys (λ k. a (suc k)) b i

bytes-none : IsBytes []
bytes-none i = omega arith

entries-bytes : (n : ℕ) (bytes : List ℕ) → IsBytes bytes → IsBytes (entries_in n bytes)
entries-bytes zero bytes are = bytes-none
entries-bytes (suc n) bytes are = by (is_cut bytes) (entries-bytes n (drop (64 + number_at 8 bytes) bytes) (bytes_drop (64 + number_at 8 bytes) bytes are))
  where
    by : (b : Bool) → IsBytes (entries_in n (drop (64 + number_at 8 bytes) bytes)) → IsBytes (cond b (take 63 bytes) (take 64 bytes ++ entries_in n (drop (64 + number_at 8 bytes) bytes)))
    by true more = bytes_take 63 bytes are
    by false more = bytes-append (take 64 bytes) (entries_in n (drop (64 + number_at 8 bytes) bytes)) (bytes_take 64 bytes are) more

cleared-bytes : (bytes : List ℕ) → IsBytes bytes → IsBytes (without_inline bytes)
cleared-bytes [] are i = are i
cleared-bytes (a ∷ []) are i = are i
cleared-bytes (a ∷ b ∷ bytes) are zero = are 0
cleared-bytes (a ∷ b ∷ bytes) are (suc zero) = let small = are 1 in omega (arith, small)
cleared-bytes (a ∷ b ∷ bytes) are (suc (suc i)) = are (suc (suc i))

pub apart-bytes : (index : List ℕ) → IsBytes index → IsBytes (index_apart index)
apart-bytes index are = by (is_inline index)
  where
    by : (b : Bool) → IsBytes (cond b (without_inline (entries_in (length index) index)) index)
    by true = cleared-bytes (entries_in (length index) index) (entries-bytes (length index) index are)
    by false = are
