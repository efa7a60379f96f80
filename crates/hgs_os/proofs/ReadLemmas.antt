-- Bytes that are read into the end of a list.
use Rattle.std.proofs.Common.{◌≡◌, ℕ, ◌+◌, ◌≤◌, List, ◌++◌, take, length, sym, ◌∙◌, ap, arith}
use Rattle.std.proofs.Math.Seq.{take-append-add, take-length}
use Rattle.std.proofs.lemmas.List.{append_assoc, length-take, take-append-le, take-take}

-- what is cut behind the bytes that came is what stood before, and these
pub read-front : (start count n : ℕ) (old now piece post rest : List ℕ) → take start now ≡ old → length old ≡ start → count ≤ length piece → start + count ≤ n → take (start + count) (take n (take start now ++ (piece ++ post) ++ rest)) ≡ old ++ take count piece
read-front start count n old now piece post rest front size few within =
    take-take (start + count) n (take start now ++ (piece ++ post) ++ rest) within
    ∙ ap (λ l. take (start + count) (l ++ (piece ++ post) ++ rest)) front
    ∙ ap (λ k. take (k + count) (old ++ (piece ++ post) ++ rest)) (sym size)
    ∙ ap (take (length old + count)) (append_assoc old (piece ++ post) rest)
    ∙ take-append-add old (piece ++ post ++ rest) count
    ∙ ap (λ l. old ++ take count l) (append_assoc piece post rest)
    ∙ ap (λ l. old ++ l) (take-append-le count piece (post ++ rest) few)

-- what stood before is the front of it with more behind
pub old-front : (start n : ℕ) (old more now : List ℕ) → now ≡ take n old ++ more → length old ≡ start → start ≤ n → take start now ≡ old
old-front start n old more now is size most =
    ap (take start) is
    ∙ take-append-le start (take n old) more (let a = length-take n old in omega (arith, a))
    ∙ take-take start n old most
    ∙ ap (λ k. take k old) (sym size)
    ∙ take-length old
