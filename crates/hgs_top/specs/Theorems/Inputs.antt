-- What is looked at of an input.
use Rattle.std.proofs.Common.{◌≡◌, ◌⊎◌, inl, inr, true, false, ℕ, ◌+◌, ◌<◌, ◌≤◌, List, ◌++◌, length, take, drop, sym, ◌∙◌, ap, arith}
use Rattle.std.proofs.lemmas.List.{take_all, take-append-drop, length-take}
use Rattle.std.proofs.Math.Dec.{leb}
use Rattle.std.proofs.lemmas.Bool.Decides.{leb_tells}
use Rattle.hgs_input.specs.Record.{most_input}

-- what is looked at of an input decides what it is read as
pub looked_at_decides : {A : Type 0} (read : List ℕ → A) → ((front more : List ℕ) → most_input < length front → read (front ++ more) ≡ read front) → (bytes : List ℕ) → read (take (most_input + 1) bytes) ≡ read bytes
looked_at_decides read long bytes = by (leb_tells (length bytes) (most_input + 1))
  where
    by : ((leb (length bytes) (most_input + 1) ≡ true) × (length bytes ≤ most_input + 1)) ⊎ ((leb (length bytes) (most_input + 1) ≡ false) × (most_input + 1 < length bytes)) → read (take (most_input + 1) bytes) ≡ read bytes
    by (inl few) = ap read (take_all (most_input + 1) bytes few.1)
    by (inr many) =
        let l = length-take (most_input + 1) bytes in
        let some = many.1 in
        sym (ap read (sym (take-append-drop (most_input + 1) bytes)) ∙ long (take (most_input + 1) bytes) (drop (most_input + 1) bytes) (omega (arith, l, some)))
