-- What a read takes from a source.
use Rattle.std.proofs.Common.{◌≡◌, ℕ, ◌+◌, min, List, [], ◌∷◌, ◌++◌, length, take, drop, refl, sym, ◌∙◌, ap, arith}
use Rattle.std.specs.Prelude.{Some}
use Rattle.std.proofs.lemmas.List.{take_min, drop-drop, length-take, take-append-drop}
use Rattle.hgs_files.specs.Streams.{IsTaken}

no_length : (xs : List ℕ) → length xs ≡ 0 → xs ≡ []
no_length [] e = refl
no_length (x ∷ xs) e = absurd (omega (arith, e))

pub taken : (bytes front : List ℕ) (at most k : ℕ) → front ≡ take most (drop at bytes) → k ≡ length front → IsTaken (Some (drop at bytes)) (Some (drop (at + k) bytes)) most front
taken bytes front at most k e n =
    let d : List ℕ = drop at bytes in
    let size : k ≡ min most (length d) = n ∙ ap length e ∙ length-take most d in (
      drop (at + k) bytes,
      refl,
      sym (ap (λ (f : List ℕ). f ++ drop (at + k) bytes) (e ∙ sym (take_min most d) ∙ ap (λ (i : ℕ). take i d) (sym size)) ∙ ap (λ (r : List ℕ). take k d ++ r) (sym (drop-drop k at bytes)) ∙ take-append-drop k d),
      λ some none. no_length d (omega (arith, size, n, ap length none)),
    )
