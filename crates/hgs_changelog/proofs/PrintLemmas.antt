-- A date line, part by part.
use Rattle.std.proofs.Common.{◌≡◌, ℕ, List, [], ◌∷◌, ◌++◌, ◌∙◌, ap, append_assoc}

pub date_joined : (old s z a b c d : List ℕ) → a ≡ old ++ s → b ≡ a ++ 32 ∷ [] → c ≡ b ++ z → d ≡ c ++ 10 ∷ [] → d ≡ old ++ ((s ++ 32 ∷ z) ++ 10 ∷ [])
date_joined old s z a b c d ea eb ec ed =
    let behind : b ≡ old ++ (s ++ 32 ∷ []) = eb ∙ ap (λ l. l ++ 32 ∷ []) ea ∙ append_assoc old s (32 ∷ []) in
    let all : c ≡ old ++ (s ++ 32 ∷ z) = ec ∙ ap (λ l. l ++ z) behind ∙ append_assoc old (s ++ 32 ∷ []) z ∙ ap (λ l. old ++ l) (append_assoc s (32 ∷ []) z) in
    ed ∙ ap (λ l. l ++ 10 ∷ []) all ∙ append_assoc old (s ++ 32 ∷ z) (10 ∷ [])
