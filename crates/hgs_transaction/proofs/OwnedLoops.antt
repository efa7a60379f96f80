-- Loops over the items of a vector that they take over, and lists that grow at their end.
use Rattle.std.proofs.Common.{◌≡◌, ◌+◌, List, [], ◌∷◌, ◌++◌, length, refl, sym, ◌∙◌, ap, append_assoc, append-nil, arith, length-append}
use Rattle.std.specs.List.{AllByRecursion}

pub nothing-left : {X : Type 0} (l : List X) → length l ≡ 0 → l ≡ []
nothing-left [] h = refl
nothing-left (x ∷ xs) h = absurd (omega arith)

-- one more item at the end
pub moved : {X : Type 0} (old new rest items whole : List X) (x : X) → items ≡ x ∷ rest → new ≡ old ++ x ∷ [] → old ++ items ≡ whole → new ++ rest ≡ whole
moved old new rest items whole x steps pushed inv = ap (λ l. l ++ rest) pushed ∙ append_assoc old (x ∷ []) rest ∙ ap (λ l. old ++ l) (sym steps) ∙ inv

pub ended : {X : Type 0} (old new items all more : List X) → items ≡ [] → new ++ items ≡ old ++ all → all ≡ more → new ≡ old ++ more
ended old new items all more none inv gives = sym (append-nil new) ∙ ap (λ l. new ++ l) (sym none) ∙ inv ∙ ap (λ l. old ++ l) gives

-- what was added in two steps
pub joined : {X : Type 0} (old mid new a b : List X) → mid ≡ old ++ a → new ≡ mid ++ b → new ≡ old ++ (a ++ b)
joined old mid new a b m n = n ∙ ap (λ l. l ++ b) m ∙ append_assoc old a b

pub middle : {X : Type 0} (P : X → Type 0) (xs ys : List X) (x : X) → AllByRecursion P (xs ++ x ∷ ys) → P x
middle P [] ys x h = h.0
middle P (y ∷ xs) ys x h = middle P xs ys x h.1

pub made : {X : Type 0} (o0 o1 o2 o3 o4 o5 puts texts : List X) (l j n : X) → o0 ≡ [] → o1 ≡ o0 ++ puts → o2 ≡ o1 ++ texts → o3 ≡ o2 ++ l ∷ [] → o4 ≡ o3 ++ j ∷ [] → o5 ≡ o4 ++ n ∷ [] → o5 ≡ (puts ++ texts) ++ l ∷ j ∷ n ∷ []
made o0 o1 o2 o3 o4 o5 puts texts l j n e0 e1 e2 e3 e4 e5 =
    e5 ∙ ap (λ o. o ++ n ∷ []) (e4 ∙ ap (λ o. o ++ j ∷ []) (e3 ∙ ap (λ o. o ++ l ∷ []) (e2 ∙ ap (λ o. o ++ texts) (e1 ∙ ap (λ o. o ++ puts) e0))))
    ∙ append_assoc ((puts ++ texts) ++ l ∷ []) (j ∷ []) (n ∷ [])
    ∙ append_assoc (puts ++ texts) (l ∷ []) (j ∷ n ∷ [])

pub made-length : {X : Type 0} (o puts texts : List X) (l j n : X) → o ≡ (puts ++ texts) ++ l ∷ j ∷ n ∷ [] → length o ≡ length puts + length texts + 3
made-length o puts texts l j n e =
    let whole = ap (λ l. length l) e in
    let both = length-append puts texts in
    let all = length-append (puts ++ texts) (l ∷ j ∷ n ∷ []) in
    omega arith
