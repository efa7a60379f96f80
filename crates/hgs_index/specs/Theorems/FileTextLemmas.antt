-- Prefix and body of a file's text.
use Rattle.std.proofs.Common.{◌≡◌, ◌⊎◌, ℕ, List, [], ◌∷◌, ◌++◌, Bool, true, false, cond, ◌&&◌, take, drop, refl, sym, ◌∙◌, ap, subst, inl, inr, arith, append_assoc}
use Rattle.std.specs.Prelude.{Option, Some, None, option_map, ◌==◌}
use Rattle.std.proofs.lemmas.Bool.Decides.{nat_tests}
use Rattle.hgs_bytes.specs.Bytes.{begins_with}
use Rattle.hgs_bytes.specs.Theorems.ByteLemmas.{same-eq}
use Rattle.hgs_index.specs.FileText.{marker, split_at_marker, with_block, IsBlock, unpacked, prefix_of, body_of, plain_prefix}

-- the prefix that is written for a body is found again
pub unpacked-plain : (body : List ℕ) → unpacked (plain_prefix body ++ body) ≡ (plain_prefix body, body)
unpacked-plain body = by (begins_with body marker) refl
  where
    by : (b : Bool) → begins_with body marker ≡ b → unpacked (cond b (marker ++ marker) [] ++ body) ≡ (cond b (marker ++ marker) [], body)
    by true e = refl
    by false e = ap (λ b. cond b (with_block body (split_at_marker (drop 2 body))) ([], body)) e

and-left : (a b : Bool) → (a && b) ≡ true → a ≡ true
and-left true b h = refl
and-left false b h = h

and-right : (a b : Bool) → (a && b) ≡ true → b ≡ true
and-right true b h = h
and-right false b h = absurd (no_case h)
  where
    no_case : false ≡ true → ⊥
    no_case k = cc

number-same : (a b : ℕ) → (a == b) ≡ true → a ≡ b
number-same a b e = grind (arith, nat_tests)

-- what stands before the first marker, the marker, and what stands after it
abbrev Joins : List ℕ → Option (List ℕ × List ℕ) → Type 0
Joins bytes None = Unit {0}
Joins bytes (Some p) = p.0 ++ marker ++ p.1 ≡ bytes

one-more : (a : ℕ) (bytes : List ℕ) (o : Option (List ℕ × List ℕ)) → Joins bytes o → Joins (a ∷ bytes) (option_map (λ p. (a ∷ p.0, p.1)) o)
one-more a bytes None h = tt
one-more a bytes (Some p) h = ap (λ l. a ∷ l) h

split-joins : (bytes : List ℕ) → Joins bytes (split_at_marker bytes)
split-joins [] = tt
split-joins (a ∷ []) = tt
split-joins (a ∷ b ∷ bytes) = by (a == 1 && b == 10) refl (split-joins (b ∷ bytes))
  where
    by : (z : Bool) → (a == 1 && b == 10) ≡ z → Joins (b ∷ bytes) (split_at_marker (b ∷ bytes)) → Joins (a ∷ b ∷ bytes) (cond z (Some ([], bytes)) (option_map (λ p. (a ∷ p.0, p.1)) (split_at_marker (b ∷ bytes))))
    by true e h = let first : 1 ≡ a = sym (number-same a 1 (and-left (a == 1) (b == 10) e)) in let second : 10 ≡ b = sym (number-same b 10 (and-right (a == 1) (b == 10) e)) in λ i. first i ∷ second i ∷ bytes
    by false e h = one-more a (b ∷ bytes) (split_at_marker (b ∷ bytes)) h

block-joins : (text rest : List ℕ) (o : Option (List ℕ × List ℕ)) → text ≡ marker ++ rest → Joins rest o → (with_block text o).0 ++ (with_block text o).1 ≡ text
block-joins text rest None e h = refl
block-joins text rest (Some p) e h = append_assoc (marker ++ p.0) marker p.1 ∙ append_assoc marker p.0 (marker ++ p.1) ∙ ap (λ l. marker ++ l) (sym (append_assoc p.0 marker p.1) ∙ h) ∙ sym e

take-drop-two : (text : List ℕ) → take 2 text ++ drop 2 text ≡ text
take-drop-two [] = refl
take-drop-two (a ∷ []) = refl
take-drop-two (a ∷ b ∷ text) = refl

-- prefix and body are the whole text
pub unpacked-joins : (text : List ℕ) → prefix_of text ++ body_of text ≡ text
unpacked-joins text = by (begins_with text marker) refl
  where
    by : (b : Bool) → begins_with text marker ≡ b → (cond b (with_block text (split_at_marker (drop 2 text))) ([], text)).0 ++ (cond b (with_block text (split_at_marker (drop 2 text))) ([], text)).1 ≡ text
    by true e = block-joins text (drop 2 text) (split_at_marker (drop 2 text)) (sym (take-drop-two text) ∙ ap (λ l. l ++ drop 2 text) (sym (same-eq marker (take 2 text) e))) (split-joins (drop 2 text))
    by false e = refl

-- ---- a whole block

ends-in-marker : (b : Bool) (x : ℕ) (bytes rest : List ℕ) (o : Option (List ℕ × List ℕ)) → cond {A = Option (List ℕ × List ℕ)} b (Some ([], rest)) (option_map (λ p. (x ∷ p.0, p.1)) o) ≡ None → (b ≡ false) × (o ≡ None)
ends-in-marker true x bytes rest o h = cc
ends-in-marker false x bytes rest None h = (refl, refl)
ends-in-marker false x bytes rest (Some p) h = cc

-- the first marker behind bytes without one
split-over : (inner body : List ℕ) → split_at_marker inner ≡ None → split_at_marker (inner ++ marker ++ body) ≡ Some (inner, body)
split-over [] body h = refl
split-over (a ∷ []) body h = by (a == 1)
  where
    by : (b : Bool) → cond {A = Option (List ℕ × List ℕ)} (b && false) (Some ([], 10 ∷ body)) (Some (a ∷ [], body)) ≡ Some (a ∷ [], body)
    by true = refl
    by false = refl
split-over (a ∷ b ∷ inner) body h =
    let p = ends-in-marker (a == 1 && b == 10) a (b ∷ inner) inner (split_at_marker (b ∷ inner)) h in
    ap (λ z. cond {A = Option (List ℕ × List ℕ)} z (Some ([], inner ++ marker ++ body)) (option_map (λ p. (a ∷ p.0, p.1)) (split_at_marker (b ∷ inner ++ marker ++ body)))) p.0
    ∙ ap (option_map (λ p. (a ∷ p.0, p.1))) (split-over (b ∷ inner) body p.1)

block-found : (inner body : List ℕ) → split_at_marker inner ≡ None → unpacked ((marker ++ inner ++ marker) ++ body) ≡ (marker ++ inner ++ marker, body)
block-found inner body h = ap (with_block ((marker ++ inner ++ marker) ++ body)) (split-over inner body h)

-- a whole block before any body is found again
pub unpacked-block : (block body : List ℕ) → IsBlock block → unpacked (block ++ body) ≡ (block, body)
unpacked-block block body h = subst (λ l. unpacked (l ++ body) ≡ (l, body)) (sym h.2) (block-found h.0 body h.1)

-- a body without a block that does not begin with a marker is found again
pub unpacked-bare : (body : List ℕ) → begins_with body marker ≡ false → unpacked body ≡ ([], body)
unpacked-bare body e = ap (λ b. cond b (with_block body (split_at_marker (drop 2 body))) ([], body)) e

-- ---- what the prefix is

before-marker : (b : Bool) (x : ℕ) (bytes rest : List ℕ) (o : Option (List ℕ × List ℕ)) (p : List ℕ × List ℕ) → cond {A = Option (List ℕ × List ℕ)} b (Some ([], rest)) (option_map (λ q. (x ∷ q.0, q.1)) o) ≡ Some p
    → (p.0 ≡ []) ⊎ ((q : List ℕ × List ℕ) × (b ≡ false) × (o ≡ Some q) × (p.0 ≡ x ∷ q.0))
before-marker true x bytes rest o p h = inl cc
before-marker false x bytes rest None p h = cc
before-marker false x bytes rest (Some q) p h = inr (q, refl, refl, cc)

still-none : (a b : ℕ) (rest xs ys : List ℕ) → (a == 1 && b == 10) ≡ false → xs ++ marker ++ ys ≡ b ∷ rest → split_at_marker xs ≡ None → split_at_marker (a ∷ xs) ≡ None
still-none a b rest [] ys t e h = refl
still-none a b rest (c ∷ xs) ys t e h =
    let first : b ≡ c = cc in
    let test : (a == 1 && c == 10) ≡ false = ap (λ z. a == 1 && z == 10) (sym first) ∙ t in
    ap (λ z. cond {A = Option (List ℕ × List ℕ)} z (Some ([], xs)) (option_map (λ p. (a ∷ p.0, p.1)) (split_at_marker (c ∷ xs)))) test ∙ ap (option_map (λ p. (a ∷ p.0, p.1))) h

joins-of : (bytes : List ℕ) (p : List ℕ × List ℕ) → split_at_marker bytes ≡ Some p → p.0 ++ marker ++ p.1 ≡ bytes
joins-of bytes p e = subst (Joins bytes) e (split-joins bytes)

none-before : (bytes : List ℕ) (p : List ℕ × List ℕ) → split_at_marker bytes ≡ Some p → split_at_marker p.0 ≡ None
none-before [] p h = cc
none-before (a ∷ []) p h = cc
none-before (a ∷ b ∷ bytes) p h = by (before-marker (a == 1 && b == 10) a (b ∷ bytes) bytes (split_at_marker (b ∷ bytes)) p h) (λ q e. none-before (b ∷ bytes) q e)
  where
    by : (p.0 ≡ []) ⊎ ((q : List ℕ × List ℕ) × ((a == 1 && b == 10) ≡ false) × (split_at_marker (b ∷ bytes) ≡ Some q) × (p.0 ≡ a ∷ q.0))
        → ((q : List ℕ × List ℕ) → split_at_marker (b ∷ bytes) ≡ Some q → split_at_marker q.0 ≡ None) → split_at_marker p.0 ≡ None
    by (inl e) again = ap split_at_marker e
    by (inr k) again = ap split_at_marker k.3 ∙ still-none a b bytes k.0.0 k.0.1 k.1 (joins-of (b ∷ bytes) k.0 k.2) (again k.0 k.2)

-- The prefix of a text is empty or a whole block.
pub prefix-block : (text : List ℕ) → (prefix_of text ≡ []) ⊎ IsBlock (prefix_of text)
prefix-block text = by (begins_with text marker) (split_at_marker (drop 2 text)) refl
  where
    by : (b : Bool) (o : Option (List ℕ × List ℕ)) → split_at_marker (drop 2 text) ≡ o
        → ((cond {A = List ℕ × List ℕ} b (with_block text o) ([], text)).0 ≡ []) ⊎ IsBlock ((cond {A = List ℕ × List ℕ} b (with_block text o) ([], text)).0)
    by false o e = inl refl
    by true None e = inl refl
    by true (Some p) e = inr (p.0, none-before (drop 2 text) p e, refl)
