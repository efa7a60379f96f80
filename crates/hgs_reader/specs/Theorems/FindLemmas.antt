-- Entries and their nodes among the bytes of an index.
use Rattle.std.proofs.Common.{◌≡◌, ℕ, zero, suc, ◌-◌, ◌/◌, ◌<◌, ◌≤◌, List, [], ◌∷◌, take, drop, length, Bool, true, false, ◌||◌, refl, sym, ◌∙◌, ap, arith}
use Rattle.std.proofs.lemmas.List.{drop-take, length-drop}
use Rattle.hgs_bytes.specs.Bytes.{same}
use Rattle.hgs_reader.specs.Find.{has_node}

one_more : (n : ℕ) → 64 ≤ n → n / 64 ≡ suc ((n - 64) / 64)
one_more n h = omega arith

no_more : (n : ℕ) → n < 64 → n / 64 ≡ 0
no_more n h = omega arith

none : (n : ℕ) → suc n ≤ 0 → ⊥
none n h = omega (arith, h)

pub take_less : (n m : ℕ) (xs : List ℕ) → n ≤ m → take n (take m xs) ≡ take n xs
take_less zero m xs h = refl
take_less (suc n) zero xs h = absurd (none n h)
take_less (suc n) (suc m) [] h = refl
take_less (suc n) (suc m) (x ∷ xs) h = ap (λ l. x ∷ l) (take_less n m xs (omega (arith, h)))

-- whether a whole entry of these bytes has the node
abbrev pub node_in : List ℕ → List ℕ → Bool
node_in node bytes = has_node node (length bytes / 64) bytes

-- the node of the first entry
pub front_node : (bytes entry : List ℕ) → entry ≡ take 64 bytes → take 20 (drop 32 entry) ≡ take 20 (drop 32 bytes)
front_node bytes entry e = ap (λ l. take 20 (drop 32 l)) e ∙ ap (take 20) (drop-take 32 32 bytes) ∙ take_less 20 32 (drop 32 bytes) (omega arith)

step : (node bytes entry : List ℕ) → 64 ≤ length bytes → entry ≡ take 64 bytes → node_in node bytes ≡ (same (take 20 (drop 32 entry)) node || node_in node (drop 64 bytes))
step node bytes entry h e =
    ap (λ n. has_node node n bytes) (one_more (length bytes) h ∙ ap (λ n. suc (n / 64)) (sym (length-drop 64 bytes)))
    ∙ ap (λ l. same l node || node_in node (drop 64 bytes)) (sym (front_node bytes entry e))

pub node_here : (node bytes entry : List ℕ) → 64 ≤ length bytes → entry ≡ take 64 bytes → same (take 20 (drop 32 entry)) node ≡ true → node_in node bytes ≡ true
node_here node bytes entry h e n = step node bytes entry h e ∙ ap (λ b. b || node_in node (drop 64 bytes)) n

pub node_behind : (node bytes entry behind : List ℕ) → 64 ≤ length bytes → entry ≡ take 64 bytes → behind ≡ drop 64 bytes → same (take 20 (drop 32 entry)) node ≡ false → node_in node behind ≡ node_in node bytes
node_behind node bytes entry behind h e d n = ap (node_in node) d ∙ sym (step node bytes entry h e ∙ ap (λ b. b || node_in node (drop 64 bytes)) n)

pub no_node : (node bytes : List ℕ) → length bytes < 64 → node_in node bytes ≡ false
no_node node bytes h = ap (λ n. has_node node n bytes) (no_more (length bytes) h)
