-- Nodes and their digits.
use Rattle.std.proofs.Common.{◌≡◌, ℕ, ◌*◌, Bool, true, false, cond, List, [], ◌∷◌, length, Some, None, Result, Ok, Err, refl, sym, ◌∙◌, ap, subst, arith}
use Rattle.hex.specs.Hex.{encode_with, lower_digits, decode_sized, IsBytes}
use Rattle.hex.proofs.HexLemmas.{length-encode_with, decode_of-encode_lower, decode_of-ok, decode_sized-ok, decode_sized-twice}
use Rattle.hgs_bytes.specs.Bytes.{same}
use Rattle.hgs_bytes.specs.Text.{Lacks}
use Rattle.hgs_bytes.specs.Theorems.ByteLemmas.{same-refl, same-eq}
use Rattle.hgs_bytes.specs.Theorems.TextLemmas.{lacks-at}
use Rattle.hgs_index.specs.Hex.{hex, written_so, node_at}

some_is : {A : Type 0} (x y : A) → Some x ≡ Some y → x ≡ y
some_is x y e = cc

digits_lack : Lacks 10 lower_digits
digits_lack = (refl, (refl, (refl, (refl, (refl, (refl, (refl, (refl, (refl, (refl, (refl, (refl, (refl, (refl, (refl, (refl, tt))))))))))))))))

-- no digit is LF
pub hex_lacks : (xs : List ℕ) → Lacks 10 (hex xs)
unfolding encode_with
hex_lacks [] = tt
hex_lacks (x ∷ xs) = (lacks-at lower_digits _ digits_lack, (lacks-at lower_digits _ digits_lack, hex_lacks xs))

pub hex_length : (node : List ℕ) → length node ≡ 20 → length (hex node) ≡ 40
hex_length node l = let len = length-encode_with lower_digits node in omega (arith, len, l)

-- the digits of a node stand for it
pub node_back : (node : List ℕ) → length node ≡ 20 → IsBytes node → node_at (hex node) ≡ Some node
node_back node l b =
    let forty = hex_length node l in
    let twice : length (hex node) ≡ 2 * 20 = omega (arith, forty) in
    ap (written_so (hex node)) (decode_sized-twice (hex node) 20 twice ∙ decode_of-encode_lower node b)
    ∙ ap (λ c. cond c (Some node) None) (same-refl (hex node))

-- digits that stand for a node are its own
pub record AreDigits (digits node : List ℕ) : Type 0 where
  pub text : digits ≡ hex node
  pub len : length node ≡ 20
  pub bytes : IsBytes node

node-same : (t : Bool) (x node : List ℕ) → cond t (Some x) None ≡ Some node → (t ≡ true) × (x ≡ node)
node-same true x node e = (refl, some_is x node e)
node-same false x node e = cc

node-step : {E : Type 0} (digits : List ℕ) (r : Result (List ℕ) E) (node : List ℕ) → written_so digits r ≡ Some node → (x : List ℕ) × (r ≡ Ok x) × (same digits (hex x) ≡ true) × (x ≡ node)
node-step digits (Ok x) node e = let s = node-same (same digits (hex x)) x node e in (x, refl, s.0, s.1)
node-step digits (Err f) node e = cc

pub node_found : (digits node : List ℕ) → node_at digits ≡ Some node → AreDigits digits node
node_found digits node e =
    let s = node-step digits (decode_sized digits 20) node e in
    let len = decode_sized-ok digits 20 s.0 s.1 in
    let text : digits ≡ hex s.0 = same-eq digits (hex s.0) s.2 in
    let whole = decode_of-ok digits s.0 (sym (decode_sized-twice digits 20 len) ∙ s.1) in
    let P : List ℕ → Type 0 = λ n. AreDigits digits n in
    subst P s.3 (record { text = text; len = (let k = whole.2 in omega (arith, len, k)); bytes = whole.3 })
