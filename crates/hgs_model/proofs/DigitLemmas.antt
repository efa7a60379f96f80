-- A name that is the digits of a node.
use Rattle.std.proofs.Common.{◌≡◌, ℕ, suc, ◌+◌, List, [], ◌∷◌, Bool, true, false, cond, not, nat_lt, length, Option, Some, None, refl, sym, ◌∙◌, ap, arith}
use Rattle.std.specs.Prelude.{position}
use Rattle.std.specs.List.{AllByRecursion, position_or_len}
use Rattle.std.proofs.lemmas.Bool.Decides.{nat_tests}
use Rattle.hgs_bytes.specs.Bytes.{same}
use Rattle.hgs_bytes.specs.Theorems.ByteLemmas.{same-refl, same-eq}
use Rattle.hgs_index.specs.Hex.{hex, node_at}
use Rattle.hgs_index.specs.Node.{IsNode}
use Rattle.hgs_index.specs.Theorems.HexText.{node_back, node_found}
use Rattle.hgs_model.specs.Names.{place_in, node_named}
use Rattle.hgs_model.specs.Theorems.ListLemmas.{never, none-some, some-same}

places-same : {A : Type 0} (p q : A → Bool) (xs : List A) → AllByRecursion (λ x. p x ≡ q x) xs → position_or_len p xs ≡ position_or_len q xs
places-same p q [] all = refl
places-same p q (x ∷ xs) all = ap (λ b. cond (not b) (1 + position_or_len p xs) 0) all.0 ∙ ap (λ n. cond (not (q x)) (1 + n) 0) (places-same p q xs all.1)

position-same : {A : Type 0} (p q : A → Bool) (xs : List A) → AllByRecursion (λ x. p x ≡ q x) xs → position p xs ≡ position q xs
position-same p q xs all = ap (λ n. cond (nat_lt n (length xs)) (Some n) None) (places-same p q xs all)

no-place : {A : Type 0} (xs : List A) → position_or_len (λ (x : A). false) xs ≡ length xs
no-place [] = refl
no-place (x ∷ xs) = ap (λ n. 1 + n) (no-place xs) ∙ next (length xs)
  where
    next : (n : ℕ) → 1 + n ≡ suc n
    next n = omega arith

no-position : {A : Type 0} (xs : List A) → position (λ (x : A). false) xs ≡ None
no-position xs = ap (λ n. cond (nat_lt n (length xs)) (Some n) None) (no-place xs) ∙ ap (λ b. cond b (Some (length xs)) None) (not-below (length xs))
  where
    not-below : (n : ℕ) → nat_lt n n ≡ false
    not-below n = grind (arith, nat_tests)

known-node : (node name : List ℕ) → IsNode node → same (hex node) name ≡ true → node_at name ≡ Some node
known-node node name is e = ap node_at (sym (same-eq (hex node) name e)) ∙ node_back node is.size is.bytes

when-none : (name : List ℕ) (known : List (List ℕ)) → node_at name ≡ None → AllByRecursion IsNode known → AllByRecursion (λ node. same (hex node) name ≡ false) known
when-none name [] none all = tt
when-none name (node ∷ known) none all = (by (same (hex node) name) refl, when-none name known none all.1)
  where
    by : (b : Bool) → same (hex node) name ≡ b → same (hex node) name ≡ false
    by true e = none-some node (sym none ∙ known-node node name all.0 e)
    by false e = e

when-some : (name n : List ℕ) (known : List (List ℕ)) → node_at name ≡ Some n → AllByRecursion IsNode known → AllByRecursion (λ node. same (hex node) name ≡ same node n) known
when-some name n [] some all = tt
when-some name n (node ∷ known) some all = (by (same (hex node) name) refl (same node n) refl, when-some name n known some all.1)
  where
    by : (a : Bool) → same (hex node) name ≡ a → (b : Bool) → same node n ≡ b → same (hex node) name ≡ same node n
    by true e true f = e ∙ sym f
    by false e false f = e ∙ sym f
    by true e false f = never (sym (ap (same node) (sym (some-same n node n (sym (known-node node name all.0 e) ∙ some))) ∙ same-refl node) ∙ f)
    by false e true f = never (sym (ap (λ x. same (hex x) name) (same-eq node n f) ∙ ap (same (hex n)) sym_digits ∙ same-refl (hex n)) ∙ e)
      where
        sym_digits : name ≡ hex n
        sym_digits = (node_found name n some).text

pub digits-name : (known : List (List ℕ)) (name : List ℕ) → AllByRecursion IsNode known → node_named known name ≡ position (λ node. same (hex node) name) known
digits-name known name all = by (node_at name) refl
  where
    by : (o : Option (List ℕ)) → node_at name ≡ o → place_in known o ≡ position (λ node. same (hex node) name) known
    by None e = sym (position-same (λ node. same (hex node) name) (λ node. false) known (when-none name known e all) ∙ no-position known)
    by (Some n) e = sym (position-same (λ node. same (hex node) name) (λ node. same node n) known (when-some name n known e all))
