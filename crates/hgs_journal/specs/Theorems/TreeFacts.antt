-- Files at paths, by the test of equal bytes.
use Rattle.std.proofs.Common.{◌≡◌, ◌⊎◌, ℕ, Bool, true, false, List, [], refl, sym, ◌∙◌, ap, inl, inr, Option, unwrap_or}
use Rattle.hgs_bytes.specs.Bytes.{same}
use Rattle.hgs_bytes.specs.Theorems.ByteLemmas.{same-eq, same-refl}
use Rattle.hgs_files.specs.Tree.{Tree, same_path, bytes_at, with_file}
use Rattle.hgs_files.specs.Theorems.TreeLemmas.{same_path-eq, with_file-same, with_file-other}

pub bool : (b : Bool) → (b ≡ true) ⊎ (b ≡ false)
bool true = inl refl
bool false = inr refl

pub never : {A : Type 0} → true ≡ false → A
never e = cc

-- two paths that a test tells apart
pub apart : (test : List ℕ → Bool) (p q : List ℕ) → test p ≡ true → test q ≡ false → same p q ≡ false
apart test p q a b = elim (bool (same p q)) [
  | inl e ↦ never (sym a ∙ ap test (same-eq p q e) ∙ b)
  | inr e ↦ e
]

pub same-sym : (p q : List ℕ) → same p q ≡ false → same q p ≡ false
same-sym p q e = elim (bool (same q p)) [
  | inl h ↦ never (sym (same-refl p) ∙ ap (same p) (sym (same-eq q p h)) ∙ e)
  | inr h ↦ h
]

-- a tree's test of paths is that of bytes
pub other-path : (p q : List ℕ) → same p q ≡ false → same_path p q ≡ false
other-path p q e = elim (bool (same_path p q)) [
  | inl h ↦ never (sym (same-refl p) ∙ ap (same p) (same_path-eq p q h) ∙ e)
  | inr h ↦ h
]

pub at : (t : Tree) (p q : List ℕ) (x : Option (List ℕ)) → same p q ≡ true → with_file t p x q ≡ x
at t p q x e = ap (with_file t p x) (sym (same-eq p q e)) ∙ with_file-same t p x

pub away : (t : Tree) (p q : List ℕ) (x : Option (List ℕ)) → same p q ≡ false → with_file t p x q ≡ t q
away t p q x e = with_file-other t p q x (other-path p q e)

pub bytes-same : (t u : Tree) (p : List ℕ) → u p ≡ t p → bytes_at u p ≡ bytes_at t p
bytes-same t u p e = ap (λ f. unwrap_or f []) e
