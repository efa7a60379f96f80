-- Names that clash with those of two lists.
use Rattle.std.proofs.Common.{◌≡◌, ◌⊎◌, ℕ, List, [], ◌∷◌, Bool, true, false, ◌||◌, Option, Some, None, Result, Ok, Err, inl, inr, refl, sym, ◌∙◌, ap}
use Rattle.std.specs.Prelude.{Vec}
use Rattle.std.specs.Option.{option_map}
use Rattle.std.specs.Result.{IfOk}
use Rattle.std.specs.declared.alloc.AllocError.{AllocError}
use Rattle.std.specs.declared.alloc.Global.{Global}
use Rattle.hex.specs.Hex.{IsBytes}
use Rattle.hgs_bytes.specs.Bytes.{same}
use Rattle.hgs_path.specs.declared.name.Ext.{Ext}
use Rattle.hgs_path.specs.declared.name.Ext.TheVariants.{I, D}
use Rattle.hgs_path.specs.Fncache.{IsClash, clashes, is_path_of, with_both}
use Rattle.hgs_commit.specs.Obstacles.{either_list, with_all}

-- ---- one of two lists

four : (a b c d : Bool) → ((a || c) || (b || d)) ≡ ((a || b) || (c || d))
four true b c d = refl
four false true true d = refl
four false true false d = refl
four false false c d = refl

or-true : (b : Bool) → (b || true) ≡ true
or-true true = refl
or-true false = refl

or-false : (b : Bool) → (b || false) ≡ b
or-false true = refl
or-false false = refl

or-assoc : (a b c : Bool) → (a || (b || c)) ≡ ((a || b) || c)
or-assoc true b c = refl
or-assoc false b c = refl

or-either : (a b : Bool) → (a || b) ≡ true → (a ≡ true) ⊎ (b ≡ true)
or-either true b h = inl refl
or-either false b h = inr h

module _ (files more : List ℕ → Ext → Bool) where
  of-either : (path : List ℕ) → is_path_of (either_list files more) path ≡ (is_path_of files path || is_path_of more path)
  of-either path = four (files path I) (files path D) (more path I) (more path D)

  clash-second : (path : List ℕ) (found : Option (List ℕ)) → IsClash files path None → IsClash more path found → IsClash (either_list files more) path found
  clash-second path (Some other) unlisted h = (of-either other ∙ ap (λ b. is_path_of files other || b) h.0 ∙ or-true (is_path_of files other), h.1)
  clash-second path None unlisted h = λ other bytes listed. by other bytes (or-either (is_path_of files other) (is_path_of more other) (sym (of-either other) ∙ listed))
    where
      by : (other : List ℕ) → IsBytes other → (is_path_of files other ≡ true) ⊎ (is_path_of more other ≡ true) → clashes path other ≡ false
      by other bytes (inl e) = unlisted other bytes e
      by other bytes (inr e) = h other bytes e

  pub clash-either : (path : List ℕ) (r : Result (Option (Vec ℕ Global)) AllocError) → IsClash files path None → IfOk r (λ found. IsClash more path (option_map (λ p. p.items) found)) → IfOk r (λ found. IsClash (either_list files more) path (option_map (λ p. p.items) found))
  clash-either path (Ok found) unlisted h = clash-second path (option_map (λ p. p.items) found) unlisted h
  clash-either path (Err e) unlisted h = h

-- ---- lists that grow

pub either-none : (files more : List ℕ → Ext → Bool) → more ≡ (λ path ext. false) → either_list files more ≡ files
either-none files more none = ap (either_list files) none ∙ (λ i q x. or-false (files q x) i)

pub either-all : (files more : List ℕ → Ext → Bool) (paths : List (List ℕ)) → either_list files (with_all more paths) ≡ with_all (either_list files more) paths
either-all files more [] = refl
either-all files more (p ∷ paths) =
    either-all files (with_both more p) paths
    ∙ ap (λ (l : List ℕ → Ext → Bool). with_all l paths) (λ i q x. or-assoc (files q x) (more q x) (same q p) i)
