-- Files in parts.
use Rattle.std.proofs.Common.{◌≡◌, ℕ, zero, suc, ◌<◌, ◌==◌, Bool, true, false, List, [], ◌∷◌, ◌++◌, length, get_or, set, Option, None, Result, Ok, Err, OnErr, refl, sym, ap, ◌∙◌, arith}
use Rattle.std.proofs.lemmas.Bool.Decides.{nat_tests}
use Rattle.std.specs.List.{AllZip}
use Rattle.std.specs.Arc.{arc_value}
use Rattle.hgs_files.specs.Tree.{Tree, same_path, with_file}
use Rattle.hgs_files.specs.Theorems.TreeLemmas.{same_path-eq}
use Rattle.hgs_mem.specs.declared.shard.Shard.{Shard}
use Rattle.hgs_mem.specs.Shard.{files_in, no_files, found, shard_of}

-- the tree of these parts
abbrev pub tree_in : List Shard → Tree
tree_in ss path = found ss (shard_of path) path

pub found_at : (ss : List Shard) (k : ℕ) (d : Shard) (path : List ℕ) → k < length ss → found ss k path ≡ files_in (get_or ss k d) path
found_at [] k d path lt = absurd (omega (arith, lt))
found_at (s ∷ ss) zero d path lt = refl
found_at (s ∷ ss) (suc k) d path lt = found_at ss k d path (omega (arith, lt))

pub found_beyond : (ss : List Shard) (k : ℕ) (path : List ℕ) → (k < length ss → ⊥) → found ss k path ≡ None
found_beyond [] k path h = refl
found_beyond (s ∷ ss) zero path h = absurd (h (omega arith))
found_beyond (s ∷ ss) (suc k) path h = found_beyond ss k path (λ lt. h (omega (arith, lt)))

found_set : (ss : List Shard) (k : ℕ) (s : Shard) (path : List ℕ) → k < length ss → found (set ss k s) k path ≡ files_in s path
found_set [] k s path lt = absurd (omega (arith, lt))
found_set (t ∷ ss) zero s path lt = refl
found_set (t ∷ ss) (suc k) s path lt = found_set ss k s path (omega (arith, lt))

found_other : (ss : List Shard) (k j : ℕ) (s : Shard) (path : List ℕ) → (k ≡ j → ⊥) → found (set ss k s) j path ≡ found ss j path
found_other [] k j s path ne = refl
found_other (t ∷ ss) zero zero s path ne = absurd (ne refl)
found_other (t ∷ ss) zero (suc j) s path ne = refl
found_other (t ∷ ss) (suc k) zero s path ne = refl
found_other (t ∷ ss) (suc k) (suc j) s path ne = found_other ss k j s path (λ e. ne (ap suc e))

found_clones : (ss ts : List Shard) (k : ℕ) (path : List ℕ) → AllZip (λ (s t : Shard). arc_value t.files ≡ arc_value s.files) ss ts → found ts k path ≡ found ss k path
found_clones [] [] k path h = refl
found_clones [] (t ∷ ts) k path h = absurd h
found_clones (s ∷ ss) [] k path h = absurd h
found_clones (s ∷ ss) (t ∷ ts) zero path h = let same : arc_value t.files ≡ arc_value s.files = h.0 in cc same
found_clones (s ∷ ss) (t ∷ ts) (suc k) path h = found_clones ss ts k path h.1

pub clones : (ss ts : List Shard) → AllZip (λ (s t : Shard). arc_value t.files ≡ arc_value s.files) ss ts → tree_in ts ≡ tree_in ss
clones ss ts h = λ i path. found_clones ss ts (shard_of path) path h i

-- one part more in which there is nothing
found_grown : (ss : List Shard) (k : ℕ) (s : Shard) (path : List ℕ) → files_in s ≡ no_files → found (ss ++ s ∷ []) k path ≡ found ss k path
found_grown [] zero s path none = ap (λ t. t path) none
found_grown [] (suc k) s path none = refl
found_grown (t ∷ ss) zero s path none = refl
found_grown (t ∷ ss) (suc k) s path none = found_grown ss k s path none

pub grown : (ss : List Shard) (s : Shard) → files_in s ≡ no_files → tree_in (ss ++ s ∷ []) ≡ tree_in ss
grown ss s none = λ i path. found_grown ss (shard_of path) s path none i

-- the part of a path is replaced by one with that file
module _ (ss : List Shard) (d s : Shard) (path : List ℕ) (file : Option (List ℕ)) (there : shard_of path < length ss) (is : files_in s ≡ with_file (files_in (get_or ss (shard_of path) d)) path file) where
  apart : (q : List ℕ) (b : Bool) → same_path path q ≡ b → (shard_of path ≡ shard_of q → ⊥) → found (set ss (shard_of path) s) (shard_of q) q ≡ with_file (tree_in ss) path file q
  apart q true e ne = absurd (ne (ap shard_of (same_path-eq path q e)))
  apart q false e ne = found_other ss (shard_of path) (shard_of q) s q ne ∙ rw e refl

  beside : (q : List ℕ) → shard_of path ≡ shard_of q → found (set ss (shard_of path) s) (shard_of q) q ≡ with_file (tree_in ss) path file q
  beside q same =
      ap (λ k. found (set ss (shard_of path) s) k q) (sym same) ∙ found_set ss (shard_of path) s q there ∙ ap (λ t. t q) is
      ∙ ap (λ (x : Option (List ℕ)). with_file (λ r. x) path file q) (sym (found_at ss (shard_of path) d q there) ∙ ap (λ k. found ss k q) same)

  at_each : (q : List ℕ) (b : Bool) → (shard_of path == shard_of q) ≡ b → tree_in (set ss (shard_of path) s) q ≡ with_file (tree_in ss) path file q
  at_each q true e = beside q (grind (arith, nat_tests))
  at_each q false e = apart q (same_path path q) refl (λ same. let one = same in grind (arith, nat_tests))

  pub replaced : tree_in (set ss (shard_of path) s) ≡ with_file (tree_in ss) path file
  replaced = λ i q. at_each q (shard_of path == shard_of q) refl i

pub on_err : {E : Type 0} (r : Result Unit E) (Q : Type 0) → Q → OnErr r Q
on_err (Ok x) Q q = tt
on_err (Err e) Q q = q
