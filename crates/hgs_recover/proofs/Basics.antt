-- Short facts on files at paths, and on logs one behind another.
use Rattle.std.proofs.Common.{◌≡◌, ℕ, true, List, [], ◌∷◌, ◌++◌, refl}
use Rattle.std.specs.Prelude.{Option}
use Rattle.std.specs.Cmp.{eq_by_cmp_equiv, Equal-is}
use Rattle.std.specs.Cmp.Lexicographic.{slice_cmp, nat_list_cmp_total}
use Rattle.std.specs.Ordering.{nat_cmp}
use Rattle.std.proofs.lemmas.Map.Lookups.{exact_bytes}
use Rattle.hgs_files.specs.declared.op.Op.{Op}
use Rattle.hgs_files.specs.Tree.{Tree, after_all, apply, same_path, with_file}

same_path-refl : (p : List ℕ) → same_path p p ≡ true
same_path-refl p = (eq_by_cmp_equiv nat_list_cmp_total).refl p

pub same_path-eq : (p q : List ℕ) → same_path p q ≡ true → p ≡ q
same_path-eq p q e = exact_bytes p q ((Equal-is (slice_cmp nat_cmp p q)).0 e)

pub with_file-same : (t : Tree) (p : List ℕ) (x : Option (List ℕ)) → with_file t p x p ≡ x
with_file-same t p x = rw (same_path-refl p)

pub after_all-append : (xs ys : List Op) (t : Tree) → after_all (xs ++ ys) t ≡ after_all ys (after_all xs t)
after_all-append [] ys t = refl
after_all-append (x ∷ xs) ys t = after_all-append xs ys (apply x t)
