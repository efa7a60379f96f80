-- Small files that were read.
use Rattle.std.proofs.Common.{◌≡◌, ℕ, zero, suc, ◌+◌, ◌++◌, not, List, [], ◌∷◌, append_assoc, append-nil, take, sym, ◌∙◌, ap, arith}
use Rattle.std.specs.Prelude.{Option, Some, None, is_some, unwrap_or, length, slice_get, ◌==◌}
use Rattle.hgs_files.specs.Reads.{IsSizeOf}
use Rattle.hgs_files.specs.Tree.{Tree, bytes_at}
use Rattle.hgs_findings.specs.Findings.{Finding}
use Rattle.hgs_verify.specs.Report.{of_all_unused, of_unused}

pub bytes-are : (path : List ℕ) (t : Tree) (bytes : Option (List ℕ)) (text : List ℕ) → text ≡ unwrap_or bytes [] → bytes ≡ t path → text ≡ bytes_at t path
bytes-are path t bytes text e is = e ∙ ap (λ o. unwrap_or o []) is

pub size-some : (file : Option (List ℕ)) (size : Option ℕ) → IsSizeOf file size → is_some size ≡ is_some file
size-some file None e = sym (ap is_some e)
size-some file (Some k) e = sym (ap is_some e.1)

pub size-none : (file : Option (List ℕ)) (size : Option ℕ) → IsSizeOf file size → not (unwrap_or size 0 == 0) ≡ not (length (unwrap_or file []) == 0)
size-none file None e = sym (ap (λ o. not (length (unwrap_or o []) == 0)) e)
size-none file (Some k) e = ap (λ n. not (n == 0)) e.2 ∙ sym (ap (λ o. not (length (unwrap_or o []) == 0)) e.1)

unused-more : (t : Tree) (paths : List (List ℕ)) (i : ℕ) (x : List ℕ) → slice_get paths i ≡ Some x → of_all_unused t (take (suc i) paths) ≡ of_all_unused t (take i paths) ++ of_unused t x
unused-more t [] i x at = absurd (clash at)
  where
    clash : None ≡ Some x → ⊥
    clash h = cc
unused-more t (y ∷ paths) zero x at = append-nil (of_unused t y) ∙ ap (of_unused t) (some-same y x at)
  where
    some-same : (a b : List ℕ) → Some a ≡ Some b → a ≡ b
    some-same a b h = ap (elim [ None ↦ a | Some z ↦ z ]) h
unused-more t (y ∷ paths) (suc i) x at = ap (λ l. of_unused t y ++ l) (unused-more t paths i x at) ∙ sym (append_assoc (of_unused t y) (of_all_unused t (take i paths)) (of_unused t x))

pub unused-on : (t : Tree) (paths : List (List ℕ)) (i : ℕ) (x : List ℕ) (old now new : List Finding) → slice_get paths i ≡ Some x → now ≡ old ++ of_all_unused t (take i paths) → new ≡ now ++ of_unused t x → new ≡ old ++ of_all_unused t (take (i + 1) paths)
unused-on t paths i x old now new at before one =
    one ∙ ap (λ l. l ++ of_unused t x) before ∙ append_assoc old (of_all_unused t (take i paths)) (of_unused t x)
    ∙ ap (λ l. old ++ l) (sym (unused-more t paths i x at)) ∙ ap (λ n. old ++ of_all_unused t (take n paths)) (let e : suc i ≡ i + 1 = omega arith in e)
