-- A map of filelogs by their paths.
use Rattle.std.proofs.Common.{◌≡◌, ℕ, Bool, true, false, List, length, Some, refl, sym, ◌∙◌, ap, subst}
use Rattle.std.specs.Prelude.{replicate}
use Rattle.std.specs.BTreeMap.{get_by, is_at, Updates}
use Rattle.std.specs.Cmp.{unsigned_ties}
use Rattle.std.specs.Cmp.Lexicographic.{lists_ties, slice_cmp}
use Rattle.std.specs.Ordering.{nat_cmp}
use Rattle.hgs_bytes.specs.Bytes.{same}
use Rattle.hgs_bytes.specs.Theorems.ByteLemmas.{same-eq}
use Rattle.hgs_index.specs.Revision.{ParentsBefore}
use Rattle.hgs_revlog.specs.Loaded.{parents_in}
use Rattle.hgs_follow.specs.Search.{reached_at, AreHeld, IsHeld, IsPut, Logs}
use Rattle.hgs_follow.specs.declared.filelogs.Filelog.{Filelog}
use Rattle.hgs_follow.specs.declared.search.Reached.{Reached}
use Rattle.hgs_follow.proofs.ListLemmas.{length_replicate, some_is}

pub tied : (x y : List ℕ) → same x y ≡ is_at (slice_cmp nat_cmp x) y
tied x y = lists_ties nat_cmp unsigned_ties x y

pub is_put : (old new : Logs) (path key : List ℕ) (r : Reached) (f : Filelog) → key ≡ path → r.filelog ≡ f → r.marks.items ≡ replicate (length f.log.entries) false → Updates (slice_cmp nat_cmp) old new key (Some r) → IsPut old new path f
is_put old new path key r f copied filelog marks u = record {
  reached = r;
  filelog = filelog;
  marks = marks;
  here = subst (λ k. get_by (slice_cmp nat_cmp k) new ≡ Some r) copied u.1;
  others = λ q e. u.2 q (subst (λ k. is_at (slice_cmp nat_cmp k) q ≡ false) (sym copied) (sym (tied path q) ∙ e));
}

-- what is at a path, and at the others
pub by_path : {A : Type 0} (path q : List ℕ) → (path ≡ q → A) → (same path q ≡ false → A) → A
by_path {A} path q here other = by (same path q) refl
  where
    by : (b : Bool) → same path q ≡ b → A
    by true e = here (same-eq path q e)
    by false e = other e

pub held_put : (holds : List ℕ → Filelog → Type 0) (old new : Logs) (path : List ℕ) (f : Filelog) → AreHeld holds old → IsPut old new path f → holds path f → ParentsBefore 0 (parents_in f.log.entries) → AreHeld holds new
held_put holds old new path f held put of_path earlier q r at = by_path path q
    (λ e. subst (λ k. IsHeld holds k r) e (subst (IsHeld holds path) (some_is put.reached r (sym put.here ∙ ap (reached_at new) e ∙ at)) (record {
      of_path = subst (holds path) (sym put.filelog) of_path;
      size = ap length put.marks ∙ length_replicate (length f.log.entries) false ∙ ap (λ (x : Filelog). length x.log.entries) (sym put.filelog);
      earlier = subst (λ (x : Filelog). ParentsBefore 0 (parents_in x.log.entries)) (sym put.filelog) earlier;
    })))
    (λ e. held q r (sym (put.others q e) ∙ at))
