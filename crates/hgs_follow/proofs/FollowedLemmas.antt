-- Followed histories.
use Rattle.std.proofs.Common.{◌≡◌, ℕ, Bool, true, List, Option, Some, None, refl, sym, ◌∙◌, subst}
use Rattle.std.specs.Prelude.{◌↔◌}
use Rattle.hgs_index.specs.Ancestor.{IsAncestor, IsParent, itself, of_parent}
use Rattle.hgs_index.specs.Theorems.AncestorLemmas.{IsAncestor-trans}
use Rattle.hgs_follow.specs.Followed.{At, Filelogs, IsBefore, parent, copied, IsFollowed, start, further, IsNeverCopied, parents_of, source_at}

pub followed-trans : (files : Filelogs) (a b c : At) → IsFollowed files a b → IsFollowed files b c → IsFollowed files a c
followed-trans files a b _ h start = h
followed-trans files a b _ h (further {b = m} k p) = further (followed-trans files a b m h k) p

pub followed-least : (files : Filelogs) (a : At) (has : At → Bool) → has a ≡ true → ((b c : At) → has b ≡ true → IsBefore files c b → has c ≡ true) → (b : At) → IsFollowed files a b → has b ≡ true
followed-least files a has first closed _ start = first
followed-least files a has first closed _ (further {b = m} {c = n} k p) = closed m n (followed-least files a has first closed m k) p

abbrev pub at : List ℕ → ℕ → At
at path rev = record { path = path; rev = rev }

none-is-some : {A : Type 0} (o : Option A) (x : A) → o ≡ None → o ≡ Some x → ⊥
none-is-some o x e f = cc

one-down : (files : Filelogs) (path : List ℕ) (rev : ℕ) → IsNeverCopied files path → (b c : At) → (b.path ≡ path) × IsAncestor (parents_of (files path)) b.rev rev → IsBefore files c b →
    (c.path ≡ path) × IsAncestor (parents_of (files path)) c.rev rev
one-down files path rev plain b c h (parent alike is) =
    let P : List ℕ → Type 0 = λ q. IsParent (parents_of (files q)) c.rev b.rev in
    let here : IsAncestor (parents_of (files path)) c.rev b.rev = of_parent (subst P h.0 is) itself in
    (alike ∙ h.0, IsAncestor-trans (parents_of (files path)) c.rev b.rev rev here h.1)
one-down files path rev plain b c h (copied s from alike number) =
    let P : List ℕ → Type 0 = λ q. source_at files (at q b.rev) ≡ None in
    absurd (none-is-some (source_at files b) s (subst P (sym h.0) (plain b.rev)) from)

down : (files : Filelogs) (path : List ℕ) (rev : ℕ) → IsNeverCopied files path → (b : At) → IsFollowed files (at path rev) b → (b.path ≡ path) × IsAncestor (parents_of (files path)) b.rev rev
down files path rev plain _ start = (refl, itself)
down files path rev plain _ (further {b = m} {c = n} k p) = one-down files path rev plain m n (down files path rev plain m k) p

pub up : (files : Filelogs) (path : List ℕ) (x y : ℕ) → IsAncestor (parents_of (files path)) x y → IsFollowed files (at path y) (at path x)
up files path x _ itself = start
up files path x _ (of_parent {p = p} {b = y} is k) = followed-trans files (at path y) (at path p) (at path x) (further start (parent refl is)) (up files path x p k)

pub ancestors-followed : (files : Filelogs) (a b : At) → IsNeverCopied files a.path → (IsFollowed files a b ↔ ((b.path ≡ a.path) × IsAncestor (parents_of (files a.path)) b.rev a.rev))
ancestors-followed files a b plain =
    let P : List ℕ → Type 0 = λ q. IsFollowed files a (at q b.rev) in
    (λ f. down files a.path a.rev plain b f, λ h. subst P (sym h.0) (up files a.path b.rev a.rev h.1))
