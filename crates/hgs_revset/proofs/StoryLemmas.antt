-- What a set holds over two stories that tell the same.
use Rattle.std.proofs.Common.{◌≡◌, ℕ, List, sym, ap, subst}
use Rattle.std.specs.Prelude.{◌↔◌}
use Rattle.hgs_revset.specs.Members.{Set, Story, is_known, AreAlike, Has}
use Rattle.hgs_revset.specs.Text.{set_text}

same-story : (s t : Story) → AreAlike s t → s ≡ t
same-story s t h = λ i. record { parents = h.parents i; phases = h.phases i; named = λ name. h.named name i; marked = λ name. h.marked name i; nodes = h.nodes i }

pub has_over : (s t : Story) (a : Set) (rev : ℕ) → AreAlike s t → (Has s a rev ↔ Has t a rev)
has_over s t a rev h = let e = same-story s t h in (subst (λ u. Has u a rev) e, subst (λ u. Has u a rev) (sym e))

pub known_over : (s t : Story) (a : Set) → AreAlike s t → is_known s a ≡ is_known t a
known_over s t a h = ap (λ u. is_known u a) (same-story s t h)

pub text_over : (s t : Story) (a : Set) → AreAlike s t → set_text s a ≡ set_text t a
text_over s t a h = ap (λ u. set_text u a) (same-story s t h)
