-- What an entry tells.
use Rattle.std.proofs.Common.{◌≡◌, ℕ, true, List, take, length, refl, sym, ap, ◌∙◌, subst, Option, Some, None, IfSome, is_some, true≢false}
use mathlib.Core.List.{IsPrefix}
use Rattle.hgs_files.specs.Tree.{Tree}
use Rattle.hgs_files.specs.declared.op.Op.{Op}
use Rattle.hgs_hub.specs.declared.moment.Origin.{Origin}
use Rattle.hgs_hub.specs.declared.moment.Moment.{Moment}
use Rattle.std.specs.Arc.{arc_value}
use Rattle.hgs_hub.specs.declared.rule.Shown.{Shown}
use Rattle.hgs_hub.specs.declared.rule.View.{View}
use Rattle.hgs_hub.specs.Rule.{first_at, tree_at, SeesAll, start_from}
use Rattle.hgs_files.specs.Tree.{after_all}
use Rattle.hgs_files.specs.Reads.{ReadsPart, IsSizeOf}
use Rattle.hgs_files.specs.Reads.{Covers}
use Rattle.hgs_hub.specs.Looks.{Moves, Looked, LooksAtMoment}
use Rattle.hgs_hub.proofs.Fronts.{prefix_self, prefix_trans, prefix_of_take}

-- what is known to be there is this
known : (first : Option Origin) (m : Origin) → is_some first ≡ true → IfSome first (λ f. f ≡ m) → first ≡ Some m
known None m some h = absurd (true≢false (sym some))
known (Some f) m some h = ap Some h

pub stays : (v : View) → Moves v v
stays v = (prefix_self v.seen, refl)

module _ (legal : Tree → List _ → Type 0) where
  pub moved : (v w : View) (x y : Shown) → is_some v.first ≡ true → SeesAll legal v x y w → Moves v w
  moved v w x y some h =
      (subst (λ l. IsPrefix v.seen l) (sym h.0) h.2.0, h.1 ∙ sym (known v.first (first_at y) some h.2.1))

  pub looked : (v w : View) (x y : Shown) → is_some v.first ≡ true → SeesAll legal v x y w → Looked legal v (arc_value y.now) w
  looked v w x y some h = (h.0, known v.first (first_at y) some h.2.1, h.2.0, h.3)

  pub looks_at : (v w : View) (told : List (List Op)) (before m : Moment) → take (length before.log.value.items) v.seen ≡ before.log.value.items
      → Looked legal v m w → Covers told m.log.value.items → LooksAtMoment legal v told before m
  looks_at v w told before m begins h covers =
      (prefix_trans before.log.value.items v.seen m.log.value.items (prefix_of_take before.log.value.items v.seen begins) h.2, covers, h.1, h.3)

-- answers from the moment are answers from what is told
pub size_from : (o : Option Origin) (m n : Moment) (path : List ℕ) (r : Option ℕ) → n ≡ m → o ≡ Some m.first.value
    → IsSizeOf (after_all m.log.value.items (tree_at m.first.value) path) r → IsSizeOf (after_all n.log.value.items (start_from o) path) r
size_from o m n path r same first h =
    subst (λ (k : Moment). IsSizeOf (after_all k.log.value.items (start_from o) path) r) (sym same)
    (subst (λ (q : Option Origin). IsSizeOf (after_all m.log.value.items (start_from q) path) r) (sym first) h)

pub part_from : (o : Option Origin) (m n : Moment) (path : List ℕ) (from most : ℕ) (old new : List ℕ) (r : Option ℕ) → n ≡ m → o ≡ Some m.first.value
    → ReadsPart (after_all m.log.value.items (tree_at m.first.value) path) from most old new r → ReadsPart (after_all n.log.value.items (start_from o) path) from most old new r
part_from o m n path from most old new r same first h =
    subst (λ (k : Moment). ReadsPart (after_all k.log.value.items (start_from o) path) from most old new r) (sym same)
    (subst (λ (q : Option Origin). ReadsPart (after_all m.log.value.items (start_from q) path) from most old new r) (sym first) h)
