-- A history that goes on from an older one has its entries in front.
use Rattle.std.proofs.Common.{◌≡◌, ℕ, suc, ◌+◌, ◌<◌, Bool, true, false, cond, ◌&&◌, List, [], ◌∷◌, ◌++◌, length, take, Option, Some, None, refl, sym, ◌∙◌, ap, arith}
use Rattle.std.specs.Prelude.{◌==◌}
use Rattle.std.specs.Prelude.{slice_get}
use Rattle.std.specs.Cmp.Lexicographic.{bytes_decides}
use Rattle.std.proofs.lemmas.Bool.Decides.{nat_tests}
use Rattle.hgs_bytes.specs.Bytes.{IsPrefixOf, same}
use Rattle.hgs_index.specs.declared.entry.Entry.{Entry}
use Rattle.hgs_index.specs.declared.node.Node.{Node}
use Rattle.hgs_load.specs.Theorems.TailLemmas.{entry-itself}
use Rattle.hgs_load.specs.Refresh.{same_parent, same_lengths, same_links, same_entry, first_changed}

both : (a b : Bool) → (a && b) ≡ true → (a ≡ true) × (b ≡ true)
both true b h = (refl, h)
both false b h = cc

number-is : (a b : ℕ) → (a == b) ≡ true → a ≡ b
number-is a b h = grind (arith, nat_tests, h)

bytes-are : (a b : List ℕ) → same a b ≡ true → a ≡ b
bytes-are a b h = (bytes_decides a b).0 h

parent-is : (a b : Option ℕ) → same_parent a b ≡ true → a ≡ b
parent-is None None h = refl
parent-is None (Some b) h = cc
parent-is (Some a) None h = cc
parent-is (Some a) (Some b) h = ap (λ n. Some n) (number-is a b h)

-- entries that are the same are one
entry-is : (a b : Entry) → same_entry a b ≡ true → a ≡ b
entry-is a b h =
    let x = both (same_lengths a b && same_links a b) (same a.node.0 b.node.0) h in
    let y = both (same_lengths a b) (same_links a b) x.0 in
    let l1 = both (a.offset == b.offset && a.flags == b.flags && a.stored == b.stored) (a.size == b.size) y.0 in
    let l2 = both (a.offset == b.offset && a.flags == b.flags) (a.stored == b.stored) l1.0 in
    let l3 = both (a.offset == b.offset) (a.flags == b.flags) l2.0 in
    let k1 = both (a.base == b.base && a.link == b.link && same_parent a.p1 b.p1) (same_parent a.p2 b.p2) y.1 in
    let k2 = both (a.base == b.base && a.link == b.link) (same_parent a.p1 b.p1) k1.0 in
    let k3 = both (a.base == b.base) (a.link == b.link) k2.0 in
    let offset = number-is a.offset b.offset l3.0 in
    let flags = number-is a.flags b.flags l3.1 in
    let stored = number-is a.stored b.stored l2.1 in
    let size = number-is a.size b.size l1.1 in
    let base = number-is a.base b.base k3.0 in
    let link = number-is a.link b.link k3.1 in
    let p1 = parent-is a.p1 b.p1 k2.1 in
    let p2 = parent-is a.p2 b.p2 k1.1 in
    let node : a.node ≡ b.node = ap (λ bytes. let n : Node = record { 0 = bytes } in n) (bytes-are a.node.0 b.node.0 x.1) in
    fields a b offset flags stored size base link p1 p2 node
  where
    fields : (a b : Entry) → a.offset ≡ b.offset → a.flags ≡ b.flags → a.stored ≡ b.stored → a.size ≡ b.size → a.base ≡ b.base → a.link ≡ b.link → a.p1 ≡ b.p1 → a.p2 ≡ b.p2 → a.node ≡ b.node → a ≡ b
    fields a b offset flags stored size base link p1 p2 node =
        ap (λ x. let e : Entry = record { offset = x; flags = a.flags; stored = a.stored; size = a.size; base = a.base; link = a.link; p1 = a.p1; p2 = a.p2; node = a.node } in e) offset
        ∙ ap (λ x. let e : Entry = record { offset = b.offset; flags = x; stored = a.stored; size = a.size; base = a.base; link = a.link; p1 = a.p1; p2 = a.p2; node = a.node } in e) flags
        ∙ ap (λ x. let e : Entry = record { offset = b.offset; flags = b.flags; stored = x; size = a.size; base = a.base; link = a.link; p1 = a.p1; p2 = a.p2; node = a.node } in e) stored
        ∙ ap (λ x. let e : Entry = record { offset = b.offset; flags = b.flags; stored = b.stored; size = x; base = a.base; link = a.link; p1 = a.p1; p2 = a.p2; node = a.node } in e) size
        ∙ ap (λ x. let e : Entry = record { offset = b.offset; flags = b.flags; stored = b.stored; size = b.size; base = x; link = a.link; p1 = a.p1; p2 = a.p2; node = a.node } in e) base
        ∙ ap (λ x. let e : Entry = record { offset = b.offset; flags = b.flags; stored = b.stored; size = b.size; base = b.base; link = x; p1 = a.p1; p2 = a.p2; node = a.node } in e) link
        ∙ ap (λ x. let e : Entry = record { offset = b.offset; flags = b.flags; stored = b.stored; size = b.size; base = b.base; link = b.link; p1 = x; p2 = a.p2; node = a.node } in e) p1
        ∙ ap (λ x. let e : Entry = record { offset = b.offset; flags = b.flags; stored = b.stored; size = b.size; base = b.base; link = b.link; p1 = b.p1; p2 = x; node = a.node } in e) p2
        ∙ ap (λ x. let e : Entry = record { offset = b.offset; flags = b.flags; stored = b.stored; size = b.size; base = b.base; link = b.link; p1 = b.p1; p2 = b.p2; node = x } in e) node

-- nothing changed: the old entries are a front of the new ones
pub front-of-new : (rev : ℕ) (old new : List Entry) → first_changed rev old new ≡ None → IsPrefixOf old new
front-of-new rev [] new h = (new, refl)
front-of-new rev (o ∷ old) [] h = cc
front-of-new rev (o ∷ old) (e ∷ new) h = by (same_entry o e) refl h (front-of-new (suc rev) old new)
  where
    by : (b : Bool) → same_entry o e ≡ b → cond b (first_changed (suc rev) old new) (Some rev) ≡ None → (first_changed (suc rev) old new ≡ None → IsPrefixOf old new) → IsPrefixOf (o ∷ old) (e ∷ new)
    by false same h more = cc
    by true same h more = let f = more h in (f.0, ap (λ l. e ∷ l) f.1 ∙ ap (λ x. x ∷ (old ++ f.0)) (sym (entry-is o e same)))

pub front-unchanged : (rev : ℕ) (old more : List Entry) → first_changed rev old (old ++ more) ≡ None
front-unchanged rev [] more = refl
front-unchanged rev (e ∷ old) more = ap (λ b. cond b (first_changed (suc rev) old (old ++ more)) (Some rev)) (entry-itself e) ∙ front-unchanged (suc rev) old more

pub none-changed : (rev : ℕ) (old new : List Entry) → IsPrefixOf old new → first_changed rev old new ≡ None
none-changed rev old new f = ap (first_changed rev old) f.1 ∙ front-unchanged rev old f.0

some-is : {A : Type 0} (x y : A) → Some x ≡ Some y → x ≡ y
some-is x y e = cc

-- the first that changed stands behind a common front, and is another there, or none
pub other-behind : (rev changed : ℕ) (old new : List Entry) → first_changed rev old new ≡ Some changed → (at : ℕ) × (changed ≡ rev + at) × (at < length old) × (take at old ≡ take at new) × (slice_get old at ≡ slice_get new at → ⊥)
other-behind rev changed [] new h = cc
other-behind rev changed (o ∷ old) [] h = (0, (let here = some-is rev changed h in omega (arith, here)), omega arith, refl, no_entry o)
  where
    no_entry : (o : Entry) → Some o ≡ None → ⊥
    no_entry o e = cc
other-behind rev changed (o ∷ old) (e ∷ new) h = by (same_entry o e) refl h (other-behind (suc rev) changed old new)
  where
    Behind : Type 0
    Behind = (at : ℕ) × (changed ≡ rev + at) × (at < suc (length old)) × (take at (o ∷ old) ≡ take at (e ∷ new)) × (slice_get (o ∷ old) at ≡ slice_get (e ∷ new) at → ⊥)

    never : false ≡ true → ⊥
    never e = cc

    by : (b : Bool) → same_entry o e ≡ b → cond b (first_changed (suc rev) old new) (Some rev) ≡ Some changed
        → (first_changed (suc rev) old new ≡ Some changed → (at : ℕ) × (changed ≡ suc rev + at) × (at < length old) × (take at old ≡ take at new) × (slice_get old at ≡ slice_get new at → ⊥)) → Behind
    by false other h more = (0, (let here = some-is rev changed h in omega (arith, here)), omega arith, refl, λ s. never (sym other ∙ ap (same_entry o) (sym (some-is o e s)) ∙ entry-itself o))
    by true same h more =
        let r = more h in
        let place = r.1 in
        let low = r.2 in
        (suc r.0, omega (arith, place), omega (arith, low), ap (λ l. o ∷ l) r.3 ∙ ap (λ x. x ∷ take r.0 new) (entry-is o e same), r.4)
