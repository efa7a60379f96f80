-- Bookmarks in byte order of their names.
use Rattle.std.proofs.Common.{◌≡◌, ℕ, Bool, true, false, ◌&&◌, cond, List, [], ◌∷◌, ◌++◌, map, Ok, Err, refl, sym, ◌∙◌, ap, subst, append_assoc}
use Rattle.std.specs.List.{AllByRecursion}
use Rattle.std.specs.declared.cmp.Ordering.{Ordering}
use Rattle.std.specs.declared.cmp.Ordering.TheVariants.{Less, Equal, Greater}
use Rattle.std.specs.Ordering.{nat_cmp, is_eq, is_lt, match_ordering, ordering_reverse}
use Rattle.std.specs.Cmp.Lexicographic.{slice_cmp, texts_ties}
use Rattle.std.proofs.lemmas.Cmp.{nat_list_cmp_total}
use Rattle.hgs_bytes.specs.Bytes.{same, is_below}
use Rattle.hgs_bytes.specs.Text.{ascends}
use Rattle.hgs_bytes.specs.Theorems.ByteLemmas.{same-eq}
use Rattle.hgs_index.specs.MarkName.{is_mark_name}
use Rattle.std.specs.Prelude.{if◌then◌else◌}
use Rattle.hgs_marks.specs.declared.fault.MarkFault.TheVariants.{Name}
use Rattle.hgs_marks.specs.Bookmarks.{Mark, with_mark, with_marks, without, set_mark}
use Rattle.hgs_index.specs.Node.{IsNode}
use Rattle.hgs_marks.specs.Texts.{IsMark, AreBookmarks}

lt_is : (o : Ordering) → is_lt o ≡ true → o ≡ Less
lt_is Less e = refl
lt_is Equal e = cc
lt_is Greater e = cc

above : (a b : List ℕ) → is_below a b ≡ true → slice_cmp nat_cmp b a ≡ Greater
above a b e = nat_list_cmp_total.antisymm b a ∙ ap ordering_reverse (lt_is (slice_cmp nat_cmp a b) e)

below : (a b : List ℕ) → slice_cmp nat_cmp b a ≡ Greater → is_below a b ≡ true
below a b e = ap is_lt (nat_list_cmp_total.antisymm a b ∙ ap ordering_reverse e)

below_on : (a b c : List ℕ) → is_below a b ≡ true → is_below b c ≡ true → is_below a c ≡ true
below_on a b c e f = ap is_lt (nat_list_cmp_total.trans a b c (lt_is (slice_cmp nat_cmp a b) e) (lt_is (slice_cmp nat_cmp b c) f))

-- names that ascend, the first above this one
abbrev AscendFrom : List ℕ → List Mark → Type 0
AscendFrom last [] = Unit {0}
AscendFrom last (m ∷ marks) = (is_below last m.name ≡ true) × AscendFrom m.name marks

both : (a b : Bool) → (a && b) ≡ true → (a ≡ true) × (b ≡ true)
both true b h = (refl, h)
both false b h = cc

ascend_from : (m : Mark) (marks : List Mark) → ascends (m.name ∷ map (λ k. k.name) marks) ≡ true → AscendFrom m.name marks
ascend_from m [] e = tt
ascend_from m (n ∷ marks) e = let b = both (is_below m.name n.name) (ascends (n.name ∷ map (λ k. k.name) marks)) e in (b.0, ascend_from n marks b.1)

ascends_so : (m : Mark) (marks : List Mark) → AscendFrom m.name marks → ascends (m.name ∷ map (λ k. k.name) marks) ≡ true
ascends_so m [] h = refl
ascends_so m (n ∷ marks) h = ap (λ b. b && ascends (n.name ∷ map (λ k. k.name) marks)) h.0 ∙ ascends_so n marks h.1

rest_ascends : (m : Mark) (marks : List Mark) → ascends (m.name ∷ map (λ k. k.name) marks) ≡ true → ascends (map (λ k. k.name) marks) ≡ true
rest_ascends m [] e = refl
rest_ascends m (n ∷ marks) e = (both (is_below m.name n.name) (ascends (n.name ∷ map (λ k. k.name) marks)) e).1

-- ---- bookmarks in order are put behind one another

-- each name is below this one
abbrev AllBelow : List Mark → List ℕ → Type 0
AllBelow [] name = Unit {0}
AllBelow (m ∷ marks) name = (is_below m.name name ≡ true) × AllBelow marks name

at_end : (front : List Mark) (new : Mark) → AllBelow front new.name → with_mark front new ≡ front ++ new ∷ []
at_end [] new h = refl
at_end (m ∷ front) new h =
    ap (λ o. match_ordering o (new ∷ m ∷ front) (new ∷ front) (m ∷ with_mark front new)) (above m.name new.name h.0) ∙ ap (λ l. m ∷ l) (at_end front new h.1)

still_below : (front : List Mark) (m : Mark) (name : List ℕ) → AllBelow front m.name → is_below m.name name ≡ true → AllBelow (front ++ m ∷ []) name
still_below [] m name h b = (b, tt)
still_below (f ∷ front) m name h b = (below_on f.name m.name name h.0 b, still_below front m name h.1 b)

behind : (front : List Mark) (m : Mark) (marks : List Mark) → AllBelow front m.name → AscendFrom m.name marks → with_marks front (m ∷ marks) ≡ front ++ m ∷ marks
behind front m [] h a = at_end front m h
behind front m (n ∷ marks) h a =
    ap (λ l. with_marks l (n ∷ marks)) (at_end front m h) ∙ behind (front ++ m ∷ []) n marks (still_below front m n.name h a.0) a.1 ∙ append_assoc front (m ∷ []) (n ∷ marks)

pub placed_so : (marks : List Mark) → ascends (map (λ m. m.name) marks) ≡ true → with_marks [] marks ≡ marks
placed_so [] e = refl
placed_so (m ∷ marks) e = behind [] m marks tt (ascend_from m marks e)

-- ---- what keeps the order

under : (a b : List ℕ) (marks : List Mark) → is_below a b ≡ true → AscendFrom b marks → AscendFrom a marks
under a b [] e h = tt
under a b (m ∷ marks) e h = (below_on a b m.name e h.0, h.1)

with-step : (o : Ordering) (last : List ℕ) (m new : Mark) (marks put : List Mark) → slice_cmp nat_cmp new.name m.name ≡ o → is_below last new.name ≡ true → is_below last m.name ≡ true → AscendFrom m.name marks →
    (is_below m.name new.name ≡ true → AscendFrom m.name put) → AscendFrom last (match_ordering o (new ∷ m ∷ marks) (new ∷ marks) (m ∷ put))
with-step Less last m new marks put e b k h more = (b, (ap is_lt e, h))
with-step Equal last m new marks put e b k h more =
    (b, subst (λ name. AscendFrom name marks) (sym (same-eq new.name m.name (texts_ties new.name m.name ∙ ap is_eq e))) h)
with-step Greater last m new marks put e b k h more = (k, more (below m.name new.name e))

with_ascends : (last : List ℕ) (marks : List Mark) (new : Mark) → is_below last new.name ≡ true → AscendFrom last marks → AscendFrom last (with_mark marks new)
with_ascends last [] new b h = (b, tt)
with_ascends last (m ∷ marks) new b h =
    with-step (slice_cmp nat_cmp new.name m.name) last m new marks (with_mark marks new) refl b h.0 h.1 (λ k. with_ascends m.name marks new k h.1)

first-step : (o : Ordering) (m new : Mark) (marks put : List Mark) → slice_cmp nat_cmp new.name m.name ≡ o → AscendFrom m.name marks → (is_below m.name new.name ≡ true → AscendFrom m.name put) →
    ascends (map (λ k. k.name) (match_ordering o (new ∷ m ∷ marks) (new ∷ marks) (m ∷ put))) ≡ true
first-step Less m new marks put e h more = ascends_so new (m ∷ marks) (ap is_lt e, h)
first-step Equal m new marks put e h more = ascends_so new marks (subst (λ name. AscendFrom name marks) (sym (same-eq new.name m.name (texts_ties new.name m.name ∙ ap is_eq e))) h)
first-step Greater m new marks put e h more = ascends_so m put (more (below m.name new.name e))

with_in_order : (marks : List Mark) (new : Mark) → ascends (map (λ m. m.name) marks) ≡ true → ascends (map (λ m. m.name) (with_mark marks new)) ≡ true
with_in_order [] new e = refl
with_in_order (m ∷ marks) new e =
    let h = ascend_from m marks e in
    first-step (slice_cmp nat_cmp new.name m.name) m new marks (with_mark marks new) refl h (λ k. with_ascends m.name marks new k h)

each-step : (o : Ordering) (m new : Mark) (marks put : List Mark) → IsMark new → AllByRecursion IsMark (m ∷ marks) → AllByRecursion IsMark put → AllByRecursion IsMark (match_ordering o (new ∷ m ∷ marks) (new ∷ marks) (m ∷ put))
each-step Less m new marks put n h more = (n, h)
each-step Equal m new marks put n h more = (n, h.1)
each-step Greater m new marks put n h more = (h.0, more)

with_each : (marks : List Mark) (new : Mark) → IsMark new → AllByRecursion IsMark marks → AllByRecursion IsMark (with_mark marks new)
with_each [] new n h = (n, tt)
with_each (m ∷ marks) new n h = each-step (slice_cmp nat_cmp new.name m.name) m new marks (with_mark marks new) n h (with_each marks new n h.1)

with_kept : (marks : List Mark) (new : Mark) → AreBookmarks marks → IsMark new → AreBookmarks (with_mark marks new)
with_kept marks new h n = record { each = with_each marks new n h.each; in_order = with_in_order marks new h.in_order }

pub all_kept : (marks more : List Mark) → AreBookmarks marks → AllByRecursion IsMark more → AreBookmarks (with_marks marks more)
all_kept marks [] h n = h
all_kept marks (new ∷ more) h n = all_kept (with_mark marks new) more (with_kept marks new h n.0) n.1

set-step : (t : Bool) (marks after : List Mark) (new : Mark) → is_mark_name new.name ≡ t → AreBookmarks marks → IsNode new.node → (if t then Ok (with_mark marks new) else Err (Name 0)) ≡ Ok after → AreBookmarks after
set-step true marks after new t h n e = let k : with_mark marks new ≡ after = cc in subst AreBookmarks k (with_kept marks new h (record { named = t; node = n }))
set-step false marks after new t h n e = cc

pub set_kept : (marks after : List Mark) (new : Mark) → AreBookmarks marks → IsNode new.node → set_mark marks new ≡ Ok after → AreBookmarks after
set_kept marks after new h n e = set-step (is_mark_name new.name) marks after new refl h n e

-- ---- without a name

left-step : (t : Bool) (last : List ℕ) (m : Mark) (marks left : List Mark) → is_below last m.name ≡ true → AscendFrom m.name marks → AscendFrom m.name left → AscendFrom last (cond t marks (m ∷ left))
left-step true last m marks left b h k = under last m.name marks b h
left-step false last m marks left b h k = (b, k)

left_ascends : (last name : List ℕ) (marks : List Mark) → AscendFrom last marks → AscendFrom last (without name marks)
left_ascends last name [] h = tt
left_ascends last name (m ∷ marks) h = left-step (same name m.name) last m marks (without name marks) h.0 h.1 (left_ascends m.name name marks h.1)

first-left : (t : Bool) (m : Mark) (marks left : List Mark) → ascends (m.name ∷ map (λ k. k.name) marks) ≡ true → AscendFrom m.name left → ascends (map (λ k. k.name) (cond t marks (m ∷ left))) ≡ true
first-left true m marks left e k = rest_ascends m marks e
first-left false m marks left e k = ascends_so m left k

left_in_order : (name : List ℕ) (marks : List Mark) → ascends (map (λ m. m.name) marks) ≡ true → ascends (map (λ m. m.name) (without name marks)) ≡ true
left_in_order name [] e = refl
left_in_order name (m ∷ marks) e = first-left (same name m.name) m marks (without name marks) e (left_ascends m.name name marks (ascend_from m marks e))

each-left : (t : Bool) (m : Mark) (marks left : List Mark) → AllByRecursion IsMark (m ∷ marks) → AllByRecursion IsMark left → AllByRecursion IsMark (cond t marks (m ∷ left))
each-left true m marks left h k = h.1
each-left false m marks left h k = (h.0, k)

left_each : (name : List ℕ) (marks : List Mark) → AllByRecursion IsMark marks → AllByRecursion IsMark (without name marks)
left_each name [] h = tt
left_each name (m ∷ marks) h = each-left (same name m.name) m marks (without name marks) h (left_each name marks h.1)

pub without_kept : (name : List ℕ) (marks : List Mark) → AreBookmarks marks → AreBookmarks (without name marks)
without_kept name marks h = record { each = left_each name marks h.each; in_order = left_in_order name marks h.in_order }
