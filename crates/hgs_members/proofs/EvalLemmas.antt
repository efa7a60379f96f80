-- Marks on a stack that stand for sets.
use Rattle.std.proofs.Common.{◌≡◌, ◌<◌, ◌≤◌, ℕ, zero, suc, ◌+◌, Bool, true, false, not, ◌&&◌, List, [], ◌∷◌, ◌++◌, length, drop, map, Option, Some, None, refl, sym, ◌∙◌, ap, subst, inl, inr, arith}
use Rattle.std.specs.Prelude.{◌↔◌, ◌==◌, is_some, slice_get, slice_index_or, replicate}
use Rattle.std.specs.Option.{option_to_list}
use Rattle.hgs_phases.specs.Theorems.PhaseLemmas.{number-same, or-cases, or-left, or-right, same-number}
use Rattle.hgs_model.specs.declared.phase.Phase.{Phase}
use Rattle.hgs_model.specs.Phase.{phase_number}
use Rattle.hgs_revset.specs.Members.{Set, Name, Marked, All, InPhase, Not, Ancestors, Descendants, Heads, Roots, And, Or, Story, is_known, Has}
use Rattle.hgs_revset.specs.Postfix.{after, all_known, on_one, on_two, set_of, step_known, stepped, IsWhole}
use Rattle.hgs_members.specs.Passes.{IsMarked}
use Rattle.hgs_members.specs.Members.{marks_in, marks_of, one_mark, takes_one, takes_two, AreShown, Changes, Combines, Shows}
use Rattle.hgs_members.specs.declared.operand.Operand.{Operand}
use Rattle.hgs_members.specs.declared.operand.Operand.TheVariants.{One, Many}
use Rattle.hgs_revset.specs.declared.step.Step.{Step}
use Rattle.hgs_revset.specs.declared.step.Step.TheVariants as steps
use Rattle.hgs_members.proofs.OperandLemmas.{length-replicated, one-length, one-marked, marked-one}
use Rattle.hgs_members.proofs.PassLemmas.{mark-low, false_is_not}

-- ---- the last of a list

nil-snoc : {A : Type 0} (ys : List A) (y : A) → [] ≡ ys ++ y ∷ [] → ⊥
nil-snoc [] y e = cc
nil-snoc (z ∷ ys) y e = cc

head-same : {A : Type 0} (x y : A) (xs ys : List A) → x ∷ xs ≡ y ∷ ys → x ≡ y
head-same x y xs ys e = cc

tail-same : {A : Type 0} (x y : A) (xs ys : List A) → x ∷ xs ≡ y ∷ ys → xs ≡ ys
tail-same x y xs ys e = cc

snoc-same : {A : Type 0} (xs ys : List A) (x y : A) → xs ++ x ∷ [] ≡ ys ++ y ∷ [] → (xs ≡ ys) × (x ≡ y)
snoc-same [] [] x y e = (refl, head-same x y [] [] e)
snoc-same [] (w ∷ ys) x y e = absurd (nil-snoc ys y (tail-same x w [] (ys ++ y ∷ []) e))
snoc-same (z ∷ xs) [] x y e = absurd (nil-snoc xs x (sym (tail-same z y (xs ++ x ∷ []) [] e)))
snoc-same (z ∷ xs) (w ∷ ys) x y e =
    let more = snoc-same xs ys x y (tail-same z w (xs ++ x ∷ []) (ys ++ y ∷ []) e) in
    (ap (λ k. k ∷ xs) (head-same z w (xs ++ x ∷ []) (ys ++ y ∷ []) e) ∙ ap (λ ks. w ∷ ks) more.0, more.1)

-- ---- the top of a stack

pub record Popped (s : Story) (sets : List Set) (marks : List Bool) (below : List (List Bool)) : Type 0 where
  pub top : Set
  pub rest : List Set
  pub is : sets ≡ top ∷ rest
  pub shows : Shows s top marks
  pub others : AreShown s rest below

pub popped : (s : Story) (sets : List Set) (old below : List (List Bool)) (marks : List Bool) → old ≡ below ++ marks ∷ [] → AreShown s sets old → Popped s sets marks below
popped s [] old below marks e h = absurd (nil-snoc below marks (sym h ∙ e))
popped s (a ∷ rest) old below marks e h =
    let same = snoc-same h.1 below h.0 marks (sym h.2 ∙ e) in
    record { top = a; rest = rest; is = refl; shows = subst (Shows s a) same.1 h.3; others = subst (AreShown s rest) same.0 h.4 }

pub none_left : (s : Story) (sets : List Set) (old : List (List Bool)) → old ≡ [] → AreShown s sets old → sets ≡ []
none_left s [] old e h = refl
none_left s (a ∷ rest) old e h = absurd (nil-snoc h.1 h.0 (sym e ∙ h.2))

-- ---- what a step makes of marks

not-true : (a b : Bool) → a ≡ not b → a ≡ true → b ≡ true → ⊥
not-true a true is h k = false_is_not (sym is ∙ h)
not-true a false is h k = false_is_not k

not-false : (a b : Bool) → a ≡ not b → (b ≡ true → ⊥) → a ≡ true
not-false a true is h = absurd (h refl)
not-false a false is h = is

not_shown : (s : Story) (a : Set) (old new : List Bool) → Changes s.parents steps.Not old new → Shows s a old → Shows s (Not a) new
not_shown s a old new c shows = record {
  count = c.0 ∙ shows.count;
  each = λ b i lt. (let e = shows.each b i lt in let n = shows.count in let is = c.1 i (omega (arith, n, lt)) in (
    λ h k. not-true (slice_index_or new i false) (slice_index_or old i false) is h (e.1 k),
    λ none. not-false (slice_index_or new i false) (slice_index_or old i false) is (λ k. none (e.0 k)),
  ));
}

ancestors_shown : (s : Story) (a : Set) (old new : List Bool) → Changes s.parents steps.Ancestors old new → Shows s a old → Shows s (Ancestors a) new
ancestors_shown s a old new c shows = record {
  count = c.0 ∙ shows.count;
  each = λ b i lt. (let p = c.1 b i in (
    λ h. (let k = p.0 h in let low : k.0 < length s.parents = (let m = mark-low old k.0 k.1 in let n = shows.count in omega (arith, m, n)) in (k.0, low, (shows.each b k.0 low).0 k.1, k.2)),
    λ h. p.1 (h.0, (shows.each b h.0 h.1).1 h.2, h.3),
  ));
}

descendants_shown : (s : Story) (a : Set) (old new : List Bool) → Changes s.parents steps.Descendants old new → Shows s a old → Shows s (Descendants a) new
descendants_shown s a old new c shows = record {
  count = c.0 ∙ shows.count;
  each = λ b i lt. (let p = c.1 b i in (
    λ h. (let k = p.0 h in let low : k.0 < length s.parents = (let m = mark-low old k.0 k.1 in let n = shows.count in omega (arith, m, n)) in (k.0, low, (shows.each b k.0 low).0 k.1, k.2)),
    λ h. p.1 (h.0, (shows.each b h.0 h.1).1 h.2, h.3),
  ));
}

low-of : (s : Story) (a : Set) (old : List Bool) (i : ℕ) → Shows s a old → IsMarked old i → i < length s.parents
low-of s a old i shows h = let m = mark-low old i h in let n = shows.count in omega (arith, m, n)

heads_shown : (s : Story) (a : Set) (old new : List Bool) → Changes s.parents steps.Heads old new → Shows s a old → Shows s (Heads a) new
heads_shown s a old new c shows = record {
  count = c.0 ∙ shows.count;
  each = λ b i lt. (let p = c.1 b i in (
    λ h. (let k = p.0 h in ((shows.each b i lt).0 k.0, λ child low has par. k.1 child ((shows.each b child low).1 has) par)),
    λ h. p.1 ((shows.each b i lt).1 h.0, λ child mark par. (let low = low-of s a old child shows mark in h.1 child low ((shows.each b child low).0 mark) par)),
  ));
}

roots_shown : (s : Story) (a : Set) (old new : List Bool) → Changes s.parents steps.Roots old new → Shows s a old → Shows s (Roots a) new
roots_shown s a old new c shows = record {
  count = c.0 ∙ shows.count;
  each = λ b i lt. (let p = c.1 b i in (
    λ h. (let k = p.0 h in ((shows.each b i lt).0 k.0, λ q low has par. k.1 q ((shows.each b q low).1 has) par)),
    λ h. p.1 ((shows.each b i lt).1 h.0, λ q mark par. (let low = low-of s a old q shows mark in h.1 q low ((shows.each b q low).0 mark) par)),
  ));
}

and-first : (a b : Bool) → (a && b) ≡ true → a ≡ true
and-first true b h = refl
and-first false b h = h

and-second : (a b : Bool) → (a && b) ≡ true → b ≡ true
and-second true b h = h
and-second false b h = false_is_not h

and-both : (a b : Bool) → a ≡ true → b ≡ true → (a && b) ≡ true
and-both true b h k = k
and-both false b h k = h

and_shown : (s : Story) (a b : Set) (left right new : List Bool) → Combines steps.And left right new → Shows s a left → Shows s b right → Shows s (And a b) new
and_shown s a b left right new c first second = record {
  count = c.count ∙ first.count;
  each = λ before i lt. (let x = slice_index_or left i false in let y = slice_index_or right i false in let n = first.count in let is = c.each i (omega (arith, n, lt)) in (
    λ h. ((first.each before i lt).0 (and-first x y (sym is ∙ h)), (second.each before i lt).0 (and-second x y (sym is ∙ h))),
    λ h. is ∙ and-both x y ((first.each before i lt).1 h.0) ((second.each before i lt).1 h.1),
  ));
}

or_shown : (s : Story) (a b : Set) (left right new : List Bool) → Combines steps.Or left right new → Shows s a left → Shows s b right → Shows s (Or a b) new
or_shown s a b left right new c first second = record {
  count = c.count ∙ first.count;
  each = λ before i lt. (let x = slice_index_or left i false in let y = slice_index_or right i false in let n = first.count in let is = c.each i (omega (arith, n, lt)) in (
    λ h. elim (or-cases x y (sym is ∙ h)) [ inl k ↦ inl ((first.each before i lt).0 k) | inr k ↦ inr ((second.each before i lt).0 k) ],
    λ h. is ∙ elim h [ inl k ↦ or-left x y ((first.each before i lt).1 k) | inr k ↦ or-right x y ((second.each before i lt).1 k) ],
  ));
}

-- ---- steps

put : (s : Story) (a : Set) (sets rest : List Set) (new below : List (List Bool)) (marks : List Bool) → sets ≡ a ∷ rest → new ≡ below ++ marks ∷ [] → Shows s a marks → AreShown s rest below → AreShown s sets new
put s a sets rest new below marks sets-is new-is shows others = subst (λ ss. AreShown s ss new) (sym sets-is) (marks, below, new-is, shows, others)

pub one_shown : (s : Story) (step : Step) (old new below : List (List Bool)) (was is : List Bool) → takes_one step ≡ true → old ≡ below ++ was ∷ [] → new ≡ below ++ is ∷ [] → Changes s.parents step was is →
    (sets : List Set) → AreShown s sets old → AreShown s (stepped step sets) new
one_shown s steps.Not old new below was is one stood stands c sets h = let p = popped s sets old below was stood h in put s (Not p.top) (on_one Not sets) p.rest new below is (ap (on_one Not) p.is) stands (not_shown s p.top was is c p.shows) p.others
one_shown s steps.Ancestors old new below was is one stood stands c sets h = let p = popped s sets old below was stood h in put s (Ancestors p.top) (on_one Ancestors sets) p.rest new below is (ap (on_one Ancestors) p.is) stands (ancestors_shown s p.top was is c p.shows) p.others
one_shown s steps.Descendants old new below was is one stood stands c sets h = let p = popped s sets old below was stood h in put s (Descendants p.top) (on_one Descendants sets) p.rest new below is (ap (on_one Descendants) p.is) stands (descendants_shown s p.top was is c p.shows) p.others
one_shown s steps.Heads old new below was is one stood stands c sets h = let p = popped s sets old below was stood h in put s (Heads p.top) (on_one Heads sets) p.rest new below is (ap (on_one Heads) p.is) stands (heads_shown s p.top was is c p.shows) p.others
one_shown s steps.Roots old new below was is one stood stands c sets h = let p = popped s sets old below was stood h in put s (Roots p.top) (on_one Roots sets) p.rest new below is (ap (on_one Roots) p.is) stands (roots_shown s p.top was is c p.shows) p.others
one_shown s (steps.Name n) old new below was is one stood stands c sets h = false_is_not one
one_shown s (steps.Marked n) old new below was is one stood stands c sets h = false_is_not one
one_shown s steps.All old new below was is one stood stands c sets h = false_is_not one
one_shown s (steps.InPhase q) old new below was is one stood stands c sets h = false_is_not one
one_shown s steps.And old new below was is one stood stands c sets h = false_is_not one
one_shown s steps.Or old new below was is one stood stands c sets h = false_is_not one

pub one_known : (s : Story) (step : Step) → takes_one step ≡ true → step_known s step ≡ true
one_known s steps.Not one = refl
one_known s steps.Ancestors one = refl
one_known s steps.Descendants one = refl
one_known s steps.Heads one = refl
one_known s steps.Roots one = refl
one_known s (steps.Name n) one = false_is_not one
one_known s (steps.Marked n) one = false_is_not one
one_known s steps.All one = refl
one_known s (steps.InPhase q) one = refl
one_known s steps.And one = refl
one_known s steps.Or one = refl

pub two_known : (s : Story) (step : Step) → takes_two step ≡ true → step_known s step ≡ true
two_known s steps.Not two = refl
two_known s steps.Ancestors two = refl
two_known s steps.Descendants two = refl
two_known s steps.Heads two = refl
two_known s steps.Roots two = refl
two_known s (steps.Name n) two = false_is_not two
two_known s (steps.Marked n) two = false_is_not two
two_known s steps.All two = refl
two_known s (steps.InPhase q) two = refl
two_known s steps.And two = refl
two_known s steps.Or two = refl

two-are : (f : Set → Set → Set) (sets rest more : List Set) (b a : Set) → sets ≡ b ∷ rest → rest ≡ a ∷ more → on_two f sets ≡ f a b ∷ more
two-are f sets rest more b a e k = ap (on_two f) (e ∙ ap (λ ss. b ∷ ss) k)

pub two_shown : (s : Story) (step : Step) (old middle new below : List (List Bool)) (left right is : List Bool) → takes_two step ≡ true → old ≡ middle ++ right ∷ [] → middle ≡ below ++ left ∷ [] → new ≡ below ++ is ∷ [] → Combines step left right is →
    (sets : List Set) → AreShown s sets old → AreShown s (stepped step sets) new
two_shown s steps.And old middle new below left right is two stood next stands c sets h =
    let p = popped s sets old middle right stood h in
    let q = popped s p.rest middle below left next p.others in
    put s (And q.top p.top) (on_two And sets) q.rest new below is (two-are And sets p.rest q.rest p.top q.top p.is q.is) stands (and_shown s q.top p.top left right is c q.shows p.shows) q.others
two_shown s steps.Or old middle new below left right is two stood next stands c sets h =
    let p = popped s sets old middle right stood h in
    let q = popped s p.rest middle below left next p.others in
    put s (Or q.top p.top) (on_two Or sets) q.rest new below is (two-are Or sets p.rest q.rest p.top q.top p.is q.is) stands (or_shown s q.top p.top left right is c q.shows p.shows) q.others
two_shown s steps.Not old middle new below left right is two stood next stands c sets h = false_is_not two
two_shown s steps.Ancestors old middle new below left right is two stood next stands c sets h = false_is_not two
two_shown s steps.Descendants old middle new below left right is two stood next stands c sets h = false_is_not two
two_shown s steps.Heads old middle new below left right is two stood next stands c sets h = false_is_not two
two_shown s steps.Roots old middle new below left right is two stood next stands c sets h = false_is_not two
two_shown s (steps.Name n) old middle new below left right is two stood next stands c sets h = false_is_not two
two_shown s (steps.Marked n) old middle new below left right is two stood next stands c sets h = false_is_not two
two_shown s steps.All old middle new below left right is two stood next stands c sets h = false_is_not two
two_shown s (steps.InPhase q) old middle new below left right is two stood next stands c sets h = false_is_not two

-- what a pop gave
pub gave : {A : Type 0} (old new : List A) (o : Option A) (x : A) → old ≡ new ++ option_to_list o → o ≡ Some x → old ≡ new ++ x ∷ []
gave old new o x e is = e ∙ ap (λ k. new ++ option_to_list k) is

pub two_counts : (s : Story) (old middle below : List (List Bool)) (left right : List Bool) → old ≡ middle ++ right ∷ [] → middle ≡ below ++ left ∷ [] → (sets : List Set) → AreShown s sets old → length left ≡ length right
two_counts s old middle below left right stood next sets h =
    let p = popped s sets old middle right stood h in
    let q = popped s p.rest middle below left next p.others in
    q.shows.count ∙ sym p.shows.count

-- ---- all steps

pub drop_next : {A : Type 0} (xs : List A) (i : ℕ) (d : A) → i < length xs → drop i xs ≡ slice_index_or xs i d ∷ drop (i + 1) xs
drop_next [] i d lt = absurd (omega (arith, lt))
drop_next (x ∷ xs) i d lt = next (x ∷ xs) i d lt ∙ (let e : suc i ≡ i + 1 = omega arith in ap (λ k. slice_index_or (x ∷ xs) i d ∷ drop k (x ∷ xs)) e)
  where
    next : {A : Type 0} (ys : List A) (j : ℕ) (d : A) → j < length ys → drop j ys ≡ slice_index_or ys j d ∷ drop (suc j) ys
    next [] j d lt = absurd (omega (arith, lt))
    next (y ∷ ys) zero d lt = refl
    next (y ∷ ys) (suc j) d lt = next ys j d (omega (arith, lt))

pub drop_all : {A : Type 0} (xs : List A) (n : ℕ) → length xs ≤ n → drop n xs ≡ []
drop_all [] zero le = refl
drop_all [] (suc n) le = refl
drop_all (x ∷ xs) zero le = absurd (omega (arith, le))
drop_all (x ∷ xs) (suc n) le = drop_all xs n (omega (arith, le))

-- what was done of the steps before i
pub record Done (s : Story) (all : List Step) (i : ℕ) (stack : List (List Bool)) : Type 0 where
  pub sets : List Set
  pub shown : AreShown s sets stack
  pub left : after all [] ≡ after (drop i all) sets
  pub known : all_known s all ≡ all_known s (drop i all)

pub done_first : (s : Story) (all : List Step) → Done s all 0 []
done_first s all = record { sets = []; shown = refl; left = refl; known = refl }

pub done_next : (s : Story) (all : List Step) (i : ℕ) (step d : Step) (old new : List (List Bool)) → i < length all → step ≡ slice_index_or all i d → step_known s step ≡ true →
    ((sets : List Set) → AreShown s sets old → AreShown s (stepped step sets) new) → Done s all i old → Done s all (i + 1) new
done_next s all i step d old new lt is known does done =
    let next = drop_next all i d lt in
    record {
      sets = stepped step done.sets;
      shown = does done.sets done.shown;
      left = done.left ∙ ap (λ xs. after xs done.sets) (next ∙ ap (λ x. x ∷ drop (i + 1) all) (sym is));
      known = done.known ∙ ap (all_known s) (next ∙ ap (λ x. x ∷ drop (i + 1) all) (sym is)) ∙ ap (λ b. b && all_known s (drop (i + 1) all)) known;
    }

pub unknown_at : (s : Story) (all : List Step) (i : ℕ) (step d : Step) (stack : List (List Bool)) → i < length all → step ≡ slice_index_or all i d → step_known s step ≡ false → Done s all i stack → all_known s all ≡ false
unknown_at s all i step d stack lt is unknown done =
    done.known ∙ ap (all_known s) (drop_next all i d lt ∙ ap (λ x. x ∷ drop (i + 1) all) (sym is)) ∙ ap (λ b. b && all_known s (drop (i + 1) all)) unknown

-- the steps leave one set
stack-of-set : (s : Story) (all : List Step) (n : ℕ) (stack : List (List Bool)) → length all ≤ n → IsWhole all → (done : Done s all n stack) → done.sets ≡ set_of all ∷ []
stack-of-set s all n stack past whole done = sym (done.left ∙ ap (λ xs. after xs done.sets) (drop_all all n past)) ∙ whole

pub left_empty : (s : Story) (all : List Step) (n : ℕ) (stack : List Operand) → length all ≤ n → IsWhole all → stack ≡ [] → Done s all n (marks_of s stack) → ⊥
left_empty s all n stack past whole is done =
    nothing (sym (none_left s done.sets (marks_of s stack) (ap (marks_of s) is) done.shown) ∙ stack-of-set s all n (marks_of s stack) past whole done)
  where
    nothing : {a : Set} → [] ≡ a ∷ [] → ⊥
    nothing e = cc

first-same : (a b : Set) (more : List Set) → a ∷ [] ≡ b ∷ more → a ≡ b
first-same a b more e = cc

-- ---- operands

map-snoc : {A B : Type 0} (f : A → B) (xs : List A) (x : A) → map f (xs ++ x ∷ []) ≡ map f xs ++ f x ∷ []
map-snoc f [] x = refl
map-snoc f (y ∷ xs) x = ap (λ zs. f y ∷ zs) (map-snoc f xs x)

-- the top of a stack of operands, as marks
top-is : (s : Story) (stack below : List Operand) (top : Operand) → stack ≡ below ++ top ∷ [] → marks_of s stack ≡ marks_of s below ++ marks_in (length s.parents) top ∷ []
top-is s stack below top is = ap (marks_of s) is ∙ map-snoc (marks_in (length s.parents)) below top

pub all_done : (s : Story) (all : List Step) (n count : ℕ) (a : Set) (stack below : List Operand) (top : Operand) (marks : List Bool) → length all ≤ n → IsWhole all → set_of all ≡ a → all_known s all ≡ is_known s (set_of all) → stack ≡ below ++ top ∷ [] → count ≡ length s.parents → marks ≡ marks_in count top →
    Done s all n (marks_of s stack) → (is_known s a ≡ true) × Shows s a marks
all_done s all n count a stack below top marks past whole tree known is counted made done =
    let p = popped s done.sets (marks_of s stack) (marks_of s below) (marks_in (length s.parents) top) (top-is s stack below top is) done.shown in
    let same : set_of all ≡ p.top = first-same (set_of all) p.top p.rest (sym (stack-of-set s all n (marks_of s stack) past whole done) ∙ p.is) in (
      ap (is_known s) (sym tree) ∙ sym known ∙ done.known ∙ ap (all_known s) (drop_all all n past),
      subst (Shows s a) (sym (made ∙ ap (λ k. marks_in k top) counted)) (subst (λ b. Shows s b (marks_in (length s.parents) top)) (sym same ∙ tree) p.shows),
    )

pub none_known : (s : Story) (all : List Step) (a : Set) → set_of all ≡ a → all_known s all ≡ is_known s (set_of all) → all_known s all ≡ false → is_known s a ≡ false
none_known s all a tree known none = ap (is_known s) (sym tree) ∙ sym known ∙ none

-- an operand is put on the stack
pub stack_put : (s : Story) (a : Set) (old new : List Operand) (top : Operand) → new ≡ old ++ top ∷ [] → Shows s a (marks_in (length s.parents) top) → (sets : List Set) → AreShown s sets (marks_of s old) → AreShown s (a ∷ sets) (marks_of s new)
stack_put s a old new top is shows sets h = (marks_in (length s.parents) top, marks_of s old, top-is s new old top is, shows, h)

some-same : (m n : ℕ) → Some m ≡ Some n → m ≡ n
some-same m n e = cc

-- a single changeset that a name or a bookmark names
one-shows : (s : Story) (a : Set) (o : Option ℕ) (rev : ℕ) → ((i : ℕ) → (o ≡ Some i ↔ Has s a i)) → o ≡ Some rev → rev < length s.parents → Shows s a (one_mark (length s.parents) rev)
one-shows s a o rev means is lt = record {
  count = one-length (length s.parents) rev;
  each = λ before i low. (
    λ h. (means i).0 (is ∙ ap (λ k. Some k) (sym (one-marked (length s.parents) rev i h))),
    λ h. (let e : i ≡ rev = some-same i rev (sym ((means i).1 h) ∙ is) in subst (λ k. IsMarked (one_mark (length s.parents) rev) k) (sym e) (marked-one (length s.parents) rev lt)),
  );
}

known-some : (o : Option ℕ) (rev : ℕ) → o ≡ Some rev → is_some o ≡ true
known-some o rev is = ap is_some is

pub name_put : (s : Story) (n : List ℕ) (rev : ℕ) (old new : List Operand) → s.named n ≡ Some rev → rev < length s.parents → new ≡ old ++ One rev ∷ [] → (step_known s (steps.Name n) ≡ true) × ((sets : List Set) → AreShown s sets (marks_of s old) → AreShown s (Name n ∷ sets) (marks_of s new))
name_put s n rev old new is lt pushed = (known-some (s.named n) rev is, stack_put s (Name n) old new (One rev) pushed (one-shows s (Name n) (s.named n) rev (λ i. (λ h. h, λ h. h)) is lt))

pub marked_put : (s : Story) (n : List ℕ) (rev : ℕ) (old new : List Operand) → s.marked n ≡ Some rev → rev < length s.parents → new ≡ old ++ One rev ∷ [] → (step_known s (steps.Marked n) ≡ true) × ((sets : List Set) → AreShown s sets (marks_of s old) → AreShown s (Marked n ∷ sets) (marks_of s new))
marked_put s n rev old new is lt pushed = (known-some (s.marked n) rev is, stack_put s (Marked n) old new (One rev) pushed (one-shows s (Marked n) (s.marked n) rev (λ i. (λ h. h, λ h. h)) is lt))

marked-all : (n i : ℕ) → i < n → IsMarked (replicate n true) i
marked-all zero i lt = absurd (omega (arith, lt))
marked-all (suc n) zero lt = refl
marked-all (suc n) (suc i) lt = marked-all n i (omega (arith, lt))

pub all_put : (s : Story) (count : ℕ) (marks : List Bool) (old new : List Operand) → count ≡ length s.parents → marks ≡ replicate count true → new ≡ old ++ Many marks ∷ [] → (sets : List Set) → AreShown s sets (marks_of s old) → AreShown s (All ∷ sets) (marks_of s new)
all_put s count marks old new counted made pushed =
    stack_put s All old new (Many marks) pushed (subst (Shows s All) (sym (made ∙ ap (λ k. replicate k true) counted)) (record {
      count = length-replicated (length s.parents) true;
      each = λ before i lt. (λ h. tt, λ h. marked-all (length s.parents) i lt);
    }))

phase-marked : (phases : List Phase) (k i : ℕ) → (IsMarked (map (λ p. phase_number p == k) phases) i ↔ slice_get (map phase_number phases) i ≡ Some k)
phase-marked [] k i = (λ h. false_is_not h, λ h. absurd (none-some k h))
  where
    none-some : (k : ℕ) → None ≡ Some k → ⊥
    none-some k e = cc
phase-marked (p ∷ phases) k zero = (λ h. ap (λ n. Some n) (number-same (phase_number p) k h), λ h. ap (λ n. n == k) (some-same (phase_number p) k h) ∙ same-number k)
phase-marked (p ∷ phases) k (suc i) = phase-marked phases k i

length-mapped : {A B : Type 0} (f : A → B) (xs : List A) → length (map f xs) ≡ length xs
length-mapped f [] = refl
length-mapped f (x ∷ xs) = ap suc (length-mapped f xs)

pub phase_put : (s : Story) (phases : List Phase) (p : Phase) (marks : List Bool) (old new : List Operand) → s.phases ≡ map phase_number phases → length phases ≡ length s.parents → marks ≡ map (λ q. phase_number q == phase_number p) phases → new ≡ old ++ Many marks ∷ [] →
    (sets : List Set) → AreShown s sets (marks_of s old) → AreShown s (InPhase p ∷ sets) (marks_of s new)
phase_put s phases p marks old new are counted made pushed =
    stack_put s (InPhase p) old new (Many marks) pushed (subst (Shows s (InPhase p)) (sym made) (record {
      count = length-mapped (λ q. phase_number q == phase_number p) phases ∙ counted;
      each = λ before i lt. (let e = phase-marked phases (phase_number p) i in (λ h. ap (λ ns. slice_get ns i) are ∙ e.0 h, λ h. e.1 (ap (λ ns. slice_get ns i) (sym are) ∙ h)));
    }))

-- ---- a step of one operand, and of two

pub one_count : (s : Story) (old below : List Operand) (top : Operand) (count : ℕ) (was : List Bool) → count ≡ length s.parents → was ≡ marks_in count top → old ≡ below ++ top ∷ [] → (sets : List Set) → AreShown s sets (marks_of s old) → length was ≡ length s.parents
one_count s old below top count was counted made stood sets h =
    ap (λ (ms : List Bool). length ms) (made ∙ ap (λ k. marks_in k top) counted) ∙ (popped s sets (marks_of s old) (marks_of s below) (marks_in (length s.parents) top) (top-is s old below top stood) h).shows.count

pub one_stepped : (s : Story) (step : Step) (old new below : List Operand) (top : Operand) (count : ℕ) (was is : List Bool) → takes_one step ≡ true → count ≡ length s.parents → was ≡ marks_in count top → old ≡ below ++ top ∷ [] → new ≡ below ++ Many is ∷ [] → Changes s.parents step was is →
    (step_known s step ≡ true) × ((sets : List Set) → AreShown s sets (marks_of s old) → AreShown s (stepped step sets) (marks_of s new))
one_stepped s step old new below top count was is one counted made stood stands c = (
  one_known s step one,
  one_shown s step (marks_of s old) (marks_of s new) (marks_of s below) (marks_in (length s.parents) top) is one (top-is s old below top stood) (top-is s new below (Many is) stands) (subst (λ ms. Changes s.parents step ms is) (made ∙ ap (λ k. marks_in k top) counted) c),
)

pub two_lengths : (s : Story) (old middle below : List Operand) (left right : Operand) (count : ℕ) → count ≡ length s.parents → old ≡ middle ++ right ∷ [] → middle ≡ below ++ left ∷ [] → (sets : List Set) → AreShown s sets (marks_of s old) → length (marks_in count left) ≡ length (marks_in count right)
two_lengths s old middle below left right count counted stood next sets h =
    let n = length s.parents in
    ap (λ k. length (marks_in k left)) counted ∙ two_counts s (marks_of s old) (marks_of s middle) (marks_of s below) (marks_in n left) (marks_in n right) (top-is s old middle right stood) (top-is s middle below left next) sets h ∙ ap (λ k. length (marks_in k right)) (sym counted)

pub two_stepped : (s : Story) (step : Step) (old middle new below : List Operand) (left right : Operand) (count : ℕ) (is : Operand) → takes_two step ≡ true → count ≡ length s.parents → old ≡ middle ++ right ∷ [] → middle ≡ below ++ left ∷ [] → new ≡ below ++ is ∷ [] → Combines step (marks_in count left) (marks_in count right) (marks_in count is) →
    (step_known s step ≡ true) × ((sets : List Set) → AreShown s sets (marks_of s old) → AreShown s (stepped step sets) (marks_of s new))
two_stepped s step old middle new below left right count is two counted stood next stands c =
    let n = length s.parents in (
      two_known s step two,
      two_shown s step (marks_of s old) (marks_of s middle) (marks_of s new) (marks_of s below) (marks_in n left) (marks_in n right) (marks_in n is) two (top-is s old middle right stood) (top-is s middle below left next) (top-is s new below is stands)
          (subst (λ k. Combines step (marks_in k left) (marks_in k right) (marks_in k is)) counted c),
    )
