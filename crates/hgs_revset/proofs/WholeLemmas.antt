-- The steps of a text leave one set: at each place there is one for each operator that waits, and one where an operand stands.
use Rattle.std.proofs.Common.{◌≡◌, ◌<◌, ◌≤◌, ℕ, zero, suc, ◌+◌, ◌-◌, Bool, true, false, List, [], ◌∷◌, ◌++◌, length, take, Option, Some, None, refl, sym, ◌∙◌, ap, subst, append_assoc, append-nil, length-append, arith}
use Rattle.std.specs.Prelude.{◌==◌, ◌&&◌, ◌||◌, not, nat_lt, nat_le, replicate, slice_get, Result, Ok, Err, if◌then◌else◌, codes}
use Rattle.std.proofs.lemmas.Bool.Decides.{nat_tests}
use Rattle.hgs_bytes.specs.Bytes.{same}
use Rattle.hgs_revset.specs.declared.fault.SetFault.{SetFault}
use Rattle.hgs_revset.specs.declared.fault.SetFault.TheVariants.{Bad, Memory}
use Rattle.hgs_revset.specs.declared.grammar.Frame.{Frame}
use Rattle.hgs_revset.specs.declared.grammar.Level.{Level}
use Rattle.hgs_revset.specs.declared.read.Mode.{Mode}
use Rattle.hgs_revset.specs.declared.read.Mode.TheVariants.{Between, Word, Colon, Quote}
use Rattle.hgs_revset.specs.declared.step.At.{At}
use Rattle.hgs_revset.specs.declared.step.At.TheVariants.{Wanted, Bound, First, Upwards, Whole, Named, Closed}
use Rattle.hgs_revset.specs.declared.step.Call.{Call}
use Rattle.hgs_revset.specs.declared.step.Call.TheVariants as calls
use Rattle.hgs_revset.specs.declared.step.Step.{Step}
use Rattle.hgs_revset.specs.declared.step.Step.TheVariants as steps
use Rattle.hgs_revset.specs.Grammar.{Parse, call_named, call_steps, closed_by, deepest, emitted, first_at, is_name_byte, is_wanted, may_close, moved, name_step, opened, stands, start, take_and, take_call, take_close, take_close_of, take_end, take_known, take_name, take_not, take_open, take_or, take_range, take_range_at, wants_atom, wants_name, when, with_atom, with_conjunction, with_negation, with_set}
use Rattle.hgs_revset.specs.Members.{Set, Story, is_known}
use Rattle.hgs_revset.specs.Postfix.{after, all_known, on_one, on_two, set_of, step_known, stepped, top_of, IsWhole}
use Rattle.hgs_revset.specs.Read.{Reading, at_mode, between, finish, finish_at, is_operator, limited, longest, onward, read_steps, steps_of_text, take_behind, take_byte, take_byte_at, take_bytes, take_colon, take_first, take_more, take_quoted, take_word}
use Rattle.hgs_revset.specs.Stored.{after_more}

no : {A : Type 0} → false ≡ true → A
no e = absurd (by e)
  where
    by : false ≡ true → ⊥
    by k = cc

-- ---- how many sets stand after steps

abbrev left : List Step → ℕ
left steps = length (after steps [])

one-stays : (f : Set → Set) (stack : List Set) → length (on_one f stack) ≡ length stack
one-stays f [] = refl
one-stays f (a ∷ rest) = refl

two-join : (f : Set → Set → Set) (stack : List Set) (n : ℕ) → length stack ≡ n + 2 → length (on_two f stack) ≡ n + 1
two-join f [] n e = absurd (omega (arith, e))
two-join f (b ∷ []) n e = absurd (omega (arith, e))
two-join f (b ∷ a ∷ rest) n e = omega (arith, e)

left-more : (xs ys : List Step) → left (xs ++ ys) ≡ length (after ys (after xs []))
left-more xs ys = ap (λ (stack : List Set). length stack) (after_more xs ys [])

nots-stay : (n : ℕ) (stack : List Set) → length (after (replicate n steps.Not) stack) ≡ length stack
nots-stay zero stack = refl
nots-stay (suc n) stack = nots-stay n (stepped steps.Not stack) ∙ one-stays _ stack

left-nots : (xs : List Step) (n : ℕ) → left (xs ++ replicate n steps.Not) ≡ left xs
left-nots xs n = left-more xs (replicate n steps.Not) ∙ nots-stay n (after xs [])

-- ---- how many sets are wanted

abbrev one : Bool → ℕ
one true = 1
one false = 0

-- sets before operators that wait
abbrev waiting : Level → ℕ
waiting l = one l.has_or + one l.has_and

abbrev named_there : Call → ℕ
named_there calls.Bookmark = 1
named_there calls.Group = 0
named_there calls.Ancestors = 0
named_there calls.Descendants = 0
named_there calls.Heads = 0
named_there calls.Roots = 0
named_there calls.Public = 0
named_there calls.Draft = 0
named_there calls.Secret = 0
named_there calls.All = 0

-- the set of the operand, where one stands
abbrev there : Call → At → ℕ
there behind First = 1
there behind Upwards = 1
there behind Whole = 1
there behind Wanted = 0
there behind Bound = 0
there behind Named = 0
there behind Closed = named_there behind

-- whether the reader may stand there behind this behind's `(`
abbrev fits_set : At → Bool
fits_set Wanted = true
fits_set Bound = true
fits_set First = true
fits_set Upwards = true
fits_set Whole = true
fits_set Named = false
fits_set Closed = false

abbrev fits_name : At → Bool
fits_name Named = true
fits_name Closed = true
fits_name Wanted = false
fits_name Bound = false
fits_name First = false
fits_name Upwards = false
fits_name Whole = false

abbrev fits_nothing : At → Bool
fits_nothing Closed = true
fits_nothing Named = false
fits_nothing Wanted = false
fits_nothing Bound = false
fits_nothing First = false
fits_nothing Upwards = false
fits_nothing Whole = false

abbrev Fits : Call → Level → Type 0
Fits calls.Group l = fits_set l.at ≡ true
Fits calls.Ancestors l = fits_set l.at ≡ true
Fits calls.Descendants l = fits_set l.at ≡ true
Fits calls.Heads l = fits_set l.at ≡ true
Fits calls.Roots l = fits_set l.at ≡ true
Fits calls.Bookmark l = (fits_name l.at ≡ true) × (l.has_or ≡ false) × (l.has_and ≡ false)
Fits calls.Public l = (fits_nothing l.at ≡ true) × (l.has_or ≡ false) × (l.has_and ≡ false)
Fits calls.Draft l = (fits_nothing l.at ≡ true) × (l.has_or ≡ false) × (l.has_and ≡ false)
Fits calls.Secret l = (fits_nothing l.at ≡ true) × (l.has_or ≡ false) × (l.has_and ≡ false)
Fits calls.All l = (fits_nothing l.at ≡ true) × (l.has_or ≡ false) × (l.has_and ≡ false)

-- of the levels that are open, behind the `(` of a behind
abbrev below : Call → List Frame → ℕ
below behind [] = 0
below behind (f ∷ fs) = waiting f.level + there behind f.level.at + below f.call fs

abbrev inner : Call → List Frame → Call
inner behind [] = behind
inner behind (f ∷ fs) = inner f.call fs

abbrev AreOpen : Call → List Frame → Type 0
AreOpen behind [] = Unit {0}
AreOpen behind (f ∷ fs) = Fits behind f.level × (wants_atom f.level.at ≡ true) × AreOpen f.call fs

-- where so many more sets stand than are wanted
record Stands (more : ℕ) (p : Parse) : Type 0 where
  count : left p.steps ≡ below calls.Group p.frames + (waiting p.level + there (inner calls.Group p.frames) p.level.at) + more
  fit : Fits (inner calls.Group p.frames) p.level
  frames : AreOpen calls.Group p.frames

abbrev IsSound : Parse → Type 0
IsSound p = Stands 0 p

-- ---- frames

below-more : (behind : Call) (fs : List Frame) (f : Frame) → below behind (fs ++ f ∷ []) ≡ below behind fs + (waiting f.level + there (inner behind fs) f.level.at)
below-more behind [] f = omega arith
below-more behind (g ∷ fs) f = let e = below-more g.call fs f in omega (arith, e)

inner-more : (behind : Call) (fs : List Frame) (f : Frame) → inner behind (fs ++ f ∷ []) ≡ f.call
inner-more behind [] f = refl
inner-more behind (g ∷ fs) f = inner-more g.call fs f

open-more : (behind : Call) (fs : List Frame) (f : Frame) → AreOpen behind fs → Fits (inner behind fs) f.level → wants_atom f.level.at ≡ true → AreOpen behind (fs ++ f ∷ [])
open-more behind [] f all fit at = (fit, at, tt)
open-more behind (g ∷ fs) f all fit at = (all.0, all.1, open-more g.call fs f all.2 fit at)

open-less : (behind : Call) (fs : List Frame) (f : Frame) → AreOpen behind (fs ++ f ∷ []) → AreOpen behind fs × Fits (inner behind fs) f.level × (wants_atom f.level.at ≡ true)
open-less behind [] f all = (tt, all.0, all.1)
open-less behind (g ∷ fs) f all = let e = open-less g.call fs f all.2 in ((all.0, all.1, e.0), e.1, e.2)

frame-same : (f g : Frame) → Some f ≡ Some g → f ≡ g
frame-same f g e = cc

last-at : (fs : List Frame) (n : ℕ) (f : Frame) → slice_get fs n ≡ Some f → length fs ≤ n + 1 → fs ≡ take n fs ++ f ∷ []
last-at [] n f e le = absurd (by e)
  where
    by : None ≡ Some f → ⊥
    by k = cc
last-at (g ∷ []) zero f e le = ap (λ x. x ∷ []) (frame-same g f e)
last-at (g ∷ h ∷ fs) zero f e le = absurd (omega (arith, le))
last-at (g ∷ fs) (suc n) f e le = ap (λ xs. g ∷ xs) (last-at fs n f e (omega (arith, le)))

last-frame : (fs : List Frame) (f : Frame) → slice_get fs (length fs - 1) ≡ Some f → fs ≡ take (length fs - 1) fs ++ f ∷ []
last-frame fs f e = last-at fs (length fs - 1) f e (omega arith)

-- ---- atoms

-- the level may stand at another place
nothing-set : (at : At) → fits_nothing at ≡ true → fits_set at ≡ true → false ≡ true
nothing-set Wanted h k = h
nothing-set Bound h k = h
nothing-set First h k = h
nothing-set Upwards h k = h
nothing-set Whole h k = h
nothing-set Named h k = h
nothing-set Closed h k = k

set-level : (behind : Call) (l : Level) (at : At) → fits_set l.at ≡ true → fits_set at ≡ true → Fits behind l → Fits behind (record l { at = at })
set-level calls.Group l at was is fit = is
set-level calls.Ancestors l at was is fit = is
set-level calls.Descendants l at was is fit = is
set-level calls.Heads l at was is fit = is
set-level calls.Roots l at was is fit = is
set-level calls.Bookmark l at was is fit = no (by l.at fit.0 was)
  where
    by : (at : At) → fits_name at ≡ true → fits_set at ≡ true → false ≡ true
    by Wanted h k = h
    by Bound h k = h
    by First h k = h
    by Upwards h k = h
    by Whole h k = h
    by Named h k = k
    by Closed h k = k
set-level calls.Public l at was is fit = no (nothing-set l.at fit.0 was)
set-level calls.Draft l at was is fit = no (nothing-set l.at fit.0 was)
set-level calls.Secret l at was is fit = no (nothing-set l.at fit.0 was)
set-level calls.All l at was is fit = no (nothing-set l.at fit.0 was)

-- behind `bookmark(` alone a name may end the argument
name-level : (behind : Call) (l : Level) → l.at ≡ Named → Fits behind l → (named_there behind ≡ 1) × Fits behind (record l { at = Closed })
name-level calls.Group l at fit = no (sym (ap fits_set at) ∙ fit)
name-level calls.Ancestors l at fit = no (sym (ap fits_set at) ∙ fit)
name-level calls.Descendants l at fit = no (sym (ap fits_set at) ∙ fit)
name-level calls.Heads l at fit = no (sym (ap fits_set at) ∙ fit)
name-level calls.Roots l at fit = no (sym (ap fits_set at) ∙ fit)
name-level calls.Bookmark l at fit = (refl, (refl, fit.1, fit.2))
name-level calls.Public l at fit = no (sym (ap fits_nothing at) ∙ fit.0)
name-level calls.Draft l at fit = no (sym (ap fits_nothing at) ∙ fit.0)
name-level calls.Secret l at fit = no (sym (ap fits_nothing at) ∙ fit.0)
name-level calls.All l at fit = no (sym (ap fits_nothing at) ∙ fit.0)

-- a set behind a range that began with another
upwards-left : (xs : List Step) (n : ℕ) → left xs ≡ n + 2 → left (xs ++ (steps.Ancestors ∷ steps.And ∷ [])) ≡ n + 1
upwards-left xs n e = left-more xs (steps.Ancestors ∷ steps.And ∷ []) ∙ two-join _ (stepped steps.Ancestors (after xs [])) n (one-stays _ (after xs []) ∙ e)

bound-left : (xs : List Step) → left (xs ++ steps.Ancestors ∷ []) ≡ left xs
bound-left xs = left-more xs (steps.Ancestors ∷ []) ∙ one-stays _ (after xs [])

range-left : (xs : List Step) → left (xs ++ steps.Descendants ∷ []) ≡ left xs
range-left xs = left-more xs (steps.Descendants ∷ []) ∙ one-stays _ (after xs [])

-- an atom of one set ends here
atom-sound : (at : At) (p : Parse) → p.level.at ≡ at → wants_name at ≡ true → Stands 1 p → IsSound (with_atom at p)
atom-sound Wanted p is wants h =
    let c = h.count in
    let t : there (inner calls.Group p.frames) p.level.at ≡ 0 = ap (there (inner calls.Group p.frames)) is in
    record { count = omega (arith, c, t); fit = set-level (inner calls.Group p.frames) p.level First (ap fits_set is) refl h.fit; frames = h.frames }
atom-sound Bound p is wants h =
    let c = h.count in
    let t : there (inner calls.Group p.frames) p.level.at ≡ 0 = ap (there (inner calls.Group p.frames)) is in
    let e = bound-left p.steps in
    record { count = omega (arith, c, t, e); fit = set-level (inner calls.Group p.frames) p.level Whole (ap fits_set is) refl h.fit; frames = h.frames }
atom-sound Upwards p is wants h =
    let c = h.count in
    let t : there (inner calls.Group p.frames) p.level.at ≡ 1 = ap (there (inner calls.Group p.frames)) is in
    let e = upwards-left p.steps (below calls.Group p.frames + waiting p.level) (omega (arith, c, t)) in
    record { count = omega (arith, e); fit = set-level (inner calls.Group p.frames) p.level Whole (ap fits_set is) refl h.fit; frames = h.frames }
atom-sound Named p is wants h =
    let c = h.count in
    let t : there (inner calls.Group p.frames) p.level.at ≡ 0 = ap (there (inner calls.Group p.frames)) is in
    let n = name-level (inner calls.Group p.frames) p.level is h.fit in
    let k = n.0 in
    record { count = omega (arith, c, t, k); fit = n.1; frames = h.frames }
atom-sound First p is wants h = no wants
atom-sound Whole p is wants h = no wants
atom-sound Closed p is wants h = no wants

-- ---- operators

-- the end of a negation, of a conjunction, of a set, where an operand stands
stands-there : (behind : Call) (at : At) → stands at ≡ true → there behind at ≡ 1
stands-there behind First h = refl
stands-there behind Upwards h = refl
stands-there behind Whole h = refl
stands-there behind Wanted h = no h
stands-there behind Bound h = no h
stands-there behind Named h = no h
stands-there behind Closed h = no h

stands-set : (at : At) → stands at ≡ true → fits_set at ≡ true
stands-set First h = refl
stands-set Upwards h = refl
stands-set Whole h = refl
stands-set Wanted h = no h
stands-set Bound h = no h
stands-set Named h = no h
stands-set Closed h = no h

when-left : (b : Bool) (step : Step) (f : Set → Set → Set) (xs : List Step) (n : ℕ) → ((stack : List Set) → stepped step stack ≡ on_two f stack) → left xs ≡ n + one b + 1 → left (xs ++ when b step) ≡ n + 1
when-left true step f xs n is e = left-more xs (step ∷ []) ∙ ap (λ (stack : List Set). length stack) (is (after xs [])) ∙ two-join f (after xs []) n (omega (arith, e))
when-left false step f xs n is e = ap left (append-nil xs) ∙ omega (arith, e)

conjunction-left : (p : Parse) (n : ℕ) → left p.steps ≡ n + one p.level.has_and + 1 → left (with_conjunction p).steps ≡ n + 1
conjunction-left p n e = when-left p.level.has_and steps.And _ (with_negation p).steps n (λ stack. refl) (left-nots p.steps (p.depth - p.level.base) ∙ e)

set-left : (p : Parse) (n : ℕ) → left p.steps ≡ n + waiting p.level + 1 → left (with_set p).steps ≡ n + 1
set-left p n e = when-left p.level.has_or steps.Or _ (with_conjunction p).steps n (λ stack. refl) (conjunction-left p (n + one p.level.has_or) (omega (arith, e)))

-- nothing waits
none-left : (p : Parse) → p.level.has_or ≡ false → p.level.has_and ≡ false → left (with_set p).steps ≡ left p.steps
none-left p no_or no_and =
    ap (λ b. left ((with_conjunction p).steps ++ when b steps.Or)) no_or ∙ ap left (append-nil (with_conjunction p).steps)
    ∙ ap (λ b. left ((with_negation p).steps ++ when b steps.And)) no_and ∙ ap left (append-nil (with_negation p).steps) ∙ left-nots p.steps (p.depth - p.level.base)

-- ---- tokens

abbrev Sound : Result Parse SetFault → Type 0
Sound (Ok p) = IsSound p
Sound (Err fault) = Unit {0}

if-sound : (b : Bool) (x : Parse) (fault : SetFault) → (b ≡ true → IsSound x) → Sound (if b then Ok x else Err fault)
if-sound true x fault h = h refl
if-sound false x fault h = tt

here-count : (p : Parse) → stands p.level.at ≡ true → IsSound p → left p.steps ≡ below calls.Group p.frames + waiting p.level + 1
here-count p at h =
    let c = h.count in
    let t = stands-there (inner calls.Group p.frames) p.level.at at in
    omega (arith, c, t)

-- an operand is wanted behind an operator
operand-fit : (behind : Call) (l : Level) (has_or has_and : Bool) → stands l.at ≡ true → Fits behind l → Fits behind (record l { at = Wanted; has_or = has_or; has_and = has_and })
operand-fit calls.Group l o a at fit = refl
operand-fit calls.Ancestors l o a at fit = refl
operand-fit calls.Descendants l o a at fit = refl
operand-fit calls.Heads l o a at fit = refl
operand-fit calls.Roots l o a at fit = refl
operand-fit calls.Bookmark l o a at fit = no (by l.at at fit.0)
  where
    by : (at : At) → stands at ≡ true → fits_name at ≡ true → false ≡ true
    by Wanted h k = h
    by Bound h k = h
    by First h k = k
    by Upwards h k = k
    by Whole h k = k
    by Named h k = h
    by Closed h k = h
operand-fit calls.Public l o a at fit = no (nothing-set l.at fit.0 (stands-set l.at at))
operand-fit calls.Draft l o a at fit = no (nothing-set l.at fit.0 (stands-set l.at at))
operand-fit calls.Secret l o a at fit = no (nothing-set l.at fit.0 (stands-set l.at at))
operand-fit calls.All l o a at fit = no (nothing-set l.at fit.0 (stands-set l.at at))

and-sound : (place : ℕ) (p : Parse) → IsSound p → Sound (take_and place p)
and-sound place p h =
    if-sound (stands p.level.at) (record (with_conjunction p) { level = record p.level { at = Wanted; has_and = true } }) (Bad place) (λ at.
    let e = conjunction-left p (below calls.Group p.frames + one p.level.has_or) (let c = here-count p at h in omega (arith, c)) in
    record { count = omega (arith, e); fit = operand-fit (inner calls.Group p.frames) p.level p.level.has_or true at h.fit; frames = h.frames })

or-sound : (place : ℕ) (p : Parse) → IsSound p → Sound (take_or place p)
or-sound place p h =
    if-sound (stands p.level.at) (record (with_set p) { level = record p.level { at = Wanted; has_and = false; has_or = true } }) (Bad place) (λ at.
    let e = set-left p (below calls.Group p.frames) (here-count p at h) in
    record { count = omega (arith, e); fit = operand-fit (inner calls.Group p.frames) p.level true false at h.fit; frames = h.frames })

not-sound : (place : ℕ) (p : Parse) → IsSound p → Sound (take_not place p)
not-sound place p h =
    if-sound (is_wanted p.level.at && nat_lt p.depth deepest) (record p { depth = p.depth + 1 }) (Bad place) (λ at.
    record { count = h.count; fit = h.fit; frames = h.frames })

range-at : (at : At) (place : ℕ) (p : Parse) → p.level.at ≡ at → IsSound p → Sound (take_range_at at place p)
range-at Wanted place p is h =
    let c = h.count in
    let t : there (inner calls.Group p.frames) p.level.at ≡ 0 = ap (there (inner calls.Group p.frames)) is in
    record { count = omega (arith, c, t); fit = set-level (inner calls.Group p.frames) p.level Bound (ap fits_set is) refl h.fit; frames = h.frames }
range-at First place p is h =
    let c = h.count in
    let t : there (inner calls.Group p.frames) p.level.at ≡ 1 = ap (there (inner calls.Group p.frames)) is in
    let e = range-left p.steps in
    record { count = omega (arith, c, t, e); fit = set-level (inner calls.Group p.frames) p.level Upwards (ap fits_set is) refl h.fit; frames = h.frames }
range-at Bound place p is h = tt
range-at Upwards place p is h = tt
range-at Whole place p is h = tt
range-at Named place p is h = tt
range-at Closed place p is h = tt

name-left : (at : At) (word : List ℕ) (xs : List Step) → left (xs ++ name_step at word ∷ []) ≡ left xs + 1
name-left at word xs = left-more xs (name_step at word ∷ []) ∙ by at
  where
    by : (at : At) → length (stepped (name_step at word) (after xs [])) ≡ left xs + 1
    by Named = omega arith
    by Wanted = omega arith
    by Bound = omega arith
    by First = omega arith
    by Upwards = omega arith
    by Whole = omega arith
    by Closed = omega arith

name-sound : (place : ℕ) (word : List ℕ) (p : Parse) → IsSound p → Sound (take_name place word p)
name-sound place word p h =
    let q = emitted p (name_step p.level.at word ∷ []) in
    if-sound (wants_name p.level.at) (with_atom p.level.at q) (Bad place) (λ wants.
    let e = name-left p.level.at word p.steps in
    let c = h.count in
    atom-sound p.level.at q refl wants (record { count = omega (arith, e, c); fit = h.fit; frames = h.frames }))

-- ---- `(` and `)`

fresh-fit : (behind : Call) (base : ℕ) → Fits behind (record { at = first_at behind; has_or = false; has_and = false; base = base })
fresh-fit calls.Group base = refl
fresh-fit calls.Ancestors base = refl
fresh-fit calls.Descendants base = refl
fresh-fit calls.Heads base = refl
fresh-fit calls.Roots base = refl
fresh-fit calls.Bookmark base = (refl, refl, refl)
fresh-fit calls.Public base = (refl, refl, refl)
fresh-fit calls.Draft base = (refl, refl, refl)
fresh-fit calls.Secret base = (refl, refl, refl)
fresh-fit calls.All base = (refl, refl, refl)

fresh-there : (behind : Call) → there behind (first_at behind) ≡ 0
fresh-there calls.Group = refl
fresh-there calls.Ancestors = refl
fresh-there calls.Descendants = refl
fresh-there calls.Heads = refl
fresh-there calls.Roots = refl
fresh-there calls.Bookmark = refl
fresh-there calls.Public = refl
fresh-there calls.Draft = refl
fresh-there calls.Secret = refl
fresh-there calls.All = refl

and-first : (a b : Bool) → (a && b) ≡ true → a ≡ true
and-first true b h = refl
and-first false b h = h

open-sound : (place : ℕ) (behind : Call) (p : Parse) → IsSound p → Sound (take_open place behind p)
open-sound place behind p h =
    let f : Frame = record { call = behind; level = p.level; depth = p.depth } in
    let l : Level = record { at = first_at behind; has_or = false; has_and = false; base = p.depth + 1 } in
    let c = h.count in
    let b = below-more calls.Group p.frames f in
    let same = inner-more calls.Group p.frames f in
    let t : there (inner calls.Group (p.frames ++ f ∷ [])) (first_at behind) ≡ 0 = ap (λ k. there k (first_at behind)) same ∙ fresh-there behind in
    if-sound (wants_atom p.level.at && nat_lt p.depth deepest) (opened behind p) (Bad place) (λ wants.
    record {
      count = omega (arith, c, b, t);
      fit = subst (λ k. Fits k l) (sym same) (fresh-fit behind (p.depth + 1));
      frames = open-more calls.Group p.frames f h.frames h.fit (and-first (wants_atom p.level.at) (nat_lt p.depth deepest) wants);
    })

known-sound : (from place : ℕ) (behind : Option Call) (p : Parse) → IsSound p → Sound (take_known from place behind p)
known-sound from place None p h = tt
known-sound from place (Some behind) p h = open-sound place behind p h

call-sound : (from place : ℕ) (word : List ℕ) (p : Parse) → IsSound p → Sound (take_call from place word p)
call-sound from place word p h = by (wants_atom p.level.at)
  where
    by : (b : Bool) → Sound (if b then take_known from place (call_named word) p else Err (Bad from))
    by true = known-sound from place (call_named word) p h
    by false = tt

atom-name : (at : At) → wants_atom at ≡ true → wants_name at ≡ true
atom-name Wanted h = refl
atom-name Bound h = refl
atom-name Upwards h = refl
atom-name First h = h
atom-name Whole h = h
atom-name Named h = refl
atom-name Closed h = h

-- what stands behind the `)` is one set more
closes-stand : (at : At) → fits_set at ≡ true → may_close at ≡ true → stands at ≡ true
closes-stand Wanted fit h = h
closes-stand Bound fit h = h
closes-stand First fit h = refl
closes-stand Upwards fit h = refl
closes-stand Whole fit h = refl
closes-stand Named fit h = h
closes-stand Closed fit h = fit

closes-name : (at : At) → fits_name at ≡ true → may_close at ≡ true → at ≡ Closed
closes-name Closed fit h = refl
closes-name Named fit h = no h
closes-name Wanted fit h = no fit
closes-name Bound fit h = no fit
closes-name First fit h = no fit
closes-name Upwards fit h = no fit
closes-name Whole fit h = no fit

closes-nothing : (at : At) → fits_nothing at ≡ true → at ≡ Closed
closes-nothing Closed fit = refl
closes-nothing Named fit = no fit
closes-nothing Wanted fit = no fit
closes-nothing Bound fit = no fit
closes-nothing First fit = no fit
closes-nothing Upwards fit = no fit
closes-nothing Whole fit = no fit

-- the set behind the `(` of a behind that takes one
argument-left : (p : Parse) (n : ℕ) (behind : Call) → left p.steps ≡ n + (waiting p.level + there behind p.level.at) → fits_set p.level.at ≡ true → may_close p.level.at ≡ true → left (with_set p).steps ≡ n + 1
argument-left p n behind c fit closes =
    let t = stands-there behind p.level.at (closes-stand p.level.at fit closes) in
    set-left p n (omega (arith, c, t))

one-more : (step : Step) (f : Set → Set) (xs : List Step) → ((stack : List Set) → stepped step stack ≡ on_one f stack) → left (xs ++ step ∷ []) ≡ left xs
one-more step f xs is = left-more xs (step ∷ []) ∙ ap (λ (stack : List Set). length stack) (is (after xs [])) ∙ one-stays f (after xs [])

put-more : (step : Step) (a : Set) (xs : List Step) → ((stack : List Set) → stepped step stack ≡ a ∷ stack) → left (xs ++ step ∷ []) ≡ left xs + 1
put-more step a xs is = left-more xs (step ∷ []) ∙ ap (λ (stack : List Set). length stack) (is (after xs [])) ∙ omega arith

no-argument : (p : Parse) (n : ℕ) (behind : Call) → left p.steps ≡ n + (waiting p.level + there behind p.level.at) → p.level.at ≡ Closed → p.level.has_or ≡ false → p.level.has_and ≡ false → left (with_set p).steps ≡ n + named_there behind
no-argument p n behind c at no_or no_and =
    let e = none-left p no_or no_and in
    let t : there behind p.level.at ≡ named_there behind = ap (there behind) at in
    let o : one p.level.has_or ≡ 0 = ap one no_or in
    let a : one p.level.has_and ≡ 0 = ap one no_and in
    omega (arith, e, c, t, o, a)

closed-left : (behind : Call) (p : Parse) (n : ℕ) → left p.steps ≡ n + (waiting p.level + there behind p.level.at) → Fits behind p.level → may_close p.level.at ≡ true → left ((with_set p).steps ++ call_steps behind) ≡ n + 1
closed-left calls.Group p n c fit closes = ap left (append-nil (with_set p).steps) ∙ argument-left p n calls.Group c fit closes
closed-left calls.Ancestors p n c fit closes = one-more steps.Ancestors _ (with_set p).steps (λ stack. refl) ∙ argument-left p n calls.Ancestors c fit closes
closed-left calls.Descendants p n c fit closes = one-more steps.Descendants _ (with_set p).steps (λ stack. refl) ∙ argument-left p n calls.Descendants c fit closes
closed-left calls.Heads p n c fit closes = one-more steps.Heads _ (with_set p).steps (λ stack. refl) ∙ argument-left p n calls.Heads c fit closes
closed-left calls.Roots p n c fit closes = one-more steps.Roots _ (with_set p).steps (λ stack. refl) ∙ argument-left p n calls.Roots c fit closes
closed-left calls.Bookmark p n c fit closes = ap left (append-nil (with_set p).steps) ∙ no-argument p n calls.Bookmark c (closes-name p.level.at fit.0 closes) fit.1 fit.2
closed-left calls.Public p n c fit closes = let e = no-argument p n calls.Public c (closes-nothing p.level.at fit.0) fit.1 fit.2 in put-more (steps.InPhase _) _ (with_set p).steps (λ stack. refl) ∙ omega (arith, e)
closed-left calls.Draft p n c fit closes = let e = no-argument p n calls.Draft c (closes-nothing p.level.at fit.0) fit.1 fit.2 in put-more (steps.InPhase _) _ (with_set p).steps (λ stack. refl) ∙ omega (arith, e)
closed-left calls.Secret p n c fit closes = let e = no-argument p n calls.Secret c (closes-nothing p.level.at fit.0) fit.1 fit.2 in put-more (steps.InPhase _) _ (with_set p).steps (λ stack. refl) ∙ omega (arith, e)
closed-left calls.All p n c fit closes = let e = no-argument p n calls.All c (closes-nothing p.level.at fit.0) fit.1 fit.2 in put-more steps.All _ (with_set p).steps (λ stack. refl) ∙ omega (arith, e)

closed-sound : (f : Frame) (fs : List Frame) (p : Parse) → p.frames ≡ fs ++ f ∷ [] → take (length p.frames - 1) p.frames ≡ fs → may_close p.level.at ≡ true → IsSound p → IsSound (closed_by f p)
closed-sound f fs p is front closes h =
    let c = h.count in
    let inside : inner calls.Group p.frames ≡ f.call = ap (inner calls.Group) is ∙ inner-more calls.Group fs f in
    let under : below calls.Group p.frames ≡ below calls.Group fs + (waiting f.level + there (inner calls.Group fs) f.level.at) = ap (below calls.Group) is ∙ below-more calls.Group fs f in
    let t : there (inner calls.Group p.frames) p.level.at ≡ there f.call p.level.at = ap (λ k. there k p.level.at) inside in
    let n = below calls.Group p.frames in
    let e = closed-left f.call p n (omega (arith, c, t)) (subst (λ k. Fits k p.level) inside h.fit) closes in
    let less = open-less calls.Group fs f (subst (AreOpen calls.Group) is h.frames) in
    let q : Parse = record { steps = (with_set p).steps ++ call_steps f.call; frames = take (length p.frames - 1) p.frames; level = f.level; depth = f.depth } in
    atom-sound f.level.at q refl (atom-name f.level.at less.2) (subst (λ gs. Stands 1 (record { steps = (with_set p).steps ++ call_steps f.call; frames = gs; level = f.level; depth = f.depth })) (sym front) (record {
      count = omega (arith, e, under);
      fit = less.1;
      frames = less.0;
    }))

close-of : (o : Option Frame) (place : ℕ) (p : Parse) → slice_get p.frames (length p.frames - 1) ≡ o → IsSound p → Sound (take_close_of o place p)
close-of None place p is h = tt
close-of (Some f) place p is h = if-sound (may_close p.level.at) (closed_by f p) (Bad place) (λ closes. closed-sound f (take (length p.frames - 1) p.frames) p (last-frame p.frames f is) refl closes h)

close-sound : (place : ℕ) (p : Parse) → IsSound p → Sound (take_close place p)
close-sound place p h = close-of (slice_get p.frames (length p.frames - 1)) place p refl h

-- ---- bytes

abbrev SoundReading : Result Reading SetFault → Type 0
SoundReading (Ok r) = IsSound r.parse
SoundReading (Err fault) = Unit {0}

between-sound : (x : Result Parse SetFault) → Sound x → SoundReading (between x)
between-sound (Ok p) h = h
between-sound (Err fault) h = tt

choose : (b : Bool) (x y : Result Parse SetFault) → Sound x → Sound y → Sound (if b then x else y)
choose true x y h k = h
choose false x y h k = k

choose-reading : (b : Bool) (x y : Result Reading SetFault) → SoundReading x → SoundReading y → SoundReading (if b then x else y)
choose-reading true x y h k = h
choose-reading false x y h k = k

onward-sound : (x : Result Parse SetFault) (f : Parse → Result Reading SetFault) → Sound x → ((p : Parse) → IsSound p → SoundReading (f p)) → SoundReading (onward x f)
onward-sound (Ok p) f h k = k p h
onward-sound (Err fault) f h k = tt

word-sound : (from : ℕ) (word : List ℕ) (p : Parse) → IsSound p → Sound (take_word from word p)
word-sound from word p h =
    choose (same word (codes "and")) (take_and from p) _ (and-sound from p h)
    (choose (same word (codes "or")) (take_or from p) _ (or-sound from p h)
    (choose (same word (codes "not")) (take_not from p) (take_name from word p) (not-sound from p h) (name-sound from word p h)))

first-sound : (place b : ℕ) (p : Parse) → IsSound p → SoundReading (take_first place b p)
first-sound place b p h =
    choose-reading (b == 32) _ _ h
    (choose-reading (b == 40) (between (take_open place calls.Group p)) _ (between-sound (take_open place calls.Group p) (open-sound place calls.Group p h))
    (choose-reading (b == 41) (between (take_close place p)) _ (between-sound (take_close place p) (close-sound place p h))
    (choose-reading (b == 58) _ _ h
    (choose-reading (b == 34) _ _ (choose-reading (wants_name p.level.at) (Ok (at_mode (Quote place) [] p)) (Err (Bad place)) h tt)
    (choose-reading (is_name_byte b) (Ok (at_mode (Word place) (b ∷ []) p)) (Err (Bad place)) h tt)))))

behind-sound : (from place b : ℕ) (word : List ℕ) (p : Parse) → IsSound p → SoundReading (take_behind from place b word p)
behind-sound from place b word p h =
    choose-reading (b == 40 && not (is_operator word)) (between (take_call from place word p)) (onward (take_word from word p) (take_first place b))
    (between-sound (take_call from place word p) (call-sound from place word p h))
    (onward-sound (take_word from word p) (take_first place b) (word-sound from word p h) (first-sound place b))

byte-sound : (mode : Mode) (place b : ℕ) (word : List ℕ) (p : Parse) → IsSound p → SoundReading (take_byte_at mode place b word p)
byte-sound Between place b word p h = first-sound place b p h
byte-sound (Word from) place b word p h = choose-reading (is_name_byte b) (Ok (at_mode (Word from) (word ++ b ∷ []) p)) (take_behind from place b word p) h (behind-sound from place b word p h)
byte-sound (Colon from) place b word p h = choose-reading (b == 58) (between (take_range from p)) (Err (Bad from)) (between-sound (take_range from p) (range-at p.level.at from p refl h)) tt
byte-sound (Quote from) place b word p h =
    choose-reading (b == 34) (between (take_name from word p)) (Ok (at_mode (Quote from) (word ++ b ∷ []) p)) (between-sound (take_name from word p) (name-sound from word p h)) h

reading-onward : (x : Result Reading SetFault) (f : Reading → Result Reading SetFault) → SoundReading x → ((r : Reading) → IsSound r.parse → SoundReading (f r)) → SoundReading (onward x f)
reading-onward (Ok r) f h k = k r h
reading-onward (Err fault) f h k = tt

bytes-sound : (place : ℕ) (bytes : List ℕ) (r : Reading) → IsSound r.parse → SoundReading (take_bytes place bytes r)
bytes-sound place [] r h = h
bytes-sound place (b ∷ bytes) r h = reading-onward (take_byte place b r) (take_bytes (place + 1) bytes) (byte-sound r.mode place b r.word r.parse h) (bytes-sound (place + 1) bytes)

-- ---- the end

abbrev LeavesOne : Result (List Step) SetFault → Type 0
LeavesOne (Ok steps) = left steps ≡ 1
LeavesOne (Err fault) = Unit {0}

no-more : (fs : List Frame) → (length fs == 0) ≡ true → fs ≡ []
no-more [] h = refl
no-more (f ∷ fs) h = no (sym (more (length fs)) ∙ h)
  where
    more : (n : ℕ) → (suc n == 0) ≡ false
    more n = grind (arith, nat_tests)

and-second : (a b : Bool) → (a && b) ≡ true → b ≡ true
and-second true b h = h
and-second false b h = no h

if-one : (b : Bool) (steps : List Step) (fault : SetFault) → (b ≡ true → left steps ≡ 1) → LeavesOne (if b then Ok steps else Err fault)
if-one true steps fault h = h refl
if-one false steps fault h = tt

end-one : (place : ℕ) (p : Parse) → IsSound p → LeavesOne (take_end place p)
end-one place p h =
    if-one ((length p.frames == 0) && stands p.level.at) (with_set p).steps (Bad place) (λ t.
    let at = and-second (length p.frames == 0) (stands p.level.at) t in
    let b : below calls.Group p.frames ≡ 0 = ap (below calls.Group) (no-more p.frames (and-first (length p.frames == 0) (stands p.level.at) t)) in
    let e = set-left p (below calls.Group p.frames) (here-count p at h) in
    omega (arith, e, b))

end-onward : (x : Result Parse SetFault) (place : ℕ) → Sound x → LeavesOne (onward x (take_end place))
end-onward (Ok p) place h = end-one place p h
end-onward (Err fault) place h = tt

finish-one : (mode : Mode) (place : ℕ) (word : List ℕ) (p : Parse) → IsSound p → LeavesOne (finish_at mode place word p)
finish-one Between place word p h = end-one place p h
finish-one (Word from) place word p h = end-onward (take_word from word p) place (word-sound from word p h)
finish-one (Colon from) place word p h = tt
finish-one (Quote from) place word p h = tt

finish-onward : (x : Result Reading SetFault) (place : ℕ) → SoundReading x → LeavesOne (onward x (finish place))
finish-onward (Ok r) place h = finish-one r.mode place r.word r.parse h
finish-onward (Err fault) place h = tt

start-sound : IsSound start
start-sound = record { count = refl; fit = refl; frames = tt }

text-one : (text : List ℕ) → LeavesOne (steps_of_text text)
text-one text = finish-onward (take_bytes 0 text (at_mode Between [] start)) (length text) (bytes-sound 0 text (at_mode Between [] start) start-sound)

limited-one : (count : ℕ) (x : Result (List Step) SetFault) → LeavesOne x → LeavesOne (limited count x)
limited-one count (Ok steps) h = if-one (nat_le count longest) steps (Bad longest) (λ t. h)
limited-one count (Err (Bad place)) h = tt
limited-one count (Err Memory) h = tt

only-one : (stack : List Set) → length stack ≡ 1 → stack ≡ top_of stack ∷ []
only-one [] e = absurd (omega (arith, e))
only-one (a ∷ []) e = refl
only-one (a ∷ b ∷ rest) e = absurd (omega (arith, e))

pub steps_are_whole : (text : List ℕ) (all : List Step) → read_steps text ≡ Ok all → IsWhole all
steps_are_whole text all e = only-one (after all []) (subst LeavesOne e (limited-one (length text) (steps_of_text text) (text-one text)))

-- ---- names

-- whether all names of these sets are known
abbrev stack_known : Story → List Set → Bool
stack_known s [] = true
stack_known s (a ∷ rest) = is_known s a && stack_known s rest

-- the same two, and others
both-first : (a b c : Bool) → (b && (a && c)) ≡ ((a && b) && c)
both-first true true c = refl
both-first true false c = refl
both-first false true c = refl
both-first false false c = refl

step-first : (a b c : Bool) → ((a && b) && c) ≡ (b && (a && c))
step-first true true c = refl
step-first true false c = refl
step-first false true c = refl
step-first false false c = refl

one-known : (s : Story) (f : Set → Set) (stack : List Set) → ((a : Set) → is_known s (f a) ≡ is_known s a) → stack_known s stack ≡ stack_known s (on_one f stack)
one-known s f [] is = refl
one-known s f (a ∷ rest) is = ap (λ b. b && stack_known s rest) (sym (is a))

two-known : (s : Story) (f : Set → Set → Set) (stack : List Set) → ((a b : Set) → is_known s (f a b) ≡ (is_known s a && is_known s b)) → stack_known s stack ≡ stack_known s (on_two f stack)
two-known s f [] is = refl
two-known s f (b ∷ []) is = refl
two-known s f (b ∷ a ∷ rest) is = both-first (is_known s a) (is_known s b) (stack_known s rest) ∙ ap (λ k. k && stack_known s rest) (sym (is a b))

step-names : (s : Story) (step : Step) (stack : List Set) → (step_known s step && stack_known s stack) ≡ stack_known s (stepped step stack)
step-names s (steps.Name n) stack = refl
step-names s (steps.Marked n) stack = refl
step-names s steps.All stack = refl
step-names s (steps.InPhase p) stack = refl
step-names s steps.Not stack = one-known s _ stack (λ a. refl)
step-names s steps.Ancestors stack = one-known s _ stack (λ a. refl)
step-names s steps.Descendants stack = one-known s _ stack (λ a. refl)
step-names s steps.Heads stack = one-known s _ stack (λ a. refl)
step-names s steps.Roots stack = one-known s _ stack (λ a. refl)
step-names s steps.And stack = two-known s _ stack (λ a b. refl)
step-names s steps.Or stack = two-known s _ stack (λ a b. refl)

names : (s : Story) (all : List Step) (stack : List Set) → (all_known s all && stack_known s stack) ≡ stack_known s (after all stack)
names s [] stack = refl
names s (step ∷ more) stack =
    step-first (step_known s step) (all_known s more) (stack_known s stack) ∙ ap (λ b. all_known s more && b) (step-names s step stack) ∙ names s more (stepped step stack)

and-true : (b : Bool) → (b && true) ≡ b
and-true true = refl
and-true false = refl

pub names_of_steps : (s : Story) (all : List Step) → IsWhole all → all_known s all ≡ is_known s (set_of all)
names_of_steps s all whole = sym (and-true (all_known s all)) ∙ names s all [] ∙ ap (stack_known s) whole ∙ and-true (is_known s (set_of all))
