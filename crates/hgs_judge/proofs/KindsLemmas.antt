-- What one more changeset says of each revision.
use Rattle.std.proofs.Common.{◌≡◌, ◌⊎◌, ℕ, zero, suc, ◌+◌, ◌<◌, List, [], ◌∷◌, ◌++◌, Bool, true, false, cond, ◌&&◌, ◌||◌, not, set, take, get_or, min, ◌≤◌, length, refl, sym, ◌∙◌, ap, inl, inr, arith, length-set}
use Rattle.std.specs.Prelude.{Option, Some, None, is_none, slice_get, ◌==◌, nat_lt}
use Rattle.std.specs.List.{list_all}
use Rattle.std.specs.Option.{option_or}
use Rattle.hgs_index.specs.Revision.{Parents, same_parents}
use Rattle.hgs_findings.specs.Namings.{Rule, keeps, makes, untold, Naming, names, first_use, is_after, any_below, is_misplaced_at, with_given, given, in_order, has_other_parents, keeps_other, is_in_place_of_kept, is_wrongly_made}
use Rattle.hgs_judge.specs.declared.kinds.Naming as judged
use Rattle.hgs_judge.specs.declared.kinds.Standing.{Standing}
use Rattle.std.proofs.lemmas.List.{take_more, map_push, length-map, length-take, length_push}
use Rattle.std.proofs.lemmas.Bool.Decides.{nat_tests}
use Rattle.std.proofs.lemmas.Option.{slice_get_within, slice_get-get_or}
use Rattle.hgs_judge.specs.declared.kinds.Kinds.{Kinds}
use Rattle.hgs_judge.specs.Kinds.{later, is_misplaced_by, kinds_by, kinds_of, AreKinds, naming_in, namings_in, is_some_given, standing, breaks, gives, with_naming, AreStandings}
use Rattle.hgs_judge.proofs.Basics.{bool, eq-test, eq-itself, slice_get-set_same, slice_get-set_other}

first_use-push : (at : ℕ) (front : List (Option Naming)) (n : Option Naming) (rev : ℕ) → first_use at (front ++ n ∷ []) rev ≡ option_or (first_use at front rev) (cond (names rev n) (Some (at + length front)) None)
first_use-push at [] n rev = ap (λ k. cond (names rev n) (Some k) None) (let e : at ≡ at + 0 = omega arith in e)
first_use-push at (m ∷ front) n rev = by (names rev m) (first_use-push (suc at) front n rev)
  where
    by : (b : Bool) → first_use (suc at) (front ++ n ∷ []) rev ≡ option_or (first_use (suc at) front rev) (cond (names rev n) (Some (suc at + length front)) None)
        → cond b (Some at) (first_use (suc at) (front ++ n ∷ []) rev) ≡ option_or (cond b (Some at) (first_use (suc at) front rev)) (cond (names rev n) (Some (at + suc (length front))) None)
    by true rec = refl
    by false rec = rec ∙ ap (λ k. option_or (first_use (suc at) front rev) (cond (names rev n) (Some k) None)) (let e : suc at + length front ≡ at + suc (length front) = omega arith in e)

given-push : (front : List (Option Naming)) (n : Naming) (rev : ℕ) → given (front ++ Some n ∷ []) rev ≡ given front rev ++ with_given (n.rev == rev) n.rule []
given-push [] n rev = refl
given-push (None ∷ front) n rev = given-push front n rev
given-push (Some m ∷ front) n rev = by (m.rev == rev) m.rule (given-push front n rev)
  where
    by : (b : Bool) (rule : Rule) → given (front ++ Some n ∷ []) rev ≡ given front rev ++ with_given (n.rev == rev) n.rule [] → with_given b rule (given (front ++ Some n ∷ []) rev) ≡ with_given b rule (given front rev) ++ with_given (n.rev == rev) n.rule []
    by false rule rec = rec
    by true (keeps kept) rec = rec
    by true (makes p) rec = ap (λ l. p ∷ l) rec
    by true untold rec = rec

given-none : (front : List (Option Naming)) (rev : ℕ) → given (front ++ None ∷ []) rev ≡ given front rev
given-none [] rev = refl
given-none (None ∷ front) rev = given-none front rev
given-none (Some m ∷ front) rev = ap (with_given (m.rev == rev) m.rule) (given-none front rev)

or-assoc : (a b c : Bool) → (a || (b || c)) ≡ ((a || b) || c)
or-assoc true b c = refl
or-assoc false b c = refl

or-false : (a : Bool) → (a || false) ≡ a
or-false true = refl
or-false false = refl

kept-push : (front : List (Option Naming)) (n : Naming) (rev : ℕ) → is_in_place_of_kept (front ++ Some n ∷ []) rev ≡ (is_in_place_of_kept front rev || ((n.rev == rev) && keeps_other rev n.rule))
kept-push [] n rev = or-false ((n.rev == rev) && keeps_other rev n.rule)
kept-push (None ∷ front) n rev = kept-push front n rev
kept-push (Some m ∷ front) n rev = ap (λ b. ((m.rev == rev) && keeps_other rev m.rule) || b) (kept-push front n rev) ∙ or-assoc ((m.rev == rev) && keeps_other rev m.rule) (is_in_place_of_kept front rev) ((n.rev == rev) && keeps_other rev n.rule)

kept-none : (front : List (Option Naming)) (rev : ℕ) → is_in_place_of_kept (front ++ None ∷ []) rev ≡ is_in_place_of_kept front rev
kept-none [] rev = refl
kept-none (None ∷ front) rev = kept-none front rev
kept-none (Some m ∷ front) rev = ap (λ b. ((m.rev == rev) && keeps_other rev m.rule) || b) (kept-none front rev)

all-last : (ps : List Parents) (p q : Parents) → list_all (λ x. same_parents x q) (ps ++ p ∷ []) ≡ (list_all (λ x. same_parents x q) ps && same_parents p q)
all-last [] p q = by (same_parents p q)
  where
    by : (b : Bool) → (b && true) ≡ b
    by true = refl
    by false = refl
all-last (x ∷ ps) p q = by (same_parents x q) (all-last ps p q)
  where
    by : (b : Bool) → list_all (λ y. same_parents y q) (ps ++ p ∷ []) ≡ (list_all (λ y. same_parents y q) ps && same_parents p q) → (b && list_all (λ y. same_parents y q) (ps ++ p ∷ [])) ≡ ((b && list_all (λ y. same_parents y q) ps) && same_parents p q)
    by true rec = rec
    by false rec = refl

other-push : (ps : List Parents) (p q : Parents) (rev : ℕ) → has_other_parents (ps ++ p ∷ []) q ≡ (has_other_parents ps q || breaks (is_some_given ps) rev q (makes p))
other-push [] p q rev = or-false (not (in_order p q))
other-push (x ∷ ps) p q rev = ap (λ b. not (in_order x q) || not b) (all-last ps p q) ∙ by (not (in_order x q)) (list_all (λ y. same_parents y q) ps) (same_parents p q)
  where
    by : (a b c : Bool) → (a || not (b && c)) ≡ ((a || not b) || not c)
    by true b c = refl
    by false true c = refl
    by false false c = refl

some-push : (ps : List Parents) (p : Parents) → is_some_given (ps ++ p ∷ []) ≡ (is_some_given ps || true)
some-push [] p = refl
some-push (x ∷ ps) p = refl

append-none : (ps : List Parents) → ps ++ [] ≡ ps
append-none [] = refl
append-none (p ∷ ps) = ap (λ l. p ∷ l) (append-none ps)

-- a changeset that names no revision, or another
pub standing-none : (front : List (Option Naming)) (rev : ℕ) (p : Parents) → standing (front ++ None ∷ []) rev p ≡ standing front rev p
standing-none front rev p =
    let f : first_use 0 (front ++ None ∷ []) rev ≡ first_use 0 front rev = first_use-push 0 front None rev ∙ or-none (first_use 0 front rev) in
    let g = given-none front rev in
    let k = kept-none front rev in
    λ i. record { first = f i; is_given = is_some_given (g i); is_wrong = has_other_parents (g i) p || k i }
  where
    or-none : (o : Option ℕ) → option_or o None ≡ o
    or-none None = refl
    or-none (Some x) = refl

pub standing-other : (front : List (Option Naming)) (n : Naming) (rev : ℕ) (p : Parents) → (n.rev == rev) ≡ false → standing (front ++ Some n ∷ []) rev p ≡ standing front rev p
standing-other front n rev p e =
    let f : first_use 0 (front ++ Some n ∷ []) rev ≡ first_use 0 front rev = first_use-push 0 front (Some n) rev ∙ ap (λ b. option_or (first_use 0 front rev) (cond b (Some (0 + length front)) None)) e ∙ or-none (first_use 0 front rev) in
    let g : given (front ++ Some n ∷ []) rev ≡ given front rev = given-push front n rev ∙ ap (λ b. given front rev ++ with_given b n.rule []) e ∙ append-none (given front rev) in
    let k : is_in_place_of_kept (front ++ Some n ∷ []) rev ≡ is_in_place_of_kept front rev = kept-push front n rev ∙ ap (λ b. is_in_place_of_kept front rev || (b && keeps_other rev n.rule)) e ∙ or-false (is_in_place_of_kept front rev) in
    λ i. record { first = f i; is_given = is_some_given (g i); is_wrong = has_other_parents (g i) p || k i }
  where
    or-none : (o : Option ℕ) → option_or o None ≡ o
    or-none None = refl
    or-none (Some x) = refl

wrong-push : (front : List (Option Naming)) (n : Naming) (rev : ℕ) (p : Parents) → (n.rev == rev) ≡ true → is_wrongly_made (front ++ Some n ∷ []) rev p ≡ (is_wrongly_made front rev p || breaks (is_some_given (given front rev)) rev p n.rule)
wrong-push front n rev p e =
    ap (λ l. has_other_parents l p || is_in_place_of_kept (front ++ Some n ∷ []) rev) (given-push front n rev ∙ ap (λ b. given front rev ++ with_given b n.rule []) e)
    ∙ ap (λ b. has_other_parents (given front rev ++ with_given true n.rule []) p || b) (kept-push front n rev ∙ ap (λ b. is_in_place_of_kept front rev || (b && keeps_other rev n.rule)) e)
    ∙ by n.rule
  where
    swap : (a b c : Bool) → ((a || c) || (b || false)) ≡ ((a || b) || c)
    swap true b c = refl
    swap false true true = refl
    swap false true false = refl
    swap false false true = refl
    swap false false false = refl

    by : (rule : Rule) → (has_other_parents (given front rev ++ with_given true rule []) p || (is_in_place_of_kept front rev || keeps_other rev rule)) ≡ (is_wrongly_made front rev p || breaks (is_some_given (given front rev)) rev p rule)
    by (keeps kept) = ap (λ l. has_other_parents l p || (is_in_place_of_kept front rev || not (kept == rev))) (append-none (given front rev)) ∙ or-assoc (has_other_parents (given front rev) p) (is_in_place_of_kept front rev) (not (kept == rev))
    by (makes q) = ap (λ b. b || (is_in_place_of_kept front rev || false)) (other-push (given front rev) q p rev) ∙ swap (has_other_parents (given front rev) p) (is_in_place_of_kept front rev) (breaks (is_some_given (given front rev)) rev p (makes q))
    by untold = ap (λ l. has_other_parents l p || (is_in_place_of_kept front rev || false)) (append-none (given front rev)) ∙ or-assoc (has_other_parents (given front rev) p) (is_in_place_of_kept front rev) false

pub standing-named : (front : List (Option Naming)) (n : Naming) (rev : ℕ) (p : Parents) → (n.rev == rev) ≡ true → standing (front ++ Some n ∷ []) rev p ≡ with_naming (standing front rev p) (length front) rev p n.rule
standing-named front n rev p e =
    let f : first_use 0 (front ++ Some n ∷ []) rev ≡ option_or (first_use 0 front rev) (Some (length front)) = first_use-push 0 front (Some n) rev ∙ ap (λ b. option_or (first_use 0 front rev) (cond b (Some (0 + length front)) None)) e ∙ ap (λ k. option_or (first_use 0 front rev) (Some k)) (let z : 0 + length front ≡ length front = omega arith in z) in
    let g : is_some_given (given (front ++ Some n ∷ []) rev) ≡ (is_some_given (given front rev) || gives n.rule) = ap is_some_given (given-push front n rev ∙ ap (λ b. given front rev ++ with_given b n.rule []) e) ∙ by n.rule in
    let w = wrong-push front n rev p e in
    λ i. record { first = f i; is_given = g i; is_wrong = w i }
  where
    by : (rule : Rule) → is_some_given (given front rev ++ with_given true rule []) ≡ (is_some_given (given front rev) || gives rule)
    by (keeps kept) = ap is_some_given (append-none (given front rev)) ∙ sym (or-false (is_some_given (given front rev)))
    by (makes q) = some-push (given front rev) q
    by untold = ap is_some_given (append-none (given front rev)) ∙ sym (or-false (is_some_given (given front rev)))

-- ---- the table

pub nothing-noted : (parents : List Parents) (standings : List Standing) → length standings ≡ length parents → ((rev : ℕ) (p : Parents) → slice_get parents rev ≡ Some p → slice_get standings rev ≡ Some (record { first = None; is_given = false; is_wrong = false })) → AreStandings [] parents standings
nothing-noted parents standings count each = record { count = count; each = each }

pub none-noted : (front : List (Option Naming)) (parents : List Parents) (standings : List Standing) → AreStandings front parents standings → AreStandings (front ++ None ∷ []) parents standings
none-noted front parents standings s = record {
  count = s.count;
  each = λ rev p at. s.each rev p at ∙ ap Some (sym (standing-none front rev p));
}

pub past-noted : (front : List (Option Naming)) (n : Naming) (parents : List Parents) (standings : List Standing) → AreStandings front parents standings → slice_get parents n.rev ≡ None → AreStandings (front ++ Some n ∷ []) parents standings
past-noted front n parents standings s past = record {
  count = s.count;
  each = λ rev p at. s.each rev p at ∙ ap Some (sym (standing-other front n rev p (other rev p at (n.rev == rev) refl)));
}
  where
    other : (rev : ℕ) (p : Parents) → slice_get parents rev ≡ Some p → (b : Bool) → (n.rev == rev) ≡ b → b ≡ false
    other rev p at true e = absurd (no (sym past ∙ ap (slice_get parents) (eq-test n.rev rev e) ∙ at))
      where
        no : None ≡ Some p → ⊥
        no h = cc
    other rev p at false e = refl

pub one-noted : (front : List (Option Naming)) (n : Naming) (parents : List Parents) (standings : List Standing) (p : Parents) (s : Standing) → AreStandings front parents standings → slice_get parents n.rev ≡ Some p → slice_get standings n.rev ≡ Some s
    → AreStandings (front ++ Some n ∷ []) parents (set standings n.rev (with_naming s (length front) n.rev p n.rule))
one-noted front n parents standings p s a at stands = record {
  count = length-set standings n.rev _ ∙ a.count;
  each = λ rev q here. by rev q here (n.rev == rev) refl;
}
  where
    some-same : (x y : Parents) → Some x ≡ Some y → x ≡ y
    some-same x y h = ap (elim [ None ↦ x | Some z ↦ z ]) h

    some-standing : (x y : Standing) → Some x ≡ Some y → x ≡ y
    some-standing x y h = ap (elim [ None ↦ x | Some z ↦ z ]) h

    is_standing : s ≡ standing front n.rev p
    is_standing = some-standing s (standing front n.rev p) (sym stands ∙ a.each n.rev p at)

    by : (rev : ℕ) (q : Parents) → slice_get parents rev ≡ Some q → (b : Bool) → (n.rev == rev) ≡ b → slice_get (set standings n.rev (with_naming s (length front) n.rev p n.rule)) rev ≡ Some (standing (front ++ Some n ∷ []) rev q)
    by rev q here false e = slice_get-set_other standings n.rev rev (with_naming s (length front) n.rev p n.rule) e ∙ a.each rev q here ∙ ap Some (sym (standing-other front n rev q e))
    by rev q here true e =
        let is : n.rev ≡ rev = eq-test n.rev rev e in
        let same : p ≡ q = some-same p q (sym at ∙ ap (slice_get parents) is ∙ here) in
        ap (slice_get (set standings n.rev (with_naming s (length front) n.rev p n.rule))) (sym is)
        ∙ slice_get-set_same standings n.rev s (with_naming s (length front) n.rev p n.rule) stands
        ∙ ap (λ x. Some (with_naming x (length front) n.rev p n.rule)) is_standing
        ∙ ap Some (sym (standing-named front n n.rev p (eq-itself n.rev)))
        ∙ ap (λ x. Some (standing (front ++ Some n ∷ []) n.rev x)) same
        ∙ ap (λ k. Some (standing (front ++ Some n ∷ []) k q)) is

-- ---- the walk along the changesets

pub namings-more : (xs : List (Option judged.Naming)) (i : ℕ) → i < length xs → namings_in (take (i + 1) xs) ≡ namings_in (take i xs) ++ naming_in (get_or xs i None) ∷ []
namings-more xs i lt = ap namings_in (take_more xs i None lt) ∙ map_push naming_in (take i xs) (get_or xs i None)

pub namings-count : (xs : List (Option judged.Naming)) (i : ℕ) → i < length xs → length (namings_in (take i xs)) ≡ i
namings-count xs i lt = length-map (take i xs) naming_in ∙ length-take i xs ∙ (let e : min i (length xs) ≡ i = omega (arith, lt) in e)

-- ---- the walk along the revisions

pub record KindsSoFar (namings : List (Option Naming)) (parents : List Parents) (links : List ℕ) (kinds : List Kinds) (latest : Option ℕ) (i : ℕ) : Type 0 where
  pub count : length kinds ≡ i
  pub each : (rev : ℕ) (p : Parents) (link : ℕ) → rev < i → slice_get parents rev ≡ Some p → slice_get links rev ≡ Some link → slice_get kinds rev ≡ Some (kinds_of namings rev p link)
  pub after : (c : ℕ) → is_after c latest ≡ any_below (λ earlier. is_after c (first_use 0 namings earlier)) i

pub no-kinds : (namings : List (Option Naming)) (parents : List Parents) (links : List ℕ) (kinds : List Kinds) → kinds ≡ [] → KindsSoFar namings parents links kinds None 0
no-kinds namings parents links kinds e = record {
  count = ap length e;
  each = λ rev p link lt. absurd (omega (arith, lt));
  after = λ c. refl;
}

after-later : (c : ℕ) (a b : Option ℕ) → is_after c (later a b) ≡ (is_after c b || is_after c a)
after-later c None None = refl
after-later c None (Some b) = sym (or-false (nat_lt c b))
after-later c (Some a) None = refl
after-later c (Some a) (Some b) = grind (arith, nat_tests)

misplaced-same : (namings : List (Option Naming)) (rev link : ℕ) (first latest : Option ℕ) → ((c : ℕ) → is_after c latest ≡ any_below (λ earlier. is_after c (first_use 0 namings earlier)) rev) → is_misplaced_by first link latest ≡ is_misplaced_at namings rev link first
misplaced-same namings rev link None latest after = refl
misplaced-same namings rev link (Some first) latest after = ap (λ b. not (link == first) || b) (after first)

kinds-same : (namings : List (Option Naming)) (rev link : ℕ) (p : Parents) (latest : Option ℕ) → ((c : ℕ) → is_after c latest ≡ any_below (λ earlier. is_after c (first_use 0 namings earlier)) rev) → kinds_by (standing namings rev p) link latest ≡ kinds_of namings rev p link
kinds-same namings rev link p latest after =
    let m = misplaced-same namings rev link (first_use 0 namings rev) latest after in
    λ i. record { is_unneeded = is_none (first_use 0 namings rev); is_misplaced = m i; is_wrongly_made = is_wrongly_made namings rev p }

get-push-front : {A : Type 0} (xs : List A) (y : A) (rev : ℕ) → rev < length xs → slice_get (xs ++ y ∷ []) rev ≡ slice_get xs rev
get-push-front [] y rev lt = absurd (omega (arith, lt))
get-push-front (x ∷ xs) y zero lt = refl
get-push-front (x ∷ xs) y (suc rev) lt = get-push-front xs y rev (omega (arith, lt))

get-push-last : {A : Type 0} (xs : List A) (y : A) → slice_get (xs ++ y ∷ []) (length xs) ≡ Some y
get-push-last [] y = refl
get-push-last (x ∷ xs) y = get-push-last xs y

pub more-kinds : (namings : List (Option Naming)) (parents : List Parents) (links : List ℕ) (standings : List Standing) (kinds : List Kinds) (latest : Option ℕ) (i : ℕ) (s : Standing) (link : ℕ) → AreStandings namings parents standings → KindsSoFar namings parents links kinds latest i
    → slice_get standings i ≡ Some s → slice_get links i ≡ Some link → KindsSoFar namings parents links (kinds ++ kinds_by s link latest ∷ []) (later latest s.first) (i + 1)
more-kinds namings parents links standings kinds latest i s link a k stands linked = record {
  count = length_push kinds (kinds_by s link latest) ∙ (let e = k.count in omega (arith, e));
  each = λ rev p other lt at l. by rev p other lt at l (bool (nat_lt rev i));
  after = λ c. after-later c latest s.first ∙ next c ∙ ap (any_below (λ earlier. is_after c (first_use 0 namings earlier))) (let e : suc i ≡ i + 1 = omega arith in e);
}
  where
    within : i < length parents
    within = (let w = slice_get_within standings i s stands in let n = a.count in omega (arith, w, n))

    here : slice_get parents i ≡ Some (get_or parents i (None, None))
    here = slice_get-get_or parents i (None, None) within

    is_standing : s ≡ standing namings i (get_or parents i (None, None))
    is_standing = some-standing s (standing namings i (get_or parents i (None, None))) (sym stands ∙ a.each i (get_or parents i (None, None)) here)
      where
        some-standing : (x y : Standing) → Some x ≡ Some y → x ≡ y
        some-standing x y h = ap (elim [ None ↦ x | Some z ↦ z ]) h

    next : (c : ℕ) → (is_after c s.first || is_after c latest) ≡ any_below (λ earlier. is_after c (first_use 0 namings earlier)) (suc i)
    next c = ap (λ (x : Standing). is_after c x.first || is_after c latest) is_standing ∙ ap (λ b. is_after c (first_use 0 namings i) || b) (k.after c)

    by : (rev : ℕ) (p : Parents) (other : ℕ) → rev < i + 1 → slice_get parents rev ≡ Some p → slice_get links rev ≡ Some other → (nat_lt rev i ≡ true) ⊎ (nat_lt rev i ≡ false) → slice_get (kinds ++ kinds_by s link latest ∷ []) rev ≡ Some (kinds_of namings rev p other)
    by rev p other lt at l (inl t) =
        let below : rev < i = grind (arith, nat_tests) in
        get-push-front kinds (kinds_by s link latest) rev (let e = k.count in omega (arith, e, below)) ∙ k.each rev p other below at l
    by rev p other lt at l (inr t) =
        let above : i ≤ rev = grind (arith, nat_tests) in
        let is : rev ≡ i = omega (arith, lt, above) in
        let count : i ≡ length kinds = sym k.count in
        let same_p : get_or parents i (None, None) ≡ p = some-parents (sym here ∙ ap (slice_get parents) (sym is) ∙ at) in
        let same_link : link ≡ other = some-link (sym linked ∙ ap (slice_get links) (sym is) ∙ l) in
        ap (slice_get (kinds ++ kinds_by s link latest ∷ [])) (is ∙ count)
        ∙ get-push-last kinds (kinds_by s link latest)
        ∙ ap (λ (x : Standing). Some (kinds_by x link latest)) is_standing
        ∙ ap Some (kinds-same namings i link (get_or parents i (None, None)) latest k.after)
        ∙ ap (λ q. Some (kinds_of namings i q link)) same_p
        ∙ ap (λ m. Some (kinds_of namings i p m)) same_link
        ∙ ap (λ m. Some (kinds_of namings m p other)) (sym is)
      where
        some-parents : {x y : Parents} → Some x ≡ Some y → x ≡ y
        some-parents {x} {y} h = ap (elim [ None ↦ x | Some z ↦ z ]) h

        some-link : {x y : ℕ} → Some x ≡ Some y → x ≡ y
        some-link {x} {y} h = ap (elim [ None ↦ x | Some z ↦ z ]) h

pub all-kinds : (namings : List (Option Naming)) (parents : List Parents) (links : List ℕ) (kinds : List Kinds) (latest : Option ℕ) (i : ℕ) → KindsSoFar namings parents links kinds latest i → i ≡ length parents → AreKinds namings parents links kinds
all-kinds namings parents links kinds latest i k e = record {
  count = k.count ∙ e;
  each = λ rev p link at l. k.each rev p link (let w = slice_get_within parents rev p at in omega (arith, w, e)) at l;
}
