-- Paths that ascend, and the directories that they are in.
use Rattle.std.proofs.Common.{◌≡◌, ◌⊎◌, inl, inr, ℕ, zero, suc, ◌+◌, ◌-◌, ◌<◌, Bool, true, false, ◌&&◌, ◌||◌, List, [], ◌∷◌, ◌++◌, length, take, drop, get_or, Some, Result, Ok, Err, refl, sym, ◌∙◌, ap, subst, arith, append_assoc, length-append}
use Rattle.std.specs.Prelude.{◌==◌, not, nat_lt, slice_get, is_ok, if◌then◌else◌}
use Rattle.std.specs.List.{list_any}
use Rattle.std.specs.declared.cmp.Ordering.{Ordering}
use Rattle.std.specs.declared.cmp.Ordering.TheVariants.{Less, Equal, Greater}
use Rattle.std.specs.Ordering.{nat_cmp, is_eq, is_lt, ordering_then, ordering_reverse}
use Rattle.std.specs.Cmp.Lexicographic.{slice_cmp, texts_ties}
use Rattle.std.specs.List.Sorted.{IsSearchInRange, IsBinarySearchResult, IsSortedBy}
use Rattle.std.proofs.lemmas.Bool.{false_from_ne_true, cases_lt}
use Rattle.std.proofs.lemmas.Cmp.{nat_list_cmp_total}
use Rattle.std.proofs.lemmas.List.{take-append-drop}
use Rattle.std.proofs.lemmas.List.Sorted.{searchable_from_sorted}
use Rattle.hgs_bytes.specs.Bytes.{same, among, is_below, begins_with}
use Rattle.hgs_bytes.specs.Text.{ascends}
use Rattle.hgs_bytes.specs.Theorems.ByteLemmas.{same-refl, same-eq}
use Rattle.hgs_bytes.specs.Theorems.TextLemmas.{number_is}
use Rattle.hgs_model.specs.declared.files.NewFile.{NewFile}
use Rattle.hgs_model.specs.Valid.{has_directory, new_paths}
use Rattle.hgs_input.specs.Read.{fits_behind}
use Rattle.hgs_input.specs.View.{IsTree, common}

-- ---- how many bytes two texts begin with that are the same

pub common_none : (a : List ℕ) → common a [] ≡ 0
common_none [] = refl
common_none (x ∷ a) = refl

-- ---- tests

pub both : (a b : Bool) → (a && b) ≡ true → (a ≡ true) × (b ≡ true)
both true b h = (refl, h)
both false b h = cc

either : (a b : Bool) → (a || b) ≡ true → (a ≡ true) ⊎ (b ≡ true)
either true b h = inl refl
either false b h = inr h

neither : (a b : Bool) → (a || b) ≡ false → (a ≡ false) × (b ≡ false)
neither true b h = cc
neither false b h = (refl, h)

pub contradiction : (b : Bool) → b ≡ false → b ≡ true → ⊥
contradiction b h k = cc

pub or_true : (a b : Bool) → b ≡ true → (a || b) ≡ true
or_true true b h = refl
or_true false b h = h

-- tests that hold together are the same
pub same_tests : (a b : Bool) → (a ≡ true → b ≡ true) → (b ≡ true → a ≡ true) → a ≡ b
same_tests true b f g = sym (f refl)
same_tests false true f g = g refl
same_tests false false f g = refl

pub any_found : (p : List ℕ → Bool) (xs : List (List ℕ)) → list_any p xs ≡ true → (x : List ℕ) × (among x xs ≡ true) × (p x ≡ true)
any_found p [] h = cc
any_found p (x ∷ xs) h = elim (either (p x) (list_any p xs) h) [
  | inl here ↦ (x, ap (λ b. b || among x xs) (same-refl x), here)
  | inr later ↦ let k = any_found p xs later in (k.0, or_true (same k.0 x) (among k.0 xs) k.1, k.2)
]

pub any_there : (p : List ℕ → Bool) (xs : List (List ℕ)) (x : List ℕ) → among x xs ≡ true → p x ≡ true → list_any p xs ≡ true
any_there p [] x h k = cc
any_there p (y ∷ xs) x h k = elim (either (same x y) (among x xs) h) [
  | inl here ↦ ap (λ b. b || list_any p xs) (ap p (sym (same-eq x y here)) ∙ k)
  | inr later ↦ or_true (p y) (list_any p xs) (any_there p xs x later k)
]

none_there : (p : List ℕ → Bool) (xs : List (List ℕ)) → ((x : List ℕ) → among x xs ≡ true → p x ≡ false) → list_any p xs ≡ false
none_there p xs h = false_from_ne_true (list_any p xs) (λ e. let k = any_found p xs e in let no = h k.0 k.1 in let yes = k.2 in absurd (contradiction (p k.0) no yes))

pub any-append : (p : List ℕ → Bool) (xs ys : List (List ℕ)) → list_any p (xs ++ ys) ≡ (list_any p xs || list_any p ys)
any-append p [] ys = refl
any-append p (x ∷ xs) ys = by (p x) (list_any p (xs ++ ys)) (list_any p xs) (list_any p ys) (any-append p xs ys)
  where
    by : (b l m n : Bool) → l ≡ (m || n) → (b || l) ≡ ((b || m) || n)
    by true l m n h = refl
    by false l m n h = h

-- ---- the order of bytes

lt_is : (o : Ordering) → is_lt o ≡ true → o ≡ Less
lt_is Less e = refl
lt_is Equal e = cc
lt_is Greater e = cc

pub below_on : (a b c : List ℕ) → is_below a b ≡ true → is_below b c ≡ true → is_below a c ≡ true
below_on a b c e f = ap is_lt (nat_list_cmp_total.trans a b c (lt_is (slice_cmp nat_cmp a b) e) (lt_is (slice_cmp nat_cmp b c) f))

pub not_above : (a b : List ℕ) → is_below a b ≡ true → is_below b a ≡ false
not_above a b e = ap is_lt (nat_list_cmp_total.antisymm b a ∙ ap ordering_reverse (lt_is (slice_cmp nat_cmp a b) e))

nat_cmp-same : (n : ℕ) → nat_cmp n n ≡ Equal
nat_cmp-same n = grind arith

nat_cmp-equal : (m n : ℕ) → nat_cmp m n ≡ Equal → m ≡ n
nat_cmp-equal m n e = by (nat_lt m n) (m == n) refl e
  where
    by : (l q : Bool) → (m == n) ≡ q → (if l then Less else (if q then Equal else Greater)) ≡ Equal → m ≡ n
    by true q k e = cc
    by false true k e = number_is m n k
    by false false k e = cc

not_below-self : (a : List ℕ) → is_below a a ≡ false
not_below-self [] = refl
not_below-self (x ∷ a) = ap (λ o. is_lt (ordering_then o (slice_cmp nat_cmp a a))) (nat_cmp-same x) ∙ not_below-self a

-- what begins with a text is not below it
not_below-front : (q rest : List ℕ) → is_below (q ++ rest) q ≡ false
not_below-front [] [] = refl
not_below-front [] (y ∷ rest) = refl
not_below-front (x ∷ q) rest = ap (λ o. is_lt (ordering_then o (slice_cmp nat_cmp (q ++ rest) q))) (nat_cmp-same x) ∙ not_below-front q rest

-- ---- what a path in a directory begins with

abbrev in_directory : List ℕ → List ℕ → Bool
in_directory q p = begins_with q (p ++ 47 ∷ [])

pub begins_so : (text front : List ℕ) → begins_with text front ≡ true → text ≡ front ++ drop (length front) text
begins_so text front h = sym (take-append-drop (length front) text) ∙ ap (λ t. t ++ drop (length front) text) (sym (same-eq front (take (length front) text) h))

pub same_number : (n : ℕ) → (n == n) ≡ true
same_number n = grind arith

pub begins_front : (front rest : List ℕ) → begins_with (front ++ rest) front ≡ true
begins_front [] rest = refl
begins_front (x ∷ front) rest = ap (λ b. b && begins_with (front ++ rest) front) (same_number x) ∙ begins_front front rest

record InDirectory (q p : List ℕ) : Type 0 where
  pub rest : List ℕ
  pub is : q ≡ p ++ 47 ∷ rest

in_directory_so : (q p : List ℕ) → in_directory q p ≡ true → InDirectory q p
in_directory_so q p h = record { rest = drop (length (p ++ 47 ∷ [])) q; is = begins_so q (p ++ 47 ∷ []) h ∙ append_assoc p (47 ∷ []) (drop (length (p ++ 47 ∷ [])) q) }

in_directory_is : (p rest : List ℕ) → in_directory (p ++ 47 ∷ rest) p ≡ true
in_directory_is p rest = ap (λ t. in_directory t p) (sym (append_assoc p (47 ∷ []) rest)) ∙ begins_front (p ++ 47 ∷ []) rest

not_in_itself : (p : List ℕ) → in_directory p p ≡ false
not_in_itself p = false_from_ne_true (in_directory p p) (λ h. let k = in_directory_so p p h in let n : length p ≡ length p + suc (length k.rest) = ap length k.is ∙ length-append p (47 ∷ k.rest) in absurd (omega (arith, n)))

-- a path is not in one that it stands before
not_in_later : (x q : List ℕ) → is_below x q ≡ true → in_directory x q ≡ false
not_in_later x q b = false_from_ne_true (in_directory x q) (λ h.
    let k = in_directory_so x q h in
    let no : is_below x q ≡ false = ap (λ t. is_below t q) k.is ∙ not_below-front q (47 ∷ k.rest) in
    absurd (contradiction (is_below x q) no b))

-- ---- paths that ascend, up to the last

abbrev pub IsLast : List ℕ → List (List ℕ) → Type 0
IsLast last [] = ⊥
IsLast last (x ∷ []) = x ≡ last
IsLast last (x ∷ y ∷ ys) = IsLast last (y ∷ ys)

ascends-push : (paths : List (List ℕ)) (last q : List ℕ) → IsLast last paths → ascends paths ≡ true → ascends (paths ++ q ∷ []) ≡ is_below last q
ascends-push [] last q l a = absurd l
ascends-push (x ∷ []) last q l a = and_true (is_below x q) ∙ ap (λ y. is_below y q) l
  where
    and_true : (b : Bool) → (b && true) ≡ b
    and_true true = refl
    and_true false = refl
ascends-push (x ∷ y ∷ ys) last q l a =
    let k = both (is_below x y) (ascends (y ∷ ys)) a in
    ap (λ b. b && ascends (y ∷ (ys ++ q ∷ []))) k.0 ∙ ascends-push (y ∷ ys) last q l k.1

-- each path is the last, or stands before it
up_to_last : (paths : List (List ℕ)) (last p : List ℕ) → IsLast last paths → ascends paths ≡ true → among p paths ≡ true → is_below last p ≡ false
up_to_last [] last p l a h = cc
up_to_last (x ∷ []) last p l a h = elim (either (same p x) false h) [
  | inl here ↦ ap (λ t. is_below last t) (same-eq p x here ∙ l) ∙ not_below-self last
  | inr other ↦ cc
]
up_to_last (x ∷ y ∷ ys) last p l a h =
    let k = both (is_below x y) (ascends (y ∷ ys)) a in
    elim (either (same p x) (among p (y ∷ ys)) h) [
      | inl here ↦ false_from_ne_true (is_below last p) (λ b.
          let next = up_to_last (y ∷ ys) last y l k.1 (ap (λ t. t || among y ys) (same-refl y)) in
          let above = below_on last x y (sym (ap (is_below last) (same-eq p x here)) ∙ b) k.0 in
          absurd (contradiction (is_below last y) next above))
      | inr later ↦ up_to_last (y ∷ ys) last p l k.1 later
    ]

last_among : (paths : List (List ℕ)) (last : List ℕ) → IsLast last paths → among last paths ≡ true
last_among [] last l = absurd l
last_among (x ∷ []) last l = ap (λ t. same last t || false) l ∙ ap (λ b. b || false) (same-refl last)
last_among (x ∷ y ∷ ys) last l = or_true (same last x) (among last (y ∷ ys)) (last_among (y ∷ ys) last l)

-- A path that is not above the last, and in which a later path is and the last is not, is all that these two begin with together.
common_is : (p last rest : List ℕ) → is_below last p ≡ false → is_below last (p ++ 47 ∷ rest) ≡ true → in_directory last p ≡ false → common last (p ++ 47 ∷ rest) ≡ length p
common_is [] [] rest a b h = refl
common_is [] (y ∷ last) rest a b h = by (y == 47) refl
  where
    by : (t : Bool) → (y == 47) ≡ t → (if t then suc (common last rest) else 0) ≡ 0
    by true e = let n = number_is y 47 e in absurd (contradiction (in_directory (y ∷ last) []) h (ap (λ t. in_directory (t ∷ last) []) n ∙ in_directory_is [] last))
    by false e = refl
common_is (x ∷ p) [] rest a b h = cc
common_is (x ∷ p) (y ∷ last) rest a b h = by (nat_cmp y x) refl a b (common_is p last rest)
  where
    by : (o : Ordering) → nat_cmp y x ≡ o → is_lt (ordering_then o (slice_cmp nat_cmp last p)) ≡ false → is_lt (ordering_then o (slice_cmp nat_cmp last (p ++ 47 ∷ rest))) ≡ true →
        (is_below last p ≡ false → is_below last (p ++ 47 ∷ rest) ≡ true → in_directory last p ≡ false → common last (p ++ 47 ∷ rest) ≡ length p) → common (y ∷ last) (x ∷ p ++ 47 ∷ rest) ≡ suc (length p)
    by Less e a b more = cc
    by Equal e a b more =
        let n = nat_cmp-equal y x e in
        let one : (y == x) ≡ true = ap (λ t. t == x) n ∙ same_number x in
        let other : (x == y) ≡ true = ap (λ t. x == t) n ∙ same_number x in
        let apart : in_directory last p ≡ false = sym (ap (λ t. t && in_directory last p) other) ∙ h in
        ap (λ t. if t then suc (common last (p ++ 47 ∷ rest)) else 0) one ∙ ap (λ n. suc n) (more a b apart)
    by Greater e a b more = cc

-- ---- whether a path may come behind others

pub drop_front : (p rest : List ℕ) → drop (length p) (p ++ rest) ≡ rest
drop_front [] rest = refl
drop_front (x ∷ p) rest = drop_front p rest

pub take_front : (p rest : List ℕ) → take (length p) (p ++ rest) ≡ p
take_front [] rest = refl
take_front (x ∷ p) rest = ap (λ t. x ∷ t) (take_front p rest)

-- in a tree the last path is in no directory of an earlier one
any_false : (p : List ℕ → Bool) (xs : List (List ℕ)) (x : List ℕ) → list_any p xs ≡ false → among x xs ≡ true → p x ≡ false
any_false p xs x h k = false_from_ne_true (p x) (λ e. contradiction (list_any p xs) h (any_there p xs x k e))

any_same : (f g : List ℕ → Bool) (xs : List (List ℕ)) → ((x : List ℕ) → among x xs ≡ true → f x ≡ g x) → list_any f xs ≡ list_any g xs
any_same f g xs h = same_tests (list_any f xs) (list_any g xs)
    (λ e. let k = any_found f xs e in any_there g xs k.0 k.1 (sym (h k.0 k.1) ∙ k.2))
    (λ e. let k = any_found g xs e in any_there f xs k.0 k.1 (h k.0 k.1 ∙ k.2))

or_false : (b : Bool) → (b || false) ≡ b
or_false true = refl
or_false false = refl

up_to_below : (x last q : List ℕ) → is_below last x ≡ false → is_below last q ≡ true → is_below x q ≡ true
up_to_below x last q h b = by (slice_cmp nat_cmp last x) refl h
  where
    by : (o : Ordering) → slice_cmp nat_cmp last x ≡ o → is_lt o ≡ false → is_below x q ≡ true
    by Less e h = cc
    by Equal e h = ap (λ t. is_below t q) (sym (same-eq last x (texts_ties last x ∙ ap is_eq e))) ∙ b
    by Greater e h = below_on x last q (ap is_lt (nat_list_cmp_total.antisymm x last ∙ ap ordering_reverse e)) b

-- whether one of the paths is a directory of this one
abbrev has_parent : List (List ℕ) → List ℕ → Bool
has_parent paths q = list_any (λ p. in_directory q p) paths

module _ (paths : List (List ℕ)) (last : List ℕ) (l : IsLast last paths) (a : ascends paths ≡ true) (d : has_directory paths ≡ false) where
  apart : (x p : List ℕ) → among x paths ≡ true → among p paths ≡ true → in_directory x p ≡ false
  apart x p h k = any_false (λ q. in_directory q p) paths x (any_false (λ p. list_any (λ q. in_directory q p) paths) paths p d k) h

  module _ (q : List ℕ) (b : is_below last q ≡ true) where
    below_q : (x : List ℕ) → among x paths ≡ true → is_below x q ≡ true
    below_q x h = up_to_below x last q (up_to_last paths last x l a h) b

    only_q : (p : List ℕ) → among p paths ≡ true → list_any (λ x. in_directory x p) (paths ++ q ∷ []) ≡ in_directory q p
    only_q p h =
        any-append (λ x. in_directory x p) paths (q ∷ [])
        ∙ ap (λ t. t || (in_directory q p || false)) (any_false (λ p. list_any (λ x. in_directory x p) paths) paths p d h)
        ∙ or_false (in_directory q p)

    none_in_q : list_any (λ x. in_directory x q) (paths ++ q ∷ []) ≡ false
    none_in_q =
        any-append (λ x. in_directory x q) paths (q ∷ [])
        ∙ ap (λ t. t || (in_directory q q || false)) (none_there (λ x. in_directory x q) paths (λ x h. not_in_later x q (below_q x h)))
        ∙ ap (λ t. t || false) (not_in_itself q)

    -- a path behind these is a directory of none of them, and only they can be its directory
    pub directory-push : has_directory (paths ++ q ∷ []) ≡ has_parent paths q
    directory-push =
        any-append (λ p. list_any (λ x. in_directory x p) (paths ++ q ∷ [])) paths (q ∷ [])
        ∙ ap (λ t. list_any (λ p. list_any (λ x. in_directory x p) (paths ++ q ∷ [])) paths || (t || false)) none_in_q
        ∙ or_false (list_any (λ p. list_any (λ x. in_directory x p) (paths ++ q ∷ [])) paths)
        ∙ any_same (λ p. list_any (λ x. in_directory x p) (paths ++ q ∷ [])) (in_directory q) paths only_q

    -- a directory of it is all that it and the last path begin with together
    parent_so : (begins_with (drop (common last q) q) (47 ∷ []) && among (take (common last q) q) paths) ≡ true → has_parent paths q ≡ true
    parent_so h =
        let n = common last q in
        let k = both (begins_with (drop n q) (47 ∷ [])) (among (take n q) paths) h in
        let is : q ≡ take n q ++ 47 ∷ drop 1 (drop n q) = sym (take-append-drop n q) ∙ ap (λ t. take n q ++ t) (begins_so (drop n q) (47 ∷ []) k.0) in
        any_there (in_directory q) paths (take n q) k.1 (ap (λ t. in_directory t (take n q)) is ∙ in_directory_is (take n q) (drop 1 (drop n q)))

    parent_found : has_parent paths q ≡ true → (begins_with (drop (common last q) q) (47 ∷ []) && among (take (common last q) q) paths) ≡ true
    parent_found h =
        let k = any_found (in_directory q) paths h in
        let p = k.0 in
        let f = in_directory_so q p k.2 in
        let n : common last q ≡ length p =
        ap (common last) f.is ∙ common_is p last f.rest (up_to_last paths last p l a k.1) (sym (ap (is_below last) f.is) ∙ b) (apart last p (last_among paths last l) k.1) in
        let slash : begins_with (drop (common last q) q) (47 ∷ []) ≡ true =
        ap (λ m. begins_with (drop m q) (47 ∷ [])) n ∙ ap (λ t. begins_with (drop (length p) t) (47 ∷ [])) f.is ∙ ap (λ t. begins_with t (47 ∷ [])) (drop_front p (47 ∷ f.rest)) in
        let there : among (take (common last q) q) paths ≡ true =
        ap (λ m. among (take m q) paths) n ∙ ap (λ t. among (take (length p) t) paths) f.is ∙ ap (λ t. among t paths) (take_front p (47 ∷ f.rest)) ∙ k.1 in
        ap (λ t. t && among (take (common last q) q) paths) slash ∙ there

    parent_is : (begins_with (drop (common last q) q) (47 ∷ []) && among (take (common last q) q) paths) ≡ has_parent paths q
    parent_is = same_tests _ _ parent_so parent_found

  fits-step : (t : Bool) (q : List ℕ) → is_below last q ≡ t → fits_behind paths q ≡ (t && not (begins_with (drop (common last q) q) (47 ∷ []) && among (take (common last q) q) paths))
  fits-step true q b = ap (λ t. t && not (has_directory (paths ++ q ∷ []))) (ascends-push paths last q l a ∙ b) ∙ ap not (directory-push q b ∙ sym (parent_is q b))
  fits-step false q b = ap (λ t. t && not (has_directory (paths ++ q ∷ []))) (ascends-push paths last q l a ∙ b)

  pub fits_is : (q : List ℕ) → fits_behind paths q ≡ (is_below last q && not (begins_with (drop (common last q) q) (47 ∷ []) && among (take (common last q) q) paths))
  fits_is q = fits-step (is_below last q) q refl

-- ---- a search in halves

ascends_at : (files : List NewFile) → ascends (new_paths files) ≡ true → (k : ℕ) (d : NewFile) → suc k < length files → is_below (get_or files k d).path (get_or files (suc k) d).path ≡ true
ascends_at [] a k d lt = absurd (omega arith)
ascends_at (f ∷ []) a k d lt = absurd (omega arith)
ascends_at (f ∷ g ∷ files) a zero d lt = (both (is_below f.path g.path) (ascends (new_paths (g ∷ files))) a).0
ascends_at (f ∷ g ∷ files) a (suc k) d lt = ascends_at (g ∷ files) (both (is_below f.path g.path) (ascends (new_paths (g ∷ files))) a).1 k d (omega (arith, lt))

files_sorted : (files : List NewFile) → ascends (new_paths files) ≡ true → IsSortedBy (λ (f g : NewFile). is_lt (slice_cmp nat_cmp f.path g.path)) files
files_sorted files a k d low lt =
    let next : k + 1 ≡ suc k = omega arith in
    ap (λ n. is_below (get_or files n d).path (get_or files k d).path) next
    ∙ not_above (get_or files k d).path (get_or files (suc k) d).path (ascends_at files a k d (omega (arith, lt)))

there : (files : List NewFile) (path : List ℕ) (i : ℕ) (d : NewFile) → i < length files → (get_or files i d).path ≡ path → among path (new_paths files) ≡ true
there [] path i d lt e = absurd (omega arith)
there (f ∷ files) path zero d lt e = ap (λ b. b || among path (new_paths files)) (ap (same path) e ∙ same-refl path)
there (f ∷ files) path (suc i) d lt e = or_true (same path f.path) (among path (new_paths files)) (there files path i d (omega (arith, lt)) e)

nowhere : (files : List NewFile) (path : List ℕ) → ((i : ℕ) (d : NewFile) → i < length files → is_eq (slice_cmp nat_cmp (get_or files i d).path path) ≡ false) → among path (new_paths files) ≡ false
nowhere [] path h = refl
nowhere (f ∷ files) path h =
    let other : same path f.path ≡ false = false_from_ne_true (same path f.path) (λ e.
    contradiction (is_eq (slice_cmp nat_cmp f.path path)) (h 0 f (omega arith)) (sym (texts_ties f.path path) ∙ ap (λ t. same t path) (sym (same-eq path f.path e)) ∙ same-refl path)) in
    ap (λ b. b || among path (new_paths files)) other ∙ nowhere files path (λ i d lt. h (suc i) d (omega (arith, lt)))

pub searched : (files : List NewFile) (path : List ℕ) (r : Result ℕ ℕ) → ascends (new_paths files) ≡ true → IsSearchInRange r (length files) → IsBinarySearchResult (λ (f : NewFile). slice_cmp nat_cmp f.path path) files r →
    is_ok r ≡ among path (new_paths files)
searched [] path (Ok i) a room found = absurd (omega arith)
searched (f ∷ files) path (Ok i) a room found =
    let is = same-eq (get_or (f ∷ files) i f).path path (texts_ties (get_or (f ∷ files) i f).path path ∙ ap is_eq (found f)) in
    sym (there (f ∷ files) path i f room is)
searched files path (Err i) a room parted =
    let parts = parted (searchable_from_sorted nat_list_cmp_total (λ (f : NewFile). f.path) files path (files_sorted files a)) in
    sym (nowhere files path (λ k d lt. elim (cases_lt k i) [
      | inl before ↦ ap is_eq (parts.0 k d (omega arith) before)
      | inr behind ↦ ap is_eq (parts.1 k d behind lt)
    ]))

-- ---- the last file

some_is : {A : Type 0} (x y : A) → Some x ≡ Some y → x ≡ y
some_is x y e = cc

last_at : (files : List NewFile) (n : ℕ) (f : NewFile) → length files ≡ suc n → slice_get files n ≡ Some f → IsLast f.path (new_paths files)
last_at [] n f e h = absurd (omega arith)
last_at (g ∷ []) zero f e h = ap (λ (k : NewFile). k.path) (some_is g f h)
last_at (g ∷ []) (suc n) f e h = absurd (omega arith)
last_at (g ∷ k ∷ files) zero f e h = absurd (omega arith)
last_at (g ∷ k ∷ files) (suc n) f e h = last_at (k ∷ files) n f (omega (arith, e)) h

pub last_is : (files : List NewFile) (f : NewFile) → Some f ≡ slice_get files (length files - 1) → IsLast f.path (new_paths files)
last_is [] f e = cc
last_is (g ∷ files) f e = let n : suc (length files) - 1 ≡ length files = omega arith in last_at (g ∷ files) (length files) f refl (sym (ap (slice_get (g ∷ files)) n) ∙ sym e)

-- ---- the same over files

pub fits_where : (files : List NewFile) (last : NewFile) (last_path path : List ℕ) (n : ℕ) (inside : Bool) → IsTree files → Some last ≡ slice_get files (length files - 1) → last_path ≡ last.path → is_below last_path path ≡ true → n ≡ common last_path path →
    inside ≡ (begins_with (drop n path) (47 ∷ []) && among (take n path) (new_paths files)) → not inside ≡ fits_behind (new_paths files) path
fits_where files last last_path path n inside tree at is below count found =
    let l : IsLast last_path (new_paths files) = subst (λ p. IsLast p (new_paths files)) (sym is) (last_is files last at) in
    let fits = fits_is (new_paths files) last_path l tree.ordered tree.apart path in
    ap not (found ∙ ap (λ m. begins_with (drop m path) (47 ∷ []) && among (take m path) (new_paths files)) count)
    ∙ ap (λ b. b && not (begins_with (drop (common last_path path) path) (47 ∷ []) && among (take (common last_path path) path) (new_paths files))) (sym below) ∙ sym fits

pub fits_nowhere : (files : List NewFile) (last : NewFile) (last_path path : List ℕ) → IsTree files → Some last ≡ slice_get files (length files - 1) → last_path ≡ last.path → is_below last_path path ≡ false → false ≡ fits_behind (new_paths files) path
fits_nowhere files last last_path path tree at is below =
    let l : IsLast last_path (new_paths files) = subst (λ p. IsLast p (new_paths files)) (sym is) (last_is files last at) in
    ap (λ b. b && not (begins_with (drop (common last_path path) path) (47 ∷ []) && among (take (common last_path path) path) (new_paths files))) (sym below)
    ∙ sym (fits_is (new_paths files) last_path l tree.ordered tree.apart path)
