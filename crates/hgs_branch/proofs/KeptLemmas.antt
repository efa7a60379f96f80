-- Changesets that are added, one after another, and let go of again.
use Rattle.std.proofs.Common.{◌≡◌, ◌≢◌, ◌⊎◌, ◌<◌, ◌≤◌, ℕ, zero, suc, ◌+◌, ◌*◌, ◌/◌, Bool, true, false, List, [], ◌∷◌, ◌++◌, append_assoc, append-nil, length, map, take, Option, Some, None, refl, sym, ◌∙◌, ap, subst, inl, inr, arith}
use Rattle.std.specs.Prelude.{◌==◌, slice_get, slice_index_or}
use Rattle.std.specs.BTreeMap.{BTreeMap, get, is_at}
use Rattle.std.specs.Cmp.{unsigned_ties}
use Rattle.std.specs.Cmp.Lexicographic.{slice_cmp, lists_ties}
use Rattle.std.specs.Ordering.{nat_cmp}
use Rattle.hgs_bytes.specs.Bytes.{IsPrefixOf, same}
use Rattle.hgs_bytes.specs.Theorems.ByteLemmas.{same-eq}
use Rattle.hgs_branch.specs.Kept.{names_in, Adds, AddsAll, Keeps, TracksCourse}
use Rattle.hgs_branch.specs.Reached.{bit_of, left_at, left_of, wide_at, words_of, IsLeftWithin, Reached}
use Rattle.hgs_branch.specs.Taken.{parents_of, Taken}
use Rattle.hgs_branch.specs.Tracked.{numbers_in, parents_in, IsNumbered}
use Rattle.hgs_branch.specs.declared.changeset.OnBranch.{OnBranch}
use Rattle.hgs_branch.specs.declared.course.Course.{Course}
use Rattle.hgs_branch.specs.declared.reach.Known.{Known}
use Rattle.hgs_branch.specs.declared.reach.Reach.{Reach}
use Rattle.hgs_branch.proofs.ListLemmas.{false_is, get_front, get_last, get_low, length_map, length_more, low_or_last, map_more, none_is, not_true, past_none, place_of, some_is}
use Rattle.hgs_branch.proofs.TrackLemmas.{reached_next}

-- ---- fronts

pub prefix_same : {A : Type 0} (xs : List A) → IsPrefixOf xs xs
prefix_same xs = ([], sym (append-nil xs))

pub prefix_further : {A : Type 0} (xs ys zs : List A) → IsPrefixOf xs ys → IsPrefixOf ys zs → IsPrefixOf xs zs
prefix_further xs ys zs h k = (h.0 ++ k.0, k.1 ∙ ap (λ l. l ++ k.0) h.1 ∙ append_assoc xs h.0 k.0)

pub prefix_more : {A : Type 0} (xs ys : List A) (y : A) → ys ≡ xs ++ y ∷ [] → IsPrefixOf xs ys
prefix_more xs ys y e = (y ∷ [], e)

pub prefix_is : {A : Type 0} (xs ys : List A) → ys ≡ xs → IsPrefixOf xs ys
prefix_is xs ys e = ([], e ∙ sym (append-nil xs))

pub keeps_same : (c : Course) → Keeps c c
keeps_same c = record { known = prefix_same c.known.items; names = prefix_same c.names.items; heads = prefix_same c.heads.items; reaches = prefix_same c.reaches.items; numbered = λ n. n }

pub keeps_further : (a b c : Course) → Keeps a b → Keeps b c → Keeps a c
keeps_further a b c h k = record {
  known = prefix_further a.known.items b.known.items c.known.items h.known k.known;
  names = prefix_further a.names.items b.names.items c.names.items h.names k.names;
  heads = prefix_further a.heads.items b.heads.items c.heads.items h.heads k.heads;
  reaches = prefix_further a.reaches.items b.reaches.items c.reaches.items h.reaches k.reaches;
  numbered = λ n. k.numbered (h.numbered n);
}

pub take_front : {A : Type 0} (xs ys : List A) → take (length xs) (xs ++ ys) ≡ xs
take_front [] ys = refl
take_front (x ∷ xs) ys = ap (λ l. x ∷ l) (take_front xs ys)

pub take_prefix : {A : Type 0} (xs ys : List A) (n : ℕ) → n ≡ length xs → IsPrefixOf xs ys → take n ys ≡ xs
take_prefix xs ys n e h = ap (λ k. take k ys) e ∙ ap (take (length xs)) h.1 ∙ take_front xs h.0

pub take_next : {A : Type 0} (xs : List A) (i : ℕ) (x : A) → slice_get xs i ≡ Some x → take (i + 1) xs ≡ take i xs ++ x ∷ []
take_next [] i x h = absurd (none_is x h)
take_next (y ∷ xs) zero x h = ap (λ z. z ∷ []) (some_is y x h)
take_next (y ∷ xs) (suc i) x h = let e : suc i + 1 ≡ suc (i + 1) = omega arith in ap (λ n. take n (y ∷ xs)) e ∙ ap (λ l. y ∷ l) (take_next xs i x h)

-- ---- one more branch

length_both : {A : Type 0} (xs ys : List A) → length (xs ++ ys) ≡ length xs + length ys
length_both [] ys = omega arith
length_both (x ∷ xs) ys = let e = length_both xs ys in omega (arith, e)

get_more : {A : Type 0} (xs : List A) (x y : A) (i : ℕ) → slice_get (xs ++ x ∷ []) i ≡ Some y → (slice_get xs i ≡ Some y) ⊎ ((i ≡ length xs) × (x ≡ y))
get_more [] x y zero h = inr (refl, some_is x y h)
get_more [] x y (suc i) h = absurd (none_is y h)
get_more (z ∷ xs) x y zero h = inl h
get_more (z ∷ xs) x y (suc i) h = elim (get_more xs x y i h) [ inl e ↦ inl e | inr e ↦ inr (let a = e.0 in omega (arith, a), e.1) ]

-- a name that has no number was given one
pub record Renumbers (names : List (List ℕ)) (old new : BTreeMap (List ℕ) ℕ) (name : List ℕ) (number : ℕ) : Type 0 where
  pub fresh : (n : ℕ) → slice_get names n ≡ Some name → ⊥
  pub here : get (slice_cmp nat_cmp) new name ≡ Some number
  pub others : (other : List ℕ) → is_at (slice_cmp nat_cmp name) other ≡ false → get (slice_cmp nat_cmp) new other ≡ get (slice_cmp nat_cmp) old other

numbered_yet : (names : List (List ℕ)) (old new : BTreeMap (List ℕ) ℕ) (name : List ℕ) (number : ℕ) → Renumbers names old new name number → IsNumbered names old → IsNumbered names new
numbered_yet names old new name number r all n other at = r.others other (not_true (is_at (slice_cmp nat_cmp name) other) (λ e. r.fresh n (at ∙ ap (λ x. Some x) (sym (is_name other e))))) ∙ all n other at
  where
    is_name : (other : List ℕ) → is_at (slice_cmp nat_cmp name) other ≡ true → name ≡ other
    is_name other e = same-eq name other (lists_ties nat_cmp unsigned_ties name other ∙ e)

numbered_more : (names more : List (List ℕ)) (old new : BTreeMap (List ℕ) ℕ) (name : List ℕ) (number : ℕ) → more ≡ names ++ name ∷ [] → number ≡ length names → Renumbers names old new name number → IsNumbered names old → IsNumbered more new
numbered_more names more old new name number is size r all n other at = elim (get_more names name other n (ap (λ l. slice_get l n) (sym is) ∙ at)) [
  | inl e ↦ numbered_yet names old new name number r all n other e
  | inr e ↦ ap (get (slice_cmp nat_cmp) new) (sym e.1) ∙ r.here ∙ ap (λ x. Some x) (size ∙ sym e.0)
]

-- where there was no memory for the name
pub keeps_unnamed : (old new : Course) (name : List ℕ) (number : ℕ) → new.known.items ≡ old.known.items → new.names.items ≡ old.names.items → new.heads.items ≡ old.heads.items → new.reaches.items ≡ old.reaches.items → (IsNumbered old.names.items old.numbers → Renumbers old.names.items old.numbers new.numbers name number) → Keeps old new
keeps_unnamed old new name number known names heads reaches r = record {
  known = prefix_is old.known.items new.known.items known;
  names = prefix_is old.names.items new.names.items names;
  heads = prefix_is old.heads.items new.heads.items heads;
  reaches = prefix_is old.reaches.items new.reaches.items reaches;
  numbered = λ n. subst (λ l. IsNumbered l new.numbers) (sym names) (numbered_yet old.names.items old.numbers new.numbers name number (r n) n);
}

pub keeps_named : (old new : Course) (name : List ℕ) (number : ℕ) → new.known.items ≡ old.known.items → new.names.items ≡ old.names.items ++ name ∷ [] → number ≡ length old.names.items → new.heads.items ≡ old.heads.items → new.reaches.items ≡ old.reaches.items →
    (IsNumbered old.names.items old.numbers → Renumbers old.names.items old.numbers new.numbers name number) → Keeps old new
keeps_named old new name number known names size heads reaches r = record {
  known = prefix_is old.known.items new.known.items known;
  names = prefix_more old.names.items new.names.items name names;
  heads = prefix_is old.heads.items new.heads.items heads;
  reaches = prefix_is old.reaches.items new.reaches.items reaches;
  numbered = λ n. numbered_more old.names.items new.names.items old.numbers new.numbers name number names size (r n) n;
}

-- ---- one more changeset

index_of_get : (names : List (List ℕ)) (i : ℕ) (name : List ℕ) → slice_get names i ≡ Some name → slice_index_or names i [] ≡ name
index_of_get [] i name h = absurd (none_is name h)
index_of_get (x ∷ names) zero name h = some_is x name h
index_of_get (x ∷ names) (suc i) name h = index_of_get names i name h

index_front : (names rest : List (List ℕ)) (i : ℕ) → i < length names → slice_index_or (names ++ rest) i [] ≡ slice_index_or names i []
index_front [] rest i lt = absurd (omega (arith, lt))
index_front (x ∷ names) rest zero lt = refl
index_front (x ∷ names) rest (suc i) lt = index_front names rest i (omega (arith, lt))

names_front : (known : List Known) (names rest : List (List ℕ)) → ((c number : ℕ) → slice_get (numbers_in known) c ≡ Some number → number < length names) → names_in (names ++ rest) known ≡ names_in names known
names_front [] names rest h = refl
names_front (k ∷ known) names rest h = ap (λ x. x ∷ names_in (names ++ rest) known) (index_front names rest k.branch (h 0 k.branch refl)) ∙ ap (λ l. slice_index_or names k.branch [] ∷ l) (names_front known names rest (λ c number at. h (suc c) number at))

pub names_kept : (known : List Known) (names more : List (List ℕ)) → IsPrefixOf names more → ((c number : ℕ) → slice_get (numbers_in known) c ≡ Some number → number < length names) → names_in more known ≡ names_in names known
names_kept known names more p h = ap (λ l. names_in l known) p.1 ∙ names_front known names p.0 h

pub record Adding (old mid new : Course) (number : ℕ) (change : OnBranch) (k : Known) (reach : Reach) : Type 0 where
  pub same_known : mid.known.items ≡ old.known.items
  pub same_heads : mid.heads.items ≡ old.heads.items
  pub same_reaches : mid.reaches.items ≡ old.reaches.items
  pub kept : Keeps old mid
  pub has : slice_get mid.names.items number ≡ Some change.branch
  pub known_is : new.known.items ≡ mid.known.items ++ k ∷ []
  pub names_are : new.names.items ≡ mid.names.items
  pub numbers_are : new.numbers ≡ mid.numbers
  pub heads_are : new.heads.items ≡ mid.heads.items ++ true ∷ []
  pub reaches_are : new.reaches.items ≡ mid.reaches.items ++ reach ∷ []
  pub k_is : k ≡ record { p1 = change.p1; p2 = change.p2; branch = number }
  pub own : (n : ℕ) → bit_of reach.words.items n ≡ (n == number)
  pub wide : length reach.words.items ≡ length mid.names.items / 64 + 1
  pub left : reach.left ≡ true

adds_names : (old mid new : Course) (number : ℕ) (change : OnBranch) (k : Known) (reach : Reach) → Adding old mid new number change k reach → TracksCourse old → names_in new.names.items new.known.items ≡ names_in old.names.items old.known.items ++ change.branch ∷ []
adds_names old mid new number change k reach a t =
    ap (λ l. names_in l new.known.items) a.names_are ∙ ap (names_in mid.names.items) (a.known_is ∙ ap (λ l. l ++ k ∷ []) a.same_known)
    ∙ map_more (λ (x : Known). slice_index_or mid.names.items x.branch []) old.known.items k
    ∙ ap (λ l. l ++ slice_index_or mid.names.items k.branch [] ∷ []) (names_kept old.known.items old.names.items mid.names.items a.kept.names t.numbers)
    ∙ ap (λ x. names_in old.names.items old.known.items ++ x ∷ []) (ap (λ (x : Known). slice_index_or mid.names.items x.branch []) a.k_is ∙ index_of_get mid.names.items number change.branch a.has)

adds_tracks : (old mid new : Course) (number : ℕ) (change : OnBranch) (k : Known) (reach : Reach) → Adding old mid new number change k reach → TracksCourse old → TracksCourse new
adds_tracks old mid new number change k reach a t = record {
  numbered = subst (λ l. IsNumbered l new.numbers) (sym a.names_are) (subst (λ m. IsNumbered mid.names.items m) (sym a.numbers_are) (a.kept.numbered t.numbered));
  numbers = λ c n at. let fits = number_low c n (get_more (numbers_in old.known.items) k.branch n c (ap (λ l. slice_get l c) (sym numbers_are) ∙ at)) in let e = ap length a.names_are in omega (arith, fits, e);
  wide = λ c. let w = wide_by c in let e = ap length a.names_are in omega (arith, w, e);
  reached = subst (λ h. Reached new.known.items h new.reaches.items) (sym (a.heads_are ∙ ap (λ l. l ++ true ∷ []) a.same_heads))
      (reached_next old.known.items new.known.items old.heads.items old.reaches.items new.reaches.items k reach (a.known_is ∙ ap (λ l. l ++ k ∷ []) a.same_known) reaches_are t.reached
      (λ n. a.own n ∙ ap (λ x. n == x) (sym branch)) a.left (λ c. let w = t.wide c in let n = names_grow in let e = a.wide in omega (arith, w, n, e))
      (let lt = get_low mid.names.items number change.branch a.has in let b = branch in let e = a.wide in omega (arith, lt, b, e)));
}
  where
    branch : k.branch ≡ number
    branch = ap (λ (x : Known). x.branch) a.k_is

    reaches_are : new.reaches.items ≡ old.reaches.items ++ reach ∷ []
    reaches_are = a.reaches_are ∙ ap (λ l. l ++ reach ∷ []) a.same_reaches

    numbers_are : numbers_in new.known.items ≡ numbers_in old.known.items ++ k.branch ∷ []
    numbers_are = ap numbers_in (a.known_is ∙ ap (λ l. l ++ k ∷ []) a.same_known) ∙ map_more (λ (x : Known). x.branch) old.known.items k

    names_grow : length old.names.items ≤ length mid.names.items
    names_grow = let p = a.kept.names in let e = ap length p.1 in let s = length_both old.names.items p.0 in omega (arith, e, s)

    number_low : (c n : ℕ) → (slice_get (numbers_in old.known.items) c ≡ Some n) ⊎ ((c ≡ length (numbers_in old.known.items)) × (k.branch ≡ n)) → n < length mid.names.items
    number_low c n (inl e) = let lt = t.numbers c n e in let g = names_grow in omega (arith, lt, g)
    number_low c n (inr e) = let lt = get_low mid.names.items number change.branch a.has in let b = branch in let x = e.1 in omega (arith, lt, b, x)

    wide_by : (c : ℕ) → wide_at new.reaches.items c ≤ length mid.names.items / 64 + 1
    wide_by c = elim (place_of c (length old.reaches.items)) [
      | inl low ↦ (let x = ap (λ o. length (words_of o)) (ap (λ l. slice_get l c) reaches_are ∙ get_front old.reaches.items (reach ∷ []) c low) in let w = t.wide c in let g = names_grow in omega (arith, x, w, g))
      | inr q ↦ elim q [
        | inl e ↦ (let x = ap (λ o. length (words_of o)) (ap (λ l. slice_get l c) reaches_are ∙ get_last old.reaches.items reach c e) in let w = a.wide in omega (arith, x, w))
        | inr past ↦ (let x = ap (λ o. length (words_of o)) (past_none new.reaches.items c (let s = ap length reaches_are in let m = length_more old.reaches.items reach in omega (arith, s, m, past))) in omega (arith, x))
      ]
    ]

pub adds : (old mid new : Course) (number : ℕ) (change : OnBranch) (k : Known) (reach : Reach) → Adding old mid new number change k reach → Adds old new change
adds old mid new number change k reach a = record {
  parents = ap parents_in (a.known_is ∙ ap (λ l. l ++ k ∷ []) a.same_known) ∙ map_more (λ (x : Known). (x.p1, x.p2)) old.known.items k ∙ ap (λ (x : Known). parents_in old.known.items ++ (x.p1, x.p2) ∷ []) a.k_is;
  names = adds_names old mid new number change k reach a;
  tracks = adds_tracks old mid new number change k reach a;
}

pub adds_nothing : (c : Course) (changes : List OnBranch) → AddsAll c c (take 0 changes)
adds_nothing c changes = record {
  parents = sym (append-nil (parents_in c.known.items));
  names = λ t. sym (append-nil (names_in c.names.items c.known.items));
  tracks = λ t. t;
}

pub adds_next : (a b c : Course) (changes : List OnBranch) (i : ℕ) (change : OnBranch) → AddsAll a b (take i changes) → Adds b c change → slice_get changes i ≡ Some change → AddsAll a c (take (i + 1) changes)
adds_next a b c changes i change all one at = record {
  parents = one.parents ∙ ap (λ l. l ++ parents_of change ∷ []) all.parents ∙ append_assoc (parents_in a.known.items) (map parents_of (take i changes)) (parents_of change ∷ [])
      ∙ ap (λ l. parents_in a.known.items ++ l) (sym (map_more parents_of (take i changes) change) ∙ ap (map parents_of) (sym (take_next changes i change at)));
  names = λ t. one.names (all.tracks t) ∙ ap (λ l. l ++ change.branch ∷ []) (all.names t) ∙ append_assoc (names_in a.names.items a.known.items) (map (λ (x : OnBranch). x.branch) (take i changes)) (change.branch ∷ [])
      ∙ ap (λ l. names_in a.names.items a.known.items ++ l) (sym (map_more (λ (x : OnBranch). x.branch) (take i changes) change) ∙ ap (map (λ (x : OnBranch). x.branch)) (sym (take_next changes i change at)));
  tracks = λ t. one.tracks (all.tracks t);
}

pub long_parents : (known : List Known) → length (parents_in known) ≡ length known
long_parents known = length_map (λ (x : Known). (x.p1, x.p2)) known

pub adds_all_size : (b c : Course) (changes : List OnBranch) → AddsAll b c changes → length c.known.items ≡ length b.known.items + length changes
adds_all_size b c changes a =
    let l = ap length a.parents in let m = length_both (parents_in b.known.items) (map parents_of changes) in let n = length_map parents_of changes in
    let p = long_parents b.known.items in let q = long_parents c.known.items in omega (arith, l, m, n, p, q)

-- what is left is new
pub left_new : (old new : Course) (count : ℕ) → count ≡ length old.known.items → Keeps old new → TracksCourse old → TracksCourse new → IsLeftWithin old.reaches.items 0 0 → IsLeftWithin new.reaches.items count (length new.known.items)
left_new old new count size kept t u none rev h = elim (place_of rev (length old.reaches.items)) [
  | inl low ↦ absurd (let k = (none rev (ap left_of (sym (get_front old.reaches.items kept.reaches.0 rev low) ∙ ap (λ l. slice_get l rev) (sym kept.reaches.1)) ∙ h)).1 in omega (arith, k))
  | inr q ↦ (elim q [ inl e ↦ (let n = t.reached.reaches_count in let d = e in omega (arith, n, size, d)) | inr past ↦ (let n = t.reached.reaches_count in omega (arith, n, size, past)) ], high)
]
  where
    high : rev < length new.known.items
    high = elim (place_of rev (length new.known.items)) [
      | inl low ↦ low
      | inr q ↦ false_is (sym (ap left_of (past_none new.reaches.items rev (let n = u.reached.reaches_count in elim q [ inl e ↦ (let d = e in omega (arith, d, n)) | inr past ↦ omega (arith, past, n) ]))) ∙ h)
    ]

-- ---- let go of again

pub forgotten : (old mid new : Course) (count branches : ℕ) → count ≡ length old.known.items → branches ≡ length old.names.items → Keeps old mid → new.known.items ≡ take count mid.known.items → new.names.items ≡ take branches mid.names.items → new.numbers ≡ mid.numbers → new.heads.items ≡ take count mid.heads.items →
    new.reaches.items ≡ take count mid.reaches.items → TracksCourse old → TracksCourse new × (new.known.items ≡ old.known.items) × (new.names.items ≡ old.names.items) × (new.reaches.items ≡ old.reaches.items)
forgotten old mid new count branches size many kept known names numbers heads reaches t = (
  record {
    numbered = λ n name at. ap (λ m. get (slice_cmp nat_cmp) m name) numbers ∙ kept.numbered t.numbered n name (was_named n name (ap (λ l. slice_get l n) (sym same_names) ∙ at));
    numbers = λ c n at. let lt = t.numbers c n (ap (λ l. slice_get (numbers_in l) c) (sym same_known) ∙ at) in let e = ap length same_names in omega (arith, lt, e);
    wide = λ c. let w = t.wide c in let x = ap (λ l. wide_at l c) same_reaches in let e = ap length same_names in omega (arith, w, x, e);
    reached = subst (λ k. Reached k new.heads.items new.reaches.items) (sym same_known) (subst (λ h. Reached old.known.items h new.reaches.items) (sym same_heads) (subst (Reached old.known.items old.heads.items) (sym same_reaches) t.reached));
  },
  same_known,
  same_names,
  same_reaches,
)
  where
    same_known : new.known.items ≡ old.known.items
    same_known = known ∙ take_prefix old.known.items mid.known.items count size kept.known

    same_names : new.names.items ≡ old.names.items
    same_names = names ∙ take_prefix old.names.items mid.names.items branches many kept.names

    same_heads : new.heads.items ≡ old.heads.items
    same_heads = heads ∙ take_prefix old.heads.items mid.heads.items count (size ∙ sym t.reached.heads_count) kept.heads

    same_reaches : new.reaches.items ≡ old.reaches.items
    same_reaches = reaches ∙ take_prefix old.reaches.items mid.reaches.items count (size ∙ sym t.reached.reaches_count) kept.reaches

    was_named : (n : ℕ) (name : List ℕ) → slice_get old.names.items n ≡ Some name → slice_get mid.names.items n ≡ Some name
    was_named n name at = ap (λ l. slice_get l n) kept.names.1 ∙ get_front old.names.items kept.names.0 n (get_low old.names.items n name at) ∙ at

-- the heads are marked anew
pub tracks_spread : (old new : Course) → new.known.items ≡ old.known.items → new.names.items ≡ old.names.items → new.numbers ≡ old.numbers → ((c : ℕ) → wide_at new.reaches.items c ≤ length new.names.items / 64 + 1) → Reached old.known.items new.heads.items new.reaches.items → TracksCourse old → TracksCourse new
tracks_spread old new known names numbers wide r t = record {
  numbered = λ n name at. ap (λ m. get (slice_cmp nat_cmp) m name) numbers ∙ t.numbered n name (ap (λ l. slice_get l n) (sym names) ∙ at);
  numbers = λ c n at. let lt = t.numbers c n (ap (λ l. slice_get (numbers_in l) c) (sym known) ∙ at) in let e = ap length names in omega (arith, lt, e);
  wide = wide;
  reached = subst (λ k. Reached k new.heads.items new.reaches.items) (sym known) r;
}

pub taken_same : (t u : Taken) → t.parents ≡ u.parents → t.names ≡ u.names → t ≡ u
taken_same t u p n = ap (λ x. record { parents = x; names = t.names }) p ∙ ap (λ x. record { parents = u.parents; names = x }) n
