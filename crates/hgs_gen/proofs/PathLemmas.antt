-- The paths that numbers name: each is tracked, and has one slash, so none is a directory of another.
use Rattle.std.proofs.Common.{◌≡◌, ℕ, zero, suc, ◌+◌, ◌<◌, ◌≤◌, ◌/◌, ◌%◌, ◌^◌, Bool, true, false, List, [], ◌∷◌, ◌++◌, length, take, refl, ◌∙◌, ap, arith, inl, inr, ◌⊎◌}
use Rattle.std.specs.Prelude.{◌&&◌, ◌==◌, nat_lt, codes, decimal}
use Rattle.std.specs.Fmt.{digits}
use Rattle.std.specs.List.{list_any, AllByRecursion}
use Rattle.std.proofs.lemmas.Bool.{false_from_ne_true, and_parts, cases_lt, ltb-true}
use Rattle.hgs_bytes.specs.Bytes.{begins_with}
use Rattle.hgs_bytes.specs.Theorems.ByteLemmas.{same-eq}
use Rattle.hgs_index.specs.TrackedPath.{is_tracked}
use Rattle.hgs_model.specs.Valid.{has_directory}
use Rattle.hgs_gen.specs.Generated.{path_of}

abbrev slash : Bool → ℕ
slash true = 1
slash false = 0

abbrev slashes : List ℕ → ℕ
slashes [] = 0
slashes (b ∷ bs) = slash (b == 47) + slashes bs

slashes-append : (xs ys : List ℕ) → slashes (xs ++ ys) ≡ slashes xs + slashes ys
slashes-append [] ys = omega arith
slashes-append (x ∷ xs) ys = let more = slashes-append xs ys in omega (arith, more)

slashes-front : (n : ℕ) (xs : List ℕ) → slashes (take n xs) ≤ slashes xs
slashes-front zero xs = omega arith
slashes-front (suc n) [] = omega arith
slashes-front (suc n) (x ∷ xs) = let more = slashes-front n xs in omega (arith, more)

abbrev named : ℕ → ℕ → List ℕ
named a b = codes "d" ++ decimal a ++ codes "/f" ++ decimal b

abbrev is_good : List ℕ → Bool
is_good path = is_tracked path && (nat_lt (slashes path) 2 && nat_lt 0 (slashes path))

abbrev all_below : (ℕ → Bool) → ℕ → Bool
all_below f zero = true
all_below f (suc n) = f n && all_below f n

files_good : all_below (λ a. all_below (λ b. is_good (named a b)) 20) 10 ≡ true
unfolding digits
files_good = refl

below_by : (f : ℕ → Bool) (n i : ℕ) → i < suc n → (f n ≡ true) × (all_below f n ≡ true) → ((i < n) ⊎ (n ≤ i)) → (all_below f n ≡ true → i < n → f i ≡ true) → f i ≡ true
below_by f n i lt parts (inl less) before = before parts.1 less
below_by f n i lt parts (inr more) before = let at : i ≡ n = omega arith in ap f at ∙ parts.0

below_at : (f : ℕ → Bool) (n i : ℕ) → all_below f n ≡ true → i < n → f i ≡ true
below_at f zero i all lt = absurd (omega arith)
below_at f (suc n) i all lt = below_by f n i lt (and_parts (f n) (all_below f n) all) (cases_lt i n) (below_at f n i)

path_good : (x : ℕ) → is_good (path_of x) ≡ true
path_good x = below_at (λ b. is_good (named (x / 2 ^ 33 % 10) b)) 20 (x / 2 ^ 40 % 20) (below_at (λ a. all_below (λ b. is_good (named a b)) 20) 10 (x / 2 ^ 33 % 10) files_good (omega arith)) (omega arith)

-- a path of one of twenty files in one of ten directories
pub record IsGood (path : List ℕ) : Type 0 where
  pub tracked : is_tracked path ≡ true
  pub slashed : slashes path ≡ 1

good_of : (path : List ℕ) → is_good path ≡ true → IsGood path
good_of path h =
    let first = and_parts (is_tracked path) (nat_lt (slashes path) 2 && nat_lt 0 (slashes path)) h in
    let second = and_parts (nat_lt (slashes path) 2) (nat_lt 0 (slashes path)) first.1 in
    let most = ltb-true (slashes path) 2 second.0 in
    let least = ltb-true 0 (slashes path) second.1 in
    record { tracked = first.0; slashed = omega (arith, most, least) }

pub good : (x : ℕ) → IsGood (path_of x)
good x = good_of (path_of x) (path_good x)

none-begins : (p q : List ℕ) → IsGood p → IsGood q → begins_with q (p ++ codes "/") ≡ false
none-begins p q g h = false_from_ne_true (begins_with q (p ++ codes "/")) (λ t.
    let front : p ++ codes "/" ≡ take (length (p ++ codes "/")) q = same-eq (p ++ codes "/") (take (length (p ++ codes "/")) q) t in
    let count : slashes (p ++ codes "/") ≡ slashes (take (length (p ++ codes "/")) q) = ap slashes front in
    let whole = slashes-append p (codes "/") in
    let most = slashes-front (length (p ++ codes "/")) q in
    let one = g.slashed in
    let other = h.slashed in
    absurd (omega (arith, count, whole, most, one, other)))

any_none : (f : List ℕ → Bool) (xs : List (List ℕ)) → AllByRecursion IsGood xs → ((x : List ℕ) → IsGood x → f x ≡ false) → list_any f xs ≡ false
any_none f [] all off = refl
any_none f (x ∷ xs) all off = rw (off x all.0, any_none f xs all.1 off)

-- none of them is a directory of another
pub no_directory : (paths : List (List ℕ)) → AllByRecursion IsGood paths → has_directory paths ≡ false
no_directory paths all = any_none (λ p. list_any (λ q. begins_with q (p ++ codes "/")) paths) paths all (λ p g. any_none (λ q. begins_with q (p ++ codes "/")) paths all (λ q h. none-begins p q g h))
