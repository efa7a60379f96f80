-- The length of plain names.
use Rattle.std.proofs.Common.{◌≡◌, ℕ, ◌+◌, ◌-◌, ◌/◌, ◌%◌, ◌≤◌, Bool, true, false, cond, ◌&&◌, ◌||◌, List, [], ◌∷◌, ◌++◌, length, take, drop, map, Some, None, refl, sym, ap, ◌∙◌, subst, arith, lit≤, length-append}
use Rattle.std.specs.Prelude.{◌==◌, codes, flat_map, slice_index}
use Rattle.std.specs.List.{sum_by, onto_first}
use Rattle.std.proofs.lemmas.List.{take-append-drop}
use Rattle.std.proofs.lemmas.List.Sums.{sum_by-cons, sum_by-append, sum_by-le-sum_by}
use Rattle.hex.specs.Hex.{encode_with}
use Rattle.hgs_bytes.specs.Path.{components}
use Rattle.hgs_bytes.specs.Text.{split}
use Rattle.hgs_bytes.specs.Theorems.ByteLemmas.{same-eq}
use Rattle.hgs_index.specs.TrackedPath.{lower}
use Rattle.hgs_path.specs.declared.name.Ext.{Ext}
use Rattle.hgs_path.specs.declared.name.Ext.TheVariants.{I, D}
use Rattle.hgs_path.specs.declared.spell.Form.TheVariants.{Plain}
use Rattle.hgs_path.specs.StoreName.{joined, escaped, is_escaped, is_upper, spelled, is_dot_or_space, is_device, before_dot, escaped_at, with_front, with_end, spelled_component, spelled_name, map_front, marked_directory, ends_in, directory_step, whole_path, listed_name, most_spelled, is_short, is_plain}
use Rattle.hgs_path.specs.Theorems.FncacheLemmas.{directory-parts}
use Rattle.hgs_path.specs.Theorems.ReadableLemmas.{Letters, letter-back, device-letters, text-letters, digit-plain, end-parts, last_of}

-- ---- what a byte can come to

-- a dot or a space that is spelled can still be escaped
abbrev at_last : ℕ → ℕ
at_last b = cond (is_dot_or_space b) 3 1

abbrev in_all : ℕ → ℕ
in_all b = cond (is_escaped b) 3 (cond (is_upper b || b == 95) 2 (at_last b))

code-weight : (b : ℕ) → sum_by at_last (escaped b) ≡ 3
unfolding encode_with
code-weight b = rw (digit-plain (b / 16), digit-plain (b % 16)) refl

code-length : (b : ℕ) → length (escaped b) ≡ 3
unfolding encode_with
code-length b = refl

byte-weight : (b : ℕ) → sum_by at_last (spelled Plain b) ≤ in_all b
byte-weight b = by (is_escaped b) (is_upper b || b == 95) refl refl
  where
    by : (t u : Bool) → is_escaped b ≡ t → (is_upper b || b == 95) ≡ u → sum_by at_last (cond t (escaped b) (cond u (95 ∷ lower b ∷ []) (b ∷ []))) ≤ cond t 3 (cond u 2 (at_last b))
    by true u e f = let n = code-weight b in omega (arith, n)
    by false true e f = let one : at_last (lower b) ≡ 1 = ap (λ t. cond t 3 1) (letter-back b f).1 in omega (arith, one)
    by false false e f = omega arith

tests : (dot slash space code letter : Bool) → cond code 3 (cond letter 2 (cond (dot || space) 3 1)) ≤ cond dot 8 (cond (slash || space || code) 3 (cond letter 2 1))
tests true slash space true letter = lit≤ tt
tests true slash space false true = lit≤ tt
tests true slash space false false = lit≤ tt
tests false true space true letter = lit≤ tt
tests false true space false true = lit≤ tt
tests false true true false false = lit≤ tt
tests false true false false false = lit≤ tt
tests false false true true letter = lit≤ tt
tests false false true false true = lit≤ tt
tests false false true false false = lit≤ tt
tests false false false true letter = lit≤ tt
tests false false false false true = lit≤ tt
tests false false false false false = lit≤ tt

byte-most : (b : ℕ) → in_all b ≤ most_spelled b
byte-most b = tests (b == 46) (b == 47) (b == 32) (is_escaped b) (is_upper b || b == 95)

-- ---- a component

characters : (part : List ℕ) → sum_by at_last (flat_map (spelled Plain) part) ≤ sum_by in_all part
characters [] = omega arith
characters (b ∷ part) = let one = byte-weight b in let more = characters part in let both = sum_by-append at_last (spelled Plain b) (flat_map (spelled Plain) part) in omega (arith, one, more, both, sum_by-cons in_all b part)

least-one : (b : ℕ) → 1 ≤ at_last b
least-one b = by (is_dot_or_space b)
  where
    by : (t : Bool) → 1 ≤ cond t 3 1
    by true = lit≤ tt
    by false = lit≤ tt

length-least : (xs : List ℕ) → length xs ≤ sum_by at_last xs
length-least [] = omega arith
length-least (x ∷ xs) = let one = least-one x in let more = length-least xs in omega (arith, one, more, sum_by-cons at_last x xs)

front-dot : (text : List ℕ) → is_dot_or_space (slice_index text 0) ≡ true → sum_by at_last (escaped_at text (Some 0)) ≤ sum_by at_last text + 2
front-dot [] h = cc
front-dot (c ∷ r) h =
    let here : at_last c ≡ 3 = ap (λ t. cond t 3 1) h in
    let code = code-weight c in
    let both = sum_by-append at_last (escaped c) r in
    omega (arith, here, code, both, sum_by-cons at_last c r)

two-weights : (x y : ℕ) (r : List ℕ) → sum_by at_last (x ∷ y ∷ r) ≡ at_last x + (at_last y + sum_by at_last r)
two-weights x y r = sum_by-cons at_last x (y ∷ r) ∙ ap (λ n. at_last x + n) (sum_by-cons at_last y r)

front-device : (text : List ℕ) → Letters text → sum_by at_last (escaped_at text (Some 2)) ≤ sum_by at_last text + 2
front-device text l =
    let code = code-weight l.z in
    let both = sum_by-append at_last (escaped l.z) l.r in
    let third = least-one l.z in
    let escaped-behind = two-weights l.x l.y (escaped l.z ++ l.r) in
    let plain-behind = two-weights l.x l.y (l.z ∷ l.r) ∙ ap (λ n. at_last l.x + (at_last l.y + n)) (sum_by-cons at_last l.z l.r) in
    let short : sum_by at_last (l.x ∷ l.y ∷ (escaped l.z ++ l.r)) ≤ sum_by at_last (l.x ∷ l.y ∷ l.z ∷ l.r) + 2 = omega (arith, code, both, third, escaped-behind, plain-behind) in
    subst (λ t. sum_by at_last (escaped_at t (Some 2)) ≤ sum_by at_last t + 2) (sym l.whole) short

front-weight : (text : List ℕ) → sum_by at_last (with_front text) ≤ sum_by at_last text + 2
front-weight text = by (is_dot_or_space (slice_index text 0)) (is_device (before_dot text (split 46 text))) refl refl
  where
    by : (t u : Bool) → is_dot_or_space (slice_index text 0) ≡ t → is_device (before_dot text (split 46 text)) ≡ u → sum_by at_last (escaped_at text (cond t (Some 0) (cond u (Some 2) None))) ≤ sum_by at_last text + 2
    by true u e f = front-dot text e
    by false true e f = front-device text (text-letters text _ refl (device-letters _ f))
    by false false e f = omega arith

end-length : (text : List ℕ) → length (with_end text) ≤ sum_by at_last text
end-length text = by (is_dot_or_space (last_of text)) refl
  where
    by : (t : Bool) → is_dot_or_space (last_of text) ≡ t → length (escaped_at text (cond t (Some (length text - 1)) None)) ≤ sum_by at_last text
    by true e =
        let p = end-parts text e in
        let front = take (length text - 1) text in
        let here : at_last (last_of text) ≡ 3 = ap (λ t. cond t 3 1) e in
        let whole = ap (sum_by at_last) p.0 ∙ sum_by-append at_last front (last_of text ∷ []) in
        let rest : length (drop (length text - 1 + 1) text) ≡ 0 = ap length p.1 in
        let code = code-length (last_of text) in
        let one = length-append (front ++ escaped (last_of text)) (drop (length text - 1 + 1) text) in
        let two = length-append front (escaped (last_of text)) in
        let least = length-least front in
        omega (arith, here, whole, rest, code, one, two, least)
    by false e = length-least text

component-length : (part : List ℕ) → length (spelled_component Plain part) ≤ sum_by in_all part + 2
component-length part =
    let end = end-length (with_front (flat_map (spelled Plain) part)) in
    let front = front-weight (flat_map (spelled Plain) part) in
    let middle = characters part in
    omega (arith, end, front, middle)

-- ---- a name

parts-length : (parts : List (List ℕ)) → length (joined (map (spelled_component Plain) parts)) ≤ sum_by (λ p. sum_by in_all p + 3) parts
parts-length [] = omega arith
parts-length (part ∷ []) = let one = component-length part in omega (arith, one)
parts-length (part ∷ next ∷ parts) =
    let one = component-length part in
    let more = parts-length (next ∷ parts) in
    let both = length-append (spelled_component Plain part) (47 ∷ joined (map (spelled_component Plain) (next ∷ parts))) in
    omega (arith, one, more, both, sum_by-cons (λ (p : List ℕ). sum_by in_all p + 3) part (next ∷ parts))

marked-by : (d end : List ℕ) → ends_in d end ≡ true → sum_by in_all end + 5 ≤ sum_by most_spelled end → sum_by in_all d + 5 ≤ sum_by most_spelled d
marked-by d end h n =
    let front = take (length d - length end) d in
    let whole : d ≡ front ++ end = sym (take-append-drop (length d - length end) d) ∙ ap (λ l. front ++ l) (same-eq (drop (length d - length end) d) end h) in
    let in_front = sum_by-le-sum_by in_all most_spelled front byte-most in
    let least = ap (sum_by in_all) whole ∙ sum_by-append in_all front end in
    let most = ap (sum_by most_spelled) whole ∙ sum_by-append most_spelled front end in
    omega (arith, n, in_front, least, most)

or-cases : (a b : Bool) (P : Type 0) → (a ≡ true → P) → (b ≡ true → P) → (a || b) ≡ true → P
or-cases true b P f g h = f refl
or-cases false b P f g h = g h

marked-weight : (d : List ℕ) → sum_by in_all (marked_directory d) ≤ sum_by most_spelled d
marked-weight d = by (ends_in d (codes ".hg") || ends_in d (codes ".i") || ends_in d (codes ".d")) refl
  where
    by : (t : Bool) → (ends_in d (codes ".hg") || ends_in d (codes ".i") || ends_in d (codes ".d")) ≡ t → sum_by in_all (cond t (d ++ codes ".hg") d) ≤ sum_by most_spelled d
    by true e =
        let five = or-cases _ (ends_in d (codes ".d")) (sum_by in_all d + 5 ≤ sum_by most_spelled d)
        (or-cases (ends_in d (codes ".hg")) (ends_in d (codes ".i")) _ (λ h. marked-by d (codes ".hg") h (lit≤ tt)) (λ h. marked-by d (codes ".i") h (lit≤ tt)))
        (λ h. marked-by d (codes ".d") h (lit≤ tt)) e in
        let both = sum_by-append in_all d (codes ".hg") in
        let mark : sum_by in_all (codes ".hg") ≡ 5 = refl in
        omega (arith, five, both, mark)
    by false e = sum_by-le-sum_by in_all most_spelled d byte-most

marks-weight : (parts : List (List ℕ)) → sum_by (λ p. sum_by in_all p + 3) (map_front marked_directory parts) ≤ sum_by (λ p. sum_by most_spelled p + 3) parts
marks-weight [] = omega arith
marks-weight (part ∷ []) = let one = sum_by-le-sum_by in_all most_spelled part byte-most in omega (arith, one)
marks-weight (part ∷ next ∷ parts) =
    let one = marked-weight part in
    let more = marks-weight (next ∷ parts) in
    let marked = sum_by-cons (λ (p : List ℕ). sum_by in_all p + 3) (marked_directory part) (map_front marked_directory (next ∷ parts)) in
    omega (arith, one, more, marked, sum_by-cons (λ (p : List ℕ). sum_by most_spelled p + 3) part (next ∷ parts))

abbrev cost : List ℕ → ℕ
cost part = sum_by most_spelled part + 3

parts-weight : (xs : List ℕ) → sum_by cost (components xs) ≡ sum_by most_spelled xs + 3
parts-weight [] = refl
parts-weight (x ∷ xs) = by (x == 47) refl (components xs) (parts-weight xs) ∙ ap (λ n. n + 3) (sym (sum_by-cons most_spelled x xs))
  where
    by : (t : Bool) → (x == 47) ≡ t → (parts : List (List ℕ)) → sum_by cost parts ≡ sum_by most_spelled xs + 3
        → sum_by cost (cond t ([] ∷ parts) (onto_first x parts)) ≡ most_spelled x + sum_by most_spelled xs + 3
    by true e parts h =
        let is : x ≡ 47 = grind arith in
        let three : most_spelled x ≡ 3 = ap most_spelled is in
        omega (arith, h, three, sum_by-cons cost [] parts)
    by false e [] h = absurd (omega (arith, h))
    by false e (part ∷ parts) h = omega (arith, h, sum_by-cons cost part parts, sum_by-cons cost (x ∷ part) parts, sum_by-cons most_spelled x part)

listed-length : (whole : List ℕ) → length (spelled_name Plain (directory_step whole)) ≤ sum_by most_spelled whole + 3
listed-length whole =
    let parts = ap (λ l. length (joined (map (spelled_component Plain) l))) (directory-parts whole) in
    let spelled = parts-length (map_front marked_directory (components whole)) in
    let marks = marks-weight (components whole) in
    let weight = parts-weight whole in
    omega (arith, parts, spelled, marks, weight)

whole-weight : (path : List ℕ) (ext : Ext) → sum_by most_spelled (whole_path path ext) ≡ sum_by most_spelled path + 16
whole-weight path I = let one = sum_by-append most_spelled (codes "data/" ++ path) (codes ".i") in let two = sum_by-append most_spelled (codes "data/") path in omega (arith, one, two)
whole-weight path D = let one = sum_by-append most_spelled (codes "data/" ++ path) (codes ".d") in let two = sum_by-append most_spelled (codes "data/") path in omega (arith, one, two)

-- a short path has plain names
pub short-one : (path : List ℕ) (ext : Ext) → is_short path ≡ true → is_plain (listed_name path ext) ≡ true
short-one path ext h =
    let few : sum_by most_spelled path ≤ 101 = grind arith in
    let name = listed-length (whole_path path ext) in
    let whole = whole-weight path ext in
    let small : length (spelled_name Plain (listed_name path ext)) ≤ 120 = omega (arith, few, name, whole) in
    grind arith

pub short-plain : (path : List ℕ) → is_short path ≡ true → (is_plain (listed_name path I) && is_plain (listed_name path D)) ≡ true
short-plain path h = ap (λ t. t && is_plain (listed_name path D)) (short-one path I h) ∙ short-one path D h
