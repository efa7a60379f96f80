-- A plain name can be read again, so that it stands for one path.
use Rattle.std.proofs.Common.{◌≡◌, ◌⊎◌, ℕ, zero, suc, ◌+◌, ◌-◌, ◌*◌, ◌/◌, ◌%◌, ◌<◌, ◌≤◌, Bool, true, false, cond, ◌&&◌, ◌||◌, List, [], ◌∷◌, ◌++◌, length, take, drop, map, Option, Some, None, refl, sym, ap, ◌∙◌, subst, inl, inr, arith, append_assoc, append-nil, length-append}
use Rattle.std.specs.Prelude.{◌==◌, codes, flat_map, slice_index, nat_le, nat_lt, unwrap_or}
use Rattle.std.specs.List.{AllByRecursion}
use Rattle.std.proofs.lemmas.List.{take-append-drop}
use Rattle.hex.specs.Hex.{encode_with, lower_digits, hex_digit_value, IsBytes}
use Rattle.hex.proofs.HexLemmas.{IsDigits-lower_digits}
use Rattle.hgs_bytes.specs.Bytes.{same, begins_with}
use Rattle.hgs_bytes.specs.Path.{components}
use Rattle.hgs_bytes.specs.Text.{split}
use Rattle.hgs_bytes.specs.Theorems.ByteLemmas.{same-eq}
use Rattle.hgs_bytes.specs.Theorems.TextLemmas.{split_parts}
use Rattle.hgs_index.specs.TrackedPath.{lower}
use Rattle.hgs_path.specs.declared.spell.Form.TheVariants.{Plain}
use Rattle.hgs_path.specs.declared.name.Ext.{Ext}
use Rattle.hgs_path.specs.declared.name.Ext.TheVariants.{I, D}
use Rattle.hgs_path.specs.StoreName.{joined, escaped, is_escaped, is_upper, unescaped, spelled, is_dot_or_space, is_device, is_port, before_dot, escaped_at, with_front, with_end, spelled_component, spelled_name, map_front, marked_directory, ends_in, whole_path, ext_text, listed_name, is_plain, encoded_name, hashed_name, store_name}
use Rattle.hgs_path.specs.Theorems.PartLemmas.{components-some}
use Rattle.hgs_path.specs.Theorems.ShapeLemmas.{Small, Raw, components-raw, components-good, components-joined, small-of}
use Rattle.hgs_path.specs.Theorems.FncacheLemmas.{joined-again, listed-once}

abbrev digit_of : ℕ → ℕ
digit_of c = unwrap_or (hex_digit_value c) 0

abbrev pub letter_of : ℕ → ℕ
letter_of c = cond (c == 95) 95 (c - 32)

-- the first byte that a text spells, and what is behind it
abbrev read_one : List ℕ → ℕ × List ℕ
read_one text =
    cond {A = ℕ × List ℕ} (slice_index text 0 == 126) (digit_of (slice_index text 1) * 16 + digit_of (slice_index text 2), drop 3 text)
    (cond {A = ℕ × List ℕ} (slice_index text 0 == 95) (letter_of (slice_index text 1), drop 2 text) (slice_index text 0, drop 1 text))

read-escaped : (b : ℕ) (rest : List ℕ) → b < 256 → read_one (escaped b ++ rest) ≡ (b, rest)
unfolding encode_with
read-escaped b rest l =
    let high = ap (λ o. unwrap_or o 0) (IsDigits-lower_digits (b / 16) (omega arith)) in
    let low = ap (λ o. unwrap_or o 0) (IsDigits-lower_digits (b % 16) (omega arith)) in
    let sum : digit_of (slice_index lower_digits (b / 16)) * 16 + digit_of (slice_index lower_digits (b % 16)) ≡ b = omega (arith, high, low) in
    λ i. (sum i, rest)

-- ---- how a byte is spelled

letter-under : (b : ℕ) → (b == 95) ≡ true → (letter_of b ≡ b) × (is_dot_or_space b ≡ false)
letter-under b e =
    let is : 95 ≡ b = grind arith in
    let P : ℕ → Type 0 = λ c. (letter_of c ≡ c) × (is_dot_or_space c ≡ false) in
    subst P is (refl, refl)

letter-upper : (b : ℕ) → is_upper b ≡ true → (letter_of (b + 32) ≡ b) × (is_dot_or_space (b + 32) ≡ false)
letter-upper b e =
    let high : 65 ≤ b = grind arith in
    let other : (b + 32 == 95) ≡ false = grind arith in
    let dots : is_dot_or_space (b + 32) ≡ false = grind arith in
    let back : b + 32 - 32 ≡ b = omega arith in
    (ap (λ t. cond t 95 (b + 32 - 32)) other ∙ back, dots)

pub letter-back : (b : ℕ) → (is_upper b || b == 95) ≡ true → (letter_of (lower b) ≡ b) × (is_dot_or_space (lower b) ≡ false)
letter-back b e = by (is_upper b) refl e
  where
    by : (t : Bool) → is_upper b ≡ t → (t || b == 95) ≡ true → (letter_of (cond t (b + 32) b) ≡ b) × (is_dot_or_space (cond t (b + 32) b) ≡ false)
    by true u h = letter-upper b u
    by false u h = letter-under b h

data Shape (b : ℕ) : Type 0 where
  is_code : spelled Plain b ≡ escaped b → Shape b
  is_letter : spelled Plain b ≡ 95 ∷ lower b ∷ [] → letter_of (lower b) ≡ b → is_dot_or_space (lower b) ≡ false → Shape b
  is_itself : spelled Plain b ≡ b ∷ [] → (b == 126) ≡ false → (b == 95) ≡ false → Shape b

or-none : (a b : Bool) → (a || b) ≡ false → (a ≡ false) × (b ≡ false)
or-none true b h = cc
or-none false b h = (refl, h)

shape : (b : ℕ) → Shape b
shape b = by (is_escaped b) (is_upper b || b == 95) refl refl
  where
    tilde : is_escaped b ≡ false → (b == 126) ≡ false
    tilde e = let h = (or-none (nat_lt b 32) (nat_le 126 b) (or-none (nat_lt b 32 || nat_le 126 b) _ e).0).1 in below h
      where
        below : nat_le 126 b ≡ false → (b == 126) ≡ false
        below k = grind arith

    by : (t u : Bool) → is_escaped b ≡ t → (is_upper b || b == 95) ≡ u → Shape b
    by true u e f = is_code (ap (λ t. cond t (escaped b) (unescaped Plain b)) e)
    by false true e f = let l = letter-back b f in is_letter (ap (λ t. cond t (escaped b) (unescaped Plain b)) e ∙ ap (λ t. cond t (95 ∷ lower b ∷ []) (b ∷ [])) f) l.0 l.1
    by false false e f = is_itself (ap (λ t. cond t (escaped b) (unescaped Plain b)) e ∙ ap (λ t. cond t (95 ∷ lower b ∷ []) (b ∷ [])) f) (tilde e) (or-none (is_upper b) (b == 95) f).1

-- a byte stands as it is spelled, or as its code
abbrev Spells : ℕ → List ℕ → Type 0
Spells b token = (token ≡ spelled Plain b) ⊎ (token ≡ escaped b)

-- the text has these bytes
abbrev Reads : List ℕ → List ℕ → Type 0
Reads text [] = text ≡ []
Reads text (b ∷ bytes) = (token : List ℕ) × (rest : List ℕ) × (text ≡ token ++ rest) × Spells b token × Reads rest bytes

read-shape : (b : ℕ) (rest : List ℕ) → b < 256 → Shape b → read_one (spelled Plain b ++ rest) ≡ (b, rest)
read-shape b rest l (is_code e) = ap (λ t. read_one (t ++ rest)) e ∙ read-escaped b rest l
read-shape b rest l (is_letter e k d) = ap (λ t. read_one (t ++ rest)) e ∙ (λ i. (k i, rest))
read-shape b rest l (is_itself e t u) = ap (λ t. read_one (t ++ rest)) e ∙ rw (t, u)

read-token : (b : ℕ) (token rest : List ℕ) → b < 256 → Spells b token → read_one (token ++ rest) ≡ (b, rest)
read-token b token rest l (inl e) = ap (λ t. read_one (t ++ rest)) e ∙ read-shape b rest l (shape b)
read-token b token rest l (inr e) = ap (λ t. read_one (t ++ rest)) e ∙ read-escaped b rest l

shape-some : (b : ℕ) → Shape b → (c : ℕ) × (cs : List ℕ) × (spelled Plain b ≡ c ∷ cs)
shape-some b (is_code e) = (126, _, e)
shape-some b (is_letter e k d) = (95, lower b ∷ [], e)
shape-some b (is_itself e t u) = (b, [], e)

token-some : (b : ℕ) (token : List ℕ) → Spells b token → (c : ℕ) × (cs : List ℕ) × (token ≡ c ∷ cs)
token-some b token (inl e) = let s = shape-some b (shape b) in (s.0, s.1, e ∙ s.2)
token-some b token (inr e) = (126, _, e)

-- a text has one list of bytes
same-reading : (text x y : List ℕ) → Small x → Small y → Reads text x → Reads text y → x ≡ y
same-reading text [] [] hx hy r s = refl
same-reading text [] (c ∷ y) hx hy r s = let t = token-some c s.0 s.3 in let e : [] ≡ (t.0 ∷ t.1) ++ s.1 = sym r ∙ s.2 ∙ ap (λ l. l ++ s.1) t.2 in cc
same-reading text (b ∷ x) [] hx hy r s = let t = token-some b r.0 r.3 in let e : [] ≡ (t.0 ∷ t.1) ++ r.1 = sym s ∙ r.2 ∙ ap (λ l. l ++ r.1) t.2 in cc
same-reading text (b ∷ x) (c ∷ y) hx hy r s =
    let one : ◌≡◌ {A = ℕ × List ℕ} (b, r.1) (c, s.1) = sym (ap read_one r.2 ∙ read-token b r.0 r.1 hx.0 r.3) ∙ ap read_one s.2 ∙ read-token c s.0 s.1 hy.0 s.3 in
    let first : b ≡ c = ap (λ p. p.0) one in
    let rest : s.1 ≡ r.1 = sym (ap (λ p. p.1) one) in
    let more = same-reading r.1 x y hx.1 hy.1 r.4 (subst (λ l. Reads l y) rest s.4) in
    λ i. first i ∷ more i

reads-plain : (part : List ℕ) → Reads (flat_map (spelled Plain) part) part
reads-plain [] = refl
reads-plain (b ∷ part) = (spelled Plain b, flat_map (spelled Plain) part, refl, inl refl, reads-plain part)

-- ---- the front

abbrev pub Itself : ℕ → Type 0
Itself c = ((c == 126) ≡ false) × ((c == 95) ≡ false)

pub record Single (part : List ℕ) (c : ℕ) (r : List ℕ) : Type 0 where
  pub more : List ℕ
  pub whole : part ≡ c ∷ more
  pub rest : r ≡ flat_map (spelled Plain) more
  pub plain : spelled Plain c ≡ c ∷ []

single : (part : List ℕ) (c : ℕ) (r : List ℕ) → flat_map (spelled Plain) part ≡ c ∷ r → Itself c → Single part c r
single [] c r e h = cc
single (b ∷ part) c r e h = by (shape b)
  where
    tilde : (tail : List ℕ) → 126 ∷ tail ≡ c ∷ r → ⊥
    tilde tail k = let first : 126 ≡ c = cc in let test : (c == 126) ≡ false = h.0 in let yes : (126 == 126) ≡ false = ap (λ x. x == 126) first ∙ test in cc

    under : (tail : List ℕ) → 95 ∷ tail ≡ c ∷ r → ⊥
    under tail k = let first : 95 ≡ c = cc in let test : (c == 95) ≡ false = h.1 in let yes : (95 == 95) ≡ false = ap (λ x. x == 95) first ∙ test in cc

    by : Shape b → Single (b ∷ part) c r
    by (is_code s) = absurd (tilde _ (sym (ap (λ l. l ++ flat_map (spelled Plain) part) s) ∙ e))
    by (is_letter s k d) = absurd (under _ (sym (ap (λ l. l ++ flat_map (spelled Plain) part) s) ∙ e))
    by (is_itself s t u) =
        let all : b ∷ flat_map (spelled Plain) part ≡ c ∷ r = sym (ap (λ l. l ++ flat_map (spelled Plain) part) s) ∙ e in
        let first : b ≡ c = cc in
        let tail : r ≡ flat_map (spelled Plain) part = cc in
        record { more = part; whole = λ i. first i ∷ part; rest = tail; plain = subst (λ x. spelled Plain x ≡ x ∷ []) first s }

dot-itself : (c : ℕ) → is_dot_or_space c ≡ true → Itself c
dot-itself c h = let one : (c == 126) ≡ false = grind arith in let two : (c == 95) ≡ false = grind arith in (one, two)

front-dot : (part text : List ℕ) → flat_map (spelled Plain) part ≡ text → is_dot_or_space (slice_index text 0) ≡ true → Reads (escaped_at text (Some 0)) part
front-dot part [] e h = cc
front-dot part (c ∷ r) e h =
    let s = single part c r e (dot-itself c h) in
    subst (Reads (escaped c ++ r)) (sym s.whole) (escaped c, r, refl, inr refl, subst (λ l. Reads l s.more) (sym s.rest) (reads-plain s.more))

pub record Letters (text : List ℕ) : Type 0 where
  pub x : ℕ
  pub y : ℕ
  pub z : ℕ
  pub r : List ℕ
  pub whole : text ≡ x ∷ y ∷ z ∷ r
  pub one : Itself x
  pub two : Itself y
  pub three : Itself z

letters-behind : (stem rest : List ℕ) → Letters stem → Letters (stem ++ rest)
letters-behind stem rest l = record { x = l.x; y = l.y; z = l.z; r = l.r ++ rest; whole = ap (λ s. s ++ rest) l.whole; one = l.one; two = l.two; three = l.three }

or-cases : (a b : Bool) (P : Type 0) → (a ≡ true → P) → (b ≡ true → P) → (a || b) ≡ true → P
or-cases true b P f g h = f refl
or-cases false b P f g h = g h

and-parts : (a b : Bool) → (a && b) ≡ true → (a ≡ true) × (b ≡ true)
and-parts true b h = (refl, h)
and-parts false b h = cc

front-of : (stem front : List ℕ) → begins_with stem front ≡ true → stem ≡ front ++ drop (length front) stem
front-of stem front h = sym (take-append-drop (length front) stem) ∙ ap (λ l. l ++ drop (length front) stem) (sym (same-eq front (take (length front) stem) h))

pub device-letters : (stem : List ℕ) → is_device stem ≡ true → Letters stem
device-letters stem =
    or-cases _ (is_port stem) (Letters stem)
    (or-cases _ (same stem (codes "nul")) _
    (or-cases _ (same stem (codes "prn")) _
    (or-cases (same stem (codes "aux")) (same stem (codes "con")) _
    (λ h. record { x = 97; y = 117; z = 120; r = []; whole = same-eq stem (codes "aux") h; one = (refl, refl); two = (refl, refl); three = (refl, refl) })
    (λ h. record { x = 99; y = 111; z = 110; r = []; whole = same-eq stem (codes "con") h; one = (refl, refl); two = (refl, refl); three = (refl, refl) }))
    (λ h. record { x = 112; y = 114; z = 110; r = []; whole = same-eq stem (codes "prn") h; one = (refl, refl); two = (refl, refl); three = (refl, refl) }))
    (λ h. record { x = 110; y = 117; z = 108; r = []; whole = same-eq stem (codes "nul") h; one = (refl, refl); two = (refl, refl); three = (refl, refl) }))
    (λ h. or-cases (begins_with stem (codes "com")) (begins_with stem (codes "lpt")) (Letters stem)
    (λ k. record { x = 99; y = 111; z = 109; r = drop 3 stem; whole = front-of stem (codes "com") k; one = (refl, refl); two = (refl, refl); three = (refl, refl) })
    (λ k. record { x = 108; y = 112; z = 116; r = drop 3 stem; whole = front-of stem (codes "lpt") k; one = (refl, refl); two = (refl, refl); three = (refl, refl) })
    (and-parts (length stem == 4) _ (and-parts _ _ (and-parts _ _ h).0).0).1)

pub text-letters : (text : List ℕ) (o : Option (List ℕ × List ℕ)) → split 46 text ≡ o → Letters (before_dot text o) → Letters text
text-letters text None e l = l
text-letters text (Some p) e l = subst Letters (sym (split_parts 46 text p e).0) (letters-behind p.0 (46 ∷ p.1) l)

front-device : (part text : List ℕ) → flat_map (spelled Plain) part ≡ text → Letters text → Reads (escaped_at text (Some 2)) part
front-device part text e l =
    let a = single part l.x (l.y ∷ l.z ∷ l.r) (e ∙ l.whole) l.one in
    let b = single a.more l.y (l.z ∷ l.r) (sym a.rest) l.two in
    let c = single b.more l.z l.r (sym b.rest) l.three in
    let whole : part ≡ l.x ∷ l.y ∷ l.z ∷ c.more = a.whole ∙ ap (λ m. l.x ∷ m) b.whole ∙ ap (λ m. l.x ∷ l.y ∷ m) c.whole in
    let tail : Reads l.r c.more = subst (λ m. Reads m c.more) (sym c.rest) (reads-plain c.more) in
    let third : Reads (escaped l.z ++ l.r) (l.z ∷ c.more) = (escaped l.z, l.r, refl, inr refl, tail) in
    let second : Reads (l.y ∷ (escaped l.z ++ l.r)) (l.y ∷ l.z ∷ c.more) = (l.y ∷ [], escaped l.z ++ l.r, refl, inl (sym b.plain), third) in
    let first : Reads (l.x ∷ l.y ∷ (escaped l.z ++ l.r)) (l.x ∷ l.y ∷ l.z ∷ c.more) = (l.x ∷ [], l.y ∷ (escaped l.z ++ l.r), refl, inl (sym a.plain), second) in
    subst (λ t. Reads (escaped_at t (Some 2)) part) (sym l.whole) (subst (Reads (l.x ∷ l.y ∷ (escaped l.z ++ l.r))) (sym whole) first)

reads-front : (part : List ℕ) → Reads (with_front (flat_map (spelled Plain) part)) part
reads-front part = by (is_dot_or_space (slice_index (flat_map (spelled Plain) part) 0)) (is_device (before_dot (flat_map (spelled Plain) part) (split 46 (flat_map (spelled Plain) part)))) refl refl
  where
    by : (t u : Bool) → is_dot_or_space (slice_index (flat_map (spelled Plain) part) 0) ≡ t → is_device (before_dot (flat_map (spelled Plain) part) (split 46 (flat_map (spelled Plain) part))) ≡ u
        → Reads (escaped_at (flat_map (spelled Plain) part) (cond t (Some 0) (cond u (Some 2) None))) part
    by true u e f = front-dot part (flat_map (spelled Plain) part) refl e
    by false true e f = front-device part (flat_map (spelled Plain) part) refl (text-letters (flat_map (spelled Plain) part) _ refl (device-letters _ f))
    by false false e f = reads-plain part

-- ---- the end

abbrev pub last_of : List ℕ → ℕ
last_of xs = slice_index xs (length xs - 1)

index-behind : (xs : List ℕ) (e : ℕ) → slice_index (xs ++ e ∷ []) (length xs) ≡ e
index-behind [] e = refl
index-behind (x ∷ xs) e = index-behind xs e

last-behind : (xs : List ℕ) (e : ℕ) → last_of (xs ++ e ∷ []) ≡ e
last-behind xs e = let n : length (xs ++ e ∷ []) - 1 ≡ length xs = omega (arith, length-append xs (e ∷ [])) in ap (slice_index (xs ++ e ∷ [])) n ∙ index-behind xs e

pub digit-plain : (n : ℕ) → is_dot_or_space (slice_index lower_digits n) ≡ false
digit-plain n = by lower_digits n (refl, (refl, (refl, (refl, (refl, (refl, (refl, (refl, (refl, (refl, (refl, (refl, (refl, (refl, (refl, (refl, tt))))))))))))))))
  where
    by : (xs : List ℕ) (k : ℕ) → AllByRecursion (λ b. is_dot_or_space b ≡ false) xs → is_dot_or_space (slice_index xs k) ≡ false
    by [] k h = refl
    by (x ∷ xs) zero h = h.0
    by (x ∷ xs) (suc k) h = by xs k h.1

code-last : (b : ℕ) → is_dot_or_space (last_of (escaped b)) ≡ false
unfolding encode_with
code-last b = digit-plain (b % 16)

nothing-before : (init : List ℕ) (e b : ℕ) → b ∷ [] ≡ init ++ e ∷ [] → init ≡ []
nothing-before [] e b h = refl
nothing-before (x ∷ init) e b h = absurd (omega (arith, ap length h, length-append init (e ∷ [])))

true-false : (a : Bool) → a ≡ true → a ≡ false → ⊥
true-false a h k = let e : true ≡ false = sym h ∙ k in cc

code-not : (b : ℕ) (init : List ℕ) (e : ℕ) → escaped b ≡ init ++ e ∷ [] → is_dot_or_space e ≡ true → ⊥
code-not b init e is d = true-false (is_dot_or_space e) d (ap is_dot_or_space (sym (ap last_of is ∙ last-behind init e)) ∙ code-last b)

last-shape : (b : ℕ) (init : List ℕ) (e : ℕ) → Shape b → spelled Plain b ≡ init ++ e ∷ [] → is_dot_or_space e ≡ true → (init ≡ []) × (e ≡ b)
last-shape b init e (is_code s) is d = absurd (code-not b init e (sym s ∙ is) d)
last-shape b init e (is_letter s k low) is d = absurd (true-false (is_dot_or_space e) d (ap is_dot_or_space (sym (ap last_of (sym s ∙ is) ∙ last-behind init e)) ∙ low))
last-shape b init e (is_itself s t u) is d = (nothing-before init e b (sym s ∙ is), sym (ap last_of (sym s ∙ is) ∙ last-behind init e))

last-token : (b : ℕ) (token init : List ℕ) (e : ℕ) → Spells b token → token ≡ init ++ e ∷ [] → is_dot_or_space e ≡ true → (init ≡ []) × (e ≡ b)
last-token b token init e (inl s) is d = last-shape b init e (shape b) (sym s ∙ is) d
last-token b token init e (inr s) is d = absurd (code-not b init e (sym s ∙ is) d)

pub record Split (token rest init : List ℕ) (e : ℕ) : Type 0 where
  pub before : List ℕ
  pub behind : rest ≡ before ++ e ∷ []
  pub all : init ≡ token ++ before

split-last : (token : List ℕ) (c : ℕ) (rest init : List ℕ) (e : ℕ) → token ++ c ∷ rest ≡ init ++ e ∷ [] → Split token (c ∷ rest) init e
split-last [] c rest init e h = record { before = init; behind = h; all = refl }
split-last (a ∷ token) c rest [] e h = absurd (omega (arith, ap length h, length-append token (c ∷ rest)))
split-last (a ∷ token) c rest (x ∷ init) e h =
    let first : x ≡ a = cc in
    let tail : token ++ c ∷ rest ≡ init ++ e ∷ [] = cc in
    let s = split-last token c rest init e tail in
    let all = s.all in
    record { before = s.before; behind = s.behind; all = λ i. first i ∷ all i }

end-step : (b : ℕ) (part token rest init : List ℕ) (e : ℕ) → Spells b token → token ++ rest ≡ init ++ e ∷ [] → is_dot_or_space e ≡ true → Reads rest part
    → ((before : List ℕ) → rest ≡ before ++ e ∷ [] → Reads (before ++ escaped e) part) → Reads (init ++ escaped e) (b ∷ part)
end-step b part token [] init e s h d more again =
    let t = last-token b token init e s (sym (append-nil token) ∙ h) d in
    (escaped b, [], ap (λ l. l ++ escaped e) t.0 ∙ ap escaped t.1 ∙ sym (append-nil (escaped b)), inr refl, more)
end-step b part token (c ∷ rest) init e s h d more again =
    let k = split-last token c rest init e h in
    (token, k.before ++ escaped e, ap (λ l. l ++ escaped e) k.all ∙ append_assoc token k.before (escaped e), s, again k.before k.behind)

reads-last : (part text init : List ℕ) (e : ℕ) → text ≡ init ++ e ∷ [] → is_dot_or_space e ≡ true → Reads text part → Reads (init ++ escaped e) part
reads-last [] text init e is d r = absurd (omega (arith, ap length (sym r ∙ is), length-append init (e ∷ [])))
reads-last (b ∷ part) text init e is d r = end-step b part r.0 r.1 init e r.3 (sym r.2 ∙ is) d r.4 (λ before behind. reads-last part r.1 before e behind d r.4)

whole-at : (x : ℕ) (xs : List ℕ) → (x ∷ xs ≡ take (length xs) (x ∷ xs) ++ slice_index (x ∷ xs) (length xs) ∷ []) × (drop (length xs + 1) (x ∷ xs) ≡ [])
whole-at x [] = (refl, refl)
whole-at x (y ∷ ys) =
    let h = whole-at y ys in
    let n : suc (length ys) + 1 ≡ suc (length ys + 1) = omega arith in
    (ap (λ l. x ∷ l) h.0, ap (λ k. drop k (x ∷ y ∷ ys)) n ∙ h.1)

pub end-parts : (text : List ℕ) → is_dot_or_space (last_of text) ≡ true → (text ≡ take (length text - 1) text ++ last_of text ∷ []) × (drop (length text - 1 + 1) text ≡ [])
end-parts [] h = cc
end-parts (x ∷ xs) h =
    let P : ℕ → Type 0 = λ k. (x ∷ xs ≡ take k (x ∷ xs) ++ slice_index (x ∷ xs) k ∷ []) × (drop (k + 1) (x ∷ xs) ≡ []) in
    let n : length xs ≡ length (x ∷ xs) - 1 = omega arith in
    subst P n (whole-at x xs)

reads-end : (text part : List ℕ) → Reads text part → Reads (with_end text) part
reads-end text part r = by (is_dot_or_space (last_of text)) refl
  where
    by : (t : Bool) → is_dot_or_space (last_of text) ≡ t → Reads (escaped_at text (cond t (Some (length text - 1)) None)) part
    by true e =
        let p = end-parts text e in
        let front = take (length text - 1) text ++ escaped (last_of text) in
        subst (λ l. Reads l part) (sym (ap (λ z. front ++ z) p.1 ∙ append-nil front)) (reads-last part text (take (length text - 1) text) (last_of text) p.0 e r)
    by false e = r

-- ---- names

component-once : (u v : List ℕ) → Small u → Small v → spelled_component Plain u ≡ spelled_component Plain v → u ≡ v
component-once u v hu hv e =
    let ru = reads-end (with_front (flat_map (spelled Plain) u)) u (reads-front u) in
    let rv = reads-end (with_front (flat_map (spelled Plain) v)) v (reads-front v) in
    same-reading (spelled_component Plain u) u v hu hv ru (subst (λ l. Reads l v) (sym e) rv)

raw-small : (part : List ℕ) → Raw part → Small part
raw-small [] h = tt
raw-small (b ∷ part) h = (h.0.0, raw-small part h.1)

map-once : (us vs : List (List ℕ)) → AllByRecursion Raw us → AllByRecursion Raw vs → map (spelled_component Plain) us ≡ map (spelled_component Plain) vs → us ≡ vs
map-once [] [] hu hv e = refl
map-once [] (v ∷ vs) hu hv e = cc
map-once (u ∷ us) [] hu hv e = cc
map-once (u ∷ us) (v ∷ vs) hu hv e =
    let head : spelled_component Plain u ≡ spelled_component Plain v = cc in
    let tail : map (spelled_component Plain) us ≡ map (spelled_component Plain) vs = cc in
    let first = component-once u v (raw-small u hu.0) (raw-small v hv.0) head in
    let rest = map-once us vs hu.1 hv.1 tail in
    λ i. first i ∷ rest i

parts-spelled : (name : List ℕ) → Small name → components (spelled_name Plain name) ≡ map (spelled_component Plain) (components name)
parts-spelled name h = by (components name) (components-some name) (components-raw name h)
  where
    by : (cs : List (List ℕ)) → (y : List ℕ) × (ys : List (List ℕ)) × (cs ≡ y ∷ ys) → AllByRecursion Raw cs → components (joined (map (spelled_component Plain) cs)) ≡ map (spelled_component Plain) cs
    by [] k raw = let e = k.2 in cc
    by (c ∷ cs) k raw = components-joined (spelled_component Plain c) (map (spelled_component Plain) cs) (components-good Plain (c ∷ cs) raw)

pub plain-once : (a b : List ℕ) → Small a → Small b → spelled_name Plain a ≡ spelled_name Plain b → a ≡ b
plain-once a b ha hb e =
    let parts = map-once (components a) (components b) (components-raw a ha) (components-raw b hb) (sym (parts-spelled a ha) ∙ ap components e ∙ parts-spelled b hb) in
    sym (joined-again a) ∙ ap joined parts ∙ joined-again b

small-append : (xs ys : List ℕ) → Small xs → Small ys → Small (xs ++ ys)
small-append [] ys h k = k
small-append (x ∷ xs) ys h k = (h.0, small-append xs ys h.1 k)

marked-small : (d : List ℕ) → Small d → Small (marked_directory d)
marked-small d h = by (ends_in d (codes ".hg") || ends_in d (codes ".i") || ends_in d (codes ".d"))
  where
    by : (t : Bool) → Small (cond t (d ++ codes ".hg") d)
    by true = small-append d (codes ".hg") h (omega arith, (omega arith, (omega arith, tt)))
    by false = h

front-small : (parts : List (List ℕ)) → AllByRecursion Raw parts → Small (joined (map_front marked_directory parts))
front-small [] h = tt
front-small (part ∷ []) h = raw-small part h.0
front-small (part ∷ next ∷ []) h = small-append (marked_directory part) (47 ∷ next) (marked-small part (raw-small part h.0)) (omega arith, raw-small next h.1.0)
front-small (part ∷ next ∷ last ∷ parts) h = small-append (marked_directory part) _ (marked-small part (raw-small part h.0)) (omega arith, front-small (next ∷ last ∷ parts) h.1)

ext-small : (ext : Ext) → Small (ext_text ext)
ext-small I = (omega arith, (omega arith, tt))
ext-small D = (omega arith, (omega arith, tt))

pub listed-small : (path : List ℕ) (ext : Ext) → Small path → Small (listed_name path ext)
listed-small path ext h =
    let front : Small (codes "data/") = (omega arith, (omega arith, (omega arith, (omega arith, (omega arith, tt))))) in
    front-small (components (whole_path path ext)) (components-raw (whole_path path ext) (small-append (codes "data/" ++ path) (ext_text ext) (small-append (codes "data/") path front h) (ext-small ext)))

plain-name : (name : List ℕ) (ext : Ext) → is_plain name ≡ true → encoded_name name ext ≡ spelled_name Plain name
plain-name name ext h = ap (λ t. cond t (spelled_name Plain name) (hashed_name name ext)) h

-- Files whose names are not hashed have different names.
pub names-once : (p q : List ℕ) (e f : Ext) → IsBytes p → IsBytes q → is_plain (listed_name p e) ≡ true → is_plain (listed_name q f) ≡ true → store_name p e ≡ store_name q f → (p ≡ q) × (e ≡ f)
names-once p q e f hp hq np nq is =
    let names = sym (plain-name (listed_name p e) e np) ∙ ap (drop 6) is ∙ plain-name (listed_name q f) f nq in
    listed-once p q e f (plain-once (listed_name p e) (listed_name q f) (listed-small p e (small-of p hp)) (listed-small q f (small-of q hq)) names)
