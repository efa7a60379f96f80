-- The name of a filelog's file is a path of the store.
use Rattle.std.proofs.Common.{◌≡◌, ℕ, zero, suc, ◌+◌, ◌-◌, ◌*◌, ◌/◌, ◌%◌, ◌<◌, ◌≤◌, Bool, true, false, cond, ◌&&◌, ◌||◌, not, List, [], ◌∷◌, ◌++◌, length, take, drop, map, Option, Some, None, refl, sym, ap, ◌∙◌, subst, arith, append_assoc, length-append}
use Rattle.std.specs.Prelude.{◌==◌, codes, flat_map, slice_index, nat_le, nat_lt}
use Rattle.std.specs.List.{AllByRecursion, list_any, onto_first}
use Rattle.std.specs.Int.{w32, to_be_bytes}
use Rattle.hex.specs.Hex.{encode_with, encode_lower, lower_digits}
use Rattle.hex.proofs.HexLemmas.{length-encode_with}
use Rattle.sha1.specs.Sha1.{sha1, digest_bytes}
use Rattle.hgs_bytes.specs.Path.{components, is_line_byte}
use Rattle.hgs_bytes.specs.Text.{split}
use Rattle.hgs_files.specs.Path.{is_dots, is_store_path}
use Rattle.hgs_index.specs.TrackedPath.{lower}
use Rattle.hgs_path.specs.declared.name.Ext.{Ext}
use Rattle.hgs_path.specs.declared.name.Ext.TheVariants.{I, D}
use Rattle.hgs_path.specs.declared.spell.Form.{Form}
use Rattle.hgs_path.specs.declared.spell.Form.TheVariants.{Plain, Hashed}
use Rattle.hgs_path.specs.StoreName.{ext_text, joined, escaped, is_escaped, is_upper, unescaped, spelled, is_dot_or_space, is_device, before_dot, escaped_at, front_place, end_place, with_front, spelled_component, spelled_name, short_directory, fitting, directories, last_part, short_directories, hashed_from, hashed_name, encoded_name}
use Rattle.hgs_path.specs.Theorems.PartLemmas.{slashed, components-some}

-- ---- bytes of names

abbrev pub is_name_byte : ℕ → Bool
is_name_byte b = nat_lt b 256 && not (is_line_byte b) && not (b == 47)

abbrev pub clean : List ℕ → Bool
clean [] = true
clean (b ∷ bytes) = is_name_byte b && clean bytes

and-both : (a b : Bool) → a ≡ true → b ≡ true → (a && b) ≡ true
and-both true b h k = k
and-both false b h k = cc

and-parts : (a b : Bool) → (a && b) ≡ true → (a ≡ true) × (b ≡ true)
and-parts true b h = (refl, h)
and-parts false b h = cc

or-none : (a b : Bool) → (a || b) ≡ false → (a ≡ false) × (b ≡ false)
or-none true b h = cc
or-none false b h = (refl, h)

not-false : (b : Bool) → not b ≡ true → b ≡ false
not-false true h = cc
not-false false h = refl

pub clean-append : (xs ys : List ℕ) → clean xs ≡ true → clean ys ≡ true → clean (xs ++ ys) ≡ true
clean-append [] ys h k = k
clean-append (x ∷ xs) ys h k = let p = and-parts (is_name_byte x) (clean xs) h in and-both (is_name_byte x) (clean (xs ++ ys)) p.0 (clean-append xs ys p.1 k)

pub clean-take : (n : ℕ) (xs : List ℕ) → clean xs ≡ true → clean (take n xs) ≡ true
clean-take zero xs h = refl
clean-take (suc n) [] h = refl
clean-take (suc n) (x ∷ xs) h = let p = and-parts (is_name_byte x) (clean xs) h in and-both (is_name_byte x) (clean (take n xs)) p.0 (clean-take n xs p.1)

pub clean-drop : (n : ℕ) (xs : List ℕ) → clean xs ≡ true → clean (drop n xs) ≡ true
clean-drop zero xs h = h
clean-drop (suc n) [] h = refl
clean-drop (suc n) (x ∷ xs) h = clean-drop n xs (and-parts (is_name_byte x) (clean xs) h).1

clean-at : (xs : List ℕ) (n : ℕ) → clean xs ≡ true → n < length xs → is_name_byte (slice_index xs n) ≡ true
clean-at [] n h l = absurd (omega arith)
clean-at (x ∷ xs) zero h l = (and-parts (is_name_byte x) (clean xs) h).0
clean-at (x ∷ xs) (suc n) h l = clean-at xs n (and-parts (is_name_byte x) (clean xs) h).1 (omega arith)

byte-small : (b : ℕ) → is_name_byte b ≡ true → b < 256
byte-small b h = grind arith

at-small : (xs : List ℕ) (n : ℕ) → clean xs ≡ true → slice_index xs n < 256
at-small [] n h = omega arith
at-small (x ∷ xs) zero h = byte-small x (and-parts (is_name_byte x) (clean xs) h).0
at-small (x ∷ xs) (suc n) h = at-small xs n (and-parts (is_name_byte x) (clean xs) h).1

byte-line : (b : ℕ) → is_name_byte b ≡ true → is_line_byte b ≡ false
byte-line b h = not-false (is_line_byte b) (and-parts (nat_lt b 256) (not (is_line_byte b)) (and-parts _ (not (b == 47)) h).0).1

byte-slash : (b : ℕ) → is_name_byte b ≡ true → (b == 47) ≡ false
byte-slash b h = not-false (b == 47) (and-parts _ (not (b == 47)) h).1

-- ---- digits

abbrev pub Small : List ℕ → Type 0
Small xs = AllByRecursion (λ b. b < 256) xs

digit-clean : (n : ℕ) → n < 16 → is_name_byte (slice_index lower_digits n) ≡ true
digit-clean n l = clean-at lower_digits n refl (omega arith)

pub digits-clean : (xs : List ℕ) → Small xs → clean (encode_lower xs) ≡ true
unfolding encode_with
digits-clean [] h = refl
digits-clean (x ∷ xs) h =
    let lt = h.0 in
    and-both (is_name_byte (slice_index lower_digits (x / 16))) _ (digit-clean (x / 16) (omega arith))
    (and-both (is_name_byte (slice_index lower_digits (x % 16))) _ (digit-clean (x % 16) (omega arith)) (digits-clean xs h.1))

small-append : (xs ys : List ℕ) → Small xs → Small ys → Small (xs ++ ys)
small-append [] ys h k = k
small-append (x ∷ xs) ys h k = (h.0, small-append xs ys h.1 k)

small-word : (n : ℕ) → Small (to_be_bytes w32 n)
small-word n = (omega arith, (omega arith, (omega arith, (omega arith, tt))))

small-digest : (h : List ℕ) (n : ℕ) → Small (digest_bytes h n)
unfolding digest_bytes
small-digest h zero = tt
small-digest h (suc n) = small-append (digest_bytes h n) (to_be_bytes w32 (slice_index h n)) (small-digest h n) (small-word (slice_index h n))

length-digest : (h : List ℕ) (n : ℕ) → length (digest_bytes h n) ≡ 4 * n
unfolding digest_bytes
length-digest h zero = refl
length-digest h (suc n) = omega (arith, length-digest h n, length-append (digest_bytes h n) (to_be_bytes w32 (slice_index h n)))

pub small-sha1 : (m : List ℕ) → Small (sha1 m)
unfolding sha1
small-sha1 m = small-digest _ 5

pub length-sha1 : (m : List ℕ) → length (sha1 m) ≡ 20
unfolding sha1
length-sha1 m = length-digest _ 5

-- ---- spelled bytes

escaped-clean : (b : ℕ) → b < 256 → clean (escaped b) ≡ true
escaped-clean b l = digits-clean (b ∷ []) (l, tt)

name-byte : (b : ℕ) → b < 256 → 32 ≤ b → (b == 47) ≡ false → is_name_byte b ≡ true
name-byte b l low slash = grind arith

lower-name : (b : ℕ) → b < 256 → 32 ≤ b → (b == 47) ≡ false → is_name_byte (lower b) ≡ true
lower-name b l low slash = by (nat_le 65 b && nat_le b 90) refl
  where
    up : (nat_le 65 b && nat_le b 90) ≡ true → is_name_byte (b + 32) ≡ true
    up e = grind arith

    by : (t : Bool) → (nat_le 65 b && nat_le b 90) ≡ t → is_name_byte (cond t (b + 32) b) ≡ true
    by true e = up e
    by false e = name-byte b l low slash

one-clean : (b : ℕ) → is_name_byte b ≡ true → clean (b ∷ []) ≡ true
one-clean b h = and-both (is_name_byte b) true h refl

unescaped-clean : (form : Form) (b : ℕ) → b < 256 → 32 ≤ b → (b == 47) ≡ false → clean (unescaped form b) ≡ true
unescaped-clean Plain b l low slash = by (is_upper b || b == 95)
  where
    by : (t : Bool) → clean (cond t (95 ∷ lower b ∷ []) (b ∷ [])) ≡ true
    by true = one-clean (lower b) (lower-name b l low slash)
    by false = one-clean b (name-byte b l low slash)
unescaped-clean Hashed b l low slash = one-clean (lower b) (lower-name b l low slash)

spelled-clean : (form : Form) (b : ℕ) → b < 256 → (b == 47) ≡ false → clean (spelled form b) ≡ true
spelled-clean form b l slash = by (is_escaped b) refl
  where
    low : nat_lt b 32 ≡ false → 32 ≤ b
    low e = grind arith

    by : (t : Bool) → is_escaped b ≡ t → clean (cond t (escaped b) (unescaped form b)) ≡ true
    by true e = escaped-clean b l
    by false e = unescaped-clean form b l (low (or-none (nat_lt b 32) _ (or-none _ (list_any (λ x. x == b) (codes "\\:*?\"<>|")) e).0).0) slash

-- bytes between slashes
abbrev pub Raw : List ℕ → Type 0
Raw part = AllByRecursion (λ b. (b < 256) × ((b == 47) ≡ false)) part

spelled-all : (form : Form) (part : List ℕ) → Raw part → clean (flat_map (spelled form) part) ≡ true
spelled-all form [] h = refl
spelled-all form (b ∷ part) h = clean-append (spelled form b) (flat_map (spelled form) part) (spelled-clean form b h.0.0 h.0.1) (spelled-all form part h.1)

AllRaw : List (List ℕ) → Type 0
AllRaw parts = AllByRecursion Raw parts

onto-raw : (x : ℕ) (parts : List (List ℕ)) → x < 256 → (x == 47) ≡ false → AllByRecursion Raw parts → AllByRecursion Raw (onto_first x parts)
onto-raw x [] l s h = (((l, s), tt), tt)
onto-raw x (part ∷ parts) l s h = (((l, s), h.0), h.1)

raw-step : (t : Bool) (x : ℕ) (parts : List (List ℕ)) → (x == 47) ≡ t → x < 256 → AllByRecursion Raw parts → AllByRecursion Raw (cond t ([] ∷ parts) (onto_first x parts))
raw-step true x parts e l h = (tt, h)
raw-step false x parts e l h = onto-raw x parts l e h

pub components-raw : (xs : List ℕ) → Small xs → AllByRecursion Raw (components xs)
components-raw [] h = (tt, tt)
components-raw (x ∷ xs) h = raw-step (x == 47) x (components xs) refl h.0 (components-raw xs h.1)

-- ---- components

escape-clean : (part : List ℕ) (o : Option ℕ) → clean part ≡ true → clean (escaped_at part o) ≡ true
escape-clean part None h = h
escape-clean part (Some k) h =
    clean-append (take k part ++ escaped (slice_index part k)) (drop (k + 1) part) (clean-append (take k part) (escaped (slice_index part k)) (clean-take k part h) (escaped-clean (slice_index part k) (at-small part k h))) (clean-drop (k + 1) part h)

-- no dot stands in front
abbrev pub NoDot : List ℕ → Type 0
NoDot part = (slice_index part 0 == 46) ≡ false

nodot-escape : (part : List ℕ) (o : Option ℕ) → NoDot part → NoDot (escaped_at part o)
nodot-escape part None h = h
nodot-escape part (Some zero) h = refl
nodot-escape [] (Some (suc k)) h = refl
nodot-escape (b ∷ part) (Some (suc k)) h = h

nodot-front : (part : List ℕ) → NoDot (with_front part)
nodot-front part = by (is_dot_or_space (slice_index part 0)) refl
  where
    by : (t : Bool) → is_dot_or_space (slice_index part 0) ≡ t → NoDot (escaped_at part (cond t (Some 0) (cond (is_device (before_dot part (split 46 part))) (Some 2) None)))
    by true e = refl
    by false e = nodot-escape part _ (or-none (slice_index part 0 == 46) (slice_index part 0 == 32) e).0

not-dots : (part : List ℕ) → NoDot part → is_dots part ≡ false
not-dots [] h = refl
not-dots (b ∷ part) h = grind (arith, h)

-- a component that may stand in a path of the store
pub record Good (part : List ℕ) : Type 0 where
  pub bytes : clean part ≡ true
  pub front : NoDot part

pub component-good : (form : Form) (part : List ℕ) → Raw part → Good (spelled_component form part)
component-good form part h =
    let text = flat_map (spelled form) part in
    let front = escape-clean text (front_place text) (spelled-all form part h) in
    record { bytes = escape-clean (with_front text) (end_place (with_front text)) front; front = nodot-escape (with_front text) (end_place (with_front text)) (nodot-front text) }

pub components-good : (form : Form) (parts : List (List ℕ)) → AllByRecursion Raw parts → AllByRecursion Good (map (spelled_component form) parts)
components-good form [] h = tt
components-good form (part ∷ parts) h = (component-good form part h.0, components-good form parts h.1)

-- ---- what is joined of good parts

pub components-over : (xs ys : List ℕ) → clean xs ≡ true → components (xs ++ 47 ∷ ys) ≡ xs ∷ components ys
components-over [] ys h = refl
components-over (x ∷ xs) ys h =
    let p = and-parts (is_name_byte x) (clean xs) h in
    let s = byte-slash x p.0 in
    ap (λ t. cond t ([] ∷ components (xs ++ 47 ∷ ys)) (onto_first x (components (xs ++ 47 ∷ ys)))) s ∙ ap (onto_first x) (components-over xs ys p.1)

pub components-one : (xs : List ℕ) → clean xs ≡ true → components xs ≡ xs ∷ []
components-one [] h = refl
components-one (x ∷ xs) h =
    let p = and-parts (is_name_byte x) (clean xs) h in
    let s = byte-slash x p.0 in
    ap (λ t. cond t ([] ∷ components xs) (onto_first x (components xs))) s ∙ ap (onto_first x) (components-one xs p.1)

pub components-joined : (part : List ℕ) (parts : List (List ℕ)) → AllByRecursion Good (part ∷ parts) → components (joined (part ∷ parts)) ≡ part ∷ parts
components-joined part [] h = components-one part h.0.bytes
components-joined part (next ∷ parts) h = components-over part (joined (next ∷ parts)) h.0.bytes ∙ ap (λ l. part ∷ l) (components-joined next parts h.1)

no-lines : (xs : List ℕ) → clean xs ≡ true → list_any is_line_byte xs ≡ false
no-lines [] h = refl
no-lines (x ∷ xs) h = let p = and-parts (is_name_byte x) (clean xs) h in ap (λ t. t || list_any is_line_byte xs) (byte-line x p.0) ∙ no-lines xs p.1

none-in-both : (xs ys : List ℕ) → list_any is_line_byte xs ≡ false → list_any is_line_byte ys ≡ false → list_any is_line_byte (xs ++ ys) ≡ false
none-in-both [] ys h k = k
none-in-both (x ∷ xs) ys h k = let p = or-none (is_line_byte x) (list_any is_line_byte xs) h in ap (λ t. t || list_any is_line_byte (xs ++ ys)) p.0 ∙ none-in-both xs ys p.1 k

no-lines-joined : (parts : List (List ℕ)) → AllByRecursion Good parts → list_any is_line_byte (joined parts) ≡ false
no-lines-joined [] h = refl
no-lines-joined (part ∷ []) h = no-lines part h.0.bytes
no-lines-joined (part ∷ next ∷ parts) h = none-in-both part (47 ∷ joined (next ∷ parts)) (no-lines part h.0.bytes) (no-lines-joined (next ∷ parts) h.1)

no-dots : (parts : List (List ℕ)) → AllByRecursion Good parts → list_any is_dots parts ≡ false
no-dots [] h = refl
no-dots (part ∷ parts) h = ap (λ t. t || list_any is_dots parts) (not-dots part h.0.front) ∙ no-dots parts h.1

pub path-good : (part : List ℕ) (parts : List (List ℕ)) → AllByRecursion Good (part ∷ parts) → length (joined (part ∷ parts)) ≤ 4000 → is_store_path (codes "store/" ++ joined (part ∷ parts)) ≡ true
path-good part parts h l =
    let whole = codes "store/" ++ joined (part ∷ parts) in
    let size = length-append (codes "store/") (joined (part ∷ parts)) in
    let lines : not (list_any is_line_byte whole) ≡ true = ap not (no-lines-joined (part ∷ parts) h) in
    let dots : not (list_any is_dots (components whole)) ≡ true = ap not (ap (list_any is_dots) (components-joined part parts h) ∙ no-dots (part ∷ parts) h) in
    let some : nat_le 1 (length whole) ≡ true = grind (arith, size) in
    let few : nat_le (length whole) 4096 ≡ true = grind (arith, size) in
    and-both _ _ (and-both _ _ (and-both _ _ (and-both _ _ some few) refl) lines) dots

-- ---- the hashed form

nodot-take : (n : ℕ) (part : List ℕ) → NoDot part → NoDot (take n part)
nodot-take zero part h = refl
nodot-take (suc n) [] h = refl
nodot-take (suc n) (b ∷ part) h = h

nodot-append : (xs ys : List ℕ) → NoDot xs → NoDot ys → NoDot (xs ++ ys)
nodot-append [] ys h k = k
nodot-append (x ∷ xs) ys h k = h

short-good : (d : List ℕ) → Good d → Good (short_directory d)
short-good d h = by (is_dot_or_space (slice_index (take 8 d) (length (take 8 d) - 1)))
  where
    by : (t : Bool) → Good (cond t (take (length (take 8 d) - 1) (take 8 d) ++ 95 ∷ []) (take 8 d))
    by true = record {
      bytes = clean-append (take (length (take 8 d) - 1) (take 8 d)) (95 ∷ []) (clean-take (length (take 8 d) - 1) (take 8 d) (clean-take 8 d h.bytes)) refl;
      front = nodot-append (take (length (take 8 d) - 1) (take 8 d)) (95 ∷ []) (nodot-take (length (take 8 d) - 1) (take 8 d) (nodot-take 8 d h.front)) refl;
    }
    by false = record { bytes = clean-take 8 d h.bytes; front = nodot-take 8 d h.front }

shorts-good : (ds : List (List ℕ)) → AllByRecursion Good ds → AllByRecursion Good (map short_directory ds)
shorts-good [] h = tt
shorts-good (d ∷ ds) h = (short-good d h.0, shorts-good ds h.1)

directories-good : (parts : List (List ℕ)) → AllByRecursion Good parts → AllByRecursion Good (directories parts)
directories-good [] h = tt
directories-good (part ∷ []) h = tt
directories-good (part ∷ next ∷ parts) h = (h.0, directories-good (next ∷ parts) h.1)

fitting-good : (used : ℕ) (ds : List (List ℕ)) → AllByRecursion Good ds → AllByRecursion Good (fitting used ds)
fitting-good used [] h = tt
fitting-good used (d ∷ ds) h = by (nat_le (used + length d) 68) (fitting-good (used + length d + 1) ds h.1)
  where
    by : (t : Bool) → AllByRecursion Good (fitting (used + length d + 1) ds) → AllByRecursion Good (cond t (d ∷ fitting (used + length d + 1) ds) [])
    by true k = (h.0, k)
    by false k = tt

last-good : (parts : List (List ℕ)) → AllByRecursion Good parts → Good (last_part parts)
last-good [] h = record { bytes = refl; front = refl }
last-good (part ∷ []) h = h.0
last-good (part ∷ next ∷ parts) h = last-good (next ∷ parts) h.1

fits-length : (used : ℕ) (ds : List (List ℕ)) → used ≤ 69 → used + length (slashed (fitting used ds)) ≤ 69
fits-length used [] l = omega arith
fits-length used (d ∷ ds) l = by (nat_le (used + length d) 68) refl (fits-length (used + length d + 1) ds)
  where
    small : (n : ℕ) → nat_le n 68 ≡ true → n ≤ 68
    small n e = grind arith

    by : (t : Bool) → nat_le (used + length d) 68 ≡ t → (used + length d + 1 ≤ 69 → used + length d + 1 + length (slashed (fitting (used + length d + 1) ds)) ≤ 69) → used + length (slashed (cond t (d ∷ fitting (used + length d + 1) ds) [])) ≤ 69
    by true e again =
        let room = small (used + length d) e in
        let rest = again (omega arith) in
        omega (arith, length-append (d ++ 47 ∷ []) (slashed (fitting (used + length d + 1) ds)), length-append d (47 ∷ []))
    by false e again = omega arith

digit-nodot : (n : ℕ) → (slice_index lower_digits n == 46) ≡ false
digit-nodot n = by lower_digits n (refl, (refl, (refl, (refl, (refl, (refl, (refl, (refl, (refl, (refl, (refl, (refl, (refl, (refl, (refl, (refl, tt))))))))))))))))
  where
    by : (xs : List ℕ) (k : ℕ) → AllByRecursion (λ b. (b == 46) ≡ false) xs → (slice_index xs k == 46) ≡ false
    by [] k h = refl
    by (x ∷ xs) zero h = h.0
    by (x ∷ xs) (suc k) h = by xs k h.1

-- digits are there, and no dot is in front of them
digits-front : (xs ys : List ℕ) → 0 < length xs → NoDot (encode_lower xs ++ ys)
unfolding encode_with
digits-front [] ys l = absurd (omega arith)
digits-front (x ∷ xs) ys l = digit-nodot (x / 16)

ext-clean : (ext : Ext) → clean (ext_text ext) ≡ true
ext-clean I = refl
ext-clean D = refl

length-ext : (ext : Ext) → length (ext_text ext) ≡ 2
length-ext I = refl
length-ext D = refl

take-short : (n : ℕ) (xs : List ℕ) → length (take n xs) ≤ n
take-short zero xs = omega arith
take-short (suc n) [] = omega arith
take-short (suc n) (x ∷ xs) = let l = take-short n xs in omega arith

end-good : (last name : List ℕ) (n : ℕ) (ext : Ext) → Good last → Good (take n last ++ (encode_lower (sha1 name) ++ ext_text ext))
end-good last name n ext h = record {
  bytes = clean-append (take n last) _ (clean-take n last h.bytes) (clean-append (encode_lower (sha1 name)) (ext_text ext) (digits-clean (sha1 name) (small-sha1 name)) (ext-clean ext));
  front = nodot-append (take n last) _ (nodot-take n last h.front) (digits-front (sha1 name) (ext_text ext) (let l = length-sha1 name in omega arith));
}

slashed-joined : (ds : List (List ℕ)) (x : List ℕ) → slashed ds ++ x ≡ joined (ds ++ x ∷ [])
slashed-joined [] x = refl
slashed-joined (d ∷ []) x = append_assoc (d ++ 47 ∷ []) [] x ∙ append_assoc d (47 ∷ []) x
slashed-joined (d ∷ e ∷ ds) x = append_assoc (d ++ 47 ∷ []) (slashed (e ∷ ds)) x ∙ append_assoc d (47 ∷ []) (slashed (e ∷ ds) ++ x) ∙ ap (λ l. d ++ 47 ∷ l) (slashed-joined (e ∷ ds) x)

first-joined : (first x : List ℕ) (ds : List (List ℕ)) → joined (first ∷ (ds ++ x ∷ [])) ≡ first ++ 47 ∷ joined (ds ++ x ∷ [])
first-joined first x [] = refl
first-joined first x (d ∷ ds) = refl

all-last : (ds : List (List ℕ)) (x : List ℕ) → AllByRecursion Good ds → Good x → AllByRecursion Good (ds ++ x ∷ [])
all-last [] x h k = (k, tt)
all-last (d ∷ ds) x h k = (h.0, all-last ds x h.1 k)

hashed-parts : (ds : List (List ℕ)) (last name : List ℕ) (ext : Ext) → hashed_from (slashed ds) last name ext ≡ joined (codes "dh" ∷ (ds ++ (take (75 - length (slashed ds)) last ++ (encode_lower (sha1 name) ++ ext_text ext)) ∷ []))
hashed-parts ds last name ext =
    let filler = take (75 - length (slashed ds)) last in
    let digits = encode_lower (sha1 name) in
    append_assoc (codes "dh/" ++ slashed ds ++ filler) digits (ext_text ext) ∙ append_assoc (codes "dh/" ++ slashed ds) filler (digits ++ ext_text ext)
    ∙ ap (λ l. codes "dh/" ++ l) (slashed-joined ds (filler ++ (digits ++ ext_text ext))) ∙ sym (first-joined (codes "dh") (filler ++ (digits ++ ext_text ext)) ds)

hashed-length : (used : List ℕ) (last name : List ℕ) (ext : Ext) → length used ≤ 69 → length (hashed_from used last name ext) ≤ 4000
hashed-length used last name ext l =
    let filler = take (75 - length used) last in
    let digits = encode_lower (sha1 name) in
    omega (arith, take-short (75 - length used) last, length-encode_with lower_digits (sha1 name), length-sha1 name, length-ext ext, length-append (codes "dh/" ++ used ++ filler ++ digits) (ext_text ext), length-append (codes "dh/" ++ used ++ filler) digits, length-append (codes "dh/" ++ used) filler, length-append (codes "dh/") used)

hashed-good : (parts : List (List ℕ)) (name : List ℕ) (ext : Ext) → AllByRecursion Good parts → is_store_path (codes "store/" ++ hashed_from (short_directories parts) (last_part parts) name ext) ≡ true
hashed-good parts name ext h =
    let ds = fitting 0 (map short_directory (directories parts)) in
    let end = take (75 - length (slashed ds)) (last_part parts) ++ (encode_lower (sha1 name) ++ ext_text ext) in
    let all = all-last ds end (fitting-good 0 (map short_directory (directories parts)) (shorts-good (directories parts) (directories-good parts h))) (end-good (last_part parts) name (75 - length (slashed ds)) ext (last-good parts h)) in
    let is = hashed-parts ds (last_part parts) name ext in
    let room = fits-length 0 (map short_directory (directories parts)) (omega arith) in
    let size = hashed-length (slashed ds) (last_part parts) name ext (omega arith) in
    ap (λ l. is_store_path (codes "store/" ++ l)) is ∙ path-good (codes "dh") (ds ++ end ∷ []) (record { bytes = refl; front = refl }, all) (omega (arith, size, ap length is))

small-drop : (n : ℕ) (xs : List ℕ) → Small xs → Small (drop n xs)
small-drop zero xs h = h
small-drop (suc n) [] h = tt
small-drop (suc n) (x ∷ xs) h = small-drop n xs h.1

spelled-parts : (form : Form) (name : List ℕ) → Small name → (part : List ℕ) × (parts : List (List ℕ)) × (spelled_name form name ≡ joined (part ∷ parts)) × AllByRecursion Good (part ∷ parts)
spelled-parts form name h = by (components name) (components-some name) (components-raw name h)
  where
    by : (cs : List (List ℕ)) → (y : List ℕ) × (ys : List (List ℕ)) × (cs ≡ y ∷ ys) → AllByRecursion Raw cs → (part : List ℕ) × (parts : List (List ℕ)) × (joined (map (spelled_component form) cs) ≡ joined (part ∷ parts)) × AllByRecursion Good (part ∷ parts)
    by [] k raw = let e = k.2 in cc
    by (c ∷ cs) k raw = (spelled_component form c, map (spelled_component form) cs, refl, components-good form (c ∷ cs) raw)

-- Each name is a path of the store.
pub encoded-path : (name : List ℕ) (ext : Ext) → Small name → is_store_path (codes "store/" ++ encoded_name name ext) ≡ true
encoded-path name ext h = by (nat_le (length (spelled_name Plain name)) 120) refl
  where
    few : (n : ℕ) → nat_le n 120 ≡ true → n ≤ 4000
    few n e = grind arith

    plain : nat_le (length (spelled_name Plain name)) 120 ≡ true → is_store_path (codes "store/" ++ spelled_name Plain name) ≡ true
    plain e = let p = spelled-parts Plain name h in ap (λ l. is_store_path (codes "store/" ++ l)) p.2 ∙ path-good p.0 p.1 p.3 (let l = few _ e in omega (arith, l, ap length p.2))

    hashed : is_store_path (codes "store/" ++ hashed_name name ext) ≡ true
    hashed = let p = spelled-parts Hashed (drop 5 name) (small-drop 5 name h) in hashed-good (components (spelled_name Hashed (drop 5 name))) name ext (subst (AllByRecursion Good) (sym (ap components p.2 ∙ components-joined p.0 p.1 p.3)) p.3)

    by : (t : Bool) → nat_le (length (spelled_name Plain name)) 120 ≡ t → is_store_path (codes "store/" ++ cond t (spelled_name Plain name) (hashed_name name ext)) ≡ true
    by true e = plain e
    by false e = hashed

-- from what is known of a slice of bytes
pub small-of : (xs : List ℕ) → ((i : ℕ) → slice_index xs i < 256) → Small xs
small-of [] h = tt
small-of (x ∷ xs) h = (h 0, small-of xs (λ i. h (suc i)))
