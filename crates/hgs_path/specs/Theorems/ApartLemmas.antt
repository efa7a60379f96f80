-- The names of filelogs' files: each begins with `store/d`, and an index is never the chunks of another.
use Rattle.std.proofs.Common.{◌≡◌, ℕ, suc, ◌+◌, ◌-◌, ◌≤◌, List, [], ◌∷◌, ◌++◌, Bool, true, false, cond, ◌&&◌, ◌||◌, length, take, drop, map, refl, sym, ◌∙◌, ap, subst, arith, append_assoc, length-append}
use Rattle.std.specs.Prelude.{Some, None, ◌==◌, codes, flat_map, slice_index}
use Rattle.std.specs.List.{onto_first}
use Rattle.std.specs.Option.{option_map}
use Rattle.std.proofs.Math.Seq.{get_or-append_seam}
use Rattle.hex.specs.Hex.{encode_lower}
use Rattle.sha1.specs.Sha1.{sha1}
use Rattle.hgs_bytes.specs.Bytes.{same, begins_with}
use Rattle.hgs_bytes.specs.Path.{components}
use Rattle.hgs_bytes.specs.Text.{split}
use Rattle.hgs_bytes.specs.Theorems.ByteLemmas.{same-eq}
use Rattle.hgs_path.specs.declared.name.Ext.{Ext}
use Rattle.hgs_path.specs.declared.name.Ext.TheVariants.{I, D}
use Rattle.hgs_path.specs.declared.spell.Form.TheVariants.{Plain, Hashed}
use Rattle.hgs_path.specs.ListedNames.{is_listed, listed_file}
use Rattle.hgs_path.specs.StoreName.{before_dot, directory_step, encoded_name, end_place, ends_in, escaped, escaped_at, ext_text, hashed_from, hashed_name, last_part, short_directories, is_device, is_dot_or_space, is_plain, joined, listed_name, map_front, marked_directory, spelled, spelled_component, spelled_name, store_name, whole_path, with_end, with_front}
use Rattle.hgs_path.specs.Theorems.FncacheLemmas.{directory-parts, ends-appended, other-end, joined-again}
use Rattle.hgs_path.specs.Theorems.PartLemmas.{device-long}

never : {A : Type 0} → true ≡ false → A
never e = absurd (no_case e)
  where
    no_case : true ≡ false → ⊥
    no_case h = cc

and-left : (a b : Bool) → (a && b) ≡ true → a ≡ true
and-left true b e = refl
and-left false b e = e

-- ---- the byte behind `store/`

abbrev pub StartsD : List ℕ → Type 0
StartsD text = (rest : List ℕ) × (text ≡ 100 ∷ rest)

join-d : (x : List ℕ) (xs : List (List ℕ)) → StartsD x → StartsD (joined (x ∷ xs))
join-d x [] s = s
join-d x (y ∷ xs) s = (s.0 ++ (47 ∷ joined (y ∷ xs)), ap (λ l. l ++ (47 ∷ joined (y ∷ xs))) s.1)

end-d : (q : List ℕ) → StartsD (with_end (100 ∷ q))
end-d [] = ([], refl)
end-d (c ∷ q) = by (is_dot_or_space (slice_index (100 ∷ c ∷ q) (length (100 ∷ c ∷ q) - 1)))
  where
    last : (n : ℕ) → suc (suc n) - 1 ≡ suc n
    last n = omega arith

    by : (b : Bool) → StartsD (escaped_at (100 ∷ c ∷ q) (cond b (Some (length (100 ∷ c ∷ q) - 1)) None))
    by true = subst (λ k. StartsD (escaped_at (100 ∷ c ∷ q) (Some k))) (sym (last (length q))) (_, refl)
    by false = (c ∷ q, refl)

front-d : (p : List ℕ) → StartsD (with_end (with_front (100 ∷ p)))
front-d p = by (is_device (before_dot (100 ∷ p) (split 46 (100 ∷ p))))
  where
    by : (b : Bool) → StartsD (with_end (escaped_at (100 ∷ p) (cond b (Some 2) None)))
    by true = end-d ((take 1 p ++ escaped (slice_index (100 ∷ p) 2)) ++ drop 3 (100 ∷ p))
    by false = end-d p

plain-d : (name : List ℕ) → StartsD (spelled_name Plain (100 ∷ name))
plain-d name = by (components name)
  where
    by : (cs : List (List ℕ)) → StartsD (joined (map (spelled_component Plain) (onto_first 100 cs)))
    by [] = front-d []
    by (p ∷ cs) = join-d (spelled_component Plain (100 ∷ p)) (map (spelled_component Plain) cs) (front-d (flat_map (spelled Plain) p))

mark-d : (p : List ℕ) → StartsD (marked_directory (100 ∷ p))
mark-d p = by (ends_in (100 ∷ p) (codes ".hg") || ends_in (100 ∷ p) (codes ".i") || ends_in (100 ∷ p) (codes ".d"))
  where
    by : (b : Bool) → StartsD (cond b ((100 ∷ p) ++ codes ".hg") (100 ∷ p))
    by true = (p ++ codes ".hg", refl)
    by false = (p, refl)

directory-d : (name : List ℕ) → StartsD (directory_step (100 ∷ name))
directory-d name = by (components name)
  where
    by : (cs : List (List ℕ)) → StartsD (joined (map_front marked_directory (onto_first 100 cs)))
    by [] = ([], refl)
    by (p ∷ []) = (p, refl)
    by (p ∷ y ∷ []) = join-d (marked_directory (100 ∷ p)) (y ∷ []) (mark-d p)
    by (p ∷ y ∷ z ∷ cs) = join-d (marked_directory (100 ∷ p)) (map_front marked_directory (y ∷ z ∷ cs)) (mark-d p)

encoded-d : (name : List ℕ) (ext : Ext) → StartsD (encoded_name (100 ∷ name) ext)
encoded-d name ext = by (is_plain (100 ∷ name))
  where
    by : (b : Bool) → StartsD (cond b (spelled_name Plain (100 ∷ name)) (hashed_name (100 ∷ name) ext))
    by true = plain-d name
    by false = (_, refl)

pub store-d : (path : List ℕ) (ext : Ext) → StartsD (encoded_name (listed_name path ext) ext)
store-d path ext = let d = directory-d (codes "ata/" ++ path ++ ext_text ext) in subst (λ z. StartsD (encoded_name z ext)) (sym d.1) (encoded-d d.0 ext)

pub line-d : (name : List ℕ) → is_listed name ≡ true → (rest : List ℕ) × (listed_file name ≡ codes "store/" ++ 100 ∷ rest)
line-d [] is = never (sym is)
line-d (b ∷ name) is =
    let front : begins_with (b ∷ name) (codes "data/") ≡ true = and-left (begins_with (b ∷ name) (codes "data/")) _ is in
    let first : 100 ≡ b = ap (λ l. elim l [ [] ↦ 100 | x ∷ xs ↦ x ]) (same-eq (codes "data/") (take 5 (b ∷ name)) front) in
    let ext : Ext = cond (ends_in (b ∷ name) (codes ".i")) I D in
    let d : StartsD (encoded_name (b ∷ name) ext) = subst (λ z. StartsD (encoded_name (z ∷ name) ext)) first (encoded-d name ext) in
    (d.0, ap (λ z. codes "store/" ++ z) d.1)

-- ---- the end of a listed name

abbrev Ends : List ℕ → List (List ℕ) → Type 0
Ends end [] = ⊥
Ends end (part ∷ []) = (front : List ℕ) × (part ≡ front ++ end)
Ends end (part ∷ next ∷ parts) = Ends end (next ∷ parts)

ends-more : (end : List ℕ) (parts : List (List ℕ)) → Ends end parts → Ends end ([] ∷ parts)
ends-more end [] h = absurd h
ends-more end (part ∷ parts) h = h

ends-onto : (end : List ℕ) (x : ℕ) (parts : List (List ℕ)) → Ends end parts → Ends end (onto_first x parts)
ends-onto end x [] h = absurd h
ends-onto end x (part ∷ []) h = (x ∷ h.0, ap (λ l. x ∷ l) h.1)
ends-onto end x (part ∷ next ∷ parts) h = h

end-step : (t : Bool) (end : List ℕ) (x : ℕ) (parts : List (List ℕ)) → Ends end parts → Ends end (cond t ([] ∷ parts) (onto_first x parts))
end-step true end x parts h = ends-more end parts h
end-step false end x parts h = ends-onto end x parts h

ext-ends : (ext : Ext) → Ends (ext_text ext) (components (ext_text ext))
ext-ends I = ([], refl)
ext-ends D = ([], refl)

parts-end : (path : List ℕ) (ext : Ext) → Ends (ext_text ext) (components (path ++ ext_text ext))
parts-end [] ext = ext-ends ext
parts-end (x ∷ xs) ext = end-step (x == 47) (ext_text ext) x (components (xs ++ ext_text ext)) (parts-end xs ext)

front-end : (end : List ℕ) (parts : List (List ℕ)) → Ends end parts → Ends end (map_front marked_directory parts)
front-end end [] h = h
front-end end (part ∷ []) h = h
front-end end (part ∷ next ∷ []) h = h
front-end end (part ∷ next ∷ last ∷ parts) h = front-end end (next ∷ last ∷ parts) h

-- the parts of a listed name end in its extension
listed-parts : (path : List ℕ) (ext : Ext) → Ends (ext_text ext) (components (listed_name path ext))
listed-parts path ext =
    subst (Ends (ext_text ext)) (sym (directory-parts (whole_path path ext))) (front-end (ext_text ext) (components (whole_path path ext)) (parts-end (codes "data/" ++ path) ext))

joined-end : (end : List ℕ) (parts : List (List ℕ)) → Ends end parts → (front : List ℕ) × (joined parts ≡ front ++ end)
joined-end end [] h = absurd h
joined-end end (part ∷ []) h = h
joined-end end (part ∷ next ∷ parts) h =
    let rest = joined-end end (next ∷ parts) h in
    (part ++ 47 ∷ rest.0, ap (λ l. part ++ 47 ∷ l) rest.1 ∙ sym (append_assoc part (47 ∷ rest.0) end))

listed-end : (path : List ℕ) (ext : Ext) → (front : List ℕ) × (listed_name path ext ≡ front ++ ext_text ext)
listed-end path ext =
    let e = joined-end (ext_text ext) (components (listed_name path ext)) (listed-parts path ext) in
    (e.0, sym (joined-again (listed_name path ext)) ∙ e.1)

-- the file of a listed name is that of its path
pub listed-file : (path : List ℕ) (ext : Ext) → listed_file (listed_name path ext) ≡ store_name path ext
listed-file path I =
    let e = listed-end path I in
    ap (λ b. let x : Ext = cond b I D in codes "store/" ++ encoded_name (listed_name path I) x) (ap (λ l. ends_in l (codes ".i")) e.1 ∙ ends-appended e.0 (codes ".i"))
listed-file path D =
    let e = listed-end path D in
    ap (λ b. let x : Ext = cond b I D in codes "store/" ++ encoded_name (listed_name path D) x) (ap (λ l. ends_in l (codes ".i")) e.1 ∙ other-end e.0)

-- ---- the last byte of a store name

abbrev LastIs : ℕ → List ℕ → Type 0
LastIs b text = (front : List ℕ) × (text ≡ front ++ b ∷ [])

abbrev last_byte : Ext → ℕ
last_byte I = 105
last_byte D = 100

last-behind : (b : ℕ) (xs text : List ℕ) → LastIs b text → LastIs b (xs ++ text)
last-behind b xs text l = (xs ++ l.0, ap (λ t. xs ++ t) l.1 ∙ sym (append_assoc xs l.0 (b ∷ [])))

ext-last : (ext : Ext) (xs : List ℕ) → LastIs (last_byte ext) (xs ++ ext_text ext)
ext-last I xs = last-behind 105 xs (codes ".i") (46 ∷ [], refl)
ext-last D xs = last-behind 100 xs (codes ".d") (46 ∷ [], refl)

-- what stands before the first dot of a text with a dot here is no longer than what stands before that
stem-front : (x rest : List ℕ) → (p : List ℕ × List ℕ) × (split 46 (x ++ 46 ∷ rest) ≡ Some p) × (length p.0 ≤ length x)
stem-front [] rest = (([], rest), refl, omega arith)
stem-front (y ∷ x) rest = by (y == 46) (stem-front x rest)
  where
    by : (b : Bool) → (p : List ℕ × List ℕ) × (split 46 (x ++ 46 ∷ rest) ≡ Some p) × (length p.0 ≤ length x)
        → (q : List ℕ × List ℕ) × (cond b (Some ([], x ++ 46 ∷ rest)) (option_map (λ (z : List ℕ × List ℕ). (y ∷ z.0, z.1)) (split 46 (x ++ 46 ∷ rest))) ≡ Some q) × (length q.0 ≤ length (y ∷ x))
    by true r = (([], x ++ 46 ∷ rest), refl, omega arith)
    by false r = ((y ∷ r.0.0, r.0.1), ap (option_map (λ (z : List ℕ × List ℕ). (y ∷ z.0, z.1))) r.1, (let l = r.2 in omega (arith, l)))

-- of a text that ends in an extension the front step leaves the last byte
front-last : (ext : Ext) (x : List ℕ) → LastIs (last_byte ext) (with_front (x ++ ext_text ext))
front-last ext x = by (is_dot_or_space (slice_index (x ++ ext_text ext) 0)) (is_device (before_dot (x ++ ext_text ext) (split 46 (x ++ ext_text ext)))) refl
  where
    long : is_device (before_dot (x ++ ext_text ext) (split 46 (x ++ ext_text ext))) ≡ true → 3 ≤ length x
    long e = at ext e
      where
        at : (y : Ext) → is_device (before_dot (x ++ ext_text y) (split 46 (x ++ ext_text y))) ≡ true → 3 ≤ length x
        at I e = let s = stem-front x (105 ∷ []) in let l = device-long s.0.0 (ap (λ o. is_device (before_dot (x ++ codes ".i") o)) (sym s.1) ∙ e) in let m = s.2 in omega (arith, l, m)
        at D e = let s = stem-front x (100 ∷ []) in let l = device-long s.0.0 (ap (λ o. is_device (before_dot (x ++ codes ".d") o)) (sym s.1) ∙ e) in let m = s.2 in omega (arith, l, m)

    one : (y : Ext) (z : List ℕ) → LastIs (last_byte y) (drop 1 (z ++ ext_text y))
    one I [] = ([], refl)
    one D [] = ([], refl)
    one y (c ∷ z) = ext-last y z

    three : (z : List ℕ) → 3 ≤ length z → LastIs (last_byte ext) (drop 3 (z ++ ext_text ext))
    three [] l = absurd (omega (arith, l))
    three (a ∷ []) l = absurd (omega (arith, l))
    three (a ∷ b ∷ []) l = absurd (omega (arith, l))
    three (a ∷ b ∷ c ∷ z) l = ext-last ext z

    by : (a b : Bool) → is_device (before_dot (x ++ ext_text ext) (split 46 (x ++ ext_text ext))) ≡ b → LastIs (last_byte ext) (escaped_at (x ++ ext_text ext) (cond a (Some 0) (cond b (Some 2) None)))
    by true b e = last-behind (last_byte ext) (take 0 (x ++ ext_text ext) ++ escaped (slice_index (x ++ ext_text ext) 0)) (drop 1 (x ++ ext_text ext)) (one ext x)
    by false true e = last-behind (last_byte ext) (take 2 (x ++ ext_text ext) ++ escaped (slice_index (x ++ ext_text ext) 2)) (drop 3 (x ++ ext_text ext)) (three x (long e))
    by false false e = ext-last ext x

-- and so does the end step
end-last : (ext : Ext) (text : List ℕ) → LastIs (last_byte ext) text → LastIs (last_byte ext) (with_end text)
end-last ext text l = subst (λ t. LastIs (last_byte ext) (with_end t)) (sym l.1) (kept ext l.0)
  where
    kept : (y : Ext) (front : List ℕ) → LastIs (last_byte y) (with_end (front ++ last_byte y ∷ []))
    kept y front = subst (λ o. LastIs (last_byte y) (escaped_at (front ++ last_byte y ∷ []) o)) (sym (none y)) (front, refl)
      where
        size : (n m : ℕ) → n ≡ m + 1 → n - 1 ≡ m
        size n m e = omega (arith, e)

        at : slice_index (front ++ last_byte y ∷ []) (length (front ++ last_byte y ∷ []) - 1) ≡ last_byte y
        at = ap (slice_index (front ++ last_byte y ∷ [])) (size (length (front ++ last_byte y ∷ [])) (length front) (length-append front (last_byte y ∷ []))) ∙ get_or-append_seam front (last_byte y) [] 0

        letter : (z : Ext) → is_dot_or_space (last_byte z) ≡ false
        letter I = refl
        letter D = refl

        none : (z : Ext) → end_place (front ++ last_byte y ∷ []) ≡ None
        none z = ap (λ b. cond b (Some (length (front ++ last_byte y ∷ []) - 1)) None) (ap is_dot_or_space at ∙ letter y)

flat-append : (xs ys : List ℕ) → flat_map (spelled Plain) (xs ++ ys) ≡ flat_map (spelled Plain) xs ++ flat_map (spelled Plain) ys
flat-append [] ys = refl
flat-append (x ∷ xs) ys = ap (λ l. spelled Plain x ++ l) (flat-append xs ys) ∙ sym (append_assoc (spelled Plain x) (flat_map (spelled Plain) xs) (flat_map (spelled Plain) ys))

ext-spelled : (ext : Ext) → flat_map (spelled Plain) (ext_text ext) ≡ ext_text ext
ext-spelled I = refl
ext-spelled D = refl

component-last : (ext : Ext) (part : List ℕ) → (front : List ℕ) × (part ≡ front ++ ext_text ext) → LastIs (last_byte ext) (spelled_component Plain part)
component-last ext part e =
    let text : flat_map (spelled Plain) part ≡ flat_map (spelled Plain) e.0 ++ ext_text ext = ap (flat_map (spelled Plain)) e.1 ∙ flat-append e.0 (ext_text ext) ∙ ap (λ l. flat_map (spelled Plain) e.0 ++ l) (ext-spelled ext) in
    subst (λ t. LastIs (last_byte ext) (with_end (with_front t))) (sym text) (end-last ext (with_front (flat_map (spelled Plain) e.0 ++ ext_text ext)) (front-last ext (flat_map (spelled Plain) e.0)))

parts-last : (ext : Ext) (parts : List (List ℕ)) → Ends (ext_text ext) parts → LastIs (last_byte ext) (joined (map (spelled_component Plain) parts))
parts-last ext [] h = absurd h
parts-last ext (part ∷ []) h = component-last ext part h
parts-last ext (part ∷ next ∷ parts) h =
    last-behind (last_byte ext) (spelled_component Plain part) (47 ∷ joined (map (spelled_component Plain) (next ∷ parts))) (last-behind (last_byte ext) (47 ∷ []) (joined (map (spelled_component Plain) (next ∷ parts))) (parts-last ext (next ∷ parts) h))

hashed-last : (front last name : List ℕ) (ext : Ext) → LastIs (last_byte ext) (hashed_from front last name ext)
hashed-last front last name ext = ext-last ext (codes "dh/" ++ front ++ take (75 - length front) last ++ encode_lower (sha1 name))

abbrev hashed_parts : List ℕ → List (List ℕ)
hashed_parts name = components (spelled_name Hashed (drop 5 name))

store-last : (path : List ℕ) (ext : Ext) → LastIs (last_byte ext) (store_name path ext)
store-last path ext = last-behind (last_byte ext) (codes "store/") (encoded_name (listed_name path ext) ext) (by (is_plain (listed_name path ext)))
  where
    by : (b : Bool) → LastIs (last_byte ext) (cond b (spelled_name Plain (listed_name path ext)) (hashed_name (listed_name path ext) ext))
    by true = parts-last ext (components (listed_name path ext)) (listed-parts path ext)
    by false = hashed-last (short_directories (hashed_parts (listed_name path ext))) (last_part (hashed_parts (listed_name path ext))) (listed_name path ext) ext

last-same : (a b : ℕ) (xs ys : List ℕ) → xs ++ a ∷ [] ≡ ys ++ b ∷ [] → a ≡ b
last-same a b [] [] e = ap (λ l. elim l [ [] ↦ a | z ∷ zs ↦ z ]) e
last-same a b [] (y ∷ ys) e = absurd (omega (arith, ap length e, length-append ys (b ∷ [])))
last-same a b (x ∷ xs) [] e = absurd (omega (arith, ap length e, length-append xs (a ∷ [])))
last-same a b (x ∷ xs) (y ∷ ys) e = last-same a b xs ys (ap (drop 1) e)

-- an index is never the chunks of a filelog
pub kinds-apart : (p q : List ℕ) → same (store_name p I) (store_name q D) ≡ false
kinds-apart p q = by (same (store_name p I) (store_name q D)) refl
  where
    different : (let n : ℕ = 105 in n) ≡ 100 → ⊥
    different e = omega (arith, e)

    by : (b : Bool) → same (store_name p I) (store_name q D) ≡ b → same (store_name p I) (store_name q D) ≡ false
    by false e = e
    by true e =
        let x = store-last p I in
        let y = store-last q D in
        absurd (different (last-same 105 100 x.0 y.0 (sym x.1 ∙ same-eq (store_name p I) (store_name q D) e ∙ y.1)))
