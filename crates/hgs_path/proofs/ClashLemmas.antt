-- Clashes of store names.
use Rattle.std.proofs.Common.{◌≡◌, ℕ, ◌-◌, Bool, true, false, cond, ◌&&◌, ◌||◌, not, List, [], ◌∷◌, ◌++◌, Option, Some, None, Result, Ok, Err, take, drop, length, zero, suc, ◌⊎◌, inl, inr, length-append, append_assoc, refl, sym, ap, ◌∙◌, arith}
use Rattle.std.specs.Prelude.{codes, slice_index, Vec}
use Rattle.std.specs.declared.alloc.Global.{Global}
use Rattle.std.specs.declared.alloc.AllocError.{AllocError}
use Rattle.std.specs.Option.{option_map, unwrap_or}
use Rattle.std.specs.Result.{IfOk}
use Rattle.std.proofs.lemmas.Bool.{false_from_ne_true}
use Rattle.std.proofs.lemmas.List.{take_at, drop_at}
use Rattle.hex.specs.Hex.{IsBytes, encode_lower, lower_digits, decode_of}
use Rattle.hex.proofs.HexLemmas.{length-encode_with, decode_of-encode_lower, decode_of-same}
use Rattle.sha1.specs.Sha1.{sha1}
use Rattle.hgs_bytes.specs.Bytes.{same}
use Rattle.hgs_bytes.specs.Path.{components}
use Rattle.hgs_bytes.specs.Theorems.ByteLemmas.{same-eq, same-refl}
use Rattle.hgs_path.specs.declared.name.Ext.{Ext}
use Rattle.hgs_path.specs.declared.name.Ext.TheVariants.{I, D}
use Rattle.hgs_path.specs.declared.spell.Form.TheVariants.{Plain, Hashed}
use Rattle.hgs_path.specs.StoreName.{ext_text, ends_in, directory_step, listed_name, spelled_name, short_directories, last_part, is_plain, hashed_name, store_name}
use Rattle.hgs_path.specs.declared.fncache.Fncache.{Fncache}
use Rattle.hgs_path.specs.Owners.{has_path, is_hashed_as, has_hashed, owns_name, IsOther}
use Rattle.hgs_path.specs.Fncache.{clashes, is_path_of, listing, IsClash, IsClashAt}
use Rattle.hgs_path.specs.Theorems.FncacheLemmas.{ends-appended, other-end}
use Rattle.hgs_path.proofs.OwnersLemmas.{and-parts, and-both, or-first, or-last, not-true}
use Rattle.hgs_path.specs.Theorems.PartLemmas.{listed-front, spelled-step}
use Rattle.hgs_path.specs.Theorems.ReadableLemmas.{names-once}
use Rattle.hgs_path.specs.Theorems.ShapeLemmas.{Small, small-sha1, length-sha1}

or-cases : (a b : Bool) (P : Type 0) → (a ≡ true → P) → (b ≡ true → P) → (a || b) ≡ true → P
or-cases true b P f g h = f refl
or-cases false b P f g h = g h

pub plain-front : (name tail : List ℕ) → name ≡ codes "data/" ++ tail → slice_index (spelled_name Plain name) 1 ≡ 97
plain-front name tail e = ap (λ l. slice_index (spelled_name Plain l) 1) e ∙ ap (λ l. slice_index l 1) (spelled-step Plain (codes "data/" ++ tail) (codes "data", tail) refl)

plain-index : (path : List ℕ) (ext : Ext) → is_plain (listed_name path ext) ≡ true → slice_index (store_name path ext) 7 ≡ 97
plain-index path ext h =
    ap (λ t. slice_index (cond t (spelled_name Plain (listed_name path ext)) (hashed_name (listed_name path ext) ext)) 1) h
    ∙ plain-front (listed_name path ext) (directory_step (path ++ ext_text ext)) (listed-front path ext)

hashed-index : (path : List ℕ) (ext : Ext) → is_plain (listed_name path ext) ≡ false → slice_index (store_name path ext) 7 ≡ 104
hashed-index path ext h = ap (λ t. slice_index (cond t (spelled_name Plain (listed_name path ext)) (hashed_name (listed_name path ext) ext)) 1) h

same-one : (p q : List ℕ) (ext : Ext) → IsBytes p → IsBytes q → is_plain (listed_name p ext) ≡ true → same (store_name q ext) (store_name p ext) ≡ true → same q p ≡ true
same-one p q ext hp hq plain h = by (is_plain (listed_name q ext)) refl
  where
    is : store_name q ext ≡ store_name p ext
    is = same-eq (store_name q ext) (store_name p ext) h

    by : (t : Bool) → is_plain (listed_name q ext) ≡ t → same q p ≡ true
    by true e = ap (same q) (sym (names-once q p ext ext hq hp e plain is).0) ∙ same-refl q
    by false e =
        let number : ◌≡◌ {A = ℕ} 104 97 = sym (hashed-index q ext e) ∙ ap (λ l. slice_index l 7) is ∙ plain-index p ext plain in
        absurd (omega arith)

not-both : (a b : Bool) → (b ≡ true → a ≡ true) → (not a && b) ≡ false
not-both true b f = refl
not-both false true f = let e : false ≡ true = f refl in cc
not-both false false f = refl

-- a path whose names are not hashed clashes with none
pub plain-alone : (p q : List ℕ) → IsBytes p → IsBytes q → (is_plain (listed_name p I) && is_plain (listed_name p D)) ≡ true → clashes p q ≡ false
plain-alone p q hp hq h =
    let both = and-parts (is_plain (listed_name p I)) (is_plain (listed_name p D)) h in
    not-both (same q p) _ (or-cases (same (store_name q I) (store_name p I)) (same (store_name q D) (store_name p D)) (same q p ≡ true) (same-one p q I hp hq both.0) (same-one p q D hp hq both.1))

-- ---- hashed names

-- what the code finds: a name where it is hashed
pub hashed-none : (t : Bool) (x : List ℕ) → None ≡ cond t None (Some x) → t ≡ true
hashed-none true x h = refl
hashed-none false x h = cc

pub hashed-some : (t : Bool) (x y : List ℕ) → Some y ≡ cond t None (Some x) → (t ≡ false) × (y ≡ x)
hashed-some true x y h = cc
hashed-some false x y h = (refl, ap (λ o. unwrap_or o y) h)

-- a hashed name and a plain one differ
pub hashed-plain : (p q : List ℕ) (ext : Ext) → is_plain (listed_name p ext) ≡ false → store_name q ext ≡ store_name p ext → is_plain (listed_name q ext) ≡ false
hashed-plain p q ext h is =
    false_from_ne_true (is_plain (listed_name q ext)) (λ e. let number : ◌≡◌ {A = ℕ} 104 97 = sym (hashed-index p ext h) ∙ ap (λ l. slice_index l 7) (sym is) ∙ plain-index q ext e in absurd (omega arith))

abbrev pub before_digits : List ℕ → List ℕ
before_digits name =
    let parts = components (spelled_name Hashed (drop 5 name)) in codes "store/" ++ (codes "dh/" ++ short_directories parts ++ take (75 - length (short_directories parts)) (last_part parts))

abbrev pub before_ext : List ℕ → List ℕ
before_ext name = before_digits name ++ encode_lower (sha1 name)

hashed-whole : (p : List ℕ) (ext : Ext) → is_plain (listed_name p ext) ≡ false → store_name p ext ≡ before_ext (listed_name p ext) ++ ext_text ext
hashed-whole p ext h = ap (λ t. codes "store/" ++ cond t (spelled_name Plain (listed_name p ext)) (hashed_name (listed_name p ext) ext)) h

-- an index has no name of a data file
kinds-differ : (p q : List ℕ) → is_plain (listed_name p I) ≡ false → is_plain (listed_name q D) ≡ false → store_name q D ≡ store_name p I → ⊥
kinds-differ p q hp hq is =
    let yes : ends_in (store_name p I) (codes ".i") ≡ true = ap (λ l. ends_in l (codes ".i")) (hashed-whole p I hp) ∙ ends-appended (before_ext (listed_name p I)) (codes ".i") in
    let no : ends_in (store_name q D) (codes ".i") ≡ false = ap (λ l. ends_in l (codes ".i")) (hashed-whole q D hq) ∙ other-end (before_ext (listed_name q D)) in
    let both : true ≡ false = sym yes ∙ ap (λ l. ends_in l (codes ".i")) (sym is) ∙ no in
    cc

hashed-parts : (q : List ℕ) (ext : Ext) (name : List ℕ) → is_hashed_as q ext name ≡ true → (is_plain (listed_name q ext) ≡ false) × (same (store_name q ext) name ≡ true)
hashed-parts q ext name h = let both = and-parts (not (is_plain (listed_name q ext))) _ h in (not-true (is_plain (listed_name q ext)) both.0, both.1)

-- a path with one hashed name of another clashes with it
one-name : (p q : List ℕ) (ext : Ext) → is_plain (listed_name p ext) ≡ false → has_hashed q (store_name p ext) ≡ true → (same (store_name q I) (store_name p I) || same (store_name q D) (store_name p D)) ≡ true
one-name p q I hp h =
    or-cases (is_hashed_as q I (store_name p I)) (is_hashed_as q D (store_name p I)) _
    (λ e. or-first _ _ (hashed-parts q I (store_name p I) e).1)
    (λ e. let parts = hashed-parts q D (store_name p I) e in absurd (kinds-differ p q hp parts.0 (same-eq (store_name q D) (store_name p I) parts.1)))
    h
one-name p q D hp h =
    or-cases (is_hashed_as q I (store_name p D)) (is_hashed_as q D (store_name p D)) _
    (λ e. let parts = hashed-parts q I (store_name p D) e in absurd (kinds-differ q p parts.0 hp (sym (same-eq (store_name q I) (store_name p D) parts.1))))
    (λ e. or-last _ _ (hashed-parts q D (store_name p D) e).1)
    h

same-hashed : (q : List ℕ) (ext : Ext) (name : List ℕ) → is_plain (listed_name q ext) ≡ false → same (store_name q ext) name ≡ true → is_hashed_as q ext name ≡ true
same-hashed q ext name h e = ap (λ t. not t && same (store_name q ext) name) h ∙ e

as-either : (q : List ℕ) (ext : Ext) (name : List ℕ) → is_hashed_as q ext name ≡ true → has_hashed q name ≡ true
as-either q I name h = or-first (is_hashed_as q I name) _ h
as-either q D name h = or-last (is_hashed_as q I name) _ h

never : (a b c : Bool) → (a && not b) ≡ false → (c ≡ true → a ≡ true) → (not b && c) ≡ false
never a true c h f = refl
never a false false h f = refl
never true false true h f = cc
never false false true h f = let e : false ≡ true = f refl in cc

neither : (a b c : Bool) → (not a && b) ≡ false → (not a && c) ≡ false → (not a && (b || c)) ≡ false
neither true b c h k = refl
neither false true c h k = h
neither false false c h k = k

module _ (f : Fncache) (path : List ℕ) where
  pub plain-none : IsBytes path → (is_plain (listed_name path I) && is_plain (listed_name path D)) ≡ true → IsClash (listing f) path None
  plain-none hp h other ho listed = plain-alone path other hp ho h

  -- where a name is plain, no other path has it
  pub plain-at : (ext : Ext) → IsBytes path → is_plain (listed_name path ext) ≡ true → IsClashAt (listing f) path ext None
  plain-at ext hp h other ho listed = not-both (same other path) _ (same-one path other ext hp ho h)

  module _ (ext : Ext) (name : List ℕ) (is : name ≡ store_name path ext) (h : is_plain (listed_name path ext) ≡ false) where
    -- no other path owns the name
    pub none-at : IsOther (owns_name f.indexes.keys f.datas.keys name) path None → IsClashAt (listing f) path ext None
    none-at n other ho listed = never (owns_name f.indexes.keys f.datas.keys name other) (same other path) (same (store_name other ext) (store_name path ext)) (n other) owned
      where
        owned : same (store_name other ext) (store_name path ext) ≡ true → owns_name f.indexes.keys f.datas.keys name other ≡ true
        owned e =
            let hashed = hashed-plain path other ext h (same-eq (store_name other ext) (store_name path ext) e) in
            and-both _ (has_hashed other name) listed (ap (has_hashed other) is ∙ as-either other ext (store_name path ext) (same-hashed other ext (store_name path ext) hashed e))

    -- an owner of the name is another path
    pub some-at : (q r : List ℕ) → r ≡ q → (owns_name f.indexes.keys f.datas.keys name q && not (same q path)) ≡ true → IsClashAt (listing f) path ext (Some r)
    some-at q r at k =
        let both = and-parts (owns_name f.indexes.keys f.datas.keys name q) (not (same q path)) k in
        let owns = and-parts (has_path f.indexes.keys q || has_path f.datas.keys q) (has_hashed q name) both.0 in
        (ap (is_path_of (listing f)) at ∙ owns.0, ap (clashes path) at ∙ and-both (not (same q path)) _ both.1 (one-name path q ext h (ap (has_hashed q) (sym is) ∙ owns.1)))

  second-clash : (found : Option (List ℕ)) → IsClashAt (listing f) path I None → IsClashAt (listing f) path D found → IsClash (listing f) path found
  second-clash None n h = λ other ho listed. neither (same other path) _ _ (n other ho listed) (h other ho listed)
  second-clash (Some other) n h = h

  pub data-clash : (r : Result (Option (Vec ℕ Global)) AllocError) → IsClashAt (listing f) path I None → IfOk r (λ found. IsClashAt (listing f) path D (option_map (λ p. p.items) found)) → IfOk r (λ found. IsClash (listing f) path (option_map (λ p. p.items) found))
  data-clash (Ok found) n h = second-clash (option_map (λ p. p.items) found) n h
  data-clash (Err e) n h = h

-- ---- equal digests

bytes-of-small : (xs : List ℕ) → Small xs → IsBytes xs
bytes-of-small [] h i = omega arith
bytes-of-small (x ∷ xs) h zero = h.0
bytes-of-small (x ∷ xs) h (suc i) = bytes-of-small xs h.1 i

pub digits-once : (m n : List ℕ) → encode_lower (sha1 m) ≡ encode_lower (sha1 n) → sha1 m ≡ sha1 n
digits-once m n e =
    decode_of-same (encode_lower (sha1 m)) (sha1 m) (sha1 n) (decode_of-encode_lower (sha1 m) (bytes-of-small (sha1 m) (small-sha1 m)))
    (ap decode_of e ∙ decode_of-encode_lower (sha1 n) (bytes-of-small (sha1 n) (small-sha1 n)))

middle-of : (a x z : List ℕ) (n k : ℕ) → length a ≡ n → length x ≡ k → take k (drop n ((a ++ x) ++ z)) ≡ x
middle-of a x z n k before long = ap (λ l. take k (drop n l)) (append_assoc a x z) ∙ ap (take k) (drop_at a (x ++ z) n before) ∙ take_at x z k long

pub same-end : (a b x y z : List ℕ) → length x ≡ length y → (a ++ x) ++ z ≡ (b ++ y) ++ z → x ≡ y
same-end a b x y z long is =
    let whole = ap length is in
    let one = length-append (a ++ x) z in
    let two = length-append a x in
    let three = length-append (b ++ y) z in
    let four = length-append b y in
    let before : length b ≡ length a = omega (arith, long, whole, one, two, three, four) in
    sym (middle-of a x z (length a) (length x) refl refl) ∙ ap (λ l. take (length x) (drop (length a) l)) is ∙ middle-of b y z (length a) (length x) before (sym long)

pub digits-length : (m : List ℕ) → length (encode_lower (sha1 m)) ≡ 40
digits-length m = let twice = length-encode_with lower_digits (sha1 m) in let bytes = length-sha1 m in omega (arith, twice, bytes)

same-digest : (p q : List ℕ) (ext : Ext) → IsBytes p → IsBytes q → same q p ≡ false → same (store_name q ext) (store_name p ext) ≡ true → sha1 (listed_name p ext) ≡ sha1 (listed_name q ext)
same-digest p q ext hp hq apart h = by (is_plain (listed_name p ext)) refl
  where
    by : (t : Bool) → is_plain (listed_name p ext) ≡ t → sha1 (listed_name p ext) ≡ sha1 (listed_name q ext)
    by true e = let one = same-one p q ext hp hq e h in cc
    by false e =
        let is = same-eq (store_name q ext) (store_name p ext) h in
        let m = listed_name p ext in
        let n = listed_name q ext in
        let whole = sym (hashed-whole p ext e) ∙ sym is ∙ hashed-whole q ext (hashed-plain p q ext e is) in
        digits-once m n (same-end (before_digits m) (before_digits n) (encode_lower (sha1 m)) (encode_lower (sha1 n)) (ext_text ext) (digits-length m ∙ sym (digits-length n)) whole)

-- paths clash only where two names of the list have one digest
pub collision : (p q : List ℕ) → IsBytes p → IsBytes q → clashes p q ≡ true → (sha1 (listed_name p I) ≡ sha1 (listed_name q I)) ⊎ (sha1 (listed_name p D) ≡ sha1 (listed_name q D))
collision p q hp hq h =
    let both = and-parts (not (same q p)) _ h in
    let apart = not-true (same q p) both.0 in
    or-cases (same (store_name q I) (store_name p I)) (same (store_name q D) (store_name p D)) _ (λ e. inl (same-digest p q I hp hq apart e)) (λ e. inr (same-digest p q D hp hq apart e)) both.1
