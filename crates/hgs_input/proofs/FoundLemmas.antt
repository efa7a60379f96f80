-- What was read stands in the bytes.
use Rattle.std.proofs.Common.{◌≡◌, ℕ, suc, ◌+◌, ◌-◌, ◌<◌, ◌≤◌, ◌^◌, Bool, true, false, ◌&&◌, ◌||◌, List, [], ◌∷◌, ◌++◌, length, take, drop, get_or, Option, Some, None, Result, Ok, Err, refl, sym, ◌∙◌, ap, subst, arith, append_assoc, min, codes, drop-cons, length-append}
use Rattle.std.specs.Prelude.{◌==◌, not, nat_le, nat_lt, slice_get, slice_index, decimal, is_some, if◌then◌else◌, IfSome}
use Rattle.std.specs.List.{list_all}
use Rattle.std.specs.Str.Parse.{AllDigits, digits_value}
use Rattle.std.proofs.lemmas.Bool.{leb-false}
use Rattle.std.proofs.lemmas.Fmt.{decimal-digits_value}
use Rattle.std.proofs.lemmas.Str.Parse.{tells_digits, numerals_by_value}
use Rattle.std.proofs.lemmas.List.{take-append-drop, length-take}
use Rattle.hgs_bytes.specs.Bytes.{same, begins_with}
use Rattle.hgs_bytes.specs.Text.{Lacks, line, line as line_of, split, ascends}
use Rattle.hgs_bytes.specs.Theorems.ByteLemmas.{same-eq}
use Rattle.hgs_bytes.specs.Theorems.TextLemmas.{split_parts, number_is}
use Rattle.hgs_index.specs.Theorems.HeaderText.{line_then}
use Rattle.hgs_index.specs.declared.kinds.Flag.{Flag}
use Rattle.hgs_index.specs.declared.kinds.Flag.TheVariants.{Plain, Exec, Link}
use Rattle.hgs_index.specs.declared.kinds.Which.TheVariants.{FileText, Tree}
use Rattle.hgs_index.specs.MarkName.{is_digit}
use Rattle.hgs_index.specs.TrackedPath.{is_tracked}
use Rattle.hgs_model.specs.declared.files.NewFile.{NewFile}
use Rattle.hgs_model.specs.Valid.{ends_in, has_directory, is_source, new_paths}
use Rattle.hgs_input.specs.declared.fault.InputFault.{InputFault}
use Rattle.hgs_input.specs.declared.fault.InputFault.TheVariants.{Limit}
use Rattle.hgs_input.specs.Record.{flag_sign, copyfrom_text, file_text}
use Rattle.hgs_input.specs.Read.{Rest, Reading, ◌>>=◌, place, bad_at, fault_at, line_or_cut, next_line, required_at, required, optional_at, optional, counted, behind, and_then, where_true, is_number, number_up_to, copyfrom_of, FileLine, flag_of, file_of_parts, file_of, most_file, most_files, fits_behind, allowed, file_with, file_line_from, file_behind, next_file}
use Rattle.hgs_input.specs.View.{IsTree}
use Rattle.hgs_input.proofs.NumberLemmas.{digit_in}
use Rattle.hgs_input.proofs.PathLemmas.{begins_so}

-- ---- answers one after another

pub record Bound {A B : Type 0} (x : Result A InputFault) (f : A → Result B InputFault) (y : B) : Type 0 where
  pub value : A
  pub is : x ≡ Ok value
  pub gives : f value ≡ Ok y

pub bound : {A B : Type 0} (x : Result A InputFault) (f : A → Result B InputFault) (y : B) → (x >>= f) ≡ Ok y → Bound x f y
bound (Ok a) f y e = record { value = a; is = refl; gives = e }
bound (Err e) f y h = cc

pub ok_is : {A : Type 0} (x y : A) → ◌≡◌ {A = Result A InputFault} (Ok x) (Ok y) → x ≡ y
ok_is x y e = cc

pub some_is : {A : Type 0} (x y : A) → Some x ≡ Some y → x ≡ y
some_is x y e = cc

pub apart : {A : Type 0} (x : A) → ◌≡◌ {A = Option A} None (Some x) → ⊥
apart x e = cc

pub contradiction : (b : Bool) → b ≡ false → b ≡ true → ⊥
contradiction b h k = cc

pub record AndThen {A B : Type 0} (o : Option A) (f : A → Option B) (y : B) : Type 0 where
  pub value : A
  pub is : o ≡ Some value
  pub gives : f value ≡ Some y

pub and_then_some : {A B : Type 0} (o : Option A) (f : A → Option B) (y : B) → and_then o f ≡ Some y → AndThen o f y
and_then_some None f y e = cc
and_then_some (Some x) f y e = record { value = x; is = refl; gives = e }

pub where_some : {A : Type 0} (b : Bool) (x y : A) → where_true b x ≡ Some y → (b ≡ true) × (x ≡ y)
where_some true x y e = (refl, some_is x y e)
where_some false x y e = cc

pub both : (a b : Bool) → (a && b) ≡ true → (a ≡ true) × (b ≡ true)
both true b h = (refl, h)
both false b h = cc

-- ---- lines and counted texts

-- a line, with its LF, and what is left behind it
pub record LineFound (r : Rest) (text : List ℕ) (rest : Rest) : Type 0 where
  pub is : r.bytes ≡ text ++ 10 ∷ rest.bytes
  pub lacks : Lacks 10 text
  pub whole : rest.whole ≡ r.whole

pub line_found : (r : Rest) (p : List ℕ × Rest) → next_line r ≡ Ok p → LineFound r p.0 p.1
line_found r p e = by (split 10 r.bytes) refl e
  where
    by : (s : Option (List ℕ × List ℕ)) → split 10 r.bytes ≡ s → line_or_cut r s ≡ Ok p → LineFound r p.0 p.1
    by None k e = cc
    by (Some q) k e =
        let parts = split_parts 10 r.bytes q k in
        let P : List ℕ × Rest → Type 0 = λ x. LineFound r x.0 x.1 in
        subst P (ok_is (q.0, record r { bytes = q.1 }) p e) (record { is = parts.0; lacks = parts.1; whole = refl })

-- a line of a form, what it says, and what is left behind it
pub record Formed {A : Type 0} (form : List ℕ → Option A) (r : Rest) (x : A) (rest : Rest) : Type 0 where
  pub text : List ℕ
  pub found : LineFound r text rest
  pub says : form text ≡ Some x

pub required_found : {A : Type 0} (form : List ℕ → Option A) (r : Rest) (p : A × Rest) → required form r ≡ Ok p → Formed form r p.0 p.1
required_found {A} form r p e =
    let l = bound (next_line r) (λ l. required_at (place r) (form l.0) l.1) p e in
    by l.value (line_found r l.value l.is) (form l.value.0) refl l.gives
  where
    by : (l : List ℕ × Rest) → LineFound r l.0 l.1 → (o : Option A) → form l.0 ≡ o → required_at (place r) o l.1 ≡ Ok p → Formed form r p.0 p.1
    by l f None k e = cc
    by l f (Some x) k e =
        let P : A × Rest → Type 0 = λ q. Formed form r q.0 q.1 in
        subst P (ok_is (x, l.1) p e) (record { text = l.0; found = f; says = k })

pub optional_some : {A : Type 0} (form : List ℕ → Option A) (r : Rest) (x : A) (rest : Rest) → optional form r ≡ Ok (Some x, rest) → Formed form r x rest
optional_some {A} form r x rest e =
    let l = bound (next_line r) (λ l. optional_at r (form l.0) l.1) (Some x, rest) e in
    by l.value (line_found r l.value l.is) (form l.value.0) refl l.gives
  where
    by : (l : List ℕ × Rest) → LineFound r l.0 l.1 → (o : Option A) → form l.0 ≡ o → optional_at r o l.1 ≡ Ok (Some x, rest) → Formed form r x rest
    by l f None k e = let d : ◌≡◌ {A = Option A} None (Some x) = ap (λ q. q.0) (ok_is (None, r) (Some x, rest) e) in absurd (apart x d)
    by l f (Some y) k e =
        let same : ◌≡◌ {A = Option A × Rest} (Some y, l.1) (Some x, rest) = ok_is (Some y, l.1) (Some x, rest) e in
        let a : y ≡ x = some_is y x (ap (λ q. q.0) same) in
        let b : l.1 ≡ rest = ap (λ q. q.1) same in
        record { text = l.0; found = subst (LineFound r l.0) b f; says = k ∙ ap (λ z. Some z) a }

pub optional_none : {A : Type 0} (form : List ℕ → Option A) (r : Rest) (rest : Rest) → optional form r ≡ Ok (None, rest) → r ≡ rest
optional_none {A} form r rest e =
    let l = bound (next_line r) (λ l. optional_at r (form l.0) l.1) (None, rest) e in
    by l.value (form l.value.0) l.gives
  where
    by : (l : List ℕ × Rest) → (o : Option A) → optional_at r o l.1 ≡ Ok (None, rest) → r ≡ rest
    by l None e = ap (λ q. q.1) (ok_is {A = Option A × Rest} (None, r) (None, rest) e)
    by l (Some y) e = let d : ◌≡◌ {A = Option A} (Some y) None = ap (λ q. q.0) (ok_is {A = Option A × Rest} (Some y, l.1) (None, rest) e) in absurd (apart y (sym d))

-- a text of this length, with an LF behind it, and what is left behind that
pub record Counted (n : ℕ) (r : Rest) (text : List ℕ) (rest : Rest) : Type 0 where
  pub is : r.bytes ≡ text ++ 10 ∷ rest.bytes
  pub size : length text ≡ n
  pub whole : rest.whole ≡ r.whole

pub counted_found : (n : ℕ) (r : Rest) (p : List ℕ × Rest) → counted n r ≡ Ok p → Counted n r p.0 p.1
counted_found n r p e = by (nat_le (length r.bytes) n) (slice_index r.bytes n == 10) refl refl e
  where
    by : (s t : Bool) → nat_le (length r.bytes) n ≡ s → (slice_index r.bytes n == 10) ≡ t
        → (if s then Err (bad_at r.whole) else if t then Ok (take n r.bytes, record r { bytes = drop (n + 1) r.bytes }) else Err (bad_at (place r))) ≡ Ok p → Counted n r p.0 p.1
    by true t a b e = cc
    by false false a b e = cc
    by false true a b e =
        let room = leb-false (length r.bytes) n a in
        let next : n + 1 ≡ suc n = omega arith in
        let lf : get_or r.bytes n 0 ≡ 10 = number_is (get_or r.bytes n 0) 10 b in
        let is : r.bytes ≡ take n r.bytes ++ 10 ∷ drop (n + 1) r.bytes =
        sym (take-append-drop n r.bytes) ∙ ap (λ t. take n r.bytes ++ t) (drop-cons r.bytes n 0 room ∙ ap (λ x. x ∷ drop (suc n) r.bytes) lf ∙ ap (λ m. 10 ∷ drop m r.bytes) (sym next)) in
        let size : length (take n r.bytes) ≡ n = let k = length-take n r.bytes in omega (arith, k, room) in
        let P : List ℕ × Rest → Type 0 = λ q. Counted n r q.0 q.1 in
        subst P (ok_is (take n r.bytes, record r { bytes = drop (n + 1) r.bytes }) p e) (record { is = is; size = size; whole = refl })

-- ---- what lines say

pub behind_some : (front text x : List ℕ) → behind front text ≡ Some x → text ≡ front ++ x
behind_some front text x e =
    let w = where_some (begins_with text front) (drop (length front) text) x e in
    begins_so text front w.0 ∙ ap (λ t. front ++ t) w.1

-- digits without a needless zero are how their number is written
digits_so : (ds : List ℕ) → list_all is_digit ds ≡ true → AllDigits 10 ds
digits_so [] h = tt
digits_so (c ∷ cs) h = let k = both (is_digit c) (list_all is_digit cs) h in let d = digit_in c k.0 in tells_digits.more c cs (d.low, d.high) (digits_so cs k.1)

some_length : (text : List ℕ) → not (length text == 0) ≡ true → 0 < length text
some_length [] h = cc
some_length (x ∷ text) h = omega arith

zero_leads : (s t : Bool) (n c : ℕ) → (n == 1) ≡ s → (c == 48) ≡ t → (s || not t) ≡ true → c ≡ 48 → n ≡ 1
zero_leads true t n c a b h e = number_is n 1 a
zero_leads false false n c a b h e = let t : (48 == 48) ≡ false = sym (ap (λ x. x == 48) e) ∙ b in cc
zero_leads false true n c a b h e = cc

pub number_found : (most : ℕ) (text : List ℕ) (n : ℕ) → most < 2 ^ 32 → number_up_to most text ≡ Some n → n ≤ most → text ≡ decimal n
number_found most text n small e h =
    let w = where_some (is_number text) (min (digits_value 10 text) (most + 1)) n e in
    let a = both (not (length text == 0) && list_all is_digit text) (length text == 1 || not (slice_index text 0 == 48)) w.0 in
    let b = both (not (length text == 0)) (list_all is_digit text) a.0 in
    let value : digits_value 10 text ≡ n = let k = w.1 in omega (arith, k, h) in
    let some = some_length text b.0 in
    let lead = zero_leads (length text == 1) (slice_index text 0 == 48) (length text) (slice_index text 0) refl refl a.1 in
    sym (decimal-digits_value (numerals_by_value (AllDigits 10) tells_digits) text (digits_so text b.1) some lead (omega (arith, value, h, small))) ∙ ap decimal value

flag_found : (text : List ℕ) (f : Flag) → flag_of text ≡ Some f → text ≡ flag_sign f
flag_found text f e = by (same text (codes "-")) (same text (codes "x")) refl refl e
  where
    signed : (g : Flag) → same text (flag_sign g) ≡ true → g ≡ f → text ≡ flag_sign f
    signed g h k = same-eq text (flag_sign g) h ∙ ap flag_sign k

    by : (s t : Bool) → same text (codes "-") ≡ s → same text (codes "x") ≡ t → (if s then Some Plain else if t then Some Exec else where_true (same text (codes "l")) Link) ≡ Some f → text ≡ flag_sign f
    by true t a b e = signed Plain a (some_is Plain f e)
    by false true a b e = signed Exec b (some_is Exec f e)
    by false false a b e = let w = where_some (same text (codes "l")) Link f e in signed Link w.0 w.1

-- the digits of the length and the path that a file's line says
pub record FileSaid (text : List ℕ) (f : FileLine) : Type 0 where
  pub digits : List ℕ
  pub is : text ≡ codes "file " ++ (flag_sign f.flag ++ 32 ∷ (digits ++ 32 ∷ f.path))
  pub number : number_up_to most_file digits ≡ Some f.size
  pub tracked : is_tracked f.path ≡ true

pub file_said : (text : List ℕ) (f : FileLine) → file_of text ≡ Some f → FileSaid text f
file_said text f e =
    let a = and_then_some (behind (codes "file ") text) (λ t. and_then (split 32 t) (λ p. and_then (split 32 p.1) (λ q. file_of_parts p.0 q.0 q.1))) f e in
    let t = a.value in
    let b = and_then_some (split 32 t) (λ p. and_then (split 32 p.1) (λ q. file_of_parts p.0 q.0 q.1)) f a.gives in
    let p = b.value in
    let c = and_then_some (split 32 p.1) (λ q. file_of_parts p.0 q.0 q.1) f b.gives in
    let q = c.value in
    let d = and_then_some (flag_of p.0) (λ g. and_then (number_up_to most_file q.0) (λ n. where_true (is_tracked q.1) (record { flag = g; size = n; path = q.1 }))) f c.gives in
    let g = d.value in
    let h = and_then_some (number_up_to most_file q.0) (λ n. where_true (is_tracked q.1) (record { flag = g; size = n; path = q.1 })) f d.gives in
    let n = h.value in
    let line : FileLine = record { flag = g; size = n; path = q.1 } in
    let w = where_some (is_tracked q.1) line f h.gives in
    let is : text ≡ codes "file " ++ (flag_sign g ++ 32 ∷ (q.0 ++ 32 ∷ q.1)) =
    behind_some (codes "file ") text t a.is
    ∙ ap (λ x. codes "file " ++ x) ((split_parts 32 t p b.is).0 ∙ ap (λ x. x ++ 32 ∷ p.1) (flag_found p.0 g d.is) ∙ ap (λ x. flag_sign g ++ 32 ∷ x) (split_parts 32 p.1 q c.is).0) in
    subst (FileSaid text) w.1 (record { digits = q.0; is = is; number = h.is; tracked = w.0 })

-- a line that may stand behind these files
pub record Allowed (files : List NewFile) (f : FileLine) : Type 0 where
  pub fits : fits_behind (new_paths files) f.path ≡ true
  pub small : f.size ≤ most_file
  pub few : length files < most_files

pub allowed_ok : (at : ℕ) (files : List NewFile) (f g : FileLine) → allowed at files f ≡ Ok g → (f ≡ g) × Allowed files f
allowed_ok at files f g e = by (fits_behind (new_paths files) f.path) (nat_lt most_file f.size) (nat_le most_files (length files)) refl refl refl e
  where
    by : (s t u : Bool) → fits_behind (new_paths files) f.path ≡ s → nat_lt most_file f.size ≡ t → nat_le most_files (length files) ≡ u
        → (if not s then Err (bad_at at) else if t then Err (fault_at at (Limit FileText)) else if u then Err (fault_at at (Limit Tree)) else Ok f) ≡ Ok g → (f ≡ g) × Allowed files f
    by false t u a b c e = cc
    by true true u a b c e = cc
    by true false true a b c e = cc
    by true false false a b c e = (ok_is f g e, record { fits = a; small = (let k = leb-false (suc most_file) f.size b in omega (arith, k)); few = leb-false most_files (length files) c })

-- ---- a source

pub last_ends : (byte : ℕ) (text : List ℕ) (last : ℕ) → Some last ≡ slice_get text (length text - 1) → (last == byte) ≡ ends_in byte text
last_ends byte [] last e = cc
last_ends byte (b ∷ []) last e = ap (λ x. x == byte) (some_is last b e)
last_ends byte (b ∷ c ∷ text) last e =
    let next : suc (suc (length text)) - 1 ≡ suc (suc (length text) - 1) = omega arith in
    last_ends byte (c ∷ text) last (e ∙ ap (slice_get (b ∷ c ∷ text)) next)

-- the line of a source, where there is one, and what is left behind it
pub record SourceFound (r : Rest) (from : Option (List ℕ)) (rest : Rest) : Type 0 where
  pub is : r.bytes ≡ copyfrom_text from ++ rest.bytes
  pub whole : rest.whole ≡ r.whole
  pub valid : IfSome from (λ path. is_source path ≡ true)

source_found : (r : Rest) (from : Option (List ℕ)) (rest : Rest) → optional copyfrom_of r ≡ Ok (from, rest) → SourceFound r from rest
source_found r None rest e =
    let k = optional_none copyfrom_of r rest e in
    record { is = ap (λ (q : Rest). q.bytes) k; whole = ap (λ (q : Rest). q.whole) (sym k); valid = tt }
source_found r (Some path) rest e =
    let f = optional_some copyfrom_of r path rest e in
    let a = and_then_some (behind (codes "copyfrom ") f.text) (λ path. where_true (is_source path) path) path f.says in
    let w = where_some (is_source a.value) a.value path a.gives in
    let text : f.text ≡ codes "copyfrom " ++ path = behind_some (codes "copyfrom ") f.text a.value a.is ∙ ap (λ t. codes "copyfrom " ++ t) w.1 in
    record {
      is = f.found.is ∙ ap (λ t. t ++ 10 ∷ rest.bytes) text ∙ sym (line_then (codes "copyfrom " ++ path) rest.bytes);
      whole = f.found.whole;
      valid = ap is_source (sym w.1) ∙ w.0;
    }

-- ---- the line of a file

file_line_found : (wanted : Bool) (r : Rest) (line : FileLine) (rest : Rest) → file_line_from wanted r ≡ Ok (Some line, rest) → Formed file_of r line rest
file_line_found false r line rest e = optional_some file_of r line rest e
file_line_found true r line rest e =
    let a = bound (required file_of r) (λ f. Ok (Some f.0, f.1)) (Some line, rest) e in
    let same = ok_is {A = Option FileLine × Rest} (Some a.value.0, a.value.1) (Some line, rest) a.gives in
    let is : a.value.0 ≡ line = some_is a.value.0 line (ap (λ q. q.0) same) in
    let found : Formed file_of r a.value.0 a.value.1 = required_found file_of r a.value a.is in
    subst (Formed file_of r line) (ap (λ q. q.1) same) (subst (λ (l : FileLine). Formed file_of r l a.value.1) is found)

file_line_none : (wanted : Bool) (r rest : Rest) → file_line_from wanted r ≡ Ok (None, rest) → (wanted ≡ false) × (r ≡ rest)
file_line_none false r rest e = (refl, optional_none file_of r rest e)
file_line_none true r rest e =
    let a = bound (required file_of r) (λ f. Ok (Some f.0, f.1)) (None, rest) e in
    let d : ◌≡◌ {A = Option FileLine} (Some a.value.0) None = ap (λ q. q.0) (ok_is {A = Option FileLine × Rest} (Some a.value.0, a.value.1) (None, rest) a.gives) in
    absurd (apart a.value.0 (sym d))

-- ---- a file

pub record FileFound (files : List NewFile) (r : Rest) (f : NewFile) (rest : Rest) : Type 0 where
  pub is : r.bytes ≡ file_text f ++ rest.bytes
  pub whole : rest.whole ≡ r.whole
  pub source : IfSome f.from (λ path. is_source path ≡ true)
  pub tracked : is_tracked f.path ≡ true
  pub fits : fits_behind (new_paths files) f.path ≡ true
  pub small : length f.body ≤ most_file
  pub few : length files < most_files

two_lines : (a b rest : List ℕ) → a ++ 10 ∷ (b ++ 10 ∷ rest) ≡ (line a ++ line b) ++ rest
two_lines a b rest = sym (append_assoc (line a) (line b) rest ∙ line_then a (line b ++ rest) ∙ ap (λ t. a ++ 10 ∷ t) (line_then b rest))

body_found : (files : List NewFile) (r at mid : Rest) (from : Option (List ℕ)) (line : FileLine) (p : List ℕ × Rest) →
    SourceFound r from at → Formed file_of at line mid → Allowed files line → Counted line.size mid p.0 p.1 → FileFound files r (file_with line from p.0) p.1
body_found files r at mid from line p source formed may body =
    let said = file_said formed.text line formed.says in
    let digits : said.digits ≡ decimal line.size = number_found most_file said.digits line.size (omega arith) said.number may.small in
    let text : formed.text ≡ codes "file " ++ (flag_sign line.flag ++ 32 ∷ (decimal (length p.0) ++ 32 ∷ line.path)) =
    said.is ∙ ap (λ t. codes "file " ++ (flag_sign line.flag ++ 32 ∷ (t ++ 32 ∷ line.path))) (digits ∙ ap decimal (sym body.size)) in
    let b = body.size in
    let s = may.small in
    let said_line = codes "file " ++ (flag_sign line.flag ++ 32 ∷ (decimal (length p.0) ++ 32 ∷ line.path)) in
    let lines : at.bytes ≡ (line_of said_line ++ line_of p.0) ++ p.1.bytes =
    formed.found.is ∙ ap (λ t. t ++ 10 ∷ mid.bytes) text ∙ ap (λ t. said_line ++ 10 ∷ t) body.is ∙ two_lines said_line p.0 p.1.bytes in
    record {
      is = source.is ∙ ap (λ t. copyfrom_text from ++ t) lines ∙ sym (append_assoc (copyfrom_text from) (line_of said_line ++ line_of p.0) p.1.bytes);
      whole = body.whole ∙ formed.found.whole ∙ source.whole;
      source = source.valid;
      tracked = said.tracked;
      fits = may.fits;
      small = omega (arith, b, s);
      few = may.few;
    }

-- what is read behind the line of a source, where there is one
abbrev pub line_behind : List NewFile → Option (List ℕ) → Rest → Reading (Option NewFile)
line_behind files from at = file_line_from (is_some from) at >>= λ line. file_behind (place at) files from line.0 line.1

pub file_found : (files : List NewFile) (r rest : Rest) (f : NewFile) → next_file files r ≡ Ok (Some f, rest) → FileFound files r f rest
file_found files r rest f e =
    let a = bound (optional copyfrom_of r) (λ from. line_behind files from.0 from.1) (Some f, rest) e in
    let b = bound (file_line_from (is_some a.value.0) a.value.1) (λ line. file_behind (place a.value.1) files a.value.0 line.0 line.1) (Some f, rest) a.gives in
    by a.value.0 a.value.1 (source_found r a.value.0 a.value.1 a.is) b.value.0 b.value.1 b.is b.gives
  where
    by : (from : Option (List ℕ)) (at : Rest) → SourceFound r from at → (o : Option FileLine) (mid : Rest) → file_line_from (is_some from) at ≡ Ok (o, mid) → file_behind (place at) files from o mid ≡ Ok (Some f, rest) → FileFound files r f rest
    by from at s None mid k e = let d : ◌≡◌ {A = Option NewFile} None (Some f) = ap (λ q. q.0) (ok_is {A = Option NewFile × Rest} (None, mid) (Some f, rest) e) in absurd (apart f d)
    by from at s (Some line) mid k e =
        let formed = file_line_found (is_some from) at line mid k in
        let b = bound (allowed (place at) files line) (λ g. counted g.size mid >>= λ body. Ok (Some (file_with g from body.0), body.1)) (Some f, rest) e in
        let g = b.value in
        let may = allowed_ok (place at) files line g b.is in
        let c = bound (counted g.size mid) (λ body. Ok (Some (file_with g from body.0), body.1)) (Some f, rest) b.gives in
        let p = c.value in
        let same = ok_is {A = Option NewFile × Rest} (Some (file_with g from p.0), p.1) (Some f, rest) c.gives in
        let is : file_with line from p.0 ≡ f = ap (λ (l : FileLine). file_with l from p.0) may.0 ∙ some_is (file_with g from p.0) f (ap (λ q. q.0) same) in
        let body : Counted line.size mid p.0 p.1 = subst (λ (l : FileLine). Counted l.size mid p.0 p.1) (sym may.0) (counted_found g.size mid p c.is) in
        let found = body_found files r at mid from line p s formed may.1 body in
        subst (FileFound files r f) (ap (λ q. q.1) same) (subst (λ (n : NewFile). FileFound files r n p.1) is found)

-- with a file that was read, the files are a tree, and fewer bytes are left
pub record FileMore (files : List NewFile) (r : Rest) (f : NewFile) (rest : Rest) : Type 0 where
  pub tree : IsTree (files ++ f ∷ [])
  pub fewer : length rest.bytes < length r.bytes

pub paths-push : (files : List NewFile) (f : NewFile) → new_paths (files ++ f ∷ []) ≡ new_paths files ++ f.path ∷ []
paths-push [] f = refl
paths-push (g ∷ files) f = ap (λ l. g.path ∷ l) (paths-push files f)

pub not_true : (b : Bool) → not b ≡ true → b ≡ false
not_true true h = cc
not_true false h = refl

pub tree_with : (files : List NewFile) (f : NewFile) → fits_behind (new_paths files) f.path ≡ true → IsTree (files ++ f ∷ [])
tree_with files f h =
    let k = both (ascends (new_paths files ++ f.path ∷ [])) (not (has_directory (new_paths files ++ f.path ∷ []))) h in
    record { ordered = ap ascends (paths-push files f) ∙ k.0; apart = ap has_directory (paths-push files f) ∙ not_true (has_directory (new_paths files ++ f.path ∷ [])) k.1 }

pub file_text_some : (f : NewFile) → 0 < length (file_text f)
file_text_some f =
    let lines = line_of (codes "file " ++ (flag_sign f.flag ++ 32 ∷ (decimal (length f.body) ++ 32 ∷ f.path))) ++ line_of f.body in
    let size = length-append (copyfrom_text f.from) lines in
    let some : 0 < length lines = omega arith in
    omega (arith, size, some)

pub file_more_found : (files : List NewFile) (r rest : Rest) (f : NewFile) → next_file files r ≡ Ok (Some f, rest) → FileMore files r f rest
file_more_found files r rest f e =
    let found = file_found files r rest f e in
    let size = ap length found.is ∙ length-append (file_text f) rest.bytes in
    let some = file_text_some f in
    record { tree = tree_with files f found.fits; fewer = omega (arith, size, some) }

-- where no file is next, nothing is read
pub file_none : (files : List NewFile) (r rest : Rest) → next_file files r ≡ Ok (None, rest) → r ≡ rest
file_none files r rest e =
    let a = bound (optional copyfrom_of r) (λ from. line_behind files from.0 from.1) (None, rest) e in
    let b = bound (file_line_from (is_some a.value.0) a.value.1) (λ line. file_behind (place a.value.1) files a.value.0 line.0 line.1) (None, rest) a.gives in
    by a.value.0 a.value.1 a.is b.value.0 b.value.1 b.is b.gives
  where
    by : (from : Option (List ℕ)) (at : Rest) → optional copyfrom_of r ≡ Ok (from, at) → (o : Option FileLine) (mid : Rest) → file_line_from (is_some from) at ≡ Ok (o, mid) → file_behind (place at) files from o mid ≡ Ok (None, rest) → r ≡ rest
    by None at s None mid k e = optional_none copyfrom_of r at s ∙ optional_none file_of at mid k ∙ ap (λ q. q.1) (ok_is {A = Option NewFile × Rest} (None, mid) (None, rest) e)
    by (Some path) at s None mid k e = let no = (file_line_none true at mid k).0 in cc
    by from at s (Some line) mid k e =
        let b = bound (allowed (place at) files line) (λ g. counted g.size mid >>= λ body. Ok (Some (file_with g from body.0), body.1)) (None, rest) e in
        let g = b.value in
        let c = bound (counted g.size mid) (λ body. Ok (Some (file_with g from body.0), body.1)) (None, rest) b.gives in
        let d : ◌≡◌ {A = Option NewFile} (Some (file_with g from c.value.0)) None = ap (λ q. q.0) (ok_is {A = Option NewFile × Rest} (Some (file_with g from c.value.0), c.value.1) (None, rest) c.gives) in
        absurd (apart (file_with g from c.value.0) (sym d))
