-- What is read of a front of an input: the same as of the whole, or that it is cut.
use Rattle.std.proofs.Common.{◌≡◌, inl, inr, ℕ, ◌+◌, List, ◌∷◌, ◌++◌, length, Option, Some, None, Ok, Err, refl, sym, ◌∙◌, ap, subst, arith, append_assoc, length-append}
use Rattle.hgs_bytes.specs.Text.{split}
use Rattle.hgs_bytes.specs.Theorems.TextLemmas.{split_over, split_parts}
use Rattle.hgs_input.specs.declared.fault.InputFault.{InputFault}
use Rattle.hgs_input.specs.Front.{left, Alike}
use Rattle.hgs_input.specs.Import.{import_from}
use Rattle.hgs_input.specs.Read.{Rest, Reading, ◌>>=◌, bad_at, place, line_or_cut, next_line, required_at, required, record_from}

pub alike_read : {A : Type 0} (w : ℕ) (tail rest : List ℕ) (x : A) → Alike w tail (Ok (x, left w rest)) (Ok (x, left (w + length tail) (rest ++ tail)))
alike_read w tail rest x = inr (inr (record { value = x; rest = rest; front = refl; all = refl }))

pub alike_fault : {A : Type 0} (w : ℕ) (tail : List ℕ) (e f : InputFault) → e ≡ f → Alike {A = A} w tail (Err e) (Err f)
alike_fault w tail e f h = inr (inl (record { fault = e; front = refl; all = ap (λ x. Err x) (sym h) }))

along : {A : Type 0} (w : ℕ) (tail : List ℕ) (a x b y : Reading A) → a ≡ x → b ≡ y → Alike w tail x y → Alike w tail a b
along w tail a x b y e f h = subst (λ r. Alike w tail r b) (sym e) (subst (λ r. Alike w tail x r) (sym f) h)

pub bind_alike : {A B : Type 0} (w : ℕ) (tail : List ℕ) (a b : Reading A) (f g : A × Rest → Reading B) → Alike w tail a b →
    ((x : A) (rest : List ℕ) → a ≡ Ok (x, left w rest) → Alike w tail (f (x, left w rest)) (g (x, left (w + length tail) (rest ++ tail)))) → Alike w tail (a >>= f) (b >>= g)
bind_alike w tail a b f g (inl h) k = inl (ap (λ r. r >>= f) h)
bind_alike w tail a b f g (inr (inl s)) k = inr (inl (record { fault = s.fault; front = ap (λ r. r >>= f) s.front; all = ap (λ r. r >>= g) s.all }))
bind_alike w tail a b f g (inr (inr s)) k =
    along w tail (a >>= f) (f (s.value, left w s.rest)) (b >>= g) (g (s.value, left (w + length tail) (s.rest ++ tail))) (ap (λ r. r >>= f) s.front) (ap (λ r. r >>= g) s.all) (k s.value s.rest s.front)

pub place_alike : (w : ℕ) (tail bytes : List ℕ) → place (left w bytes) ≡ place (left (w + length tail) (bytes ++ tail))
place_alike w tail bytes = let k = length-append bytes tail in omega (arith, k)

-- ---- lines

pub line_alike : (w : ℕ) (tail bytes : List ℕ) → Alike w tail (next_line (left w bytes)) (next_line (left (w + length tail) (bytes ++ tail)))
line_alike w tail bytes = by (split 10 bytes) refl
  where
    by : (s : Option (List ℕ × List ℕ)) → split 10 bytes ≡ s → Alike w tail (line_or_cut (left w bytes) s) (next_line (left (w + length tail) (bytes ++ tail)))
    by None e = inl refl
    by (Some p) e =
        let parts = split_parts 10 bytes p e in
        let all : split 10 (bytes ++ tail) ≡ Some (p.0, p.1 ++ tail) =
        ap (λ t. split 10 (t ++ tail)) parts.0 ∙ ap (split 10) (append_assoc p.0 (10 ∷ p.1) tail) ∙ split_over 10 p.0 (p.1 ++ tail) parts.1 in
        inr (inr (record { value = p.0; rest = p.1; front = refl; all = ap (line_or_cut (left (w + length tail) (bytes ++ tail))) all }))

pub required_at_alike : {A : Type 0} (at w : ℕ) (tail rest : List ℕ) (o : Option A) → Alike w tail (required_at at o (left w rest)) (required_at at o (left (w + length tail) (rest ++ tail)))
required_at_alike at w tail rest None = alike_fault w tail (bad_at at) (bad_at at) refl
required_at_alike at w tail rest (Some x) = alike_read w tail rest x

-- a line, and what is read behind it as its place and its words say
pub behind_line_alike : {A : Type 0} (w : ℕ) (tail bytes : List ℕ) (read : ℕ → List ℕ → Rest → Reading A) →
    ((at : ℕ) (words rest : List ℕ) → Alike w tail (read at words (left w rest)) (read at words (left (w + length tail) (rest ++ tail)))) →
    Alike w tail (next_line (left w bytes) >>= λ l. read (place (left w bytes)) l.0 l.1) (next_line (left (w + length tail) (bytes ++ tail)) >>= λ l. read (place (left (w + length tail) (bytes ++ tail))) l.0 l.1)
behind_line_alike w tail bytes read alike =
    let r = left w bytes in
    let s = left (w + length tail) (bytes ++ tail) in
    bind_alike w tail (next_line r) (next_line s) (λ l. read (place r) l.0 l.1) (λ l. read (place s) l.0 l.1) (line_alike w tail bytes)
    (λ words rest e. subst (λ at. Alike w tail (read (place r) words (left w rest)) (read at words (left (w + length tail) (rest ++ tail)))) (place_alike w tail bytes) (alike (place r) words rest))

pub form_alike : {A : Type 0} (form : List ℕ → Option A) (w : ℕ) (tail bytes : List ℕ) → Alike w tail (required form (left w bytes)) (required form (left (w + length tail) (bytes ++ tail)))
form_alike form w tail bytes = behind_line_alike w tail bytes (λ at words rest. required_at at (form words) rest) (λ at words rest. required_at_alike at w tail rest (form words))

-- ---- records

-- a record is read of a front as of the whole
abbrev pub RecordsAlike : Type 0
RecordsAlike = (w : ℕ) (tail bytes : List ℕ) → Alike w tail (record_from (left w bytes)) (record_from (left (w + length tail) (bytes ++ tail)))

abbrev pub ImportsAlike : Type 0
ImportsAlike = (w : ℕ) (tail bytes : List ℕ) → Alike w tail (import_from (left w bytes)) (import_from (left (w + length tail) (bytes ++ tail)))
