-- What is read of an input with nothing behind it, where that is read of a front as of the whole.
use Rattle.std.proofs.Common.{◌≡◌, inl, inr, ℕ, zero, suc, ◌+◌, ◌-◌, ◌<◌, ◌≤◌, Bool, true, false, List, [], ◌∷◌, ◌++◌, length, take, Result, Ok, Err, refl, sym, ◌∙◌, ap, arith, length-append}
use Rattle.std.specs.Prelude.{◌==◌, nat_le, if◌then◌else◌}
use Rattle.std.proofs.lemmas.Bool.{eqb-true, le-leb, leb-true, leb-false, false_from_ne_true}
use Rattle.std.proofs.lemmas.List.{take_all, length-take, take-append-le}
use Rattle.hgs_index.specs.declared.kinds.Which.{Which}
use Rattle.hgs_index.specs.declared.kinds.Which.TheVariants.{FileText, Tree, Record}
use Rattle.hgs_input.specs.declared.fault.InputFault.{InputFault}
use Rattle.hgs_input.specs.declared.fault.InputFault.TheVariants.{BadInput, Limit}
use Rattle.hgs_input.specs.Front.{left, Alike}
use Rattle.hgs_input.specs.Record.{most_input}
use Rattle.hgs_input.specs.Read.{Rest, Reading, ◌>>=◌, bad_at, place, nothing_behind, looked_at, start_of}
use Rattle.hgs_schedule.specs.Theorems.ReadLemmas.{bound, ok_is}
use Rattle.hgs_schedule.specs.Theorems.FrontLemmas.{place_alike}

-- what was read, where nothing is left behind it
abbrev pub alone : {A : Type 0} → A × Rest → Result A InputFault
alone x = nothing_behind x.1 >>= λ _. Ok x.0

abbrev pub read_left : {A : Type 0} → (Rest → Reading A) → List ℕ → Result A InputFault
read_left from bytes = from (left (length bytes) bytes) >>= alone

abbrev pub read_whole : {A : Type 0} → (Rest → Reading A) → List ℕ → Result A InputFault
read_whole from bytes = from (start_of bytes) >>= alone

-- what is read of a front is read of the whole, but where the front is cut
abbrev pub ReadsAlike : {A : Type 0} → (Rest → Reading A) → Type 0
ReadsAlike from = (w : ℕ) (tail bytes : List ℕ) → Alike w tail (from (left w bytes)) (from (left (w + length tail) (bytes ++ tail)))

pub record NoneBehind (r : Rest) : Type 0 where
  pub none : length r.bytes ≡ 0
  pub room : r.whole ≤ most_input

abbrev end_at : Rest → Bool → Bool → Result (Unit {0}) InputFault
end_at r a b = if a then (if b then Ok tt else Err (Limit Record)) else Err (bad_at (place r))

pub none_behind : {A : Type 0} (r : Rest) (s t : A) → alone (s, r) ≡ Ok t → NoneBehind r
none_behind r s t e = by (length r.bytes == 0) (nat_le r.whole most_input) refl refl e
  where
    by : (a b : Bool) → (length r.bytes == 0) ≡ a → nat_le r.whole most_input ≡ b → (end_at r a b >>= λ _. Ok s) ≡ Ok t → NoneBehind r
    by true true a b k = record { none = eqb-true (length r.bytes) 0 a; room = leb-true r.whole most_input b }
    by true false a b k = cc
    by false t a b k = cc

pub alone_is : {A : Type 0} (s : A) (r : Rest) (t : A) → alone (s, r) ≡ Ok t → s ≡ t
alone_is s r t e = let b = bound (nothing_behind r) (λ _. Ok s) t e in ok_is s t b.gives

pub nil_is : (xs : List ℕ) → length xs ≡ 0 → xs ≡ []
nil_is [] h = refl
nil_is (x ∷ xs) h = absurd (omega (arith, h))

pub looked-length : (bytes : List ℕ) → length (looked_at bytes) ≤ most_input → length bytes ≤ most_input
looked-length bytes h = let size = length-take (most_input + 1) bytes in omega (arith, h, size)

pub looked-whole : (bytes : List ℕ) → length bytes ≤ most_input → looked_at bytes ≡ bytes
looked-whole bytes h = take_all (most_input + 1) bytes (omega (arith, h))

-- ---- fronts

err_ok : {B : Type 0} (e : InputFault) (y : B) → ◌≡◌ {A = Result B InputFault} (Err e) (Ok y) → ⊥
err_ok e y h = cc

-- where the whole is read to its end, the front is cut
cut : {A : Type 0} (w b : ℕ) (rest : List ℕ) (x y : Reading A) (s : A) → Alike w (b ∷ rest) x y → (y >>= alone) ≡ Ok s → (x >>= alone) ≡ Err (bad_at w)
cut w b rest x y s (inl h) e = ap (λ r. r >>= alone) h
cut w b rest x y s (inr (inl h)) e = absurd (err_ok h.fault s (sym (ap (λ r. r >>= alone) h.all) ∙ e))
cut w b rest x y s (inr (inr h)) e =
    let none = (none_behind (left (w + length (b ∷ rest)) (h.rest ++ b ∷ rest)) h.value s (sym (ap (λ r. r >>= alone) h.all) ∙ e)).none in
    let size = length-append h.rest (b ∷ rest) in
    absurd (omega (arith, none, size))

-- an input that is read is looked at as a whole
room_of : {A : Type 0} (from : Rest → Reading A) → ReadsAlike from → (bytes : List ℕ) (s : A) → read_whole from bytes ≡ Ok s → length bytes ≤ most_input
room_of {A} from alike bytes s e =
    let w = length (looked_at bytes) in
    let b = bound (from (start_of bytes)) alone s e in
    let room = (none_behind b.value.1 b.value.0 s b.gives).room in
    let same = whole_is b.value b.is in
    let size = length-take (most_input + 1) bytes in
    omega (arith, room, same, size)
  where
    -- with nothing behind it an input is read as itself, and so keeps its length
    whole_is : (p : A × Rest) → from (start_of bytes) ≡ Ok p → p.1.whole ≡ length (looked_at bytes)
    whole_is p e = by (alike (length (looked_at bytes)) [] (looked_at bytes))
      where
        by : Alike (length (looked_at bytes)) [] (from (start_of bytes)) (from (left (length (looked_at bytes) + 0) (looked_at bytes ++ []))) → p.1.whole ≡ length (looked_at bytes)
        by (inl h) = absurd (err_ok (bad_at (length (looked_at bytes))) p (sym h ∙ e))
        by (inr (inl h)) = absurd (err_ok h.fault p (sym h.front ∙ e))
        by (inr (inr h)) = ap (λ (q : A × Rest). q.1.whole) (sym (ok_is {A = A × Rest} (h.value, left (length (looked_at bytes)) h.rest) p (sym h.front ∙ e)))

pub front_cut : {A : Type 0} (from : Rest → Reading A) → ReadsAlike from → (front more : List ℕ) (b : ℕ) (s : A) → read_whole from (front ++ b ∷ more) ≡ Ok s → read_whole from front ≡ Err (BadInput (length front))
front_cut from alike front rest b s e =
    let tail = b ∷ rest in
    let size = length-append front tail in
    let room = room_of from alike (front ++ tail) s e in
    let all : read_left from (front ++ tail) ≡ Ok s = ap (read_left from) (sym (looked-whole (front ++ tail) room)) ∙ e in
    let whole : (from (left (length front + length tail) (front ++ tail)) >>= alone) ≡ Ok s = ap (λ n. from (left n (front ++ tail)) >>= alone) (sym size) ∙ all in
    ap (read_left from) (looked-whole front (omega (arith, room, size)))
    ∙ cut (length front) b rest _ _ s (alike (length front) tail front) whole
    ∙ ap (λ t. Err (if t then BadInput (length front) else Limit Record)) (le-leb (length front) most_input (omega (arith, room, size)))

-- ---- what stands behind a fault

err_is : {B : Type 0} (e f : InputFault) → ◌≡◌ {A = Result B InputFault} (Err e) (Err f) → e ≡ f
err_is e f h = cc

contradiction : (b : Bool) → b ≡ false → b ≡ true → ⊥
contradiction true e f = cc
contradiction false e f = cc

-- a fault other than that of an input that is cut, or longer than the limit
record IsBefore (w : ℕ) (f : InputFault) : Type 0 where
  cut : ◌≡◌ {A = InputFault} (bad_at w) f → ⊥
  long : ◌≡◌ {A = InputFault} (Limit Record) f → ⊥

nothing_stays : (w : ℕ) (e : InputFault) (tail rest : List ℕ) → IsBefore w e → nothing_behind (left w rest) ≡ Err e → nothing_behind (left (w + length tail) (rest ++ tail)) ≡ Err e
nothing_stays w e tail rest other is = by (length rest == 0) (nat_le w most_input) refl is
  where
    by : (s t : Bool) → (length rest == 0) ≡ s → end_at (left w rest) s t ≡ Err e → nothing_behind (left (w + length tail) (rest ++ tail)) ≡ Err e
    by true true h k = cc
    by true false h k = absurd (other.long (err_is {B = Unit {0}} (Limit Record) e k))
    by false t h k =
        let size = length-append rest tail in
        let some : (length (rest ++ tail) == 0) ≡ false = false_from_ne_true (length (rest ++ tail) == 0) (λ t. (let n = eqb-true (length (rest ++ tail)) 0 t in contradiction (length rest == 0) h (ap (λ m. m == 0) (none rest (omega (arith, n, size)))))) in
        ap (λ t. end_at (left (w + length tail) (rest ++ tail)) t (nat_le (w + length tail) most_input)) some
        ∙ ap (λ p. Err (bad_at p)) (sym (place_alike w tail rest)) ∙ k
      where
        none : (xs : List ℕ) → length xs ≤ 0 → length xs ≡ 0
        none xs h = omega (arith, h)

alone_err : {A : Type 0} (s : A) (r : Rest) (e : InputFault) → alone (s, r) ≡ Err e → nothing_behind r ≡ Err e
alone_err {A} s r e h = by (nothing_behind r) h
  where
    by : (x : Result (Unit {0}) InputFault) → (x >>= λ _. Ok s) ≡ Err e → x ≡ Err e
    by (Ok u) k = cc
    by (Err d) k = ap (λ z. Err z) (err_is {B = A} d e k)

stay : {A : Type 0} (w : ℕ) (tail : List ℕ) (x y : Reading A) (e : InputFault) → Alike w tail x y → IsBefore w e → (x >>= alone) ≡ Err e → (y >>= alone) ≡ Err e
stay {A} w tail x y e (inl h) other is = absurd (other.cut (err_is {B = A} (bad_at w) e (sym (ap (λ r. r >>= alone) h) ∙ is)))
stay w tail x y e (inr (inl h)) other is = ap (λ r. r >>= alone) h.all ∙ sym (ap (λ r. r >>= alone) h.front) ∙ is
stay w tail x y e (inr (inr h)) other is =
    let ended = alone_err h.value (left w h.rest) e (sym (ap (λ r. r >>= alone) h.front) ∙ is) in
    ap (λ r. r >>= alone) h.all ∙ ap (λ x. x >>= λ _. Ok h.value) (nothing_stays w e tail h.rest other ended)

take_past : (n : ℕ) (xs ys : List ℕ) → length xs ≤ n → take n (xs ++ ys) ≡ xs ++ take (n - length xs) ys
take_past n [] ys h = let z : n ≡ n - 0 = omega arith in ap (λ m. take m ys) z
take_past zero (x ∷ xs) ys h = absurd (omega (arith, h))
take_past (suc n) (x ∷ xs) ys h = let z : n - length xs ≡ suc n - suc (length xs) = omega arith in ap (λ l. x ∷ l) (take_past n xs ys (omega (arith, h)) ∙ ap (λ m. xs ++ take m ys) z)

-- what stands behind the first byte past the limit decides nothing
pub decided : {A : Type 0} (from : Rest → Reading A) (front more : List ℕ) → most_input < length front → read_whole from (front ++ more) ≡ read_whole from front
decided from front more long = ap (read_left from) (take-append-le (most_input + 1) front more (omega (arith, long)))

stays : {A : Type 0} (from : Rest → Reading A) → ReadsAlike from → (front more : List ℕ) (e : InputFault) → IsBefore (length front) e → read_whole from front ≡ Err e → read_whole from (front ++ more) ≡ Err e
stays from alike front more e other is = by (nat_le (length front) most_input) refl
  where
    by : (b : Bool) → nat_le (length front) most_input ≡ b → read_whole from (front ++ more) ≡ Err e
    by true h =
        let room = leb-true (length front) most_input h in
        let rest = take (most_input + 1 - length front) more in
        let here : (from (left (length front) front) >>= alone) ≡ Err e = sym (ap (read_left from) (looked-whole front room)) ∙ is in
        ap (read_left from) (take_past (most_input + 1) front more (omega (arith, room)))
        ∙ ap (λ n. from (left n (front ++ rest)) >>= alone) (length-append front rest)
        ∙ stay (length front) rest _ _ e (alike (length front) rest front) other here
    by false h = decided from front more (leb-false (length front) most_input h) ∙ is

pub fault_stays : {A : Type 0} (from : Rest → Reading A) → ReadsAlike from → (front more : List ℕ) (at : ℕ) → at < length front → read_whole from front ≡ Err (BadInput at) → read_whole from (front ++ more) ≡ Err (BadInput at)
fault_stays from alike front more at lt is = stays from alike front more (BadInput at) (record { cut = λ h. (let same = bad_is (length front) at h in absurd (omega (arith, same, lt))); long = no_limit }) is
  where
    no_limit : ◌≡◌ {A = InputFault} (Limit Record) (BadInput at) → ⊥
    no_limit h = cc

    bad_is : (w at : ℕ) → ◌≡◌ {A = InputFault} (bad_at w) (BadInput at) → w ≡ at
    bad_is w at e = by (nat_le w most_input) e
      where
        by : (t : Bool) → ◌≡◌ {A = InputFault} (if t then BadInput w else Limit Record) (BadInput at) → w ≡ at
        by true k = cc
        by false k = cc

-- the limit of one thing in a record is not that of the input
other_limit : (w : ℕ) (which : Which) → (◌≡◌ {A = InputFault} (Limit Record) (Limit which) → ⊥) → IsBefore w (Limit which)
other_limit w which other = record { cut = by (nat_le w most_input); long = other }
  where
    by : (t : Bool) → ◌≡◌ {A = InputFault} (if t then BadInput w else Limit Record) (Limit which) → ⊥
    by true k = cc
    by false k = other k

pub body_stays : {A : Type 0} (from : Rest → Reading A) → ReadsAlike from → (front more : List ℕ) → read_whole from front ≡ Err (Limit FileText) → read_whole from (front ++ more) ≡ Err (Limit FileText)
body_stays from alike front more is = stays from alike front more (Limit FileText) (other_limit (length front) FileText apart) is
  where
    apart : ◌≡◌ {A = InputFault} (Limit Record) (Limit FileText) → ⊥
    apart h = cc

pub files_stay : {A : Type 0} (from : Rest → Reading A) → ReadsAlike from → (front more : List ℕ) → read_whole from front ≡ Err (Limit Tree) → read_whole from (front ++ more) ≡ Err (Limit Tree)
files_stay from alike front more is = stays from alike front more (Limit Tree) (other_limit (length front) Tree apart) is
  where
    apart : ◌≡◌ {A = InputFault} (Limit Record) (Limit Tree) → ⊥
    apart h = cc
