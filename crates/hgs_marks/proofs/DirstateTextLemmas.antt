-- Which texts are read as working parents and tracked paths.
use Rattle.std.proofs.Common.{◌≡◌, ◌<◌, ◌≤◌, ℕ, zero, suc, ◌+◌, ◌-◌, Bool, true, false, ◌&&◌, List, [], ◌∷◌, ◌++◌, length, take, drop, Result, Ok, Err, refl, sym, ◌∙◌, ap, subst, inl, inr, arith, append_assoc, length-append}
use Rattle.std.specs.Prelude.{◌==◌, nat_le, if◌then◌else◌, slice_index}
use Rattle.std.specs.Int.{w32, from_be_bytes, to_be_bytes}
use Rattle.std.proofs.lemmas.List.{take_at, drop_at, drop-drop, take-append-drop, length-take, length-drop}
use Rattle.std.proofs.lemmas.Nat.{from_be_bytes-to_be_bytes_4, be_bytes_4}
use Rattle.hex.specs.Hex.{IsBytes}
use Rattle.hgs_marks.specs.declared.fault.MarkFault.{MarkFault}
use Rattle.hgs_marks.specs.declared.fault.MarkFault.TheVariants.{Short, State}
use Rattle.hgs_marks.specs.Dirstate.{Dirstate, Entry, is_state, has_entry, first_entry, name_len, next_entry, entry_then, entry_and_more, entries_from, tracked, paths_with, read_paths, dirstate_with, read_dirstate, no_dirstate}
use Rattle.hgs_marks.specs.DirstateTexts.{entry_text, IsFirst, AreEntriesOf, HasParents, IsDirstateText}
use Rattle.hgs_marks.specs.Theorems.DirstateLemmas.{one_step}
use Rattle.hgs_marks.specs.Theorems.DirstateText.{within, parents_back}
use Rattle.hgs_marks.proofs.DirstateFound.{bytes-drop, bytes-take, below_32, long_is}

-- ---- entries are read again

abbrev first_of : ℕ → List ℕ → List ℕ → Result (Entry × List ℕ) MarkFault
first_of state name rest = Ok (record { state = state; name = name }, rest)

-- what an entry's bytes give, by their length and that of its name
parts-step : (s : Bool) (at state len n : ℕ) (name rest : List ℕ) → s ≡ true → len ≡ 17 + length (name ++ rest) → n ≡ length name →
    (if s then (if nat_le 17 len && nat_le (17 + n) len then first_of state (take n (name ++ rest)) (drop n (name ++ rest)) else Err Short) else Err (State at)) ≡ first_of state name rest
parts-step s at state len n name rest known whole is =
    let size = length-append name rest in
    ap (λ b. if b then (if nat_le 17 len && nat_le (17 + n) len then first_of state (take n (name ++ rest)) (drop n (name ++ rest)) else Err Short) else Err (State at)) known
    ∙ ap (λ b. if b && nat_le (17 + n) len then first_of state (take n (name ++ rest)) (drop n (name ++ rest)) else Err Short) (within 17 len (omega arith))
    ∙ ap (λ b. if b then first_of state (take n (name ++ rest)) (drop n (name ++ rest)) else Err Short) (within (17 + n) len (omega arith))
    ∙ ap (λ x. first_of state x (drop n (name ++ rest))) (take_at name rest n (sym is))
    ∙ ap (first_of state name) (drop_at name rest n (sym is))

-- what stands behind the twelve bytes
abbrev tail_of : Entry → List ℕ → List ℕ
tail_of e rest = to_be_bytes w32 (length e.name) ++ (e.name ++ rest)

spread : (e : Entry) (between rest : List ℕ) → entry_text e between ++ rest ≡ e.state ∷ (between ++ tail_of e rest)
spread e between rest =
    ap (λ l. e.state ∷ l) (append_assoc between (to_be_bytes w32 (length e.name) ++ e.name) rest ∙ ap (λ l. between ++ l) (append_assoc (to_be_bytes w32 (length e.name)) e.name rest))

first-back : (at : ℕ) (e : Entry) (bytes rest : List ℕ) → IsFirst e bytes rest → next_entry at bytes ≡ Ok (e, rest)
first-back at e bytes rest h =
    let text : List ℕ = e.state ∷ (h.between ++ tail_of e rest) in
    let tail : drop 13 text ≡ tail_of e rest = drop_at h.between (tail_of e rest) 12 h.twelve in
    let name : drop 17 text ≡ e.name ++ rest = sym (drop-drop 4 13 text) ∙ ap (drop 4) tail in
    let count : name_len text ≡ length e.name = ap (λ l. from_be_bytes w32 (take 4 l)) tail ∙ from_be_bytes-to_be_bytes_4 (length e.name) h.size in
    let twelve = h.twelve in
    let size = length-append h.between (tail_of e rest) in
    let long : length text ≡ 17 + length (e.name ++ rest) = omega (arith, twelve, size) in
    ap (next_entry at) (h.bytes_are ∙ spread e h.between rest)
    ∙ ap (λ l. if is_state e.state then (if nat_le 17 (length text) && nat_le (17 + name_len text) (length text) then first_of e.state (take (name_len text) l) (drop (name_len text) l) else Err Short) else Err (State at)) name
    ∙ parts-step (is_state e.state) at e.state (length text) (name_len text) e.name rest h.state long count

entries-back : (n len : ℕ) (entries : List Entry) (bytes : List ℕ) → length bytes ≤ n → AreEntriesOf entries bytes → entries_from n len bytes ≡ Ok entries
entries-back zero len [] bytes few h = refl
entries-back (suc n) len [] bytes few h = ap (λ b. entries_from (suc n) len b) h
entries-back zero len (e ∷ entries) bytes few h = absurd (let size = ap length (h.1.bytes_are ∙ spread e h.1.between h.0) in omega (arith, size, few))
entries-back (suc n) len (e ∷ entries) bytes few h =
    let size = ap length (h.1.bytes_are ∙ spread e h.1.between h.0) in
    let parts = length-append h.1.between (tail_of e h.0) in
    let more = length-append e.name h.0 in
    let fewer : length h.0 ≤ n = omega (arith, size, parts, more, few) in
    one_step n len bytes (omega (arith, size))
    ∙ ap (λ r. entry_and_more r (λ b. entries_from n len b)) (first-back (len - length bytes) e bytes h.0 h.1)
    ∙ ap (entry_then e) (entries-back n len entries h.0 fewer h.2)

-- ---- entries that are read

first-cons : (bytes : List ℕ) → 0 < length bytes → bytes ≡ slice_index bytes 0 ∷ drop 1 bytes
first-cons [] h = absurd (omega (arith, h))
first-cons (b ∷ bytes) h = refl

first-is : (bytes : List ℕ) → IsBytes bytes → is_state (slice_index bytes 0) ≡ true → 17 ≤ length bytes → 17 + name_len bytes ≤ length bytes → IsFirst (first_entry bytes) bytes (drop (name_len bytes) (drop 17 bytes))
first-is bytes are state long whole =
    let number = take 4 (drop 13 bytes) in
    let name = take (name_len bytes) (drop 17 bytes) in
    let left = drop (name_len bytes) (drop 17 bytes) in
    let behind = length-drop 17 bytes in
    let named : length name ≡ name_len bytes = (let l = length-take (name_len bytes) (drop 17 bytes) in omega (arith, l, behind, whole)) in
    let four : length number ≡ 4 = (let l = length-take 4 (drop 13 bytes) in let d = length-drop 13 bytes in omega (arith, l, d, long)) in
    let below = below_32 number (bytes-take 4 (drop 13 bytes) (bytes-drop 13 bytes are)) in
    let spelled : to_be_bytes w32 (length name) ≡ number = ap (to_be_bytes w32) named ∙ be_bytes_4 number (name_len bytes) four (bytes-take 4 (drop 13 bytes) (bytes-drop 13 bytes are)) refl in
    record {
      between = take 12 (drop 1 bytes);
      twelve = (let l = length-take 12 (drop 1 bytes) in let d = length-drop 1 bytes in omega (arith, l, d, long));
      state = state;
      size = omega (arith, named, below);
      bytes_are = first-cons bytes (omega (arith, long))
          ∙ ap (λ l. slice_index bytes 0 ∷ l)
          (sym (take-append-drop 12 (drop 1 bytes))
          ∙ ap (λ l. take 12 (drop 1 bytes) ++ l)
          (drop-drop 12 1 bytes ∙ sym (take-append-drop 4 (drop 13 bytes))
          ∙ ap (λ l. number ++ l) (drop-drop 4 13 bytes ∙ sym (take-append-drop (name_len bytes) (drop 17 bytes)))
          ∙ ap (λ l. l ++ (name ++ left)) (sym spelled)))
          ∙ sym (spread (first_entry bytes) (take 12 (drop 1 bytes)) left);
    }

pair_is : (p q : Entry × List ℕ) → (let a : Result (Entry × List ℕ) MarkFault = Ok p in a) ≡ Ok q → p ≡ q
pair_is p q h = cc

both : (a b : Bool) → (a && b) ≡ true → (a ≡ true) × (b ≡ true)
both true b h = (refl, h)
both false b h = cc

next-found : (at : ℕ) (bytes : List ℕ) (p : Entry × List ℕ) → IsBytes bytes → next_entry at bytes ≡ Ok p → IsFirst p.0 bytes p.1 × IsBytes p.1
next-found at bytes p are e = by (is_state (slice_index bytes 0)) refl (has_entry bytes) refl e
  where
    by : (s : Bool) → is_state (slice_index bytes 0) ≡ s → (t : Bool) → has_entry bytes ≡ t
        → (if s then (if t then Ok (first_entry bytes, drop (name_len bytes) (drop 17 bytes)) else Err Short) else Err (State at)) ≡ Ok p → IsFirst p.0 bytes p.1 × IsBytes p.1
    by true a true b k =
        let w = both (nat_le 17 (length bytes)) (nat_le (17 + name_len bytes) (length bytes)) b in
        let P : Entry × List ℕ → Type 0 = λ q. IsFirst q.0 bytes q.1 × IsBytes q.1 in
        subst P (pair_is (first_entry bytes, drop (name_len bytes) (drop 17 bytes)) p k)
        (first-is bytes are a (long_is 17 (length bytes) w.0) (long_is (17 + name_len bytes) (length bytes) w.1), bytes-drop (name_len bytes) (drop 17 bytes) (bytes-drop 17 bytes are))
    by true a false b k = cc
    by false a t b k = cc

entries_same : (x y : List Entry) → (let a : Result (List Entry) MarkFault = Ok x in a) ≡ Ok y → x ≡ y
entries_same x y h = cc

no-bytes : (bytes : List ℕ) → length bytes ≤ 0 → bytes ≡ []
no-bytes [] h = refl
no-bytes (b ∷ bytes) h = absurd (omega (arith, h))

zero_is : (n : ℕ) → (n == 0) ≡ true → n ≤ 0
zero_is n h = grind (arith, h)

none-found : (entries : List Entry) (bytes : List ℕ) → length bytes ≤ 0 → (let a : Result (List Entry) MarkFault = Ok [] in a) ≡ Ok entries → AreEntriesOf entries bytes
none-found entries bytes few e = subst (λ l. AreEntriesOf l bytes) (entries_same [] entries e) (no-bytes bytes few)

-- one entry, and what is read behind it
one-found : (n len : ℕ) (entries : List Entry) (bytes : List ℕ) (p : Entry × List ℕ) → IsFirst p.0 bytes p.1 × IsBytes p.1 → length bytes ≤ suc n → entry_then p.0 (entries_from n len p.1) ≡ Ok entries
    → ((more : List Entry) → length p.1 ≤ n → entries_from n len p.1 ≡ Ok more → AreEntriesOf more p.1) → AreEntriesOf entries bytes
one-found n len entries bytes p f few e behind = by (entries_from n len p.1) refl e
  where
    fewer : length p.1 ≤ n
    fewer =
        let size = ap length (f.0.bytes_are ∙ spread p.0 f.0.between p.1) in
        let parts = length-append f.0.between (tail_of p.0 p.1) in
        let more = length-append p.0.name p.1 in
        omega (arith, size, parts, more, few)

    by : (r : Result (List Entry) MarkFault) → entries_from n len p.1 ≡ r → entry_then p.0 r ≡ Ok entries → AreEntriesOf entries bytes
    by (Ok more) is k = subst (λ l. AreEntriesOf l bytes) (entries_same (p.0 ∷ more) entries k) (p.1, f.0, behind more fewer is)
    by (Err x) is k = cc

entries-found : (n len : ℕ) (entries : List Entry) (bytes : List ℕ) → IsBytes bytes → length bytes ≤ n → entries_from n len bytes ≡ Ok entries → AreEntriesOf entries bytes
entries-found zero len entries bytes are few e = none-found entries bytes few e
entries-found (suc n) len entries bytes are few e =
    by (λ rest more bytes_are room k. entries-found n len more rest bytes_are room k) (length bytes == 0) refl (next_entry (len - length bytes) bytes) refl e
  where
    by : ((rest : List ℕ) (more : List Entry) → IsBytes rest → length rest ≤ n → entries_from n len rest ≡ Ok more → AreEntriesOf more rest) → (z : Bool) → (length bytes == 0) ≡ z
        → (r : Result (Entry × List ℕ) MarkFault) → next_entry (len - length bytes) bytes ≡ r → (if z then Ok [] else entry_and_more r (λ rest. entries_from n len rest)) ≡ Ok entries → AreEntriesOf entries bytes
    by found true z r is k = none-found entries bytes (zero_is (length bytes) z) k
    by found false z (Ok p) is k =
        let f = next-found (len - length bytes) bytes p are is in
        one-found n len entries bytes p f few k (λ more room m. found p.1 more f.1 room m)
    by found false z (Err x) is k = cc

-- ---- the whole

dirstate_is : (x y : Dirstate) → (let a : Result Dirstate MarkFault = Ok x in a) ≡ Ok y → x ≡ y
dirstate_is x y h = cc

parents-found : (d : Dirstate) (text : List ℕ) → IsBytes text → 40 ≤ length text → dirstate_with (take 20 text) (take 20 (drop 20 text)) (read_paths text) ≡ Ok d → HasParents d text
parents-found d text are long e = by (entries_from (length text) (length text) (drop 40 text)) refl e
  where
    by : (r : Result (List Entry) MarkFault) → entries_from (length text) (length text) (drop 40 text) ≡ r → dirstate_with (take 20 text) (take 20 (drop 20 text)) (paths_with [] r) ≡ Ok d → HasParents d text
    by (Ok entries) is k =
        let a = length-take 20 text in
        let b = length-drop 20 text in
        let c = length-take 20 (drop 20 text) in
        let left = length-drop 40 text in
        subst (λ x. HasParents x text) (dirstate_is (record { p1 = take 20 text; p2 = take 20 (drop 20 text); paths = tracked entries }) d k)
        (record {
          entries = entries;
          rest = drop 40 text;
          p1 = omega (arith, a, long);
          p2 = omega (arith, c, b, long);
          text_is = sym (take-append-drop 20 text) ∙ ap (λ l. take 20 text ++ l) (sym (take-append-drop 20 (drop 20 text)) ∙ ap (λ l. take 20 (drop 20 text) ++ l) (drop-drop 20 20 text));
          entries_are = entries-found (length text) (length text) entries (drop 40 text) (bytes-drop 40 text are) (omega (arith, left)) is;
          paths = refl;
        })
    by (Err f) is k = cc

text-found : (d : Dirstate) (text : List ℕ) → IsBytes text → read_dirstate text ≡ Ok d → IsDirstateText d text
text-found d text are e = by (length text == 0) refl (nat_le 40 (length text)) refl e
  where
    by : (s : Bool) → (length text == 0) ≡ s → (t : Bool) → nat_le 40 (length text) ≡ t
        → (if s then Ok no_dirstate else (if t then dirstate_with (take 20 text) (take 20 (drop 20 text)) (read_paths text) else Err Short)) ≡ Ok d → IsDirstateText d text
    by true a t b k = inl (no-bytes text (zero_is (length text) a), dirstate_is no_dirstate d k)
    by false a true b k = inr (parents-found d text are (long_is 40 (length text) b) k)
    by false a false b k = cc

parents-read : (d : Dirstate) (text : List ℕ) → HasParents d text → read_dirstate text ≡ Ok d
parents-read d text h =
    let all = d.p1 ++ (d.p2 ++ h.rest) in
    let size = length-append d.p1 (d.p2 ++ h.rest) in
    let more = length-append d.p2 h.rest in
    let paths : read_paths all ≡ Ok d.paths =
    ap (λ t. paths_with [] (entries_from (length all) (length all) t)) (sym (drop-drop 20 20 all) ∙ ap (drop 20) (drop_at d.p1 (d.p2 ++ h.rest) 20 h.p1) ∙ drop_at d.p2 h.rest 20 h.p2)
    ∙ ap (paths_with []) (entries-back (length all) (length all) h.entries h.rest (omega (arith, size, more)) h.entries_are)
    ∙ ap (λ l. Ok l) h.paths in
    ap read_dirstate h.text_is ∙ parents_back d.p1 d.p2 h.rest (Ok d.paths) h.p1 h.p2 paths

text-back : (d : Dirstate) (text : List ℕ) → IsDirstateText d text → read_dirstate text ≡ Ok d
text-back d text (inl h) = ap read_dirstate h.0 ∙ ap (λ x. Ok x) h.1
text-back d text (inr h) = parents-read d text h

pub dirstate-texts : (d : Dirstate) (text : List ℕ) → IsBytes text → (read_dirstate text ≡ Ok d → IsDirstateText d text) × (IsDirstateText d text → read_dirstate text ≡ Ok d)
dirstate-texts d text are = (λ e. text-found d text are e, λ h. text-back d text h)
