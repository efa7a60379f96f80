-- What is read of bytes has paths that an entry can hold.
use Rattle.std.proofs.Common.{◌≡◌, ◌<◌, ◌≤◌, ℕ, zero, suc, ◌-◌, ◌^◌, Bool, true, false, cond, List, [], ◌∷◌, length, take, drop, Option, Some, None, Result, Ok, Err, refl, ◌∙◌, ap, subst, arith, length-append}
use Rattle.std.specs.Prelude.{◌==◌, if◌then◌else◌, nat_le, slice_index}
use Rattle.std.proofs.lemmas.Bool.Decides.{nat_tests}
use Rattle.std.specs.Int.{w32, from_be_bytes}
use Rattle.std.specs.List.{All, AllByRecursion}
use Rattle.std.specs.Option.{option_map}
use Rattle.std.proofs.lemmas.List.{length-take, length-drop}
use Rattle.std.proofs.lemmas.List.Elements.{All-weaker, All-from_recursion}
use Rattle.hex.specs.Hex.{IsBytes}
use Rattle.hgs_bytes.specs.Text.{Lacks, split}
use Rattle.hgs_bytes.specs.Theorems.TextLemmas.{split_parts}
use Rattle.hgs_marks.specs.declared.fault.MarkFault.{MarkFault}
use Rattle.hgs_marks.specs.declared.fault.MarkFault.TheVariants.{Short, State}
use Rattle.hgs_marks.specs.Dirstate.{Dirstate, Entry, no_dirstate, is_state, has_entry, first_entry, name_len, next_entry, entry_then, entry_and_more, entries_from, before_nul, entry_path, tracked, paths_with, read_paths, dirstate_with, read_dirstate}
use Rattle.hgs_marks.specs.Texts.{IsTracked, IsDirstate}

pub bytes-drop : (n : ℕ) (xs : List ℕ) → IsBytes xs → IsBytes (drop n xs)
bytes-drop zero xs h = h
bytes-drop (suc n) [] h = h
bytes-drop (suc n) (x ∷ xs) h = bytes-drop n xs (λ i. h (suc i))

cells : (x : ℕ) (xs : List ℕ) → x < 256 → IsBytes xs → IsBytes (x ∷ xs)
cells x xs a h zero = a
cells x xs a h (suc i) = h i

pub bytes-take : (n : ℕ) (xs : List ℕ) → IsBytes xs → IsBytes (take n xs)
bytes-take zero xs h = λ i. omega arith
bytes-take (suc n) [] h = h
bytes-take (suc n) (x ∷ xs) h = cells x (take n xs) (h 0) (bytes-take n xs (λ k. h (suc k)))

pub below_32 : (xs : List ℕ) → IsBytes xs → from_be_bytes w32 xs < 2 ^ 32
below_32 xs h = let a = h 0 in let b = h 1 in let c = h 2 in let d = h 3 in omega (arith, a, b, c, d)

-- an entry whose name has a length of 32 bits
abbrev IsShort : Entry → Type 0
IsShort e = length e.name < 2 ^ 32

name_short : (bytes : List ℕ) → IsBytes bytes → IsShort (first_entry bytes)
name_short bytes h =
    let len = below_32 (take 4 (drop 13 bytes)) (bytes-take 4 (drop 13 bytes) (bytes-drop 13 bytes h)) in
    simp length-take (omega (arith, len))

record Follows (e : Entry) (rest : List ℕ) : Type 0 where
  pub short : IsShort e
  pub bytes : IsBytes rest

next-step : (s t : Bool) (at : ℕ) (bytes : List ℕ) (p : Entry × List ℕ) → IsBytes bytes → (if s then (if t then Ok (first_entry bytes, drop (name_len bytes) (drop 17 bytes)) else Err Short) else Err (State at)) ≡ Ok p → Follows p.0 p.1
next-step false t at bytes p h e = cc
next-step true false at bytes p h e = cc
next-step true true at bytes p h e =
    let is : ◌≡◌ {A = Entry × List ℕ} (first_entry bytes, drop (name_len bytes) (drop 17 bytes)) p = cc in
    let P : Entry × List ℕ → Type 0 = λ q. Follows q.0 q.1 in
    subst P is (record { short = name_short bytes h; bytes = bytes-drop (name_len bytes) (drop 17 bytes) (bytes-drop 17 bytes h) })

then-step : (r : Result (List Entry) MarkFault) (e : Entry) (es : List Entry) → entry_then e r ≡ Ok es → IsShort e → ((more : List Entry) → r ≡ Ok more → AllByRecursion IsShort more) → AllByRecursion IsShort es
then-step (Err f) e es k s h = cc
then-step (Ok more) e es k s h = let is : e ∷ more ≡ es = cc in subst (AllByRecursion IsShort) is (s, h more refl)

more-step : (r : Result (Entry × List ℕ) MarkFault) (more : List ℕ → Result (List Entry) MarkFault) (es : List Entry) → entry_and_more r more ≡ Ok es → ((p : Entry × List ℕ) → r ≡ Ok p → Follows p.0 p.1) →
    ((rest : List ℕ) (behind : List Entry) → IsBytes rest → more rest ≡ Ok behind → AllByRecursion IsShort behind) → AllByRecursion IsShort es
more-step (Err f) more es k h m = cc
more-step (Ok p) more es k h m = let f = h p refl in then-step (more p.1) p.0 es k f.short (λ behind e. m p.1 behind f.bytes e)

none-step : (t : Bool) (r : Result (List Entry) MarkFault) (es : List Entry) → (if t then Ok [] else r) ≡ Ok es → (r ≡ Ok es → AllByRecursion IsShort es) → AllByRecursion IsShort es
none-step true r es k h = let is : [] ≡ es = cc in subst (AllByRecursion IsShort) is tt
none-step false r es k h = h k

entries_found : (n len : ℕ) (bytes : List ℕ) (es : List Entry) → IsBytes bytes → entries_from n len bytes ≡ Ok es → AllByRecursion IsShort es
entries_found zero len bytes es h k = let is : [] ≡ es = cc in subst (AllByRecursion IsShort) is tt
entries_found (suc n) len bytes es h k =
    none-step (length bytes == 0) (entry_and_more (next_entry (len - length bytes) bytes) (λ rest. entries_from n len rest)) es k
    (λ j. more-step (next_entry (len - length bytes) bytes) (λ rest. entries_from n len rest) es j (λ p e. next-step (is_state (slice_index bytes 0)) (has_entry bytes) (len - length bytes) bytes p h e)
    (λ rest behind b e. entries_found n len rest behind b e))

unsplit-step : (t : Bool) (byte x : ℕ) (xs : List ℕ) (s : Option (List ℕ × List ℕ)) → (x == byte) ≡ t → cond {A = Option (List ℕ × List ℕ)} t (Some ([], xs)) (option_map (λ y. (x ∷ y.0, y.1)) s) ≡ None → (s ≡ None → Lacks byte xs) → Lacks byte (x ∷ xs)
unsplit-step true byte x xs s t e h = cc
unsplit-step false byte x xs None t e h = (t, h refl)
unsplit-step false byte x xs (Some y) t e h = cc

unsplit : (byte : ℕ) (xs : List ℕ) → split byte xs ≡ None → Lacks byte xs
unsplit byte [] e = tt
unsplit byte (x ∷ xs) e = unsplit-step (x == byte) byte x xs (split byte xs) refl e (unsplit byte xs)

path-step : (name : List ℕ) (s : Option (List ℕ × List ℕ)) → split 0 name ≡ s → length name < 2 ^ 32 → IsTracked (before_nul name s)
path-step name None e h = record { no_nul = unsplit 0 name e; size = h }
path-step name (Some p) e h =
    let parts = split_parts 0 name p e in
    let size = ap length parts.0 ∙ length-append p.0 (0 ∷ p.1) in
    record { no_nul = parts.1; size = omega (arith, size, h) }

tracked-step : (t : Bool) (path : List ℕ) (paths : List (List ℕ)) → IsTracked path → AllByRecursion IsTracked paths → AllByRecursion IsTracked (cond t paths (path ∷ paths))
tracked-step true path paths p h = h
tracked-step false path paths p h = (p, h)

tracked_found : (es : List Entry) → AllByRecursion IsShort es → AllByRecursion IsTracked (tracked es)
tracked_found [] h = tt
tracked_found (e ∷ es) h = tracked-step (e.state == 114) (entry_path e) (tracked es) (path-step e.name (split 0 e.name) refl h.0) (tracked_found es h.1)

with-step : (r : Result (List Entry) MarkFault) (paths : List (List ℕ)) → paths_with [] r ≡ Ok paths → ((es : List Entry) → r ≡ Ok es → AllByRecursion IsShort es) → AllByRecursion IsTracked paths
with-step (Err f) paths e h = cc
with-step (Ok es) paths e h = let is : tracked es ≡ paths = cc in subst (AllByRecursion IsTracked) is (tracked_found es (h es refl))

pub paths_found : (text : List ℕ) (paths : List (List ℕ)) → IsBytes text → read_paths text ≡ Ok paths → AllByRecursion IsTracked paths
paths_found text paths h e = with-step (entries_from (length text) (length text) (drop 40 text)) paths e (λ es k. entries_found (length text) (length text) (drop 40 text) es (bytes-drop 40 text h) k)

parents-step : (p1 p2 : List ℕ) (r : Result (List (List ℕ)) MarkFault) (d : Dirstate) → dirstate_with p1 p2 r ≡ Ok d → length p1 ≡ 20 → length p2 ≡ 20 → ((paths : List (List ℕ)) → r ≡ Ok paths → AllByRecursion IsTracked paths) → IsDirstate d
parents-step p1 p2 (Err f) d e a b h = cc
parents-step p1 p2 (Ok paths) d e a b h =
    let is : ◌≡◌ {A = Dirstate} (record { p1 = p1; p2 = p2; paths = paths }) d = cc in
    subst IsDirstate is (record { p1 = a; p2 = b; paths = h paths refl })

pub long_is : (n m : ℕ) → nat_le n m ≡ true → n ≤ m
long_is n m h = grind (arith, nat_tests)

text-step : (s t : Bool) (text : List ℕ) (d : Dirstate) → nat_le 40 (length text) ≡ t → IsBytes text →
    (if s then Ok no_dirstate else (if t then dirstate_with (take 20 text) (take 20 (drop 20 text)) (read_paths text) else Err Short)) ≡ Ok d → IsDirstate d
text-step true t text d k h e =
    let is : no_dirstate ≡ d = cc in
    subst IsDirstate is (record { p1 = refl; p2 = refl; paths = tt })
text-step false false text d k h e = cc
text-step false true text d k h e =
    let long = long_is 40 (length text) k in
    parents-step (take 20 text) (take 20 (drop 20 text)) (read_paths text) d e (simp length-take (omega (arith, long))) (simp (length-take, length-drop) (omega (arith, long))) (λ paths j. paths_found text paths h j)

pub dirstate_found : (text : List ℕ) (d : Dirstate) → IsBytes text → read_dirstate text ≡ Ok d → IsDirstate d
dirstate_found text d h e = text-step (length text == 0) (nat_le 40 (length text)) text d refl h e

pub paths_fit : (text : List ℕ) (paths : List (List ℕ)) → IsBytes text → read_paths text ≡ Ok paths → All (λ path. length path < 2 ^ 32) paths
paths_fit text paths h e = All-weaker IsTracked (λ path. length path < 2 ^ 32) (λ path t. t.size) paths (All-from_recursion IsTracked paths (paths_found text paths h e))
