-- What stands in no path and in no number.
use Rattle.std.proofs.Common.{◌≡◌, ℕ, ◌+◌, ◌<◌, ◌%◌, ◌^◌, Bool, true, false, cond, ◌&&◌, ◌||◌, not, List, [], ◌∷◌, ◌++◌, length, Option, Some, None, refl, arith, decimal, nat_le}
use Rattle.std.specs.Prelude.{◌==◌, option_map}
use Rattle.std.specs.List.{list_any}
use Rattle.std.proofs.lemmas.Bool.Decides.{nat_tests}
use Rattle.std.proofs.lemmas.Fmt.{decimal_by_steps}
use Rattle.hgs_bytes.specs.Bytes.{begins_with}
use Rattle.hgs_bytes.specs.Path.{components, is_line_byte}
use Rattle.hgs_bytes.specs.Text.{Lacks, split}
use Rattle.hgs_bytes.specs.Theorems.TextLemmas.{lacks-append}
use Rattle.hgs_files.specs.Path.{is_dots, is_store_path}
use Rattle.hgs_journal.specs.Names.{in_store, place}

pub both-true : (a b : Bool) → (a && b) ≡ true → (a ≡ true) × (b ≡ true)
both-true true b e = (refl, e)
both-true false b e = cc

both-false : (a b : Bool) → (a || b) ≡ false → (a ≡ false) × (b ≡ false)
both-false true b e = cc
both-false false b e = (refl, e)

not-true : (a : Bool) → not a ≡ true → a ≡ false
not-true true e = cc
not-true false e = refl

-- neither NUL nor LF
abbrev pub LacksBoth : List ℕ → Type 0
LacksBoth xs = Lacks 0 xs × Lacks 10 xs

without_line_bytes : (xs : List ℕ) → list_any is_line_byte xs ≡ false → LacksBoth xs
without_line_bytes [] h = (tt, tt)
without_line_bytes (x ∷ xs) h =
    let here = both-false (is_line_byte x) (list_any is_line_byte xs) h in
    let two = both-false (x == 0 || x == 10) (x == 13) here.0 in
    let each = both-false (x == 0) (x == 10) two.0 in
    let rest = without_line_bytes xs here.1 in
    ((each.0, rest.0), (each.1, rest.1))

path-bytes : (path : List ℕ) → is_store_path path ≡ true → list_any is_line_byte path ≡ false
path-bytes path h =
    let front = nat_le 1 (length path) && nat_le (length path) 4096 && not (begins_with path (47 ∷ [])) in
    let all = both-true (front && not (list_any is_line_byte path)) (not (list_any is_dots (components path))) h in
    not-true (list_any is_line_byte path) (both-true front (not (list_any is_line_byte path)) all.0).1

pub name-lacks : (plain : Bool) (name : List ℕ) → is_store_path (place plain name) ≡ true → LacksBoth name
name-lacks true name h = without_line_bytes name (path-bytes name h)
name-lacks false name h = without_line_bytes name (path-bytes (in_store name) h)

digit-lacks : (n : ℕ) → n < 10 → ((48 + n) == 10) ≡ false
digit-lacks n h = grind (arith, nat_tests)

pub decimal-lacks : (n : ℕ) → n < 2 ^ 64 → Lacks 10 (decimal n)
decimal-lacks n h =
    decimal_by_steps (λ k ds. Lacks 10 ds) (λ k l. (digit-lacks k l, tt)) (λ k ds l d. lacks-append 10 ds ((48 + k % 10) ∷ []) d (digit-lacks (k % 10) (omega arith), tt)) n h

pub split-lacks : (byte : ℕ) (xs : List ℕ) → Lacks byte xs → split byte xs ≡ None
split-lacks byte [] h = refl
split-lacks byte (x ∷ xs) h = rw (h.0, split-lacks byte xs h.1)

none-step : (b : Bool) (byte x : ℕ) (xs : List ℕ) (s : Option (List ℕ × List ℕ)) → (x == byte) ≡ b → cond {A = Option (List ℕ × List ℕ)} b (Some ([], xs)) (option_map (λ y. (x ∷ y.0, y.1)) s) ≡ None
    → (s ≡ None → Lacks byte xs) → Lacks byte (x ∷ xs)
none-step true byte x xs s t e h = cc
none-step false byte x xs None t e h = (t, h refl)
none-step false byte x xs (Some y) t e h = cc

-- what cannot be split has no such byte
pub split-none : (byte : ℕ) (xs : List ℕ) → split byte xs ≡ None → Lacks byte xs
split-none byte [] e = tt
split-none byte (x ∷ xs) e = none-step (x == byte) byte x xs (split byte xs) refl e (λ h. split-none byte xs h)

pub lacks-back : (byte : ℕ) (xs ys : List ℕ) → Lacks byte (xs ++ ys) → Lacks byte ys
lacks-back byte [] ys h = h
lacks-back byte (x ∷ xs) ys h = lacks-back byte xs ys h.1
