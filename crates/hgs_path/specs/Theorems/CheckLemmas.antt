-- A path has no fault exactly where it is tracked.
use Rattle.std.proofs.Common.{◌≡◌, ℕ, suc, ◌+◌, Bool, true, false, cond, ◌&&◌, ◌||◌, not, List, [], ◌∷◌, length, Option, Some, None, Result, Err, refl, ap, ◌∙◌, arith}
use Rattle.std.specs.Prelude.{◌==◌, nat_lt, nat_le, is_some, is_ok, position}
use Rattle.std.specs.List.{list_any, position_or_len}
use Rattle.hgs_bytes.specs.Path.{components, is_line_byte}
use Rattle.hgs_index.specs.TrackedPath.{is_forbidden, is_tracked}
use Rattle.hgs_path.specs.declared.check.PathFault.{PathFault}
use Rattle.hgs_path.specs.declared.check.PathFault.TheVariants.{Empty, Long}
use Rattle.hgs_path.specs.Check.{forbidden_from, by_places, checked}

first-below : (n : ℕ) → nat_lt 0 (suc n) ≡ true
first-below n = grind arith

next-below : (k n : ℕ) → nat_lt (1 + k) (suc n) ≡ nat_lt k n
next-below k n = grind arith

below : (p : ℕ → Bool) (xs : List ℕ) → nat_lt (position_or_len p xs) (length xs) ≡ list_any p xs
below p [] = refl
below p (x ∷ xs) = by (p x) (below p xs)
  where
    by : (t : Bool) → nat_lt (position_or_len p xs) (length xs) ≡ list_any p xs → nat_lt (cond (not t) (1 + position_or_len p xs) 0) (suc (length xs)) ≡ (t || list_any p xs)
    by true h = first-below (length xs)
    by false h = next-below (position_or_len p xs) (length xs) ∙ h

is_there : (t : Bool) (n : ℕ) → is_some (cond t (Some n) None) ≡ t
is_there true n = refl
is_there false n = refl

found : (p : ℕ → Bool) (xs : List ℕ) → is_some (position p xs) ≡ list_any p xs
found p xs = is_there (nat_lt (position_or_len p xs) (length xs)) (position_or_len p xs) ∙ below p xs

forbidden-found : (at : ℕ) (parts : List (List ℕ)) → is_some (forbidden_from at parts) ≡ list_any is_forbidden parts
forbidden-found at [] = refl
forbidden-found at (part ∷ parts) = by (is_forbidden part) (forbidden-found (at + length part + 1) parts)
  where
    by : (t : Bool) → is_some (forbidden_from (at + length part + 1) parts) ≡ list_any is_forbidden parts → is_some (cond t (Some at) (forbidden_from (at + length part + 1) parts)) ≡ (t || list_any is_forbidden parts)
    by true h = refl
    by false h = h

ok-places : (a b : Option ℕ) → is_ok (by_places a b) ≡ (not (is_some a) && not (is_some b))
ok-places (Some a) b = refl
ok-places None (Some b) = refl
ok-places None None = refl

by-tests : (e l a b : Bool) (r : Result Unit PathFault) → is_ok r ≡ (not a && not b) → is_ok (cond e (Err Empty) (cond l (Err Long) r)) ≡ (((not e && not l) && not a) && not b)
by-tests true l a b r h = refl
by-tests false true a b r h = refl
by-tests false false a b r h = h

pub checked-tracked : (path : List ℕ) → is_ok (checked path) ≡ is_tracked path
checked-tracked path =
    let first : not (length path == 0) ≡ nat_le 1 (length path) = grind arith in
    let second : not (nat_lt 1024 (length path)) ≡ nat_le (length path) 1024 = grind arith in
    by-tests (length path == 0) (nat_lt 1024 (length path)) (list_any is_line_byte path) (list_any is_forbidden (components path)) _
    (ok-places _ _ ∙ ap (λ t. not t && not (is_some (forbidden_from 0 (components path)))) (found is_line_byte path) ∙ ap (λ t. not (list_any is_line_byte path) && not t) (forbidden-found 0 (components path)))
    ∙ ap (λ t. ((t && not (nat_lt 1024 (length path))) && not (list_any is_line_byte path)) && not (list_any is_forbidden (components path))) first
    ∙ ap (λ t. ((nat_le 1 (length path) && t) && not (list_any is_line_byte path)) && not (list_any is_forbidden (components path))) second
