-- Rows that are passed one after another.
use Rattle.std.proofs.Common.{◌≡◌, ℕ, zero, suc, ◌+◌, List, [], ◌∷◌, ◌++◌, true, false, map, drop, Option, Some, None, sym, ◌∙◌, ap, append_assoc, append-nil, refl, length, ◌≤◌, arith}
use Rattle.std.specs.Prelude.{slice_get, if◌then◌else◌}
use Rattle.hgs_bytes.specs.Bytes.{is_below}
use Rattle.hgs_index.specs.Manifest.{Row}
use Rattle.std.specs.Option.{option_map}
use Rattle.hgs_bytes.specs.Bytes.{same}
use Rattle.hgs_commit.specs.Walk.{Told, before, behind_row, first_row, from_path, told_of_row}

abbrev pub paths : List Row → List (List ℕ)
paths rows = map (λ r. r.path) rows

some_is : {A : Type 0} (x y : A) → Some x ≡ Some y → x ≡ y
some_is x y e = cc

drop_suc : {A : Type 0} (xs : List A) (i : ℕ) (x : A) → slice_get xs i ≡ Some x → drop i xs ≡ x ∷ drop (suc i) xs
drop_suc [] i r e = cc
drop_suc (x ∷ xs) zero r e = ap (λ q. q ∷ xs) (some_is x r e)
drop_suc (x ∷ xs) (suc i) r e = drop_suc xs i r e

pub drop_next : {A : Type 0} (xs : List A) (i : ℕ) (x : A) → slice_get xs i ≡ Some x → drop i xs ≡ x ∷ drop (i + 1) xs
drop_next xs i x e =
    let next : suc i ≡ i + 1 = omega arith in
    drop_suc xs i x e ∙ ap (λ k. x ∷ drop k xs) next

from_kept : (path : List ℕ) (r : Row) (rows : List Row) → is_below r.path path ≡ false → from_path path (r ∷ rows) ≡ r ∷ rows
from_kept path r rows h = ap (λ b. if b then from_path path rows else r ∷ rows) h

from_passed : (path : List ℕ) (r : Row) (rows : List Row) → is_below r.path path ≡ true → from_path path (r ∷ rows) ≡ from_path path rows
from_passed path r rows h = ap (λ b. if b then from_path path rows else r ∷ rows) h

before_none : (path : List ℕ) (r : Row) (rows : List Row) → is_below r.path path ≡ false → before path (r ∷ rows) ≡ []
before_none path r rows h = ap (λ b. if b then r ∷ before path rows else []) h

before_one : (path : List ℕ) (r : Row) (rows : List Row) → is_below r.path path ≡ true → before path (r ∷ rows) ≡ r ∷ before path rows
before_one path r rows h = ap (λ b. if b then r ∷ before path rows else []) h

pub rest_kept : (path : List ℕ) (rows : List Row) (i : ℕ) (r : Row) (all : List Row) → slice_get rows i ≡ Some r → is_below r.path path ≡ false → from_path path (drop i rows) ≡ from_path path all → drop i rows ≡ from_path path all
rest_kept path rows i r all g h e =
    drop_next rows i r g ∙ sym (from_kept path r (drop (i + 1) rows) h) ∙ ap (from_path path) (sym (drop_next rows i r g)) ∙ e

pub told_kept : (path : List ℕ) (rows : List Row) (i : ℕ) (r : Row) (told : List (List ℕ)) (want : List (List ℕ)) → slice_get rows i ≡ Some r → is_below r.path path ≡ false → told ++ paths (before path (drop i rows)) ≡ want → told ≡ want
told_kept path rows i r told want g h e =
    let none : before path (drop i rows) ≡ [] = ap (before path) (drop_next rows i r g) ∙ before_none path r (drop (i + 1) rows) h in
    sym (append-nil told) ∙ ap (λ q. told ++ paths q) (sym none) ∙ e

pub rest_passed : (path : List ℕ) (rows : List Row) (i : ℕ) (r : Row) (all : List Row) → slice_get rows i ≡ Some r → is_below r.path path ≡ true → from_path path (drop i rows) ≡ from_path path all → from_path path (drop (i + 1) rows) ≡ from_path path all
rest_passed path rows i r all g h e =
    sym (from_passed path r (drop (i + 1) rows) h) ∙ ap (from_path path) (sym (drop_next rows i r g)) ∙ e

pub told_passed : (path : List ℕ) (rows : List Row) (i : ℕ) (r : Row) (told new want : List (List ℕ)) → slice_get rows i ≡ Some r → is_below r.path path ≡ true → new ≡ told ++ r.path ∷ [] → told ++ paths (before path (drop i rows)) ≡ want → new ++ paths (before path (drop (i + 1) rows)) ≡ want
told_passed path rows i r told new want g h n e =
    let rest = before path (drop (i + 1) rows) in
    let one : before path (drop i rows) ≡ r ∷ rest = ap (before path) (drop_next rows i r g) ∙ before_one path r (drop (i + 1) rows) h in
    ap (λ q. q ++ paths rest) n ∙ append_assoc told (r.path ∷ []) (paths rest) ∙ ap (λ q. told ++ paths q) (sym one) ∙ e

pub told_next : (rows : List Row) (i : ℕ) (r : Row) (told new want : List (List ℕ)) → slice_get rows i ≡ Some r → new ≡ told ++ r.path ∷ [] → told ++ paths (drop i rows) ≡ want → new ++ paths (drop (i + 1) rows) ≡ want
told_next rows i r told new want g n e =
    let rest = drop (i + 1) rows in
    ap (λ q. q ++ paths rest) n ∙ append_assoc told (r.path ∷ []) (paths rest) ∙ ap (λ q. told ++ paths q) (sym (drop_next rows i r g)) ∙ e

pub row_other : (path : List ℕ) (now rows : List Row) (i : ℕ) (r : Row) → now ≡ drop i rows → slice_get rows i ≡ Some r → same r.path path ≡ false → (let n : Option Told = None in n ≡ option_map told_of_row (first_row path now))
row_other path now rows i r v g h =
    let one : first_row path (r ∷ drop (i + 1) rows) ≡ None = ap (λ b. if b then Some r else None) h in
    ap (option_map told_of_row) (sym one ∙ ap (first_row path) (sym (v ∙ drop_next rows i r g)))

pub rest_other : (path : List ℕ) (now rows : List Row) (i : ℕ) (r : Row) → now ≡ drop i rows → slice_get rows i ≡ Some r → same r.path path ≡ false → now ≡ behind_row path now
rest_other path now rows i r v g h =
    let next = v ∙ drop_next rows i r g in
    let one : behind_row path (r ∷ drop (i + 1) rows) ≡ r ∷ drop (i + 1) rows = ap (λ b. if b then drop (i + 1) rows else r ∷ drop (i + 1) rows) h in
    next ∙ sym one ∙ ap (behind_row path) (sym next)

pub row_found : (path : List ℕ) (now rows : List Row) (i : ℕ) (r : Row) → now ≡ drop i rows → slice_get rows i ≡ Some r → same r.path path ≡ true → (let n : Option Told = Some (told_of_row r) in n ≡ option_map told_of_row (first_row path now))
row_found path now rows i r v g h =
    let one : first_row path (r ∷ drop (i + 1) rows) ≡ Some r = ap (λ b. if b then Some r else None) h in
    ap (option_map told_of_row) (sym one ∙ ap (first_row path) (sym (v ∙ drop_next rows i r g)))

pub rest_found : (path : List ℕ) (now rows : List Row) (i : ℕ) (r : Row) → now ≡ drop i rows → slice_get rows i ≡ Some r → same r.path path ≡ true → drop (i + 1) rows ≡ behind_row path now
rest_found path now rows i r v g h =
    let one : behind_row path (r ∷ drop (i + 1) rows) ≡ drop (i + 1) rows = ap (λ b. if b then drop (i + 1) rows else r ∷ drop (i + 1) rows) h in
    sym one ∙ ap (behind_row path) (sym (v ∙ drop_next rows i r g))

pub map_next : {A B : Type 0} (f : A → B) (xs : List A) (i : ℕ) (x : A) (done new want : List B) → slice_get xs i ≡ Some x → new ≡ done ++ f x ∷ [] → done ++ map f (drop i xs) ≡ want → new ++ map f (drop (i + 1) xs) ≡ want
map_next f xs i x done new want g n e =
    let rest = drop (i + 1) xs in
    ap (λ q. q ++ map f rest) n ∙ append_assoc done (f x ∷ []) (map f rest) ∙ ap (λ q. done ++ map f q) (sym (drop_next xs i x g)) ∙ e

pub map_done : {A B : Type 0} (f : A → B) (xs : List A) (i : ℕ) (done want : List B) → drop i xs ≡ [] → done ++ map f (drop i xs) ≡ want → done ≡ want
map_done f xs i done want none e =
    sym (append-nil done) ∙ ap (λ q. done ++ map f q) (sym none) ∙ e

pub drop_end : {A : Type 0} (xs : List A) (i : ℕ) → length xs ≤ i → drop i xs ≡ []
drop_end [] zero h = refl
drop_end [] (suc i) h = refl
drop_end (x ∷ xs) zero h = absurd (omega arith)
drop_end (x ∷ xs) (suc i) h = drop_end xs i (omega (arith, h))
