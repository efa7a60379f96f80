-- Listed names, one after another.
use Rattle.std.proofs.Common.{◌≡◌, ℕ, ◌+◌, ◌≤◌, List, [], ◌∷◌, ◌++◌, Bool, true, false, cond, ◌&&◌, Result, Ok, Err, length, take, append_assoc, append-nil, refl, sym, ◌∙◌, ap, arith}
use Rattle.std.specs.Prelude.{codes}
use Rattle.std.proofs.lemmas.List.{length-take}
use Rattle.std.specs.Cmp.Lexicographic.{bytes_decides}
use Rattle.hgs_bytes.specs.Bytes.{begins_with}
use Rattle.hgs_path.specs.declared.fncache.FncacheFault.{FncacheFault}
use Rattle.hgs_path.specs.declared.fncache.FncacheFault.TheVariants.{Line}
use Rattle.hgs_path.specs.ListedNames.{is_listed, names_from, with_name}

abbrev pub names_onto : List (List ℕ) → Result (List (List ℕ)) FncacheFault → Result (List (List ℕ)) FncacheFault
names_onto front (Ok names) = Ok (front ++ names)
names_onto front (Err fault) = Err fault

name-onto : (front : List (List ℕ)) (name : List ℕ) (r : Result (List (List ℕ)) FncacheFault) → names_onto (front ++ name ∷ []) r ≡ names_onto front (with_name name r)
name-onto front name (Ok names) = ap Ok (append_assoc front (name ∷ []) names)
name-onto front name (Err e) = refl

pub first_names : (r : Result (List (List ℕ)) FncacheFault) → names_onto [] r ≡ r
first_names (Ok names) = refl
first_names (Err e) = refl

pub all_names : (front : List (List ℕ)) → names_onto front (Ok []) ≡ Ok front
all_names front = ap Ok (append-nil front)

pub one_name : (front : List (List ℕ)) (n : ℕ) (name : List ℕ) (ls : List (List ℕ × Bool)) → is_listed name ≡ true → names_onto (front ++ name ∷ []) (names_from (n + 1) ls) ≡ names_onto front (names_from n ((name, true) ∷ ls))
one_name front n name ls h = name-onto front name (names_from (n + 1) ls) ∙ ap (λ t. names_onto front (cond t (with_name name (names_from (n + 1) ls)) (Err (Line n)))) (sym h)

pub no_name : (front : List (List ℕ)) (n : ℕ) (name : List ℕ) (whole : Bool) (ls : List (List ℕ × Bool)) → (whole && is_listed name) ≡ false → names_onto front (names_from n ((name, whole) ∷ ls)) ≡ Err (Line n)
no_name front n name whole ls h = ap (λ t. names_onto front (cond t (with_name name (names_from (n + 1) ls)) (Err (Line n)))) h

both : (a b : Bool) → (a && b) ≡ true → a ≡ true
both true b e = refl
both false b e = e

-- `data/` has five bytes
pub listed_length : (name : List ℕ) → is_listed name ≡ true → 5 ≤ length name
listed_length name h =
    let front = ap length ((bytes_decides (codes "data/") (take 5 name)).0 (both (begins_with name (codes "data/")) _ h)) in
    let short = length-take 5 name in
    omega (arith, front, short)
