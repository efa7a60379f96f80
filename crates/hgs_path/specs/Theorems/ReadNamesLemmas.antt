-- Each name that is read of a list has the form of one.
use Rattle.std.proofs.Common.{◌≡◌, ℕ, ◌+◌, List, [], ◌∷◌, Bool, true, false, cond, ◌&&◌, refl, subst}
use Rattle.std.specs.Prelude.{Result, Ok, Err}
use Rattle.std.specs.List.{AllByRecursion}
use Rattle.hgs_bytes.specs.Text.{Line as TextLine}
use Rattle.hgs_path.specs.declared.fncache.FncacheFault.{FncacheFault}
use Rattle.hgs_path.specs.declared.fncache.FncacheFault.TheVariants.{Line}
use Rattle.hgs_path.specs.ListedNames.{is_listed, names_from, with_name}

and-right : (a b : Bool) → (a && b) ≡ true → b ≡ true
and-right true b e = e
and-right false b e = absurd (no e)
  where
    no : false ≡ true → ⊥
    no h = cc

pub names-listed : (n : ℕ) (ls : List TextLine) (names : List (List ℕ)) → names_from n ls ≡ Ok names → AllByRecursion (λ name. is_listed name ≡ true) names
names-listed n [] names e = subst (AllByRecursion (λ name. is_listed name ≡ true)) (none names e) tt
  where
    none : (names : List (List ℕ)) → ◌≡◌ {A = Result (List (List ℕ)) FncacheFault} (Ok []) (Ok names) → [] ≡ names
    none names h = cc
names-listed n (l ∷ ls) names e = by (names-listed (n + 1) ls) (l.1 && is_listed l.0) refl (names_from (n + 1) ls) refl e
  where
    joined : (more : List (List ℕ)) → ◌≡◌ {A = Result (List (List ℕ)) FncacheFault} (Ok (l.0 ∷ more)) (Ok names) → l.0 ∷ more ≡ names
    joined more h = cc

    by : ((more : List (List ℕ)) → names_from (n + 1) ls ≡ Ok more → AllByRecursion (λ name. is_listed name ≡ true) more) → (b : Bool) → (l.1 && is_listed l.0) ≡ b → (rest : Result (List (List ℕ)) FncacheFault) → names_from (n + 1) ls ≡ rest → cond b (with_name l.0 rest) (Err (Line n)) ≡ Ok names → AllByRecursion (λ name. is_listed name ≡ true) names
    by rec false t rest r h = cc
    by rec true t (Err f) r h = cc
    by rec true t (Ok more) r h = subst (AllByRecursion (λ name. is_listed name ≡ true)) (joined more h) (and-right l.1 (is_listed l.0) t, rec more r)
