-- A loop's next item, and a fault in place of it.
use Rattle.std.proofs.Common.{◌≡◌, ℕ, zero, suc, ◌-◌, ◌<◌, ◌≤◌, Bool, true, false, List, [], ◌∷◌, ◌++◌, length, Some, None, Result, Ok, Err, refl, sym, ◌∙◌, ap, arith}
use Rattle.std.specs.Prelude.{⊤}
use Rattle.std.specs.Bool.{MatchBool}
use Rattle.hgs_model.specs.declared.files.NewFile.{NewFile}
use Rattle.hgs_input.specs.declared.fault.InputFault.{InputFault}
use Rattle.hgs_bytes.specs.Text.{split}
use Rattle.hgs_input.specs.Read.{Rest, Reading, ◌>>=◌, bad_at, line_or_cut, optional_at, optional, parent_of, more, parents_from, copyfrom_of, next_file, files_from, is_memory}
use Rattle.hgs_input.proofs.FoundLemmas.{line_behind}

-- the fault that the definition gives, where want of memory is free
abbrev pub Refused : {A : Type 0} → InputFault → Result A InputFault → Type 0
Refused e answer = MatchBool (is_memory e) ⊤ (answer ≡ Err e)

free : (b : Bool) (P Q : Type 0) → (P → Q) → MatchBool b ⊤ P → MatchBool b ⊤ Q
free true P Q f h = tt
free false P Q f h = f h

pub bound_refused : {A B : Type 0} (e : InputFault) (answer : Result A InputFault) (f : A → Result B InputFault) (all : Result B InputFault) → (answer >>= f) ≡ all → Refused e answer → Refused e all
bound_refused e answer f all is h = free (is_memory e) (answer ≡ Err e) (all ≡ Err e) (λ k. sym is ∙ ap (λ a. a >>= f) k) h

pub parent_refused : (names : List (List ℕ)) (r : Rest) (e : InputFault) (all : Reading (List (List ℕ))) → length names < 2 → parents_from (2 - length names) names r ≡ all → Refused e (optional parent_of r) → Refused e all
parent_refused names r e all few is h =
    let n = 1 - length names in
    let one : suc n ≡ 2 - length names = omega (arith, few) in
    bound_refused e (optional parent_of r) (λ p. more names p.0 p.1 (λ all rest. parents_from n all rest)) all (ap (λ k. parents_from k names r) one ∙ is) h

-- ---- files

pub nil_from_length : (xs : List ℕ) → length xs ≤ 0 → xs ≡ []
nil_from_length [] h = refl
nil_from_length (x ∷ xs) h = absurd (omega arith)

-- where the bytes are at an end, the next line is cut
pub at_end : (files : List NewFile) (r : Rest) → r.bytes ≡ [] → next_file files r ≡ Err (bad_at r.whole)
at_end files r h = ap (λ s. (line_or_cut r s >>= λ l. optional_at r (copyfrom_of l.0) l.1) >>= λ from. line_behind files from.0 from.1) (ap (split 10) h)

abbrev with_file : ℕ → List NewFile → Rest → Reading (List NewFile)
with_file n files r = next_file files r >>= λ p. more files p.0 p.1 (λ all rest. files_from n all rest)

files_step : (n m : ℕ) (files : List NewFile) (r : Rest) → length r.bytes ≤ n → m ≡ n - 1 → files_from n files r ≡ with_file m files r
files_step zero m files r room e = sym (ap (λ x. x >>= λ p. more files p.0 p.1 (λ all rest. files_from m all rest)) (at_end files r (nil_from_length r.bytes room)))
files_step (suc n) m files r room e = let k : n ≡ m = omega (arith, e) in ap (λ j. with_file j files r) k

pub file_refused : (n : ℕ) (files : List NewFile) (r : Rest) (e : InputFault) (all : Reading (List NewFile)) → length r.bytes ≤ n → files_from n files r ≡ all → Refused e (next_file files r) → Refused e all
file_refused n files r e all room is h = bound_refused e (next_file files r) (λ p. more files p.0 p.1 (λ all rest. files_from (n - 1) all rest)) all (sym (files_step n (n - 1) files r room refl) ∙ is) h

pub files_end : (n : ℕ) (files : List NewFile) (r rest : Rest) (all : Reading (List NewFile)) → length r.bytes ≤ n → files_from n files r ≡ all → next_file files r ≡ Ok (None, rest) → all ≡ Ok (files, rest)
files_end n files r rest all room is e = sym is ∙ files_step n (n - 1) files r room refl ∙ ap (λ x. x >>= λ p. more files p.0 p.1 (λ all rest. files_from (n - 1) all rest)) e

pub file_more : (n m : ℕ) (files new : List NewFile) (f : NewFile) (r rest : Rest) (all : Reading (List NewFile)) → length r.bytes ≤ n → m ≡ n - 1 → files_from n files r ≡ all → next_file files r ≡ Ok (Some f, rest) → new ≡ files ++ f ∷ [] → files_from m new rest ≡ all
file_more n m files new f r rest all room k is e new_is =
    ap (λ fs. files_from m fs rest) new_is
    ∙ sym (ap (λ x. x >>= λ p. more files p.0 p.1 (λ all rest. files_from m all rest)) e) ∙ sym (files_step n m files r room k) ∙ is
