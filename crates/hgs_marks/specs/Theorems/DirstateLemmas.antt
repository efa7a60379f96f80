-- Entries, one after another.
use Rattle.std.proofs.Common.{◌≡◌, ◌<◌, ◌≤◌, ℕ, zero, suc, ◌-◌, Bool, true, false, List, [], ◌∷◌, ◌++◌, length, Result, Ok, Err, refl, sym, ◌∙◌, ap, cond, arith, append_assoc}
use Rattle.std.specs.Prelude.{◌==◌}
use Rattle.std.proofs.lemmas.List.{append-nil}
use Rattle.hgs_marks.specs.declared.fault.MarkFault.{MarkFault}
use Rattle.hgs_marks.specs.Dirstate.{Entry, next_entry, entry_then, entry_and_more, entries_from, entry_path, tracked, paths_with}

not_zero : (n : ℕ) → 0 < n → (n == 0) ≡ false
not_zero n h = grind arith

-- what the paths so far and the entries behind them give
abbrev pub AllPaths : List (List ℕ) → ℕ → List ℕ → Result (List (List ℕ)) MarkFault → Type 0
AllPaths paths len rest all = (n : ℕ) × (length rest ≤ n) × (paths_with paths (entries_from n len rest) ≡ all)

more_tracked : (b : Bool) (paths : List (List ℕ)) (path : List ℕ) (more : List (List ℕ)) → paths ++ cond b more (path ∷ more) ≡ (paths ++ cond b [] (path ∷ [])) ++ more
more_tracked true paths path more = sym (append_assoc paths [] more)
more_tracked false paths path more = sym (append_assoc paths (path ∷ []) more)

then_paths : (paths : List (List ℕ)) (e : Entry) (r : Result (List Entry) MarkFault) → paths_with paths (entry_then e r) ≡ paths_with (paths ++ tracked (e ∷ [])) r
then_paths paths e (Ok es) = ap (λ l. Ok l) (more_tracked (e.state == 114) paths (entry_path e) (tracked es))
then_paths paths e (Err f) = refl

pub one_step : (n len : ℕ) (rest : List ℕ) → 0 < length rest → entries_from (suc n) len rest ≡ entry_and_more (next_entry (len - length rest) rest) (λ r. entries_from n len r)
one_step n len rest h = rw (not_zero (length rest) h)

pub one_entry : (paths new : List (List ℕ)) (e : Entry) (len : ℕ) (rest behind : List ℕ) (all : Result (List (List ℕ)) MarkFault) → 0 < length rest → length behind < length rest → AllPaths paths len rest all →
    Ok (e, behind) ≡ next_entry (len - length rest) rest → new ≡ paths ++ tracked (e ∷ []) → AllPaths new len behind all
one_entry paths new e len rest behind all some shorter (zero, few, inv) read is = absurd (omega arith)
one_entry paths new e len rest behind all some shorter (suc n, few, inv) read is = (
  n,
  omega (arith, few, shorter),
  ap (λ ps. paths_with ps (entries_from n len behind)) is ∙ sym (then_paths paths e (entries_from n len behind))
      ∙ ap (λ r. paths_with paths (entry_and_more r (λ b. entries_from n len b))) read
      ∙ ap (paths_with paths) (sym (one_step n len rest some)) ∙ inv,
)

pub entry_refused : (paths : List (List ℕ)) (f : MarkFault) (len : ℕ) (rest : List ℕ) (all : Result (List (List ℕ)) MarkFault) → 0 < length rest → AllPaths paths len rest all →
    Err f ≡ next_entry (len - length rest) rest → all ≡ Err f
entry_refused paths f len rest all some (zero, few, inv) read = absurd (omega arith)
entry_refused paths f len rest all some (suc n, few, inv) read =
    sym inv ∙ ap (paths_with paths) (one_step n len rest some) ∙ ap (λ r. paths_with paths (entry_and_more r (λ b. entries_from n len b))) (sym read)

pub no_more : (paths : List (List ℕ)) (len : ℕ) (rest : List ℕ) (all : Result (List (List ℕ)) MarkFault) → length rest ≡ 0 → AllPaths paths len rest all → all ≡ Ok paths
no_more paths len [] all none (zero, few, inv) = sym inv ∙ ap (λ l. Ok l) (append-nil paths)
no_more paths len [] all none (suc n, few, inv) = sym inv ∙ ap (λ l. Ok l) (append-nil paths)
no_more paths len (x ∷ rest) all none s = absurd (omega arith)
