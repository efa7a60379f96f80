-- The roots of lines, one after another.
use Rattle.std.proofs.Common.{◌≡◌, ℕ, ◌+◌, Bool, List, [], ◌∷◌, ◌++◌, Some, None, Result, Ok, Err, refl, sym, ◌∙◌, ap, append_assoc}
use Rattle.hgs_bytes.specs.Text.{lines_of}
use Rattle.hgs_phases.specs.declared.fault.RootsFault.{RootsFault}
use Rattle.hgs_phases.specs.declared.fault.RootsFault.TheVariants.{Line}
use Rattle.hgs_phases.specs.declared.roots.Root.{Root}
use Rattle.hgs_phases.specs.Roots.{root_of, with_root, root_then, roots_from}

-- roots that stand before
abbrev pub with_front : List Root → Result (List Root) RootsFault → Result (List Root) RootsFault
with_front front (Ok roots) = Ok (front ++ roots)
with_front front (Err e) = Err e

front_more : (front : List Root) (r : Root) (x : Result (List Root) RootsFault) → with_front front (with_root r x) ≡ with_front (front ++ r ∷ []) x
front_more front r (Ok rs) = ap (λ l. Ok l) (sym (append_assoc front (r ∷ []) rs))
front_more front r (Err e) = refl

-- what the roots so far and the lines behind them give
abbrev pub all_of : List Root → ℕ → List ℕ → Result (List Root) RootsFault
all_of roots n rest = with_front roots (roots_from n (lines_of rest))

pub one_root : (roots new : List Root) (r : Root) (n k : ℕ) (rest line after : List ℕ) (whole : Bool) (all : Result (List Root) RootsFault) → all_of roots n rest ≡ all → lines_of rest ≡ (line, whole) ∷ lines_of after → k ≡ n + 1 →
    Some r ≡ root_of line → new ≡ roots ++ r ∷ [] → all_of new k after ≡ all
one_root roots new r n k rest line after whole all inv lines count read is =
    ap (λ rs. all_of rs k after) is ∙ sym (front_more roots r (roots_from k (lines_of after)))
    ∙ ap (λ o. with_front roots (root_then k o (roots_from k (lines_of after)))) read
    ∙ ap (λ j. with_front roots (root_then j (root_of line) (roots_from j (lines_of after)))) count
    ∙ ap (λ ls. with_front roots (roots_from n ls)) (sym lines) ∙ inv

pub root_refused : (roots : List Root) (n k : ℕ) (rest line after : List ℕ) (whole : Bool) (all : Result (List Root) RootsFault) → all_of roots n rest ≡ all → lines_of rest ≡ (line, whole) ∷ lines_of after → k ≡ n + 1 →
    None ≡ root_of line → all ≡ Err (Line k)
root_refused roots n k rest line after whole all inv lines count read =
    sym inv ∙ ap (λ ls. with_front roots (roots_from n ls)) lines
    ∙ ap (λ j. with_front roots (root_then j (root_of line) (roots_from j (lines_of after)))) (sym count)
    ∙ ap (λ o. with_front roots (root_then k o (roots_from k (lines_of after)))) (sym read)
