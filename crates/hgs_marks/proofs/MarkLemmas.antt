-- Bookmarks in their places.
use Rattle.std.proofs.Common.{◌≡◌, ℕ, ◌+◌, Bool, List, ◌∷◌, Result, Ok, Err, refl, sym, ◌∙◌, ap}
use Rattle.hgs_bytes.specs.Text.{lines_of}
use Rattle.hgs_marks.specs.declared.fault.MarkFault.{MarkFault}
use Rattle.hgs_marks.specs.Bookmarks.{Mark, mark_of, mark_then, marks_from, all_with, with_mark}

then_all : (marks : List Mark) (m : Mark) (r : Result (List Mark) MarkFault) → all_with marks (mark_then (Ok m) r) ≡ all_with (with_mark marks m) r
then_all marks m (Ok more) = refl
then_all marks m (Err e) = refl

-- what the bookmarks so far and the lines behind them give
abbrev pub all_of : List Mark → ℕ → List ℕ → Result (List Mark) MarkFault
all_of marks n rest = all_with marks (marks_from n (lines_of rest))

pub one_mark : (marks new : List Mark) (m : Mark) (n k : ℕ) (rest line after : List ℕ) (whole : Bool) (all : Result (List Mark) MarkFault) → all_of marks n rest ≡ all → lines_of rest ≡ (line, whole) ∷ lines_of after → k ≡ n + 1 →
    Ok m ≡ mark_of k line → new ≡ with_mark marks m → all_of new k after ≡ all
one_mark marks new m n k rest line after whole all inv lines count read is =
    ap (λ ms. all_of ms k after) is ∙ sym (then_all marks m (marks_from k (lines_of after)))
    ∙ ap (λ r. all_with marks (mark_then r (marks_from k (lines_of after)))) read
    ∙ ap (λ j. all_with marks (mark_then (mark_of j line) (marks_from j (lines_of after)))) count
    ∙ ap (λ ls. all_with marks (marks_from n ls)) (sym lines) ∙ inv

pub one_fault : (marks : List Mark) (n k : ℕ) (e : MarkFault) (rest line after : List ℕ) (whole : Bool) (all : Result (List Mark) MarkFault) → all_of marks n rest ≡ all → lines_of rest ≡ (line, whole) ∷ lines_of after → k ≡ n + 1 →
    Err e ≡ mark_of k line → all ≡ Err e
one_fault marks n k e rest line after whole all inv lines count read =
    sym inv ∙ ap (λ ls. all_with marks (marks_from n ls)) lines
    ∙ ap (λ j. all_with marks (mark_then (mark_of j line) (marks_from j (lines_of after)))) (sym count)
    ∙ ap (λ r. all_with marks (mark_then r (marks_from k (lines_of after)))) (sym read)
