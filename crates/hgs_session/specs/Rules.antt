-- The rule of a session's history, and what the step that adds to it tells.
use Rattle.std.specs.Prelude.{ℕ, ◌≡◌, ◌==◌, true, List, [], ◌∷◌, ◌++◌, length, MatchBool}
use Rattle.logbook.specs.Pages.{Cell, Step, View, Book, Named}

-- The first word is the length of the history. A book has two words, of which this one leaves the second at 0.
pub record IsKept {E : Type 0} (cells : List Cell) (log : List E) : Type 0 where
  pub words : cells ≡ (length log, true) ∷ (0, true) ∷ []

abbrev pub head_of : Book → Named
head_of b = record { tracked = true; key = 0; book = b }

-- where the length was found that was expected, the entry was added to all that had been seen
abbrev pub Added : {E : Type 0} → Step E → View E ℕ → ℕ → View E ℕ → Type 0
Added s v found w = MatchBool (found == s.old) (w.0 ≡ v.0 ++ s.ask ∷ []) (Unit {0})
