-- What a load asks once the first files were read.
use Rattle.std.proofs.Common.{◌≡◌, Bor, ℕ, zero, suc, ◌<◌, Bool, true, false, List, Option, Some, None, Result, Err, refl, sym, ap, subst, arith}
use Rattle.std.specs.Prelude.{is_some, ⊤}
use Rattle.std.specs.Bool.{MatchBool}
use Rattle.std.specs.Option.{ForNone, option_map}
use Rattle.hgs_marks.specs.Bookmarks.{Mark}
use Rattle.hgs_phases.specs.declared.roots.Root.{Root}
use Rattle.hgs_revlog.specs.Log.{Log}
use Rattle.hgs_load.specs.declared.answer.ReadAnswer.{ReadAnswer}
use Rattle.hgs_load.specs.declared.marks.WorkingNodes.{WorkingNodes}
use Rattle.hgs_load.specs.declared.pieces.Former.{Former}
use Rattle.hgs_load.specs.declared.pieces.Turn.{Turn}
use Rattle.hgs_load.specs.declared.pieces.Turn.TheVariants.{First, Piece, Once}
use Rattle.hgs_load.specs.Answer.{is_of_outside}
use Rattle.hgs_load.specs.Asks.{Asks, answer, then_asks}
use Rattle.hgs_load.specs.Load.{left_to_ask, next_place, next_most, asks_unless, asks_from, HasEnded, AsksFor, IsNext, rest_of}
use Rattle.hgs_load.specs.declared.load.LoadNext.TheVariants.{Read}
use Rattle.hgs_load.proofs.FeedLemmas.{next-then}
use Rattle.hgs_load.specs.Marks.{nodes_of, roots_answer}
use Rattle.hgs_load.specs.Open.{most_roots, roots_asks, view_of}
use Rattle.hgs_load.specs.View.{View, changelog_index}
use Rattle.hgs_load.specs.Whole.{within}

-- the index is asked for where it was not read to its end
pub piece_asked : (turn : Turn) (former : Former) (required : Bool) (marks : Option (List Mark)) (nodes : Option WorkingNodes) (left : ℕ) (bytes : List ℕ) (log : Option Log) (loaded : Option View) (part : Option (List ℕ)) →
    required ≡ true → is_some marks ≡ true → is_some nodes ≡ true → loaded ≡ None → is_some log ≡ false → ForNone log (0 < left) →
    AsksFor (asks_unless loaded (asks_from required marks (option_map nodes_of nodes) (left_to_ask turn former left bytes log))) part → AsksFor (left_to_ask turn former left bytes log) part
piece_asked turn former false marks nodes left bytes log loaded part r m n s l some asked = cc
piece_asked turn former true None nodes left bytes log loaded part r m n s l some asked = cc
piece_asked turn former true (Some ms) None left bytes log loaded part r m n s l some asked = cc
piece_asked turn former true (Some ms) (Some ns) left bytes log (Some v) part r m n s l some asked = cc
piece_asked turn former true (Some ms) (Some ns) left bytes (Some x) None part r m n s l some asked = cc
piece_asked turn former true (Some ms) (Some ns) zero bytes None None part r m n s l some asked = let h = some refl in absurd (omega (arith, h))
piece_asked First former true (Some ms) (Some ns) (suc left) bytes None None part r m n s l some asked = asked
piece_asked Piece former true (Some ms) (Some ns) (suc left) bytes None None part r m n s l some asked = asked
piece_asked Once former true (Some ms) (Some ns) (suc left) bytes None None part r m n s l some asked = asked

either : (b : Bool) (P Q : Type 0) → (P → Q) → MatchBool b ⊤ P → MatchBool b ⊤ Q
either true P Q f m = tt
either false P Q f m = f m

-- the phase roots are refused
pub roots_refused : (turn : Turn) (former : Former) (required : Bool) (marks : Option (List Mark)) (nodes : Option WorkingNodes) (left : ℕ) (bytes : List ℕ) (log : Option Log) (loaded : Option View) (part : Option (List ℕ)) (e : ReadAnswer) →
    required ≡ true → is_some marks ≡ true → is_some nodes ≡ true → loaded ≡ None → is_some log ≡ true →
    MatchBool (is_of_outside e) ⊤ (within most_roots roots_answer part ≡ Err e) →
    MatchBool (is_of_outside e) ⊤ (rest_of (asks_unless loaded (asks_from required marks (option_map nodes_of nodes) (left_to_ask turn former left bytes log))) part ≡ answer (Err e))
roots_refused turn former false marks nodes left bytes log loaded part e r m n s l h = cc
roots_refused turn former true None nodes left bytes log loaded part e r m n s l h = cc
roots_refused turn former true (Some ms) None left bytes log loaded part e r m n s l h = cc
roots_refused turn former true (Some ms) (Some ns) left bytes log (Some v) part e r m n s l h = cc
roots_refused turn former true (Some ms) (Some ns) left bytes None None part e r m n s l h = cc
roots_refused turn former true (Some ms) (Some ns) left bytes (Some x) None part e r m n s l h =
    let more : List Root → Asks (Result View ReadAnswer) = λ roots. answer (view_of ms (nodes_of ns) x roots) in
    either (is_of_outside e) _ _ (λ k. ap (λ given. then_asks (answer given) more) k) h

-- a load that has loaded nothing has not ended
pub not_ended : (turn : Turn) (former : Former) (required : Bool) (marks : Option (List Mark)) (nodes : Option WorkingNodes) (left : ℕ) (bytes : List ℕ) (log : Option Log) (loaded : Option View) →
    ForNone log (0 < left) → loaded ≡ None → HasEnded (asks_unless loaded (asks_from required marks (option_map nodes_of nodes) (left_to_ask turn former left bytes log))) → ⊥
not_ended turn former required marks nodes left bytes log (Some v) some s ended = cc
not_ended turn former false marks nodes left bytes log None some s ended = ended
not_ended turn former true None nodes left bytes log None some s ended = ended
not_ended turn former true (Some ms) None left bytes log None some s ended = ended
not_ended turn former true (Some ms) (Some ns) left bytes (Some x) None some s ended = ended
not_ended turn former true (Some ms) (Some ns) zero bytes None None some s ended = let h = some refl in omega (arith, h)
not_ended First former true (Some ms) (Some ns) (suc left) bytes None None some s ended = ended
not_ended Piece former true (Some ms) (Some ns) (suc left) bytes None None some s ended = ended
not_ended Once former true (Some ms) (Some ns) (suc left) bytes None None some s ended = ended

-- what is asked for next of an index
next_is : (turn : Turn) (former : Former) (left : ℕ) (bytes : List ℕ) (log : Option Log) (path : Bor (List ℕ)) → ForNone log (0 < left) → log ≡ None → path.now ≡ changelog_index → IsNext (left_to_ask turn former left bytes log) (Read path (next_place turn former bytes) (next_most turn))
next_is turn former left bytes (Some l) path some none p = cc
next_is First former zero bytes None path some none p = let h = some refl in absurd (omega (arith, h))
next_is Piece former zero bytes None path some none p = let h = some refl in absurd (omega (arith, h))
next_is Once former zero bytes None path some none p = (p, refl, refl)
next_is First former (suc left) bytes None path some none p = (p, refl, refl)
next_is Piece former (suc left) bytes None path some none p = (p, refl, refl)
next_is Once former (suc left) bytes None path some none p = (p, refl, refl)

pub next_index : (turn : Turn) (former : Former) (required : Bool) (marks : Option (List Mark)) (nodes : Option WorkingNodes) (left : ℕ) (bytes : List ℕ) (log : Option Log) (loaded : Option View) (path : Bor (List ℕ)) (from most : ℕ) →
    required ≡ true → is_some marks ≡ true → is_some nodes ≡ true → loaded ≡ None → ForNone log (0 < left) → log ≡ None → path.now ≡ changelog_index → from ≡ next_place turn former bytes → most ≡ next_most turn →
    IsNext (asks_unless loaded (asks_from required marks (option_map nodes_of nodes) (left_to_ask turn former left bytes log))) (Read path from most)
next_index turn former false marks nodes left bytes log loaded path from most r m n s some l p f k = cc
next_index turn former true None nodes left bytes log loaded path from most r m n s some l p f k = cc
next_index turn former true (Some ms) None left bytes log loaded path from most r m n s some l p f k = cc
next_index turn former true (Some ms) (Some ns) left bytes log (Some v) path from most r m n s some l p f k = cc
next_index turn former true (Some ms) (Some ns) left bytes log None path from most r m n s some l p f k =
    let P : ℕ → Type 0 = λ a. IsNext (left_to_ask turn former left bytes log) (Read path a most) in
    let Q : ℕ → Type 0 = λ a. IsNext (left_to_ask turn former left bytes log) (Read path (next_place turn former bytes) a) in
    next-then (left_to_ask turn former left bytes log) (λ log. then_asks roots_asks (λ roots. answer (view_of ms (nodes_of ns) log roots))) path from most
    (subst P (sym f) (subst Q (sym k) (next_is turn former left bytes log path some l p)))
