-- What is left to ask once a piece of the index was read.
use Rattle.std.proofs.Common.{◌≡◌, Bor, ℕ, zero, suc, ◌-◌, ◌<◌, Bool, true, false, cond, List, [], ◌++◌, length, Option, Some, None, Result, Ok, Err, refl, sym, ◌∙◌, ap, subst, arith}
use Rattle.std.specs.Prelude.{unwrap_or, nat_lt, ◌||◌, ◌==◌, ⊤}
use Rattle.hgs_bytes.specs.Theorems.TextLemmas.{number_is}
use Rattle.std.specs.Bool.{MatchBool}
use Rattle.std.specs.Option.{ForNone}
use Rattle.hgs_index.specs.declared.kinds.Which.TheVariants.{Part}
use Rattle.hgs_index.specs.Inline.{is_inline}
use Rattle.hgs_revlog.specs.Log.{Log}
use Rattle.hgs_load.specs.declared.answer.ReadAnswer.{ReadAnswer}
use Rattle.hgs_load.specs.Answer.{is_of_outside}
use Rattle.hgs_load.specs.Asks.{Asks, answer, read, then_asks}
use Rattle.hgs_load.specs.View.{changelog_index, piece_length, most_pieces, pieces_by, pieces_from}
use Rattle.hgs_load.specs.Form.{most_inline_index, is_long_apart, unless_inline}
use Rattle.hgs_load.specs.Load.{left_to_ask, asks_once, first_turn, former_of, history_read, pieces_left, place_behind, asks_behind, reads_next, IsNext, AsksFor, rest_of, Feeds, Finishes, HasEnded}
use Rattle.hgs_load.specs.Whole.{is_above, within}
use Rattle.hgs_load.specs.Refresh.{behind_asks, behind_last, inline_whole_asks, last_place, log_on, newer_log_asks, whole_log_asks}
use Rattle.hgs_load.specs.declared.load.LoadNext.TheVariants.{Read}
use Rattle.hgs_load.specs.declared.answer.ReadAnswer.TheVariants.{Limit}
use Rattle.hgs_load.specs.declared.pieces.Turn.{Turn}
use Rattle.hgs_load.specs.declared.pieces.Turn.TheVariants.{First, Piece, Once}
use Rattle.hgs_load.specs.declared.pieces.Former.{Former}
use Rattle.hgs_load.specs.declared.pieces.Former.TheVariants.{Whole, Last}

is_one : (n : ℕ) → (n == 1) ≡ true → n ≡ 1
is_one n h = number_is n 1 h

neither : (a b : Bool) → (a || b) ≡ false → a ≡ false
neither true b h = cc
neither false b h = refl

other : (a b : Bool) → (a || b) ≡ true → a ≡ false → b ≡ true
other true b h e = cc
other false b h e = h

-- a whole piece, and more pieces may come
piece_goes_on : (former : Former) (left : ℕ) (index new piece : List ℕ) (part : Option (List ℕ)) (log : Option Log) → AsksFor (left_to_ask Piece former left index log) part → ForNone log (0 < left) → piece ≡ unwrap_or part [] →
    (nat_lt (length piece) piece_length || left == 1) ≡ false → new ≡ index ++ piece → left_to_ask Piece former (left - 1) new log ≡ rest_of (left_to_ask Piece former left index log) part
piece_goes_on former left index new piece part (Some l) asked some p whole n = absurd asked
piece_goes_on former zero index new piece part None asked some p whole n = let h = some refl in absurd (omega (arith, h))
piece_goes_on former (suc left) index new piece part None asked some p whole n =
    let place = place_behind former in
    let more = asks_behind former in
    let e : suc left - 1 ≡ left = omega arith in
    ap (λ k. pieces_by changelog_index place k new more) e
    ∙ ap (λ b. pieces_by changelog_index place left b more) (n ∙ ap (λ q. index ++ q) p)
    ∙ sym (ap (λ t. cond t (more (index ++ unwrap_or part [])) (pieces_by changelog_index place left (index ++ unwrap_or part []) more)) (ap (λ q. nat_lt (length q) piece_length) (sym p) ∙ neither (nat_lt (length piece) piece_length) (suc left == 1) whole))

pub goes_on : (turn : Turn) (former : Former) (left : ℕ) (index new piece : List ℕ) (part : Option (List ℕ)) (log : Option Log) → turn ≡ Piece → AsksFor (left_to_ask turn former left index log) part → ForNone log (0 < left) → piece ≡ unwrap_or part [] →
    (nat_lt (length piece) piece_length || left == 1) ≡ false → new ≡ index ++ piece → left_to_ask turn former (left - 1) new log ≡ rest_of (left_to_ask turn former left index log) part
goes_on turn former left index new piece part log is asked some p whole n =
    let P : Turn → Type 0 = λ t. AsksFor (left_to_ask t former left index log) part in
    let Q : Turn → Type 0 = λ t. left_to_ask t former (left - 1) new log ≡ rest_of (left_to_ask t former left index log) part in
    subst Q (sym is) (piece_goes_on former left index new piece part log (subst P is asked) some p whole n)

last_step : (place : List ℕ → ℕ) (more : List ℕ → Asks (Result Log ReadAnswer)) (t : Bool) (left : ℕ) (bytes : List ℕ) → (t ≡ false → suc left ≡ 1) → cond t (more bytes) (pieces_by changelog_index place left bytes more) ≡ more bytes
last_step place more true left bytes h = refl
last_step place more false left bytes h = let z : left ≡ 0 = (let k = h refl in omega (arith, k)) in ap (λ k. pieces_by changelog_index place k bytes more) z

-- the last piece
one_last_piece : (former : Former) (left : ℕ) (index new piece : List ℕ) (part : Option (List ℕ)) (log : Option Log) → AsksFor (left_to_ask Piece former left index log) part → ForNone log (0 < left) → piece ≡ unwrap_or part [] → new ≡ index ++ piece →
    (nat_lt (length piece) piece_length || left == 1) ≡ true → rest_of (left_to_ask Piece former left index log) part ≡ asks_behind former new
one_last_piece former left index new piece part (Some l) asked some p n last = absurd asked
one_last_piece former zero index new piece part None asked some p n last = let h = some refl in absurd (omega (arith, h))
one_last_piece former (suc left) index new piece part None asked some p n last =
    let more = asks_behind former in
    let same : index ++ unwrap_or part [] ≡ new = ap (λ q. index ++ q) (sym p) ∙ sym n in
    last_step (place_behind former) more (nat_lt (length (unwrap_or part [])) piece_length) left (index ++ unwrap_or part [])
    (λ h. is_one (suc left) (other (nat_lt (length piece) piece_length) (suc left == 1) last (ap (λ q. nat_lt (length q) piece_length) p ∙ h)))
    ∙ ap more same

pub last_piece : (turn : Turn) (former : Former) (left : ℕ) (index new piece : List ℕ) (part : Option (List ℕ)) (log : Option Log) → turn ≡ Piece → AsksFor (left_to_ask turn former left index log) part → ForNone log (0 < left) → piece ≡ unwrap_or part [] → new ≡ index ++ piece →
    (nat_lt (length piece) piece_length || left == 1) ≡ true → rest_of (left_to_ask turn former left index log) part ≡ asks_behind former new
last_piece turn former left index new piece part log is asked some p n last =
    let P : Turn → Type 0 = λ t. AsksFor (left_to_ask t former left index log) part in
    let Q : Turn → Type 0 = λ t. rest_of (left_to_ask t former left index log) part ≡ asks_behind former new in
    subst Q (sym is) (one_last_piece former left index new piece part log (subst P is asked) some p n last)

pub either : (b : Bool) (P Q : Type 0) → (P → Q) → MatchBool b ⊤ P → MatchBool b ⊤ Q
either true P Q f m = tt
either false P Q f m = f m

-- what is asked behind the last piece is left
pub finished : {A : Type 0} (question left : Asks (Result A ReadAnswer)) (part : Option (List ℕ)) (given : Asks (Result A ReadAnswer)) (r : Result Unit ReadAnswer) → rest_of question part ≡ given → Finishes given left r → Feeds question part left r
finished question left part given (Ok x) e f = f ∙ sym e
finished question left part given (Err a) e f = either (is_of_outside a) _ _ (λ h. e ∙ h) f

-- an index whose revisions were loaded asks for nothing
pub not_loaded : (turn : Turn) (former : Former) (left : ℕ) (index : List ℕ) (part : Option (List ℕ)) (log : Option Log) → AsksFor (left_to_ask turn former left index log) part → log ≡ None
not_loaded turn former left index part (Some l) asked = absurd asked
not_loaded turn former left index part None asked = refl

-- ---- the first piece, and all at once

-- the first piece is asked for as one of a separate index is
pub first_asked : {A : Type 0} (inline q : Asks A) (part : Option (List ℕ)) → AsksFor (unless_inline inline q) part → AsksFor q part
first_asked inline (answer x) part asked = asked
first_asked inline (read path from most rest) part asked = asked

-- it says that the index is separate
pub first_apart : {A : Type 0} (inline q : Asks A) (part : Option (List ℕ)) → is_inline (unwrap_or part []) ≡ false → rest_of (unless_inline inline q) part ≡ rest_of q part
first_apart inline (answer x) part h = refl
first_apart inline (read path from most rest) part h = ap (λ b. cond b inline (rest part)) h

-- it says that it is inline
pub first_inline : {A : Type 0} (inline q : Asks A) (part : Option (List ℕ)) → AsksFor (unless_inline inline q) part → is_inline (unwrap_or part []) ≡ true → rest_of (unless_inline inline q) part ≡ inline
first_inline inline (answer x) part asked h = absurd asked
first_inline inline (read path from most rest) part asked h = ap (λ b. cond b inline (rest part)) h

-- a step of the one question is a step of the other
pub feeds_as : {A : Type 0} (one other left : Asks (Result A ReadAnswer)) (part : Option (List ℕ)) (r : Result Unit ReadAnswer) → rest_of one part ≡ rest_of other part → Feeds other part left r → Feeds one part left r
feeds_as one other left part (Ok u) e f = f ∙ sym e
feeds_as one other left part (Err a) e f = either (is_of_outside a) _ _ (λ h. e ∙ h) f

-- a separate index that is too long for one read is read in pieces
pub once_long : (former : Former) (part : Option (List ℕ)) → is_long_apart part ≡ true → rest_of (asks_once former) part ≡ pieces_left former most_pieces []
once_long former part long = ap (λ b. cond b (pieces_left former most_pieces []) (answer (within most_inline_index (λ whole. history_read former (unwrap_or whole [])) part))) long

-- an inline one that has too many bytes is refused
pub once_refused : (former : Former) (part : Option (List ℕ)) → is_long_apart part ≡ false → is_above most_inline_index part ≡ true → rest_of (asks_once former) part ≡ answer (Err (Limit Part))
once_refused former part long above =
    ap (λ b. cond b (pieces_left former most_pieces []) (answer (within most_inline_index (λ whole. history_read former (unwrap_or whole [])) part))) long
    ∙ ap (λ b. answer (cond b (Err (Limit Part)) (history_read former (unwrap_or part [])))) above

-- and else its history is answered
pub once_read : (former : Former) (part : Option (List ℕ)) → is_long_apart part ≡ false → is_above most_inline_index part ≡ false → rest_of (asks_once former) part ≡ answer (history_read former (unwrap_or part []))
once_read former part long above =
    ap (λ b. cond b (pieces_left former most_pieces []) (answer (within most_inline_index (λ whole. history_read former (unwrap_or whole [])) part))) long
    ∙ ap (λ b. answer (cond b (Err (Limit Part)) (history_read former (unwrap_or part [])))) above

-- the first piece of a separate index is taken as each other one
pub first_step : (turn : Turn) (former : Former) (left : ℕ) (index : List ℕ) (log : Option Log) (part : Option (List ℕ)) (next : Asks (Result Log ReadAnswer)) (r : Result Unit ReadAnswer) → turn ≡ First → AsksFor (left_to_ask turn former left index log) part → is_inline (unwrap_or part []) ≡ false
    → Feeds (left_to_ask Piece former left index log) part next r → Feeds (left_to_ask turn former left index log) part next r
first_step turn former left index log part next r is asked plain fed =
    let P : Turn → Type 0 = λ t. AsksFor (left_to_ask t former left index log) part in
    let Q : Turn → Type 0 = λ t. Feeds (left_to_ask t former left index log) part next r in
    subst Q (sym is) (by log (subst P is asked) fed)
  where
    by : (o : Option Log) → AsksFor (left_to_ask First former left index o) part → Feeds (left_to_ask Piece former left index o) part next r → Feeds (left_to_ask First former left index o) part next r
    by (Some l) asked fed = absurd asked
    by None asked fed = feeds_as (unless_inline (asks_once former) (pieces_left former left index)) (pieces_left former left index) next part r (first_apart (asks_once former) (pieces_left former left index) part plain) fed

-- a whole index that is separate and too long is asked for in pieces
pub whole_step : (turn : Turn) (former : Former) (left : ℕ) (index : List ℕ) (log : Option Log) (part : Option (List ℕ)) (next : Asks (Result Log ReadAnswer)) → turn ≡ Once → AsksFor (left_to_ask turn former left index log) part → is_long_apart part ≡ true → next ≡ pieces_left former most_pieces []
    → next ≡ rest_of (left_to_ask turn former left index log) part
whole_step turn former left index log part next is asked long same =
    let P : Turn → Type 0 = λ t. AsksFor (left_to_ask t former left index log) part in
    let Q : Turn → Type 0 = λ t. next ≡ rest_of (left_to_ask t former left index log) part in
    subst Q (sym is) (by log (subst P is asked))
  where
    by : (o : Option Log) → AsksFor (left_to_ask Once former left index o) part → next ≡ rest_of (left_to_ask Once former left index o) part
    by (Some l) asked = absurd asked
    by None asked = same ∙ sym (once_long former part long)

-- an index that was not read to its end has not ended
pub index_open : (turn : Turn) (former : Former) (left : ℕ) (index : List ℕ) (log : Option Log) → ForNone log (0 < left) → log ≡ None → HasEnded (left_to_ask turn former left index log) → ⊥
index_open turn former left index (Some l) some none ended = cc
index_open First former zero index None some none ended = let h = some refl in omega (arith, h)
index_open Piece former zero index None some none ended = let h = some refl in omega (arith, h)
index_open Once former zero index None some none ended = ended
index_open First former (suc left) index None some none ended = ended
index_open Piece former (suc left) index None some none ended = ended
index_open Once former (suc left) index None some none ended = ended

-- so many reads are left, and not none
pub some_reads : (turn : Turn) (left : ℕ) → 0 < left → 0 < reads_next turn left
some_reads First left h = omega arith
some_reads Piece left h = h
some_reads Once left h = omega arith

-- ---- what is asked of an index

-- the index is read from its first byte on, or from the last of the old entries on
pub behind_old : (old : Log) → left_to_ask (first_turn old) (former_of old) most_pieces [] None ≡ newer_log_asks old
behind_old old = by old.inline (length old.entries == 0)
  where
    by : (a b : Bool) → left_to_ask (cond a Once (cond b First Piece)) (cond (a || b) (Whole old) (Last old)) most_pieces [] None
        ≡ cond a (inline_whole_asks old.entries) (cond b (whole_log_asks old.entries) (pieces_from changelog_index (last_place old.entries) most_pieces [] (λ tail. behind_asks old (behind_last old.entries tail))))
    by true b = refl
    by false true = refl
    by false false = refl

-- what is answered where the last of the old entries stands first, and what is asked where it doesn't
pub refused_behind : (old : Log) (bytes tail behind : List ℕ) (e : ReadAnswer) → bytes ≡ tail → Some behind ≡ behind_last old.entries bytes → MatchBool (is_of_outside e) ⊤ (log_on old behind ≡ Err e) → MatchBool (is_of_outside e) ⊤ (behind_asks old (behind_last old.entries tail) ≡ answer (Err e))
refused_behind old bytes tail behind e same found refused =
    either (is_of_outside e) (log_on old behind ≡ Err e) (behind_asks old (behind_last old.entries tail) ≡ answer (Err e)) (λ h. ap (λ t. behind_asks old (behind_last old.entries t)) (sym same) ∙ ap (behind_asks old) (sym found) ∙ ap answer h) refused

pub whole_behind : (old : Log) (bytes tail : List ℕ) → bytes ≡ tail → None ≡ behind_last old.entries bytes → whole_log_asks old.entries ≡ behind_asks old (behind_last old.entries tail)
whole_behind old bytes tail same found = ap (behind_asks old) found ∙ ap (λ t. behind_asks old (behind_last old.entries t)) same

-- ---- a question before others

-- a step of the first question is one of the whole
pub feeds-then : {A B : Type 0} (question left : Asks (Result A ReadAnswer)) (more : A → Asks (Result B ReadAnswer)) (part : Option (List ℕ)) (r : Result Unit ReadAnswer) →
    AsksFor question part → Feeds question part left r → Feeds (then_asks question more) part (then_asks left more) r
feeds-then (answer x) left more part r asked f = absurd asked
feeds-then (read path from most rest) left more part (Ok u) asked f = ap (λ q. then_asks q more) f
feeds-then (read path from most rest) left more part (Err e) asked f = either (is_of_outside e) _ _ (λ h. ap (λ q. then_asks q more) h) f

pub next-then : {A B : Type 0} (question : Asks (Result A ReadAnswer)) (more : A → Asks (Result B ReadAnswer)) (path : Bor (List ℕ)) (from most : ℕ) → IsNext question (Read path from most) → IsNext (then_asks question more) (Read path from most)
next-then (answer x) more path from most n = absurd n
next-then (read p f m rest) more path from most n = n
