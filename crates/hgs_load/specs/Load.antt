-- What a load has still to ask.
use Rattle.std.specs.Prelude.{◌≡◌, ℕ, suc, ◌+◌, ◌*◌, ◌≤◌, ◌||◌, ◌==◌, if◌then◌else◌, List, [], length, Option, Some, None, IfSome, Result, Ok, Err, ⊤}
use Rattle.std.specs.Prelude.{Bool, true, false}
use Rattle.std.specs.Bool.{MatchBool}
use Rattle.std.specs.Option.{option_map}
use Rattle.hgs_files.specs.declared.op.Op.{Op}
use Rattle.hgs_files.specs.Tree.{Tree}
use Rattle.hgs_load.specs.declared.answer.ReadAnswer.{ReadAnswer}
use Rattle.hgs_load.specs.declared.load.LoadMachine.{LoadMachine}
use Rattle.hgs_load.specs.declared.pieces.Former.{Former}
use Rattle.hgs_load.specs.declared.pieces.Former.TheVariants.{Nothing, Whole, Last}
use Rattle.hgs_load.specs.declared.pieces.IndexLoad.{IndexLoad}
use Rattle.hgs_load.specs.declared.pieces.Turn.{Turn}
use Rattle.hgs_load.specs.declared.pieces.Turn.TheVariants.{First, Piece, Once}
use Rattle.hgs_load.specs.declared.load.LoadNext.{LoadNext}
use Rattle.hgs_load.specs.declared.load.LoadNext.TheVariants.{Read, End}
use Rattle.hgs_marks.specs.Bookmarks.{Mark}
use Rattle.hgs_revlog.specs.Log.{Log}
use Rattle.hgs_load.specs.Answer.{is_of_outside}
use Rattle.hgs_load.specs.Asks.{Asks, answer, read, then_asks, Continues, MayAnswerWhereTold}
use Rattle.hgs_load.specs.Form.{most_inline_index, unless_inline, either_log_of, in_one_read}
use Rattle.hgs_load.specs.Marks.{Nodes, nodes_of}
use Rattle.hgs_load.specs.Open.{requires_asks, bookmarks_asks, dirstate_asks, roots_asks, log_of, view_of}
use Rattle.hgs_load.specs.Refresh.{log_after, behind_asks, behind_last, last_place}
use Rattle.hgs_load.specs.View.{View, changelog_index, most_pieces, piece_length, pieces_by}

-- ---- an index under way

-- Of a separate index only what stands from the last of the old entries on is read.
abbrev pub former_of : Log → Former
former_of old = if old.inline || length old.entries == 0 then Whole old else Last old

-- What was inline is read in one read; an index that is read from its first byte on says its form first.
abbrev pub first_turn : Log → Turn
first_turn old = if old.inline then Once else if length old.entries == 0 then First else Piece

-- the place of the next piece behind these bytes
abbrev pub place_behind : Former → List ℕ → ℕ
place_behind Nothing = length
place_behind (Whole old) = length
place_behind (Last old) = λ bytes. last_place old.entries + length bytes

-- what is asked once all these bytes were read
abbrev pub asks_behind : Former → List ℕ → Asks (Result Log ReadAnswer)
asks_behind Nothing = λ index. answer (log_of index)
asks_behind (Whole old) = λ index. answer (log_after old.entries (log_of index))
asks_behind (Last old) = λ tail. behind_asks old (behind_last old.entries tail)

-- the pieces of a separate index, so many of them, behind these bytes
abbrev pub pieces_left : Former → ℕ → List ℕ → Asks (Result Log ReadAnswer)
pieces_left former left bytes = pieces_by changelog_index (place_behind former) left bytes (asks_behind former)

-- the history of an index that was read in one read
abbrev pub history_read : Former → List ℕ → Result Log ReadAnswer
history_read Nothing = either_log_of
history_read (Whole old) = λ index. log_after old.entries (either_log_of index)
history_read (Last old) = λ index. log_after old.entries (either_log_of index)

abbrev pub asks_once : Former → Asks (Result Log ReadAnswer)
asks_once former = in_one_read (pieces_left former most_pieces []) (history_read former)

abbrev pub asks_next : Turn → Former → ℕ → List ℕ → Asks (Result Log ReadAnswer)
asks_next First former left bytes = unless_inline (asks_once former) (pieces_left former left bytes)
asks_next Piece former left bytes = pieces_left former left bytes
asks_next Once former left bytes = asks_once former

abbrev pub left_to_ask : Turn → Former → ℕ → List ℕ → Option Log → Asks (Result Log ReadAnswer)
left_to_ask turn former left bytes None = asks_next turn former left bytes
left_to_ask turn former left bytes (Some log) = answer (Ok log)

abbrev pub index_asks : IndexLoad → Asks (Result Log ReadAnswer)
index_asks m = left_to_ask m.turn m.former m.left m.bytes.items m.log

-- the place and the bytes of the next read
abbrev pub next_place : Turn → Former → List ℕ → ℕ
next_place First former = place_behind former
next_place Piece former = place_behind former
next_place Once former = λ bytes. 0

abbrev pub next_most : Turn → ℕ
next_most First = piece_length
next_most Piece = piece_length
next_most Once = suc most_inline_index

-- the most reads of an index from its first byte on: the first piece, all in one, and the pieces of a separate one
abbrev pub most_reads : ℕ
most_reads = 2 * most_pieces + 1

-- the reads that may follow once an index was read from its last old entry on
abbrev pub reads_behind : Former → ℕ
reads_behind Nothing = 0
reads_behind (Whole old) = 0
reads_behind (Last old) = most_reads

-- the pieces that are left, and behind the first one that one read of all; behind that one, pieces again
abbrev pub reads_next : Turn → ℕ → ℕ
reads_next First left = left + (most_pieces + 1)
reads_next Piece left = left
reads_next Once left = most_pieces + 1

abbrev pub reads_left_of : Turn → Former → ℕ → Option Log → ℕ
reads_left_of turn former left None = reads_next turn left + reads_behind former
reads_left_of turn former left (Some log) = 0

abbrev pub index_reads : IndexLoad → ℕ
index_reads m = reads_left_of m.turn m.former m.left m.log

-- ---- a load under way

abbrev pub requires_left : Bool → Asks (Result Unit ReadAnswer)
requires_left true = answer (Ok tt)
requires_left false = requires_asks

-- a question that was answered, or that was not
abbrev pub asks_unless : {A : Type 0} → Option A → Asks (Result A ReadAnswer) → Asks (Result A ReadAnswer)
asks_unless None question = question
asks_unless (Some x) question = answer (Ok x)

-- the reads in their order, without those that were answered
abbrev pub asks_from : Bool → Option (List Mark) → Option Nodes → Asks (Result Log ReadAnswer) → Asks (Result View ReadAnswer)
asks_from required marks nodes index =
    then_asks (requires_left required) (λ x.
    then_asks (asks_unless marks bookmarks_asks) (λ marks.
    then_asks (asks_unless nodes dirstate_asks) (λ nodes.
    then_asks index (λ log.
    then_asks roots_asks (λ roots.
    answer (view_of marks nodes log roots))))))

-- the question that a load still asks
abbrev pub asks_of : LoadMachine → Asks (Result View ReadAnswer)
asks_of m = asks_unless m.loaded (asks_from m.required m.bookmarks (option_map nodes_of m.nodes) (index_asks m.index))

abbrev pub reads_unless : {A : Type 0} → Option A → ℕ → ℕ
reads_unless None reads = reads
reads_unless (Some x) reads = 0

-- at most so many reads are left
abbrev pub reads_left : LoadMachine → ℕ
reads_left m = reads_unless m.loaded ((if m.required then 0 else 1) + reads_unless m.bookmarks 1 + reads_unless m.nodes 1 + index_reads m.index + 1)

-- ---- a step

-- `next` says what the question asks for
abbrev pub IsNext : {A : Type 0} → Asks A → LoadNext → Type 0
IsNext (answer x) End = Unit {0}
IsNext (answer x) (Read path from most) = ⊥
IsNext (read path from most rest) End = ⊥
IsNext (read path from most rest) (Read p f m) = (p.now ≡ path) × (f ≡ from) × (m ≡ most)

-- the question asks for a read, and of at most so many bytes
abbrev pub AsksFor : {A : Type 0} → Asks A → Option (List ℕ) → Type 0
AsksFor (answer x) part = ⊥
AsksFor (read path from most rest) part = IfSome part (λ bytes. length bytes ≤ most)

-- what is asked once a read was answered
abbrev pub rest_of : {A : Type 0} → Asks A → Option (List ℕ) → Asks A
rest_of (answer x) part = answer x
rest_of (read path from most rest) part = rest part

-- the bytes fed are the answer of the read: the load goes on, or this answer refuses it
abbrev pub Feeds : {A : Type 0} → Asks (Result A ReadAnswer) → Option (List ℕ) → Asks (Result A ReadAnswer) → Result Unit ReadAnswer → Type 0
Feeds question part left (Ok x) = left ≡ rest_of question part
Feeds question part left (Err e) = MatchBool (is_of_outside e) ⊤ (rest_of question part ≡ answer (Err e))

-- the load has its answer
abbrev pub HasEnded : {A : Type 0} → Asks A → Type 0
HasEnded (answer x) = Unit {0}
HasEnded (read path from most rest) = ⊥

-- this question is left once a file was read to its end, or it is answered by this refusal
abbrev pub Finishes : {A : Type 0} → Asks (Result A ReadAnswer) → Asks (Result A ReadAnswer) → Result Unit ReadAnswer → Type 0
Finishes question left (Ok x) = left ≡ question
Finishes question left (Err e) = MatchBool (is_of_outside e) ⊤ (question ≡ answer (Err e))

-- A refresh answered a question with the new view, or was refused and changed nothing.
abbrev pub Refreshes : Option (List Op) → Tree → Option (List Op) → Asks (Result View ReadAnswer) → View → View → Result Unit ReadAnswer → Type 0
Refreshes before start after question old new (Ok x) = MayAnswerWhereTold before start after question (Ok new)
Refreshes before start after question old new (Err e) = (new ≡ old) × MatchBool (is_of_outside e) ⊤ (MayAnswerWhereTold before start after question (Err e))

-- one step of a load: a read was answered, or the load has its answer, or it is refused
abbrev pub Advances : {A : Type 0} → Option (List Op) → Tree → Option (List Op) → Asks (Result A ReadAnswer) → Asks (Result A ReadAnswer) → Result Bool ReadAnswer → Type 0
Advances before start after question left (Ok true) = Continues before start after question left
Advances before start after question left (Ok false) = HasEnded question × (left ≡ question) × (after ≡ before)
Advances before start after question left (Err e) = MatchBool (is_of_outside e) ⊤ (MayAnswerWhereTold before start after question (Err e))
