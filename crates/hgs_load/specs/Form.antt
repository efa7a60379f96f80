-- An index whose form its first piece says.
use Rattle.std.specs.Prelude.{ℕ, suc, Bool, ◌&&◌, not, List, [], Option, unwrap_or, Result, if◌then◌else◌}
use Rattle.hgs_index.specs.Inline.{is_inline}
use Rattle.hgs_revlog.specs.declared.fault.Tail.TheVariants.{Ignore}
use Rattle.hgs_revlog.specs.Load.{loaded_either}
use Rattle.hgs_revlog.specs.Log.{Log}
use Rattle.hgs_load.specs.declared.answer.ReadAnswer.{ReadAnswer}
use Rattle.hgs_load.specs.Asks.{Asks, answer, read}
use Rattle.hgs_load.specs.View.{changelog_index, log_answer}
use Rattle.hgs_load.specs.Whole.{is_above, within}

-- the bytes above which an inline changelog is refused
abbrev pub most_inline_index : ℕ
most_inline_index = 16777216

-- One question, and another in its place where what its first read gives begins an inline index.
abbrev pub unless_inline : {A : Type 0} → Asks A → Asks A → Asks A
unless_inline inline (answer x) = answer x
unless_inline inline (read path from most rest) = read path from most (λ piece. if is_inline (unwrap_or piece []) then inline else rest piece)

-- the history of an index of either form; a rest that is no whole entry, with its chunk where it is inline, is passed over
abbrev pub either_log_of : List ℕ → Result Log ReadAnswer
either_log_of index = log_answer changelog_index (loaded_either Ignore index)

-- whether a separate index has more bytes than an inline one may have
abbrev pub is_long_apart : Option (List ℕ) → Bool
is_long_apart index = is_above most_inline_index index && not (is_inline (unwrap_or index []))

-- The whole index in one read. It may be separate by then, and where it then has more bytes than an inline one may have, it is read in pieces.
abbrev pub in_one_read : Asks (Result Log ReadAnswer) → (List ℕ → Result Log ReadAnswer) → Asks (Result Log ReadAnswer)
in_one_read pieces given = read changelog_index 0 (suc most_inline_index) (λ index. if is_long_apart index then pieces else answer (within most_inline_index (λ whole. given (unwrap_or whole [])) index))
