-- What a question of a session asks of files, once a view of them is loaded.
use Rattle.std.specs.Prelude.{ℕ, zero, suc, List, [], length, Option, Some, None, Result, Ok, Err, slice_get}
use Rattle.hgs_load.specs.Asks.{Asks, answer, read}
use Rattle.hgs_load.specs.Open.{open_asks}
use Rattle.hgs_load.specs.Refresh.{refresh_asks}
use Rattle.hgs_load.specs.View.{View}
use Rattle.hgs_load.specs.declared.answer.ReadAnswer.{ReadAnswer}
use Rattle.hgs_reader.specs.Contents.{cat_asks, files_asks}
use Rattle.hgs_reader.specs.Heads.{heads_text}
use Rattle.hgs_reader.specs.Line.{line_asks}
use Rattle.hgs_reader.specs.Names.{named}
use Rattle.hgs_reader.specs.Shown.{marks_text, parents_text}
use Rattle.hgs_script.specs.declared.job.Question.{Question}
use Rattle.hgs_script.specs.declared.job.Question.TheVariants.{Phase, Log, Heads, Bookmarks, Parents, Files, Cat}
use Rattle.hgs_script.specs.declared.result.Answered.{Answered}
use Rattle.hgs_questions.specs.Said.{behind, phase_line, refused, said, said_of, unknown}

-- what a load asks: all where nothing was loaded, else what may have changed since
abbrev pub load_asks : Option View → Asks (Result View ReadAnswer)
load_asks None = open_asks
load_asks (Some view) = refresh_asks view

-- one question, and the next one with its answer
abbrev pub with_answer : {A B : Type 0} → Asks A → (A → Asks B) → Asks B
with_answer (answer x) more = more x
with_answer (read path from most rest) more = read path from most (λ part. with_answer (rest part) more)

-- a text that is asked, or the refusal of it
abbrev pub text_asks : Asks (Result (List ℕ) ReadAnswer) → Asks Answered
text_asks text = with_answer text (λ r. answer (said_of r))

-- a line, and what is asked behind it; nothing is asked behind a refusal
abbrev pub line_before : Result (List ℕ) ReadAnswer → Asks Answered → Asks Answered
line_before (Ok line) rest = with_answer rest (λ a. answer (behind line a))
line_before (Err e) rest = answer (refused e)

-- the lines of so many changesets out of the first `len`, newest first, up to the first that is refused
abbrev pub newest_asks : View → ℕ → ℕ → Asks Answered
newest_asks view zero len = answer (said [])
newest_asks view (suc count) zero = answer (said [])
newest_asks view (suc count) (suc rev) = with_answer (line_asks view rev) (λ line. line_before line (newest_asks view count rev))

-- so many of the lines of `log`
abbrev pub log_asks : View → ℕ → Asks Answered
log_asks view count = newest_asks view count (length view.changelog.entries)

-- what is asked of a revision, where a name names one
abbrev pub named_asks : Option ℕ → (ℕ → Asks Answered) → Asks Answered
named_asks None more = answer unknown
named_asks (Some rev) more = more rev

-- what a question asks of the files, and says
abbrev pub question_asks : View → Question → Asks Answered
question_asks view (Phase name) = named_asks (named view name) (λ rev. answer (said (phase_line (slice_get view.phases rev))))
question_asks view Log = log_asks view (length view.changelog.entries)
question_asks view Heads = answer (said (heads_text view))
question_asks view Bookmarks = answer (said (marks_text view))
question_asks view Parents = answer (said (parents_text view))
question_asks view (Files name) = named_asks (named view name) (λ rev. text_asks (files_asks view rev))
question_asks view (Cat name path) = named_asks (named view name) (λ rev. text_asks (cat_asks view rev path))

-- What stands before the line of a fault: of a log the lines of so many changesets, of another question nothing.
abbrev pub front_asks : View → Question → ℕ → Asks Answered
front_asks view (Phase name) count = answer (said [])
front_asks view Log count = log_asks view count
front_asks view Heads count = answer (said [])
front_asks view Bookmarks count = answer (said [])
front_asks view Parents count = answer (said [])
front_asks view (Files name) count = answer (said [])
front_asks view (Cat name path) count = answer (said [])
