-- What a question reads of the files.
use Rattle.std.specs.Prelude.{◌≡◌, ℕ, List, length, Option, Some, None, Result, Ok, Err, ⊤}
use Rattle.hgs_files.specs.declared.op.Op.{Op}
use Rattle.hgs_files.specs.Tree.{Tree}
use Rattle.hgs_load.specs.declared.answer.ReadAnswer.{ReadAnswer}
use Rattle.hgs_load.specs.Asks.{Asks, answer, then_asks}
use Rattle.hgs_load.specs.Given.{Gave}
use Rattle.hgs_load.specs.Open.{open_asks}
use Rattle.hgs_load.specs.View.{View}
use Rattle.hgs_reader.specs.Names.{named}
use Rattle.hgs_top.specs.Outcome.{Subject, its_files, its_file, its_phase, contents_asks}
use Rattle.hgs_revset.specs.Read.{read_set}
use Rattle.hgs_top.specs.Branches.{branches_reads}
use Rattle.hgs_top.specs.Sets.{set_reads}
use Rattle.hgs_top.specs.Windows.{lines_reads}
use Rattle.hgs_top.specs.Words.{Question, ask_page, ask_log, ask_heads, ask_bookmarks, ask_parents, ask_files, ask_cat, ask_phase, ask_set, ask_branches, Request, to_answer, to_do, to_play, to_session, to_verify, to_generate}

abbrev pub log_reads : Asks (Result Unit ReadAnswer)
log_reads = then_asks open_asks (λ view. lines_reads view (length view.changelog.entries))

abbrev pub listing_reads : Asks (Result Unit ReadAnswer)
listing_reads = then_asks open_asks (λ view. answer (Ok tt))

abbrev pub reads_of_rev : View → Subject → Option ℕ → Asks (Result Unit ReadAnswer)
reads_of_rev view subject None = answer (Ok tt)
reads_of_rev view subject (Some rev) = then_asks (contents_asks view rev subject) (λ text. answer (Ok tt))

abbrev pub contents_reads : List ℕ → Subject → Asks (Result Unit ReadAnswer)
contents_reads name subject = then_asks open_asks (λ view. reads_of_rev view subject (named view name))

-- what a question reads: a load, and what it needs behind that
abbrev pub question_reads : Question → Asks (Result Unit ReadAnswer)
question_reads (ask_page page) = answer (Ok tt)
question_reads ask_log = log_reads
question_reads ask_heads = listing_reads
question_reads ask_bookmarks = listing_reads
question_reads ask_parents = listing_reads
question_reads (ask_files name) = contents_reads name its_files
question_reads (ask_cat name path) = contents_reads name (its_file path)
question_reads (ask_phase name) = contents_reads name its_phase
question_reads (ask_set text) = set_reads (read_set text)
question_reads (ask_branches steps) = branches_reads steps

-- Some of these reads were made, from the first on, and nothing else was read: the count of bytes given rose by what they gave.
abbrev pub ReadsOnly : ℕ → ℕ → Option (List Op) → Tree → Option (List Op) → Asks (Result Unit ReadAnswer) → Type 0
ReadsOnly given_old given_new before start after question = (left : Asks (Result Unit ReadAnswer)) × Gave given_old given_new before start after question left

-- so it is of a question; a schedule is played without the files, and words that do not fit read nothing
abbrev pub ReadsAsked : Result Request ℕ → ℕ → ℕ → Option (List Op) → Tree → Option (List Op) → Type 0
ReadsAsked (Ok (to_answer question)) given_old given_new before start after = ReadsOnly given_old given_new before start after (question_reads question)
ReadsAsked (Ok (to_do job)) given_old given_new before start after = ⊤
ReadsAsked (Ok to_play) given_old given_new before start after = given_new ≡ given_old
ReadsAsked (Ok to_session) given_old given_new before start after = ⊤
ReadsAsked (Ok (to_verify jobs)) given_old given_new before start after = ⊤
ReadsAsked (Ok (to_generate seed count)) given_old given_new before start after = ⊤
ReadsAsked (Err place) given_old given_new before start after = given_new ≡ given_old
