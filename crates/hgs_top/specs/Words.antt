-- Which words fit, and what they ask for.
use Rattle.std.specs.Prelude.{ℕ, ◌+◌, Bool, true, false, ◌&&◌, not, nat_le, nat_lt, List, [], ◌∷◌, Option, Some, None, Result, Ok, Err, codes, map, slice_index_or, if◌then◌else◌, is_some, unwrap_or}
use Rattle.std.specs.String.{string_bytes}
use Rattle.hgs_bytes.specs.Bytes.{same, begins_with}
use Rattle.hgs_index.specs.MarkName.{is_mark_name}
use Rattle.hgs_input.specs.Read.{number_up_to}
use Rattle.hgs_model.specs.Phase.{phase_named}
use Rattle.hgs_model.specs.declared.phase.Phase.{Phase}
use Rattle.hgs_model.specs.declared.phase.Phase.TheVariants.{Draft}
use Rattle.hgs_top.specs.declared.operands.Operand.{Operand}
use Rattle.hgs_top.specs.declared.operands.Operand.TheVariants as operand_kinds
use Rattle.hgs_top.specs.declared.operands.Rest.{Rest}
use Rattle.hgs_top.specs.declared.orders.Order.{Order}
use Rattle.hgs_top.specs.declared.orders.Order.TheVariants as orders
use Rattle.hgs_top.specs.declared.pages.Page.{Page}
use Rattle.hgs_top.specs.declared.pages.Page.TheVariants.{Help, Version}
use Rattle.hgs_top.specs.declared.words.Asked.{Asked}
use Rattle.hgs_top.specs.declared.words.Asked.TheVariants as asked
use Rattle.hgs_top.specs.declared.words.Command.{Command}
use Rattle.hgs_top.specs.declared.words.Command.TheVariants.{Shown, Log, Heads, Bookmarks, Parents, Files, Cat, Phase as PhaseOf, Set as SetOf, Branches as BranchesOf}

abbrev pub with_operand : List ℕ → Result (List (List ℕ)) ℕ → Result (List (List ℕ)) ℕ
with_operand word (Ok words) = Ok (word ∷ words)
with_operand word (Err place) = Err place

abbrev pub kept_where : (ℕ → Bool) → Option ℕ → Option ℕ
kept_where fit None = None
kept_where fit (Some n) = if fit n then Some n else None

-- the number below 2^64 that a word spells
abbrev pub seed_of : List ℕ → Option ℕ
seed_of word =
    if same word (codes "18446744073709551615") then Some 18446744073709551615
    else kept_where (λ n. nat_lt n 18446744073709551615) (number_up_to 18446744073709551614 word)

-- how many changesets a word asks for: from 1 to 5,000
abbrev pub count_of : List ℕ → Option ℕ
count_of word = kept_where (λ n. nat_le 1 n && nat_le n 5000) (number_up_to 5000 word)

-- how many jobs a word gives: from 1 to 64
abbrev pub jobs_of : List ℕ → Option ℕ
jobs_of word = kept_where (λ n. nat_le 1 n && nat_le n 64) (number_up_to 64 word)

-- how many changesets a word says to take at a time: from 1 to 1,000,000
abbrev pub steps_of : List ℕ → Option ℕ
steps_of word = kept_where (λ n. nat_le 1 n && nat_le n 1000000) (number_up_to 1000000 word)

-- whether a word is what an operand has to be
abbrev pub fits : Operand → List ℕ → Bool
fits operand_kinds.Any word = true
fits operand_kinds.MarkName word = is_mark_name word
fits operand_kinds.PhaseName word = is_some (phase_named word)
fits operand_kinds.Seed word = is_some (seed_of word)
fits operand_kinds.Count word = is_some (count_of word)

abbrev pub none_left : List Operand → Bool
none_left [] = true
none_left (kind ∷ kinds) = false

abbrev pub next_kind : List Operand → Operand
next_kind [] = operand_kinds.Any
next_kind (kind ∷ kinds) = kind

abbrev pub kinds_behind : List Operand → List Operand
kinds_behind [] = []
kinds_behind (kind ∷ kinds) = kinds

-- The operands among these words, the first of which has this place, or the place of the first word that doesn't fit, the count of all words where one is missing.
-- A command takes operands of these kinds and no options; `--` ends the options, before which a word that begins with `-` is one.
abbrev pub operands : Bool → List Operand → ℕ → List (List ℕ) → Result (List (List ℕ)) ℕ
operands ended kinds place [] = if none_left kinds then Ok [] else Err place
operands ended kinds place (word ∷ words) =
    if not ended && same word (codes "--") then operands true kinds (place + 1) words
    else if not ended && begins_with word (codes "-") then Err place
    else if none_left kinds then Err place
    else if fits (next_kind kinds) word then with_operand word (operands ended (kinds_behind kinds) (place + 1) words)
    else Err place

-- what a question asks for; revisions by their names
pub data Question : Type 0 where
  ask_page : Page → Question
  ask_log : Question
  ask_heads : Question
  ask_bookmarks : Question
  ask_parents : Question
  ask_files : List ℕ → Question
  ask_cat : List ℕ → List ℕ → Question
  ask_phase : List ℕ → Question
  ask_set : List ℕ → Question
  ask_branches : Option ℕ → Question

-- what a command does that changes files; revisions by their names
pub data Job : Type 0 where
  do_init : Job
  do_commit : Job
  do_import : Job
  do_recover : Job
  do_move : List ℕ → Phase → Bool → Job
  do_mark : List ℕ → List ℕ → Job
  do_unmark : List ℕ → Job

pub data Request : Type 0 where
  to_answer : Question → Request
  to_do : Job → Request
  to_play : Request
  to_session : Request
  to_verify : ℕ → Request
  to_generate : ℕ → ℕ → Request

abbrev pub question_of : Command → Question
question_of (Shown page) = ask_page page
question_of Log = ask_log
question_of Heads = ask_heads
question_of Bookmarks = ask_bookmarks
question_of Parents = ask_parents
question_of (Files rev) = ask_files rev.now
question_of (Cat rev path) = ask_cat rev.now path.now
question_of (PhaseOf rev) = ask_phase rev.now
question_of (SetOf text) = ask_set text.now
question_of (BranchesOf steps) = ask_branches steps

abbrev pub job_of : Order → Job
job_of orders.Init = do_init
job_of orders.Commit = do_commit
job_of orders.Import = do_import
job_of orders.Recover = do_recover
job_of (orders.Move rev phase force) = do_move rev.now phase force
job_of (orders.Mark name rev) = do_mark name.now rev.now
job_of (orders.Unmark name) = do_unmark name.now

abbrev pub request_of : Asked → Request
request_of (asked.Question command) = to_answer (question_of command)
request_of (asked.Order order) = to_do (job_of order)
request_of asked.Play = to_play
request_of asked.Session = to_session
request_of (asked.Verify jobs) = to_verify jobs
request_of (asked.Generate seed count) = to_generate seed count

-- whether workers are asked for, who need more than files at rest
abbrev pub is_session : Result Request ℕ → Bool
is_session (Ok to_session) = true
is_session asked = false

-- the request with these operands
abbrev pub asked_with : (List (List ℕ) → Request) → Result (List (List ℕ)) ℕ → Result Request ℕ
asked_with request (Ok words) = Ok (request words)
asked_with request (Err place) = Err place

abbrev pub operand : List (List ℕ) → ℕ → List ℕ
operand words n = slice_index_or words n []

-- the requests without operands
abbrev pub alone_named : List ℕ → Option Request
alone_named name =
    if same name (codes "log") then Some (to_answer ask_log)
    else if same name (codes "heads") then Some (to_answer ask_heads)
    else if same name (codes "bookmarks") then Some (to_answer ask_bookmarks)
    else if same name (codes "parents") then Some (to_answer ask_parents)
    else if same name (codes "init") then Some (to_do do_init)
    else if same name (codes "commit") then Some (to_do do_commit)
    else if same name (codes "import") then Some (to_do do_import)
    else if same name (codes "recover") then Some (to_do do_recover)
    else if same name (codes "play") then Some to_play
    else if same name (codes "session") then Some to_session
    else None

-- the words behind this one, where it stands first
abbrev pub behind_word : List ℕ → List (List ℕ) → Option (List (List ℕ))
behind_word wanted [] = None
behind_word wanted (word ∷ words) = if same word wanted then Some words else None

-- a revision and a phase
abbrev pub moved_with : Bool → Result (List (List ℕ)) ℕ → Result Request ℕ
moved_with force words = asked_with (λ w. to_do (do_move (operand w 0) (unwrap_or (phase_named (operand w 1)) Draft) force)) words

-- a revision alone is a question
abbrev pub phase_or_move : Result (List (List ℕ)) ℕ → Result (List (List ℕ)) ℕ → Result Request ℕ
phase_or_move (Ok words) both = Ok (to_answer (ask_phase (operand words 0)))
phase_or_move (Err place) both = moved_with false both

abbrev pub phase_with : Option (List (List ℕ)) → List (List ℕ) → Result Request ℕ
phase_with (Some behind) words = moved_with true (operands false (operand_kinds.Any ∷ operand_kinds.PhaseName ∷ []) 2 behind)
phase_with None words = phase_or_move (operands false (operand_kinds.Any ∷ []) 1 words) (operands false (operand_kinds.Any ∷ operand_kinds.PhaseName ∷ []) 1 words)

abbrev pub bookmark_with : Option (List (List ℕ)) → List (List ℕ) → Result Request ℕ
bookmark_with (Some behind) words = asked_with (λ w. to_do (do_unmark (operand w 0))) (operands false (operand_kinds.MarkName ∷ []) 2 behind)
bookmark_with None words = asked_with (λ w. to_do (do_mark (operand w 0) (operand w 1))) (operands false (operand_kinds.MarkName ∷ operand_kinds.Any ∷ []) 1 words)

-- how many jobs are to be taken, behind the option that says so
abbrev pub verify_by : List (List ℕ) → Result Request ℕ
verify_by [] = Err 2
verify_by (word ∷ words) = if is_some (jobs_of word) then asked_with (λ w. to_verify (unwrap_or (jobs_of word) 1)) (operands false [] 3 words) else Err 2

-- one job, where no option says how many
abbrev pub verify_with : Option (List (List ℕ)) → List (List ℕ) → Result Request ℕ
verify_with (Some behind) words = verify_by behind
verify_with None words = asked_with (λ w. to_verify 1) (operands false [] 1 words)

-- the heads of branches, for which so many changesets are taken at a time, behind the option that says so
abbrev pub branches_by : List (List ℕ) → Result Request ℕ
branches_by [] = Err 2
branches_by (word ∷ words) = if is_some (steps_of word) then asked_with (λ w. to_answer (ask_branches (steps_of word))) (operands false [] 3 words) else Err 2

-- all at once, where no option says how many
abbrev pub branches_with : Option (List (List ℕ)) → List (List ℕ) → Result Request ℕ
branches_with (Some behind) words = branches_by behind
branches_with None words = asked_with (λ w. to_answer (ask_branches None)) (operands false [] 1 words)

-- a number and how many changesets it gives
abbrev pub generate_with : List (List ℕ) → Result Request ℕ
generate_with words = asked_with (λ w. to_generate (unwrap_or (seed_of (operand w 0)) 0) (unwrap_or (count_of (operand w 1)) 1)) (operands false (operand_kinds.Seed ∷ operand_kinds.Count ∷ []) 1 words)

-- those with operands or options
abbrev pub about_named : List ℕ → List (List ℕ) → Result Request ℕ
about_named name words =
    if same name (codes "files") then asked_with (λ w. to_answer (ask_files (operand w 0))) (operands false (operand_kinds.Any ∷ []) 1 words)
    else if same name (codes "cat") then asked_with (λ w. to_answer (ask_cat (operand w 0) (operand w 1))) (operands false (operand_kinds.Any ∷ operand_kinds.Any ∷ []) 1 words)
    else if same name (codes "revset") then asked_with (λ w. to_answer (ask_set (operand w 0))) (operands false (operand_kinds.Any ∷ []) 1 words)
    else if same name (codes "branches") then branches_with (behind_word (codes "--steps") words) words
    else if same name (codes "phase") then phase_with (behind_word (codes "--force") words) words
    else if same name (codes "bookmark") then bookmark_with (behind_word (codes "--delete") words) words
    else if same name (codes "verify") then verify_with (behind_word (codes "--jobs") words) words
    else if same name (codes "gen") then generate_with words
    else Err 0

abbrev pub alone_else : Option Request → Result Request ℕ → List (List ℕ) → Result Request ℕ
alone_else None about words = about
alone_else (Some request) about words = asked_with (λ w. request) (operands false [] 1 words)

-- the request of the command with this name
abbrev pub request_named : List ℕ → List (List ℕ) → Result Request ℕ
request_named name words = alone_else (alone_named name) (about_named name words) words

-- the pages, which are shown where they are asked for by the first and only word
abbrev pub page_named : List ℕ → Option Page
page_named name = if same name (codes "--help") then Some Help else if same name (codes "--version") then Some Version else None

abbrev pub page_else : Option Page → List (List ℕ) → Result Request ℕ → Result Request ℕ
page_else None words request = request
page_else (Some page) [] request = Ok (to_answer (ask_page page))
page_else (Some page) (word ∷ words) request = Err 1

-- what the words ask for, or the place of the first word that doesn't fit
abbrev pub request_of_words : List (List ℕ) → Result Request ℕ
request_of_words [] = Err 0
request_of_words (name ∷ words) = page_else (page_named name) words (request_named name words)

-- ---- the words that are not read yet

abbrev pub operands_in : Rest → List Operand → Result (List (List ℕ)) ℕ
operands_in rest kinds = operands rest.ended kinds rest.place (map string_bytes rest.words.now)

-- whether the `--` that ends the options stands first
abbrev pub ends_here : Bool → List (List ℕ) → Bool
ends_here ended [] = false
ends_here ended (word ∷ words) = not ended && same word (codes "--")
