-- What a command that changes files comes to, and what it leaves.
use Rattle.std.specs.Prelude.{◌≡◌, ◌≤◌, ◌⊎◌, ℕ, ◌+◌, Bool, ◌&&◌, List, [], ◌∷◌, ◌++◌, Option, None, is_some, Result, Ok, Err, IfSome, IsSome, codes, decimal, ⊤, true}
use Rattle.hgs_answers.specs.Answer.{answer_text, leftover_text, status_of as answer_status}
use Rattle.hgs_answers.specs.declared.answer.Answer.{Answer}
use Rattle.hgs_answers.specs.declared.outcome.Outcome.{Outcome}
use Rattle.hgs_answers.specs.declared.outcome.Outcome.TheVariants as outcomes
use Rattle.hgs_answers.specs.declared.outcome.Published.{Published}
use Rattle.hgs_bytes.specs.Answer.{Gives}
use Rattle.hgs_files.specs.Files.{GoesOn}
use Rattle.hgs_files.specs.Log.{IsDone}
use Rattle.hgs_files.specs.Reads.{Rose}
use Rattle.hgs_files.specs.declared.files.FileFault.{FileFault}
use Rattle.hgs_files.specs.declared.files.FileFault.TheVariants.{Failed, Memory as NoMemory}
use Rattle.hgs_files.specs.declared.op.Op.{Op}
use Rattle.hgs_files.specs.declared.op.Op.TheVariants.{Create, Rename}
use Rattle.hgs_files.specs.Tree.{Tree, after_all}
use Rattle.hgs_index.specs.MarkName.{is_mark_name}
use Rattle.hgs_index.specs.Limit.{limit_number}
use Rattle.hgs_index.specs.declared.node.Node.{Node}
use Rattle.hgs_input.specs.Import.{read_import}
use Rattle.hgs_input.specs.Read.{is_memory, read_record}
use Rattle.hgs_input.specs.declared.fault.InputFault.{InputFault}
use Rattle.hgs_input.specs.declared.fault.InputFault.TheVariants.{BadInput, Limit, Memory}
use Rattle.hgs_loading.specs.Found.{required_in}
use Rattle.hgs_model.specs.declared.command.Command.{Command}
use Rattle.hgs_model.specs.declared.command.Command.TheVariants as commands
use Rattle.hgs_model.specs.declared.command.NewChange.{NewChange}
use Rattle.hgs_load.specs.Answer.{is_of_outside, read_fault, refusal_line, status_of}
use Rattle.hgs_load.specs.Open.{requires_path}
use Rattle.hgs_load.specs.declared.answer.ReadAnswer.{ReadAnswer}
use Rattle.hgs_load.specs.declared.answer.ReadAnswer.TheVariants.{Fault}
use Rattle.hgs_machine.specs.Carry.{tree_now}
use Rattle.hgs_machine.specs.Refusals.{how_many_stand, refusals_of_left}
use Rattle.hgs_recover.specs.Answer.{recovered_text, status_of as recover_status}
use Rattle.hgs_recover.specs.Found.{answer_in}
use Rattle.hgs_recover.specs.Clearing.{leftover_paths}
use Rattle.hgs_recover.specs.Recovering.{Answers, RecoversBy, WhereSwept}
use Rattle.hgs_recover.specs.declared.answer.RecoverAnswer.{RecoverAnswer}
use Rattle.hgs_recover.specs.declared.answer.RecoverAnswer.TheVariants as recoveries
use Rattle.hgs_writer.specs.Refusals.{refusals_of, refusals_with}
use Rattle.hgs_writer.specs.Written.{IsWritten, IsWrittenFor}
use Rattle.hgs_top.specs.declared.ended.Ended.{Ended}
use Rattle.hgs_top.specs.declared.ended.Ended.TheVariants.{Made, Exists, NotMade, NoInput, NoRecord, Refused, Answered, Recovered}
use Rattle.hgs_top.specs.declared.words.Asked.{Asked}
use Rattle.hgs_top.specs.declared.words.Asked.TheVariants as asked
use Rattle.hgs_top.specs.declared.orders.Order.{Order}
use Rattle.hgs_top.specs.declared.orders.Order.TheVariants as orders
use Rattle.hgs_grown.specs.declared.commits.Stop.{Stop}
use Rattle.hgs_grown.specs.declared.commits.Stop.TheVariants as stops
use Rattle.hgs_grown.specs.declared.commits.Tip.{Tip}
use Rattle.hgs_grown.specs.Grown.{GrowsTo}
use Rattle.hgs_findings.specs.Findings.{Finding, IsReport}
use Rattle.hgs_verify.specs.Refusal.{IsWhy, is_refusal}
use Rattle.hgs_top.specs.Run.{EndsLine, IsReportable, OfTree, memory_line}
use Rattle.hgs_top.specs.Verified.{report_status, summary_text}
use Rattle.hgs_top.specs.Words.{Job, do_init, do_commit, do_import, do_recover, do_move, do_mark, do_unmark, Request, to_answer, to_do, to_play, to_session, to_verify, to_generate}

-- a bookmark's name is one that a bookmark can have
abbrev pub IsFit : Order → Type 0
IsFit orders.Init = ⊤
IsFit orders.Commit = ⊤
IsFit orders.Import = ⊤
IsFit orders.Recover = ⊤
IsFit (orders.Move rev phase force) = ⊤
IsFit (orders.Mark name rev) = is_mark_name name.now ≡ true
IsFit (orders.Unmark name) = ⊤

abbrev pub IsFitting : Asked → Type 0
IsFitting (asked.Question command) = ⊤
IsFitting (asked.Order order) = IsFit order
IsFitting asked.Play = ⊤
IsFitting asked.Session = ⊤
IsFitting (asked.Verify jobs) = (1 ≤ jobs) × (jobs ≤ 64)
IsFitting (asked.Generate seed count) = (1 ≤ count) × (count ≤ 5000)

-- ---- what is said

abbrev pub abort_line : List ℕ → List ℕ
abort_line text = codes "abort: " ++ text ++ 10 ∷ []

-- why an input is no record
abbrev pub record_fault_text : InputFault → List ℕ
record_fault_text (BadInput place) = codes "bad input at " ++ decimal place
record_fault_text (Limit which) = codes "limit " ++ decimal (limit_number which)
record_fault_text Memory = codes "out of memory"

abbrev pub record_fault_status : InputFault → ℕ
record_fault_status (BadInput place) = 14
record_fault_status (Limit which) = 20
record_fault_status Memory = 30

-- what is said of a command at its end
abbrev pub ended_text : Ended → List ℕ
ended_text Made = []
ended_text Exists = abort_line (codes "repository exists")
ended_text (NotMade fault) = refusal_line (read_fault fault)
ended_text NoInput = abort_line (codes "input failed")
ended_text (NoRecord fault) = abort_line (record_fault_text fault)
ended_text (Refused refusal) = refusal_line refusal
ended_text (Answered command answer) = answer_text command answer
ended_text (Recovered r) = recovered_text r

abbrev pub ended_status : Ended → ℕ
ended_status Made = 0
ended_status Exists = 25
ended_status (NotMade fault) = status_of (read_fault fault)
ended_status NoInput = 18
ended_status (NoRecord fault) = record_fault_status fault
ended_status (Refused refusal) = status_of refusal
ended_status (Answered command answer) = answer_status answer.outcome
ended_status (Recovered r) = recover_status r.outcome

-- ---- a new repository

-- the words of a new repository, one on each line
abbrev pub new_requires : List ℕ
new_requires = codes "dotencode" ++ 10 ∷ codes "fncache" ++ 10 ∷ codes "revlogv1" ++ 10 ∷ codes "store" ++ 10 ∷ []

abbrev pub new_requires_path : List ℕ
new_requires_path = codes "journal.new.requires"

-- `requires` gets its name once all of it stands
abbrev pub init_operations : List Op
init_operations = Create new_requires_path new_requires ∷ Rename new_requires_path requires_path ∷ []

-- what making a repository leaves: all of it, or what was done before a call that was refused
abbrev pub LeavesInit : Result Unit FileFault → List Op → Type 0
LeavesInit (Ok x) done = IsDone init_operations done []
LeavesInit (Err e) done = (next : Op) × (rest : List Op) × IsDone init_operations done (next ∷ rest)

-- ---- what a command comes to

-- the bytes of a lock
abbrev pub lock_text : List ℕ
lock_text = codes "hg-store"

-- the changeset that the input is a record of, or its first fault, where the input is told
abbrev pub Gave : Option (List ℕ) → Result NewChange InputFault → Type 0
Gave left given = IfSome left (λ bytes. Gives is_memory (λ change. change) given (read_record bytes))

-- the changesets of which the input has the records, or its first fault
abbrev pub GaveImport : Option (List ℕ) → Result (List NewChange) InputFault → Type 0
GaveImport left given = IfSome left (λ bytes. Gives is_memory (λ changes. changes) given (read_import bytes))

-- The command that is carried out; that of a commit or an import is on the input.
abbrev pub IsCommandOf : Job → Option (List ℕ) → Command → Type 0
IsCommandOf do_init left command = ⊥
IsCommandOf do_recover left command = ⊥
IsCommandOf do_commit left command = (change : NewChange) × (command ≡ commands.Commit change) × Gave left (Ok change)
IsCommandOf do_import left command = (changes : List NewChange) × (command ≡ commands.Import changes) × GaveImport left (Ok changes)
IsCommandOf (do_move rev phase force) left command = command ≡ commands.Move rev phase force
IsCommandOf (do_mark name rev) left command = command ≡ commands.Mark name rev
IsCommandOf (do_unmark name) left command = command ≡ commands.Unmark name

-- a commit and an import read the input
abbrev pub ReadsInput : Job → Type 0
ReadsInput do_init = ⊥
ReadsInput do_commit = ⊤
ReadsInput do_import = ⊤
ReadsInput do_recover = ⊥
ReadsInput (do_move rev phase force) = ⊥
ReadsInput (do_mark name rev) = ⊥
ReadsInput (do_unmark name) = ⊥

-- the input that they read has this fault
abbrev pub GaveFault : Job → Option (List ℕ) → InputFault → Type 0
GaveFault do_init left fault = ⊥
GaveFault do_commit left fault = Gave left (Err fault)
GaveFault do_import left fault = GaveImport left (Err fault)
GaveFault do_recover left fault = ⊥
GaveFault (do_move rev phase force) left fault = ⊥
GaveFault (do_mark name rev) left fault = ⊥
GaveFault (do_unmark name) left fault = ⊥

-- Where `requires` is of the profile, a writer answers; else nothing is done.
abbrev pub IsAllowed : Command → Option (List Op) → Option (List Op) → Tree → Result Answer ReadAnswer → Type 0
IsAllowed command old new start (Ok answer) = OfTree old start (λ t. required_in t ≡ Ok tt) × GoesOn old new (IsWritten lock_text command (tree_now old start) answer)
IsAllowed command old new start (Err refusal) = OfTree old start (λ t. Gives is_of_outside (λ x. x) (Err refusal) (required_in t)) × (new ≡ old)

-- What a command came to of these files, and what it did to them. A repository is made only where none stands, and where it is not
-- made, not all was done. An input that failed or has no record, and then what `requires` says, are looked at before a file is changed. What a writer does, and what recovering does, is what the contracts of these calls say.
abbrev pub ComesTo : Job → Option (List ℕ) → Option (List Op) → Option (List Op) → Tree → Ended → Type 0
ComesTo job left old new start Made = (job ≡ do_init) × OfTree old start (λ t. t requires_path ≡ None) × GoesOn old new (λ ops. IsDone init_operations ops [])
ComesTo job left old new start Exists = (job ≡ do_init) × OfTree old start (λ t. IsSome (t requires_path)) × (new ≡ old)
ComesTo job left old new start (NotMade fault) = (job ≡ do_init) × ((new ≡ old) ⊎ (OfTree old start (λ t. t requires_path ≡ None) × GoesOn old new (LeavesInit (Err fault))))
ComesTo job left old new start NoInput = ReadsInput job × (new ≡ old)
ComesTo job left old new start (NoRecord fault) = GaveFault job left fault × (new ≡ old)
ComesTo job left old new start (Refused refusal) = (command : Command) × IsCommandOf job left command × OfTree old start (λ t. Gives is_of_outside (λ x. x) (Err refusal) (required_in t)) × (new ≡ old)
ComesTo job left old new start (Answered command answer) = IsCommandOf job left command × OfTree old start (λ t. required_in t ≡ Ok tt) × GoesOn old new (IsWritten lock_text command (tree_now old start) answer)
ComesTo job left old new start (Recovered r) =
    (job ≡ do_recover) × IfSome old (λ log. Answers (answer_in (after_all log start)) r.outcome) × GoesOn old new (RecoversBy (tree_now old start) r.outcome r.swept)

-- A writer answers so only where a count rose.
pub record AnswerHasCause (faults_old faults_new denied_old denied_new : ℕ) (outcome : Outcome) : Type 0 where
  pub fault : outcome ≡ outcomes.Fault → Rose faults_old faults_new
  pub unfinished : (published : Published) → outcome ≡ outcomes.Unfinished published → Rose faults_old faults_new ⊎ Rose denied_old denied_new

abbrev pub AllowedHasCause : ℕ → ℕ → ℕ → ℕ → Result Answer ReadAnswer → Type 0
AllowedHasCause faults_old faults_new denied_old denied_new (Ok answer) = AnswerHasCause faults_old faults_new denied_old denied_new answer.outcome
AllowedHasCause faults_old faults_new denied_old denied_new (Err refusal) = refusal ≡ Fault → Rose faults_old faults_new

-- So does recovering.
pub record RecoveredHasCause (faults_old faults_new denied_old denied_new : ℕ) (outcome : RecoverAnswer) : Type 0 where
  pub fault : outcome ≡ recoveries.Fault → Rose faults_old faults_new
  pub unfinished : outcome ≡ recoveries.Unfinished → Rose faults_old faults_new ⊎ Rose denied_old denied_new

-- A command ends so only where a count of the files rose, or that of the input.
abbrev pub HasCause : ℕ → ℕ → ℕ → ℕ → ℕ → ℕ → Ended → Type 0
HasCause faults_old faults_new denied_old denied_new input_old input_new Made = ⊤
HasCause faults_old faults_new denied_old denied_new input_old input_new Exists = ⊤
HasCause faults_old faults_new denied_old denied_new input_old input_new (NotMade Failed) = Rose faults_old faults_new
HasCause faults_old faults_new denied_old denied_new input_old input_new (NotMade NoMemory) = ⊤
HasCause faults_old faults_new denied_old denied_new input_old input_new NoInput = Rose input_old input_new
HasCause faults_old faults_new denied_old denied_new input_old input_new (NoRecord fault) = ⊤
HasCause faults_old faults_new denied_old denied_new input_old input_new (Refused refusal) = refusal ≡ Fault → Rose faults_old faults_new
HasCause faults_old faults_new denied_old denied_new input_old input_new (Answered command answer) = AnswerHasCause faults_old faults_new denied_old denied_new answer.outcome
HasCause faults_old faults_new denied_old denied_new input_old input_new (Recovered r) = RecoveredHasCause faults_old faults_new denied_old denied_new r.outcome

-- One call was refused where recovering could not read, where it broke off, and where it left files over.
abbrev pub refusals_of_recovered : RecoverAnswer → Bool → ℕ
refusals_of_recovered recoveries.Fault swept = 1
refusals_of_recovered recoveries.Unfinished swept = 1
refusals_of_recovered recoveries.Restored swept = refusals_of_left swept
refusals_of_recovered recoveries.NothingToDo swept = refusals_of_left swept
refusals_of_recovered (recoveries.Damaged damage) swept = refusals_of_left swept
refusals_of_recovered recoveries.Memory swept = refusals_of_left swept

-- What a writer did is what its answer says, and as many calls were refused as its outcome tells of, and one more for each file that it
-- leaves behind.
abbrev pub LeavesEach : (ℕ → Type 0) → Option (List Op) → Option (List Op) → Tree → Command → Answer → Type 0
LeavesEach AreRefused old new start command answer =
    GoesOn old new (λ done. (changeset : Option (ℕ × Node)) × IsWrittenFor lock_text command (tree_now old start) answer changeset done × AreRefused (refusals_with (is_some old) answer.outcome changeset (tree_now old start) done))

-- where recovering removes what is left over, as many calls were refused as locks and strays stand behind it
abbrev pub RecoveredLeavesEach : (ℕ → Type 0) → Option (List Op) → Option (List Op) → Tree → RecoverAnswer → Type 0
RecoveredLeavesEach AreRefused old new start outcome = WhereSwept outcome (GoesOn old new (λ done. AreRefused (how_many_stand leftover_paths (after_all done (tree_now old start)))))

-- As many calls on the files were refused as a writer's answer tells of, or as what recovering came to; and one for each file that is
-- left behind.
abbrev pub LeftHasCause : (ℕ → Type 0) → Option (List Op) → Option (List Op) → Tree → Ended → Type 0
LeftHasCause AreRefused old new start (Answered command answer) = AreRefused (refusals_of (is_some old) answer) × LeavesEach AreRefused old new start command answer
LeftHasCause AreRefused old new start (Recovered r) = AreRefused (refusals_of_recovered r.outcome r.swept) × RecoveredLeavesEach AreRefused old new start r.outcome
LeftHasCause AreRefused old new start ended = ⊤

-- a run that does a job says what it came to
abbrev pub Does : (ℕ → Type 0) → Job → Option (List ℕ) → Option (List Op) → Option (List Op) → Tree → ℕ → Option (List ℕ) → Option (List ℕ) → Type 0
Does AreRefused job left old new start status written_old written_new =
    (ended : Ended) × ComesTo job left old new start ended × LeftHasCause AreRefused old new start ended × EndsLine (ended_text ended) (ended_status ended) status written_old written_new

-- ---- a generated repository

-- The report of the grown repository was made, and its counts are told behind the last node; or there is none. Where a commit left
-- something over, a line more says so.
abbrev pub TellsSummary : Tip → ℕ → Option (List ℕ) → Option (List ℕ) → Tree → Type 0
TellsSummary tip status written_old written_new t =
    IsReportable t
    × (findings : List Finding) × (changesets : ℕ) × (filelogs : ℕ) × IsReport t findings changesets filelogs × EndsLine (summary_text findings changesets filelogs tip.node ++ leftover_text tip.swept) (report_status findings) status written_old written_new

abbrev pub RefusesSummary : Bool → Option (List Op) → Tree → ℕ → Option (List ℕ) → Option (List ℕ) → Type 0
RefusesSummary swept log start status written_old written_new =
    (refusal : ReadAnswer) × (is_refusal refusal ≡ true) × OfTree log start (IsWhy refusal) × EndsLine (refusal_line refusal ++ leftover_text swept) (status_of refusal) status written_old written_new

abbrev pub Summarizes : Tip → Option (List Op) → Tree → ℕ → Option (List ℕ) → Option (List ℕ) → Type 0
Summarizes tip log start status written_old written_new = OfTree log start (TellsSummary tip status written_old written_new) ⊎ RefusesSummary tip.swept log start status written_old written_new

-- the answer to a commit, and whether it or one before it left something over
abbrev pub answer_behind : Bool → Answer → Answer
answer_behind swept answer = record answer { swept = answer.swept && swept }

-- What is said of the commits: where all are done, what they came to; else the answer of the one that is not, and as many calls were
-- refused as it tells of. Where commits left something over one call more was.
abbrev pub TellsGrown : (ℕ → Type 0) → Bool → Result Tip Stop → Option (List Op) → Tree → ℕ → Option (List ℕ) → Option (List ℕ) → Type 0
TellsGrown AreRefused told (Ok tip) log start status written_old written_new = AreRefused (refusals_of_left tip.swept) × Summarizes tip log start status written_old written_new
TellsGrown AreRefused told (Err (stops.Memory swept)) log start status written_old written_new = AreRefused (refusals_of_left swept) × EndsLine (memory_line ++ leftover_text swept) 30 status written_old written_new
TellsGrown AreRefused told (Err (stops.Answered command answer swept)) log start status written_old written_new =
    AreRefused (refusals_of told answer + refusals_of_left swept) × EndsLine (answer_text command (answer_behind swept answer)) (answer_status answer.outcome) status written_old written_new

-- the commits are made one after another, and then all is verified
abbrev pub Grows : (ℕ → Type 0) → ℕ → ℕ → Option (List Op) → Option (List Op) → Tree → ℕ → Option (List ℕ) → Option (List ℕ) → Type 0
Grows AreRefused seed count old new start status written_old written_new =
    (grown : Result Tip Stop) × GoesOn old new (GrowsTo lock_text seed count grown (tree_now old start)) × TellsGrown AreRefused (is_some old) grown new start status written_old written_new

abbrev pub IsNotMade : Ended → Type 0
IsNotMade Made = ⊥
IsNotMade ended = ⊤

-- A repository is made as by `init`, and where it is, it grows.
abbrev pub Generates : (ℕ → Type 0) → ℕ → ℕ → Option (List Op) → Option (List Op) → Tree → ℕ → Option (List ℕ) → Option (List ℕ) → Type 0
Generates AreRefused seed count old new start status written_old written_new =
    ((ended : Ended) × ComesTo do_init None old new start ended × IsNotMade ended × EndsLine (ended_text ended) (ended_status ended) status written_old written_new)
    ⊎ ((made : Option (List Op)) × ComesTo do_init None old made start Made × Grows AreRefused seed count made new start status written_old written_new)

-- A run that has something to do does it, and as many calls are refused as its answer tells of; a question, and words that don't fit,
-- change no file.
abbrev pub Obeys : (ℕ → Type 0) → Result Request ℕ → Option (List ℕ) → Option (List Op) → Option (List Op) → Tree → ℕ → Option (List ℕ) → Option (List ℕ) → Type 0
Obeys AreRefused (Ok (to_do job)) left old new start status written_old written_new = Does AreRefused job left old new start status written_old written_new
Obeys AreRefused (Ok (to_answer question)) left old new start status written_old written_new = new ≡ old
Obeys AreRefused (Ok to_play) left old new start status written_old written_new = new ≡ old
Obeys AreRefused (Ok to_session) left old new start status written_old written_new = ⊤
Obeys AreRefused (Ok (to_verify jobs)) left old new start status written_old written_new = new ≡ old
Obeys AreRefused (Ok (to_generate seed count)) left old new start status written_old written_new = Generates AreRefused seed count old new start status written_old written_new
Obeys AreRefused (Err place) left old new start status written_old written_new = new ≡ old

-- only a commit and an import read the input
abbrev pub LeavesInput : Job → Option (List ℕ) → Option (List ℕ) → ℕ → ℕ → Type 0
LeavesInput do_commit old new faults_old faults_new = ⊤
LeavesInput do_import old new faults_old faults_new = ⊤
LeavesInput job old new faults_old faults_new = (new ≡ old) × (faults_new ≡ faults_old)

abbrev pub KeepsInput : Result Request ℕ → Option (List ℕ) → Option (List ℕ) → ℕ → ℕ → Type 0
KeepsInput (Ok (to_do job)) old new faults_old faults_new = LeavesInput job old new faults_old faults_new
KeepsInput (Ok (to_answer question)) old new faults_old faults_new = (new ≡ old) × (faults_new ≡ faults_old)
KeepsInput (Ok to_play) old new faults_old faults_new = ⊤
KeepsInput (Ok to_session) old new faults_old faults_new = ⊤
KeepsInput (Ok (to_verify jobs)) old new faults_old faults_new = (new ≡ old) × (faults_new ≡ faults_old)
KeepsInput (Ok (to_generate seed count)) old new faults_old faults_new = (new ≡ old) × (faults_new ≡ faults_old)
KeepsInput (Err place) old new faults_old faults_new = (new ≡ old) × (faults_new ≡ faults_old)

-- the input was read to its end, where it is told
abbrev pub IsAtEnd : Option (List ℕ) → Type 0
IsAtEnd left = IfSome left (λ bytes. bytes ≡ [])

-- a commit or an import is done only where its input was read to its end
abbrev pub IsReadBy : Job → ℕ → Option (List ℕ) → Type 0
IsReadBy do_commit status left = status ≡ 0 → IsAtEnd left
IsReadBy do_import status left = status ≡ 0 → IsAtEnd left
IsReadBy job status left = ⊤

-- so is all that reads an input
abbrev pub IsRead : Result Request ℕ → ℕ → Option (List ℕ) → Type 0
IsRead (Ok (to_do job)) status left = IsReadBy job status left
IsRead (Ok to_play) status left = status ≡ 0 → IsAtEnd left
IsRead (Ok to_session) status left = status ≡ 0 → IsAtEnd left
IsRead asked status left = ⊤
