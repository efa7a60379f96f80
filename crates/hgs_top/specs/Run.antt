-- What the top call leaves.
use Rattle.std.specs.Prelude.{◌≡◌, ◌<◌, ◌⊎◌, ℕ, true, length, List, [], ◌∷◌, ◌++◌, take, Option, Some, None, Result, Ok, Err, IfSome, ⊤, codes, decimal}
use Rattle.std.specs.Bool.{MatchBool}
use Rattle.hgs_files.specs.declared.op.Op.{Op}
use Rattle.hgs_files.specs.declared.streams.IoFault.{IoFault}
use Rattle.hgs_files.specs.declared.streams.IoFault.TheVariants as io_faults
use Rattle.hgs_files.specs.Streams.{IsWritten}
use Rattle.hgs_files.specs.Tree.{Tree, after_all}
use Rattle.hgs_load.specs.declared.answer.ReadAnswer.{ReadAnswer}
use Rattle.hgs_load.specs.declared.answer.ReadAnswer.TheVariants.{Fault, Memory}
use Rattle.hgs_load.specs.Answer.{status_of, refusal_line, is_of_outside}
use Rattle.hgs_top.specs.declared.stopped.Stopped.{Stopped}
use Rattle.hgs_top.specs.declared.stopped.Stopped.TheVariants.{Refused, Unwritten}
use Rattle.hgs_top.specs.declared.stopped.Said.{Said}
use Rattle.hgs_top.specs.declared.stopped.Said.TheVariants.{Whole, UnknownRevision, BadSet}
use Rattle.hgs_top.specs.Outcome.{Outcome, Reply, told, unknown_revision, bad_set, its_files, its_file, its_phase, log_outcome, listing_outcome, contents_reply}
use Rattle.hgs_top.specs.declared.listing.Listing.TheVariants.{Heads, Bookmarks, Parents}
use Rattle.hgs_revset.specs.Members.{Set}
use Rattle.hgs_revset.specs.Read.{read_set}
use Rattle.hgs_revset.specs.declared.fault.SetFault.{SetFault}
use Rattle.hgs_top.specs.Branches.{branches_outcome}
use Rattle.hgs_top.specs.Pages.{page_outcome}
use Rattle.hgs_top.specs.Sets.{set_refused, set_reply}
use Rattle.hgs_top.specs.Words.{Question, ask_page, ask_log, ask_heads, ask_bookmarks, ask_parents, ask_files, ask_cat, ask_phase, ask_set, ask_branches, Request, to_answer, to_do, to_play, to_session, to_verify, to_generate}
use Rattle.hgs_findings.specs.Findings.{Finding, IsReport}
use Rattle.hgs_load.specs.Open.{requires_path}
use Rattle.hgs_load.specs.Requirements.{requires_answer}
use Rattle.hgs_verify.specs.Parts.{HaveShortLogs}
use Rattle.hgs_verify.specs.Refusal.{is_refusal, IsWhy, PassesNone, required_in}
use Rattle.hgs_top.specs.Verified.{report_status, report_text}

-- a front of these bytes was written at the end
abbrev pub IsFrontWritten : Option (List ℕ) → Option (List ℕ) → List ℕ → Type 0
IsFrontWritten old new bytes = (n : ℕ) × IsWritten old new (take n bytes)

-- a front of these bytes that is not all of them was written at the end
abbrev pub IsCut : Option (List ℕ) → Option (List ℕ) → List ℕ → Type 0
IsCut old new bytes = (n : ℕ) × (n < length bytes) × IsWritten old new (take n bytes)

-- this holds of the tree that the log leads to, where it is told
abbrev pub OfTree : Option (List Op) → Tree → (Tree → Type 0) → Type 0
OfTree log start Holds = IfSome log (λ l. Holds (after_all l start))

-- ---- a question over files at rest

-- The question was written to its end, or up to its refusal; or the files failed or there was no memory, and a front of it was written; or the sink failed, and did not take all of it.
abbrev pub IsTold : Outcome → Option (List ℕ) → Option (List ℕ) → Result Unit Stopped → Type 0
IsTold o old new (Ok x) = (o.refusal ≡ None) × IsWritten old new o.text
IsTold o old new (Err (Refused e)) = MatchBool (is_of_outside e) (IsFrontWritten old new o.text) ((o.refusal ≡ Some e) × IsWritten old new o.text)
IsTold o old new (Err (Unwritten f)) = IsCut old new o.text

-- the same where the last bytes were gathered and are not written yet
abbrev pub IsGathered : Outcome → Option (List ℕ) → Option (List ℕ) → List ℕ → Result Unit Stopped → Type 0
IsGathered o old new gathered (Ok x) = (done : List ℕ) × IsWritten old new done × (done ++ gathered ≡ o.text) × (o.refusal ≡ None)
IsGathered o old new gathered (Err (Refused e)) =
    (done : List ℕ) × IsWritten old new done × (rest : List ℕ) × (done ++ gathered ++ rest ≡ o.text) × MatchBool (is_of_outside e) ⊤ ((rest ≡ []) × (o.refusal ≡ Some e))
IsGathered o old new gathered (Err (Unwritten f)) = IsCut old new o.text

abbrev pub IsUnwritten : Stopped → Type 0
IsUnwritten (Refused e) = ⊥
IsUnwritten (Unwritten f) = ⊤

-- stopped at this refusal with all of the bytes written, or at the sink, which did not take all of them
abbrev pub StopsAt : Stopped → ReadAnswer → Option (List ℕ) → Option (List ℕ) → List ℕ → Type 0
StopsAt (Refused e) refusal old new bytes = (e ≡ refusal) × IsWritten old new bytes
StopsAt (Unwritten f) refusal old new bytes = IsCut old new bytes

-- the same of a reply: its text was told, or a name names no revision or the text is no set and nothing was written
abbrev pub IsReplied : Reply → Option (List ℕ) → Option (List ℕ) → Result Said Stopped → Type 0
IsReplied (told o) old new (Ok Whole) = IsTold o old new (Ok tt)
IsReplied (told o) old new (Ok UnknownRevision) = ⊥
IsReplied (told o) old new (Ok (BadSet place)) = ⊥
IsReplied (told o) old new (Err e) = IsTold o old new (Err e)
IsReplied unknown_revision old new (Ok Whole) = ⊥
IsReplied unknown_revision old new (Ok UnknownRevision) = new ≡ old
IsReplied unknown_revision old new (Ok (BadSet place)) = ⊥
IsReplied unknown_revision old new (Err (Refused e)) = MatchBool (is_of_outside e) (new ≡ old) ⊥
IsReplied unknown_revision old new (Err (Unwritten f)) = ⊥
IsReplied (bad_set place) old new (Ok Whole) = ⊥
IsReplied (bad_set place) old new (Ok UnknownRevision) = ⊥
IsReplied (bad_set place) old new (Ok (BadSet at)) = (at ≡ place) × (new ≡ old)
IsReplied (bad_set place) old new (Err (Refused e)) = MatchBool (is_of_outside e) (new ≡ old) ⊥
IsReplied (bad_set place) old new (Err (Unwritten f)) = ⊥

-- ---- the whole run

abbrev pub status_of_sink : IoFault → ℕ
status_of_sink io_faults.Failed = 19
status_of_sink io_faults.Memory = 30

abbrev pub ending_of : Option ReadAnswer → List ℕ
ending_of None = []
ending_of (Some e) = refusal_line e

abbrev pub status_of_ending : Option ReadAnswer → ℕ
status_of_ending None = 0
status_of_ending (Some e) = status_of e

abbrev pub fault_line : List ℕ
fault_line = refusal_line Fault

abbrev pub memory_line : List ℕ
memory_line = refusal_line Memory

-- a front of the text was written, and this line behind it
abbrev pub EndsBehind : List ℕ → List ℕ → Option (List ℕ) → Option (List ℕ) → Type 0
EndsBehind text line old new = (n : ℕ) × IsWritten old new (take n text ++ line)

-- such a front and the line behind it were to be written, and the sink did not take all of it
abbrev pub IsCutBehind : List ℕ → List ℕ → Option (List ℕ) → Option (List ℕ) → Type 0
IsCutBehind text line old new = (n : ℕ) × IsCut old new (take n text ++ line)

-- A run that wants to write this text, this ending and give this status has done so. Or the files failed, or there was no memory, which the last line and
-- the status say. Or the sink failed or had no memory, did not take all of what was to be written, and nothing was written since.
abbrev pub Ends : Type 0 → List ℕ → List ℕ → ℕ → ℕ → Option (List ℕ) → Option (List ℕ) → Type 0
Ends Faulted text ending wanted status old new =
    ((status ≡ wanted) × IsWritten old new (text ++ ending))
    ⊎ (((status ≡ 16) × Faulted × EndsBehind text fault_line old new)
    ⊎ (((status ≡ 30) × EndsBehind text memory_line old new)
    ⊎ (((status ≡ 19) ⊎ (status ≡ 30))
    × (IsCut old new (text ++ ending) ⊎ ((Faulted × IsCutBehind text fault_line old new) ⊎ IsCutBehind text memory_line old new)))))

-- The run answered the question, with its refusal's line behind its text, unless the outside failed.
abbrev pub Answered : Type 0 → Outcome → ℕ → Option (List ℕ) → Option (List ℕ) → Type 0
Answered Faulted o status old new = Ends Faulted o.text (ending_of o.refusal) (status_of_ending o.refusal) status old new

abbrev pub bad_word_line : ℕ → List ℕ
bad_word_line place = codes "abort: bad word " ++ decimal place ++ 10 ∷ []

-- The end of a run: all of this line was written and the status is this; or there was no memory for it, which is said in its place; or the sink did not take all
-- of what was to be written.
abbrev pub EndsLine : List ℕ → ℕ → ℕ → Option (List ℕ) → Option (List ℕ) → Type 0
EndsLine line wanted status old new =
    ((status ≡ wanted) × IsWritten old new line)
    ⊎ (((status ≡ 30) × IsWritten old new memory_line)
    ⊎ (((status ≡ 19) ⊎ (status ≡ 30)) × (IsCut old new line ⊎ IsCut old new memory_line)))

-- the words don't fit, and this is said
abbrev pub SaysBadWord : ℕ → ℕ → Option (List ℕ) → Option (List ℕ) → Type 0
SaysBadWord place status old new = EndsLine (bad_word_line place) 28 status old new

abbrev pub unknown_line : List ℕ
unknown_line = codes "abort: unknown revision" ++ 10 ∷ []

abbrev pub bad_set_line : ℕ → List ℕ
bad_set_line place = codes "abort: bad set at " ++ decimal place ++ 10 ∷ []

-- what is said at the end of a command, and its status: nothing where it came to its end or the sink takes no more, else the line of its refusal
abbrev pub Concludes : Result Said Stopped → Option (List ℕ) → Option (List ℕ) → ℕ → Type 0
Concludes (Ok Whole) old new status = (status ≡ 0) × (new ≡ old)
Concludes (Ok UnknownRevision) old new status = EndsLine unknown_line 12 status old new
Concludes (Ok (BadSet place)) old new status = EndsLine (bad_set_line place) 33 status old new
Concludes (Err (Refused e)) old new status = EndsLine (refusal_line e) (status_of e) status old new
Concludes (Err (Unwritten f)) old new status = (status ≡ status_of_sink f) × (new ≡ old)

-- The run replied to the question: it answered it, or said that a name names no revision, or where the text is no set, unless the outside failed.
abbrev pub Replied : Type 0 → Reply → ℕ → Option (List ℕ) → Option (List ℕ) → Type 0
Replied Faulted (told o) status old new = Answered Faulted o status old new
Replied Faulted unknown_revision status old new = Ends Faulted [] unknown_line 12 status old new
Replied Faulted (bad_set place) status old new = Ends Faulted [] (bad_set_line place) 33 status old new

-- the reply over files in this tree
abbrev pub reply_to : Question → Tree → Reply
reply_to (ask_page page) t = told (page_outcome page)
reply_to ask_log t = told (log_outcome t)
reply_to ask_heads t = told (listing_outcome Heads t)
reply_to ask_bookmarks t = told (listing_outcome Bookmarks t)
reply_to ask_parents t = told (listing_outcome Parents t)
reply_to (ask_files rev) t = contents_reply rev its_files t
reply_to (ask_cat rev path) t = contents_reply rev (its_file path) t
reply_to (ask_phase rev) t = contents_reply rev its_phase t
reply_to (ask_set text) t = set_reply (read_set text) t
reply_to (ask_branches steps) t = told (branches_outcome t)

-- What no file decides holds as it is; what the files decide, over the tree that the log leads to, where it is told.
abbrev pub OfSet : Result Set SetFault → Option (List Op) → Tree → (Reply → Type 0) → Type 0
OfSet (Err fault) log start Holds = Holds (set_refused fault)
OfSet (Ok a) log start Holds = OfTree log start (λ t. Holds (set_reply (Ok a) t))

-- This holds of the reply to the question over the tree that the log leads to, where it is told. A page has one reply, whatever stands in the files, and so has a text that is no set.
abbrev pub OfReply : Question → Option (List Op) → Tree → (Reply → Type 0) → Type 0
OfReply (ask_page page) log start Holds = Holds (told (page_outcome page))
OfReply (ask_set text) log start Holds = OfSet (read_set text) log start Holds
OfReply question log start Holds = OfTree log start (λ t. Holds (reply_to question t))

-- ---- a report

-- what a tree has of which a report is given: it requires the profile, and no part of it passes a limit
pub record IsReportable (t : Tree) : Type 0 where
  pub required : requires_answer (t requires_path) ≡ Ok tt
  pub profile : required_in t ≡ Ok tt
  pub short : HaveShortLogs t
  pub limits : PassesNone t

-- The report of a tree of the profile that passes no limit: all findings and no others, in order, each once, and both counts. The status is 29 where there is a finding, else 0.
abbrev pub TellsReport : ℕ → Option (List ℕ) → Option (List ℕ) → Tree → Type 0
TellsReport status old new t =
    IsReportable t
    × (findings : List Finding) × (changesets : ℕ) × (filelogs : ℕ) × IsReport t findings changesets filelogs × EndsLine (report_text findings changesets filelogs) (report_status findings) status old new

-- No report was made: the files failed, one passes a limit, no repository of the profile stands here, or there was no memory.
abbrev pub RefusesReport : Type 0 → Option (List Op) → Tree → ℕ → Option (List ℕ) → Option (List ℕ) → Type 0
RefusesReport Faulted log start status old new =
    (refusal : ReadAnswer) × (is_refusal refusal ≡ true) × (refusal ≡ Fault → Faulted) × OfTree log start (IsWhy refusal) × EndsLine (refusal_line refusal) (status_of refusal) status old new

-- A run that verifies tells the report of the tree that the log leads to, where it is told, or why there is none.
abbrev pub Verifies : Type 0 → Option (List Op) → Tree → ℕ → Option (List ℕ) → Option (List ℕ) → Type 0
Verifies Faulted log start status old new = OfTree log start (TellsReport status old new) ⊎ RefusesReport Faulted log start status old new

-- What a run leaves in the sink that answers a question or verifies, or whose words don't fit, by whether the files failed.
abbrev pub Says : Type 0 → Result Request ℕ → Option (List Op) → Tree → ℕ → Option (List ℕ) → Option (List ℕ) → Type 0
Says Faulted (Ok (to_answer question)) log start status old new = OfReply question log start (λ reply. Replied Faulted reply status old new)
Says Faulted (Ok (to_do job)) log start status old new = ⊤
Says Faulted (Ok to_play) log start status old new = ⊤
Says Faulted (Ok to_session) log start status old new = ⊤
Says Faulted (Ok (to_verify jobs)) log start status old new = Verifies Faulted log start status old new
Says Faulted (Ok (to_generate seed count)) log start status old new = ⊤
Says Faulted (Err place) log start status old new = SaysBadWord place status old new

-- one of these
abbrev pub IsOneOf : List ℕ → ℕ → Type 0
IsOneOf [] n = ⊥
IsOneOf (x ∷ xs) n = (n ≡ x) ⊎ IsOneOf xs n
