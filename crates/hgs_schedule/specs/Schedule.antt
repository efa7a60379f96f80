-- The bytes that are a schedule.
use Rattle.std.specs.Prelude.{◌≡◌, ◌≤◌, ◌<◌, ◌^◌, ◌⊎◌, ⊤, ℕ, Bool, true, false, List, [], ◌∷◌, ◌++◌, length, Some, None, codes, decimal, map}
use Rattle.std.specs.List.{AllByRecursion, concat}
use Rattle.hgs_bytes.specs.Text.{Lacks, line}
use Rattle.hgs_model.specs.declared.command.NewChange.{NewChange}
use Rattle.hgs_model.specs.declared.command.Command.{Command}
use Rattle.hgs_model.specs.declared.command.Command.TheVariants.{Commit, Import, Move, Mark, Unmark}
use Rattle.hgs_index.specs.MarkName.{is_mark_name}
use Rattle.hgs_model.specs.Phase.{phase_name}
use Rattle.hgs_model.specs.Valid.{IsNewChange, IsValid}
use Rattle.hgs_input.specs.Import.{IsImportText, import_text}
use Rattle.hgs_input.specs.Record.{Wording, most_input, record_text}
use Rattle.hgs_schedule.specs.declared.event.Event.{Event}
use Rattle.hgs_schedule.specs.declared.event.Event.TheVariants.{Begin, Write, Fail, UntilPublish, UntilClean, Finish, Open, Read, Load, Log, Cat, Phase, Bookmarks, Stop, Recover}
use Rattle.hgs_schedule.specs.declared.event.Schedule.{Schedule}
use Rattle.hgs_schedule.specs.Read.{most_readers, readers_of, event_of}

-- the text is a line that says this event
pub record IsLineOf (readers : ℕ) (text : List ℕ) (event : Event) : Type 0 where
  pub said : List ℕ
  pub is : text ≡ line said
  pub lacks : Lacks 10 said
  pub says : event_of readers said ≡ Some event

-- the text is a line and a record, with whose changeset a commit begins
pub record IsCommitOf (text : List ℕ) (event : Event) : Type 0 where
  pub says : Wording
  pub change : NewChange
  pub is : text ≡ line (codes "begin commit") ++ record_text says change
  pub valid : IsNewChange change
  pub begins : Begin (Commit change) ≡ event

-- the text is a line and the records of an import, with whose changesets it begins
pub record IsImportOf (text : List ℕ) (event : Event) : Type 0 where
  pub records : List ℕ
  pub changes : List NewChange
  pub is : text ≡ line (codes "begin import") ++ records
  pub are : IsImportText records changes
  pub begins : Begin (Import changes) ≡ event

abbrev pub IsEventText : ℕ → List ℕ → Event → Type 0
IsEventText readers text event = IsLineOf readers text event ⊎ (IsCommitOf text event ⊎ IsImportOf text event)

-- each text is that of one event, in order
abbrev pub AreEventTexts : ℕ → List (List ℕ) → List Event → Type 0
AreEventTexts readers [] [] = ⊤
AreEventTexts readers [] (event ∷ events) = ⊥
AreEventTexts readers (text ∷ texts) [] = ⊥
AreEventTexts readers (text ∷ texts) (event ∷ events) = IsEventText readers text event × AreEventTexts readers texts events

-- the bytes are a schedule: the line of its readers, the texts of its events, its last line, and no more than an input may have
pub record IsSchedule (bytes : List ℕ) (s : Schedule) : Type 0 where
  pub first : List ℕ
  pub texts : List (List ℕ)
  pub is : bytes ≡ line first ++ (concat texts ++ line (codes "end"))
  pub lacks : Lacks 10 first
  pub readers : readers_of first ≡ Some s.readers
  pub events : AreEventTexts s.readers texts s.events
  pub size : length bytes ≤ most_input

-- an event that can come where there are so many readers: its command is one that can be given, a part of an operation has a byte, and the reader is one of them
abbrev pub CanCome : ℕ → Event → Type 0
CanCome readers (Begin command) = IsValid command
CanCome readers (Write None) = ⊤
CanCome readers (Write (Some count)) = 1 ≤ count
CanCome readers (Fail count) = ⊤
CanCome readers UntilPublish = ⊤
CanCome readers UntilClean = ⊤
CanCome readers Finish = ⊤
CanCome readers (Open reader) = reader < readers
CanCome readers (Read reader) = reader < readers
CanCome readers (Load reader) = reader < readers
CanCome readers (Log reader) = reader < readers
CanCome readers (Cat reader rev path) = reader < readers
CanCome readers (Phase reader rev) = reader < readers
CanCome readers (Bookmarks reader) = reader < readers
CanCome readers (Stop count) = ⊤
CanCome readers Recover = ⊤

-- 1 to 64 readers, and events that can come
pub record CanBePlayed (s : Schedule) : Type 0 where
  pub least : 1 ≤ s.readers
  pub most : s.readers ≤ most_readers
  pub events : AllByRecursion (CanCome s.readers) s.events

-- ---- how a schedule is written

abbrev pub force_text : Bool → List ℕ
force_text true = codes " force"
force_text false = []

abbrev pub begin_line : Command → List ℕ
begin_line (Commit change) = codes "begin commit"
begin_line (Import changes) = codes "begin import"
begin_line (Move rev phase force) = codes "begin phase " ++ (rev ++ 32 ∷ (phase_name phase ++ force_text force))
begin_line (Mark name rev) = codes "begin bookmark " ++ (rev ++ 32 ∷ name)
begin_line (Unmark name) = codes "begin unbookmark " ++ name

-- the line of an event
abbrev pub event_line : Event → List ℕ
event_line (Begin command) = begin_line command
event_line (Write None) = codes "write"
event_line (Write (Some count)) = codes "write " ++ decimal count
event_line (Fail count) = codes "fail " ++ decimal count
event_line UntilPublish = codes "until publish"
event_line UntilClean = codes "until clean"
event_line Finish = codes "finish"
event_line (Open reader) = codes "open " ++ decimal reader
event_line (Read reader) = codes "read " ++ decimal reader
event_line (Load reader) = codes "load " ++ decimal reader
event_line (Log reader) = codes "log " ++ decimal reader
event_line (Cat reader rev path) = codes "cat " ++ (decimal reader ++ 32 ∷ (rev ++ 32 ∷ path))
event_line (Phase reader rev) = codes "phase " ++ (decimal reader ++ 32 ∷ rev)
event_line (Bookmarks reader) = codes "bookmarks " ++ decimal reader
event_line (Stop count) = codes "stop " ++ decimal count
event_line Recover = codes "recover"

-- what stands behind the line of an event: the record of a commit, or those of an import
abbrev pub records_behind : Wording → Event → List ℕ
records_behind says (Begin (Commit change)) = record_text says change
records_behind says (Begin (Import changes)) = import_text says changes
records_behind says event = []

abbrev pub event_text : Wording → Event → List ℕ
event_text says event = line (event_line event) ++ records_behind says event

-- a schedule, whose records are all worded alike
abbrev pub schedule_text : Wording → Schedule → List ℕ
schedule_text says s = line (codes "play " ++ decimal s.readers) ++ (concat (map (event_text says) s.events) ++ line (codes "end"))

-- a name in which neither a space nor LF stands
abbrev pub IsWord : List ℕ → Type 0
IsWord name = Lacks 32 name × Lacks 10 name

-- a revision is named by a word, a bookmark as a bookmark can be
abbrev pub HasWords : Command → Type 0
HasWords (Commit change) = ⊤
HasWords (Import changes) = ⊤
HasWords (Move rev phase force) = IsWord rev
HasWords (Mark name rev) = IsWord rev
HasWords (Unmark name) = is_mark_name name ≡ true

-- an event that a line can say: its numbers have 64 bits, its names are words, and its path is a line
abbrev pub CanBeWritten : Event → Type 0
CanBeWritten (Begin command) = HasWords command
CanBeWritten (Write None) = ⊤
CanBeWritten (Write (Some count)) = count < 2 ^ 64
CanBeWritten (Fail count) = count < 2 ^ 64
CanBeWritten UntilPublish = ⊤
CanBeWritten UntilClean = ⊤
CanBeWritten Finish = ⊤
CanBeWritten (Open reader) = ⊤
CanBeWritten (Read reader) = ⊤
CanBeWritten (Load reader) = ⊤
CanBeWritten (Log reader) = ⊤
CanBeWritten (Cat reader rev path) = IsWord rev × Lacks 10 path
CanBeWritten (Phase reader rev) = IsWord rev
CanBeWritten (Bookmarks reader) = ⊤
CanBeWritten (Stop count) = count < 2 ^ 64
CanBeWritten Recover = ⊤
