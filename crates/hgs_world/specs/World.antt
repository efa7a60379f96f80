-- A repository with one writer and some readers, and what each event does to it and writes.
use Rattle.std.specs.Prelude.{◌≡◌, ℕ, List, [], ◌++◌, Bool, true, false, Option, Some, None, codes, map, length, replicate, slice_get, slice_set}
use Rattle.hgs_answers.specs.declared.outcome.Outcome.{Outcome}
use Rattle.hgs_answers.specs.declared.outcome.Outcome.TheVariants as outcomes
use Rattle.hgs_files.specs.declared.op.Op.{Op}
use Rattle.hgs_files.specs.Tree.{Tree, after_all}
use Rattle.hgs_machine.specs.Asked.{Question, Doing, Sizing, Ending, asked}
use Rattle.hgs_machine.specs.Fed.{is_acknowledged, is_published, new_machine}
use Rattle.hgs_machine.specs.declared.machine.Machine.{Machine}
use Rattle.hgs_machine.specs.Planned.{IsPlanned}
use Rattle.hgs_mem.specs.Steady.{steady_log, steady_start}
use Rattle.hgs_model.specs.declared.command.Command.{Command}
use Rattle.hgs_recover.specs.Found.{answer_in}
use Rattle.hgs_recover.specs.Recovering.{RecoversBy}
use Rattle.hgs_recover.specs.declared.answer.RecoverAnswer.{RecoverAnswer}
use Rattle.hgs_recover.specs.declared.answer.RecoverAnswer.TheVariants as recoveries
use Rattle.hgs_schedule.specs.declared.event.Event.{Event}
use Rattle.hgs_schedule.specs.declared.event.Event.TheVariants.{Begin, Write, Fail, UntilPublish, UntilClean, Finish, Open, Read, Load, Log, Cat, Phase, Bookmarks, Stop, Recover}
use Rattle.hgs_writer.specs.Begun.{Begins}
use Rattle.hgs_writer.specs.declared.begin.Begun.{Begun}
use Rattle.hgs_writer.specs.declared.begin.Begun.TheVariants.{Ready, Refused}
use Rattle.hgs_writer.specs.declared.plan.Planned.{Planned}
use Rattle.hgs_load.specs.View.{View}
use Rattle.hgs_reader.specs.Shown.{marks_text}
use Rattle.hgs_world.specs.Questions.{Sight, body_text, load_line, loaded_by, loading_line, log_text, no_sight, of_last, opened, phase_text, read_by, read_line, sight_of}
use Rattle.hgs_world.specs.Book.{Commands, ended_in, no_commands, noted, taken_back, with_pending}
use Rattle.hgs_world.specs.Start.{new_tree}
use Rattle.hgs_world.specs.Texts.{begun_line, recovered_line, word_line}
use Rattle.hgs_world.specs.Working.{Acts, IsAtNext, RunsTo, StopsWithin, at_machine, line_at, publishes_with, writer_left}
use Rattle.hgs_world.specs.declared.seen.Seen.{Seen}
use Rattle.hgs_world.specs.declared.seen.Seen.TheVariants.{Text, Memory}
use Rattle.hgs_world.specs.declared.working.Deed.{Deed}
use Rattle.hgs_world.specs.declared.working.Deed.TheVariants as deeds
use Rattle.hgs_world.specs.declared.working.Goal.{Goal}
use Rattle.hgs_world.specs.declared.working.Goal.TheVariants as goals
use Rattle.hgs_world.specs.declared.working.Working.{Working}
use Rattle.hgs_world.specs.declared.state.World.{World}

-- the tree at the start and what was done since, the writer at work, the readers, the commands that were published, and whether
-- there was no memory at some event
pub record Scene : Type 0 where
  pub start : Tree
  pub log : List Op
  pub writer : Option Working
  pub readers : List Sight
  pub book : Commands
  pub spent : Bool

abbrev pub scene_of : World → Scene
scene_of w = record { start = steady_start w.files; log = steady_log w.files; writer = w.writer; readers = map sight_of w.readers.items; book = w.book; spent = w.spent }

abbrev pub tree_of : Scene → Tree
tree_of s = after_all s.log s.start

-- A new repository with nothing done yet, no writer, and so many readers that have loaded nothing.
pub record IsFirst (readers : ℕ) (s : Scene) : Type 0 where
  pub start : (path : List ℕ) → s.start path ≡ new_tree path
  pub log : s.log ≡ []
  pub writer : s.writer ≡ None
  pub readers_are : s.readers ≡ replicate readers no_sight
  pub book : s.book ≡ no_commands
  pub unspent : s.spent ≡ false

-- ---- events of the writer

-- what stands in the locks of a writer
abbrev pub who : List ℕ
who = codes "hg-store"

abbrev pub with_writer : Scene → List Op → Option Working → Scene
with_writer s done writer = record s { log = s.log ++ done; writer = writer }

-- nothing happens, and these words are written
abbrev pub OnlySays : Scene → Scene → List ℕ → List ℕ → Type 0
OnlySays old new words text = (new ≡ old) × (text ≡ word_line words)

abbrev pub IfRunning : Option Working → Type 0 → (Working → Type 0) → Type 0
IfRunning None Idle Holds = Idle
IfRunning (Some w) Idle Holds = Holds w

abbrev pub new_writer : Planned → Working
new_writer p = record { machine = new_machine p.plan; part = 0; rev = p.rev; node = p.node }

-- what the repository and its files give: no call failed, and memory was there
abbrev pub IsGivenByFiles : Outcome → Type 0
IsGivenByFiles outcomes.Fault = ⊥
IsGivenByFiles (outcomes.Unfinished p) = ⊥
IsGivenByFiles outcomes.Memory = ⊥
IsGivenByFiles _ = Unit {0}

-- both locks are made and a transaction is planned that can be carried out from there; or the command is refused, by what the
-- files give, and no lock is left
abbrev pub HasBegun : Command → Begun → Scene → Scene → List Op → List ℕ → Type 0
HasBegun command (Ready planned) old new done text = IsPlanned (after_all done (tree_of old)) planned.plan × (new ≡ record (with_writer old done (Some (new_writer planned))) { book = with_pending command old.book }) × (text ≡ word_line (codes "begin ok"))
HasBegun command (Refused a) old new done text = IsGivenByFiles a.outcome × (a.swept ≡ true) × (new ≡ with_writer old done None) × (text ≡ begun_line a.outcome)

abbrev pub BeginsIn : Command → Scene → Scene → List ℕ → Type 0
BeginsIn command old new text = (begun : Begun) × (done : List Op) × Begins who command (tree_of old) begun done × HasBegun command begun old new done text

-- the commands, with that of a writer whose machine has come so far
abbrev pub book_at : Machine → Commands → Commands
book_at m book = noted (is_published m) (is_acknowledged m) book

-- and once it has nothing left to do
abbrev pub book_left : Question → Commands → Commands
book_left (Doing op) book = book
book_left (Sizing path) book = book
book_left Ending book = ended_in book

-- what the writer did, and what is left of it
abbrev pub LeavesWriter : Scene → Scene → List Op → Working → List ℕ → List ℕ → Type 0
LeavesWriter old new done after words text =
    (new ≡ record (with_writer old done (writer_left (asked after.machine) after)) { book = book_left (asked after.machine) (book_at after.machine old.book) })
    × (text ≡ line_at (asked after.machine) (word_line words) after)

-- An event of a writer that is at work. It answers the questions for sizes that follow at once, so an append that failed with all its bytes done
-- has published.
abbrev pub ActsAt : Deed → List ℕ → Scene → Scene → List ℕ → Working → Type 0
ActsAt deed words old new text w =
    (done : List Op) × (mid : Working) × Acts deed (tree_of old) w done mid × (machine : Machine) × IsAtNext (after_all done (tree_of old)) mid.machine machine × LeavesWriter old new done (at_machine mid machine) words text

abbrev pub ActsIn : Deed → List ℕ → Scene → Scene → List ℕ → Type 0
ActsIn deed words old new text = IfRunning old.writer (OnlySays old new (codes "idle") text) (ActsAt deed words old new text)

abbrev pub RunsAt : Goal → List ℕ → Scene → Scene → List ℕ → Working → Type 0
RunsAt goal words old new text w = (done : List Op) × (after : Working) × RunsTo goal (tree_of old) w done after × LeavesWriter old new done after words text

abbrev pub RunsIn : Goal → List ℕ → Scene → Scene → List ℕ → Type 0
RunsIn goal words old new text = IfRunning old.writer (OnlySays old new (codes "idle") text) (RunsAt goal words old new text)

-- all readers lose what they have loaded, and their loads
abbrev pub forgotten : ℕ → List Sight
forgotten count = replicate count no_sight

-- A stop publishes where it leaves the publishing operation whole, and acknowledges nothing.
abbrev pub StopsAt : ℕ → Scene → Scene → List ℕ → Working → Type 0
StopsAt count old new text w =
    (done : List Op) × (after : Working) × StopsWithin count (tree_of old) w done after
    × (new ≡ record old { log = old.log ++ done; writer = None; readers = forgotten (length old.readers); book = ended_in (noted (publishes_with count after) false old.book) }) × (text ≡ word_line (codes "stopped"))

abbrev pub StopsIn : ℕ → Scene → Scene → List ℕ → Type 0
StopsIn count old new text = IfRunning old.writer (OnlySays old new (codes "idle") text) (StopsAt count old new text)

-- what was published and not acknowledged is taken back where there was something to undo
abbrev pub book_recovered : RecoverAnswer → Commands → Commands
book_recovered recoveries.Restored book = taken_back book
book_recovered _ book = book

-- recovering came to an end, with all swept
abbrev pub HasEnded : RecoverAnswer → Type 0
HasEnded recoveries.Restored = Unit {0}
HasEnded recoveries.NothingToDo = Unit {0}
HasEnded (recoveries.Damaged d) = Unit {0}
HasEnded _ = ⊥

abbrev pub RecoversAt : Scene → Scene → List ℕ → Type 0
RecoversAt old new text =
    (came : RecoverAnswer) × (done : List Op) × HasEnded came × (came ≡ answer_in (tree_of old)) × RecoversBy (tree_of old) came true done
    × (new ≡ record old { log = old.log ++ done; readers = forgotten (length old.readers); book = book_recovered came old.book }) × (text ≡ recovered_line came)

abbrev pub RecoversIn : Scene → Scene → List ℕ → Type 0
RecoversIn old new text = IfRunning old.writer (RecoversAt old new text) (λ w. OnlySays old new (codes "busy") text)

-- ---- events of readers

-- the reader with this number is there, and this holds of it
abbrev pub OfReader : List Sight → ℕ → (Sight → Type 0) → Type 0
OfReader readers number Holds = (s : Sight) × (slice_get readers number ≡ Some s) × Holds s

-- One reader becomes this, and this is written. The files, the writer and the other readers are as before.
abbrev pub Sees : ℕ → (Sight → Sight) → (Sight → List ℕ) → Scene → Scene → List ℕ → Type 0
Sees number becomes writes old new text =
    OfReader old.readers number (λ s. (new ≡ record old { readers = slice_set old.readers number (becomes s) }) × (text ≡ writes s))

-- This is written of what one reader has loaded last; where it has loaded nothing, that is said. All is as before.
abbrev pub Answers : ℕ → (View → List ℕ) → Scene → Scene → List ℕ → Type 0
Answers number writes old new text = OfReader old.readers number (λ s. (new ≡ old) × (text ≡ of_last s.last writes))

-- ---- what an event does, and what it writes

abbrev pub Happens : Event → Scene → Scene → List ℕ → Type 0
Happens (Begin command) old new text = IfRunning old.writer (BeginsIn command old new text) (λ w. OnlySays old new (codes "busy") text)
Happens (Write None) old new text = ActsIn deeds.All (codes "wrote") old new text
Happens (Write (Some count)) old new text = ActsIn (deeds.Part count) (codes "wrote") old new text
Happens (Fail count) old new text = ActsIn (deeds.Fail count) (codes "failed") old new text
Happens UntilPublish old new text = RunsIn goals.Publishing (codes "at publish") old new text
Happens UntilClean old new text = RunsIn goals.Cleaning (codes "at clean") old new text
Happens Finish old new text = RunsIn goals.End [] old new text
Happens (Stop count) old new text = StopsIn count old new text
Happens Recover old new text = RecoversIn old new text
Happens (Open reader) old new text = Sees reader opened (λ s. loading_line) old new text
Happens (Read reader) old new text = Sees reader (λ s. read_by (tree_of old) s s.load) (λ s. read_line (tree_of old) s.load) old new text
Happens (Load reader) old new text = Sees reader (loaded_by (tree_of old)) (load_line (tree_of old)) old new text
Happens (Log reader) old new text = Answers reader (log_text (tree_of old)) old new text
Happens (Cat reader rev path) old new text = Answers reader (λ view. body_text (tree_of old) view rev path) old new text
Happens (Phase reader rev) old new text = Answers reader (λ view. phase_text view rev) old new text
Happens (Bookmarks reader) old new text = Answers reader marks_text old new text

-- An event happened, unless there was no memory; then, and ever after, nothing happens any more.
abbrev pub IsSeen : Event → Scene → Scene → Seen → Type 0
IsSeen event old new (Text text) = (old.spent ≡ false) × Happens event old new text.items
IsSeen event old new Memory = new.spent ≡ true
