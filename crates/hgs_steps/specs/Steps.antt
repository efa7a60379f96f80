-- What phase and bookmark commands make of what was loaded.
use Rattle.std.specs.Prelude.{◌≡◌, ◌+◌, ◌<◌, ◌^◌, true, ℕ, List, [], Bool, ◌&&◌, ◌||◌, not, ◌==◌, nat_lt, length, Option, Some, None, Result, Ok, Err, if◌then◌else◌}
use Rattle.std.specs.List.{list_all}
use Rattle.hgs_bytes.specs.Bytes.{same}
use Rattle.hgs_index.specs.Node.{null_node}
use Rattle.hgs_index.specs.declared.entry.Entry.{Entry}
use Rattle.hgs_index.specs.declared.kinds.Which.TheVariants as limits
use Rattle.hgs_marks.specs.Bookmarks.{Mark, bookmarks_text, with_mark, without}
use Rattle.hgs_marks.specs.Dirstate.{dirstate_text}
use Rattle.hgs_model.specs.Phase.{phase_number}
use Rattle.hgs_model.specs.Step.{◌>>=◌, guard, or_unknown, points_at}
use Rattle.hgs_model.specs.declared.command.Refusal.{Refusal}
use Rattle.hgs_model.specs.declared.command.Refusal.TheVariants.{NeedsForce, NothingChanged}
use Rattle.hgs_model.specs.declared.phase.Phase.{Phase}
use Rattle.hgs_phases.specs.Moves.{advanced, retracted}
use Rattle.hgs_phases.specs.Phases.{history_of}
use Rattle.hgs_phases.specs.Printed.{written_roots}
use Rattle.hgs_phases.specs.Roots.{roots_text}
use Rattle.hgs_load.specs.Marks.{most_bookmarks}
use Rattle.hgs_reader.specs.Names.{mark_named, named}
use Rattle.hgs_transaction.specs.Parts.{is_in_store}
use Rattle.hgs_transaction.specs.declared.parts.Change.TheVariants.{Replace}
use Rattle.hgs_transaction.specs.declared.parts.Parts.{Parts}
use Rattle.hgs_transaction.specs.declared.parts.ReplacedFile.TheVariants.{PhaseRoots, Dirstate, Bookmarks}
use Rattle.hgs_transaction.specs.declared.parts.Replacing.{Replacing}
use Rattle.hgs_steps.specs.declared.fault.PlanFault.{PlanFault}
use Rattle.hgs_steps.specs.declared.fault.PlanFault.TheVariants.{Refused, Limit}
use Rattle.hgs_steps.specs.declared.loaded.Loaded.{Loaded}
use Rattle.hgs_steps.specs.declared.step.Step.{Step}
use Rattle.hgs_steps.specs.Loaded.{has_inline, node_at, phase_at, view_of}

-- ---- the files that are replaced

-- the text that is written of the phases of changesets
abbrev pub phases_text : List Phase → List Entry → List ℕ
phases_text phases entries = roots_text (written_roots phases entries)

abbrev pub roots_replacing : Loaded → List ℕ → Replacing
roots_replacing l text = record { file = PhaseRoots; text = text; standing = l.standing.roots }

-- the phase roots, where the text that is written of the phases is another than is written of those that were loaded
abbrev pub roots_replaced : Loaded → List ℕ → Option Replacing
roots_replaced l text = if same (phases_text l.phases l.changelog.entries) text then None else Some (roots_replacing l text)

abbrev pub marks_replacing : Loaded → List Mark → Replacing
marks_replacing l marks = record { file = Bookmarks; text = bookmarks_text marks; standing = l.standing.bookmarks }

-- one working parent, and the tracked paths
abbrev pub dirstate_replacing : Loaded → List ℕ → List (List ℕ) → Replacing
dirstate_replacing l node paths = record {
  file = Dirstate;
  text = dirstate_text (record { p1 = node; p2 = null_node; paths = paths });
  standing = l.standing.dirstate;
}

-- ---- refusals

abbrev pub as_fault : {A : Type 0} → Result A Refusal → Result A PlanFault
as_fault (Err e) = Err (Refused e)
as_fault (Ok x) = Ok x

-- ---- bookmarks within their limit

abbrev pub are_too_many : List Mark → Bool
are_too_many marks = nat_lt most_bookmarks (length marks)

-- unless the bookmarks before a command or after it are too many
abbrev pub within : {A : Type 0} → Loaded → List Mark → A → Result A PlanFault
within l marks x = if are_too_many l.bookmarks || are_too_many marks then Err (Limit limits.Bookmarks) else Ok x

-- unless the changelog or the manifest is inline
abbrev pub if_separate : {A : Type 0} → Loaded → A → Result A PlanFault
if_separate l x = if has_inline l then Err (Limit limits.Inline) else Ok x

-- the bookmarks with this one
abbrev pub marked : Loaded → List ℕ → List ℕ → List Mark
marked l name node = with_mark l.bookmarks (record { name = name; node = node })

-- ---- what a command changes

-- the phases after a changeset was moved to a phase: to a lesser one the ancestors go along, else the descendants
abbrev pub moved : Loaded → ℕ → Phase → List Phase
moved l rev to =
    if nat_lt (phase_number to) (phase_at l rev) then advanced (history_of l.changelog.entries) rev to l.phases
    else retracted (history_of l.changelog.entries) rev to l.phases

-- a command that is not refused: the changeset that it answers, the bookmarks that it leaves, and the file that it replaces
pub record Accepted : Type 0 where
  pub rev : ℕ
  pub marks : List Mark
  pub file : Replacing

-- a changeset is moved to a phase
abbrev pub moved_at : Loaded → Phase → ℕ → Accepted
moved_at l to rev = record { rev = rev; marks = l.bookmarks; file = roots_replacing l (phases_text (moved l rev to) l.changelog.entries) }

-- a bookmark is set to a changeset
abbrev pub marked_at : Loaded → List ℕ → ℕ → Accepted
marked_at l mark rev = record { rev = rev; marks = marked l mark (node_at l rev); file = marks_replacing l (marked l mark (node_at l rev)) }

-- a bookmark of a changeset is deleted
abbrev pub unmarked_at : Loaded → List ℕ → ℕ → Accepted
unmarked_at l mark rev = record { rev = rev; marks = without mark l.bookmarks; file = marks_replacing l (without mark l.bookmarks) }

-- ---- when it is refused

-- a move where the phase would rise without force, then where it is the phase already
abbrev pub move_allowed : Loaded → ℕ → Phase → Bool → Result (Unit {0}) Refusal
move_allowed l rev to force = do
  forced ← guard (nat_lt (phase_at l rev) (phase_number to) && not force) (NeedsForce rev)
  guard (phase_number to == phase_at l rev) (NothingChanged rev)

-- a phase command where the name names nothing, then where the move is
abbrev pub move_target : Loaded → List ℕ → Phase → Bool → Result ℕ Refusal
move_target l name to force = do
  rev ← or_unknown (named (view_of l) name)
  allowed ← move_allowed l rev to force
  Ok rev

abbrev pub move_of : Loaded → List ℕ → Phase → Bool → Result Accepted Refusal
move_of l name to force = move_target l name to force >>= λ rev. Ok (moved_at l to rev)

-- setting a bookmark where the name names nothing, then where the bookmark points there already
abbrev pub mark_target : Loaded → List ℕ → List ℕ → Result ℕ Refusal
mark_target l mark name = do
  rev ← or_unknown (named (view_of l) name)
  changed ← guard (points_at (mark_named l.changelog.entries l.bookmarks mark) rev) (NothingChanged rev)
  Ok rev

abbrev pub mark_of : Loaded → List ℕ → List ℕ → Result Accepted Refusal
mark_of l mark name = mark_target l mark name >>= λ rev. Ok (marked_at l mark rev)

-- deleting a bookmark, where it is not there; it answers the changeset that it had
abbrev pub unmark_of : Loaded → List ℕ → Result Accepted Refusal
unmark_of l mark = or_unknown (mark_named l.changelog.entries l.bookmarks mark) >>= λ rev. Ok (unmarked_at l mark rev)

-- ---- steps

-- a transaction that replaces one file
abbrev pub alone : Replacing → Parts
alone x = record { before = []; publishing = Replace x; after = [] }

-- what is asked of the parts that a plan is put together from
pub record CanBeAssembled (p : Parts) : Type 0 where
  pub before : list_all is_in_store p.before ≡ true
  pub publishing : is_in_store p.publishing ≡ true
  pub few : length p.before + length p.after < 2 ^ 30

-- the step that replaces this file and answers this changeset
abbrev pub step_with : Loaded → Replacing → ℕ → Step
step_with l x rev = record { parts = alone x; rev = rev; node = record { 0 = node_at l rev } }

-- the step of what is accepted, unless the bookmarks are too many, or the changelog or the manifest is inline
abbrev pub step_of : Loaded → Accepted → Result Step PlanFault
step_of l a = if are_too_many l.bookmarks || are_too_many a.marks then Err (Limit limits.Bookmarks) else if_separate l (step_with l a.file a.rev)

-- the step of a command, or its refusal
abbrev pub planned : Loaded → Result Accepted Refusal → Result Step PlanFault
planned l (Err e) = Err (Refused e)
planned l (Ok a) = step_of l a
