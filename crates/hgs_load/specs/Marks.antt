-- Bookmarks, working parents and phase roots, as a load takes them from their files.
use Rattle.std.specs.Prelude.{ℕ, List, [], codes, nat_lt, length, unwrap_or, Option, Some, None, Result, Ok, Err, if◌then◌else◌}
use Rattle.hgs_bytes.specs.Bytes.{same}
use Rattle.hgs_index.specs.Node.{null_node}
use Rattle.hgs_index.specs.declared.entry.Entry.{Entry}
use Rattle.hgs_index.specs.declared.kinds.Which.TheVariants as limits
use Rattle.hgs_marks.specs.Bookmarks.{Mark, read_bookmarks}
use Rattle.hgs_marks.specs.Dirstate.{Dirstate, read_dirstate}
use Rattle.hgs_marks.specs.declared.fault.MarkFault.{MarkFault}
use Rattle.hgs_marks.specs.declared.fault.MarkFault.TheVariants as mark_faults
use Rattle.hgs_phases.specs.Roots.{read_roots}
use Rattle.hgs_phases.specs.declared.fault.RootsFault.{RootsFault}
use Rattle.hgs_phases.specs.declared.fault.RootsFault.TheVariants as roots_faults
use Rattle.hgs_phases.specs.declared.roots.Root.{Root}
use Rattle.hgs_plan.specs.declared.damage.Part.{Part}
use Rattle.hgs_plan.specs.declared.damage.Part.TheVariants as parts
use Rattle.hgs_revlog.specs.Log.{place_of}
use Rattle.hgs_load.specs.declared.answer.ReadAnswer.{ReadAnswer}
use Rattle.hgs_load.specs.declared.answer.ReadAnswer.TheVariants.{Limit, Memory}
use Rattle.hgs_load.specs.declared.marks.WorkingNodes.{WorkingNodes}
use Rattle.hgs_load.specs.declared.marks.WorkingParents.{WorkingParents}
use Rattle.hgs_load.specs.View.{damaged}

abbrev pub bookmarks_path : List ℕ
bookmarks_path = codes "bookmarks"

abbrev pub dirstate_path : List ℕ
dirstate_path = codes "dirstate"

abbrev pub roots_path : List ℕ
roots_path = codes "store/phaseroots"

-- a text with more bookmarks is refused
abbrev pub most_bookmarks : ℕ
most_bookmarks = 10000

abbrev pub mark_refusal : List ℕ → Part → MarkFault → ReadAnswer
mark_refusal path part (mark_faults.Line n) = damaged path part 1 n
mark_refusal path part (mark_faults.Name n) = damaged path part 2 n
mark_refusal path part mark_faults.Short = damaged path part 3 0
mark_refusal path part (mark_faults.State at) = damaged path part 4 at
mark_refusal path part mark_faults.Memory = Memory

-- ---- bookmarks

abbrev pub marks_answer : Result (List Mark) MarkFault → Result (List Mark) ReadAnswer
marks_answer (Err f) = Err (mark_refusal bookmarks_path parts.Bookmarks f)
marks_answer (Ok marks) = if nat_lt most_bookmarks (length marks) then Err (Limit limits.Bookmarks) else Ok marks

-- the bookmarks of the file; an absent one is empty
abbrev pub bookmarks_answer : Option (List ℕ) → Result (List Mark) ReadAnswer
bookmarks_answer part = marks_answer (read_bookmarks (unwrap_or part []))

-- ---- working parents

-- the nodes of the two working parents, the null node where there is none
abbrev pub Nodes : Type 0
Nodes = List ℕ × List ℕ

abbrev pub nodes_of : WorkingNodes → Nodes
nodes_of w = (w.p1.0, w.p2.0)

abbrev pub nodes_answer : Result Dirstate MarkFault → Result Nodes ReadAnswer
nodes_answer (Err f) = Err (mark_refusal dirstate_path parts.Dirstate f)
nodes_answer (Ok d) = Ok (d.p1, d.p2)

-- the working parents' nodes in the file; an absent one is empty
abbrev pub dirstate_answer : Option (List ℕ) → Result Nodes ReadAnswer
dirstate_answer part = nodes_answer (read_dirstate (unwrap_or part []))

-- the changesets that are the working parents
abbrev pub Working : Type 0
Working = Option ℕ × Option ℕ

abbrev pub working_of : WorkingParents → Working
working_of w = (w.first, w.second)

abbrev pub known_parent : Option ℕ → Result (Option ℕ) ReadAnswer
known_parent None = Err (damaged dirstate_path parts.Dirstate 6 0)
known_parent (Some rev) = Ok (Some rev)

-- a working parent has to be in the history
abbrev pub parent_answer : List Entry → List ℕ → Result (Option ℕ) ReadAnswer
parent_answer entries node = if same node null_node then Ok None else known_parent (place_of entries node)

abbrev pub both_parents : Result (Option ℕ) ReadAnswer → Result (Option ℕ) ReadAnswer → Result Working ReadAnswer
both_parents (Err e) second = Err e
both_parents (Ok first) (Err e) = Err e
both_parents (Ok first) (Ok second) = Ok (first, second)

abbrev pub working_answer : List Entry → Nodes → Result Working ReadAnswer
working_answer entries nodes = both_parents (parent_answer entries nodes.0) (parent_answer entries nodes.1)

-- ---- phase roots

abbrev pub roots_refusal : RootsFault → ReadAnswer
roots_refusal (roots_faults.Line n) = damaged roots_path parts.Roots 1 n
roots_refusal roots_faults.Memory = Memory

abbrev pub roots_of : Result (List Root) RootsFault → Result (List Root) ReadAnswer
roots_of (Err f) = Err (roots_refusal f)
roots_of (Ok roots) = Ok roots

-- the phase roots of the file; an absent one is empty
abbrev pub roots_answer : Option (List ℕ) → Result (List Root) ReadAnswer
roots_answer part = roots_of (read_roots (unwrap_or part []))
