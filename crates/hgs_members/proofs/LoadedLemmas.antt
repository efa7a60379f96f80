-- What holds of each answer that a question may have, whatever its reads give.
use Rattle.std.proofs.Common.{◌≡◌, ℕ, zero, suc, Bool, true, false, List, [], ◌++◌, length, Option, Result, Ok, Err, refl, sym, subst}
use Rattle.std.specs.Prelude.{nat_lt, unwrap_or, if◌then◌else◌}
use Rattle.hgs_files.specs.Tree.{Tree, after_all}
use Rattle.hgs_files.specs.declared.op.Op.{Op}
use Rattle.hgs_index.specs.Inline.{is_inline}
use Rattle.hgs_index.specs.Revision.{ParentsBefore}
use Rattle.hgs_marks.specs.Bookmarks.{Mark}
use Rattle.hgs_phases.specs.Phases.{history_of}
use Rattle.hgs_phases.specs.declared.roots.Root.{Root}
use Rattle.hgs_revlog.specs.declared.fault.RevFault.{RevFault}
use Rattle.hgs_revlog.specs.declared.fault.Tail.TheVariants.{Ignore}
use Rattle.hgs_revlog.specs.Load.{loaded, loaded_either}
use Rattle.hgs_revlog.specs.Log.{Log}
use Rattle.hgs_load.specs.declared.answer.ReadAnswer.{ReadAnswer}
use Rattle.hgs_index.specs.declared.kinds.Which.TheVariants.{Part}
use Rattle.hgs_load.specs.declared.answer.ReadAnswer.TheVariants.{Limit}
use Rattle.hgs_load.specs.Asks.{Asks, answer, read, part_of, at_rest, then_asks, MayAnswer}
use Rattle.hgs_load.specs.Form.{either_log_of, is_long_apart, most_inline_index, unless_inline}
use Rattle.hgs_load.specs.Marks.{Nodes, Working, working_answer}
use Rattle.hgs_load.specs.Open.{bookmarks_asks, dirstate_asks, inline_log_asks, log_asks, log_of, open_asks, requires_asks, roots_asks, separate_log_asks, view_of, view_with}
use Rattle.hgs_load.specs.View.{View, changelog_index, log_answer, most_pieces, piece_length, pieces_by}
use Rattle.hgs_load.specs.Whole.{is_above, within}

abbrev Leaves : {A : Type 0} → (A → Type 0) → Asks A → Type 0
Leaves P (answer x) = P x
Leaves P (read path from most rest) = (part : Option (List ℕ)) → Leaves P (rest part)

pub leaf_at_rest : {A : Type 0} (P : A → Type 0) (t : Tree) (q : Asks A) → Leaves P q → P (at_rest t q)
leaf_at_rest P t (answer x) h = h
leaf_at_rest P t (read path from most rest) h = leaf_at_rest P t (rest (part_of t path from most)) (h (part_of t path from most))

pub leaf_answered : {A : Type 0} (P : A → Type 0) (start : Tree) (first last : List Op) (q : Asks A) (y : A) → Leaves P q → MayAnswer start first q last y → P y
leaf_answered P start first last (answer x) y h m = subst P (sym m.1) h
leaf_answered P start first last (read path from most rest) y h m =
    leaf_answered P start m.0 last (rest (part_of (after_all m.0 start) path from most)) y (h (part_of (after_all m.0 start) path from most)) m.2

choose : {A : Type 0} (P : A → Type 0) (b : Bool) (x y : Asks A) → Leaves P x → Leaves P y → Leaves P (if b then x else y)
choose P true x y h k = h
choose P false x y h k = k

pieces : {A : Type 0} (P : A → Type 0) (path : List ℕ) (place : List ℕ → ℕ) (n : ℕ) (bytes : List ℕ) (more : List ℕ → Asks A) → ((whole : List ℕ) → Leaves P (more whole)) → Leaves P (pieces_by path place n bytes more)
pieces P path place zero bytes more h = h bytes
pieces P path place (suc n) bytes more h = λ piece.
    choose P (nat_lt (length (unwrap_or piece [])) piece_length) (more (bytes ++ unwrap_or piece [])) (pieces_by path place n (bytes ++ unwrap_or piece []) more) (h (bytes ++ unwrap_or piece [])) (pieces P path place n (bytes ++ unwrap_or piece []) more h)

unless : {A : Type 0} (P : A → Type 0) (inline q : Asks A) → Leaves P inline → Leaves P q → Leaves P (unless_inline inline q)
unless P inline (answer x) h k = k
unless P inline (read path from most rest) h k = λ piece. choose P (is_inline (unwrap_or piece [])) inline (rest piece) h (k piece)

-- what is said where one question is asked behind another
abbrev Follows : {A B : Type 0} → (Result B ReadAnswer → Type 0) → (A → Asks (Result B ReadAnswer)) → Result A ReadAnswer → Type 0
Follows P more (Ok x) = Leaves P (more x)
Follows P more (Err e) = P (Err e)

follow : {A B : Type 0} (P : Result B ReadAnswer → Type 0) (q : Asks (Result A ReadAnswer)) (more : A → Asks (Result B ReadAnswer)) → Leaves (Follows P more) q → Leaves P (then_asks q more)
follow P (answer (Ok x)) more h = h
follow P (answer (Err e)) more h = h
follow P (read path from most rest) more h = λ part. follow P (rest part) more (h part)

every : {A : Type 0} (P : A → Type 0) (q : Asks A) → ((x : A) → P x) → Leaves P q
every P (answer x) h = h x
every P (read path from most rest) h = λ part. every P (rest part) h

-- ---- histories

abbrev Stands : Result Log ReadAnswer → Type 0
Stands (Ok log) = ParentsBefore 0 (history_of log.entries)
Stands (Err e) = Unit {0}

abbrev StandsIn : Result View ReadAnswer → Type 0
StandsIn (Ok view) = ParentsBefore 0 (history_of view.changelog.entries)
StandsIn (Err e) = Unit {0}

-- what the crates below say of an index that loads, in both forms
pub record Laws : Type 0 where
  pub separate : (index : List ℕ) (log : Log) → loaded Ignore index ≡ Ok log → ParentsBefore 0 (history_of log.entries)
  pub either : (index : List ℕ) (log : Log) → loaded_either Ignore index ≡ Ok log → ParentsBefore 0 (history_of log.entries)

answered : (r : Result Log RevFault) → ((log : Log) → r ≡ Ok log → ParentsBefore 0 (history_of log.entries)) → Stands (log_answer changelog_index r)
answered (Ok log) h = h log refl
answered (Err fault) h = tt

whole : (laws : Laws) (index : Option (List ℕ)) → Stands (within most_inline_index (λ bytes. either_log_of (unwrap_or bytes [])) index)
whole laws index = by (is_above most_inline_index index)
  where
    by : (b : Bool) → Stands (if b then Err (Limit Part) else either_log_of (unwrap_or index []))
    by true = tt
    by false = answered (loaded_either Ignore (unwrap_or index [])) (laws.either (unwrap_or index []))

separate : (laws : Laws) → Leaves Stands separate_log_asks
separate laws = pieces Stands changelog_index (λ bytes. length bytes) most_pieces [] (λ index. answer (log_of index)) (λ index. answered (loaded Ignore index) (laws.separate index))

inline : (laws : Laws) → Leaves Stands inline_log_asks
inline laws = λ index. choose Stands (is_long_apart index) separate_log_asks (answer (within most_inline_index (λ bytes. either_log_of (unwrap_or bytes [])) index)) (separate laws) (whole laws index)

log_leaves : (laws : Laws) → Leaves Stands log_asks
log_leaves laws = unless Stands inline_log_asks separate_log_asks (inline laws) (separate laws)

-- ---- views

with_working : (marks : List Mark) (log : Log) (roots : List Root) (working : Result Working ReadAnswer) → ParentsBefore 0 (history_of log.entries) → StandsIn (view_with marks log roots working)
with_working marks log roots (Ok working) h = h
with_working marks log roots (Err e) h = tt

abbrev then_roots : List Mark → Nodes → Log → Asks (Result View ReadAnswer)
then_roots marks nodes log = then_asks roots_asks (λ roots. answer (view_of marks nodes log roots))

abbrev then_log : List Mark → Nodes → Asks (Result View ReadAnswer)
then_log marks nodes = then_asks log_asks (then_roots marks nodes)

abbrev then_dirstate : List Mark → Asks (Result View ReadAnswer)
then_dirstate marks = then_asks dirstate_asks (then_log marks)

roots_behind : (marks : List Mark) (nodes : Nodes) (log : Log) → ParentsBefore 0 (history_of log.entries) → Leaves StandsIn (then_roots marks nodes log)
roots_behind marks nodes log before = follow StandsIn roots_asks (λ roots. answer (view_of marks nodes log roots)) (every (Follows StandsIn (λ roots. answer (view_of marks nodes log roots))) roots_asks of_roots)
  where
    of_roots : (r : Result (List Root) ReadAnswer) → Follows StandsIn (λ roots. answer (view_of marks nodes log roots)) r
    of_roots (Ok roots) = with_working marks log roots (working_answer log.entries nodes) before
    of_roots (Err e) = tt

-- what is said of each history is said of what follows it
behind_logs : (marks : List Mark) (nodes : Nodes) (q : Asks (Result Log ReadAnswer)) → Leaves Stands q → Leaves (Follows StandsIn (then_roots marks nodes)) q
behind_logs marks nodes (answer (Ok log)) h = roots_behind marks nodes log h
behind_logs marks nodes (answer (Err e)) h = tt
behind_logs marks nodes (read path from most rest) h = λ part. behind_logs marks nodes (rest part) (h part)

log_behind : (laws : Laws) (marks : List Mark) (nodes : Nodes) → Leaves StandsIn (then_log marks nodes)
log_behind laws marks nodes = follow StandsIn log_asks (then_roots marks nodes) (behind_logs marks nodes log_asks (log_leaves laws))

dirstate_behind : (laws : Laws) (marks : List Mark) → Leaves StandsIn (then_dirstate marks)
dirstate_behind laws marks = follow StandsIn dirstate_asks (then_log marks) (every (Follows StandsIn (then_log marks)) dirstate_asks of_nodes)
  where
    of_nodes : (r : Result Nodes ReadAnswer) → Follows StandsIn (then_log marks) r
    of_nodes (Ok nodes) = log_behind laws marks nodes
    of_nodes (Err e) = tt

bookmarks_behind : (laws : Laws) → Leaves StandsIn (then_asks bookmarks_asks then_dirstate)
bookmarks_behind laws = follow StandsIn bookmarks_asks then_dirstate (every (Follows StandsIn then_dirstate) bookmarks_asks of_marks)
  where
    of_marks : (r : Result (List Mark) ReadAnswer) → Follows StandsIn then_dirstate r
    of_marks (Ok marks) = dirstate_behind laws marks
    of_marks (Err e) = tt

open_leaves : (laws : Laws) → Leaves StandsIn open_asks
open_leaves laws = follow StandsIn requires_asks (λ (x : Unit). then_asks bookmarks_asks then_dirstate) (every (Follows StandsIn (λ (x : Unit). then_asks bookmarks_asks then_dirstate)) requires_asks of_words)
  where
    of_words : (r : Result Unit ReadAnswer) → Follows StandsIn (λ (x : Unit). then_asks bookmarks_asks then_dirstate) r
    of_words (Ok x) = bookmarks_behind laws
    of_words (Err e) = tt

pub view_at_rest : (laws : Laws) (t : Tree) (view : View) → at_rest t open_asks ≡ Ok view → ParentsBefore 0 (history_of view.changelog.entries)
view_at_rest laws t view is = subst StandsIn is (leaf_at_rest StandsIn t open_asks (open_leaves laws))

pub view_answered : (laws : Laws) (start : Tree) (first last : List Op) (view : View) → MayAnswer start first open_asks last (Ok view) → ParentsBefore 0 (history_of view.changelog.entries)
view_answered laws start first last view may = leaf_answered StandsIn start first last open_asks (Ok view) (open_leaves laws) may
