-- A search through filelogs.
use Rattle.std.specs.Prelude.{◌≡◌, ◌⊎◌, ◌↔◌, IsSome, ◌<◌, ◌≤◌, ℕ, ◌+◌, ◌*◌, Bool, true, false, not, ◌==◌, List, [], ◌∷◌, ◌++◌, map, flat_map, length, slice_get, slice_index_or, count_by, Option, Some, None, option_to_list, replicate, if◌then◌else◌}
use Rattle.std.specs.BTreeMap.{BTreeMap, get}
use Rattle.std.specs.Cmp.Lexicographic.{slice_cmp}
use Rattle.std.specs.Option.{is_some}
use Rattle.std.specs.Ordering.{nat_cmp}
use Rattle.hgs_bytes.specs.Bytes.{same}
use Rattle.hgs_index.specs.Ancestor.{IsAncestor, IsParent}
use Rattle.hgs_index.specs.Revision.{ParentsBefore}
use Rattle.hgs_index.specs.declared.entry.Entry.{Entry}
use Rattle.hgs_revlog.specs.Loaded.{parents_in}
use Rattle.hgs_follow.specs.Asked.{Asked, loaded, told, times_told, times_loaded, AllOf, AreOf, Chain}
use Rattle.hgs_follow.specs.Followed.{At, Filelogs, IsBefore, IsFollowed, number_of}
use Rattle.hgs_follow.specs.Lines.{times_listed, IsLineOf}
use Rattle.hgs_follow.specs.Source.{CopySource, copied_from}
use Rattle.hgs_follow.specs.declared.filelogs.CopiedFrom.{CopiedFrom}
use Rattle.hgs_follow.specs.declared.filelogs.Filelog.{Filelog}
use Rattle.hgs_follow.specs.declared.line.Line.{Line}
use Rattle.hgs_follow.specs.declared.search.Finds.{Finds}
use Rattle.hgs_follow.specs.declared.search.Reached.{Reached}

abbrev pub bit : Bool → ℕ
bit b = if b then 1 else 0

-- ---- one filelog

abbrev pub has : List Bool → ℕ → Bool
has marks rev = slice_index_or marks rev false

-- how often a number stands in a list
abbrev pub times : ℕ → List ℕ → ℕ
times rev revs = count_by (λ r. r == rev) revs

abbrev pub unmarked : List Bool → ℕ
unmarked marks = count_by not marks

-- Of the revisions that are meant those without a mark got one, and stand on the list of those that are to be looked at.
pub record Marks (meant : ℕ → Type 0) (old new : List Bool) (was waits : List ℕ) : Type 0 where
  pub size : length new ≡ length old
  pub kept : (r : ℕ) → has old r ≡ true → has new r ≡ true
  pub only : (r : ℕ) → has new r ≡ true → (has old r ≡ true) ⊎ meant r
  pub all : (r : ℕ) → meant r → r < length old → has new r ≡ true
  pub once : (r : ℕ) → times r waits + bit (has old r) ≡ times r was + bit (has new r)
  pub falls : 2 * unmarked new + length waits ≤ 2 * unmarked old + length was

-- a revision whose text was read, and the text
pub record Text : Type 0 where
  pub rev : ℕ
  pub text : List ℕ

abbrev pub asked_of : List ℕ → List Text → List Asked
asked_of path texts = map (λ t. told path t.rev t.text) texts

abbrev pub times_read : ℕ → List Text → ℕ
times_read rev texts = count_by (λ t. t.rev == rev) texts

-- what texts say that they were copied from
abbrev pub sources_in : List Text → List CopySource
sources_in texts = flat_map (λ t. option_to_list (copied_from t.text)) texts

-- what is kept of a source
abbrev pub view_copied : CopiedFrom → CopySource
view_copied s = record { path = s.path; node = s.node.0 }

abbrev pub sources_of : List CopiedFrom → List CopySource
sources_of sources = map view_copied sources

-- the line of a revision with this entry
abbrev pub line_with : List ℕ → ℕ → Entry → Line
line_with path rev e = record { link = record { 0 = e.link }; path = path; rev = rev; node = e.node }

-- a line for each text, in the order in which they were read
abbrev pub AreLines : List ℕ → List Entry → List Text → List Line → Type 0
AreLines path entries [] lines = lines ≡ []
AreLines path entries (t ∷ texts) lines = (e : Entry) × (rest : List Line) × (slice_get entries t.rev ≡ Some e) × (lines ≡ line_with path t.rev e ∷ rest) × AreLines path entries texts rest

-- the line of a revision behind others
abbrev pub AddsLine : List ℕ → List Entry → ℕ → List Line → List Line → Type 0
AddsLine path entries rev old new = (e : Entry) × (slice_get entries rev ≡ Some e) × (new ≡ old ++ line_with path rev e ∷ [])

-- what was found: the sources that these texts say, and their lines
pub record Adds (path : List ℕ) (entries : List Entry) (texts : List Text) (old new : Finds) : Type 0 where
  pub lines : List Line
  pub are : AreLines path entries texts lines
  pub lines_are : new.lines.items ≡ old.lines.items ++ lines
  pub sources_are : sources_of new.sources.items ≡ sources_of old.sources.items ++ sources_in texts

-- A filelog was searched from a revision on, down to the oldest: each revision that had no mark got one, its text was read once, and its
-- parents have marks.
pub record Searched (entries : List Entry) (from : ℕ) (old new : List Bool) (texts : List Text) : Type 0 where
  pub size : length new ≡ length old
  pub kept : (r : ℕ) → has old r ≡ true → has new r ≡ true
  pub only : (r : ℕ) → has new r ≡ true → (has old r ≡ true) ⊎ IsAncestor (parents_in entries) r from
  pub first : from < length old → has new from ≡ true
  pub once : (r : ℕ) → times_read r texts + bit (has old r) ≡ bit (has new r)
  pub parents : (r p : ℕ) → has old r ≡ false → has new r ≡ true → IsParent (parents_in entries) p r → has new p ≡ true

-- ---- all filelogs

abbrev pub Logs : Type 0
Logs = BTreeMap (List ℕ) Reached

-- what was reached in the filelog of a path, once that is loaded
abbrev pub reached_at : Logs → List ℕ → Option Reached
reached_at logs path = get (slice_cmp nat_cmp) logs path

abbrev pub is_marked_in : Option Reached → ℕ → Bool
is_marked_in None rev = false
is_marked_in (Some reached) rev = has reached.marks.items rev

abbrev pub is_marked : (List ℕ → Option Reached) → At → Bool
is_marked logs a = is_marked_in (logs a.path) a.rev

-- the followed history of the revision that a path and a node name
pub record IsReached (files : Filelogs) (start : CopySource) (a : At) : Type 0 where
  pub rev : ℕ
  pub named : number_of files start ≡ Some rev
  pub followed : IsFollowed files (record { path = start.path; rev = rev }) a

-- it is among these
abbrev pub Has : List CopySource → CopySource → Type 0
Has sources s = (i : ℕ) × (slice_get sources i ≡ Some s)

-- some source of the list is that of this file revision
pub record IsAwaited (files : Filelogs) (sources : List CopySource) (a : At) : Type 0 where
  pub source : CopySource
  pub there : Has sources source
  pub path : a.path ≡ source.path
  pub number : number_of files source ≡ Some a.rev

-- each filelog that is loaded is that of its path, and each of its revisions has a mark or lacks one
pub record IsHeld (holds : List ℕ → Filelog → Type 0) (path : List ℕ) (r : Reached) : Type 0 where
  pub of_path : holds path r.filelog
  pub size : length r.marks.items ≡ length r.filelog.log.entries
  pub earlier : ParentsBefore 0 (parents_in r.filelog.log.entries)

abbrev pub AreHeld : (List ℕ → Filelog → Type 0) → Logs → Type 0
AreHeld holds logs = (path : List ℕ) (r : Reached) → reached_at logs path ≡ Some r → IsHeld holds path r

-- a filelog without marks was put to the others
pub record IsPut (old new : Logs) (path : List ℕ) (f : Filelog) : Type 0 where
  pub reached : Reached
  pub filelog : reached.filelog ≡ f
  pub marks : reached.marks.items ≡ replicate (length f.log.entries) false
  pub here : reached_at new path ≡ Some reached
  pub others : (q : List ℕ) → same path q ≡ false → reached_at new q ≡ reached_at old q

-- the filelog of a path was loaded and put to the others
pub record IsTaken {S : Type 0} (gives : S → Asked → S → Type 0) (holds : List ℕ → Filelog → Type 0) (a b : S) (old new : Logs) (path : List ℕ) : Type 0 where
  pub f : Filelog
  pub absent : is_some (reached_at old path) ≡ false
  pub gave : gives a (loaded path f.log.entries) b
  pub of_path : holds path f
  pub earlier : ParentsBefore 0 (parents_in f.log.entries)
  pub put : IsPut old new path f

abbrev pub Takes : {S : Type 0} → (S → Asked → S → Type 0) → (List ℕ → Filelog → Type 0) → S → S → Logs → Logs → List ℕ → Type 0
Takes gives holds a b old new path = ((a ≡ b) × (old ≡ new) × (is_some (reached_at old path) ≡ true)) ⊎ IsTaken gives holds a b old new path

-- Where a search stands that began with one source, when this was asked, these lines were found, and these sources are left.
pub record IsSearch (start : CopySource) (logs : List ℕ → Option Reached) (left : List CopySource) (lines : List Line) (asked : List Asked) : Type 0 where
  pub loaded : (path : List ℕ) → times_loaded path asked ≡ bit (is_some (logs path))
  pub told : (a : At) → times_told a asked ≡ bit (is_marked logs a)
  pub listed : (a : At) → times_listed a lines ≡ times_told a asked
  pub say : (files : Filelogs) → AllOf files asked → (i : ℕ) (l : Line) → slice_get lines i ≡ Some l → IsLineOf files l
  pub known : (files : Filelogs) → AllOf files asked → (path : List ℕ) (r : Reached) → logs path ≡ Some r → AreOf r.filelog.log.entries files path
  pub sound : (files : Filelogs) → AllOf files asked → (a : At) → is_marked logs a ≡ true → IsReached files start a
  pub meant : (files : Filelogs) → AllOf files asked → (s : CopySource) (rev : ℕ) → Has left s → number_of files s ≡ Some rev → IsReached files start (record { path = s.path; rev = rev })
  pub closed : (files : Filelogs) → AllOf files asked → (b c : At) → is_marked logs b ≡ true → IsBefore files c b → (is_marked logs c ≡ true) ⊎ IsAwaited files left c
  pub begun : (files : Filelogs) → AllOf files asked → (rev : ℕ) → number_of files start ≡ Some rev → (is_marked logs (record { path = start.path; rev = rev }) ≡ true) ⊎ Has left start

-- A search goes on with one source, the last of those that are left.
abbrev pub GoesOn : {S : Type 0} → (S → Asked → S → Type 0) → S → S → Logs → Logs → CopySource → Finds → Finds → Type 0
GoesOn gives a b old new source was is =
    (start : CopySource) (asked : List Asked) → IsSearch start (reached_at old) (sources_of was.sources.items ++ source ∷ []) was.lines.items asked →
    (more : List Asked) × Chain gives a more b × IsSearch start (reached_at new) (sources_of is.sources.items) is.lines.items (asked ++ more)

-- ---- the end of a search

-- Nothing is left of a search.
abbrev pub Ends : {S : Type 0} → (S → Asked → S → Type 0) → S → S → CopySource → List Line → Type 0
Ends gives a b begin lines = (asked : List Asked) × Chain gives a asked b × (logs : List ℕ → Option Reached) × IsSearch begin logs [] lines asked

-- What was found of the file revision that a path and a node name: by these answers a line for each file revision of its followed history,
-- each of whose texts was asked for once, and each filelog once.
pub record IsFound (start : CopySource) (lines : List Line) (asked : List Asked) : Type 0 where
  pub there : (files : Filelogs) → AllOf files asked → IsSome (number_of files start)
  pub say : (files : Filelogs) → AllOf files asked → (i : ℕ) (l : Line) → slice_get lines i ≡ Some l → IsLineOf files l
  pub each : (files : Filelogs) → AllOf files asked → (a : At) → IsReached files start a ↔ (times_listed a lines ≡ 1)
  pub once : (a : At) → times_listed a lines ≤ 1
  pub told : (a : At) → times_told a asked ≡ times_listed a lines
  pub loaded : (path : List ℕ) → times_loaded path asked ≤ 1
