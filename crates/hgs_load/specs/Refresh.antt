-- What a refresh asks.
use Rattle.std.specs.Prelude.{◌≡◌, ◌+◌, ◌≤◌, IfSome, ℕ, suc, ◌-◌, ◌*◌, ◌/◌, nat_le, Bool, true, false, ◌==◌, ◌&&◌, List, [], ◌∷◌, length, take, drop, slice_get, Option, Some, None, Result, Ok, Err, if◌then◌else◌}
use Rattle.hgs_bytes.specs.Bytes.{same}
use Rattle.hgs_files.specs.declared.op.Op.{Op}
use Rattle.hgs_files.specs.Tree.{Tree, bytes_at, after_all}
use Rattle.hgs_index.specs.declared.entry.Entry.{Entry}
use Rattle.hgs_index.specs.declared.entry.EntryFault.{EntryFault}
use Rattle.hgs_plan.specs.declared.damage.Part.TheVariants as parts
use Rattle.hgs_revlog.specs.declared.fault.Tail.TheVariants.{Ignore}
use Rattle.hgs_revlog.specs.Load.{separate_at, load_from}
use Rattle.hgs_revlog.specs.Log.{Log}
use Rattle.hgs_load.specs.declared.answer.ReadAnswer.{ReadAnswer}
use Rattle.hgs_load.specs.Asks.{Asks, answer, then_asks}
use Rattle.hgs_load.specs.Form.{unless_inline, in_one_read, either_log_of}
use Rattle.hgs_load.specs.Marks.{bookmarks_path, dirstate_path, roots_path}
use Rattle.hgs_load.specs.Open.{bookmarks_asks, dirstate_asks, roots_asks, log_of, view_of}
use Rattle.hgs_load.specs.View.{View, changelog_index, damaged, most_pieces, pieces_then, pieces_from, log_answer}

abbrev pub same_parent : Option ℕ → Option ℕ → Bool
same_parent None None = true
same_parent None (Some b) = false
same_parent (Some a) None = false
same_parent (Some a) (Some b) = a == b

abbrev pub same_lengths : Entry → Entry → Bool
same_lengths a b = a.offset == b.offset && a.flags == b.flags && a.stored == b.stored && a.size == b.size

abbrev pub same_links : Entry → Entry → Bool
same_links a b = a.base == b.base && a.link == b.link && same_parent a.p1 b.p1 && same_parent a.p2 b.p2

abbrev pub same_entry : Entry → Entry → Bool
same_entry a b = same_lengths a b && same_links a b && same a.node.0 b.node.0

-- the number of the first of the old entries that isn't the new one in its place
abbrev pub first_changed : ℕ → List Entry → List Entry → Option ℕ
first_changed rev [] entries = None
first_changed rev (o ∷ old) [] = Some rev
first_changed rev (o ∷ old) (e ∷ entries) = if same_entry o e then first_changed (suc rev) old entries else Some rev

abbrev pub unless_changed : Option ℕ → Log → Result Log ReadAnswer
unless_changed None log = Ok log
unless_changed (Some rev) log = Err (damaged changelog_index parts.Shrunk 1 rev)

-- the history that was read, which has to begin with the old entries
abbrev pub log_after : List Entry → Result Log ReadAnswer → Result Log ReadAnswer
log_after old (Err e) = Err e
log_after old (Ok log) = unless_changed (first_changed 0 old log.entries) log

-- whether what 64 bytes of an index are read as is this entry
abbrev pub is_this : Option Entry → Result Entry EntryFault → Bool
is_this None read = false
is_this (Some e) (Err f) = false
is_this (Some e) (Ok x) = same_entry e x

-- Of the bytes of an index from the place of the last of the old entries on, those behind that entry; none where they do not begin with it.
abbrev pub behind_last : List Entry → List ℕ → Option (List ℕ)
behind_last old tail = if nat_le 64 (length tail) && is_this (slice_get old (length old - 1)) (separate_at (take 64 tail) (length old - 1)) then Some (drop 64 tail) else None

-- the old history with the entries of these bytes behind its last one
abbrev pub log_on : Log → List ℕ → Result Log ReadAnswer
log_on old behind = log_answer changelog_index (load_from Ignore (length behind / 64) old behind)

-- a separate index in pieces, whose history is refused as soon as it was read
abbrev pub separate_whole_asks : List Entry → Asks (Result Log ReadAnswer)
separate_whole_asks old = pieces_then changelog_index most_pieces [] (λ index. answer (log_after old (log_of index)))

-- an inline one in one read
abbrev pub inline_whole_asks : List Entry → Asks (Result Log ReadAnswer)
inline_whole_asks old = in_one_read (separate_whole_asks old) (λ index. log_after old (either_log_of index))

-- the whole index, of which the first piece says the form
abbrev pub whole_log_asks : List Entry → Asks (Result Log ReadAnswer)
whole_log_asks old = unless_inline (inline_whole_asks old) (separate_whole_asks old)

-- What is asked once the index was read from the last of the old entries on: nothing where that one stands there, and else the whole index, which shows the first that changed.
abbrev pub behind_asks : Log → Option (List ℕ) → Asks (Result Log ReadAnswer)
behind_asks old None = whole_log_asks old.entries
behind_asks old (Some behind) = answer (log_on old behind)

-- the place of the last entry in a separate index
abbrev pub last_place : List Entry → ℕ
last_place entries = 64 * (length entries - 1)

-- the index from the last of the old entries on, or from its first byte where there is none
abbrev pub behind_log_asks : Log → Asks (Result Log ReadAnswer)
behind_log_asks old = if length old.entries == 0 then whole_log_asks old.entries else pieces_from changelog_index (last_place old.entries) most_pieces [] (λ tail. behind_asks old (behind_last old.entries tail))

-- The new history. What was inline is read whole, in one read; of a separate index only what stands from the last of the old entries on.
abbrev pub newer_log_asks : Log → Asks (Result Log ReadAnswer)
newer_log_asks old = if old.inline then inline_whole_asks old.entries else behind_log_asks old

-- all is read again but `requires`
abbrev pub refresh_asks : View → Asks (Result View ReadAnswer)
refresh_asks old =
    then_asks bookmarks_asks (λ marks.
    then_asks dirstate_asks (λ nodes.
    then_asks (newer_log_asks old.changelog) (λ log.
    then_asks roots_asks (λ roots.
    answer (view_of marks nodes log roots)))))

-- the bytes of the files that a refresh reads whole
abbrev pub small_files : Tree → ℕ
small_files t = length (bytes_at t bookmarks_path) + length (bytes_at t dirstate_path) + length (bytes_at t roots_path)

-- the most bytes that a refresh over a separate index is given: the small files, and of the index an entry for each new one and two more
abbrev pub refresh_bytes : Tree → View → View → ℕ
refresh_bytes t old new = small_files t + 64 * (length new.changelog.entries - length old.changelog.entries + 2)

-- where nobody else writes, and the index was separate and is so still, the count of bytes given rises by no more
abbrev pub GivenFew : Bool → ℕ → ℕ → Option (List Op) → Tree → View → View → Type 0
GivenFew alone given_old given_new seen start old new =
    alone ≡ true → old.changelog.inline ≡ false → new.changelog.inline ≡ false → IfSome seen (λ log. given_new ≤ given_old + refresh_bytes (after_all log start) old new)
