-- Within the limits each number has room in an entry.
use Rattle.std.proofs.Common.{◌≡◌, ℕ, zero, suc, ◌+◌, ◌<◌, ◌≤◌, List, [], ◌∷◌, ◌++◌, Bool, true, false, cond, length, refl, sym, ◌∙◌, ap, subst, arith}
use Rattle.std.proofs.lemmas.List.{length-append}
use Rattle.std.specs.Prelude.{◌*◌, ◌-◌, ◌==◌, ◌^◌, Option, Some, None, IfSome, find, is_some, slice_index}
use Rattle.std.specs.List.{AllByRecursion}
use Rattle.std.specs.Int.{w32, to_be_bytes}
use Rattle.sha1.specs.Sha1.{digest_bytes, sha1}
use Rattle.hgs_bytes.specs.Bytes.{same}
use Rattle.hgs_index.specs.Entry.{Fits}
use Rattle.hgs_index.specs.Revision.{ParentsBefore, Revision, node_after, standing, with_revision, with_revision_at}
use Rattle.hgs_index.specs.Revlog.{Item, chunk_of, items_from}
use Rattle.hgs_model.specs.History.{History, changeset_revision, file_revision, history, history_from, kept, log_with_file, manifest_revision, no_history, parents_in, placed_of, uses, with_changeset}
use Rattle.hgs_model.specs.IsRepo.{IsRepo}
use Rattle.hgs_model.specs.Repo.{Changeset, Repo, TreeFile}
use Rattle.hgs_revlog.specs.Held.{AreWithinLimits}
use Rattle.hgs_built.specs.Built.{data_of, stored_whole}
use Rattle.hgs_built.specs.Limits.{IsWithinLimits}
use Rattle.hgs_built.proofs.Basics.{never}
use Rattle.hgs_built.proofs.Below.{RevisionLaws}

-- ---- links

abbrev Linked : ℕ → List Revision → Type 0
Linked n revisions = AllByRecursion (λ (r : Revision). r.link < n) revisions

linked-more : (n : ℕ) (revisions : List Revision) → Linked n revisions → Linked (n + 1) revisions
linked-more n [] all = tt
linked-more n (r ∷ revisions) all = (less r.link all.0, linked-more n revisions all.1)
  where
    less : (a : ℕ) → a < n → a < n + 1
    less a lt = omega (arith, lt)

linked-push : (n : ℕ) (revisions : List Revision) (r : Revision) → Linked n revisions → r.link < n → Linked n (revisions ++ r ∷ [])
linked-push n [] r all lt = (lt, tt)
linked-push n (x ∷ revisions) r all lt = (all.0, linked-push n revisions r all.1 lt)

linked-with : (n : ℕ) (revisions : List Revision) (r : Revision) → Linked n revisions → r.link < n → Linked n (with_revision revisions r)
linked-with n revisions r all lt = by (standing revisions r.text r.parents)
  where
    by : (o : Option ℕ) → Linked n (with_revision_at o revisions r)
    by None = linked-push n revisions r all lt
    by (Some rev) = all

record AreLinked (n : ℕ) (h : History) : Type 0 where
  placed : length h.placed ≡ n
  changelog : Linked n h.changelog
  manifest : Linked n h.manifest
  filelogs : (path : List ℕ) → Linked n (h.filelog path)

linked-next : (n : ℕ) (h : History) (c : Changeset) → AreLinked n h → AreLinked (n + 1) (with_changeset h c)
linked-next n h c l = record {
  placed = length-append h.placed (placed_of h c ∷ []) ∙ ap (λ m. m + 1) l.placed;
  changelog = linked-with (n + 1) h.changelog (changeset_revision h c) (linked-more n h.changelog l.changelog) own;
  manifest = linked-with (n + 1) h.manifest (manifest_revision h c) (linked-more n h.manifest l.manifest) own;
  filelogs = λ path. file path (find (λ (f : TreeFile). same f.path path) c.tree);
}
  where
    own : length h.placed < n + 1
    own = let p = l.placed in omega (arith, p)

    file : (path : List ℕ) (o : Option TreeFile) → Linked (n + 1) (log_with_file h c o (h.filelog path))
    file path None = linked-more n (h.filelog path) (l.filelogs path)
    file path (Some f) = by (is_some (kept h c.parents f.path f.body))
      where
        by : (b : Bool) → Linked (n + 1) (cond b (h.filelog path) (with_revision (h.filelog path) (file_revision h c f)))
        by true = linked-more n (h.filelog path) (l.filelogs path)
        by false = linked-with (n + 1) (h.filelog path) (file_revision h c f) (linked-more n (h.filelog path) (l.filelogs path)) own

linked-from : (n : ℕ) (h : History) (changesets : List Changeset) → AreLinked n h → AreLinked (n + length changesets) (history_from h changesets)
linked-from n h [] l = subst (λ m. AreLinked m h) (omega arith) l
linked-from n h (c ∷ changesets) l = subst (λ m. AreLinked m (history_from (with_changeset h c) changesets)) (sum n (length changesets)) (linked-from (n + 1) (with_changeset h c) changesets (linked-next n h c l))
  where
    sum : (a b : ℕ) → (a + 1) + b ≡ a + suc b
    sum a b = omega arith

linked : (changesets : List Changeset) → AreLinked (length changesets) (history changesets)
linked changesets = subst (λ m. AreLinked m (history changesets)) (omega arith) (linked-from 0 no_history changesets (record { placed = refl; changelog = tt; manifest = tt; filelogs = λ path. tt }))

-- ---- entries

length-digest : (h : List ℕ) (n : ℕ) → length (digest_bytes h n) ≡ 4 * n
unfolding digest_bytes
length-digest h zero = refl
length-digest h (suc n) = omega (arith, length-digest h n, length-append (digest_bytes h n) (to_be_bytes w32 (slice_index h n)))

length-sha1 : (m : List ℕ) → length (sha1 m) ≡ 20
unfolding sha1
length-sha1 m = length-digest _ 5

chunk-most : (text : List ℕ) → length (chunk_of text) ≤ length text + 1
chunk-most [] = omega arith
chunk-most (b ∷ text) = by (b == 0)
  where
    by : (z : Bool) → length (cond z (b ∷ text) (117 ∷ b ∷ text)) ≤ length (b ∷ text) + 1
    by true = omega arith
    by false = omega arith

abbrev IsShort : Revision → Type 0
IsShort r = length r.text ≤ 33554432

fits-from : (offset : ℕ) (known : List (List ℕ)) (revisions : List Revision) (links : ℕ) → links ≤ 1000000 → ParentsBefore (length known) (parents_in revisions) → length known + length revisions ≤ 1000000
    → AllByRecursion IsShort revisions → Linked links revisions → offset + length (data_of revisions) ≤ 2 ^ 48 - 1
    → AllByRecursion (λ (i : Item). Fits i.entry None) (items_from offset known (stored_whole revisions))
fits-from offset known [] links most before few texts link end = tt
fits-from offset known (r ∷ revisions) links most before few texts link end = (
  record {
    offset = omega (arith, end);
    flags = omega arith;
    stored = chunk-low;
    size = low (length r.text) texts.0;
    base = number;
    link = below r.link link.0;
    p1 = parent r.parents.0 before.0;
    p2 = parent r.parents.1 before.1;
    node = length-sha1 _;
    first = λ some. never (sym some);
  },
  fits-from (offset + length (chunk_of r.text)) (known ++ node_after known r ∷ []) revisions links most (subst (λ n. ParentsBefore n (parents_in revisions)) (sym next) before.2) (let n = next in omega (arith, n, few)) texts.1 link.1
      (let s = length-append (chunk_of r.text) (data_of revisions) in omega (arith, s, end)),
)
  where
    next : length (known ++ node_after known r ∷ []) ≡ suc (length known)
    next = length-append known (node_after known r ∷ []) ∙ omega arith

    chunk-low : length (chunk_of r.text) < 2 ^ 31
    chunk-low = let m = chunk-most r.text in let t = texts.0 in omega (arith, m, t)

    low : (n : ℕ) → n ≤ 33554432 → n < 2 ^ 31
    low n le = omega (arith, le)

    number : length known < 2 ^ 31
    number = omega (arith, few)

    below : (n : ℕ) → n < links → n < 2 ^ 31
    below n lt = omega (arith, lt, most)

    parent : (o : Option ℕ) → IfSome o (λ a. a < length known) → IfSome o (λ a. a < 2 ^ 31)
    parent None h = tt
    parent (Some p) h = let n = number in omega (arith, h, n)

revlog-fits : (revisions : List Revision) (links : ℕ) → links ≤ 1000000 → ParentsBefore 0 (parents_in revisions) → AreWithinLimits revisions (data_of revisions) → Linked links revisions → AllByRecursion (λ (i : Item). Fits i.entry None) (items_from 0 [] (stored_whole revisions))
revlog-fits revisions links most before limits link = fits-from 0 [] revisions links most before (let f = limits.few in omega (arith, f)) limits.texts link (let d = limits.data_end in omega (arith, d))

-- ---- those of a repository

abbrev pub RoomOf : List Revision → Type 0
RoomOf revisions = AllByRecursion (λ (i : Item). Fits i.entry None) (items_from 0 [] (stored_whole revisions))

pub changelog-room : (laws : RevisionLaws) (r : Repo) → IsRepo r → IsWithinLimits r → RoomOf (history r.changesets).changelog
changelog-room laws r is limits = revlog-fits (history r.changesets).changelog (length r.changesets) limits.changesets (laws.changelog_before r is) limits.changelog (linked r.changesets).changelog

pub manifest-room : (laws : RevisionLaws) (r : Repo) → IsRepo r → IsWithinLimits r → RoomOf (history r.changesets).manifest
manifest-room laws r is limits = revlog-fits (history r.changesets).manifest (length r.changesets) limits.changesets (laws.manifest_before r is) limits.manifest (linked r.changesets).manifest

pub filelog-room : (laws : RevisionLaws) (r : Repo) → IsRepo r → IsWithinLimits r → (path : List ℕ) → uses r.changesets path ≡ true → RoomOf ((history r.changesets).filelog path)
filelog-room laws r is limits path used = revlog-fits ((history r.changesets).filelog path) (length r.changesets) limits.changesets (laws.filelogs_before r path is) (limits.filelogs path used) ((linked r.changesets).filelogs path)
