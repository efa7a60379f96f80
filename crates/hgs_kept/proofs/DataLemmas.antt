-- What a turn leaves of the data of changelog and manifest.
use Rattle.std.proofs.Common.{◌≡◌, ◌≤◌, ◌+◌, ℕ, List, [], ◌∷◌, ◌++◌, Bool, true, false, cond, length, drop, refl, sym, ◌∙◌, ap, subst, append-nil, arith, length-append}
use Rattle.std.specs.Prelude.{map, sum_by}
use Rattle.std.proofs.lemmas.List.Sums.{sum_by-cons}
use Rattle.hgs_bytes.specs.Bytes.{same}
use Rattle.hgs_files.specs.declared.op.Op.{Op}
use Rattle.hgs_files.specs.declared.op.Op.TheVariants.{Create}
use Rattle.hgs_files.specs.Tree.{Tree, after_all, bytes_at}
use Rattle.hgs_index.specs.Revision.{Revision, node_after}
use Rattle.hgs_index.specs.Revlog.{chunk_of, items_from}
use Rattle.hgs_model.specs.declared.command.Command.{Command}
use Rattle.hgs_model.specs.declared.command.Command.TheVariants.{Commit, Import, Mark, Move, Unmark}
use Rattle.hgs_model.specs.History.{history}
use Rattle.hgs_model.specs.Repo.{Repo}
use Rattle.hgs_ops.specs.Growth.{appended, append_some, as_stored, growth, new_chunks, new_items, new_paths}
use Rattle.hgs_ops.specs.Operations.{Transaction, changes_before, publishing, transaction_of, new_changelog_index, new_changelog_path}
use Rattle.hgs_ops.specs.Replaced.{new_rename, new_roots, roots_change}
use Rattle.hgs_ops.specs.Theorems.CommitLemmas.{part_data, part_files, part_lines, part_manifest}
use Rattle.hgs_ops.specs.Theorems.CommitTree.{is_quiet}
use Rattle.hgs_ops.specs.Theorems.FileGrowth.{appended-some, filelogs-touched, grown-data, grown-touched, touched-some}
use Rattle.hgs_ops.specs.Theorems.StandsCommit.{not-stores}
use Rattle.hgs_ops.specs.Theorems.Touch.{appended-append, appended-at, appended-none, touched, touched-append}
use Rattle.hgs_revlog.specs.Load.{most_data}
use Rattle.hgs_stands.specs.Places.{changelog_data, changelog_index, fncache_path, manifest_data, manifest_index, requires_path}
use Rattle.hgs_legal.specs.LegalLog.{IsTurn, Turn, through_publishing}
use Rattle.hgs_kept.specs.Within.{EndsWithin, HasRoomBehind, IsMeasured, stored_behind}
use Rattle.hgs_kept.proofs.LengthLemmas.{all-appends, before-touched}

chunks-length : (new : List Revision) (offset : ℕ) (known : List (List ℕ)) → length (new_chunks (items_from offset known (map as_stored new))) ≡ sum_by (λ (r : Revision). length (chunk_of r.text)) new
chunks-length [] offset known = refl
chunks-length (r ∷ new) offset known =
    let more = new_chunks (items_from (offset + length (chunk_of r.text)) (known ++ node_after known r ∷ []) (map as_stored new)) in
    length-append (chunk_of r.text) more ∙ ap (λ n. length (chunk_of r.text) + n) (chunks-length new (offset + length (chunk_of r.text)) (known ++ node_after known r ∷ [])) ∙ sym (sum_by-cons (λ (r : Revision). length (chunk_of r.text)) r new)

-- ---- what is appended to a file

module _ (p : List ℕ) (loud : is_quiet p ≡ false) (apart : same changelog_index p ≡ false) where
  -- behind the publishing operation stands what the changes and that appended
  text-behind : (t : Tree) (r : Repo) (command : Command) (who : List ℕ) (next : Repo) → bytes_at (after_all ((transaction_of t r command who next).before ++ through_publishing (transaction_of t r command who next)) t) p
      ≡ bytes_at t p ++ appended p (changes_before t r command next ++ publishing t r command next ∷ [])
  text-behind t r command who next =
      appended-at ((transaction_of t r command who next).before ++ through_publishing (transaction_of t r command who next)) t p (all-appends p loud apart t r command who next)
      ∙ ap (λ l. bytes_at t p ++ l) (appended-append p (transaction_of t r command who next).before (through_publishing (transaction_of t r command who next))
      ∙ ap (λ l. l ++ appended p (through_publishing (transaction_of t r command who next))) (appended-none (transaction_of t r command who next).before p (before-touched p loud apart t r command who next)))

-- the four parts of a growth
four : (p : List ℕ) (t : Tree) (r next : Repo) → appended p (growth t r next) ≡ ((appended p (part_files t r next) ++ appended p (append_some fncache_path (part_lines r next))) ++ appended p (part_manifest t r next)) ++ appended p (append_some changelog_data (part_data t r next))
four p t r next =
    let fl = part_files t r next in
    let fn = append_some fncache_path (part_lines r next) in
    let mf = part_manifest t r next in
    let cl = append_some changelog_data (part_data t r next) in
    appended-append p (fl ++ fn ++ mf) cl ∙ ap (λ l. l ++ appended p cl) (appended-append p (fl ++ fn) mf ∙ ap (λ l. l ++ appended p mf) (appended-append p fl fn))

rename-none : (p : List ℕ) (r next : Repo) → touched p (new_rename (new_roots next) ∷ []) ≡ false → appended p (cond (roots_change r next) (new_rename (new_roots next) ∷ []) []) ≡ []
rename-none p r next e = by (roots_change r next)
  where
    by : (b : Bool) → appended p (cond b (new_rename (new_roots next) ∷ []) []) ≡ []
    by true = appended-none (new_rename (new_roots next) ∷ []) p e
    by false = refl

-- what a commit appends to the data of the changelog and of the manifest
changelog-more : (t : Tree) (r next : Repo) → appended changelog_data (growth t r next) ≡ part_data t r next
changelog-more t r next =
    four changelog_data t r next
    ∙ ap (λ l. ((l ++ appended changelog_data (append_some fncache_path (part_lines r next))) ++ appended changelog_data (part_manifest t r next)) ++ appended changelog_data (append_some changelog_data (part_data t r next))) (appended-none (part_files t r next) changelog_data (filelogs-touched t (history r.changesets).filelog (history next.changesets).filelog (new_paths r next) changelog_data (not-stores changelog_data refl (new_paths r next))))
    ∙ ap (λ l. (l ++ appended changelog_data (part_manifest t r next)) ++ appended changelog_data (append_some changelog_data (part_data t r next))) (appended-none (append_some fncache_path (part_lines r next)) changelog_data (touched-some changelog_data fncache_path (part_lines r next) refl))
    ∙ ap (λ l. l ++ appended changelog_data (append_some changelog_data (part_data t r next))) (appended-none (part_manifest t r next) changelog_data (grown-touched false t manifest_index manifest_data changelog_data (history r.changesets).manifest (history next.changesets).manifest refl refl))
    ∙ appended-some changelog_data changelog_data (part_data t r next) refl

manifest-more : (t : Tree) (r next : Repo) → appended manifest_data (growth t r next) ≡ new_chunks (new_items (length (bytes_at t manifest_data)) (history r.changesets).manifest (drop (length (history r.changesets).manifest) (history next.changesets).manifest))
manifest-more t r next =
    four manifest_data t r next
    ∙ ap (λ l. ((l ++ appended manifest_data (append_some fncache_path (part_lines r next))) ++ appended manifest_data (part_manifest t r next)) ++ appended manifest_data (append_some changelog_data (part_data t r next))) (appended-none (part_files t r next) manifest_data (filelogs-touched t (history r.changesets).filelog (history next.changesets).filelog (new_paths r next) manifest_data (not-stores manifest_data refl (new_paths r next))))
    ∙ ap (λ l. (l ++ appended manifest_data (part_manifest t r next)) ++ appended manifest_data (append_some changelog_data (part_data t r next))) (appended-none (append_some fncache_path (part_lines r next)) manifest_data (touched-some manifest_data fncache_path (part_lines r next) refl))
    ∙ ap (λ l. appended manifest_data (part_manifest t r next) ++ l) (appended-none (append_some changelog_data (part_data t r next)) manifest_data (touched-some manifest_data changelog_data (part_data t r next) refl))
    ∙ append-nil (appended manifest_data (part_manifest t r next))
    ∙ grown-data false t manifest_index manifest_data (history r.changesets).manifest (history next.changesets).manifest refl

-- ---- a turn

commit-more : (p : List ℕ) (t : Tree) (r next : Repo) (more : List ℕ) → appended p (growth t r next) ≡ more → touched p (new_rename (new_roots next) ∷ []) ≡ false → (publish : Op) → touched p (publish ∷ []) ≡ false
    → appended p ((growth t r next ++ cond (roots_change r next) (new_rename (new_roots next) ∷ []) []) ++ publish ∷ []) ≡ more
commit-more p t r next more e quiet publish away =
    appended-append p (growth t r next ++ cond (roots_change r next) (new_rename (new_roots next) ∷ []) []) (publish ∷ [])
    ∙ ap (λ l. appended p (growth t r next ++ cond (roots_change r next) (new_rename (new_roots next) ∷ []) []) ++ l) (appended-none (publish ∷ []) p away)
    ∙ append-nil (appended p (growth t r next ++ cond (roots_change r next) (new_rename (new_roots next) ∷ []) []))
    ∙ appended-append p (growth t r next) (cond (roots_change r next) (new_rename (new_roots next) ∷ []) [])
    ∙ ap (λ l. appended p (growth t r next) ++ l) (rename-none p r next quiet)
    ∙ append-nil (appended p (growth t r next)) ∙ e

import-more : (p : List ℕ) (t : Tree) (r next : Repo) (more : List ℕ) → appended p (growth t r next) ≡ more → touched p (new_rename (new_roots next) ∷ []) ≡ false → (made publish : Op) → touched p (made ∷ []) ≡ false → touched p (publish ∷ []) ≡ false
    → appended p ((growth t r next ++ made ∷ cond (roots_change r next) (new_rename (new_roots next) ∷ []) []) ++ publish ∷ []) ≡ more
import-more p t r next more e quiet made publish away gone =
    let roots : List Op = cond (roots_change r next) (new_rename (new_roots next) ∷ []) [] in
    appended-append p (growth t r next ++ made ∷ roots) (publish ∷ [])
    ∙ ap (λ l. appended p (growth t r next ++ made ∷ roots) ++ l) (appended-none (publish ∷ []) p gone)
    ∙ append-nil (appended p (growth t r next ++ made ∷ roots))
    ∙ appended-append p (growth t r next) (made ∷ roots)
    ∙ ap (λ l. appended p (growth t r next) ++ l) (appended-append p (made ∷ []) roots ∙ (λ i. appended-none (made ∷ []) p away i ++ rename-none p r next quiet i))
    ∙ append-nil (appended p (growth t r next)) ∙ e

more-length : (t : Tree) (p more : List ℕ) (text : List ℕ) (most n : ℕ) → text ≡ bytes_at t p ++ more → length more ≡ n → length (bytes_at t p) + n ≤ most → length text ≤ most
more-length t p more text most n e l h = omega (arith, ap length e, length-append (bytes_at t p) more, l, h)

none-length : (t : Tree) (p text : List ℕ) (most : ℕ) → text ≡ bytes_at t p ++ [] → length (bytes_at t p) ≤ most → length text ≤ most
none-length t p text most e h = omega (arith, ap length e, length-append (bytes_at t p) [], h)

changelog-as : (t : Tree) (r next : Repo) (command : Command) (who : List ℕ) → HasRoomBehind command t r next → length (bytes_at t changelog_data) ≤ most_data → length (bytes_at (after_all ((transaction_of t r command who next).before ++ through_publishing (transaction_of t r command who next)) t) changelog_data) ≤ most_data
changelog-as t r next (Commit n) who room h =
    more-length t changelog_data (part_data t r next) _ most_data (stored_behind (history r.changesets).changelog (history next.changesets).changelog)
    (text-behind changelog_data refl refl t r (Commit n) who next ∙ ap (λ l. bytes_at t changelog_data ++ l) (commit-more changelog_data t r next (part_data t r next) (changelog-more t r next) refl (publishing t r (Commit n) next) refl))
    (chunks-length (drop (length (history r.changesets).changelog) (history next.changesets).changelog) _ _) room.0
changelog-as t r next (Import changes) who room h =
    more-length t changelog_data (part_data t r next) _ most_data (stored_behind (history r.changesets).changelog (history next.changesets).changelog)
    (text-behind changelog_data refl refl t r (Import changes) who next ∙ ap (λ l. bytes_at t changelog_data ++ l) (import-more changelog_data t r next (part_data t r next) (changelog-more t r next) refl (Create new_changelog_path (new_changelog_index t r next)) (publishing t r (Import changes) next) refl refl))
    (chunks-length (drop (length (history r.changesets).changelog) (history next.changesets).changelog) _ _) room.0
changelog-as t r next (Move rev phase force) who room h = none-length t changelog_data _ most_data (text-behind changelog_data refl refl t r (Move rev phase force) who next) h
changelog-as t r next (Mark name rev) who room h = none-length t changelog_data _ most_data (text-behind changelog_data refl refl t r (Mark name rev) who next) h
changelog-as t r next (Unmark name) who room h = none-length t changelog_data _ most_data (text-behind changelog_data refl refl t r (Unmark name) who next) h

manifest-as : (t : Tree) (r next : Repo) (command : Command) (who : List ℕ) → HasRoomBehind command t r next → length (bytes_at t manifest_data) ≤ most_data → length (bytes_at (after_all ((transaction_of t r command who next).before ++ through_publishing (transaction_of t r command who next)) t) manifest_data) ≤ most_data
manifest-as t r next (Commit n) who room h =
    more-length t manifest_data _ _ most_data (stored_behind (history r.changesets).manifest (history next.changesets).manifest)
    (text-behind manifest_data refl refl t r (Commit n) who next ∙ ap (λ l. bytes_at t manifest_data ++ l) (commit-more manifest_data t r next _ (manifest-more t r next) refl (publishing t r (Commit n) next) refl))
    (chunks-length (drop (length (history r.changesets).manifest) (history next.changesets).manifest) _ _) room.1
manifest-as t r next (Import changes) who room h =
    more-length t manifest_data _ _ most_data (stored_behind (history r.changesets).manifest (history next.changesets).manifest)
    (text-behind manifest_data refl refl t r (Import changes) who next ∙ ap (λ l. bytes_at t manifest_data ++ l) (import-more manifest_data t r next _ (manifest-more t r next) refl (Create new_changelog_path (new_changelog_index t r next)) (publishing t r (Import changes) next) refl refl))
    (chunks-length (drop (length (history r.changesets).manifest) (history next.changesets).manifest) _ _) room.1
manifest-as t r next (Move rev phase force) who room h = none-length t manifest_data _ most_data (text-behind manifest_data refl refl t r (Move rev phase force) who next) h
manifest-as t r next (Mark name rev) who room h = none-length t manifest_data _ most_data (text-behind manifest_data refl refl t r (Mark name rev) who next) h
manifest-as t r next (Unmark name) who room h = none-length t manifest_data _ most_data (text-behind manifest_data refl refl t r (Unmark name) who next) h

-- `requires` is not written
growth-away : (t : Tree) (r next : Repo) → touched requires_path (growth t r next) ≡ false
growth-away t r next =
    touched-append requires_path (part_files t r next ++ append_some fncache_path (part_lines r next) ++ part_manifest t r next) (append_some changelog_data (part_data t r next))
    (touched-append requires_path (part_files t r next ++ append_some fncache_path (part_lines r next)) (part_manifest t r next)
    (touched-append requires_path (part_files t r next) (append_some fncache_path (part_lines r next))
    (filelogs-touched t (history r.changesets).filelog (history next.changesets).filelog (new_paths r next) requires_path (not-stores requires_path refl (new_paths r next)))
    (touched-some requires_path fncache_path (part_lines r next) refl))
    (grown-touched false t manifest_index manifest_data requires_path (history r.changesets).manifest (history next.changesets).manifest refl refl))
    (touched-some requires_path changelog_data (part_data t r next) refl)

requires-as : (t : Tree) (r next : Repo) (command : Command) (who : List ℕ) (most : ℕ) → length (bytes_at t requires_path) ≤ most → length (bytes_at (after_all ((transaction_of t r command who next).before ++ through_publishing (transaction_of t r command who next)) t) requires_path) ≤ most
requires-as t r next (Commit n) who most h =
    none-length t requires_path _ most
    (text-behind requires_path refl refl t r (Commit n) who next ∙ ap (λ l. bytes_at t requires_path ++ l) (commit-more requires_path t r next [] (appended-none (growth t r next) requires_path (growth-away t r next)) refl (publishing t r (Commit n) next) refl)) h
requires-as t r next (Import changes) who most h =
    none-length t requires_path _ most
    (text-behind requires_path refl refl t r (Import changes) who next ∙ ap (λ l. bytes_at t requires_path ++ l) (import-more requires_path t r next [] (appended-none (growth t r next) requires_path (growth-away t r next)) refl (Create new_changelog_path (new_changelog_index t r next)) (publishing t r (Import changes) next) refl refl)) h
requires-as t r next (Move rev phase force) who most h = none-length t requires_path _ most (text-behind requires_path refl refl t r (Move rev phase force) who next) h
requires-as t r next (Mark name rev) who most h = none-length t requires_path _ most (text-behind requires_path refl refl t r (Mark name rev) who next) h
requires-as t r next (Unmark name) who most h = none-length t requires_path _ most (text-behind requires_path refl refl t r (Unmark name) who next) h

as-turn : (path : List ℕ) (most : ℕ) (t : Tree) (r : Repo) (x : Turn) → IsTurn t r x → (length (bytes_at t path) ≤ most → length (bytes_at (after_all ((transaction_of t r x.command x.who x.next).before ++ through_publishing (transaction_of t r x.command x.who x.next)) t) path) ≤ most) → EndsWithin path most t r x
as-turn path most t r x it h = λ short. subst (λ (ops : Transaction). length (bytes_at (after_all (ops.before ++ through_publishing ops) t) path) ≤ most) (sym it.listed) (h short)

pub changelog-ends : (t : Tree) (r : Repo) (x : Turn) → IsTurn t r x → IsMeasured t r x → EndsWithin changelog_data most_data t r x
changelog-ends t r x it m = as-turn changelog_data most_data t r x it (changelog-as t r x.next x.command x.who m.room)

pub manifest-ends : (t : Tree) (r : Repo) (x : Turn) → IsTurn t r x → IsMeasured t r x → EndsWithin manifest_data most_data t r x
manifest-ends t r x it m = as-turn manifest_data most_data t r x it (manifest-as t r x.next x.command x.who m.room)

pub requires-ends : (most : ℕ) (t : Tree) (r : Repo) (x : Turn) → IsTurn t r x → IsMeasured t r x → EndsWithin requires_path most t r x
requires-ends most t r x it m = as-turn requires_path most t r x it (requires-as t r x.next x.command x.who most)
