-- What a transaction makes of the list of filelogs.
use Rattle.std.proofs.Common.{◌≡◌, ◌⊎◌, ℕ, List, [], ◌∷◌, ◌++◌, Bool, true, false, ◌||◌, ◌&&◌, not, drop, length, refl, sym, ◌∙◌, ap, subst, inl, inr, append-nil, cond}
use Rattle.std.specs.Prelude.{Ok, flat_map, map, is_some}
use Rattle.std.specs.List.{AllByRecursion, list_all}
use Rattle.hex.specs.Hex.{IsBytes}
use Rattle.hgs_bytes.specs.Bytes.{IsPrefixOf, among, same}
use Rattle.hgs_bytes.specs.Text.{lines_of}
use Rattle.hgs_bytes.specs.Theorems.ByteLemmas.{same-eq, same-refl}
use Rattle.hgs_files.specs.declared.op.Op.{Op}
use Rattle.hgs_files.specs.declared.op.Op.TheVariants.{Append, Cut, Rename, Remove, Create, Sync, Settle}
use Rattle.hgs_files.specs.Tree.{Tree, after_all}
use Rattle.hgs_index.specs.Revision.{Parents}
use Rattle.hgs_index.specs.TrackedPath.{is_tracked}
use Rattle.hgs_model.specs.declared.command.Command.{Command}
use Rattle.hgs_model.specs.declared.command.Command.TheVariants.{Commit, Import, Mark, Move, Unmark}
use Rattle.hgs_model.specs.declared.command.NewChange.{NewChange}
use Rattle.hgs_model.specs.declared.files.NewFile.{NewFile}
use Rattle.hgs_model.specs.History.{EachChangeset, History, history, no_history, uses, with_changeset}
use Rattle.hgs_model.specs.Repo.{Changeset, Repo, tree_paths}
use Rattle.hgs_model.specs.Step.{Answer, new_changeset, new_file, step, sets_bookmark}
use Rattle.hgs_model.specs.IsRepo.{IsNextChangeset}
use Rattle.hgs_model.specs.Theorems.CountLemmas.{uses-push}
use Rattle.hgs_model.specs.Theorems.ImportLemmas.{commit-gone, import-gone}
use Rattle.hgs_model.specs.Theorems.ListLemmas.{all-join}
use Rattle.hgs_model.specs.Theorems.NewChangesetLemmas.{commit-keeps, import-keeps, step_commit-did}
use Rattle.hgs_model.specs.Valid.{IsNewChange, IsValid, new_paths as paths_of_files}
use Rattle.hgs_ops.specs.Growth.{appended, append_some, growth, new_names, new_paths}
use Rattle.hgs_ops.specs.Operations.{backups_of, changes_before, preparations, publishing, transaction_of, new_changelog_index, new_changelog_path, journal_of}
use Rattle.hgs_ops.specs.Replaced.{new_bookmarks, new_dirstate, new_rename, new_roots, only_if, replacements, roots_change}
use Rattle.hgs_ops.specs.Theorems.CommitLemmas.{growth-appends, part_data, part_files, part_lines, part_manifest}
use Rattle.hgs_ops.specs.Theorems.CommitTree.{IsSmall, is_append, preparations-within}
use Rattle.hgs_ops.specs.Theorems.FileGrowth.{appended-some, filelogs-touched, grown-touched, touched-some}
use Rattle.hgs_ops.specs.Theorems.GrowLemmas.{drop-front}
use Rattle.hgs_ops.specs.Theorems.NameLines.{lines-all, names-added}
use Rattle.hgs_ops.specs.Theorems.OnceLemmas.{new-used}
use Rattle.hgs_ops.specs.Theorems.StandsCommit.{GrowthFacts, among-in_order, among-trees, not-stores, uses-joined}
use Rattle.hgs_ops.specs.Theorems.Touch.{all-append, and-both, and-left, and-right, appended-append, appended-at, appended-none, bool, never, only-untouched, touched, touched-within}
use Rattle.hgs_ops.specs.Unhindered.{IsUnhindered}
use Rattle.hgs_path.specs.declared.name.Ext.{Ext}
use Rattle.hgs_path.specs.declared.name.Ext.TheVariants.{I, D}
use Rattle.hgs_path.specs.Fncache.{clashes}
use Rattle.hgs_path.specs.ListedNames.{listed_file, names_of}
use Rattle.hgs_path.specs.StoreName.{listed_name, store_name}
use Rattle.hgs_path.specs.Theorems.ApartLemmas.{kinds-apart, listed-file}
use Rattle.hgs_stands.specs.Places.{changelog_data, fncache_path, manifest_data, manifest_index}
use Rattle.hgs_stands.specs.Stands.{Stands}
use Rattle.hgs_legal.specs.LegalLog.{through_publishing}
use Rattle.hgs_legal.specs.ListsPaths.{AreKeptLines, IsKeptName, IsOwnName, ListsPaths}
use Rattle.hgs_legal.proofs.ListLines.{names-whole, whole-names}
use Rattle.hgs_legal.proofs.ListOps.{AreTame, is_away, is_tame, list_of}
use Rattle.hgs_journal.specs.Texts.{journal_text}

-- ---- the text behind a transaction's operations

small-both : (r next : Repo) (roots marks : Bool) → AllByRecursion (IsSmall is_away) (only_if roots (new_roots next) ++ new_dirstate next ∷ only_if marks (new_bookmarks next))
small-both r next true true = ((refl, refl), ((refl, refl), ((refl, refl), tt)))
small-both r next true false = ((refl, refl), ((refl, refl), tt))
small-both r next false true = ((refl, refl), ((refl, refl), tt))
small-both r next false false = ((refl, refl), tt)

small : (r : Repo) (command : Command) (next : Repo) → AllByRecursion (IsSmall is_away) (replacements r command next)
small r (Commit n) next = small-both r next (roots_change r next) (is_some n.bookmark)
small r (Import changes) next = small-both r next (roots_change r next) (sets_bookmark changes)
small r (Move rev phase force) next = ((refl, refl), tt)
small r (Mark name rev) next = ((refl, refl), tt)
small r (Unmark name) next = ((refl, refl), tt)

pub before-untouched : (t : Tree) (r : Repo) (command : Command) (who : List ℕ) (next : Repo) → touched fncache_path (transaction_of t r command who next).before ≡ false
before-untouched t r command who next =
    touched-within is_away (preparations t who (replacements r command next) (backups_of t r command next) (journal_text (journal_of t r command next))) fncache_path
    (preparations-within is_away t who (replacements r command next) (backups_of t r command next) (journal_text (journal_of t r command next)) refl refl refl refl (small r command next)) refl

append-tame : (ops : List Op) → list_all is_append ops ≡ true → AreTame ops
append-tame [] e = refl
append-tame (op ∷ ops) e = and-both _ _ (one op (and-left _ _ e)) (append-tame ops (and-right (is_append op) _ e))
  where
    one : (op : Op) → is_append op ≡ true → is_tame op ≡ true
    one (Append path bytes) h = refl
    one (Cut path len) h = never (sym h)
    one (Rename from to) h = never (sym h)
    one (Remove path) h = never (sym h)
    one (Create path bytes) h = never (sym h)
    one (Sync path) h = never (sym h)
    one Settle h = never (sym h)

-- the changes and the publishing operation only append to it
roots-tame : (next : Repo) (b : Bool) → AreTame (cond b (new_rename (new_roots next) ∷ []) [])
roots-tame next true = refl
roots-tame next false = refl

changes-tame : (t : Tree) (r : Repo) (command : Command) (next : Repo) → AreTame (changes_before t r command next)
changes-tame t r (Commit n) next = all-append is_tame (growth t r next) _ (append-tame (growth t r next) (growth-appends t r next)) (roots-tame next (roots_change r next))
changes-tame t r (Import changes) next =
    all-append is_tame (growth t r next) (Create new_changelog_path (new_changelog_index t r next) ∷ cond (roots_change r next) (new_rename (new_roots next) ∷ []) []) (append-tame (growth t r next) (growth-appends t r next)) (roots-tame next (roots_change r next))
changes-tame t r (Move rev phase force) next = refl
changes-tame t r (Mark name rev) next = refl
changes-tame t r (Unmark name) next = refl

publish-tame : (t : Tree) (r : Repo) (command : Command) (next : Repo) → is_tame (publishing t r command next) ≡ true
publish-tame t r (Commit n) next = refl
publish-tame t r (Import changes) next = refl
publish-tame t r (Move rev phase force) next = refl
publish-tame t r (Mark name rev) next = refl
publish-tame t r (Unmark name) next = refl

pub all-tame : (t : Tree) (r : Repo) (command : Command) (who : List ℕ) (next : Repo) → AreTame ((transaction_of t r command who next).before ++ through_publishing (transaction_of t r command who next))
all-tame t r command who next =
    all-append is_tame (transaction_of t r command who next).before (through_publishing (transaction_of t r command who next))
    (only-untouched (transaction_of t r command who next).before fncache_path (before-untouched t r command who next))
    (all-append is_tame (changes_before t r command next) (publishing t r command next ∷ []) (changes-tame t r command next) (and-both _ _ (publish-tame t r command next) refl))

-- what is appended to the list
abbrev pub added : Repo → Command → Repo → List ℕ
added r (Commit n) next = part_lines r next
added r (Import changes) next = part_lines r next
added r (Move rev phase force) next = []
added r (Mark name rev) next = []
added r (Unmark name) next = []

pub growth-list : (t : Tree) (r next : Repo) → appended fncache_path (growth t r next) ≡ part_lines r next
growth-list t r next =
    appended-append fncache_path (fl ++ fn ++ mf) cl ∙ ap (λ l. l ++ appended fncache_path cl) (appended-append fncache_path (fl ++ fn) mf ∙ ap (λ l. l ++ appended fncache_path mf) (appended-append fncache_path fl fn))
    ∙ ap (λ l. ((l ++ appended fncache_path fn) ++ appended fncache_path mf) ++ appended fncache_path cl) (appended-none fl fncache_path (filelogs-touched t (history r.changesets).filelog (history next.changesets).filelog (new_paths r next) fncache_path (not-stores fncache_path refl (new_paths r next))))
    ∙ ap (λ l. (appended fncache_path fn ++ l) ++ appended fncache_path cl) (appended-none mf fncache_path (grown-touched false t manifest_index manifest_data fncache_path (history r.changesets).manifest (history next.changesets).manifest refl refl))
    ∙ ap (λ l. (appended fncache_path fn ++ []) ++ l) (appended-none cl fncache_path (touched-some fncache_path changelog_data (part_data t r next) refl))
    ∙ append-nil (appended fncache_path fn ++ []) ∙ append-nil (appended fncache_path fn)
    ∙ appended-some fncache_path fncache_path (part_lines r next) refl
  where
    fl : List Op
    fl = part_files t r next

    fn : List Op
    fn = append_some fncache_path (part_lines r next)

    mf : List Op
    mf = part_manifest t r next

    cl : List Op
    cl = append_some changelog_data (part_data t r next)

pub roots-list : (next : Repo) (b : Bool) → appended fncache_path (cond b (new_rename (new_roots next) ∷ []) []) ≡ []
roots-list next true = refl
roots-list next false = refl

changes-list : (t : Tree) (r : Repo) (command : Command) (next : Repo) → appended fncache_path (changes_before t r command next) ≡ added r command next
changes-list t r (Commit n) next =
    appended-append fncache_path (growth t r next) _ ∙ ap (λ l. appended fncache_path (growth t r next) ++ l) (roots-list next (roots_change r next)) ∙ append-nil (appended fncache_path (growth t r next)) ∙ growth-list t r next
changes-list t r (Import changes) next =
    appended-append fncache_path (growth t r next) (Create new_changelog_path (new_changelog_index t r next) ∷ cond (roots_change r next) (new_rename (new_roots next) ∷ []) [])
    ∙ ap (λ l. appended fncache_path (growth t r next) ++ l) (roots-list next (roots_change r next)) ∙ append-nil (appended fncache_path (growth t r next)) ∙ growth-list t r next
changes-list t r (Move rev phase force) next = refl
changes-list t r (Mark name rev) next = refl
changes-list t r (Unmark name) next = refl

publish-list : (t : Tree) (r : Repo) (command : Command) (next : Repo) → appended fncache_path (publishing t r command next ∷ []) ≡ []
publish-list t r (Commit n) next = refl
publish-list t r (Import changes) next = refl
publish-list t r (Move rev phase force) next = refl
publish-list t r (Mark name rev) next = refl
publish-list t r (Unmark name) next = refl

pub text-behind : (t : Tree) (r : Repo) (command : Command) (who : List ℕ) (next : Repo) → list_of (after_all ((transaction_of t r command who next).before ++ through_publishing (transaction_of t r command who next)) t) ≡ list_of t ++ added r command next
text-behind t r command who next =
    appended-at ((transaction_of t r command who next).before ++ through_publishing (transaction_of t r command who next)) t fncache_path (all-tame t r command who next)
    ∙ ap (λ l. list_of t ++ l) (
    appended-append fncache_path (transaction_of t r command who next).before (through_publishing (transaction_of t r command who next))
    ∙ ap (λ l. l ++ appended fncache_path (through_publishing (transaction_of t r command who next))) (appended-none (transaction_of t r command who next).before fncache_path (before-untouched t r command who next))
    ∙ appended-append fncache_path (changes_before t r command next) (publishing t r command next ∷ [])
    ∙ ap (λ l. appended fncache_path (changes_before t r command next) ++ l) (publish-list t r command next)
    ∙ append-nil (appended fncache_path (changes_before t r command next)) ∙ changes-list t r command next)

-- ---- names of one file

-- paths of one file are one where they do not clash
pub clash-free : (path other : List ℕ) (ext kind : Ext) → clashes path other ≡ false → store_name other kind ≡ store_name path ext → (other ≡ path) × (kind ≡ ext)
clash-free path other I D free e = never (sym (ap (same (store_name path I)) e ∙ same-refl (store_name path I)) ∙ kinds-apart path other)
clash-free path other D I free e = never (sym (ap (same (store_name other I)) (sym e) ∙ same-refl (store_name other I)) ∙ kinds-apart other path)
clash-free path other I I free e = (by (bool (same other path)), refl)
  where
    by : (same other path ≡ true) ⊎ (same other path ≡ false) → other ≡ path
    by (inl here) = same-eq other path here
    by (inr away) = never (sym ((λ i. not (away i) && (alike i || same (store_name other D) (store_name path D)))) ∙ free)
      where
        alike : same (store_name other I) (store_name path I) ≡ true
        alike = ap (same (store_name other I)) (sym e) ∙ same-refl (store_name other I)
clash-free path other D D free e = (by (bool (same other path)), refl)
  where
    or-true : (b : Bool) → (b || true) ≡ true
    or-true true = refl
    or-true false = refl

    by : (same other path ≡ true) ⊎ (same other path ≡ false) → other ≡ path
    by (inl here) = same-eq other path here
    by (inr away) = never (sym ((λ i. not (away i) && (same (store_name other I) (store_name path I) || alike i)) ∙ or-true (same (store_name other I) (store_name path I))) ∙ free)
      where
        alike : same (store_name other D) (store_name path D) ≡ true
        alike = ap (same (store_name other D)) (sym e) ∙ same-refl (store_name other D)

pub one-name : (path other : List ℕ) (ext kind : Ext) → clashes path other ≡ false → store_name other kind ≡ store_name path ext → listed_name path ext ≡ listed_name other kind
one-name path other ext kind free e = let one = clash-free path other ext kind free e in λ i. listed_name (sym one.0 i) (sym one.1 i)

-- ---- the paths of a commit

pub all-among : (P : List ℕ → Type 0) (xs : List (List ℕ)) → ((x : List ℕ) → among x xs ≡ true → P x) → AllByRecursion P xs
all-among P [] each = tt
all-among P (x ∷ xs) each = (each x (ap (λ b. b || among x xs) (same-refl x)), all-among P xs (λ y there. each y (more (same y x) (among y xs) there)))
  where
    more : (a b : Bool) → b ≡ true → (a || b) ≡ true
    more true b e = refl
    more false b e = e

pub among-all : (P : List ℕ → Type 0) (xs : List (List ℕ)) → AllByRecursion P xs → (x : List ℕ) → among x xs ≡ true → P x
among-all P [] all x e = never (sym e)
among-all P (y ∷ xs) all x e = by (bool (same x y)) (λ h. among-all P xs all.1 x h)
  where
    by : (same x y ≡ true) ⊎ (same x y ≡ false) → (among x xs ≡ true → P x) → P x
    by (inl h) rec = subst P (sym (same-eq x y h)) all.0
    by (inr h) rec = rec (ap (λ b. b || among x xs) (sym h) ∙ e)

pub among-new : (r next : Repo) (c : Changeset) → next.changesets ≡ r.changesets ++ c ∷ [] → (p : List ℕ) → among p (new_paths r next) ≡ among p (tree_paths c.tree)
among-new r next c e p =
    among-in_order p (flat_map (λ x. tree_paths x.tree) (drop (length r.changesets) next.changesets))
    ∙ ap (λ (l : List Changeset). among p (flat_map (λ x. tree_paths x.tree) l)) (ap (drop (length r.changesets)) e ∙ drop-front r.changesets (c ∷ []))
    ∙ ap (among p) (append-nil (tree_paths c.tree))

new-or-old : (r next : Repo) → IsPrefixOf r.changesets next.changesets → (p : List ℕ) → (uses r.changesets p || among p (new_paths r next)) ≡ uses next.changesets p
new-or-old r next goes p =
    ap (λ b. uses r.changesets p || b) (among-in_order p (flat_map (λ x. tree_paths x.tree) (drop (length r.changesets) next.changesets)) ∙ ap (λ (l : List Changeset). among p (flat_map (λ x. tree_paths x.tree) l)) (ap (drop (length r.changesets)) goes.1 ∙ drop-front r.changesets goes.0) ∙ among-trees p goes.0)
    ∙ sym (ap (λ (l : List Changeset). uses l p) goes.1 ∙ uses-joined r.changesets goes.0 p)

-- a path that is used behind the changeset was used before, or is new
pub used-or-new : (r next : Repo) (c : Changeset) → next.changesets ≡ r.changesets ++ c ∷ [] → (p : List ℕ) → uses next.changesets p ≡ true → (uses r.changesets p ≡ true) ⊎ (among p (new_paths r next) ≡ true)
used-or-new r next c e p used = by (bool (uses r.changesets p))
  where
    by : (uses r.changesets p ≡ true) ⊎ (uses r.changesets p ≡ false) → (uses r.changesets p ≡ true) ⊎ (among p (new_paths r next) ≡ true)
    by (inl a) = inl a
    by (inr a) = inr (among-new r next c e p ∙ sym (ap (λ b. b || among p (tree_paths c.tree)) a) ∙ sym (uses-push r.changesets c p) ∙ ap (λ (l : List Changeset). uses l p) (sym e) ∙ used)

pub used-or-some : (r next : Repo) → IsPrefixOf r.changesets next.changesets → (p : List ℕ) → uses next.changesets p ≡ true → (uses r.changesets p ≡ true) ⊎ (among p (new_paths r next) ≡ true)
used-or-some r next goes p used = by (uses r.changesets p) (new-or-old r next goes p ∙ used)
  where
    by : (b : Bool) → (b || among p (new_paths r next)) ≡ true → (b ≡ true) ⊎ (among p (new_paths r next) ≡ true)
    by true e = inl refl
    by false e = inr e

pub used-still : (r next : Repo) → IsPrefixOf r.changesets next.changesets → (p : List ℕ) → uses r.changesets p ≡ true → uses next.changesets p ≡ true
used-still r next goes p used = sym (new-or-old r next goes p) ∙ ap (λ b. b || among p (new_paths r next)) used

pub used-more : (r next : Repo) (c : Changeset) → next.changesets ≡ r.changesets ++ c ∷ [] → (p : List ℕ) → uses r.changesets p ≡ true → uses next.changesets p ≡ true
used-more r next c e p used = ap (λ (l : List Changeset). uses l p) e ∙ uses-push r.changesets c p ∙ ap (λ b. b || among p (tree_paths c.tree)) used

-- ---- a commit

-- the changeset that an accepted commit adds
pub record Added (r : Repo) (n : NewChange) (next : Repo) : Type 0 where
  pub c : Changeset
  pub changesets : next.changesets ≡ r.changesets ++ c ∷ []
  pub paths : tree_paths c.tree ≡ paths_of_files n.files

same-paths : (h : History) (parents : Parents) (files : List NewFile) → tree_paths (map (new_file h parents) files) ≡ paths_of_files files
same-paths h parents [] = refl
same-paths h parents (f ∷ files) = ap (λ l. f.path ∷ l) (same-paths h parents files)

pub adds : (t : Tree) (r next : Repo) (n : NewChange) (answer : Answer) → Stands t r → step r (Commit n) ≡ Ok (next, answer) → Added r n next
adds t r next n answer s e =
    let did = step_commit-did r n next answer s.repository e in
    record { c = new_changeset (history r.changesets) did.parents n; changesets = ap (λ (q : Repo). q.changesets) did.is; paths = same-paths (history r.changesets) did.parents n.files }

pub new-of-command : (r next : Repo) (n : NewChange) → Added r n next → (p : List ℕ) → among p (new_paths r next) ≡ among p (paths_of_files n.files)
new-of-command r next n a p = among-new r next a.c a.changesets p ∙ ap (among p) a.paths

-- a path that changesets of a history use is tracked
tracked-all : (ps : List (List ℕ)) → list_all is_tracked ps ≡ true → (p : List ℕ) → among p ps ≡ true → is_tracked p ≡ true
tracked-all [] all p e = never (sym e)
tracked-all (q ∷ ps) all p e = by (bool (same p q)) (λ h. tracked-all ps (and-right (is_tracked q) _ all) p h)
  where
    by : (same p q ≡ true) ⊎ (same p q ≡ false) → (among p ps ≡ true → is_tracked p ≡ true) → is_tracked p ≡ true
    by (inl h) rec = ap is_tracked (same-eq p q h) ∙ and-left _ _ all
    by (inr h) rec = rec (ap (λ b. b || among p ps) (sym h) ∙ e)

used-tracked : (h : History) (changesets : List Changeset) → EachChangeset IsNextChangeset h changesets → (q : List ℕ) → uses changesets q ≡ true → is_tracked q ≡ true
used-tracked h [] each q e = never (sym e)
used-tracked h (c ∷ changesets) each q e = by (bool (among q (tree_paths c.tree))) (λ g. used-tracked (with_changeset h c) changesets each.1 q g)
  where
    by : (among q (tree_paths c.tree) ≡ true) ⊎ (among q (tree_paths c.tree) ≡ false) → (uses changesets q ≡ true → is_tracked q ≡ true) → is_tracked q ≡ true
    by (inl g) rec = tracked-all (tree_paths c.tree) each.0.paths q g
    by (inr g) rec = rec (ap (λ z. z || uses changesets q) (sym g) ∙ e)

-- what is known of a repository that a commit or an import leads to
pub grows-by : (t : Tree) (r next : Repo) (n : NewChange) (answer : Answer) → Stands t r → IsNewChange n → step r (Commit n) ≡ Ok (next, answer) → IsUnhindered t r next → GrowthFacts t r next
grows-by t r next n answer s good e un = record { stands = s; repository = commit-keeps r n next answer s.repository good e; goes_on = (commit-gone r n (next, answer) good e).changesets; un = un }

pub grows-by-all : (t : Tree) (r next : Repo) (changes : List NewChange) (answer : Answer) → Stands t r → IsValid (Import changes) → step r (Import changes) ≡ Ok (next, answer) → IsUnhindered t r next → GrowthFacts t r next
grows-by-all t r next changes answer s good e un = record { stands = s; repository = import-keeps r changes next answer s.repository good.each e; goes_on = (import-gone r changes (next, answer) good.each e).changesets; un = un }

-- The list with the lines of the new filelogs has only kept names of the next repository.
pub kept-next : (t : Tree) (r next : Repo) → GrowthFacts t r next → ListsPaths t r → AllByRecursion IsBytes (new_paths r next) → AreKeptLines next.changesets (list_of t ++ part_lines r next)
kept-next t r next f lists bytes =
    names-whole (IsKeptName next.changesets) 1 (lines_of (list_of t ++ part_lines r next)) (s.fncache.names ++ new) read
    (all-join (IsKeptName next.changesets) s.fncache.names new (all-among (IsKeptName next.changesets) s.fncache.names old-kept) (lines-all (IsKeptName next.changesets) (history r.changesets).filelog (history next.changesets).filelog (new_paths r next) new-kept))
  where
    s : Stands t r
    s = f.stands

    un : IsUnhindered t r next
    un = f.un

    new : List (List ℕ)
    new = new_names (history r.changesets).filelog (history next.changesets).filelog (new_paths r next)

    read : names_of (list_of t ++ part_lines r next) ≡ Ok (s.fncache.names ++ new)
    read =
        names-added (history r.changesets).filelog (history next.changesets).filelog (new_paths r next) (list_of t) s.fncache.names
        (λ q there. used-tracked no_history next.changesets f.repository.changesets q (new-used r next q there)) s.fncache.text

    before : AllByRecursion (IsKeptName r.changesets) s.fncache.names
    before = whole-names (IsKeptName r.changesets) 1 (lines_of (list_of t)) s.fncache.names s.fncache.text lists.lines

    old-kept : (name : List ℕ) → among name s.fncache.names ≡ true → IsKeptName next.changesets name
    old-kept name there =
        let k = among-all (IsKeptName r.changesets) s.fncache.names before name there in
        (k.0, λ path ext used is. own path ext k.1 is (used-or-some r next f.goes_on path used))
      where
        own : (path : List ℕ) (ext : Ext) → IsOwnName r.changesets name → listed_file name ≡ store_name path ext → (uses r.changesets path ≡ true) ⊎ (among path (new_paths r next) ≡ true) → listed_name path ext ≡ name
        own path ext k is (inl u) = k path ext u is
        own path ext k is (inr w) = un.listed s.fncache.names s.fncache.text name path ext there w is

    new-kept : (q : List ℕ) (ext : Ext) → among q (new_paths r next) ≡ true → IsKeptName next.changesets (listed_name q ext)
    new-kept q ext there = (
      (q, ext, among-all IsBytes (new_paths r next) bytes q there, refl),
      λ path kind used is. sym (one-name q path ext kind (un.names q path there used) (sym is ∙ listed-file q ext)),
    )
