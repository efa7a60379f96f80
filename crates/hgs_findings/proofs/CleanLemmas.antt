-- A tree in which nothing is found is clean for the repository that its files make.
use Rattle.std.proofs.Common.{◌≡◌, ◌⊎◌, ℕ, zero, suc, ◌<◌, ◌≤◌, List, [], ◌∷◌, Bool, true, false, cond, ◌&&◌, ◌||◌, not, length, map, get_or, refl, sym, ◌∙◌, ap, subst, inl, inr, arith}
use Rattle.std.specs.Prelude.{Option, Some, None, Result, Ok, Err, IfSome, option_map, option_and_then, unwrap_or, is_some, is_none, slice_get, slice_index, slice_index_or}
use Rattle.std.specs.List.{AllByRecursion, list_all}
use Rattle.std.specs.Cmp.Lexicographic.{slice_cmp}
use Rattle.std.specs.Ordering.{nat_cmp, match_ordering}
use Rattle.std.specs.declared.cmp.Ordering.{Ordering}
use Rattle.std.specs.declared.cmp.Ordering.TheVariants.{Less, Equal, Greater}
use Rattle.std.proofs.lemmas.List.{length-map}
use Rattle.std.proofs.lemmas.List.Quantifiers.{position-Some}
use Rattle.std.proofs.lemmas.Option.{slice_get-map, slice_get_within, slice_get-get_or, get_or_from_slice_get}
use Rattle.hgs_bytes.specs.Bytes.{same, among}
use Rattle.hgs_bytes.specs.Text.{ascends}
use Rattle.hgs_files.specs.Tree.{Tree, bytes_at}
use Rattle.hgs_index.specs.declared.entry.Entry.{Entry}
use Rattle.hgs_index.specs.Manifest.{Row}
use Rattle.hgs_index.specs.Node.{null_node}
use Rattle.hgs_index.specs.Revision.{Revision, Parents, ParentsBefore, nodes, parent_node}
use Rattle.hgs_journal.specs.Names.{journal_path, locks}
use Rattle.hgs_marks.specs.declared.fault.MarkFault.{MarkFault}
use Rattle.hgs_marks.specs.Bookmarks.{Mark, mark_lines, with_mark, with_marks, all_with}
use Rattle.hgs_marks.specs.Dirstate.{Dirstate, no_dirstate, read_dirstate}
use Rattle.hgs_marks.specs.Theorems.MarkText.{bookmarks_found}
use Rattle.hgs_model.specs.declared.phase.Phase.{Phase}
use Rattle.hgs_model.specs.declared.phase.Phase.TheVariants.{Public, Draft, Secret}
use Rattle.hgs_model.specs.Phase.{phase_number, greater}
use Rattle.hgs_model.specs.Repo.{Changeset, Bookmark, all_parents, tree_at, paths_at, tree_paths, tracked_paths}
use Rattle.hgs_model.specs.History.{history, changeset_nodes, parents_in}
use Rattle.hgs_model.specs.IsRepo.{IsRepo, IsPhase, phase_at}
use Rattle.hgs_phases.specs.declared.fault.RootsFault.{RootsFault}
use Rattle.hgs_phases.specs.declared.roots.Root.{Root}
use Rattle.hgs_phases.specs.Changelog.{IsChangelog, ArePhases}
use Rattle.hgs_phases.specs.Phases.{history_of, parent_phase, phases_by}
use Rattle.hgs_phases.specs.Roots.{read_roots}
use Rattle.hgs_phases.specs.Theorems.RiseLemmas.{given_rise}
use Rattle.hgs_revlog.specs.Log.{nodes_of, place_of}
use Rattle.hgs_stands.specs.Places.{bookmarks_path, dirstate_path, roots_path}
use Rattle.hgs_stands.specs.Requires.{IsInProfile}
use Rattle.hgs_stands.specs.Stands.{HasPhases, HasBookmarks, HasDirstate, IsClean, mark_of, changeset_entries}
use Rattle.hgs_stands.specs.Theorems.ListedLemmas.{among-at, place-same, length-nodes}
use Rattle.hgs_stands.specs.Theorems.PhaseLemmas.{entries-nodes, entries-parents}
use Rattle.hgs_findings.specs.Sight.{Sight, Seen, value, place, row_paths, seen, seen_of, tree_file, changeset_of, changesets_of}
use Rattle.hgs_findings.specs.Regular.{rows_of_seen}
use Rattle.hgs_findings.specs.Reading.{the_changelog, sight_of}
use Rattle.hgs_findings.specs.Findings.{journal, lock, bad_roots, bad_bookmarks, bad_dirstate, unknown_root, unknown_mark, unknown_parent, other_paths, roots_in, mark_lines_in, dirstate_in, known, is_unknown_parent, paths_of_seen, paths_at_node, have_same, tracks_others, bookmark_of, repo_of}
use Rattle.hgs_findings.proofs.Basics.{same-eq, same-refl, bool, never, none-some, some-same, and-left, and-right}
use Rattle.hgs_findings.proofs.NamingLemmas.{or-none, not-none}
use Rattle.hgs_findings.proofs.LogLemmas.{position-none}
use Rattle.hgs_findings.proofs.SightLemmas.{IsRead}
use Rattle.hgs_findings.proofs.StepLemmas.{place-below, place-node}
use Rattle.hgs_findings.proofs.RegularLemmas.{all-read, each-next, changelog-whole}
use Rattle.hgs_findings.proofs.PartLemmas.{must-fail, must-hold, FindsNothing, holds, logs, regular, revlogs, fncache}

-- ---- lists

place-among : (log : List Revision) (node : List ℕ) → is_some (place log node) ≡ true → among node (nodes log) ≡ true
place-among log node e = by (place log node) refl e
  where
    by : (o : Option ℕ) → place log node ≡ o → is_some o ≡ true → among node (nodes log) ≡ true
    by None g h = never (sym h)
    by (Some v) g h =
        let p = position-Some (same node) (nodes log) v null_node g in
        ap (λ x. among x (nodes log)) (same-eq node (slice_index_or (nodes log) v null_node) p.1) ∙ among-at (nodes log) v null_node p.0

all-found : {A : Type 0} (f : A → Bool) (xs : List A) → ((n : ℕ) (x : A) → slice_get xs n ≡ Some x → f x ≡ true) → list_all f xs ≡ true
all-found f [] h = refl
all-found f (x ∷ xs) h = ap (λ b. b && list_all f xs) (h 0 x refl) ∙ all-found f xs (λ n y e. h (suc n) y e)

facts-found : {A : Type 0} (P : A → Type 0) (xs : List A) → ((n : ℕ) (x : A) → slice_get xs n ≡ Some x → P x) → AllByRecursion P xs
facts-found P [] h = tt
facts-found P (x ∷ xs) h = (h 0 x refl, facts-found P xs (λ n y e. h (suc n) y e))

mark-all : (P : Mark → Type 0) (marks : List Mark) (new : Mark) → AllByRecursion P marks → P new → AllByRecursion P (with_mark marks new)
mark-all P [] new all p = (p, tt)
mark-all P (m ∷ marks) new all p = by (slice_cmp nat_cmp new.name m.name) (mark-all P marks new all.1 p)
  where
    by : (o : Ordering) → AllByRecursion P (with_mark marks new) → AllByRecursion P (match_ordering o (new ∷ m ∷ marks) (new ∷ marks) (m ∷ with_mark marks new))
    by Less rec = (p, all)
    by Equal rec = (p, all.1)
    by Greater rec = (all.0, rec)

marks-all : (P : Mark → Type 0) (marks more : List Mark) → AllByRecursion P marks → AllByRecursion P more → AllByRecursion P (with_marks marks more)
marks-all P marks [] all more_all = all
marks-all P marks (new ∷ more) all more_all = marks-all P (with_mark marks new) more (mark-all P marks new all more_all.0) more_all.1

-- paths that are the same as sets
same-sets : (xs ys : List (List ℕ)) → have_same xs ys ≡ true → (p : List ℕ) → among p xs ≡ among p ys
same-sets xs ys e p = by (bool (among p xs)) (bool (among p ys))
  where
    within : (us bs : List (List ℕ)) → list_all (λ x. among x bs) us ≡ true → among p us ≡ true → among p bs ≡ true
    within [] bs h m = never (sym m)
    within (a ∷ us) bs h m = here (bool (same p a)) (within us bs (and-right (among a bs) (list_all (λ x. among x bs) us) h))
      where
        here : (same p a ≡ true) ⊎ (same p a ≡ false) → (among p us ≡ true → among p bs ≡ true) → among p bs ≡ true
        here (inl t) rec = ap (λ x. among x bs) (same-eq p a t) ∙ and-left (among a bs) (list_all (λ x. among x bs) us) h
        here (inr t) rec = rec (sym (ap (λ b. b || among p us) t) ∙ m)

    by : (among p xs ≡ true) ⊎ (among p xs ≡ false) → (among p ys ≡ true) ⊎ (among p ys ≡ false) → among p xs ≡ among p ys
    by (inl a) b = a ∙ sym (within xs ys (and-left (list_all (λ x. among x ys) xs) (list_all (λ y. among y xs) ys) e) a)
    by (inr a) (inl b) = never (sym (within ys xs (and-right (list_all (λ x. among x ys) xs) (list_all (λ y. among y xs) ys) e) b) ∙ a)
    by (inr a) (inr b) = a ∙ sym b

parents-are : (s : Sight) (log : List Revision) → all_parents (map (changeset_of s) (map (seen_of s) log)) ≡ parents_in log
parents-are s [] = refl
parents-are s (r ∷ log) = ap (λ l. r.parents ∷ l) (parents-are s log)

-- the tree of a changeset that the lists make
tree-of : (s : Sight) (cs : List Seen) (v : ℕ) (c : Seen) → slice_get cs v ≡ Some c → tree_paths (tree_at (map (changeset_of s) cs) v) ≡ row_paths (rows_of_seen c)
tree-of s [] v c e = none-some c e
tree-of s (x ∷ cs) zero c e = paths (rows_of_seen x) ∙ ap (λ (y : Seen). row_paths (rows_of_seen y)) (some-same x x c e)
  where
    paths : (rows : List Row) → tree_paths (map (tree_file s) rows) ≡ row_paths rows
    paths [] = refl
    paths (row ∷ rows) = ap (λ l. row.path ∷ l) (paths rows)
tree-of s (x ∷ cs) (suc v) c e = tree-of s cs v c e

read-at : (s : Sight) (cs : List Seen) (v : ℕ) → v < length cs → AllByRecursion (IsRead s) cs → (c : Seen) × (slice_get cs v ≡ Some c) × (c.rows ≡ Some (rows_of_seen c))
read-at s [] v lt all = absurd (omega (arith, lt))
read-at s (c ∷ cs) zero lt all = (c, refl, all.0.rows_are ∙ sym (ap (λ o. Some (unwrap_or o [])) all.0.rows_are))
read-at s (c ∷ cs) (suc v) lt all = read-at s cs v (omega (arith, lt)) all.1

-- ---- the tree

module _ (t : Tree) (n : FindsNothing t) where
  abbrev s : Sight
  s = sight_of t

  abbrev cs : List Changeset
  cs = changesets_of (sight_of t)

  nodes-are : changeset_nodes cs ≡ nodes s.changelog
  nodes-are = ap nodes (changelog-whole s (logs t n) (regular t n))

  count : length cs ≡ length s.changelog
  count = length-map (seen s) (changeset_of s) ∙ length-map s.changelog (seen_of s)

  known-among : (node : List ℕ) → is_some (known s node) ≡ true → among node (changeset_nodes cs) ≡ true
  known-among node e = ap (among node) nodes-are ∙ place-among s.changelog node e

  -- ---- phases

  roots-read : read_roots (bytes_at t roots_path) ≡ Ok (roots_in t)
  roots-read = by (read_roots (bytes_at t roots_path)) (must-hold (is_some (value (read_roots (bytes_at t roots_path)))) (λ h. n.none _ _ _ (bad_roots h)))
    where
      by : (o : Result (List Root) RootsFault) → is_some (value o) ≡ true → o ≡ Ok (unwrap_or (value o) [])
      by (Ok x) e = refl
      by (Err f) e = never (sym e)

  pub phases : HasPhases t (repo_of t)
  phases = record {
    roots = roots_in t;
    text = roots-read;
    known = all-found (λ (root : Root). among root.node.0 (changeset_nodes cs)) (roots_in t) (λ i root e. known-among root.node.0 (must-hold (is_some (known s root.node.0)) (λ h. n.none _ _ _ (unknown_root i root e h))));
    phases = refl;
  }

  -- ---- bookmarks

  lines-read : mark_lines (bytes_at t bookmarks_path) ≡ Ok (mark_lines_in t)
  lines-read = by (mark_lines (bytes_at t bookmarks_path)) (must-hold (is_some (value (mark_lines (bytes_at t bookmarks_path)))) (λ h. n.none _ _ _ (bad_bookmarks h)))
    where
      by : (o : Result (List Mark) MarkFault) → is_some (value o) ≡ true → o ≡ Ok (unwrap_or (value o) [])
      by (Ok x) e = refl
      by (Err f) e = never (sym e)

  abbrev IsKnown : Mark → Type 0
  IsKnown m = is_some (known s m.node) ≡ true

  marks-known : AllByRecursion IsKnown (with_marks [] (mark_lines_in t))
  marks-known = marks-all IsKnown [] (mark_lines_in t) tt (facts-found IsKnown (mark_lines_in t) (λ i m e. must-hold (is_some (known s m.node)) (λ h. n.none _ _ _ (unknown_mark i m e h))))

  mark-back : (m : Mark) → IsKnown m → mark_of (changeset_nodes cs) (bookmark_of s m) ≡ m
  mark-back m k = by (known s m.node) refl k
    where
      by : (o : Option ℕ) → known s m.node ≡ o → is_some o ≡ true → mark_of (changeset_nodes cs) (bookmark_of s m) ≡ m
      by None e h = never (sym h)
      by (Some v) e h =
          let node : slice_index_or (changeset_nodes cs) (unwrap_or (known s m.node) 0) null_node ≡ m.node = ap (λ l. slice_index_or l (unwrap_or (known s m.node) 0) null_node) nodes-are ∙ ap (λ o. slice_index_or (nodes s.changelog) (unwrap_or o 0) null_node) e ∙ place-node s.changelog m.node v e in
          λ i. record { name = m.name; node = node i }

  marks-back : (marks : List Mark) → AllByRecursion IsKnown marks → marks ≡ map (mark_of (changeset_nodes cs)) (map (bookmark_of s) marks)
  marks-back [] all = refl
  marks-back (m ∷ marks) all = let one = sym (mark-back m all.0) in let rest = marks-back marks all.1 in λ i. one i ∷ rest i

  pub bookmarks : HasBookmarks t (repo_of t)
  bookmarks = record {
    lines = mark_lines_in t;
    text = lines-read;
    known = all-found (λ (m : Mark). among m.node (changeset_nodes cs)) (mark_lines_in t) (λ i m e. known-among m.node (must-hold (is_some (known s m.node)) (λ h. n.none _ _ _ (unknown_mark i m e h))));
    marks = marks-back (with_marks [] (mark_lines_in t)) marks-known;
  }

  -- ---- working parents

  dirstate-read : read_dirstate (bytes_at t dirstate_path) ≡ Ok (dirstate_in t)
  dirstate-read = by (read_dirstate (bytes_at t dirstate_path)) (must-hold (is_some (value (read_dirstate (bytes_at t dirstate_path)))) (λ h. n.none _ _ _ (bad_dirstate h)))
    where
      by : (o : Result Dirstate MarkFault) → is_some (value o) ≡ true → o ≡ Ok (unwrap_or (value o) no_dirstate)
      by (Ok x) e = refl
      by (Err f) e = never (sym e)

  none-unknown : (is_unknown_parent s (dirstate_in t).p1 ≡ false) × (is_unknown_parent s (dirstate_in t).p2 ≡ false)
  none-unknown = or-none (is_unknown_parent s (dirstate_in t).p1) (is_unknown_parent s (dirstate_in t).p2) (must-fail (is_unknown_parent s (dirstate_in t).p1 || is_unknown_parent s (dirstate_in t).p2) (λ h. n.none _ _ _ (unknown_parent h)))

  is-null : (node : List ℕ) → is_unknown_parent s node ≡ false → known s node ≡ None → node ≡ null_node
  is-null node e k = same-eq node null_node (test (same node null_node) (sym (ap (λ o. not (same node null_node) && is_none o) k) ∙ e))
    where
      test : (b : Bool) → (not b && true) ≡ false → b ≡ true
      test true h = refl
      test false h = never h

  parent-is : (node : List ℕ) → is_unknown_parent s node ≡ false → node ≡ parent_node (changeset_nodes cs) (known s node)
  parent-is node e = by (known s node) refl
    where
      by : (o : Option ℕ) → known s node ≡ o → node ≡ parent_node (changeset_nodes cs) o
      by None k = is-null node e k
      by (Some v) k = sym (ap (λ l. slice_index_or l v null_node) nodes-are ∙ place-node s.changelog node v k)

  -- no revision has the null node
  null-unknown : known s null_node ≡ None
  null-unknown = by (known s null_node) refl
    where
      by : (o : Option ℕ) → known s null_node ≡ o → known s null_node ≡ None
      by None e = e
      by (Some v) e = never (sym (place-among s.changelog null_node (ap is_some e)) ∙ (holds t n the_changelog refl).not_null)

  tracked : (path : List ℕ) → among path (dirstate_in t).paths ≡ among path (tracked_paths (repo_of t))
  tracked path = by (known s (dirstate_in t).p1) refl
    where
      none : tracks_others (dirstate_in t).paths (paths_at_node s (dirstate_in t).p1) ≡ false
      none = must-fail (tracks_others (dirstate_in t).paths (paths_at_node s (dirstate_in t).p1)) (λ h. n.none _ _ _ (other_paths (dirstate_in t) dirstate-read h))

      with_paths : (wanted : List (List ℕ)) → paths_at_node s (dirstate_in t).p1 ≡ Some wanted → among path (dirstate_in t).paths ≡ among path wanted
      with_paths wanted e = same-sets (dirstate_in t).paths wanted (not-none (have_same (dirstate_in t).paths wanted) (ap (tracks_others (dirstate_in t).paths) (sym e) ∙ none)) path

      by : (o : Option ℕ) → known s (dirstate_in t).p1 ≡ o → among path (dirstate_in t).paths ≡ among path (paths_at cs (known s (dirstate_in t).p1))
      by None k =
          let null : (dirstate_in t).p1 ≡ null_node = is-null (dirstate_in t).p1 none-unknown.0 k in
          with_paths [] (ap (λ b. cond b (Some []) (option_and_then (λ rev. paths_of_seen (slice_get (seen s) rev)) (known s (dirstate_in t).p1))) (ap (λ x. same x null_node) null ∙ same-refl null_node)) ∙ ap (λ o. among path (paths_at cs o)) (sym k)
      by (Some v) k =
          let r = read-at s (seen s) v (omega (arith, place-below s.changelog (dirstate_in t).p1 v k, length-map s.changelog (seen_of s))) (all-read s (logs t n) (regular t n)) in
          let other : same (dirstate_in t).p1 null_node ≡ false = differs (bool (same (dirstate_in t).p1 null_node)) in
          let wanted : paths_at_node s (dirstate_in t).p1 ≡ Some (row_paths (rows_of_seen r.0)) =
          ap (λ b. cond b (Some []) (option_and_then (λ rev. paths_of_seen (slice_get (seen s) rev)) (known s (dirstate_in t).p1))) other ∙ ap (option_and_then (λ rev. paths_of_seen (slice_get (seen s) rev))) k
          ∙ ap paths_of_seen r.1 ∙ ap (option_map row_paths) r.2 in
          with_paths (row_paths (rows_of_seen r.0)) wanted ∙ ap (among path) (sym (tree-of s (seen s) v r.0 r.1)) ∙ ap (λ o. among path (paths_at cs o)) (sym k)
        where
          differs : (same (dirstate_in t).p1 null_node ≡ true) ⊎ (same (dirstate_in t).p1 null_node ≡ false) → same (dirstate_in t).p1 null_node ≡ false
          differs (inr e) = e
          differs (inl e) = none-some v (sym null-unknown ∙ ap (known s) (sym (same-eq (dirstate_in t).p1 null_node e)) ∙ k)

  pub dirstate : HasDirstate t (repo_of t)
  dirstate = record {
    dirstate = dirstate_in t;
    text = dirstate-read;
    first = parent-is (dirstate_in t).p1 none-unknown.0;
    second = parent-is (dirstate_in t).p2 none-unknown.1;
    paths = tracked;
  }

  -- ---- the repository

  abbrev entries : List Entry
  entries = changeset_entries cs

  entry-nodes : nodes_of entries ≡ nodes s.changelog
  entry-nodes = entries-nodes (history cs).changelog ∙ nodes-are

  entry-parents : history_of entries ≡ parents_in s.changelog
  entry-parents = entries-parents (history cs).changelog ∙ ap parents_in (changelog-whole s (logs t n) (regular t n))

  own-at : (rev : ℕ) (e : Entry) → slice_get entries rev ≡ Some e → place_of entries e.node.0 ≡ Some rev
  own-at rev e at = by (place_of entries e.node.0) refl
    where
      inside : rev < length entries
      inside = slice_get_within entries rev e at

      lengths : length entries ≡ length (nodes s.changelog)
      lengths = sym (length-map entries (λ (x : Entry). x.node.0)) ∙ ap length entry-nodes

      node : (k : ℕ) (x : Entry) → slice_get entries k ≡ Some x → slice_index_or (nodes s.changelog) k null_node ≡ x.node.0
      node k x g = ap (λ l. slice_index_or l k null_node) (sym entry-nodes) ∙ get_or_from_slice_get (nodes_of entries) k x.node.0 null_node (slice_get-map (λ (y : Entry). y.node.0) entries k ∙ ap (option_map (λ (y : Entry). y.node.0)) g)

      by : (o : Option ℕ) → place_of entries e.node.0 ≡ o → o ≡ Some rev
      by None p = never (sym (ap (λ (x : Entry). same x.node.0 e.node.0) (get_or_from_slice_get entries rev e e at) ∙ same-refl e.node.0) ∙ position-none (λ (x : Entry). same x.node.0 e.node.0) entries rev e p inside)
      by (Some k) p =
          let q = position-Some (λ (x : Entry). same x.node.0 e.node.0) entries k e p in
          let x : Entry = get_or entries k e in
          let one : slice_index_or (nodes s.changelog) k null_node ≡ slice_index_or (nodes s.changelog) rev null_node = node k x (slice_get-get_or entries k e q.0) ∙ same-eq x.node.0 e.node.0 q.1 ∙ sym (node rev e at) in
          ap Some (place-same (nodes s.changelog) k rev (holds t n the_changelog refl).different (omega (arith, q.0, lengths)) (omega (arith, inside, lengths)) one)

  changelog : IsChangelog entries
  changelog = record { earlier = subst (ParentsBefore 0) (sym entry-parents) (holds t n the_changelog refl).earlier; own = own-at }

  abbrev given : List Phase
  given = phases_by (roots_in t) entries

  are-phases : ArePhases entries given
  are-phases = given_rise (roots_in t) entries changelog

  phase-of : (xs : List Phase) (rev : ℕ) → slice_index (map phase_number xs) rev ≡ phase_number (slice_index_or xs rev Public)
  phase-of [] rev = refl
  phase-of (x ∷ xs) zero = refl
  phase-of (x ∷ xs) (suc rev) = phase-of xs rev

  phase-parent : (xs : List Phase) (o : Option ℕ) → phase_at (map phase_number xs) o ≡ phase_number (parent_phase xs o)
  phase-parent xs None = refl
  phase-parent xs (Some rev) = phase-of xs rev

  most : (p : Phase) → phase_number p ≤ 2
  most Public = omega arith
  most Draft = omega arith
  most Secret = omega arith

  greater-left : (a b : Phase) → phase_number a ≤ phase_number (greater a b)
  greater-left Public b = omega arith
  greater-left Draft Public = omega arith
  greater-left Draft Draft = omega arith
  greater-left Draft Secret = omega arith
  greater-left Secret b = omega arith

  greater-right : (a b : Phase) → phase_number b ≤ phase_number (greater a b)
  greater-right Public b = omega arith
  greater-right Draft Public = omega arith
  greater-right Draft Draft = omega arith
  greater-right Draft Secret = omega arith
  greater-right Secret Public = omega arith
  greater-right Secret Draft = omega arith
  greater-right Secret Secret = omega arith

  parents-same : all_parents cs ≡ history_of entries
  parents-same = parents-are s s.changelog ∙ sym entry-parents

  is-phase : (rev : ℕ) (p : Parents) → slice_get (all_parents cs) rev ≡ Some p → IsPhase (map phase_number given) p (slice_index (map phase_number given) rev)
  is-phase rev p e = by (slice_get entries rev) refl (sym (slice_get-map (λ (x : Entry). (x.p1, x.p2)) entries rev) ∙ ap (λ l. slice_get l rev) (sym parents-same) ∙ e)
    where
      by : (o : Option Entry) → slice_get entries rev ≡ o → option_map (λ (x : Entry). (x.p1, x.p2)) o ≡ Some p → IsPhase (map phase_number given) p (slice_index (map phase_number given) rev)
      by None g h = none-some p h
      by (Some x) g h =
          let le = are-phases.each rev x g in
          let is : (x.p1, x.p2) ≡ p = some-same p (x.p1, x.p2) p h in
          subst (λ (q : Parents). IsPhase (map phase_number given) q (slice_index (map phase_number given) rev)) is (record {
            most = (let m : phase_number (slice_index_or given rev Public) ≤ 2 = most (slice_index_or given rev Public) in let v = phase-of given rev in omega (arith, m, v));
            first = (let a = phase-parent given x.p1 in let v = phase-of given rev in let g1 = greater-left (parent_phase given x.p1) (parent_phase given x.p2) in omega (arith, a, v, g1, le));
            second = (let a = phase-parent given x.p2 in let v = phase-of given rev in let g1 = greater-right (parent_phase given x.p1) (parent_phase given x.p2) in omega (arith, a, v, g1, le));
          })

  known-below : (node : List ℕ) → IfSome (known s node) (λ rev. rev < length cs)
  known-below node = by (known s node) refl
    where
      by : (o : Option ℕ) → known s node ≡ o → IfSome o (λ rev. rev < length cs)
      by None e = tt
      by (Some v) e = omega (arith, place-below s.changelog node v e, count)

  names-same : (marks : List Mark) → map (λ (m : Bookmark). m.name) (map (bookmark_of s) marks) ≡ map (λ (m : Mark). m.name) marks
  names-same [] = refl
  names-same (m ∷ marks) = ap (λ l. m.name ∷ l) (names-same marks)

  marks-below : (marks : List Mark) → AllByRecursion IsKnown marks → AllByRecursion (λ (m : Bookmark). m.rev < length cs) (map (bookmark_of s) marks)
  marks-below [] all = tt
  marks-below (m ∷ marks) all = (by (known s m.node) (known-below m.node) all.0, marks-below marks all.1)
    where
      by : (o : Option ℕ) → IfSome o (λ rev. rev < length cs) → is_some o ≡ true → unwrap_or o 0 < length cs
      by None b k = never (sym k)
      by (Some v) b k = b

  pub repository : IsRepo (repo_of t)
  repository = record {
    parents = subst (ParentsBefore 0) (sym (parents-are s s.changelog)) (holds t n the_changelog refl).earlier;
    changesets = each-next s (logs t n) (regular t n);
    phase_count = length-map given phase_number ∙ are-phases.count ∙ sym (length-map entries (λ (x : Entry). x.node.0)) ∙ ap length entry-nodes ∙ length-nodes s.changelog ∙ sym count;
    phases = is-phase;
    marks_ordered = ap ascends (names-same (with_marks [] (mark_lines_in t))) ∙ (bookmarks_found (bytes_at t bookmarks_path) (with_marks [] (mark_lines_in t)) (ap (all_with []) lines-read)).in_order;
    marks = marks-below (with_marks [] (mark_lines_in t)) marks-known;
    first_working = known-below (dirstate_in t).p1;
    second_working = known-below (dirstate_in t).p2;
  }

  absent : (path : List ℕ) → is_some (t path) ≡ false → t path ≡ None
  absent path e = by (t path) e
    where
      by : (o : Option (List ℕ)) → is_some o ≡ false → o ≡ None
      by None h = refl
      by (Some x) h = never h

  no-lock : (path : List ℕ) → among path locks ≡ true → t path ≡ None
  no-lock path e = absent path (must-fail (is_some (t path)) (λ h. n.none _ _ _ (lock path e h)))

  pub clean : IsInProfile t → IsClean t (repo_of t)
  clean profile = record {
    stands = record {
      repository = repository;
      requires = profile;
      revlogs = revlogs t n;
      fncache = fncache t n;
      phases = phases;
      bookmarks = bookmarks;
      dirstate = dirstate;
      no_journal = absent journal_path (must-fail (is_some (t journal_path)) (λ h. n.none _ _ _ (journal h)));
    };
    no_locks = (no-lock _ refl, (no-lock _ refl, tt));
  }
