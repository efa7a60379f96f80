-- The lists of changed files.
use Rattle.std.proofs.Common.{◌≡◌, ℕ, ◌+◌, List, [], ◌∷◌, ◌++◌, Bool, true, false, cond, ◌&&◌, ◌||◌, not, map, length, refl, sym, ◌∙◌, ap, subst, arith}
use Rattle.std.specs.Prelude.{Option, Some, None, is_some, option_map, slice_get, find, unwrap_or}
use Rattle.std.specs.List.{list_any, list_all}
use Rattle.std.specs.Cmp.Lexicographic.{bytes_decides, texts_ties}
use Rattle.std.proofs.lemmas.List.{length-map}
use Rattle.std.proofs.lemmas.Option.{slice_get-map}
use Rattle.hgs_bytes.specs.Bytes.{same, among}
use Rattle.hgs_files.specs.Tree.{Tree as Files}
use Rattle.hgs_index.specs.ChangeText.{Change}
use Rattle.hgs_index.specs.Manifest.{Row}
use Rattle.hgs_index.specs.Revision.{Revision}
use Rattle.hgs_stands.specs.Places.{changelog_index}
use Rattle.hgs_findings.specs.Findings as findings
use Rattle.hgs_findings.specs.Findings.{Finding, IsFinding, is_finding}
use Rattle.hgs_findings.specs.Reading.{sight_of}
use Rattle.hgs_findings.specs.Regular.{rows_of_seen, used_paths, is_used}
use Rattle.hgs_findings.specs.Sight.{Sight, Seen, Use, unknown, absent, row_paths, tracked_rows, seen, seen_of, use_of, use_at, use_in, use_of_row, use_of_seen, lists_wrongly, is_wrongly_listed}
use Rattle.hgs_judge.specs.declared.changesets.Changeset.{Changeset}
use Rattle.hgs_judge.specs.Changesets.{changeset_as, files_of}
use Rattle.hgs_judge.specs.Report.{each_from, one_if}
use Rattle.hgs_judge.specs.Trees.{rows_in_tree, rows_read}
use Rattle.hgs_report.specs.Adds.{Adds}
use Rattle.hgs_report.specs.Lines.{of_mark}
use Rattle.hgs_report.specs.Lists.{is_read, is_read_at, parent_is_read, has_path, has_unused, lists_unused, ListsWrongly, AreLists, AreUnusedLists}
use Rattle.hgs_report.specs.Parts.{IsOfLists, wrong}
use Rattle.hgs_report.proofs.EachLemmas.{never, both, is-of, of-is, one-is, is-one}
use Rattle.hgs_report.proofs.PartLemmas.{used-in, same-itself}
use Rattle.hgs_report.proofs.StoreLemmas.{list-added, moved, mapped-at, at-mapped}
use Rattle.hgs_report.proofs.TrackedLemmas.{TrackedTrees, mapped-some}

-- ---- the marks are added

pub lists-added : (t : Files) (marks : List Bool) → AreLists t marks → (old new : List Finding) → new ≡ old ++ each_from (of_mark changelog_index) 0 marks → Adds t (IsOfLists t) old new
lists-added t marks m old new e = list-added t (IsOfLists t) old new (each_from (of_mark changelog_index) 0 marks) e are all
  where
    zero-plus : (n : ℕ) → n ≡ 0 + n
    zero-plus n = omega arith

    are : (file : List ℕ) (rev : Option ℕ) (k : ℕ) → list_any (is_finding file rev k) (each_from (of_mark changelog_index) 0 marks) ≡ true → IsFinding t file rev k
    are file rev k h =
        let o = is-of (is_finding file rev k) (of_mark changelog_index) 0 marks h in
        let one = one-is o.x changelog_index (0 + o.i) 9 file rev k o.is in
        let w = m.are o.i (o.at ∙ ap Some one.0) in
        moved t changelog_index (Some (0 + o.i)) 9 file rev k one.1 (subst (λ n. IsFinding t changelog_index (Some n) 9) (zero-plus o.i) (findings.wrongly_listed o.i w.c w.v w.path w.at w.change w.wrong))

    all : (file : List ℕ) (rev : Option ℕ) (k : ℕ) → IsOfLists t file rev k → list_any (is_finding file rev k) (each_from (of_mark changelog_index) 0 marks) ≡ true
    all _ _ _ (wrong rev w) =
        of-is (is_finding changelog_index (Some rev) 9) (of_mark changelog_index) 0 marks rev true (m.all rev w)
        (ap (λ n. list_any (is_finding changelog_index (Some n) 9) (one_if true changelog_index (0 + rev) 9)) (zero-plus rev) ∙ is-one true changelog_index (0 + rev) 9 refl)

-- ---- a path that no tree has

abbrev use_by : Bool → Use
use_by true = absent
use_by false = unknown

wrongly-by : (log : List Revision) (a b d listed : Bool) → lists_wrongly log (use_by a) (use_by b) (use_by d) listed ≡ (a && (b && (d && listed)))
wrongly-by log false b d listed = refl
wrongly-by log true false d listed = refl
wrongly-by log true true false listed = refl
wrongly-by log true true true true = refl
wrongly-by log true true true false = refl

not-found : (path : List ℕ) (rows : List Row) → among path (row_paths rows) ≡ false → find (λ (r : Row). same r.path path) rows ≡ None
not-found path [] e = refl
not-found path (r ∷ rows) e = by (same path r.path) refl e (not-found path rows)
  where
    turned : (b : Bool) → same r.path path ≡ b → same path r.path ≡ false → same r.path path ≡ false
    turned true g f = never (sym ((bytes_decides path r.path).1 (sym ((bytes_decides r.path path).0 g))) ∙ f)
    turned false g f = g

    by : (b : Bool) → same path r.path ≡ b → (b || among path (row_paths rows)) ≡ false → (among path (row_paths rows) ≡ false → find (λ (x : Row). same x.path path) rows ≡ None) → cond (same r.path path) (Some r) (find (λ (x : Row). same x.path path) rows) ≡ None
    by true s f rec = never f
    by false s f rec = ap (λ c. cond c (Some r) (find (λ (x : Row). same x.path path) rows)) (turned (same r.path path) refl s) ∙ rec f

unused-use : (s : Sight) (path : List ℕ) (i : ℕ) (c : Seen) → is_used s path ≡ false → slice_get (seen s) i ≡ Some c → use_of s path c ≡ use_by (is_some c.rows)
unused-use s path i c un at = by c.rows refl
  where
    off : (b : Bool) → among path (row_paths (rows_of_seen c)) ≡ b → among path (row_paths (rows_of_seen c)) ≡ false
    off true e = never (sym (used-in s path i c at e) ∙ un)
    off false e = e

    by : (o : Option (List Row)) → c.rows ≡ o → use_in (s.filelog path) path o ≡ use_by (is_some o)
    by None e = refl
    by (Some rows) e = ap (use_of_row (s.filelog path)) (not-found path rows (ap (λ o. among path (row_paths (unwrap_or o []))) (sym e) ∙ off (among path (row_paths (rows_of_seen c))) refl))

four : (a b c d : Bool) → (a && b && c && d) ≡ true → (a ≡ true) × (b ≡ true) × (c ≡ true) × (d ≡ true)
four true true true d e = (refl, refl, refl, e)
four true true false d e = never (sym e)
four true false c d e = never (sym e)
four false b c d e = never (sym e)

four-true : (a b c d : Bool) → a ≡ true → b ≡ true → c ≡ true → d ≡ true → (a && b && c && d) ≡ true
four-true true true true d e f g h = h
four-true true true false d e f g h = g
four-true true false c d e f g h = f
four-true false b c d e f g h = e

not-so : (b : Bool) → not b ≡ true → b ≡ false
not-so true e = never (sym e)
not-so false e = refl

record Fails (f : List ℕ → Bool) (xs : List (List ℕ)) : Type 0 where
  x : List ℕ
  there : among x xs ≡ true
  fails : f x ≡ false

not-all : (f : List ℕ → Bool) (xs : List (List ℕ)) → list_all f xs ≡ false → Fails f xs
not-all f [] e = never e
not-all f (x ∷ xs) e = by (f x) refl e (not-all f xs)
  where
    or-true : (b c : Bool) → c ≡ true → (b || c) ≡ true
    or-true true c h = refl
    or-true false c h = h

    by : (b : Bool) → f x ≡ b → (b && list_all f xs) ≡ false → (list_all f xs ≡ false → Fails f xs) → Fails f (x ∷ xs)
    by true s g rec = let r = rec g in record { x = r.x; there = or-true (same r.x x) (among r.x xs) r.there; fails = r.fails }
    by false s g rec = record { x = x; there = ap (λ b. b || among x xs) (same-itself x); fails = s }

fails-all : (f : List ℕ → Bool) (xs : List (List ℕ)) (x : List ℕ) → among x xs ≡ true → f x ≡ false → list_all f xs ≡ false
fails-all f [] x e h = never (sym e)
fails-all f (y ∷ xs) x e h = by (same x y) refl e (fails-all f xs x)
  where
    off : (b c : Bool) → c ≡ false → (b && c) ≡ false
    off true c g = g
    off false c g = refl

    by : (b : Bool) → same x y ≡ b → (b || among x xs) ≡ true → (among x xs ≡ true → f x ≡ false → list_all f xs ≡ false) → (f y && list_all f xs) ≡ false
    by true s g rec = ap (λ b. b && list_all f xs) (ap f (sym ((bytes_decides x y).0 s)) ∙ h)
    by false s g rec = off (f y) (list_all f xs) (rec g h)

has-among : (keys : List (List ℕ)) (path : List ℕ) → has_path keys path ≡ among path keys
has-among [] path = refl
has-among (k ∷ keys) path = ap (λ b. b || has_path keys path) (sym (texts_ties path k)) ∙ ap (λ b. same path k || b) (has-among keys path)

module _ (law : TrackedTrees) (t : Files) (cs : List Changeset) (trees : List (Option (List Row))) (keys : List (List ℕ)) (marks : List Bool) (changesets : cs ≡ map changeset_as (seen (sight_of t))) (read : trees ≡ map rows_read (sight_of t).manifest) (used : keys ≡ used_paths (sight_of t)) (marked : marks ≡ map (lists_unused cs trees keys) cs) where
  read-seen : (i : ℕ) (c : Seen) → slice_get (seen (sight_of t)) i ≡ Some c → is_read trees (changeset_as c).tree ≡ is_some c.rows
  read-seen i c at =
      let r = mapped-at (seen_of (sight_of t)) (sight_of t).changelog i c at in
      ap (λ l. is_some (rows_in_tree l (changeset_as c).tree)) read
      ∙ ap (λ (y : Seen). is_some (rows_in_tree (map rows_read (sight_of t).manifest) (changeset_as y).tree)) r.2
      ∙ sym (mapped-some tracked_rows (rows_in_tree (map rows_read (sight_of t).manifest) (changeset_as (seen_of (sight_of t) r.0)).tree))
      ∙ ap is_some (sym (law (sight_of t) r.0))
      ∙ ap (λ (y : Seen). is_some y.rows) (sym r.2)

  changeset-at : (i : ℕ) → slice_get cs i ≡ option_map changeset_as (slice_get (seen (sight_of t)) i)
  changeset-at i = ap (λ l. slice_get l i) changesets ∙ slice_get-map changeset_as (seen (sight_of t)) i

  parent-use : (path : List ℕ) → is_used (sight_of t) path ≡ false → (p : Option ℕ) → use_at (sight_of t) path (seen (sight_of t)) p ≡ use_by (parent_is_read cs trees p)
  parent-use path un None = refl
  parent-use path un (Some rev) = by (slice_get (seen (sight_of t)) rev) refl
    where
      by : (o : Option Seen) → slice_get (seen (sight_of t)) rev ≡ o → use_of_seen (sight_of t) path (slice_get (seen (sight_of t)) rev) ≡ use_by (is_read_at trees (slice_get cs rev))
      by None e = ap (use_of_seen (sight_of t) path) e ∙ sym (ap (λ o. use_by (is_read_at trees o)) (changeset-at rev ∙ ap (option_map changeset_as) e))
      by (Some c) e =
          ap (use_of_seen (sight_of t) path) e ∙ unused-use (sight_of t) path rev c un e ∙ ap use_by (sym (read-seen rev c e))
          ∙ sym (ap (λ o. use_by (is_read_at trees o)) (changeset-at rev ∙ ap (option_map changeset_as) e))

  wrong-is : (path : List ℕ) → is_used (sight_of t) path ≡ false → (i : ℕ) (c : Seen) → slice_get (seen (sight_of t)) i ≡ Some c → (v : Change)
      → is_wrongly_listed (sight_of t) path (seen (sight_of t)) c v ≡ (is_read trees (changeset_as c).tree && (parent_is_read cs trees c.revision.parents.0 && (parent_is_read cs trees c.revision.parents.1 && among path v.files)))
  wrong-is path un i c at v =
      ap (λ u. lists_wrongly ((sight_of t).filelog path) u (use_at (sight_of t) path (seen (sight_of t)) c.revision.parents.0) (use_at (sight_of t) path (seen (sight_of t)) c.revision.parents.1) (among path v.files)) (unused-use (sight_of t) path i c un at ∙ ap use_by (sym (read-seen i c at)))
      ∙ ap (λ u. lists_wrongly ((sight_of t).filelog path) (use_by (is_read trees (changeset_as c).tree)) u (use_at (sight_of t) path (seen (sight_of t)) c.revision.parents.1) (among path v.files)) (parent-use path un c.revision.parents.0)
      ∙ ap (λ u. lists_wrongly ((sight_of t).filelog path) (use_by (is_read trees (changeset_as c).tree)) (use_by (parent_is_read cs trees c.revision.parents.0)) u (among path v.files)) (parent-use path un c.revision.parents.1)
      ∙ wrongly-by ((sight_of t).filelog path) (is_read trees (changeset_as c).tree) (parent_is_read cs trees c.revision.parents.0) (parent_is_read cs trees c.revision.parents.1) (among path v.files)

  unused-so : (path : List ℕ) → has_path keys path ≡ false → is_used (sight_of t) path ≡ false
  unused-so path e = ap (among path) (sym used) ∙ sym (has-among keys path) ∙ e

  so-unused : (path : List ℕ) → is_used (sight_of t) path ≡ false → has_path keys path ≡ false
  so-unused path e = has-among keys path ∙ ap (among path) used ∙ e

  mark-are : (rev : ℕ) → slice_get marks rev ≡ Some true → ListsWrongly t rev
  mark-are rev h =
      let x = mapped-at (lists_unused cs trees keys) cs rev true (ap (λ l. slice_get l rev) (sym marked) ∙ h) in
      let c = mapped-at changeset_as (seen (sight_of t)) rev x.0 (ap (λ l. slice_get l rev) (sym changesets) ∙ x.1) in
      let parts = four (is_read trees x.0.tree) (parent_is_read cs trees x.0.parents.0) (parent_is_read cs trees x.0.parents.1) (has_unused keys x.0.files) (sym x.2) in
      listed c.0 c.1 (ap (λ (y : Changeset). is_read trees y.tree) (sym c.2) ∙ parts.0) (ap (λ (y : Changeset). parent_is_read cs trees y.parents.0) (sym c.2) ∙ parts.1) (ap (λ (y : Changeset). parent_is_read cs trees y.parents.1) (sym c.2) ∙ parts.2)
      c.0.change refl (ap (λ (y : Changeset). has_unused keys y.files) (sym c.2) ∙ parts.3)
    where
      listed : (c : Seen) → slice_get (seen (sight_of t)) rev ≡ Some c → is_read trees (changeset_as c).tree ≡ true → parent_is_read cs trees c.revision.parents.0 ≡ true → parent_is_read cs trees c.revision.parents.1 ≡ true
          → (o : Option Change) → c.change ≡ o → has_unused keys (files_of o) ≡ true → ListsWrongly t rev
      listed c at a b d None e g = never (sym g)
      listed c at a b d (Some v) e g =
          let f = not-all (has_path keys) v.files (not-so (list_all (has_path keys) v.files) g) in
          record { c = c; v = v; path = f.x; at = at; change = e; wrong = wrong-is f.x (unused-so f.x f.fails) rev c at v ∙ nested (is_read trees (changeset_as c).tree) (parent_is_read cs trees c.revision.parents.0) (parent_is_read cs trees c.revision.parents.1) (among f.x v.files) a b d f.there }
        where
          nested : (x y z u : Bool) → x ≡ true → y ≡ true → z ≡ true → u ≡ true → (x && (y && (z && u))) ≡ true
          nested x y z u p q r i = ap (λ k. k && (y && (z && u))) p ∙ ap (λ k. k && (z && u)) q ∙ ap (λ k. k && u) r ∙ i

  mark-all : (rev : ℕ) (w : ListsWrongly t rev) → is_used (sight_of t) w.path ≡ false → slice_get marks rev ≡ Some true
  mark-all rev w un =
      let one = both (is_read trees (changeset_as w.c).tree) (parent_is_read cs trees w.c.revision.parents.0 && (parent_is_read cs trees w.c.revision.parents.1 && among w.path w.v.files)) (sym (wrong-is w.path un rev w.c w.at w.v) ∙ w.wrong) in
      let two = both (parent_is_read cs trees w.c.revision.parents.0) (parent_is_read cs trees w.c.revision.parents.1 && among w.path w.v.files) one.1 in
      let three = both (parent_is_read cs trees w.c.revision.parents.1) (among w.path w.v.files) two.1 in
      ap (λ l. slice_get l rev) marked
      ∙ at-mapped (lists_unused cs trees keys) cs rev (changeset_as w.c) (changeset-at rev ∙ ap (option_map changeset_as) w.at)
      ∙ ap Some (four-true (is_read trees (changeset_as w.c).tree) (parent_is_read cs trees w.c.revision.parents.0) (parent_is_read cs trees w.c.revision.parents.1) (has_unused keys (files_of w.c.change)) one.0 two.0 three.0
      (ap (λ o. has_unused keys (files_of o)) w.change ∙ ap not (fails-all (has_path keys) w.v.files w.path three.1 (so-unused w.path un))))

  pub unused-lists : AreUnusedLists t marks
  unused-lists = record {
    count = ap length marked ∙ length-map cs (lists_unused cs trees keys) ∙ ap length changesets ∙ length-map (seen (sight_of t)) changeset_as;
    are = mark-are;
    all = mark-all;
  }
