-- The phase roots, the dirstate and the bookmarks behind records that are laid one after another.
use Rattle.std.proofs.Common.{◌≡◌, ◌<◌, List, [], ◌∷◌, Bool, true, false, cond, ◌||◌, not, length, map, refl, sym, ◌∙◌, ap, subst, Some, append-nil}
use Rattle.std.specs.Prelude.{is_some, if◌then◌else◌}
use Rattle.std.specs.List.{AllByRecursion}
use Rattle.hgs_bytes.specs.Bytes.{same}
use Rattle.hgs_bytes.specs.Theorems.ByteLemmas.{same-eq, same-refl}
use Rattle.hgs_files.specs.Tree.{Tree, after_all}
use Rattle.hgs_marks.specs.Bookmarks.{bookmarks_text}
use Rattle.hgs_model.specs.declared.command.Command.TheVariants.{Import}
use Rattle.hgs_model.specs.declared.command.NewChange.{NewChange}
use Rattle.hgs_model.specs.History.{changeset_nodes}
use Rattle.hgs_model.specs.Repo.{Bookmark, Repo}
use Rattle.hgs_model.specs.Step.{sets_bookmark}
use Rattle.hgs_model.specs.Valid.{IsValid}
use Rattle.hgs_model.specs.Theorems.ImportLemmas.{commit-gone, import-gone}
use Rattle.hgs_model.specs.Theorems.NewChangesetLemmas.{commit-keeps, import-keeps}
use Rattle.hgs_model.specs.Theorems.StepLemmas.{length-changeset_nodes}
use Rattle.hgs_stands.specs.Places.{bookmarks_path, dirstate_path, roots_path}
use Rattle.hgs_stands.specs.Stands.{Stands, mark_of}
use Rattle.hgs_ops.specs.Laid.{AreLaid, Record, changes_of, changes_roots, laid, repo_behind, tree_behind}
use Rattle.hgs_ops.specs.Replaced.{new_bookmarks, new_dirstate, roots_change, roots_of}
use Rattle.hgs_ops.specs.Theorems.CommitLemmas.{marks-same, nodes-more}
use Rattle.hgs_ops.proofs.ImportSteps.{commit-left}
use Rattle.hgs_ops.proofs.LaidLemmas.{commit-lays}
use Rattle.hgs_ops.proofs.RecordLemmas.{Laws, fewer, laid-stands, records-import}
use Rattle.hgs_ops.proofs.RootsAdded.{GoesOn, goes-on, roots-two}

-- these files of the tree u are those of a transaction from r to next over the tree t, which sets a bookmark or does not
pub record Small (t : Tree) (r next : Repo) (marks : Bool) (u : Tree) : Type 0 where
  pub roots : u roots_path ≡ (if roots_change r next then Some (roots_of next) else t roots_path)
  pub dirstate : u dirstate_path ≡ Some (new_dirstate next).text
  pub bookmarks : u bookmarks_path ≡ (if marks then Some (new_bookmarks next).text else t bookmarks_path)

laid-small : (t : Tree) (r mid : Repo) (n : NewChange) → Small t r mid (is_some n.bookmark) (after_all (laid t r n mid) t)
laid-small t r mid n =
    let left = commit-left t r mid n [] in
    record {
      roots = sym (commit-lays t r mid n [] roots_path refl refl) ∙ left.roots_are;
      dirstate = sym (commit-lays t r mid n [] dirstate_path refl refl) ∙ left.dirstate_is;
      bookmarks = sym (commit-lays t r mid n [] bookmarks_path refl refl) ∙ left.marks_are;
    }

-- without a new bookmark the text of the bookmarks stays
marks-stay : (mid next : Repo) → GoesOn mid next → next.bookmarks ≡ mid.bookmarks → (new_bookmarks mid).text ≡ (new_bookmarks next).text
marks-stay mid next g e =
    let more = nodes-more mid next g.changesets in
    let low : AllByRecursion (λ (m : Bookmark). m.rev < length (changeset_nodes mid.changesets)) mid.bookmarks = subst (λ k. AllByRecursion (λ (m : Bookmark). m.rev < k) mid.bookmarks) (sym (length-changeset_nodes mid g.before)) g.before.marks in
    ap bookmarks_text (sym (marks-same (changeset_nodes mid.changesets) more.0 mid.bookmarks low) ∙ sym (λ i. map (mark_of (more.1 i)) (e i)))

not-true : (b : Bool) → not b ≡ false → b ≡ true
not-true true e = refl
not-true false e = sym e

two-small : (t u v : Tree) (r mid next : Repo) (b c : Bool) → GoesOn r mid → GoesOn mid next → (c ≡ false → next.bookmarks ≡ mid.bookmarks) → Small t r mid b u → Small u mid next c v → Small t r next (b || c) v
two-small t u v r mid next b c first second stay s z = record {
  roots = z.roots ∙ by (roots_change r mid) (roots_change mid next) refl s.roots ∙ ap (λ x. cond x (Some (roots_of next)) (t roots_path)) (sym (roots-two r mid next first second));
  dirstate = z.dirstate;
  bookmarks = z.bookmarks ∙ marked b c refl s.bookmarks;
}
  where
    by : (x y : Bool) → roots_change mid next ≡ y → u roots_path ≡ (if x then Some (roots_of mid) else t roots_path) → (if y then Some (roots_of next) else u roots_path) ≡ (if x || y then Some (roots_of next) else t roots_path)
    by true true e h = refl
    by true false e h = h ∙ ap (λ l. Some l) (same-eq (roots_of mid) (roots_of next) (not-true (same (roots_of mid) (roots_of next)) e))
    by false true e h = refl
    by false false e h = h

    marked : (x y : Bool) → c ≡ y → u bookmarks_path ≡ (if x then Some (new_bookmarks mid).text else t bookmarks_path) → (if y then Some (new_bookmarks next).text else u bookmarks_path) ≡ (if x || y then Some (new_bookmarks next).text else t bookmarks_path)
    marked true true e h = refl
    marked true false e h = h ∙ ap (λ l. Some l) (marks-stay mid next second (stay e))
    marked false true e h = refl
    marked false false e h = h

or-none : (b : Bool) → b ≡ (b || false)
or-none true = refl
or-none false = refl

module _ (laws : Laws) where
  goes-one : (t : Tree) (r : Repo) (x : Record) (records : List Record) → Stands t r → AreLaid t r (x ∷ records) → GoesOn r x.1
  goes-one t r x records s all =
      let gone = commit-gone r x.0 (x.1, all.1.0) all.0 all.1.1 in
      record { changesets = gone.changesets; phases = gone.phases; before = s.repository; behind = commit-keeps r x.0 x.1 all.1.0 s.repository all.0 all.1.1 }

  pub records-small : (t : Tree) (r : Repo) (x : Record) (records : List Record) → Stands t r → IsValid (Import (changes_of (x ∷ records))) → AreLaid t r (x ∷ records) → Small t r (repo_behind r (x ∷ records)) (sets_bookmark (changes_of (x ∷ records))) (tree_behind t r (x ∷ records))
  records-small t r x [] s valid all = subst (λ b. Small t r x.1 b (after_all (laid t r x.0 x.1) t)) (or-none (is_some x.0.bookmark)) (laid-small t r x.1 x.0)
  records-small t r x (y ∷ records) s valid all =
      let u = after_all (laid t r x.0 x.1) t in
      let others = fewer laws x.0 y.0 (changes_of records) valid in
      let stands = laid-stands laws t r s x (y ∷ records) all in
      let is = records-import laws u x.1 y records stands others all.3 in
      let gone = import-gone x.1 (changes_of (y ∷ records)) (repo_behind x.1 (y ∷ records), is.answer) others.each is.accepted in
      let first = goes-one t r x (y ∷ records) s all in
      let second : GoesOn x.1 (repo_behind x.1 (y ∷ records)) = record { changesets = gone.changesets; phases = gone.phases; before = first.behind; behind = import-keeps x.1 (changes_of (y ∷ records)) (repo_behind x.1 (y ∷ records)) is.answer first.behind others.each is.accepted } in
      two-small t u (tree_behind u x.1 (y ∷ records)) r x.1 (repo_behind x.1 (y ∷ records)) (is_some x.0.bookmark) (sets_bookmark (changes_of (y ∷ records))) first second gone.marks (laid-small t r x.1 x.0) (records-small u x.1 y records stands others all.3)

  -- the repository behind records goes on from the first one
  goes-records : (t : Tree) (r : Repo) (records : List Record) → Stands t r → AreLaid t r records → GoesOn r (repo_behind r records)
  goes-records t r [] s all = record { changesets = ([], sym (append-nil r.changesets)); phases = ([], sym (append-nil r.phases)); before = s.repository; behind = s.repository }
  goes-records t r (x ∷ records) s all = goes-on r x.1 (repo_behind x.1 records) (goes-one t r x records s all) (goes-records (after_all (laid t r x.0 x.1) t) x.1 records (laid-stands laws t r s x records all) all.3)

  pub records-roots : (t : Tree) (r : Repo) (records : List Record) → Stands t r → AreLaid t r records → roots_change r (repo_behind r records) ≡ changes_roots r records
  records-roots t r [] s all = ap not (same-refl (roots_of r))
  records-roots t r (x ∷ records) s all =
      let u = after_all (laid t r x.0 x.1) t in
      let stands = laid-stands laws t r s x records all in
      roots-two r x.1 (repo_behind x.1 records) (goes-one t r x records s all) (goes-records u x.1 records stands all.3) ∙ ap (λ b. roots_change r x.1 || b) (records-roots u x.1 records stands all.3)
