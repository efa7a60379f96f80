-- The files that a commit replaces are those of its step.
use Rattle.std.proofs.Common.{◌≡◌, ℕ, zero, suc, List, [], ◌∷◌, ◌++◌, Bool, true, false, ◌||◌, cond, length, map, nat_lt, refl, sym, ◌∙◌, ap, subst, arith}
use Rattle.std.specs.Prelude.{max, Option, Some, None, Result, Ok, Err, is_some, slice_index, slice_index_or}
use Rattle.std.proofs.lemmas.List.{length-map, map-append}
use Rattle.hgs_files.specs.Tree.{Tree}
use Rattle.hgs_index.specs.declared.entry.Entry.{Entry}
use Rattle.hgs_index.specs.declared.kinds.Which.TheVariants as limits
use Rattle.hgs_index.specs.Node.{null_node}
use Rattle.hgs_index.specs.Revision.{Parents, standing}
use Rattle.hgs_model.specs.History.{changeset_nodes, changeset_revision, history}
use Rattle.hgs_model.specs.IsRepo.{IsRepo, phase_at}
use Rattle.hgs_model.specs.Phase.{greater, phase_number}
use Rattle.hgs_model.specs.Repo.{Bookmark, Repo}
use Rattle.hgs_model.specs.Step.{new_changeset, with_optional_mark}
use Rattle.hgs_model.specs.Valid.{new_paths}
use Rattle.hgs_model.specs.declared.command.NewChange.{NewChange}
use Rattle.hgs_model.specs.declared.phase.Phase.{Phase}
use Rattle.hgs_model.specs.declared.phase.Phase.TheVariants.{Public, Draft, Secret}
use Rattle.hgs_ops.specs.Replaced.{new_bookmarks, new_dirstate, new_roots, only_if, roots_change}
use Rattle.hgs_load.specs.Marks.{most_bookmarks}
use Rattle.hgs_stands.specs.Stands.{Stands, mark_of}
use Rattle.hgs_transaction.specs.declared.parts.Replacing.{Replacing}
use Rattle.hgs_steps.specs.declared.fault.PlanFault.{PlanFault}
use Rattle.hgs_steps.specs.declared.fault.PlanFault.TheVariants.{Limit}
use Rattle.hgs_steps.specs.declared.loaded.Loaded.{Loaded}
use Rattle.hgs_steps.specs.Planned.{HoldsRepository, IsLoadedOf, IsReplacedBy, IsReplacedWhere, passes_limit}
use Rattle.hgs_steps.specs.Steps.{are_too_many, dirstate_replacing, marked, marks_replacing, phases_text, roots_replaced}
use Rattle.hgs_commit.specs.Commit.{and_plan, entries_with, mark_count, marks_after, new_phase, new_roots as new_roots_of, phase_after, too_many_marks}
use Rattle.hgs_commit.specs.Obstacles.{Obstacle, passes}
use Rattle.hgs_writer.specs.StepsBelow.{StepsBelow}
use Rattle.hgs_writer.proofs.Basics.{ok-is}
use Rattle.hgs_writer.proofs.NextLemmas.{new-node, next, next-node, next-nodes, next-parents, next-paths}
use Rattle.hgs_writer.proofs.PartsLemmas.{AreReplaced, one-replaced, two-replaced}

-- ---- phases

numbered : (phases : List Phase) (rev : ℕ) → slice_index (map phase_number phases) rev ≡ phase_number (slice_index_or phases rev Public)
numbered [] rev = refl
numbered (p ∷ phases) zero = refl
numbered (p ∷ phases) (suc rev) = numbered phases rev

greater-number : (a b : Phase) → phase_number (greater a b) ≡ max (phase_number a) (phase_number b)
greater-number Public Public = refl
greater-number Public Draft = refl
greater-number Public Secret = refl
greater-number Draft Public = refl
greater-number Draft Draft = refl
greater-number Draft Secret = refl
greater-number Secret Public = refl
greater-number Secret Draft = refl
greater-number Secret Secret = refl

after-number : (l : Loaded) (r : Repo) → HoldsRepository l r → (o : Option ℕ) (asked : Phase) → phase_number (phase_after l o asked) ≡ max (phase_number asked) (phase_at r.phases o)
after-number l r is None asked = omega arith
after-number l r is (Some rev) asked =
    greater-number asked (slice_index_or l.phases rev Public)
    ∙ ap (λ (k : ℕ). max (phase_number asked) k) (sym (numbered l.phases rev) ∙ ap (λ (phases : List ℕ). slice_index phases rev) is.phases)

-- the phases of the next repository
new-phases : (l : Loaded) (r : Repo) (n : NewChange) (parents : Parents) → HoldsRepository l r → map phase_number (l.phases ++ new_phase l parents n.phase ∷ []) ≡ (next r n parents).phases
new-phases l r n parents is = map-append phase_number l.phases (new_phase l parents n.phase ∷ []) ∙ (let phases = is.phases in λ i. phases i ++ number i ∷ [])
  where
    number : phase_number (new_phase l parents n.phase) ≡ max (phase_number n.phase) (max (phase_at r.phases parents.0) (phase_at r.phases parents.1))
    number = omega (arith, after-number l r is parents.1 (phase_after l parents.0 n.phase), after-number l r is parents.0 n.phase)

-- ---- bookmarks

-- without a bookmark that is set the bookmarks are within the limit where these are not too many
few-marks : (l : Loaded) (r : Repo) → HoldsRepository l r → (let os : List Obstacle = cond (nat_lt most_bookmarks (length l.bookmarks)) (passes limits.Bookmarks ∷ []) [] in os) ≡ [] → nat_lt most_bookmarks (length r.bookmarks) ≡ false
few-marks l r is e = ap (λ (k : ℕ). nat_lt most_bookmarks k) (sym count) ∙ by (nat_lt most_bookmarks (length l.bookmarks)) e
  where
    count : length l.bookmarks ≡ length r.bookmarks
    count = ap (λ ms. length ms) is.bookmarks ∙ length-map r.bookmarks (mark_of (changeset_nodes r.changesets))

    by : (b : Bool) → (let os : List Obstacle = cond b (passes limits.Bookmarks ∷ []) [] in os) ≡ [] → b ≡ false
    by false h = refl
    by true h = absurd (no h)
      where
        no : ◌≡◌ {A = List Obstacle} (passes limits.Bookmarks ∷ []) [] → ⊥
        no k = cc

-- the files behind the publishing operation, with bookmarks within the limit
pub record AreBehind (t : Tree) (r next : Repo) (set : Bool) (after : List Replacing) : Type 0 where
  pub files : AreReplaced t (new_dirstate next ∷ only_if set (new_bookmarks next)) after
  pub few : passes_limit r next ≡ false

module _ (laws : StepsBelow) (t : Tree) (r : Repo) (l : Loaded) (s : Stands t r) (loads : IsLoadedOf t l) (n : NewChange) (parents : Parents) (new : standing (history r.changesets).changelog (changeset_revision (history r.changesets) (new_changeset (history r.changesets) parents n)).text parents ≡ None) where
  abbrev then-next : Repo
  then-next = next r n parents

  holds : HoldsRepository l r
  holds = laws.holds t r l s loads

  -- ---- the phase roots

  pub roots-are : (bytes : List ℕ) (e : Entry) → IsRepo then-next → entries_with l.changelog.entries bytes ≡ l.changelog.entries ++ e ∷ [] → e.node.0 ≡ new-node r n parents → (e.p1, e.p2) ≡ parents
      → IsReplacedWhere t (roots_change r then-next) (new_roots then-next) (new_roots_of l (new_phase l parents n.phase) bytes)
  roots-are bytes e next_is entries node from =
      subst (λ (es : List Entry). IsReplacedWhere t (roots_change r then-next) (new_roots then-next) (roots_replaced l (phases_text (l.phases ++ new_phase l parents n.phase ∷ []) es))) (sym entries)
      (laws.roots t r then-next l (l.phases ++ new_phase l parents n.phase ∷ []) (l.changelog.entries ++ e ∷ []) s loads next_is
      (map-append (λ (x : Entry). x.node.0) l.changelog.entries (e ∷ []) ∙ (let known = holds.nodes in λ i. known i ++ node i ∷ []) ∙ sym (next-nodes r n parents new))
      (map-append (λ (x : Entry). let p : Parents = (x.p1, x.p2) in p) l.changelog.entries (e ∷ []) ∙ (let known = holds.parents in λ i. known i ++ from i ∷ []) ∙ sym (next-parents r n parents))
      (new-phases l r n parents holds))

  -- ---- the files behind the publishing operation

  node-then : slice_index_or (changeset_nodes then-next.changesets) (length r.changesets) null_node ≡ new-node r n parents
  node-then = next-node r n parents new s.repository

  dirstate-is : (node : List ℕ) → node ≡ new-node r n parents → IsReplacedBy t (new_dirstate then-next) (dirstate_replacing l node (new_paths n.files))
  dirstate-is node e =
      let known = node-then ∙ sym e in
      let paths = next-paths r n parents in
      subst (λ (x : Replacing). IsReplacedBy t (new_dirstate then-next) x) (λ i. dirstate_replacing l (known i) (paths i)) (laws.dirstate t then-next l (length r.changesets) loads refl)

  pub behind-are : (node : List ℕ) (after : List Replacing) → node ≡ new-node r n parents → too_many_marks l n ≡ [] → and_plan (marks_after l n.bookmark node) (λ marks. Ok (dirstate_replacing l node (new_paths n.files) ∷ marks)) ≡ Ok after
      → AreBehind t r then-next (is_some n.bookmark) after
  behind-are node after e few planned_is = by n.bookmark refl few planned_is
    where
      set : List ℕ → Bool → Result (List Replacing) PlanFault
      set name b = and_plan (and_plan (cond b (Err (Limit limits.Bookmarks)) (Ok (marks_replacing l (marked l name node)))) (λ x. Ok (x ∷ []))) (λ marks. Ok (dirstate_replacing l node (new_paths n.files) ∷ marks))

      by : (o : Option (List ℕ)) → n.bookmark ≡ o → (let os : List Obstacle = cond (nat_lt most_bookmarks (mark_count l (record n { bookmark = o }))) (passes limits.Bookmarks ∷ []) [] in os) ≡ []
          → and_plan (marks_after l o node) (λ marks. Ok (dirstate_replacing l node (new_paths n.files) ∷ marks)) ≡ Ok after → AreBehind t r then-next (is_some o) after
      by None none met h = record {
        files = subst (AreReplaced t (new_dirstate then-next ∷ [])) (ok-is {E = PlanFault} (dirstate_replacing l node (new_paths n.files) ∷ []) after h) (one-replaced t (new_dirstate then-next) (dirstate_replacing l node (new_paths n.files)) (dirstate-is node e));
        few = ap (λ (marks : List Bookmark). nat_lt most_bookmarks (length r.bookmarks) || nat_lt most_bookmarks (length marks)) (ap (λ (o : Option (List ℕ)). with_optional_mark r.bookmarks o (length r.changesets)) none)
            ∙ (let b = few-marks l r holds met in λ i. b i || b i);
      }
      by (Some name) some met h = within-limit (are_too_many l.bookmarks || are_too_many (marked l name node)) (laws.limit t r then-next l name node (length r.changesets) s loads marks_are) h
        where
          marks_are : then-next.bookmarks ≡ with_optional_mark r.bookmarks (Some name) (length r.changesets)
          marks_are = ap (λ (o : Option (List ℕ)). with_optional_mark r.bookmarks o (length r.changesets)) some

          mark-is : IsReplacedBy t (new_bookmarks then-next) (marks_replacing l (marked l name node))
          mark-is =
              subst (λ (known : List ℕ). IsReplacedBy t (new_bookmarks then-next) (marks_replacing l (marked l name known))) (node-then ∙ sym e)
              (laws.bookmarks t r then-next l name (length r.changesets) s loads (new_changeset (history r.changesets) parents n ∷ [], refl) marks_are)

          within-limit : (b : Bool) → b ≡ passes_limit r then-next → set name b ≡ Ok after → AreBehind t r then-next true after
          within-limit true p k = cc
          within-limit false p k = record {
            files = subst (AreReplaced t (new_dirstate then-next ∷ new_bookmarks then-next ∷ [])) (ok-is {E = PlanFault} (dirstate_replacing l node (new_paths n.files) ∷ marks_replacing l (marked l name node) ∷ []) after k)
                (two-replaced t (new_dirstate then-next) (new_bookmarks then-next) (dirstate_replacing l node (new_paths n.files)) (marks_replacing l (marked l name node)) (dirstate-is node e) mark-is);
            few = sym p;
          }
