-- Phase roots give the changesets of a front what they give them in the whole.
use Rattle.std.proofs.Common.{◌≡◌, ℕ, zero, suc, ◌+◌, ◌<◌, ◌≤◌, List, [], ◌∷◌, ◌++◌, Bool, true, false, cond, length, take, drop, map, Option, Some, None, refl, sym, ◌∙◌, ap, subst, inl, inr, arith, length-append}
use Rattle.std.specs.List.{range_with_len}
use Rattle.std.proofs.Math.Seq.{take-append_seam}
use Rattle.std.proofs.lemmas.List.{length-map, length-take-le, map-append, take-append-drop, take-map}
use Rattle.std.proofs.lemmas.List.FromFn.{take-map-range_with_len}
use Rattle.hgs_bytes.specs.Bytes.{IsPrefixOf}
use Rattle.hgs_index.specs.declared.entry.Entry.{Entry}
use Rattle.hgs_index.specs.Ancestor.{IsAncestor, itself, of_parent, is_ancestor}
use Rattle.hgs_index.specs.Revision.{Revision, Parents, ParentsBefore}
use Rattle.hgs_model.specs.declared.phase.Phase.TheVariants.{Public}
use Rattle.hgs_model.specs.History.{changeset_nodes, history, parents_in}
use Rattle.hgs_model.specs.IsRepo.{IsRepo}
use Rattle.hgs_model.specs.Phase.{greater, phase_number}
use Rattle.hgs_model.specs.Repo.{Repo, all_parents}
use Rattle.hgs_phases.specs.declared.roots.Root.{Root}
use Rattle.hgs_phases.specs.Phases.{history_of, phase_by, phases_by, reaches}
use Rattle.hgs_revlog.specs.Log.{nodes_of, place_of}
use Rattle.hgs_stands.specs.Stands.{changeset_entries, entries_of}
use Rattle.hgs_views.proofs.Below.{FrontLaws}

module _ (law : FrontLaws) where
  ancestor-low : (h : List Parents) → ParentsBefore 0 h → (a b : ℕ) → IsAncestor h a b → a ≤ b
  ancestor-low h before a _ itself = omega arith
  ancestor-low h before a b (of_parent {p = p} par anc) =
      let low = ancestor-low h before a p anc in
      let lt = law.before h b p before par in
      omega (arith, low, lt)

  ancestor-none : (h : List Parents) → ParentsBefore 0 h → (a b : ℕ) → b < length h → b < a → is_ancestor h a b ≡ false
  ancestor-none h before a b lt above = by (is_ancestor h a b) refl
    where
      by : (x : Bool) → is_ancestor h a b ≡ x → is_ancestor h a b ≡ false
      by false e = e
      by true e = let low = ancestor-low h before a b ((law.test h a b before lt).0 e) in absurd (omega (arith, low, above))

  -- ---- phases in a front

  module _ (front back : List Entry) (before : ParentsBefore 0 (history_of (front ++ back))) where
    size : length (history_of front) ≡ length front
    size = length-map front (λ e. (e.p1, e.p2))

    joined : history_of (front ++ back) ≡ history_of front ++ history_of back
    joined = map-append (λ e. (e.p1, e.p2)) front back

    reach-some : (node : List ℕ) (rev i : ℕ) → rev < length front → place_of front node ≡ Some i → reaches (history_of (front ++ back)) (place_of (front ++ back) node) rev ≡ reaches (history_of front) (place_of front node) rev
    reach-some node rev i lt e =
        ap (λ o. reaches (history_of (front ++ back)) o rev) (law.stays node i front back e)
        ∙ ap (λ h. is_ancestor h i rev) joined
        ∙ law.ancestors (history_of front) (history_of back) i rev (omega (arith, lt, size))
        ∙ sym (ap (λ o. reaches (history_of front) o rev) e)

    reach-none : (node : List ℕ) (rev : ℕ) → rev < length front → place_of front node ≡ None → reaches (history_of (front ++ back)) (place_of (front ++ back) node) rev ≡ reaches (history_of front) (place_of front node) rev
    reach-none node rev lt e = elim (law.behind node front back e) [
      | inl none ↦ ap (λ o. reaches (history_of (front ++ back)) o rev) none ∙ sym (ap (λ o. reaches (history_of front) o rev) e)
      | inr some ↦ ap (λ o. reaches (history_of (front ++ back)) o rev) some.1
          ∙ ancestor-none (history_of (front ++ back)) before some.0 rev (let l = ap length joined in let m = length-append (history_of front) (history_of back) in omega (arith, lt, size, l, m)) (let le = some.2 in omega (arith, lt, le))
          ∙ sym (ap (λ o. reaches (history_of front) o rev) e)
    ]

    reach-same : (node : List ℕ) (rev : ℕ) → rev < length front → reaches (history_of (front ++ back)) (place_of (front ++ back) node) rev ≡ reaches (history_of front) (place_of front node) rev
    reach-same node rev lt = by (place_of front node) refl
      where
        by : (o : Option ℕ) → place_of front node ≡ o → reaches (history_of (front ++ back)) (place_of (front ++ back) node) rev ≡ reaches (history_of front) (place_of front node) rev
        by None e = reach-none node rev lt e
        by (Some i) e = reach-some node rev i lt e

    phase-front : (roots : List Root) (rev : ℕ) → rev < length front → phase_by roots (front ++ back) rev ≡ phase_by roots front rev
    phase-front [] rev lt = refl
    phase-front (r ∷ roots) rev lt =
        ap (λ b. greater (cond b r.phase Public) (phase_by roots (front ++ back) rev)) (reach-same r.node.0 rev lt)
        ∙ ap (λ p. greater (cond (reaches (history_of front) (place_of front r.node.0) rev) r.phase Public) p) (phase-front roots rev lt)

    phases-front : (roots : List Root) → take (length front) (phases_by roots (front ++ back)) ≡ phases_by roots front
    phases-front roots =
        take-map-range_with_len (phase_by roots (front ++ back)) 0 (length (front ++ back)) (length front) (let l = length-append front back in omega (arith, l))
        ∙ each 0 (length front) (omega arith)
      where
        each : (a n : ℕ) → a + n ≤ length front → map (phase_by roots (front ++ back)) (range_with_len a n) ≡ map (phase_by roots front) (range_with_len a n)
        each a zero le = refl
        each a (suc n) le =
            ap (λ p. p ∷ map (phase_by roots (front ++ back)) (range_with_len (a + 1) n)) (phase-front roots a (omega (arith, le)))
            ∙ ap (λ l. phase_by roots front a ∷ l) (each (a + 1) n (omega (arith, le)))

  -- ---- a repository and one that it went on to

  take-front : {A : Type 0} (xs ys : List A) → IsPrefixOf xs ys → take (length xs) ys ≡ xs
  take-front xs ys p = ap (take (length xs)) p.1 ∙ take-append_seam xs p.0

  pub roots-front : (roots : List Root) (r s : Repo) → IsRepo r → IsRepo s → IsPrefixOf r.changesets s.changesets → map phase_number (phases_by roots (changeset_entries s.changesets)) ≡ s.phases
      → map phase_number (phases_by roots (changeset_entries r.changesets)) ≡ take (length r.changesets) s.phases
  roots-front roots r s is later_is p given =
      let revisions = (history r.changesets).changelog in
      let all = (history s.changesets).changelog in
      let n = length r.changesets in
      let entries = entries_of all in
      let front = take n entries in
      let back = drop n entries in
      let whole : front ++ back ≡ entries = take-append-drop n entries in
      let parents : history_of entries ≡ all_parents s.changesets = law.parents all ∙ law.all_parents_are s later_is in
      let counts : length (changeset_nodes r.changesets) ≡ n = law.counted revisions ∙ law.count r is in
      let parent_counts : length (parents_in revisions) ≡ n = length-map revisions (λ (x : Revision). x.parents) ∙ law.count r is in
      let many : length entries ≡ length all = sym (length-map entries (λ (e : Entry). e.node.0)) ∙ ap length (law.entry_nodes all) ∙ law.counted all in
      let goes = law.changelog r.changesets s.changesets p in
      let longer : n ≤ length entries = (let l = ap length goes.1 in let m = length-append revisions goes.0 in let k = law.count r is in omega (arith, l, m, k, many)) in
      let size : length front ≡ n = length-take-le n entries longer in
      let nodes_are : nodes_of front ≡ nodes_of (entries_of revisions) =
      sym (take-map (λ (e : Entry). e.node.0) n entries) ∙ ap (take n) (law.entry_nodes all) ∙ ap (λ k. take k (changeset_nodes s.changesets)) (sym counts) ∙ take-front (changeset_nodes r.changesets) (changeset_nodes s.changesets) (law.nodes_front r.changesets s.changesets p) ∙ sym (law.entry_nodes revisions) in
      let parents_front : IsPrefixOf (parents_in revisions) (parents_in all) = (parents_in goes.0, ap parents_in goes.1 ∙ map-append (λ (x : Revision). x.parents) revisions goes.0) in
      let parents_are : history_of front ≡ history_of (entries_of revisions) =
      sym (take-map (λ (e : Entry). (e.p1, e.p2)) n entries) ∙ ap (take n) (law.parents all) ∙ ap (λ k. take k (parents_in all)) (sym parent_counts) ∙ take-front (parents_in revisions) (parents_in all) parents_front ∙ sym (law.parents revisions) in
      ap (map phase_number) (sym (law.same_phases roots front (entries_of revisions) nodes_are parents_are))
      ∙ ap (map phase_number) (sym (phases-front front back (subst (λ l. ParentsBefore 0 (history_of l)) (sym whole) (subst (ParentsBefore 0) (sym parents) later_is.parents)) roots))
      ∙ sym (take-map phase_number (length front) (phases_by roots (front ++ back)))
      ∙ ap (λ k. take k (map phase_number (phases_by roots (front ++ back)))) size
      ∙ ap (λ l. take n (map phase_number (phases_by roots l))) whole
      ∙ ap (take n) given
