-- The log that writers make is a course.
use Rattle.std.proofs.Common.{◌≡◌, ◌⊎◌, ℕ, zero, suc, ◌<◌, ◌≤◌, List, [], ◌∷◌, ◌++◌, Bool, true, false, ◌&&◌, ◌||◌, refl, sym, ◌∙◌, ap, subst, inl, inr, arith, append_assoc}
use Rattle.std.specs.List.{list_all}
use Rattle.std.specs.Cmp.Lexicographic.{bytes_decides}
use Rattle.hgs_bytes.specs.Bytes.{IsPrefixOf, among, same}
use Rattle.hgs_files.specs.declared.op.Op.{Op}
use Rattle.hgs_files.specs.Tree.{Tree, after_all, bytes_at}
use Rattle.hgs_journal.specs.Covers.{is_loose}
use Rattle.hgs_journal.specs.Names.{journal_path}
use Rattle.hgs_model.specs.Repo.{Repo}
use Rattle.hgs_path.specs.declared.name.Ext.{Ext}
use Rattle.hgs_path.specs.StoreName.{store_name}
use Rattle.hgs_stands.specs.Places.{bookmarks_path, changelog_data, changelog_index, dirstate_path, manifest_data, manifest_index, own_files, roots_path}
use Rattle.hgs_stands.specs.Shows.{Shows}
use Rattle.hgs_stands.specs.Stands.{HoldsChangesets}
use Rattle.hgs_ops.specs.Operations.{strays}
use Rattle.hgs_legal.specs.LegalLog.{IsRun, Run, State, start_of}
use Rattle.hgs_legal.specs.Numbers.{b_of, n_of, repo_at, w_of}
use Rattle.hgs_views.specs.Course.{IsCourse, KeepsFronts}
use Rattle.hgs_headline.specs.WritersLog.{WritersLog, course_of, files_with, state_after}
use Rattle.hgs_headline.proofs.Below.{Below}
use Rattle.hgs_headline.proofs.RunLemmas.{Reaches, between, files-here, reaches, split}

-- ---- names that no transaction replaces or removes

never : {A : Type 0} → true ≡ false → A
never e = absurd (no_case e)
  where
    no_case : true ≡ false → ⊥
    no_case h = cc

bool : (b : Bool) → (b ≡ true) ⊎ (b ≡ false)
bool true = inl refl
bool false = inr refl

or-left : (a b : Bool) → (a || b) ≡ false → a ≡ false
or-left true b e = e
or-left false b e = refl

or-both : (a b : Bool) → a ≡ false → b ≡ false → (a || b) ≡ false
or-both true b e f = e
or-both false b e f = f

and-left : (a b : Bool) → (a && b) ≡ true → a ≡ true
and-left true b e = refl
and-left false b e = e

and-right : (a b : Bool) → (a && b) ≡ true → b ≡ true
and-right true b e = e
and-right false b e = never (sym e)

-- what is not in a list is not in a part of it
among-part : (xs ys : List (List ℕ)) (p : List ℕ) → list_all (λ x. among x ys) xs ≡ true → among p ys ≡ false → among p xs ≡ false
among-part [] ys p a b = refl
among-part (x ∷ xs) ys p a b = or-both (same p x) (among p xs) (by (bool (same p x))) (among-part xs ys p (and-right (among x ys) _ a) b)
  where
    by : (same p x ≡ true) ⊎ (same p x ≡ false) → same p x ≡ false
    by (inl h) = never (sym (and-left (among x ys) _ a) ∙ ap (λ q. among q ys) (sym ((bytes_decides p x).0 h)) ∙ b)
    by (inr h) = h

record IsKept (p : List ℕ) : Type 0 where
  pub free : is_loose strays p ≡ false
  pub off : same p journal_path ≡ false
  pub other : among p (roots_path ∷ dirstate_path ∷ bookmarks_path ∷ []) ≡ false

module _ (b : Below) where
  store-kept : (path : List ℕ) (ext : Ext) → IsKept (store_name path ext)
  store-kept path ext = record {
    free = b.free strays path ext refl;
    off = or-left _ _ (among-part (journal_path ∷ []) own_files (store_name path ext) refl (b.own path ext));
    other = among-part (roots_path ∷ dirstate_path ∷ bookmarks_path ∷ []) own_files (store_name path ext) refl (b.own path ext);
  }

  module _ (h : WritersLog) where
    abbrev from : State
    from = start_of h.start h.first

    abbrev at : List Op → State
    at front = state_after h front

    abbrev store : ℕ → Tree
    store i = files_with from h.log h.last h.run i

    module _ (front rest : List Op) (e : h.log ≡ front ++ rest) where
      to : IsRun h.start h.first front (at front)
      to = (split from h.log h.last h.run front rest e).0

      on : Run (at front) rest h.last
      on = (split from h.log h.last h.run front rest e).1

      stays-there : (i : ℕ) → i ≤ n_of (at front) → repo_at h.last i ≡ repo_at (at front) i
      stays-there i le = b.stay (at front) rest h.last i on le

      shown : Shows (after_all front h.start) (repo_at h.last (b_of (at front))) (repo_at h.last (w_of (at front))) (repo_at h.last (n_of (at front)))
      shown =
          let o = b.order (at front) in
          let low = o.0 in
          let high = o.1 in
          subst (λ (q : Repo). Shows (after_all front h.start) q (repo_at h.last (w_of (at front))) (repo_at h.last (n_of (at front)))) (sym (stays-there (b_of (at front)) (omega (arith, low, high))))
          (subst (λ (q : Repo). Shows (after_all front h.start) (repo_at (at front) (b_of (at front))) q (repo_at h.last (n_of (at front)))) (sym (stays-there (w_of (at front)) high))
          (subst (λ (q : Repo). Shows (after_all front h.start) (repo_at (at front) (b_of (at front))) (repo_at (at front) (w_of (at front))) q) (sym (stays-there (n_of (at front)) (omega arith)))
          (b.shows h.start h.first front (at front) h.stands to)))

      reached : (i : ℕ) → i ≤ n_of (at front) → 0 < i → Reaches from h.log h.last h.run front i
      reached i le lt = reaches b.one from h.log h.last h.run front rest i e lt le

      start-files : store 0 ≡ h.start
      start-files = files-here from h.log h.last h.run 0 (omega arith)

      held : (i : ℕ) → i ≤ n_of (at front) → HoldsChangesets (store i) (repo_at h.last i).changesets
      held zero le =
          subst (λ (t : Tree). HoldsChangesets t (repo_at h.last 0).changesets) (sym start-files)
          (subst (λ (r : Repo). HoldsChangesets h.start r.changesets) (sym (b.stay from h.log h.last 0 h.run (omega arith))) h.stands.revlogs)
      held (suc i) le =
          let p = reached (suc i) le (omega arith) in
          let less = p.fewer in
          let count = p.count in
          let same_repo : repo_at h.last (suc i) ≡ repo_at p.now (n_of p.now) =
          stays-there (suc i) le ∙ b.stay p.now p.behind (at front) (suc i) p.on (omega (arith, count)) ∙ ap (repo_at p.now) (sym count) in
          subst (λ (t : Tree). HoldsChangesets t (repo_at h.last (suc i)).changesets) (sym p.files)
          (subst (λ (r : Repo). HoldsChangesets p.now.files r.changesets) (sym same_repo) (b.holds h.start h.first p.before p.was p.op p.now h.stands p.to p.goes (omega (arith, less, count))))

      grown : (i : ℕ) → i ≤ n_of (at front) → (path : List ℕ) → IsKept path → IsPrefixOf (bytes_at (store i) path) (bytes_at (after_all front h.start) path)
      grown zero le path k = subst (λ (t : Tree). IsPrefixOf (bytes_at t path) (bytes_at (after_all front h.start) path)) (sym start-files) (b.first h.start h.first front (at front) path h.stands to k.free k.off k.other)
      grown (suc i) le path k =
          let p = reached (suc i) le (omega arith) in
          let less = p.fewer in
          let count = p.count in
          subst (λ (t : Tree). IsPrefixOf (bytes_at t path) (bytes_at (after_all front h.start) path)) (sym p.files)
          (subst (λ (t : Tree). IsPrefixOf (bytes_at p.now.files path) (bytes_at t path)) (b.files h.start h.first front (at front) to)
          (b.later h.start h.first p.before p.was p.op p.now p.behind (at front) path h.stands p.to p.goes (omega (arith, less, count)) p.on k.free k.off k.other))

      kept : (i : ℕ) → i ≤ n_of (at front) → KeepsFronts (store i) (after_all front h.start) (repo_at h.last i).changesets
      kept i le = record {
        changelog = grown i le changelog_index (record { free = refl; off = refl; other = refl });
        changelog_chunks = grown i le changelog_data (record { free = refl; off = refl; other = refl });
        manifest = grown i le manifest_index (record { free = refl; off = refl; other = refl });
        manifest_chunks = grown i le manifest_data (record { free = refl; off = refl; other = refl });
        filelogs = λ path ext used. grown i le (store_name path ext) (store-kept path ext);
      }

    -- of a list between a front and another, what is left of the log behind it
    left-of : (last front : List Op) (p : IsPrefixOf front last) (q : IsPrefixOf last h.log) → h.log ≡ front ++ (p.0 ++ q.0)
    left-of last front p q = q.1 ∙ ap (λ l. l ++ q.0) p.1 ∙ append_assoc front p.0 q.0

    pub course : (first last : List Op) → IsPrefixOf last h.log → IsCourse (course_of h) first last
    course first last p = record {
      repository = λ i le. (b.go_on h.start h.first h.log h.last i i h.stands h.run (omega arith)).0;
      goes_on = λ i j le top. (b.go_on h.start h.first h.log h.last i j h.stands h.run le).1;
      holds = held last p.0 p.1;
      ordered = λ log there. (let o = b.order (at log) in record { marked = o.0; worked = o.1 });
      rises = λ log more there next.
          (let mid = next.begins in
          let r = b.rise (at log) mid.0 (at more) (subst (λ (l : List Op). Run (at log) mid.0 (at l)) (sym mid.1) (between from h.log h.last h.run log mid.0 (next.ends.0 ++ p.0) (subst (λ (l : List Op). h.log ≡ l ++ (next.ends.0 ++ p.0)) mid.1 (left-of last more next.ends p)))) in
          record { marked = r.0; worked = r.1; published = r.2 });
      shows = λ log there. shown log (there.ends.0 ++ p.0) (left-of last log there.ends p);
      stays = λ log i there le. kept log (there.ends.0 ++ p.0) (left-of last log there.ends p) i le;
    }
