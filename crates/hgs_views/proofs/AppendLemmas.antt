-- What a writer appends behind what is shown.
use Rattle.std.proofs.Common.{◌≡◌, ℕ, ◌≤◌, List, [], ◌∷◌, ◌++◌, Bool, true, false, cond, ◌||◌, Some, Option, refl, sym, ◌∙◌, ap, subst, arith, append-nil, length, ◌/◌}
use Rattle.std.specs.Prelude.{unwrap_or}
use Rattle.hgs_bytes.specs.Bytes.{IsPrefixOf, same, among}
use Rattle.hgs_files.specs.declared.op.Op.{Op}
use Rattle.hgs_files.specs.declared.op.Op.TheVariants.{Append}
use Rattle.hgs_files.specs.Tree.{Tree, bytes_at, same_path, with_file, apply}
use Rattle.hgs_index.specs.Inline.{index_apart}
use Rattle.hgs_index.specs.Revision.{Revision}
use Rattle.hgs_marks.specs.Bookmarks.{read_bookmarks}
use Rattle.hgs_marks.specs.Dirstate.{read_dirstate}
use Rattle.hgs_model.specs.Repo.{Repo, Changeset}
use Rattle.hgs_path.specs.declared.name.Ext.TheVariants.{I, D}
use Rattle.hgs_path.specs.StoreName.{store_name}
use Rattle.hgs_phases.specs.Roots.{read_roots}
use Rattle.hgs_stands.specs.Places.{requires_path, bookmarks_path, dirstate_path, roots_path, changelog_index, changelog_data, manifest_index, manifest_data}
use Rattle.hgs_stands.specs.Shows.{BeginsAt, Shows}
use Rattle.hgs_views.specs.Course.{Course, IsBetween, IsCourse, IsStep, KeepsFronts, AreSame, tree_after, whole_files}
use Rattle.hgs_views.proofs.Basics.{begins-on, same_path-eq, with_file-other, after_all-append, other-path, prefix-refl, prefix-trans}
use Rattle.hgs_views.proofs.CourseLemmas.{stepped}

-- ---- trees that grow

-- every file goes on from what it was, and those that are shown whole are the same
pub record GoesOn (t u : Tree) : Type 0 where
  pub fronts : (path : List ℕ) → IsPrefixOf (bytes_at t path) (bytes_at u path)
  pub requires : u requires_path ≡ t requires_path
  pub changelog : u changelog_index ≡ t changelog_index
  pub roots : u roots_path ≡ t roots_path
  pub bookmarks : u bookmarks_path ≡ t bookmarks_path
  pub dirstate : u dirstate_path ≡ t dirstate_path

either_false : (a b : Bool) → (a || b) ≡ false → (a ≡ false) × (b ≡ false)
either_false true b h = cc
either_false false b h = (refl, h)

bytes-same : (t u : Tree) (path : List ℕ) → u path ≡ t path → bytes_at u path ≡ bytes_at t path
bytes-same t u path e = ap (λ (o : Option (List ℕ)). unwrap_or o []) e

pub append-goes-on : (t : Tree) (path bytes : List ℕ) → among path whole_files ≡ false → GoesOn t (apply (Append path bytes) t)
append-goes-on t path bytes apart =
    let a = either_false (same path requires_path) (among path (changelog_index ∷ roots_path ∷ bookmarks_path ∷ dirstate_path ∷ [])) apart in
    let b = either_false (same path changelog_index) (among path (roots_path ∷ bookmarks_path ∷ dirstate_path ∷ [])) a.1 in
    let c = either_false (same path roots_path) (among path (bookmarks_path ∷ dirstate_path ∷ [])) b.1 in
    let d = either_false (same path bookmarks_path) (among path (dirstate_path ∷ [])) c.1 in
    let e = either_false (same path dirstate_path) false d.1 in
    record {
      fronts = λ other. by other (same_path path other) refl;
      requires = kept requires_path a.0;
      changelog = kept changelog_index b.0;
      roots = kept roots_path c.0;
      bookmarks = kept bookmarks_path d.0;
      dirstate = kept dirstate_path e.0;
    }
  where
    kept : (other : List ℕ) → same path other ≡ false → with_file t path (Some (bytes_at t path ++ bytes)) other ≡ t other
    kept other e = with_file-other t path other (Some (bytes_at t path ++ bytes)) (other-path path other e)

    by : (other : List ℕ) (b : Bool) → same_path path other ≡ b → IsPrefixOf (bytes_at t other) (bytes_at (with_file t path (Some (bytes_at t path ++ bytes))) other)
    by other true e =
        (bytes, ap (λ b. unwrap_or (cond b (Some (bytes_at t path ++ bytes)) (t other)) []) e ∙ ap (λ p. bytes_at t p ++ bytes) (same_path-eq path other e))
    by other false e = ([], ap (λ b. unwrap_or (cond b (Some (bytes_at t path ++ bytes)) (t other)) []) e ∙ sym (append-nil (bytes_at t other)))

log-on : (t u : Tree) (index chunks : List ℕ) (revisions : List Revision) → GoesOn t u → BeginsAt t index chunks revisions → BeginsAt u index chunks revisions
log-on t u index chunks revisions g b = begins-on (bytes_at t index) (bytes_at t chunks) (bytes_at u index) (bytes_at u chunks) revisions (g.fronts index) (g.fronts chunks) b

pub shows-on : (t u : Tree) (marked worked r : Repo) → GoesOn t u → Shows t marked worked r → Shows u marked worked r
shows-on t u marked worked r g s = record {
  requires = record { text = s.requires.text; there = g.requires ∙ s.requires.there; known = s.requires.known; whole = s.requires.whole };
  revlogs = record {
    whole = s.revlogs.whole ∙ sym (ap (λ l. length (index_apart l) / 64) (bytes-same t u changelog_index g.changelog));
    changelog = log-on t u changelog_index changelog_data _ g s.revlogs.changelog;
    manifest = log-on t u manifest_index manifest_data _ g s.revlogs.manifest;
    filelogs = λ path used. log-on t u (store_name path I) (store_name path D) _ g (s.revlogs.filelogs path used);
  };
  phases = record { roots = s.phases.roots; text = ap read_roots (bytes-same t u roots_path g.roots) ∙ s.phases.text; phases = s.phases.phases };
  bookmarks = ap read_bookmarks (bytes-same t u bookmarks_path g.bookmarks) ∙ s.bookmarks;
  working = record { dirstate = s.working.dirstate; text = ap read_dirstate (bytes-same t u dirstate_path g.dirstate) ∙ s.working.text; first = s.working.first; second = s.working.second };
}

keeps-on : (f t u : Tree) (changesets : List Changeset) → GoesOn t u → KeepsFronts f t changesets → KeepsFronts f u changesets
keeps-on f t u changesets g k = record {
  changelog = prefix-trans _ _ _ k.changelog (g.fronts changelog_index);
  changelog_chunks = prefix-trans _ _ _ k.changelog_chunks (g.fronts changelog_data);
  manifest = prefix-trans _ _ _ k.manifest (g.fronts manifest_index);
  manifest_chunks = prefix-trans _ _ _ k.manifest_chunks (g.fronts manifest_data);
  filelogs = λ path ext used. prefix-trans _ _ _ (k.filelogs path ext used) (g.fronts (store_name path ext));
}

-- ---- a course with one append more

pub step-on : (x : Course) (first log more : List Op) → IsPrefixOf first log → IsCourse x first log → GoesOn (tree_after x log) (tree_after x more) → AreSame x log more → IsStep x log more
step-on x first log more on a g e =
    let at : IsBetween first log log = record { begins = on; ends = prefix-refl log } in
    record {
      repository = λ i le. a.repository i (subst (λ n. i ≤ n) e.published le);
      goes_on = λ i j le top. a.goes_on i j le (subst (λ n. j ≤ n) e.published top);
      holds = λ i le. a.holds i (subst (λ n. i ≤ n) e.published le);
      ordered = (let o = a.ordered log at in let em = e.marked in let ew = e.worked in let ep = e.published in record {
        marked = (let p = o.marked in omega (arith, p, em, ew));
        worked = (let p = o.worked in omega (arith, p, ew, ep));
      });
      rises = (let em = e.marked in let ew = e.worked in let ep = e.published in record { marked = omega (arith, em); worked = omega (arith, ew); published = omega (arith, ep) });
      shows = (let s = shows-on (tree_after x log) (tree_after x more) (x.repo (x.marked log)) (x.repo (x.worked log)) (x.repo (x.published log)) g (a.shows log at) in
          subst (λ m. Shows (tree_after x more) (x.repo m) (x.repo (x.worked more)) (x.repo (x.published more))) (sym e.marked)
          (subst (λ m. Shows (tree_after x more) (x.repo (x.marked log)) (x.repo m) (x.repo (x.published more))) (sym e.worked)
          (subst (λ m. Shows (tree_after x more) (x.repo (x.marked log)) (x.repo (x.worked log)) (x.repo m)) (sym e.published) s)));
      stays = λ i le. keeps-on (x.store i) (tree_after x log) (tree_after x more) (x.repo i).changesets g (a.stays log i at (subst (λ n. i ≤ n) e.published le));
    }

pub append-course : (x : Course) (first log : List Op) (path bytes : List ℕ) → IsPrefixOf first log → IsCourse x first log → among path whole_files ≡ false → AreSame x log (log ++ Append path bytes ∷ []) → IsCourse x first (log ++ Append path bytes ∷ [])
append-course x first log path bytes on a apart e =
    let grown = append-goes-on (tree_after x log) path bytes apart in
    let goes = subst (GoesOn (tree_after x log)) (sym (after_all-append log (Append path bytes ∷ []) x.start)) grown in
    stepped x first log (Append path bytes) a (step-on x first log (log ++ Append path bytes ∷ []) on a goes e) on
