-- What an accepted commit makes of a repository is one again.
use Rattle.std.proofs.Common.{◌≡◌, ◌⊎◌, ℕ, zero, suc, ◌+◌, ◌<◌, ◌≤◌, List, [], ◌∷◌, ◌++◌, Bool, true, false, cond, ◌&&◌, ◌||◌, not, length, map, get_or, refl, sym, ◌∙◌, ap, subst, inl, inr, arith, length-append}
use Rattle.std.specs.Prelude.{Option, Some, None, Result, Ok, Err, IfSome, slice_get, slice_index, slice_index_or, ◌==◌, filter, nat_le, max}
use Rattle.std.specs.List.{AllByRecursion, list_any, list_all}
use Rattle.std.specs.Str.{is_utf8}
use Rattle.std.proofs.lemmas.Bool.Decides.{nat_tests}
use Rattle.hgs_bytes.specs.Bytes.{among, same, is_below}
use Rattle.hgs_bytes.specs.Path.{components, is_line_byte}
use Rattle.hgs_bytes.specs.Theorems.ByteLemmas.{same-eq}
use Rattle.hgs_bytes.specs.Text.{ascends, Lacks}
use Rattle.hgs_index.specs.ChangeText.{IsChange, IsLineText}
use Rattle.hgs_index.specs.FileText.{unpacked, prefix_of, body_of}
use Rattle.hgs_index.specs.MarkName.{ends_in_space, is_digit, is_mark_name, is_name_end, reserved_names}
use Rattle.hgs_index.specs.Theorems.FileTextLemmas.{unpacked-block, unpacked-plain, unpacked-joins}
use Rattle.hgs_index.specs.TrackedPath.{is_tracked, is_forbidden}
use Rattle.hgs_index.specs.Revision.{Revision, Parents, ParentsBefore}
use Rattle.hgs_model.specs.declared.command.NewChange.{NewChange}
use Rattle.hgs_model.specs.declared.files.NewFile.{NewFile}
use Rattle.hgs_model.specs.Repo.{Repo, TreeFile, Bookmark, Changeset, all_parents, tree_paths, file_text}
use Rattle.hgs_model.specs.History.{History, no_history, history, history_from, with_changeset, EachChangeset, Placed, placed_at, placed_of, kept, kept_of, file_parents, text_at, changeset_text_value, manifest_with, manifest_number, changed_paths, removed_paths, is_changed, inserted, in_order, first_of, rev_of_file}
use Rattle.hgs_model.specs.Valid.{IsNewChange, ends_in, is_branch_name, is_source, new_paths}
use Rattle.hgs_model.specs.IsRepo.{IsRepo, IsPhase, IsNextChangeset, HasKeptPrefix, phase_at}
use Rattle.hgs_model.specs.Names.{named, means_no_parent}
use Rattle.std.proofs.lemmas.Option.{slice_get-get_or}
use Rattle.std.proofs.lemmas.Str.{is_utf8-from_IsUtf8}
use Rattle.hgs_model.specs.Theorems.NodeLemmas.{node_at-node}
use Rattle.std.proofs.lemmas.List.{length-map}
use Rattle.hgs_model.specs.declared.phase.Phase.{Phase}
use Rattle.hgs_model.specs.declared.phase.Phase.TheVariants.{Public, Draft, Secret}
use Rattle.hgs_model.specs.Phase.{phase_number}
use Rattle.hgs_model.specs.Step.{Next, Answer, branch_extras, copies_hold, copy_block, fresh_prefix, placed_node, source_file, or_unknown, named_all, as_parents, new_prefix, new_file, new_changeset, nothing_changed, unchanged_from, refused_where, done_at, with_new, with_optional_mark, step_commit, step_import, steps_from, ◌>>=◌}
use Rattle.hgs_model.specs.declared.command.Refusal.{Refusal}
use Rattle.hgs_model.specs.declared.command.Refusal.TheVariants.{UnknownRevision, NothingChanged}
use Rattle.hgs_model.specs.Theorems.BookmarkLemmas.{with_mark-ordered, with_mark-all}
use Rattle.hgs_model.specs.Theorems.CopyLemmas.{copy-block}
use Rattle.hgs_model.specs.Theorems.ListLemmas.{some-same, none-some, never, and-left, and-right, and-both, heads, ascends-cons, ascends-head, ascends-tail, below-or, all-push, all-map, all-join, all-mapped, filter-all}
use Rattle.hgs_model.specs.Theorems.StepLemmas.{named-below, parent-before}

-- ---- what an accepted commit did

ok-same : {A : Type 0} (d x y : A) → ◌≡◌ {A = Result A Refusal} (Ok x) (Ok y) → x ≡ y
ok-same d x y e = ap (elim [ Ok z ↦ z | Err w ↦ d ]) e

err-ok : {A B : Type 0} (w : Refusal) (y : A) → ◌≡◌ {A = Result A Refusal} (Err w) (Ok y) → B
err-ok {A = A} w y e = absurd (no e)
  where
    no : ◌≡◌ {A = Result A Refusal} (Err w) (Ok y) → ⊥
    no h = cc

pub named_all-below : (r : Repo) (names : List (List ℕ)) (revs : List ℕ) → IsRepo r → named_all r names ≡ Ok revs → AllByRecursion (λ rev. rev < length r.changesets) revs
named_all-below r [] revs is e = subst (AllByRecursion (λ rev. rev < length r.changesets)) (ok-same [] [] revs e) tt
named_all-below r (name ∷ names) revs is e = by (means_no_parent r name) (named r name) refl (named_all r names) (λ q h. named_all-below r names q is h) e
  where
    by : (b : Bool) (o : Option ℕ) → named r name ≡ o → (rest : Result (List ℕ) Refusal) → ((q : List ℕ) → rest ≡ Ok q → AllByRecursion (λ rev. rev < length r.changesets) q)
        → cond b rest (or_unknown o >>= λ rev. rest >>= λ more. Ok (rev ∷ more)) ≡ Ok revs → AllByRecursion (λ rev. rev < length r.changesets) revs
    by true o n rest rec h = rec revs h
    by false None n rest rec h = err-ok UnknownRevision revs h
    by false (Some rev) n (Err w) rec h = err-ok w revs h
    by false (Some rev) n (Ok more) rec h = subst (AllByRecursion (λ k. k < length r.changesets)) (ok-same [] (rev ∷ more) revs h) (named-below r name rev is n, rec more refl)

pub record AreBelow (n : ℕ) (parents : Parents) : Type 0 where
  pub first : IfSome parents.0 (λ rev. rev < n)
  pub second : IfSome parents.1 (λ rev. rev < n)

as_parents-below : (n : ℕ) (revs : List ℕ) → AllByRecursion (λ rev. rev < n) revs → AreBelow n (as_parents revs)
as_parents-below n [] all = record { first = tt; second = tt }
as_parents-below n (a ∷ []) all = record { first = all.0; second = tt }
as_parents-below n (a ∷ b ∷ revs) all = by (a == b)
  where
    by : (z : Bool) → AreBelow n (cond z (Some a, None) (Some a, Some b))
    by true = record { first = all.0; second = tt }
    by false = record { first = all.0; second = all.1.0 }

-- an accepted commit added the new changeset after these parents, which no other is equal to
pub record Committed (r : Repo) (n : NewChange) (next : Repo) : Type 0 where
  pub parents : Parents
  pub below : AreBelow (length r.changesets) parents
  pub changed : nothing_changed r (new_changeset (history r.changesets) parents n) ≡ None
  pub is : next ≡ with_new r (new_changeset (history r.changesets) parents n) n

pub step_commit-did : (r : Repo) (n : NewChange) (next : Repo) (answer : Answer) → IsRepo r → step_commit r n ≡ Ok (next, answer) → Committed r n next
step_commit-did r n next answer is e = by (named_all r n.parents) refl e
  where
    after : (parents : Parents) → AreBelow (length r.changesets) parents → (o : Option ℕ) → nothing_changed r (new_changeset (history r.changesets) parents n) ≡ o
        → (refused_where o >>= λ unchanged. Ok (done_at (with_new r (new_changeset (history r.changesets) parents n) n) (length r.changesets))) ≡ Ok (next, answer) → Committed r n next
    after parents below None c h = record {
      parents = parents;
      below = below;
      changed = c;
      is = sym (ap (λ (p : Next). p.0) (ok-same (next, answer) (done_at (with_new r (new_changeset (history r.changesets) parents n) n) (length r.changesets)) (next, answer) h));
    }
    after parents below (Some rev) c h = err-ok (NothingChanged rev) (next, answer) h

    copied : (parents : Parents) → AreBelow (length r.changesets) parents → (held : Result (Unit {0}) Refusal)
        → (held >>= λ copied. refused_where (nothing_changed r (new_changeset (history r.changesets) parents n)) >>= λ unchanged. Ok (done_at (with_new r (new_changeset (history r.changesets) parents n) n) (length r.changesets))) ≡ Ok (next, answer) → Committed r n next
    copied parents below (Err w) h = err-ok w (next, answer) h
    copied parents below (Ok it) h = after parents below (nothing_changed r (new_changeset (history r.changesets) parents n)) refl h

    by : (all : Result (List ℕ) Refusal) → named_all r n.parents ≡ all
        → (all >>= λ revs. copies_hold (history r.changesets) (as_parents revs) n.files >>= λ copied. refused_where (nothing_changed r (new_changeset (history r.changesets) (as_parents revs) n)) >>= λ unchanged. Ok (done_at (with_new r (new_changeset (history r.changesets) (as_parents revs) n) n) (length r.changesets))) ≡ Ok (next, answer) → Committed r n next
    by (Err w) a h = err-ok w (next, answer) h
    by (Ok revs) a h = copied (as_parents revs) (as_parents-below (length r.changesets) revs (named_all-below r n.parents revs is a)) (copies_hold (history r.changesets) (as_parents revs) n.files) h

-- ---- one more changeset

pub each-push : (P : History → Changeset → Type 0) (h : History) (changesets : List Changeset) (c : Changeset) → EachChangeset P h changesets → P (history_from h changesets) c → EachChangeset P h (changesets ++ c ∷ [])
each-push P h [] c each p = (p, tt)
each-push P h (x ∷ changesets) c each p = (each.0, each-push P (with_changeset h x) changesets c each.1 p)

parents-push : (n : ℕ) (changesets : List Changeset) (c : Changeset) → ParentsBefore n (all_parents changesets) → AreBelow (n + length changesets) c.parents → ParentsBefore n (all_parents (changesets ++ c ∷ []))
parents-push n [] c before below = (narrow c.parents.0 below.first, narrow c.parents.1 below.second, tt)
  where
    narrow : (o : Option ℕ) → IfSome o (λ a. a < n + 0) → IfSome o (λ a. a < n)
    narrow None h = tt
    narrow (Some a) h = omega arith
parents-push n (x ∷ changesets) c before below = (before.0, before.1, parents-push (suc n) changesets c before.2 (record { first = narrow c.parents.0 below.first; second = narrow c.parents.1 below.second }))
  where
    narrow : (o : Option ℕ) → IfSome o (λ a. a < n + suc (length changesets)) → IfSome o (λ a. a < suc n + length changesets)
    narrow None h = tt
    narrow (Some a) h = omega arith

-- ---- the phases

pub at-front : (xs : List ℕ) (x i : ℕ) → i < length xs → slice_index (xs ++ x ∷ []) i ≡ slice_index xs i
at-front [] x i lt = absurd (omega arith)
at-front (y ∷ xs) x zero lt = refl
at-front (y ∷ xs) x (suc i) lt = at-front xs x i (omega arith)

pub at-end : (xs : List ℕ) (x i : ℕ) → i ≡ length xs → slice_index (xs ++ x ∷ []) i ≡ x
at-end [] x zero e = refl
at-end [] x (suc i) e = absurd (omega arith)
at-end (y ∷ xs) x zero e = absurd (omega arith)
at-end (y ∷ xs) x (suc i) e = at-end xs x i (omega arith)

pub phase-front : (xs : List ℕ) (x : ℕ) (o : Option ℕ) → IfSome o (λ i. i < length xs) → phase_at (xs ++ x ∷ []) o ≡ phase_at xs o
phase-front xs x None lt = refl
phase-front xs x (Some i) lt = at-front xs x i lt

get-push : (changesets : List Changeset) (c : Changeset) (rev : ℕ) (p : Parents) → slice_get (all_parents (changesets ++ c ∷ [])) rev ≡ Some p
    → (slice_get (all_parents changesets) rev ≡ Some p × (rev < length changesets)) ⊎ ((rev ≡ length changesets) × (c.parents ≡ p))
get-push [] c zero p e = inr (refl, some-same p c.parents p e)
get-push [] c (suc rev) p e = none-some p e
get-push (x ∷ changesets) c zero p e = inl (e, omega arith)
get-push (x ∷ changesets) c (suc rev) p e = elim (get-push changesets c rev p e) [
  | inl h ↦ inl (h.0, omega (arith, h.1))
  | inr h ↦ inr (ap suc h.0, h.1)
]

phases-push : (r : Repo) (c : Changeset) (x : ℕ) → IsRepo r → AreBelow (length r.changesets) c.parents → x ≤ 2 → phase_at r.phases c.parents.0 ≤ x → phase_at r.phases c.parents.1 ≤ x
    → (rev : ℕ) (p : Parents) → slice_get (all_parents (r.changesets ++ c ∷ [])) rev ≡ Some p → IsPhase (r.phases ++ x ∷ []) p (slice_index (r.phases ++ x ∷ []) rev)
phases-push r c x is below most first second rev p e = elim (get-push r.changesets c rev p e) [
  | inl h ↦ old h.0 h.1
  | inr h ↦ new h.0 h.1
]
  where
    inside : (o : Option ℕ) → IfSome o (λ k. k < length r.changesets) → IfSome o (λ k. k < length r.phases)
    inside None h = tt
    inside (Some k) h = let n : length r.phases ≡ length r.changesets = is.phase_count in omega arith

    earlier : (o : Option ℕ) → ((q : ℕ) → o ≡ Some q → q < rev) → rev < length r.changesets → IfSome o (λ k. k < length r.changesets)
    earlier None f lt = tt
    earlier (Some q) f lt = omega (arith, f q refl)

    old : slice_get (all_parents r.changesets) rev ≡ Some p → rev < length r.changesets → IsPhase (r.phases ++ x ∷ []) p (slice_index (r.phases ++ x ∷ []) rev)
    old g lt =
        let good = is.phases rev p g in
        let n : length r.phases ≡ length r.changesets = is.phase_count in
        let at : slice_index (r.phases ++ x ∷ []) rev ≡ slice_index r.phases rev = at-front r.phases x rev (omega arith) in
        let one : phase_at (r.phases ++ x ∷ []) p.0 ≡ phase_at r.phases p.0 = phase-front r.phases x p.0 (inside p.0 (earlier p.0 (λ q h. parent-before (all_parents r.changesets) is.parents rev q (p, g, inl h)) lt)) in
        let two : phase_at (r.phases ++ x ∷ []) p.1 ≡ phase_at r.phases p.1 = phase-front r.phases x p.1 (inside p.1 (earlier p.1 (λ q h. parent-before (all_parents r.changesets) is.parents rev q (p, g, inr h)) lt)) in
        record { most = omega (arith, at, good.most); first = omega (arith, at, one, good.first); second = omega (arith, at, two, good.second) }

    new : rev ≡ length r.changesets → c.parents ≡ p → IsPhase (r.phases ++ x ∷ []) p (slice_index (r.phases ++ x ∷ []) rev)
    new g same_it =
        let n : length r.phases ≡ length r.changesets = is.phase_count in
        let at : slice_index (r.phases ++ x ∷ []) rev ≡ x = at-end r.phases x rev (omega arith) in
        subst (λ (q : Parents). IsPhase (r.phases ++ x ∷ []) q (slice_index (r.phases ++ x ∷ []) rev)) same_it (record {
          most = omega arith;
          first = omega (arith, at, phase-front r.phases x c.parents.0 (inside c.parents.0 below.first));
          second = omega (arith, at, phase-front r.phases x c.parents.1 (inside c.parents.1 below.second));
        })

-- ---- paths in order

inserted-head : (z x : List ℕ) (ys : List (List ℕ)) → heads z ys ≡ true → is_below z x ≡ true → heads z (inserted x ys) ≡ true
inserted-head z x [] h b = b
inserted-head z x (y ∷ ys) h b = by (same x y) (is_below x y)
  where
    by : (p q : Bool) → heads z (cond p (y ∷ ys) (cond q (x ∷ y ∷ ys) (y ∷ inserted x ys))) ≡ true
    by true q = h
    by false true = b
    by false false = h

inserted-ordered : (x : List ℕ) (ys : List (List ℕ)) → ascends ys ≡ true → ascends (inserted x ys) ≡ true
inserted-ordered x [] a = refl
inserted-ordered x (y ∷ ys) a = by (inserted-ordered x ys (ascends-tail y ys a)) (same x y) (is_below x y) refl refl
  where
    by : ascends (inserted x ys) ≡ true → (p q : Bool) → same x y ≡ p → is_below x y ≡ q → ascends (cond p (y ∷ ys) (cond q (x ∷ y ∷ ys) (y ∷ inserted x ys))) ≡ true
    by rec true q e f = a
    by rec false true e f = and-both _ _ f a
    by rec false false e f = ascends-cons y (inserted x ys) (inserted-head y x ys (ascends-head y ys a) (below-or x y e f)) rec

pub in_order-ordered : (xs : List (List ℕ)) → ascends (in_order xs) ≡ true
in_order-ordered [] = refl
in_order-ordered (x ∷ xs) = inserted-ordered x (in_order xs) (in_order-ordered xs)

inserted-all : (P : List ℕ → Type 0) (x : List ℕ) (ys : List (List ℕ)) → P x → AllByRecursion P ys → AllByRecursion P (inserted x ys)
inserted-all P x [] p all = (p, tt)
inserted-all P x (y ∷ ys) p all = by (inserted-all P x ys p all.1) (same x y) (is_below x y)
  where
    by : AllByRecursion P (inserted x ys) → (a b : Bool) → AllByRecursion P (cond a (y ∷ ys) (cond b (x ∷ y ∷ ys) (y ∷ inserted x ys)))
    by rec true b = all
    by rec false true = (p, all)
    by rec false false = (all.0, rec)

pub in_order-all : (P : List ℕ → Type 0) (xs : List (List ℕ)) → AllByRecursion P xs → AllByRecursion P (in_order xs)
in_order-all P [] all = tt
in_order-all P (x ∷ xs) all = inserted-all P x (in_order xs) all.0 (in_order-all P xs all.1)

-- ---- tracked paths are lines

no-lf : (path : List ℕ) → list_any is_line_byte path ≡ false → Lacks 10 path
no-lf [] e = tt
no-lf (b ∷ path) e = by (b == 0) (b == 10) (b == 13) e (no-lf path)
  where
    by : (x y z : Bool) → ((x || y || z) || list_any is_line_byte path) ≡ false → (list_any is_line_byte path ≡ false → Lacks 10 path) → (y ≡ false) × Lacks 10 path
    by true y z h rec = never h
    by false true z h rec = never h
    by false false true h rec = never h
    by false false false h rec = (refl, rec h)

pub tracked-line : (path : List ℕ) → is_tracked path ≡ true → IsLineText path
tracked-line path e = by (nat_le 1 (length path)) refl (nat_le (length path) 1024) (list_any is_line_byte path) refl (list_any is_forbidden (components path)) e
  where
    by : (a : Bool) → nat_le 1 (length path) ≡ a → (b c : Bool) → list_any is_line_byte path ≡ c → (d : Bool) → (a && b && not c && not d) ≡ true → IsLineText path
    by true u b false v d h = record { some_byte = grind (arith, nat_tests); no_lf = no-lf path v }
    by true u true true v d h = never (sym h)
    by true u false true v d h = never (sym h)
    by false u b c v d h = never (sym h)

-- the files of every changeset so far have tracked paths
abbrev pub ArePlaced : List (List Placed) → Type 0
ArePlaced placed = AllByRecursion (λ files. AllByRecursion (λ (p : Placed). is_tracked p.path ≡ true) files) placed

paths-placed : (h : History) (c : Changeset) (tree : List TreeFile) → list_all is_tracked (tree_paths tree) ≡ true
    → AllByRecursion (λ (p : Placed). is_tracked p.path ≡ true) (map (λ (f : TreeFile). record { path = f.path; flag = f.flag; rev = rev_of_file h c f }) tree)
paths-placed h c [] e = tt
paths-placed h c (f ∷ tree) e = (and-left _ _ e, paths-placed h c tree (and-right (is_tracked f.path) _ e))

placed-from : (h : History) (changesets : List Changeset) → EachChangeset IsNextChangeset h changesets → ArePlaced h.placed → ArePlaced (history_from h changesets).placed
placed-from h [] each all = all
placed-from h (c ∷ changesets) each all = placed-from (with_changeset h c) changesets each.1 (all-push _ h.placed (placed_of h c) all (paths-placed h c c.tree each.0.paths))

pub placed-tracked : (r : Repo) → IsRepo r → ArePlaced (history r.changesets).placed
placed-tracked r is = placed-from no_history r.changesets is.changesets tt

placed_at-tracked : (h : History) (o : Option ℕ) → ArePlaced h.placed → AllByRecursion (λ (p : Placed). is_tracked p.path ≡ true) (placed_at h o)
placed_at-tracked h None all = tt
placed_at-tracked h (Some rev) all = at h.placed rev all
  where
    at : (xs : List (List Placed)) (i : ℕ) → ArePlaced xs → AllByRecursion (λ (p : Placed). is_tracked p.path ≡ true) (slice_index_or xs i [])
    at [] i a = tt
    at (x ∷ xs) zero a = a.0
    at (x ∷ xs) (suc i) a = at xs i a.1

filtered-paths : (f : TreeFile → Bool) (tree : List TreeFile) → list_all is_tracked (tree_paths tree) ≡ true → AllByRecursion (λ path. is_tracked path ≡ true) (tree_paths (filter f tree))
filtered-paths f [] e = tt
filtered-paths f (x ∷ tree) e = by (filtered-paths f tree (and-right (is_tracked x.path) _ e)) (f x)
  where
    by : AllByRecursion (λ path. is_tracked path ≡ true) (tree_paths (filter f tree)) → (b : Bool) → AllByRecursion (λ path. is_tracked path ≡ true) (tree_paths (cond b (x ∷ filter f tree) (filter f tree)))
    by rec true = (and-left _ _ e, rec)
    by rec false = rec

pub changed-lines : (h : History) (c : Changeset) → ArePlaced h.placed → list_all is_tracked (tree_paths c.tree) ≡ true → AllByRecursion IsLineText (changed_paths h c)
changed-lines h c placed e =
    in_order-all IsLineText _ (all-map (λ path. is_tracked path ≡ true) IsLineText _ tracked-line
    (all-join (λ path. is_tracked path ≡ true) _ (removed_paths h c) (filtered-paths (is_changed h c) c.tree e)
    (filter-all (λ path. is_tracked path ≡ true) _ _ (all-mapped (λ path. is_tracked path ≡ true) (λ (p : Placed). p.path) (placed_at h c.parents.0 ++ placed_at h c.parents.1)
    (all-join (λ (p : Placed). is_tracked p.path ≡ true) _ _ (placed_at-tracked h c.parents.0 placed) (placed_at-tracked h c.parents.1 placed))))))

-- ---- the new changeset

new-paths-same : (h : History) (parents : Parents) (files : List NewFile) → tree_paths (map (new_file h parents) files) ≡ new_paths files
new-paths-same h parents [] = refl
new-paths-same h parents (f ∷ files) = ap (λ l. f.path ∷ l) (new-paths-same h parents files)

kept-same : (log : List Revision) (a b : Option ℕ) (body : List ℕ) (rev : ℕ) → kept_of log a b body ≡ Some rev → body_of (text_at log rev) ≡ body
kept-same log None b body rev e = none-some rev e
kept-same log (Some a) (Some b) body rev e = none-some rev e
kept-same log (Some a) None body rev e = by (same (body_of (text_at log a)) body) refl e
  where
    by : (z : Bool) → same (body_of (text_at log a)) body ≡ z → cond z (Some a) None ≡ Some rev → body_of (text_at log rev) ≡ body
    by false s h = none-some rev h
    by true s h = ap (λ k. body_of (text_at log k)) (sym (some-same 0 a rev h)) ∙ same-eq (body_of (text_at log a)) body s

joined-text : (text body : List ℕ) → body_of text ≡ body → unpacked (prefix_of text ++ body) ≡ (prefix_of text, body)
joined-text text body e = subst (λ b. unpacked (prefix_of text ++ b) ≡ (prefix_of text, b)) e (ap unpacked (unpacked-joins text))

-- the source of a file can stand in a block
abbrev HasSource : NewFile → Type 0
HasSource f = IfSome f.from (λ path. is_source path ≡ true)

not-true : (b : Bool) → not b ≡ true → b ≡ false
not-true true e = sym e
not-true false e = refl

lines-of : (a b c d : Bool) → (a && b && not c && not d) ≡ true → c ≡ false
lines-of true true true d e = sym e
lines-of true true false d e = refl
lines-of true false c d e = never (sym e)
lines-of false b c d e = never (sym e)

fresh-unpacked : (h : History) (parents : Parents) (from : Option (List ℕ)) (body : List ℕ) → IfSome from (λ path. is_source path ≡ true) → unpacked (fresh_prefix h parents from body ++ body) ≡ (fresh_prefix h parents from body, body)
fresh-unpacked h parents None body good = unpacked-plain body
fresh-unpacked h parents (Some path) body good =
    unpacked-block (copy_block path (placed_node (h.filelog path) (source_file h parents path))) body
    (copy-block path (placed_node (h.filelog path) (source_file h parents path))
    (no-lf path (lines-of (nat_le 1 (length path)) (nat_le (length path) 1024) (list_any is_line_byte path) (list_any is_forbidden (components path)) (and-left (is_tracked path) _ good)))
    (not-true (ends_in 1 path) (and-right (is_tracked path) _ good)))

file-unpacked : (h : History) (parents : Parents) (f : NewFile) → HasSource f → unpacked (file_text (new_file h parents f)) ≡ ((new_file h parents f).prefix, (new_file h parents f).body)
file-unpacked h parents f good = by (kept h parents f.path f.body) refl
  where
    by : (o : Option ℕ) → kept h parents f.path f.body ≡ o → unpacked (new_prefix h parents f o ++ f.body) ≡ (new_prefix h parents f o, f.body)
    by None e = fresh-unpacked h parents f.from f.body good
    by (Some rev) e = joined-text (text_at (h.filelog f.path) rev) f.body (kept-same (h.filelog f.path) (file_parents h parents f.path).0 (file_parents h parents f.path).1 f.body rev e)

all-new : (h : History) (parents : Parents) (files : List NewFile) → AllByRecursion HasSource files → AllByRecursion (λ (f : TreeFile). unpacked (file_text f) ≡ (f.prefix, f.body)) (map (new_file h parents) files)
all-new h parents [] good = tt
all-new h parents (f ∷ files) good = (file-unpacked h parents f good.0, all-new h parents files good.1)

kept-prefixes : (h : History) (parents : Parents) (n : NewChange) (files : List NewFile) → AllByRecursion (HasKeptPrefix h (new_changeset h parents n)) (map (new_file h parents) files)
kept-prefixes h parents n [] = tt
kept-prefixes h parents n (f ∷ files) = (by (kept h parents f.path f.body), kept-prefixes h parents n files)
  where
    by : (o : Option ℕ) → IfSome o (λ rev. new_prefix h parents f o ≡ prefix_of (text_at (h.filelog f.path) rev))
    by None = tt
    by (Some rev) = refl

user-line : (user : List ℕ) → 1 ≤ length user → list_any (λ b. b == 0 || b == 10) user ≡ false → IsLineText user
user-line user le e = record { some_byte = grind (arith, nat_tests); no_lf = by user e }
  where
    by : (text : List ℕ) → list_any (λ b. b == 0 || b == 10) text ≡ false → Lacks 10 text
    by [] h = tt
    by (b ∷ text) h = step_on (b == 0) (b == 10) h (by text)
      where
        step_on : (x y : Bool) → ((x || y) || list_any (λ c. c == 0 || c == 10) text) ≡ false → (list_any (λ c. c == 0 || c == 10) text ≡ false → Lacks 10 text) → (y ≡ false) × Lacks 10 text
        step_on true y g rec = never g
        step_on false true g rec = never g
        step_on false false g rec = (refl, rec g)

-- extras of a branch are within a line
ends-lack : (name : List ℕ) → list_any is_name_end name ≡ false → Lacks 10 name
ends-lack [] e = tt
ends-lack (b ∷ name) e = by (b == 58) (b == 0) (b == 10) (b == 13) e (ends-lack name)
  where
    by : (x y z w : Bool) → ((x || y || z || w) || list_any is_name_end name) ≡ false → (list_any is_name_end name ≡ false → Lacks 10 name) → (z ≡ false) × Lacks 10 name
    by true y z w h rec = never h
    by false true z w h rec = never h
    by false false true w h rec = never h
    by false false false true h rec = never h
    by false false false false h rec = (refl, rec h)

mark-line : (name : List ℕ) → is_mark_name name ≡ true → Lacks 10 name
mark-line name e = ends-lack name (by (not (length name == 0)) (nat_le (length name) 255) (not (among name reserved_names)) (list_any is_name_end name) (not (list_all is_digit name)) (not (ends_in_space name)) (is_utf8 name) e)
  where
    by : (a b c d f g h : Bool) → (a && b && c && not d && f && g && h) ≡ true → d ≡ false
    by true true true true f g h k = sym k
    by true true true false f g h k = refl
    by true true false d f g h k = never (sym k)
    by true false c d f g h k = never (sym k)
    by false b c d f g h k = never (sym k)

branch-line : (o : Option (List ℕ)) → IfSome o (λ name. is_branch_name name ≡ true) → Lacks 10 (branch_extras o)
branch-line None good = tt
branch-line (Some name) good = (refl, (refl, (refl, (refl, (refl, (refl, (refl, mark-line name (and-left (is_mark_name name) _ (and-left (is_mark_name name && not (list_any (λ b. b == 92) name)) _ good)))))))))

new-spelled : (h : History) (parents : Parents) (n : NewChange) → ArePlaced h.placed → IsNewChange n → list_all is_tracked (tree_paths (new_changeset h parents n).tree) ≡ true → IsChange (changeset_text_value h (new_changeset h parents n))
new-spelled h parents n placed good paths = record {
  node = (node_at-node (manifest_with h (new_changeset h parents n)) (manifest_number h (new_changeset h parents n))).size;
  node_bytes = (node_at-node (manifest_with h (new_changeset h parents n)) (manifest_number h (new_changeset h parents n))).bytes;
  user = user-line n.user good.user_least good.user_line;
  seconds = good.seconds;
  offset = good.offset;
  extras = branch-line n.branch good.branch;
  files = changed-lines h (new_changeset h parents n) placed paths;
  ordered = in_order-ordered (tree_paths (filter (is_changed h (new_changeset h parents n)) (new_changeset h parents n).tree) ++ removed_paths h (new_changeset h parents n));
  texts = and-both _ _ (is_utf8-from_IsUtf8 n.user good.user_utf8) (is_utf8-from_IsUtf8 n.description good.description);
}

first-none : (a b : Option ℕ) → first_of a b ≡ None → b ≡ None
first-none None b e = e
first-none (Some x) b e = none-some x (sym e)

pub new-change-is-next : (r : Repo) (n : NewChange) (parents : Parents) → IsRepo r → IsNewChange n → nothing_changed r (new_changeset (history r.changesets) parents n) ≡ None → IsNextChangeset (history r.changesets) (new_changeset (history r.changesets) parents n)
new-change-is-next r n parents is good changed =
    let paths : list_all is_tracked (tree_paths (new_changeset (history r.changesets) parents n).tree) ≡ true = ap (list_all is_tracked) (new-paths-same (history r.changesets) parents n.files) ∙ good.paths in
    record {
      paths = paths;
      ordered = ap ascends (new-paths-same (history r.changesets) parents n.files) ∙ good.ordered;
      texts = all-new (history r.changesets) parents n.files good.sources;
      prefixes = kept-prefixes (history r.changesets) parents n n.files;
      spelled = new-spelled (history r.changesets) parents n (placed-tracked r is) good paths;
      other = first-none (unchanged_from r.changesets parents.0 parents.1 (new_changeset (history r.changesets) parents n).tree) _ changed;
    }

phase-le : (r : Repo) (c : Changeset) (n : NewChange) → IsRepo r → AreBelow (length r.changesets) c.parents → max (phase_number n.phase) (max (phase_at r.phases c.parents.0) (phase_at r.phases c.parents.1)) ≤ 2
phase-le r c n is below = omega (arith, most n.phase, at c.parents.0 below.first, at c.parents.1 below.second)
  where
    most : (phase : Phase) → phase_number phase ≤ 2
    most Public = omega arith
    most Draft = omega arith
    most Secret = omega arith

    at : (o : Option ℕ) → IfSome o (λ k. k < length r.changesets) → phase_at r.phases o ≤ 2
    at None h = omega arith
    at (Some k) h =
        let lt : k < length (all_parents r.changesets) = omega (arith, h, length-map r.changesets (λ (x : Changeset). x.parents)) in
        (is.phases k (get_or (all_parents r.changesets) k (None, None)) (slice_get-get_or (all_parents r.changesets) k (None, None) lt)).most

marks-push : (r : Repo) (o : Option (List ℕ)) → IsRepo r → ascends (map (λ (m : Bookmark). m.name) (with_optional_mark r.bookmarks o (length r.changesets))) ≡ true
marks-push r None is = is.marks_ordered
marks-push r (Some name) is = with_mark-ordered r.bookmarks name (length r.changesets) is.marks_ordered

marks-below : (r : Repo) (o : Option (List ℕ)) (k : ℕ) → k ≡ length r.changesets + 1 → IsRepo r → AllByRecursion (λ (m : Bookmark). m.rev < k) (with_optional_mark r.bookmarks o (length r.changesets))
marks-below r None k e is = all-map (λ (m : Bookmark). m.rev < length r.changesets) _ r.bookmarks (λ m lt. omega (arith, lt)) is.marks
marks-below r (Some name) k e is = with_mark-all (λ (m : Bookmark). m.rev < k) r.bookmarks name (length r.changesets) (all-map (λ (m : Bookmark). m.rev < length r.changesets) _ r.bookmarks (λ m lt. omega (arith, lt)) is.marks) (omega arith)

pub commit-keeps : (r : Repo) (n : NewChange) (next : Repo) (answer : Answer) → IsRepo r → IsNewChange n → step_commit r n ≡ Ok (next, answer) → IsRepo next
commit-keeps r n next answer is good e =
    let d = step_commit-did r n next answer is e in
    let c : Changeset = new_changeset (history r.changesets) d.parents n in
    let x : ℕ = max (phase_number n.phase) (max (phase_at r.phases d.parents.0) (phase_at r.phases d.parents.1)) in
    let len : length (r.changesets ++ c ∷ []) ≡ length r.changesets + 1 = length-append r.changesets (c ∷ []) in
    subst IsRepo (sym d.is) (record {
      parents = parents-push 0 r.changesets c is.parents (record { first = narrow (length r.changesets) d.parents.0 d.below.first; second = narrow (length r.changesets) d.parents.1 d.below.second });
      changesets = each-push IsNextChangeset no_history r.changesets c is.changesets (new-change-is-next r n d.parents is good d.changed);
      phase_count = length-append r.phases (x ∷ []) ∙ omega (arith, is.phase_count, len);
      phases = phases-push r c x is d.below (phase-le r c n is d.below) (omega arith) (omega arith);
      marks_ordered = marks-push r n.bookmark is;
      marks = marks-below r n.bookmark _ len is;
      first_working = omega (arith, len);
      second_working = tt;
    })
  where
    narrow : (n : ℕ) (o : Option ℕ) → IfSome o (λ a. a < n) → IfSome o (λ a. a < 0 + n)
    narrow n None h = tt
    narrow n (Some a) h = omega arith

-- ---- an import

pub steps-keep : (next : Next) (changes : List NewChange) (done : Repo) (answer : Answer) → IsRepo next.0 → AllByRecursion IsNewChange changes → steps_from next changes ≡ Ok (done, answer) → IsRepo done
steps-keep next [] done answer is good e = subst IsRepo (ap (λ (p : Next). p.0) (ok-same next next (done, answer) e)) is
steps-keep next (n ∷ changes) done answer is good e = by (λ after it h. steps-keep after changes done answer it good.1 h) (step_commit next.0 n) refl e
  where
    by : ((after : Next) → IsRepo after.0 → steps_from after changes ≡ Ok (done, answer) → IsRepo done) → (o : Result Next Refusal) → step_commit next.0 n ≡ o → (o >>= λ after. steps_from after changes) ≡ Ok (done, answer) → IsRepo done
    by rec (Err w) c h = err-ok w (done, answer) h
    by rec (Ok after) c h = rec after (commit-keeps next.0 n after.0 after.1 is good.0 c) h

pub import-keeps : (r : Repo) (changes : List NewChange) (done : Repo) (answer : Answer) → IsRepo r → AllByRecursion IsNewChange changes → step_import r changes ≡ Ok (done, answer) → IsRepo done
import-keeps r [] done answer is good e = err-ok (NothingChanged 0) (done, answer) e
import-keeps r (n ∷ changes) done answer is good e = steps-keep (r, record { rev = 0; node = [] }) (n ∷ changes) done answer is good e
