-- The tree after a commit or an import stands for the next repository.
use Rattle.std.proofs.Common.{◌≡◌, ◌⊎◌, ℕ, zero, suc, ◌≤◌, List, [], ◌∷◌, ◌++◌, Bool, true, false, cond, ◌&&◌, ◌||◌, not, length, drop, map, refl, sym, ◌∙◌, ap, subst, inl, inr, arith, append-nil, length-append}
use Rattle.std.specs.Prelude.{Option, Ok, flat_map, unwrap_or}
use Rattle.std.specs.List.{AllByRecursion, list_all}
use Rattle.hgs_bytes.specs.Bytes.{IsPrefixOf, same, among, is_below}
use Rattle.hgs_bytes.specs.Text.{ascends, line, lines_of}
use Rattle.hgs_bytes.specs.Theorems.ByteLemmas.{same-refl, same-eq}
use Rattle.hgs_files.specs.declared.op.Op.{Op}
use Rattle.hgs_files.specs.declared.op.Op.TheVariants.{Append}
use Rattle.hgs_files.specs.Tree.{Tree, bytes_at}
use Rattle.hgs_index.specs.Revision.{ParentsBefore, Revision}
use Rattle.hgs_index.specs.Either.{chunk_bytes}
use Rattle.hgs_index.specs.Inline.{is_inline}
use Rattle.hgs_index.specs.Revlog.{Holds, HoldsRevisions, Item}
use Rattle.hgs_index.specs.Theorems.EitherLemmas.{held-form, separate-holds}
use Rattle.hgs_index.specs.TrackedPath.{is_tracked}
use Rattle.hgs_model.specs.History.{EachChangeset, History, history, history_from, in_order, inserted, no_history, parents_in, uses, with_changeset}
use Rattle.hgs_model.specs.IsRepo.{IsNextChangeset, IsRepo}
use Rattle.hgs_model.specs.Repo.{Changeset, Repo, TreeFile, tree_at, tree_paths}
use Rattle.hgs_model.specs.Theorems.BeforeLemmas.{before, changelog-parents}
use Rattle.hgs_model.specs.Theorems.CountLemmas.{length-placed, sound, unused-empty, unused-from}
use Rattle.hgs_model.specs.Theorems.HistoryLemmas.{Extends, history_from-append, history_from-extends, length-changelog}
use Rattle.hgs_model.specs.Theorems.ListLemmas.{all-join}
use Rattle.hgs_model.specs.Theorems.NewChangesetLemmas.{in_order-ordered}
use Rattle.hgs_path.specs.declared.name.Ext.{Ext}
use Rattle.hgs_path.specs.declared.name.Ext.TheVariants.{I, D}
use Rattle.hgs_path.specs.Fncache.{clashes, lists}
use Rattle.hgs_path.specs.ListedNames.{is_listed, names_of}
use Rattle.hgs_path.specs.StoreName.{listed_name, store_name}
use Rattle.hgs_stands.specs.Places.{requires_path, fncache_path, changelog_index, changelog_data, manifest_index, manifest_data}
use Rattle.hgs_stands.specs.Stands.{HoldsAt, has_file, IsUsedName, ListsFilelogs, Stands, listed_file}
use Rattle.hgs_stands.specs.Theorems.FormLemmas.{changelog-plain, manifest-plain, plain-held}
use Rattle.hgs_stands.specs.Theorems.StayLemmas.{holds-stays, names-listed}
use Rattle.hgs_ops.specs.Growth.{append_some, appended, appends_at, begins_inline, filelogs_grow, grown, grows_inline, growth, growth_of, is_part, new_changelog_entry, new_chunks, new_data, new_entries, new_items, new_names, new_paths}
use Rattle.hgs_ops.specs.Replaced.{roots_of}
use Rattle.hgs_revlog.specs.Load.{most_data, most_text}
use Rattle.hgs_ops.specs.Unhindered.{AreNewRevisions, HavePlaces, IsUnhindered}
use Rattle.hgs_ops.specs.Theorems.Touch.{bytes-same, touched, touched-append, appended-append, appended-none, bool, never, and-left, and-right, same-sym}
use Rattle.hgs_ops.specs.Theorems.Apart.{fixed, among-part, lines-fixed, stores-fixed}
use Rattle.hgs_ops.specs.Theorems.GrowLemmas.{FitAfter, GrownHeld, drop-front, grown-more, held-growing, held-new, none-held, own-form}
use Rattle.hgs_ops.specs.Theorems.LinkLemmas.{LinkedBelow, linked, linked-behind}
use Rattle.hgs_ops.specs.Theorems.CommitTree.{quiet, is_quiet, CommitLeaves}
use Rattle.hgs_ops.specs.Theorems.FileGrowth.{added, form, filelogs-touched, filelogs-not, filelogs-among, AreNot, AreOthers, appended-some, touched-some, grown-touched, grown-index, grown-data}
use Rattle.hgs_ops.specs.Theorems.NameLines.{among-left, among-right, lines-all, names-added, new-line, store-or}

-- ---- paths in order

or-idem : (a b : Bool) → (a || b) ≡ (a || (a || b))
or-idem true b = refl
or-idem false b = refl

or-swap : (a b d : Bool) → (a || (b || d)) ≡ (b || (a || d))
or-swap true true d = refl
or-swap true false d = refl
or-swap false b d = refl

same-flip : (p q : List ℕ) → same p q ≡ true → same q p ≡ true
same-flip p q e = ap (λ z. same z p) (sym (same-eq p q e)) ∙ same-refl p

or-false : (b : Bool) → (b || false) ≡ b
or-false true = refl
or-false false = refl

among-inserted : (p x : List ℕ) (ys : List (List ℕ)) → among p (inserted x ys) ≡ (same p x || among p ys)
among-inserted p x [] = refl
among-inserted p x (y ∷ ys) = by (among-inserted p x ys) (same x y) refl (is_below x y)
  where
    by : among p (inserted x ys) ≡ (same p x || among p ys) → (a : Bool) → same x y ≡ a → (b : Bool) → among p (cond a (y ∷ ys) (cond b (x ∷ y ∷ ys) (y ∷ inserted x ys))) ≡ (same p x || (same p y || among p ys))
    by rec true e b = or-idem (same p y) (among p ys) ∙ ap (λ z. same p z || (same p y || among p ys)) (sym (same-eq x y e))
    by rec false e true = refl
    by rec false e false = ap (λ z. same p y || z) rec ∙ or-swap (same p y) (same p x) (among p ys)

pub among-in_order : (p : List ℕ) (xs : List (List ℕ)) → among p (in_order xs) ≡ among p xs
among-in_order p [] = refl
among-in_order p (x ∷ xs) = among-inserted p x (in_order xs) ∙ ap (λ z. same p x || z) (among-in_order p xs)

among-nil : (p : List ℕ) (xs : List (List ℕ)) → among p (xs ++ []) ≡ among p xs
among-nil p xs = ap (among p) (append-nil xs)

pub others-from : (q : List ℕ) (paths : List (List ℕ)) → ((o : List ℕ) → among o paths ≡ true → clashes o q ≡ false) → AreOthers q paths
others-from q [] e = tt
others-from q (o ∷ paths) e = (
  by (same q o) (same o q) (same-flip q o) (same (store_name q I) (store_name o I)) (same (store_name q D) (store_name o D)) (same-sym (store_name q I) (store_name o I)) (same-sym (store_name q D) (store_name o D)) (e o (ap (λ z. z || among o paths) (same-refl o))),
  others-from q paths (λ x a. e x (more (same x o) (among x paths) a)),
)
  where
    more : (z w : Bool) → w ≡ true → (z || w) ≡ true
    more true w g = refl
    more false w g = g

    by : (a z : Bool) → (a ≡ true → z ≡ true) → (b d : Bool) → (b ≡ false → same (store_name o I) (store_name q I) ≡ false) → (d ≡ false → same (store_name o D) (store_name q D) ≡ false) → (not a && (b || d)) ≡ false
        → (z ≡ true) ⊎ ((same (store_name o I) (store_name q I) ≡ false) × (same (store_name o D) (store_name q D) ≡ false))
    by true z g b d f1 f2 h = inl (g refl)
    by false z g true d f1 f2 h = never h
    by false z g false true f1 f2 h = never h
    by false z g false false f1 f2 h = inr (f1 refl, f2 refl)

same-swap : (p q : List ℕ) → same p q ≡ same q p
same-swap p q = by (bool (same p q))
  where
    by : (same p q ≡ true) ⊎ (same p q ≡ false) → same p q ≡ same q p
    by (inl e) = e ∙ sym (same-flip p q e)
    by (inr e) = e ∙ sym (same-sym p q e)

pub clashes-flip : (p q : List ℕ) → clashes p q ≡ false → clashes q p ≡ false
clashes-flip p q e = (λ i. not (same-swap p q i) && (same-swap (store_name p I) (store_name q I) i || same-swap (store_name p D) (store_name q D) i)) ∙ e

pub not-fixed : (a p : List ℕ) → among p fixed ≡ true → among a fixed ≡ false → same a p ≡ false
not-fixed a p e f = elim (bool (same a p)) [
  | inl h ↦ never (sym e ∙ ap (λ z. among z fixed) (sym (same-eq a p h)) ∙ f)
  | inr h ↦ h
]

pub not-stores : (p : List ℕ) → among p fixed ≡ true → (paths : List (List ℕ)) → AreNot p paths
not-stores p e [] = tt
not-stores p e (q ∷ paths) = ((not-fixed (store_name q I) p e (stores-fixed q I), not-fixed (store_name q D) p e (stores-fixed q D)), not-stores p e paths)

-- ---- the paths of the new changesets

among-joined : (p : List ℕ) (xs ys : List (List ℕ)) → among p (xs ++ ys) ≡ (among p xs || among p ys)
among-joined p [] ys = refl
among-joined p (x ∷ xs) ys = by (same p x) (among-joined p xs ys)
  where
    by : (b : Bool) → among p (xs ++ ys) ≡ (among p xs || among p ys) → (b || among p (xs ++ ys)) ≡ ((b || among p xs) || among p ys)
    by true e = refl
    by false e = e

pub among-trees : (p : List ℕ) (changesets : List Changeset) → among p (flat_map (λ c. tree_paths c.tree) changesets) ≡ uses changesets p
among-trees p [] = refl
among-trees p (c ∷ changesets) = among-joined p (tree_paths c.tree) (flat_map (λ x. tree_paths x.tree) changesets) ∙ ap (λ b. among p (tree_paths c.tree) || b) (among-trees p changesets)

pub uses-joined : (xs ys : List Changeset) (p : List ℕ) → uses (xs ++ ys) p ≡ (uses xs p || uses ys p)
uses-joined [] ys p = refl
uses-joined (c ∷ xs) ys p = ap (λ b. among p (tree_paths c.tree) || b) (uses-joined xs ys p) ∙ or-assoc (among p (tree_paths c.tree)) (uses xs p) (uses ys p)
  where
    or-assoc : (a b d : Bool) → (a || (b || d)) ≡ ((a || b) || d)
    or-assoc true b d = refl
    or-assoc false b d = refl

tracked-path : (tree : List TreeFile) → list_all is_tracked (tree_paths tree) ≡ true → (q : List ℕ) → among q (tree_paths tree) ≡ true → is_tracked q ≡ true
tracked-path [] e q a = never (sym a)
tracked-path (x ∷ tree) e q a = by (bool (same q x.path)) (λ g. tracked-path tree (and-right (is_tracked x.path) _ e) q g)
  where
    by : (same q x.path ≡ true) ⊎ (same q x.path ≡ false) → (among q (tree_paths tree) ≡ true → is_tracked q ≡ true) → is_tracked q ≡ true
    by (inl g) rec = ap is_tracked (same-eq q x.path g) ∙ and-left _ _ e
    by (inr g) rec = rec (sym (ap (λ z. z || among q (tree_paths tree)) g) ∙ a)

-- a path that changesets of a history use is tracked
used-tracked : (h : History) (changesets : List Changeset) → EachChangeset IsNextChangeset h changesets → (q : List ℕ) → uses changesets q ≡ true → is_tracked q ≡ true
used-tracked h [] each q e = never (sym e)
used-tracked h (c ∷ changesets) each q e = by (bool (among q (tree_paths c.tree))) (λ g. used-tracked (with_changeset h c) changesets each.1 q g)
  where
    by : (among q (tree_paths c.tree) ≡ true) ⊎ (among q (tree_paths c.tree) ≡ false) → (uses changesets q ≡ true → is_tracked q ≡ true) → is_tracked q ≡ true
    by (inl g) rec = tracked-path c.tree each.0.paths q g
    by (inr g) rec = rec (sym (ap (λ z. z || uses changesets q) g) ∙ e)

-- and the tree of each of them has tracked paths
pub trees-tracked : (h : History) (changesets : List Changeset) → EachChangeset IsNextChangeset h changesets → (rev : ℕ) → list_all is_tracked (tree_paths (tree_at changesets rev)) ≡ true
trees-tracked h [] each rev = refl
trees-tracked h (c ∷ changesets) each zero = each.0.paths
trees-tracked h (c ∷ changesets) each (suc rev) = trees-tracked (with_changeset h c) changesets each.1 rev

-- What is known of a commit or an import that is done in a tree.
pub record GrowthFacts (t : Tree) (r next : Repo) : Type 0 where
  pub stands : Stands t r
  pub repository : IsRepo next
  pub goes_on : IsPrefixOf r.changesets next.changesets
  pub un : IsUnhindered t r next

module _ (t : Tree) (r next : Repo) (f : GrowthFacts t r next) (u : Tree) (rc bk : Bool) (dirstate marks : List ℕ)
    (leaves : CommitLeaves t u rc bk (roots_of next) dirstate marks (growth t r next) (Append changelog_index (new_changelog_entry t r next))) where
  abbrev h : History
  h = history r.changesets

  abbrev k : History
  k = history next.changesets

  abbrev paths : List (List ℕ)
  paths = new_paths r next

  -- the new changesets
  abbrev news : List Changeset
  news = f.goes_on.0

  dropped : drop (length r.changesets) next.changesets ≡ news
  dropped = ap (drop (length r.changesets)) f.goes_on.1 ∙ drop-front r.changesets news

  pub grown-by : k ≡ history_from h news
  grown-by = ap history f.goes_on.1 ∙ history_from-append no_history r.changesets news

  pub extends : Extends h k
  extends = subst (Extends h) (sym grown-by) (history_from-extends h news)

  pub among-paths : (p : List ℕ) → among p paths ≡ uses news p
  among-paths p = ap (λ (l : List Changeset). among p (in_order (flat_map (λ x. tree_paths x.tree) l))) dropped ∙ among-in_order p (flat_map (λ x. tree_paths x.tree) news) ∙ among-trees p news

  pub paths-ascend : ascends paths ≡ true
  paths-ascend = in_order-ordered (flat_map (λ x. tree_paths x.tree) (drop (length r.changesets) next.changesets))

  pub uses-next : (p : List ℕ) → uses next.changesets p ≡ (uses r.changesets p || among p paths)
  uses-next p = ap (λ (l : List Changeset). uses l p) f.goes_on.1 ∙ uses-joined r.changesets news p ∙ ap (λ z. uses r.changesets p || z) (sym (among-paths p))

  pub paths-used : (q : List ℕ) → among q paths ≡ true → uses next.changesets q ≡ true
  paths-used q e = uses-next q ∙ ap (λ z. uses r.changesets q || z) e ∙ or-true (uses r.changesets q)
    where
      or-true : (b : Bool) → (b || true) ≡ true
      or-true true = refl
      or-true false = refl

  pub used-or : (p : List ℕ) → uses next.changesets p ≡ true → among p paths ≡ false → uses r.changesets p ≡ true
  used-or p e g = sym (or-false (uses r.changesets p)) ∙ ap (λ z. uses r.changesets p || z) (sym g) ∙ sym (uses-next p) ∙ e

  pub others : (q : List ℕ) → uses next.changesets q ≡ true → AreOthers q paths
  others q e = others-from q paths (λ o a. f.un.names o q a e)

  -- there are not too many changesets, and so not too many revisions
  few-changes : length k.placed ≤ 1000000
  few-changes = let n1 : length k.placed ≡ length next.changesets = length-placed next.changesets in let n3 : length next.changesets ≤ 1000000 = f.un.room.changesets in omega arith

  -- the numbers of the new revisions of one list have room
  fit-more : (offset : ℕ) (old all new : List Revision) → all ≡ old ++ new → length all ≤ length k.placed → LinkedBelow (length k.placed) all → ParentsBefore 0 (parents_in all) → AreNewRevisions old all → HavePlaces offset old all → FitAfter offset old new
  fit-more offset old all new e count links before fresh places = record {
    places = subst (λ (l : List Revision). AllByRecursion (λ (i : Item). i.entry.offset ≤ most_data) (new_items offset old l)) (ap (drop (length old)) e ∙ drop-front old new) places;
    count = let n = few-changes in omega (arith, n, ap length e, length-append old new);
    texts = subst (AllByRecursion (λ (x : Revision). length x.text ≤ most_text)) (ap (drop (length old)) e ∙ drop-front old new) fresh.texts;
    links = linked-behind (length k.placed) 1000000 old all new few-changes e links;
    before = subst (λ l. ParentsBefore 0 (map (λ (x : Revision). x.parents) l)) e before;
  }

  -- the four parts of the growth
  abbrev fl : List Op
  fl = filelogs_grow t h.filelog k.filelog paths

  abbrev new_lines : List (List ℕ)
  new_lines = new_names h.filelog k.filelog paths

  abbrev fn : List Op
  fn = append_some fncache_path (flat_map line new_lines)

  abbrev mf : List Op
  mf = grown false t manifest_index manifest_data h.manifest k.manifest

  abbrev cl : List Op
  cl = append_some changelog_data (new_chunks (new_items (length (bytes_at t changelog_data)) h.changelog (drop (length h.changelog) k.changelog)))

  abbrev all_growth : List Op
  all_growth = fl ++ fn ++ mf ++ cl

  pub growth-is : growth t r next ≡ all_growth
  growth-is = refl

  four : (p : List ℕ) → appended p all_growth ≡ ((appended p fl ++ appended p fn) ++ appended p mf) ++ appended p cl
  four p = appended-append p (fl ++ fn ++ mf) cl ∙ ap (λ l. l ++ appended p cl) (appended-append p (fl ++ fn) mf ∙ ap (λ l. l ++ appended p mf) (appended-append p fl fn))

  -- a path that isn't one of the store's own
  abbrev Other : List ℕ → Type 0
  Other p = (same fncache_path p ≡ false) × (same manifest_index p ≡ false) × (same manifest_data p ≡ false) × (same changelog_data p ≡ false)

  pub rest-touched : (p : List ℕ) → Other p → touched p fl ≡ false → touched p all_growth ≡ false
  rest-touched p o e = touched-append p (fl ++ fn ++ mf) cl (touched-append p (fl ++ fn) mf (touched-append p fl fn e (touched-some p fncache_path _ o.0)) (grown-touched false t manifest_index manifest_data p h.manifest k.manifest o.1 o.2)) (touched-some p changelog_data _ o.3)

  pub store-other : (q : List ℕ) (ext : Ext) → Other (store_name q ext)
  store-other q ext = (flip fncache_path refl, flip manifest_index refl, flip manifest_data refl, flip changelog_data refl)
    where
      flip : (p : List ℕ) → among p fixed ≡ true → same p (store_name q ext) ≡ false
      flip p e = same-sym (store_name q ext) p (not-fixed (store_name q ext) p e (stores-fixed q ext))

  pub store-loud : (q : List ℕ) (ext : Ext) → is_quiet (store_name q ext) ≡ false
  store-loud q ext = among-part quiet fixed (store_name q ext) refl (stores-fixed q ext)

  not-published : (p : List ℕ) → same changelog_index p ≡ false → appends_at p (Append changelog_index (new_changelog_entry t r next)) ≡ []
  not-published p e = ap (λ b. cond b (new_changelog_entry t r next) []) e

  pub store-published : (q : List ℕ) (ext : Ext) → same changelog_index (store_name q ext) ≡ false
  store-published q ext = same-sym (store_name q ext) changelog_index (not-fixed (store_name q ext) changelog_index refl (stores-fixed q ext))

  only-first : (p : List ℕ) → Other p → appended p all_growth ≡ appended p fl
  only-first p o =
      four p ∙ ap (λ l. ((appended p fl ++ l) ++ appended p mf) ++ appended p cl) (appended-none fn p (touched-some p fncache_path _ o.0))
      ∙ ap (λ l. ((appended p fl ++ []) ++ l) ++ appended p cl) (appended-none mf p (grown-touched false t manifest_index manifest_data p h.manifest k.manifest o.1 o.2))
      ∙ ap (λ l. ((appended p fl ++ []) ++ []) ++ l) (appended-none cl p (touched-some p changelog_data _ o.3))
      ∙ append-nil ((appended p fl ++ []) ++ []) ∙ append-nil (appended p fl ++ []) ∙ append-nil (appended p fl)

  -- the bytes of a store name of a path of the new changesets
  store-bytes : (q : List ℕ) (ext : Ext) → bytes_at u (store_name q ext) ≡ bytes_at t (store_name q ext) ++ appended (store_name q ext) all_growth
  store-bytes q ext =
      leaves.bytes (store_name q ext) (store-loud q ext)
      ∙ ap (λ l. (bytes_at t (store_name q ext) ++ appended (store_name q ext) all_growth) ++ l) (not-published (store_name q ext) (store-published q ext))
      ∙ append-nil (bytes_at t (store_name q ext) ++ appended (store_name q ext) all_growth)

  -- ---- the filelogs

  -- the form in which a filelog grows
  abbrev form_of : List ℕ → Bool
  form_of q = form t h.filelog k.filelog q

  -- in this form it holds what it has
  pub old-held : (q : List ℕ) → among q paths ≡ true → Holds (form_of q) (bytes_at t (store_name q I)) (bytes_at t (store_name q D)) (h.filelog q)
  old-held q e = elim (bool (uses r.changesets q)) [
    | inl used ↦ held-growing (bytes_at t (store_name q I)) (bytes_at t (store_name q D)) (h.filelog q) (k.filelog q) (f.stands.revlogs.filelogs q used)
    | inr none ↦ subst (λ (old : List Revision). Holds (grows_inline (bytes_at t (store_name q I)) old (k.filelog q)) (bytes_at t (store_name q I)) (bytes_at t (store_name q D)) old) (sym (unused-empty r.changesets q none))
        (subst (λ x. Holds (begins_inline (k.filelog q)) x (bytes_at t (store_name q D)) []) (sym (f.un.free q I e none refl)) (held-new (begins_inline (k.filelog q)) (bytes_at t (store_name q D)) (f.un.free q D e none)))
  ]

  pub file-fits : (q : List ℕ) → among q paths ≡ true → FitAfter (length (chunk_bytes (form_of q) (bytes_at t (store_name q I)) (bytes_at t (store_name q D)))) (h.filelog q) (extends.filelogs q).0
  file-fits q e = fit-more (length (chunk_bytes (form_of q) (bytes_at t (store_name q I)) (bytes_at t (store_name q D)))) (h.filelog q) (k.filelog q) _ (extends.filelogs q).1 ((sound next f.repository).filelog_count q) ((linked next.changesets).filelogs q) ((before next f.repository).filelogs q) (f.un.filelogs q) (f.un.room.filelogs q e)

  file-grown : (q : List ℕ) → among q paths ≡ true → GrownHeld (form_of q) (bytes_at t (store_name q I)) (bytes_at t (store_name q D)) (h.filelog q) (k.filelog q)
  file-grown q e = grown-more (form_of q) _ _ (h.filelog q) (k.filelog q) (extends.filelogs q).0 (old-held q e) (extends.filelogs q).1 (file-fits q e) (f.un.filelogs q).different (f.un.filelogs q).not_null

  -- a filelog that is still empty is not inline
  plain-empty : (q : List ℕ) → k.filelog q ≡ [] → form_of q ≡ false
  plain-empty q e = by (h.filelog q) (extends.filelogs q)
    where
      by : (old : List Revision) → IsPrefixOf old (k.filelog q) → grows_inline (bytes_at t (store_name q I)) old (k.filelog q) ≡ false
      by [] more = ap begins_inline e
      by (x ∷ old) more = no (sym e ∙ more.1)
        where
          no : {A : Type 0} → [] ≡ (x ∷ old) ++ more.0 → A
          no g = cc

  -- what is appended to a filelog of the new changesets, and its bytes
  pub file-index-grows : (q : List ℕ) → uses next.changesets q ≡ true → among q paths ≡ true → appended (store_name q I) all_growth ≡ new_entries (form_of q) (h.filelog q) (added (form_of q) t (store_name q I) (store_name q D) (h.filelog q) (k.filelog q))
  file-index-grows q used e = only-first (store_name q I) (store-other q I) ∙ (filelogs-among t h.filelog k.filelog paths q (others q used) paths-ascend e).0

  pub file-data-grows : (q : List ℕ) → uses next.changesets q ≡ true → among q paths ≡ true → appended (store_name q D) all_growth ≡ new_data (form_of q) (added (form_of q) t (store_name q I) (store_name q D) (h.filelog q) (k.filelog q))
  file-data-grows q used e = only-first (store_name q D) (store-other q D) ∙ (filelogs-among t h.filelog k.filelog paths q (others q used) paths-ascend e).1

  pub file-index-bytes : (q : List ℕ) → uses next.changesets q ≡ true → among q paths ≡ true
      → bytes_at u (store_name q I) ≡ bytes_at t (store_name q I) ++ new_entries (form_of q) (h.filelog q) (added (form_of q) t (store_name q I) (store_name q D) (h.filelog q) (k.filelog q))
  file-index-bytes q used e = store-bytes q I ∙ ap (λ l. bytes_at t (store_name q I) ++ l) (file-index-grows q used e)

  pub file-data-bytes : (q : List ℕ) → uses next.changesets q ≡ true → among q paths ≡ true
      → bytes_at u (store_name q D) ≡ bytes_at t (store_name q D) ++ new_data (form_of q) (added (form_of q) t (store_name q I) (store_name q D) (h.filelog q) (k.filelog q))
  file-data-bytes q used e = store-bytes q D ∙ ap (λ l. bytes_at t (store_name q D) ++ l) (file-data-grows q used e)

  -- and of one that is of none of them
  pub file-stays : (q : List ℕ) → AreOthers q paths → among q paths ≡ false → (ext : Ext) → bytes_at u (store_name q ext) ≡ bytes_at t (store_name q ext)
  file-stays q apart e ext = bytes-same t u (store_name q ext) (leaves.others (store_name q ext) (store-loud q ext) (rest-touched (store_name q ext) (store-other q ext) (untouched-file ext)) (store-published q ext))
    where
      untouched-file : (x : Ext) → touched (store_name q x) fl ≡ false
      untouched-file I = (filelogs-not t h.filelog k.filelog paths q apart e).0
      untouched-file D = (filelogs-not t h.filelog k.filelog paths q apart e).1

  -- the filelog of a path that they do not use
  pub file-old : (q : List ℕ) → among q paths ≡ false → k.filelog q ≡ h.filelog q
  file-old q e = ap (λ (x : History). x.filelog q) grown-by ∙ unused-from h news q (sym (among-paths q) ∙ e)

  -- what a filelog of the new changesets holds behind the transaction, in the form in which it grew
  pub grown-held : (q : List ℕ) → uses next.changesets q ≡ true → among q paths ≡ true → Holds (form_of q) (bytes_at u (store_name q I)) (bytes_at u (store_name q D)) (k.filelog q)
  grown-held q used e =
      subst (λ x. Holds (form_of q) x (bytes_at u (store_name q D)) (k.filelog q)) (sym (file-index-bytes q used e))
      (subst (λ y. Holds (form_of q) (bytes_at t (store_name q I) ++ new_entries (form_of q) (h.filelog q) (added (form_of q) t (store_name q I) (store_name q D) (h.filelog q) (k.filelog q))) y (k.filelog q)) (sym (file-data-bytes q used e)) (file-grown q e))

  pub filelog-stands : (q : List ℕ) → uses next.changesets q ≡ true → HoldsAt u (store_name q I) (store_name q D) (k.filelog q)
  filelog-stands q used = elim (bool (among q paths)) [
    | inl e ↦ own-form (form_of q) _ _ (k.filelog q) (plain-empty q) (grown-held q used e)
    | inr e ↦
        subst (HoldsAt u (store_name q I) (store_name q D)) (sym (file-old q e))
        (holds-stays t u (store_name q I) (store_name q D) (h.filelog q) (file-stays q (others q used) e I) (file-stays q (others q used) e D) (f.stands.revlogs.filelogs q (used-or q used e)))
  ]

  -- ---- the manifest and the changelog

  pub manifest-index-grows : appended manifest_index all_growth ≡ new_entries false h.manifest (new_items (length (bytes_at t manifest_data)) h.manifest (drop (length h.manifest) k.manifest))
  manifest-index-grows =
      four manifest_index
      ∙ ap (λ l. ((l ++ appended manifest_index fn) ++ appended manifest_index mf) ++ appended manifest_index cl) (appended-none fl manifest_index (filelogs-touched t h.filelog k.filelog paths manifest_index (not-stores manifest_index refl paths)))
      ∙ ap (λ l. (l ++ appended manifest_index mf) ++ appended manifest_index cl) (appended-none fn manifest_index (touched-some manifest_index fncache_path _ refl))
      ∙ ap (λ l. appended manifest_index mf ++ l) (appended-none cl manifest_index (touched-some manifest_index changelog_data _ refl))
      ∙ append-nil (appended manifest_index mf) ∙ grown-index false t manifest_index manifest_data h.manifest k.manifest refl

  pub manifest-index-bytes : bytes_at u manifest_index ≡ bytes_at t manifest_index ++ new_entries false h.manifest (new_items (length (bytes_at t manifest_data)) h.manifest (drop (length h.manifest) k.manifest))
  manifest-index-bytes =
      leaves.bytes manifest_index refl ∙ append-nil _
      ∙ ap (λ l. bytes_at t manifest_index ++ l) manifest-index-grows

  pub manifest-data-grows : appended manifest_data all_growth ≡ new_chunks (new_items (length (bytes_at t manifest_data)) h.manifest (drop (length h.manifest) k.manifest))
  manifest-data-grows =
      four manifest_data
      ∙ ap (λ l. ((l ++ appended manifest_data fn) ++ appended manifest_data mf) ++ appended manifest_data cl) (appended-none fl manifest_data (filelogs-touched t h.filelog k.filelog paths manifest_data (not-stores manifest_data refl paths)))
      ∙ ap (λ l. (l ++ appended manifest_data mf) ++ appended manifest_data cl) (appended-none fn manifest_data (touched-some manifest_data fncache_path _ refl))
      ∙ ap (λ l. appended manifest_data mf ++ l) (appended-none cl manifest_data (touched-some manifest_data changelog_data _ refl))
      ∙ append-nil (appended manifest_data mf) ∙ grown-data false t manifest_index manifest_data h.manifest k.manifest refl

  pub manifest-data-bytes : bytes_at u manifest_data ≡ bytes_at t manifest_data ++ new_chunks (new_items (length (bytes_at t manifest_data)) h.manifest (drop (length h.manifest) k.manifest))
  manifest-data-bytes =
      leaves.bytes manifest_data refl ∙ append-nil _
      ∙ ap (λ l. bytes_at t manifest_data ++ l) manifest-data-grows

  pub manifest-separate : HoldsRevisions (bytes_at t manifest_index) (bytes_at t manifest_data) h.manifest
  manifest-separate = plain-held (bytes_at t manifest_index) (bytes_at t manifest_data) h.manifest (manifest-plain t f.un.separate) f.stands.revlogs.manifest

  pub manifest-fits : FitAfter (length (bytes_at t manifest_data)) h.manifest extends.manifest.0
  manifest-fits = fit-more (length (bytes_at t manifest_data)) h.manifest k.manifest _ extends.manifest.1 (sound next f.repository).manifest_count (linked next.changesets).manifest (before next f.repository).manifest f.un.manifest f.un.room.manifest

  manifest-grown : GrownHeld false (bytes_at t manifest_index) (bytes_at t manifest_data) h.manifest k.manifest
  manifest-grown = grown-more false _ _ h.manifest k.manifest extends.manifest.0 manifest-separate extends.manifest.1 manifest-fits f.un.manifest.different f.un.manifest.not_null

  pub manifest-stands : HoldsAt u manifest_index manifest_data k.manifest
  manifest-stands =
      separate-holds _ _ k.manifest
      (subst (λ x. HoldsRevisions x (bytes_at u manifest_data) k.manifest) (sym manifest-index-bytes)
      (subst (λ y. HoldsRevisions (bytes_at t manifest_index ++ new_entries false h.manifest (new_items (length (bytes_at t manifest_data)) h.manifest (drop (length h.manifest) k.manifest))) y k.manifest) (sym manifest-data-bytes) manifest-grown))

  index-untouched : touched changelog_index all_growth ≡ false
  index-untouched = rest-touched changelog_index (refl, refl, refl, refl) (filelogs-touched t h.filelog k.filelog paths changelog_index (not-stores changelog_index refl paths))

  pub changelog-index-bytes : bytes_at u changelog_index ≡ bytes_at t changelog_index ++ new_entries false h.changelog (new_items (length (bytes_at t changelog_data)) h.changelog (drop (length h.changelog) k.changelog))
  changelog-index-bytes =
      leaves.bytes changelog_index refl
      ∙ ap (λ l. (bytes_at t changelog_index ++ l) ++ new_changelog_entry t r next) (appended-none all_growth changelog_index index-untouched)
      ∙ ap (λ l. l ++ new_changelog_entry t r next) (append-nil (bytes_at t changelog_index))

  pub changelog-data-grows : appended changelog_data all_growth ≡ new_chunks (new_items (length (bytes_at t changelog_data)) h.changelog (drop (length h.changelog) k.changelog))
  changelog-data-grows =
      four changelog_data
      ∙ ap (λ l. ((l ++ appended changelog_data fn) ++ appended changelog_data mf) ++ appended changelog_data cl) (appended-none fl changelog_data (filelogs-touched t h.filelog k.filelog paths changelog_data (not-stores changelog_data refl paths)))
      ∙ ap (λ l. (l ++ appended changelog_data mf) ++ appended changelog_data cl) (appended-none fn changelog_data (touched-some changelog_data fncache_path _ refl))
      ∙ ap (λ l. l ++ appended changelog_data cl) (appended-none mf changelog_data (grown-touched false t manifest_index manifest_data changelog_data h.manifest k.manifest refl refl))
      ∙ appended-some changelog_data changelog_data _ refl

  pub changelog-data-bytes : bytes_at u changelog_data ≡ bytes_at t changelog_data ++ new_chunks (new_items (length (bytes_at t changelog_data)) h.changelog (drop (length h.changelog) k.changelog))
  changelog-data-bytes =
      leaves.bytes changelog_data refl ∙ append-nil _
      ∙ ap (λ l. bytes_at t changelog_data ++ l) changelog-data-grows

  pub changelog-separate : HoldsRevisions (bytes_at t changelog_index) (bytes_at t changelog_data) h.changelog
  changelog-separate = plain-held (bytes_at t changelog_index) (bytes_at t changelog_data) h.changelog (changelog-plain t f.un.separate) f.stands.revlogs.changelog

  pub changelog-fits : FitAfter (length (bytes_at t changelog_data)) h.changelog extends.changelog.0
  changelog-fits =
      let n1 : length k.placed ≡ length next.changesets = length-placed next.changesets in
      let n2 : length k.changelog ≡ length next.changesets = length-changelog next f.repository in
      fit-more (length (bytes_at t changelog_data)) h.changelog k.changelog _ extends.changelog.1 (omega arith) (linked next.changesets).changelog (subst (ParentsBefore 0) (sym (changelog-parents next f.repository)) f.repository.parents) f.un.changelog f.un.room.changelog

  changelog-grown : GrownHeld false (bytes_at t changelog_index) (bytes_at t changelog_data) h.changelog k.changelog
  changelog-grown = grown-more false _ _ h.changelog k.changelog extends.changelog.0 changelog-separate extends.changelog.1 changelog-fits f.un.changelog.different f.un.changelog.not_null

  pub changelog-stands : HoldsAt u changelog_index changelog_data k.changelog
  changelog-stands =
      separate-holds _ _ k.changelog
      (subst (λ x. HoldsRevisions x (bytes_at u changelog_data) k.changelog) (sym changelog-index-bytes)
      (subst (λ y. HoldsRevisions (bytes_at t changelog_index ++ new_entries false h.changelog (new_items (length (bytes_at t changelog_data)) h.changelog (drop (length h.changelog) k.changelog))) y k.changelog) (sym changelog-data-bytes) changelog-grown))

  -- ---- so the growth is told by what is appended to each file

  files-told : (rest : List (List ℕ)) → ((q : List ℕ) → among q rest ≡ true → among q paths ≡ true)
      → filelogs_grow t h.filelog k.filelog rest ≡ flat_map (λ q. append_some (store_name q D) (appended (store_name q D) all_growth) ++ append_some (store_name q I) (appended (store_name q I) all_growth)) rest
  files-told [] sub = refl
  files-told (q ∷ rest) sub =
      let e = sub q (ap (λ z. z || among q rest) (same-refl q)) in
      let used = paths-used q e in
      λ i. (append_some (store_name q D) (sym (file-data-grows q used e) i) ++ append_some (store_name q I) (sym (file-index-grows q used e) i)) ++ files-told rest (λ x g. sub x (more (same x q) (among x rest) g)) i
    where
      more : (z w : Bool) → w ≡ true → (z || w) ≡ true
      more true w g = refl
      more false w g = g

  pub growth-told : growth t r next ≡ growth_of (λ p. appended p all_growth) r next
  growth-told = λ i. files-told paths (λ q e. e) i ++ fn ++ (append_some manifest_data (sym manifest-data-grows i) ++ append_some manifest_index (sym manifest-index-grows i)) ++ append_some changelog_data (sym changelog-data-grows i)

  -- ---- the names of the filelogs

  pub names-stand : (p q : List ℕ) → uses next.changesets p ≡ true → uses next.changesets q ≡ true → clashes p q ≡ false
  names-stand p q a b = elim (bool (among p paths)) [
    | inl x ↦ f.un.names p q x b
    | inr x ↦ elim (bool (among q paths)) [
      | inl y ↦ clashes-flip q p (f.un.names q p y a)
      | inr y ↦ f.stands.revlogs.names p q (used-or p a x) (used-or q b y)
    ]
  ]

  pub requires-untouched : u requires_path ≡ t requires_path
  requires-untouched = leaves.others requires_path refl (rest-touched requires_path (refl, refl, refl, refl) (filelogs-touched t h.filelog k.filelog paths requires_path (not-stores requires_path refl paths))) refl

  -- ---- the list of files

  pub fncache-grows : appended fncache_path all_growth ≡ flat_map line new_lines
  fncache-grows =
      four fncache_path
      ∙ ap (λ l. ((l ++ appended fncache_path fn) ++ appended fncache_path mf) ++ appended fncache_path cl) (appended-none fl fncache_path (filelogs-touched t h.filelog k.filelog paths fncache_path (not-stores fncache_path refl paths)))
      ∙ ap (λ l. (appended fncache_path fn ++ l) ++ appended fncache_path cl) (appended-none mf fncache_path (grown-touched false t manifest_index manifest_data fncache_path h.manifest k.manifest refl refl))
      ∙ ap (λ l. (appended fncache_path fn ++ []) ++ l) (appended-none cl fncache_path (touched-some fncache_path changelog_data _ refl))
      ∙ append-nil (appended fncache_path fn ++ []) ∙ append-nil (appended fncache_path fn)
      ∙ appended-some fncache_path fncache_path (flat_map line new_lines) refl

  fncache-bytes : bytes_at u fncache_path ≡ bytes_at t fncache_path ++ flat_map line new_lines
  fncache-bytes =
      leaves.bytes fncache_path refl ∙ append-nil _
      ∙ ap (λ l. bytes_at t fncache_path ++ l) fncache-grows

  abbrev all_names : List (List ℕ)
  all_names = f.stands.fncache.names ++ new_lines

  paths-tracked : (q : List ℕ) → among q paths ≡ true → is_tracked q ≡ true
  paths-tracked q e = used-tracked no_history next.changesets f.repository.changesets q (paths-used q e)

  used-more : (q : List ℕ) → uses r.changesets q ≡ true → uses next.changesets q ≡ true
  used-more q e = uses-next q ∙ ap (λ z. z || among q paths) e

  pub fncache-text : names_of (bytes_at u fncache_path) ≡ Ok all_names
  fncache-text = ap names_of fncache-bytes ∙ names-added h.filelog k.filelog paths (bytes_at t fncache_path) f.stands.fncache.names paths-tracked f.stands.fncache.text

  lists-old : (q : List ℕ) (ext : Ext) → lists f.stands.fncache.names q ext ≡ true → lists all_names q ext ≡ true
  lists-old q ext e = among-left (listed_name q ext) f.stands.fncache.names new_lines e

  lists-new : (q : List ℕ) (ext : Ext) → uses next.changesets q ≡ true → uses r.changesets q ≡ false → has_file u q ext ≡ true → lists all_names q ext ≡ true
  lists-new q ext e none has =
      let a = sym (ap (λ b. b || among q paths) none) ∙ sym (uses-next q) ∙ e in
      among-right (listed_name q ext) f.stands.fncache.names new_lines (new-line h.filelog k.filelog q ext paths a (unused-empty r.changesets q none) (part a ext has))
    where
      empty : h.filelog q ≡ []
      empty = unused-empty r.changesets q none

      begins : form_of q ≡ begins_inline (k.filelog q)
      begins = ap (λ l. grows_inline (bytes_at t (store_name q I)) l (k.filelog q)) empty

      says : (log : List Revision) → Holds (begins_inline log) (bytes_at u (store_name q I)) (bytes_at u (store_name q D)) log → is_inline (bytes_at u (store_name q I)) ≡ false → begins_inline log ≡ false
      says [] held plain = refl
      says (x ∷ log) held plain = sym (ap is_inline (sym (append-nil (bytes_at u (store_name q I)))) ∙ held-form (begins_inline (x ∷ log)) (bytes_at u (store_name q I)) (bytes_at u (store_name q D)) [] x log held) ∙ plain

      not-true : (b : Bool) → not b ≡ true → b ≡ false
      not-true true g = never (sym g)
      not-true false g = refl

      part : among q paths ≡ true → (x : Ext) → has_file u q x ≡ true → is_part (begins_inline (k.filelog q)) x ≡ true
      part a I has_it = refl
      part a D has_it = ap not (says (k.filelog q) (subst (λ b. Holds b (bytes_at u (store_name q I)) (bytes_at u (store_name q D)) (k.filelog q)) begins (grown-held q e a)) (not-true (is_inline (bytes_at u (store_name q I))) has_it))

  -- a filelog that stands keeps its form, so what it has of files afterwards it had before
  had : (q : List ℕ) (ext : Ext) → uses r.changesets q ≡ true → has_file u q ext ≡ true → has_file t q ext ≡ true
  had q I used has = refl
  had q D used has = by (h.filelog q) (f.stands.revlogs.filelogs q used)
    where
      by : (log : List Revision) → HoldsAt t (store_name q I) (store_name q D) log → not (is_inline (bytes_at t (store_name q I))) ≡ true
      by [] held = ap (λ x. not (is_inline x)) (none-held (bytes_at t (store_name q I)) (bytes_at t (store_name q D)) held).0
      by (x ∷ log) held =
          ap not (sym (ap is_inline (store-bytes q I) ∙ held-form (is_inline (bytes_at t (store_name q I))) (bytes_at t (store_name q I)) (bytes_at t (store_name q D)) (appended (store_name q I) all_growth) x log held)) ∙ has

  -- a listed file that has bytes afterwards is of a used path
  apart-line : (name : List ℕ) → is_listed name ≡ true → (p : List ℕ) → among p fixed ≡ true → same p (listed_file name) ≡ false
  apart-line name is p e = same-sym (listed_file name) p (not-fixed (listed_file name) p e (lines-fixed name is))

  line-stays : (name : List ℕ) → is_listed name ≡ true → AreNot (listed_file name) paths → u (listed_file name) ≡ t (listed_file name)
  line-stays name is none =
      leaves.others (listed_file name) (among-part quiet fixed (listed_file name) refl (lines-fixed name is))
      (rest-touched (listed_file name) (apart-line name is fncache_path refl, apart-line name is manifest_index refl, apart-line name is manifest_data refl, apart-line name is changelog_data refl) (filelogs-touched t h.filelog k.filelog paths (listed_file name) none)) (apart-line name is changelog_index refl)

  one-used : (name : List ℕ) → among name f.stands.fncache.names ≡ true → is_listed name ≡ true → IsUsedName t r.changesets name → IsUsedName u next.changesets name
  one-used name e is (inr (path, ext, used, eq)) = inr (path, ext, used-more path used, eq)
  one-used name e is (inl none) = elim (store-or (listed_file name) paths) [
    | inl away ↦ inl (ap (λ (o : Option (List ℕ)). unwrap_or o []) (line-stays name is away) ∙ none)
    | inr (o, ext, a, eq) ↦ inr (o, ext, paths-used o a, f.un.listed f.stands.fncache.names f.stands.fncache.text name o ext e a (sym eq))
  ]

  old-used : (names : List (List ℕ)) → ((name : List ℕ) → among name names ≡ true → among name f.stands.fncache.names ≡ true) → AllByRecursion (λ name. is_listed name ≡ true) names → AllByRecursion (IsUsedName t r.changesets) names → AllByRecursion (IsUsedName u next.changesets) names
  old-used [] sub good all = tt
  old-used (name ∷ names) sub good all =
      (one-used name (sub name (ap (λ z. z || among name names) (same-refl name))) good.0 all.0, old-used names (λ x e. sub x (more (same x name) (among x names) e)) good.1 all.1)
    where
      more : (z w : Bool) → w ≡ true → (z || w) ≡ true
      more true w g = refl
      more false w g = g

  pub fncache-stands : ListsFilelogs u next.changesets
  fncache-stands = record {
    names = f.stands.fncache.names ++ new_lines;
    text = fncache-text;
    listed = λ q ext e has. elim (bool (uses r.changesets q)) [ inl a ↦ lists-old q ext (f.stands.fncache.listed q ext a (had q ext a has)) | inr a ↦ lists-new q ext e a has ];
    used = all-join (IsUsedName u next.changesets) f.stands.fncache.names new_lines
        (old-used f.stands.fncache.names (λ name e. e) (names-listed 1 (lines_of (bytes_at t fncache_path)) f.stands.fncache.names f.stands.fncache.text) f.stands.fncache.used)
        (lines-all (IsUsedName u next.changesets) h.filelog k.filelog paths (λ q ext a. inr (q, ext, paths-used q a, refl)));
  }
