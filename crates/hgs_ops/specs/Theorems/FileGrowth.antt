-- What the growth of a commit appends, and where.
use Rattle.std.proofs.Common.{◌≡◌, ◌⊎◌, ℕ, List, [], ◌∷◌, ◌++◌, Bool, true, false, cond, ◌||◌, length, drop, refl, sym, ◌∙◌, ap, subst, inl, inr, append-nil}
use Rattle.std.specs.List.{AllByRecursion, list_all}
use Rattle.std.specs.Ordering.{is_lt}
use Rattle.std.specs.Cmp.Lexicographic.{nat_list_cmp_total}
use Rattle.std.proofs.lemmas.Cmp.{tied_itself}
use Rattle.hgs_bytes.specs.Bytes.{same, among, is_below}
use Rattle.hgs_bytes.specs.Text.{ascends}
use Rattle.hgs_bytes.specs.Theorems.ByteLemmas.{same-refl, same-eq}
use Rattle.hgs_files.specs.declared.op.Op.{Op}
use Rattle.hgs_files.specs.Tree.{Tree, bytes_at}
use Rattle.hgs_index.specs.Either.{chunk_bytes}
use Rattle.hgs_index.specs.Revision.{Revision}
use Rattle.hgs_index.specs.Revlog.{Item}
use Rattle.hgs_model.specs.Theorems.ListLemmas.{all-map, ascends-head, ascends-tail, below-trans}
use Rattle.hgs_path.specs.declared.name.Ext.TheVariants.{I, D}
use Rattle.hgs_path.specs.StoreName.{store_name}
use Rattle.hgs_stands.specs.Theorems.ApartLemmas.{kinds-apart}
use Rattle.hgs_ops.specs.Growth.{append_some, appended, filelog_growth, filelogs_grow, grown, grows_inline, new_data, new_entries, new_items}
use Rattle.hgs_ops.specs.Theorems.Touch.{touched, touched-append, appended-append, appended-none, all-append, bool, never, or-left, or-right, or-both, same-sym}
use Rattle.hgs_ops.specs.Theorems.CommitTree.{is_append}

-- ---- an append that may be left out

pub appended-some : (p path bytes : List ℕ) → same path p ≡ true → appended p (append_some path bytes) ≡ bytes
appended-some p path [] e = refl
appended-some p path (b ∷ bytes) e = ap (λ z. cond z (b ∷ bytes) [] ++ []) e ∙ append-nil (b ∷ bytes)

pub touched-some : (p path bytes : List ℕ) → same path p ≡ false → touched p (append_some path bytes) ≡ false
touched-some p path [] e = refl
touched-some p path (b ∷ bytes) e = or-both _ _ e refl

pub some-appends : (path bytes : List ℕ) → list_all is_append (append_some path bytes) ≡ true
some-appends path [] = refl
some-appends path (b ∷ bytes) = refl

-- ---- the growth of one revlog

abbrev pub added : Bool → Tree → List ℕ → List ℕ → List Revision → List Revision → List Item
added f t index data_path old all = new_items (length (chunk_bytes f (bytes_at t index) (bytes_at t data_path))) old (drop (length old) all)

pub grown-appends : (f : Bool) (t : Tree) (index data_path : List ℕ) (old all : List Revision) → list_all is_append (grown f t index data_path old all) ≡ true
grown-appends f t index data_path old all =
    all-append is_append (append_some data_path (new_data f (added f t index data_path old all))) _ (some-appends data_path _) (some-appends index _)

pub grown-touched : (f : Bool) (t : Tree) (index data_path p : List ℕ) (old all : List Revision) → same index p ≡ false → same data_path p ≡ false → touched p (grown f t index data_path old all) ≡ false
grown-touched f t index data_path p old all a b =
    touched-append p (append_some data_path (new_data f (added f t index data_path old all))) _ (touched-some p data_path _ b) (touched-some p index _ a)

pub grown-index : (f : Bool) (t : Tree) (index data_path : List ℕ) (old all : List Revision) → same data_path index ≡ false
    → appended index (grown f t index data_path old all) ≡ new_entries f old (added f t index data_path old all)
grown-index f t index data_path old all e =
    appended-append index (append_some data_path (new_data f (added f t index data_path old all))) (append_some index (new_entries f old (added f t index data_path old all)))
    ∙ ap (λ l. l ++ appended index (append_some index (new_entries f old (added f t index data_path old all)))) (appended-none (append_some data_path (new_data f (added f t index data_path old all))) index (touched-some index data_path _ e))
    ∙ appended-some index index (new_entries f old (added f t index data_path old all)) (same-refl index)

pub grown-data : (f : Bool) (t : Tree) (index data_path : List ℕ) (old all : List Revision) → same index data_path ≡ false
    → appended data_path (grown f t index data_path old all) ≡ new_data f (added f t index data_path old all)
grown-data f t index data_path old all e =
    appended-append data_path (append_some data_path (new_data f (added f t index data_path old all))) (append_some index (new_entries f old (added f t index data_path old all)))
    ∙ ap (λ l. appended data_path (append_some data_path (new_data f (added f t index data_path old all))) ++ l) (appended-none (append_some index (new_entries f old (added f t index data_path old all))) data_path (touched-some data_path index _ e))
    ∙ append-nil _
    ∙ appended-some data_path data_path (new_data f (added f t index data_path old all)) (same-refl data_path)

-- ---- the growth of the filelogs

-- the form in which a path's filelog grows
abbrev pub form : Tree → (List ℕ → List Revision) → (List ℕ → List Revision) → List ℕ → Bool
form t old new q = grows_inline (bytes_at t (store_name q I)) (old q) (new q)

pub filelogs-appends : (t : Tree) (old new : List ℕ → List Revision) (paths : List (List ℕ)) → list_all is_append (filelogs_grow t old new paths) ≡ true
filelogs-appends t old new [] = refl
filelogs-appends t old new (q ∷ paths) = all-append is_append (filelog_growth t q (old q) (new q)) _ (grown-appends (form t old new q) t (store_name q I) (store_name q D) (old q) (new q)) (filelogs-appends t old new paths)

-- a path that is no store name of these
abbrev pub AreNot : List ℕ → List (List ℕ) → Type 0
AreNot p paths = AllByRecursion (λ q. (same (store_name q I) p ≡ false) × (same (store_name q D) p ≡ false)) paths

pub filelogs-touched : (t : Tree) (old new : List ℕ → List Revision) (paths : List (List ℕ)) (p : List ℕ) → AreNot p paths → touched p (filelogs_grow t old new paths) ≡ false
filelogs-touched t old new [] p all = refl
filelogs-touched t old new (q ∷ paths) p all = touched-append p (filelog_growth t q (old q) (new q)) _ (grown-touched (form t old new q) t (store_name q I) (store_name q D) p (old q) (new q) all.0.0 all.0.1) (filelogs-touched t old new paths p all.1)

-- the store names of these paths are others than those of q, unless they are q
abbrev pub AreOthers : List ℕ → List (List ℕ) → Type 0
AreOthers q paths = AllByRecursion (λ o. (same o q ≡ true) ⊎ ((same (store_name o I) (store_name q I) ≡ false) × (same (store_name o D) (store_name q D) ≡ false))) paths

below-other : (x y : List ℕ) → is_below x y ≡ true → same y x ≡ false
below-other x y a = elim (bool (same y x)) [
  | inl e ↦ never (sym (sym (ap is_lt (tied_itself nat_list_cmp_total x)) ∙ (ap (is_below x) (sym (same-eq y x e)) ∙ a)))
  | inr e ↦ e
]

below-all : (x : List ℕ) (paths : List (List ℕ)) → ascends (x ∷ paths) ≡ true → AllByRecursion (λ o. is_below x o ≡ true) paths
below-all x [] a = tt
below-all x (y ∷ paths) a =
    let first = ascends-head x (y ∷ paths) a in
    (first, all-map (λ o. is_below y o ≡ true) (λ o. is_below x o ≡ true) paths (λ o b. below-trans x y o first b) (below-all y paths (ascends-tail x (y ∷ paths) a)))

pub head-others : (x : List ℕ) (paths : List (List ℕ)) → ascends (x ∷ paths) ≡ true → AllByRecursion (λ o. same o x ≡ false) paths
head-others x [] a = tt
head-others x (y ∷ paths) a =
    let first = ascends-head x (y ∷ paths) a in
    (below-other x y first, all-map (λ o. is_below y o ≡ true) (λ o. same o x ≡ false) paths (λ o b. below-other x o (below-trans x y o first b)) (below-all y paths (ascends-tail x (y ∷ paths) a)))

pub not-these : (q : List ℕ) (paths : List (List ℕ)) → AreOthers q paths → AllByRecursion (λ o. same o q ≡ false) paths → AreNot (store_name q I) paths × AreNot (store_name q D) paths
not-these q [] all none = (tt, tt)
not-these q (o ∷ paths) all none =
    let rest = not-these q paths all.1 none.1 in
    elim all.0 [
      | inl e ↦ never (sym e ∙ none.0)
      | inr e ↦ (((e.0, same-sym (store_name q I) (store_name o D) (kinds-apart q o)), rest.0), ((kinds-apart o q, e.1), rest.1))
    ]

not-among : (q : List ℕ) (paths : List (List ℕ)) → among q paths ≡ false → AllByRecursion (λ o. same o q ≡ false) paths
not-among q [] e = tt
not-among q (o ∷ paths) e = (same-sym q o (or-left _ _ e), not-among q paths (or-right (same q o) _ e))

-- no store name of a path that is not among them is touched
pub filelogs-not : (t : Tree) (old new : List ℕ → List Revision) (paths : List (List ℕ)) (q : List ℕ) → AreOthers q paths → among q paths ≡ false
    → (touched (store_name q I) (filelogs_grow t old new paths) ≡ false) × (touched (store_name q D) (filelogs_grow t old new paths) ≡ false)
filelogs-not t old new paths q others e =
    let h = not-these q paths others (not-among q paths e) in
    (filelogs-touched t old new paths (store_name q I) h.0, filelogs-touched t old new paths (store_name q D) h.1)

-- what is appended to the two files of a path that is among them
abbrev pub FileAppends : Tree → (List ℕ → List Revision) → (List ℕ → List Revision) → List (List ℕ) → List ℕ → Type 0
FileAppends t old new paths q =
    (appended (store_name q I) (filelogs_grow t old new paths) ≡ new_entries (form t old new q) (old q) (added (form t old new q) t (store_name q I) (store_name q D) (old q) (new q)))
    × (appended (store_name q D) (filelogs_grow t old new paths) ≡ new_data (form t old new q) (added (form t old new q) t (store_name q I) (store_name q D) (old q) (new q)))

pub filelogs-among : (t : Tree) (old new : List ℕ → List Revision) (paths : List (List ℕ)) (q : List ℕ) → AreOthers q paths → ascends paths ≡ true → among q paths ≡ true → FileAppends t old new paths q
filelogs-among t old new [] q others a e = never (sym e)
filelogs-among t old new (o ∷ paths) q others a e = by (bool (same o q)) (λ h. filelogs-among t old new paths q others.1 (ascends-tail o paths a) h)
  where
    G : List ℕ → List Op
    G x = filelog_growth t x (old x) (new x)

    here : AreOthers o paths → FileAppends t old new (o ∷ paths) o
    here mine =
        let none = not-these o paths mine (head-others o paths a) in (
          appended-append (store_name o I) (G o) (filelogs_grow t old new paths)
              ∙ ap (λ l. appended (store_name o I) (G o) ++ l) (appended-none (filelogs_grow t old new paths) (store_name o I) (filelogs-touched t old new paths (store_name o I) none.0))
              ∙ append-nil (appended (store_name o I) (G o)) ∙ grown-index (form t old new o) t (store_name o I) (store_name o D) (old o) (new o) (same-sym (store_name o I) (store_name o D) (kinds-apart o o)),
          appended-append (store_name o D) (G o) (filelogs_grow t old new paths)
              ∙ ap (λ l. appended (store_name o D) (G o) ++ l) (appended-none (filelogs_grow t old new paths) (store_name o D) (filelogs-touched t old new paths (store_name o D) none.1))
              ∙ append-nil (appended (store_name o D) (G o)) ∙ grown-data (form t old new o) t (store_name o I) (store_name o D) (old o) (new o) (kinds-apart o o),
        )

    differ : same o q ≡ false → (same (store_name o I) (store_name q I) ≡ false) × (same (store_name o D) (store_name q D) ≡ false)
    differ h = elim others.0 [
      | inl e ↦ never (sym e ∙ h)
      | inr e ↦ e
    ]

    there : same o q ≡ false → FileAppends t old new paths q → FileAppends t old new (o ∷ paths) q
    there h rec =
        let d = differ h in (
          appended-append (store_name q I) (G o) (filelogs_grow t old new paths)
              ∙ ap (λ l. l ++ appended (store_name q I) (filelogs_grow t old new paths)) (appended-none (G o) (store_name q I) (grown-touched (form t old new o) t (store_name o I) (store_name o D) (store_name q I) (old o) (new o) d.0 (same-sym (store_name q I) (store_name o D) (kinds-apart q o))))
              ∙ rec.0,
          appended-append (store_name q D) (G o) (filelogs_grow t old new paths)
              ∙ ap (λ l. l ++ appended (store_name q D) (filelogs_grow t old new paths)) (appended-none (G o) (store_name q D) (grown-touched (form t old new o) t (store_name o I) (store_name o D) (store_name q D) (old o) (new o) (kinds-apart o q) d.1))
              ∙ rec.1,
        )

    by : (same o q ≡ true) ⊎ (same o q ≡ false) → (among q paths ≡ true → FileAppends t old new paths q) → FileAppends t old new (o ∷ paths) q
    by (inl h) rec = subst (FileAppends t old new (o ∷ paths)) (same-eq o q h) (here (subst (λ z. AreOthers z paths) (sym (same-eq o q h)) others.1))
    by (inr h) rec = there h (rec (right (same q o) (same-sym o q h) e))
      where
        right : (b : Bool) → b ≡ false → (b || among q paths) ≡ true → among q paths ≡ true
        right true k g = never k
        right false k g = g
