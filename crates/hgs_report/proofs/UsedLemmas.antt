-- What is added of the names of files is what is found of them.
use Rattle.std.proofs.Common.{◌≡◌, ◌⊎◌, ℕ, List, [], ◌∷◌, ◌++◌, Bool, true, false, cond, ◌&&◌, ◌||◌, not, map, refl, sym, ◌∙◌, ap, subst, inl, inr}
use Rattle.std.specs.Prelude.{Option, Some, None, Result, Ok, Err, Vec, IfSome, is_some, is_none, filter, flat_map}
use Rattle.std.specs.List.{AllByRecursion, list_any}
use Rattle.std.specs.Cmp.Lexicographic.{bytes_decides, slice_cmp, texts_ties}
use Rattle.std.specs.declared.alloc.Global.{Global}
use Rattle.std.specs.declared.cmp.Ordering.{Ordering}
use Rattle.std.specs.declared.cmp.Ordering.TheVariants.{Less, Equal, Greater}
use Rattle.std.specs.Ordering.{nat_cmp, is_lt, is_eq, ordering_reverse}
use Rattle.std.proofs.lemmas.Cmp.{nat_list_cmp_total}
use Rattle.hgs_bytes.specs.Bytes.{same, among, is_below}
use Rattle.hgs_files.specs.Tree.{Tree, bytes_at}
use Rattle.hgs_model.specs.History.{inserted, in_order}
use Rattle.hgs_path.specs.declared.name.Ext.{Ext}
use Rattle.hgs_path.specs.declared.name.Ext.TheVariants.{I, D}
use Rattle.hgs_path.specs.Fncache.{lists}
use Rattle.hgs_path.specs.ListedNames.{listed_file, names_of}
use Rattle.hgs_path.specs.StoreName.{listed_name, store_name}
use Rattle.hgs_stands.specs.Places.{fncache_path}
use Rattle.hgs_stands.specs.Stands.{has_file}
use Rattle.hgs_findings.specs.Findings as findings
use Rattle.hgs_findings.specs.Findings.{Finding, IsFinding, is_finding, is_name_used, names_in}
use Rattle.hgs_findings.specs.Reading.{sight_of}
use Rattle.hgs_findings.specs.Regular.{rows_of_seen, used_paths, is_used}
use Rattle.hgs_findings.specs.Sight.{value, row_paths, seen}
use Rattle.hgs_report.specs.Adds.{Adds}
use Rattle.hgs_report.specs.Lines.{file_if, has_key}
use Rattle.hgs_report.specs.Names.{AreInline, IsBadList, IsNameOf, bad_list, has_name, is_lacking, not_listed, one_name, lacks, is_named, is_taken, of_name, of_names, unused_files, unused_in}
use Rattle.hgs_report.proofs.EachLemmas.{never, in-front, in-back, split-any, IsOne}
use Rattle.hgs_report.proofs.PartLemmas.{below-less, less-differs, same-itself}
use Rattle.hgs_report.proofs.StoreLemmas.{list-added, moved}
use Rattle.hgs_report.proofs.TextLemmas.{file-is, is-file}
use Rattle.hgs_report.proofs.TrackedLemmas.{same-turned}

-- ---- the used paths ascend

abbrev Sorted : List (List ℕ) → Type 0
Sorted [] = Unit {0}
Sorted (x ∷ xs) = AllByRecursion (λ y. slice_cmp nat_cmp x y ≡ Less) xs × Sorted xs

all-inserted : (P : List ℕ → Type 0) (x : List ℕ) (ys : List (List ℕ)) → P x → AllByRecursion P ys → AllByRecursion P (inserted x ys)
all-inserted P x [] p all = (p, tt)
all-inserted P x (y ∷ ys) p all = by (same x y) (is_below x y) (all-inserted P x ys p all.1)
  where
    by : (a b : Bool) → AllByRecursion P (inserted x ys) → AllByRecursion P (cond a (y ∷ ys) (cond b (x ∷ y ∷ ys) (y ∷ inserted x ys)))
    by true b rec = all
    by false true rec = (p, all)
    by false false rec = (all.0, rec)

all-less : (x y : List ℕ) (ys : List (List ℕ)) → slice_cmp nat_cmp x y ≡ Less → AllByRecursion (λ z. slice_cmp nat_cmp y z ≡ Less) ys → AllByRecursion (λ z. slice_cmp nat_cmp x z ≡ Less) ys
all-less x y [] l all = tt
all-less x y (z ∷ ys) l all = (nat_list_cmp_total.trans x y z l all.0, all-less x y ys l all.1)

other-way : (x y : List ℕ) → same x y ≡ false → is_below x y ≡ false → slice_cmp nat_cmp y x ≡ Less
other-way x y a b = by (slice_cmp nat_cmp x y) refl
  where
    by : (o : Ordering) → slice_cmp nat_cmp x y ≡ o → slice_cmp nat_cmp y x ≡ Less
    by Less e = never (sym (ap is_lt e) ∙ b)
    by Equal e = never (sym (texts_ties x y ∙ ap is_eq e) ∙ a)
    by Greater e = nat_list_cmp_total.antisymm y x ∙ ap ordering_reverse e

inserted-sorted : (x : List ℕ) (ys : List (List ℕ)) → Sorted ys → Sorted (inserted x ys)
inserted-sorted x [] s = (tt, tt)
inserted-sorted x (y ∷ ys) s = by (same x y) refl (is_below x y) refl (inserted-sorted x ys s.1)
  where
    by : (a : Bool) → same x y ≡ a → (b : Bool) → is_below x y ≡ b → Sorted (inserted x ys) → Sorted (cond a (y ∷ ys) (cond b (x ∷ y ∷ ys) (y ∷ inserted x ys)))
    by true e b f rec = s
    by false e true f rec = let l = below-less (slice_cmp nat_cmp x y) f in ((l, all-less x y ys l s.0), s)
    by false e false f rec = (all-inserted (λ z. slice_cmp nat_cmp y z ≡ Less) x ys (other-way x y e f) s.0, rec)

pub ordered-sorted : (xs : List (List ℕ)) → Sorted (in_order xs)
ordered-sorted [] = tt
ordered-sorted (x ∷ xs) = inserted-sorted x (in_order xs) (ordered-sorted xs)

-- ---- which names are found

either : (a b : Bool) → (a || b) ≡ true → (a ≡ true) ⊎ (b ≡ true)
either true b e = inl refl
either false b e = inr e

record Holds (f : List ℕ → Bool) (xs : List (List ℕ)) : Type 0 where
  x : List ℕ
  there : among x xs ≡ true
  holds : f x ≡ true

holds-at : (f : List ℕ → Bool) (xs : List (List ℕ)) → list_any f xs ≡ true → Holds f xs
holds-at f [] e = never (sym e)
holds-at f (x ∷ xs) e = by (either (f x) (list_any f xs) e) (holds-at f xs)
  where
    behind : (r : Holds f xs) → (same r.x x || among r.x xs) ≡ true
    behind r = or-true (same r.x x) r.there
      where
        or-true : (b : Bool) → among r.x xs ≡ true → (b || among r.x xs) ≡ true
        or-true true h = refl
        or-true false h = h

    by : (f x ≡ true) ⊎ (list_any f xs ≡ true) → (list_any f xs ≡ true → Holds f xs) → Holds f (x ∷ xs)
    by (inl h) rec = record { x = x; there = ap (λ b. b || among x xs) (same-itself x); holds = h }
    by (inr h) rec = let r = rec h in record { x = r.x; there = behind r; holds = r.holds }

any-holds : (f : List ℕ → Bool) (xs : List (List ℕ)) (x : List ℕ) → among x xs ≡ true → f x ≡ true → list_any f xs ≡ true
any-holds f [] x e h = never (sym e)
any-holds f (y ∷ xs) x e h = by (same x y) refl e (any-holds f xs x)
  where
    or-true : (b : Bool) → list_any f xs ≡ true → (b || list_any f xs) ≡ true
    or-true true k = refl
    or-true false k = k

    by : (b : Bool) → same x y ≡ b → (b || among x xs) ≡ true → (among x xs ≡ true → f x ≡ true → list_any f xs ≡ true) → (f y || list_any f xs) ≡ true
    by true s g rec = ap (λ b. b || list_any f xs) (ap f (sym ((bytes_decides x y).0 s)) ∙ h)
    by false s g rec = or-true (f y) (rec g h)

-- a name that is lacking, or that two paths share
abbrev NameFound : (List ℕ → Bool) → Ext → (List ℕ → Bool) → List ℕ → Option ℕ → ℕ → Type 0
NameFound lacking ext uses file rev k =
    ((path : List ℕ) × (uses path ≡ true) × (lacking path ≡ true) × IsOne (store_name path ext) None 10 file rev k)
    ⊎ ((path : List ℕ) × (other : List ℕ) × (uses path ≡ true) × (uses other ≡ true) × (same other path ≡ false) × (same (store_name other ext) (store_name path ext) ≡ true) × IsOne (store_name path ext) None 11 file rev k)

names-are : (lacking : List ℕ → Bool) (ext : Ext) (uses : List ℕ → Bool) (before left : List (List ℕ)) → Sorted left → AllByRecursion (λ y. uses y ≡ true) left → ((y : List ℕ) → among y before ≡ true → uses y ≡ true) → AllByRecursion (λ y. among y before ≡ false) left
    → (file : List ℕ) (rev : Option ℕ) (k : ℕ) → list_any (is_finding file rev k) (of_names lacking ext before left) ≡ true → NameFound lacking ext uses file rev k
names-are lacking ext uses before [] s u v a file rev k h = never (sym h)
names-are lacking ext uses before (path ∷ left) s u v a file rev k h = by (split-any p (of_name (lacking path) ext before path) (of_names lacking ext (path ∷ before) left) h) (names-are lacking ext uses (path ∷ before) left s.1 u.1 more (apart left s.0 a.1) file rev k)
  where
    p : Finding → Bool
    p = is_finding file rev k

    more : (y : List ℕ) → (same y path || among y before) ≡ true → uses y ≡ true
    more y e = pick (either (same y path) (among y before) e)
      where
        pick : (same y path ≡ true) ⊎ (among y before ≡ true) → uses y ≡ true
        pick (inl g) = ap uses ((bytes_decides y path).0 g) ∙ u.0
        pick (inr g) = v y g

    apart : (ys : List (List ℕ)) → AllByRecursion (λ y. slice_cmp nat_cmp path y ≡ Less) ys → AllByRecursion (λ y. among y before ≡ false) ys → AllByRecursion (λ y. (same y path || among y before) ≡ false) ys
    apart [] l b = tt
    apart (y ∷ ys) l b = (ap (λ z. z || among y before) (same-turned y path ∙ less-differs path y l.0) ∙ b.0, apart ys l.1 b.1)

    shared : list_any p (file_if (is_taken before ext (store_name path ext)) (store_name path ext) 11) ≡ true → NameFound lacking ext uses file rev k
    shared e =
        let one = file-is (is_taken before ext (store_name path ext)) (store_name path ext) 11 file rev k e in
        let o = holds-at (λ q. same (store_name path ext) (store_name q ext)) before one.0 in
        inr (path, o.x, u.0, v o.x o.there, differs o.x o.there (same o.x path) refl, same-turned (store_name o.x ext) (store_name path ext) ∙ o.holds, one.1)
      where
        differs : (x : List ℕ) → among x before ≡ true → (b : Bool) → same x path ≡ b → same x path ≡ false
        differs x t true g = never (sym t ∙ ap (λ y. among y before) ((bytes_decides x path).0 g) ∙ a.0)
        differs x t false g = g

    here : (list_any p (file_if (lacking path) (store_name path ext) 10) ≡ true) ⊎ (list_any p (file_if (is_taken before ext (store_name path ext)) (store_name path ext) 11) ≡ true) → NameFound lacking ext uses file rev k
    here (inl e) = let one = file-is (lacking path) (store_name path ext) 10 file rev k e in inl (path, u.0, one.0, one.1)
    here (inr e) = shared e

    by : (list_any p (of_name (lacking path) ext before path) ≡ true) ⊎ (list_any p (of_names lacking ext (path ∷ before) left) ≡ true) → (list_any p (of_names lacking ext (path ∷ before) left) ≡ true → NameFound lacking ext uses file rev k) → NameFound lacking ext uses file rev k
    by (inl e) rec = here (split-any p (file_if (lacking path) (store_name path ext) 10) (file_if (is_taken before ext (store_name path ext)) (store_name path ext) 11) e)
    by (inr e) rec = rec e

name-lacks : (lacking : List ℕ → Bool) (ext : Ext) (before left : List (List ℕ)) (path : List ℕ) → among path left ≡ true → lacking path ≡ true → list_any (is_finding (store_name path ext) None 10) (of_names lacking ext before left) ≡ true
name-lacks lacking ext before [] path e h = never (sym e)
name-lacks lacking ext before (x ∷ left) path e h = by (same path x) refl e (λ g. name-lacks lacking ext (x ∷ before) left path g h)
  where
    p : Finding → Bool
    p = is_finding (store_name path ext) None 10

    by : (b : Bool) → same path x ≡ b → (b || among path left) ≡ true → (among path left ≡ true → list_any p (of_names lacking ext (x ∷ before) left) ≡ true) → list_any p (of_name (lacking x) ext before x ++ of_names lacking ext (x ∷ before) left) ≡ true
    by true s g rec =
        in-front p (of_name (lacking x) ext before x) (of_names lacking ext (x ∷ before) left)
        (ap (λ y. list_any p (of_name (lacking y) ext before y)) (sym ((bytes_decides path x).0 s))
        ∙ in-front p (file_if (lacking path) (store_name path ext) 10) _ (is-file (lacking path) (store_name path ext) 10 h))
    by false s g rec = in-back p (of_name (lacking x) ext before x) (of_names lacking ext (x ∷ before) left) (rec g)

name-taken : (lacking : List ℕ → Bool) (ext : Ext) (before left : List (List ℕ)) (q y : List ℕ) → among q before ≡ true → among y left ≡ true → same (store_name y ext) (store_name q ext) ≡ true → list_any (is_finding (store_name y ext) None 11) (of_names lacking ext before left) ≡ true
name-taken lacking ext before [] q y b e h = never (sym e)
name-taken lacking ext before (x ∷ left) q y b e h = by (same y x) refl e (λ g. name-taken lacking ext (x ∷ before) left q y (or-true (same q x) b) g h)
  where
    p : Finding → Bool
    p = is_finding (store_name y ext) None 11

    or-true : (c : Bool) → among q before ≡ true → (c || among q before) ≡ true
    or-true true k = refl
    or-true false k = k

    by : (c : Bool) → same y x ≡ c → (c || among y left) ≡ true → (among y left ≡ true → list_any p (of_names lacking ext (x ∷ before) left) ≡ true) → list_any p (of_name (lacking x) ext before x ++ of_names lacking ext (x ∷ before) left) ≡ true
    by true s g rec =
        in-front p (of_name (lacking x) ext before x) (of_names lacking ext (x ∷ before) left)
        (ap (λ z. list_any p (of_name (lacking z) ext before z)) (sym ((bytes_decides y x).0 s))
        ∙ in-back p (file_if (lacking y) (store_name y ext) 10) _ (is-file (is_taken before ext (store_name y ext)) (store_name y ext) 11 (any-holds (λ z. same (store_name y ext) (store_name z ext)) before q b h)))
    by false s g rec = in-back p (of_name (lacking x) ext before x) (of_names lacking ext (x ∷ before) left) (rec g)

name-shared : (lacking : List ℕ → Bool) (ext : Ext) (before left : List (List ℕ)) (path other : List ℕ) → among path left ≡ true → among other left ≡ true → same other path ≡ false → same (store_name other ext) (store_name path ext) ≡ true
    → list_any (is_finding (store_name path ext) None 11) (of_names lacking ext before left) ≡ true
name-shared lacking ext before [] path other a b d h = never (sym a)
name-shared lacking ext before (x ∷ left) path other a b d h = by (same path x) refl a (same other x) refl b (λ e f. name-shared lacking ext (x ∷ before) left path other e f d h)
  where
    p : Finding → Bool
    p = is_finding (store_name path ext) None 11

    first : (y : List ℕ) → y ≡ x → (same y x || among y before) ≡ true
    first y e = ap (λ c. c || among y before) ((bytes_decides y x).1 e)

    by : (c : Bool) → same path x ≡ c → (c || among path left) ≡ true → (e : Bool) → same other x ≡ e → (e || among other left) ≡ true → (among path left ≡ true → among other left ≡ true → list_any p (of_names lacking ext (x ∷ before) left) ≡ true)
        → list_any p (of_name (lacking x) ext before x ++ of_names lacking ext (x ∷ before) left) ≡ true
    by true s f true u g rec = never (sym ((bytes_decides other path).1 ((bytes_decides other x).0 u ∙ sym ((bytes_decides path x).0 s))) ∙ d)
    by true s f false u g rec =
        in-back p (of_name (lacking x) ext before x) (of_names lacking ext (x ∷ before) left)
        (ap (λ z. list_any (is_finding z None 11) (of_names lacking ext (x ∷ before) left)) (sym ((bytes_decides (store_name other ext) (store_name path ext)).0 h))
        ∙ name-taken lacking ext (x ∷ before) left path other (first path ((bytes_decides path x).0 s)) g h)
    by false s f true u g rec =
        in-back p (of_name (lacking x) ext before x) (of_names lacking ext (x ∷ before) left)
        (name-taken lacking ext (x ∷ before) left other path (first other ((bytes_decides other x).0 u)) f (same-turned (store_name path ext) (store_name other ext) ∙ h))
    by false s f false u g rec = in-back p (of_name (lacking x) ext before x) (of_names lacking ext (x ∷ before) left) (rec f g)

-- ---- the parts

all-among : (xs ys : List (List ℕ)) → ((y : List ℕ) → among y ys ≡ true → among y xs ≡ true) → AllByRecursion (λ y. among y xs ≡ true) ys
all-among xs [] f = tt
all-among xs (y ∷ ys) f = (f y (ap (λ b. b || among y ys) (same-itself y)), all-among xs ys (λ z e. f z (or-true (same z y) (among z ys) e)))
  where
    or-true : (a b : Bool) → b ≡ true → (a || b) ≡ true
    or-true true b e = refl
    or-true false b e = e

none-before : (ys : List (List ℕ)) → AllByRecursion (λ y. among y [] ≡ false) ys
none-before [] = tt
none-before (y ∷ ys) = (refl, none-before ys)

lacking-so : (t : Tree) (path : List ℕ) (ext : Ext) (o : Option (List (List ℕ))) → value (names_of (bytes_at t fncache_path)) ≡ o → lacks o path ext ≡ true → has_file t path ext ≡ true → is_used (sight_of t) path ≡ true → IsFinding t (store_name path ext) None 10
lacking-so t path ext None e h f u = never (sym h)
lacking-so t path ext (Some xs) e h f u = by (names_of (bytes_at t fncache_path)) refl e
  where
    not-so : (b : Bool) → not b ≡ true → b ≡ false
    not-so true g = never (sym g)
    not-so false g = refl

    same-names : (a b : List (List ℕ)) → Some a ≡ Some b → a ≡ b
    same-names a b g = ap (elim [ None ↦ a | Some z ↦ z ]) g

    by : (r : Result (List (List ℕ)) _) → names_of (bytes_at t fncache_path) ≡ r → value r ≡ Some xs → IsFinding t (store_name path ext) None 10
    by (Ok ys) is g = findings.not_listed path ext ys u f is (ap (λ l. lists l path ext) (same-names ys xs g) ∙ not-so (lists xs path ext) h)
    by (Err fault) is g = absurd (clash g)
      where
        clash : (let o : Option (List (List ℕ)) = None in o) ≡ Some xs → ⊥
        clash k = cc

-- a used path's filelog has a file where it is not one of the inline ones
has-same : (t : Tree) (inline : List (Vec ℕ Global)) (path : List ℕ) (ext : Ext) → AreInline t inline → is_used (sight_of t) path ≡ true → has_name inline ext path ≡ has_file t path ext
has-same t inline path I are u = refl
has-same t inline path D are u = ap not (are path u)

both : (a b : Bool) → (a && b) ≡ true → (a ≡ true) × (b ≡ true)
both true b h = (refl, h)
both false b h = never (sym h)

pub names-added : (t : Tree) (inline : List (Vec ℕ Global)) (ext : Ext) (old new : List Finding) → AreInline t inline → new ≡ old ++ of_names (is_lacking (value (names_of (bytes_at t fncache_path))) inline ext) ext [] (used_paths (sight_of t)) → Adds t (IsNameOf t ext) old new
names-added t inline ext old new inlined e = list-added t (IsNameOf t ext) old new (of_names lacking ext [] (used_paths (sight_of t))) e are all
  where
    lacking : List ℕ → Bool
    lacking = is_lacking (value (names_of (bytes_at t fncache_path))) inline ext

    to_finding : (file : List ℕ) (rev : Option ℕ) (k : ℕ) → NameFound lacking ext (is_used (sight_of t)) file rev k → IsFinding t file rev k
    to_finding file rev k (inl f) =
        let two = both (has_name inline ext f.0) (lacks (value (names_of (bytes_at t fncache_path))) f.0 ext) f.2 in
        moved t (store_name f.0 ext) None 10 file rev k f.3 (lacking-so t f.0 ext (value (names_of (bytes_at t fncache_path))) refl two.1 (sym (has-same t inline f.0 ext inlined f.1) ∙ two.0) f.1)
    to_finding file rev k (inr f) = moved t (store_name f.0 ext) None 11 file rev k f.6 (findings.one_name f.0 f.1 ext f.2 f.3 f.4 f.5)

    are : (file : List ℕ) (rev : Option ℕ) (k : ℕ) → list_any (is_finding file rev k) (of_names lacking ext [] (used_paths (sight_of t))) ≡ true → IsFinding t file rev k
    are file rev k h =
        to_finding file rev k
        (names-are lacking ext (is_used (sight_of t)) [] (used_paths (sight_of t)) (ordered-sorted (flat_map (λ c. row_paths (rows_of_seen c)) (seen (sight_of t)))) (all-among (used_paths (sight_of t)) (used_paths (sight_of t)) (λ y g. g)) (λ y g. never (sym g)) (none-before (used_paths (sight_of t))) file rev k h)

    all : (file : List ℕ) (rev : Option ℕ) (k : ℕ) → IsNameOf t ext file rev k → list_any (is_finding file rev k) (of_names lacking ext [] (used_paths (sight_of t))) ≡ true
    all _ _ _ (not_listed path listed u f is lack) =
        name-lacks lacking ext [] (used_paths (sight_of t)) path u
        (ap (λ b. b && lacks (value (names_of (bytes_at t fncache_path))) path ext) (has-same t inline path ext inlined u ∙ f) ∙ ap (λ r. lacks (value r) path ext) is ∙ ap not lack)
    all _ _ _ (one_name path other a b d h) = name-shared lacking ext [] (used_paths (sight_of t)) path other a b d h

pub list-read : (t : Tree) (old new : List Finding) → new ≡ old ++ file_if (is_none (value (names_of (bytes_at t fncache_path)))) fncache_path 4 → Adds t (IsBadList t) old new
list-read t old new e = list-added t (IsBadList t) old new (file_if (is_none (value (names_of (bytes_at t fncache_path)))) fncache_path 4) e are all
  where
    none-so : {A : Type 0} (o : Option A) → is_none o ≡ true → is_some o ≡ false
    none-so None h = refl
    none-so (Some x) h = never (sym h)

    so-none : {A : Type 0} (o : Option A) → is_some o ≡ false → is_none o ≡ true
    so-none None h = refl
    so-none (Some x) h = never h

    are : (file : List ℕ) (rev : Option ℕ) (k : ℕ) → list_any (is_finding file rev k) (file_if (is_none (value (names_of (bytes_at t fncache_path)))) fncache_path 4) ≡ true → IsFinding t file rev k
    are file rev k h = let one = file-is (is_none (value (names_of (bytes_at t fncache_path)))) fncache_path 4 file rev k h in moved t fncache_path None 4 file rev k one.1 (findings.bad_fncache (none-so (value (names_of (bytes_at t fncache_path))) one.0))

    all : (file : List ℕ) (rev : Option ℕ) (k : ℕ) → IsBadList t file rev k → list_any (is_finding file rev k) (file_if (is_none (value (names_of (bytes_at t fncache_path)))) fncache_path 4) ≡ true
    all _ _ _ (bad_list h) = is-file (is_none (value (names_of (bytes_at t fncache_path)))) fncache_path 4 (so-none (value (names_of (bytes_at t fncache_path))) h)

pub both-added : (t : Tree) (IsFirst IsSecond : List ℕ → Option ℕ → ℕ → Type 0) (old mid new : List Finding) → Adds t IsFirst old mid → Adds t IsSecond mid new → Adds t (λ file rev kind. IsFirst file rev kind ⊎ IsSecond file rev kind) old new
both-added t IsFirst IsSecond old mid new a b = record {
  are = λ file rev kind h. by file rev kind (b.are file rev kind h);
  kept = λ file rev kind h. b.kept file rev kind (a.kept file rev kind h);
  all = λ file rev kind h. one file rev kind h;
}
  where
    by : (file : List ℕ) (rev : Option ℕ) (kind : ℕ) → (list_any (is_finding file rev kind) mid ≡ true) ⊎ IsFinding t file rev kind → (list_any (is_finding file rev kind) old ≡ true) ⊎ IsFinding t file rev kind
    by file rev kind (inl h) = a.are file rev kind h
    by file rev kind (inr h) = inr h

    one : (file : List ℕ) (rev : Option ℕ) (kind : ℕ) → IsFirst file rev kind ⊎ IsSecond file rev kind → list_any (is_finding file rev kind) new ≡ true
    one file rev kind (inl h) = b.kept file rev kind (a.all file rev kind h)
    one file rev kind (inr h) = b.all file rev kind h

-- ---- the names that are used

any-either : (f g : List ℕ → Bool) (xs : List (List ℕ)) → (list_any g xs || list_any f xs) ≡ list_any (λ x. f x || g x) xs
any-either f g [] = refl
any-either f g (x ∷ xs) = shuffle (g x) (f x) (list_any g xs) (list_any f xs) ∙ ap (λ b. (f x || g x) || b) (any-either f g xs)
  where
    shuffle : (a b c d : Bool) → ((a || c) || (b || d)) ≡ ((b || a) || (c || d))
    shuffle true true c d = refl
    shuffle true false c d = refl
    shuffle false true true d = refl
    shuffle false true false d = refl
    shuffle false false c d = refl

named-turned : (xs : List (List ℕ)) (ext : Ext) (name : List ℕ) → is_named xs ext name ≡ list_any (λ path. same (listed_name path ext) name) xs
named-turned [] ext name = refl
named-turned (x ∷ xs) ext name = ap (λ b. b || is_named xs ext name) (same-turned name (listed_name x ext)) ∙ ap (λ b. same (listed_name x ext) name || b) (named-turned xs ext name)

or-nothing : (a : Bool) → (a || false) ≡ a
or-nothing true = refl
or-nothing false = refl

pub unused-are : (t : Tree) (keys first : List (Vec ℕ Global)) (used : List (List ℕ)) → used ≡ used_paths (sight_of t) → ((name : List ℕ) → has_key first name ≡ (is_named used I name || false)) → ((name : List ℕ) → has_key keys name ≡ (is_named used D name || has_key first name))
    → (names : List (List ℕ)) → names ≡ names_in t → unused_files keys names ≡ unused_in t
unused-are t keys first used is f g names said = ap (unused_files keys) said ∙ ap (λ (h : List ℕ → Bool). map listed_file (filter h (names_in t))) (λ i name. each name i)
  where
    each : (name : List ℕ) → not (has_key keys name) ≡ not (is_name_used (sight_of t) name)
    each name = ap not
        (g name ∙ ap (λ b. is_named used D name || b) (f name ∙ or-nothing (is_named used I name))
        ∙ ap (λ b. b || is_named used I name) (named-turned used D name) ∙ ap (λ b. list_any (λ path. same (listed_name path D) name) used || b) (named-turned used I name)
        ∙ any-either (λ path. same (listed_name path I) name) (λ path. same (listed_name path D) name) used
        ∙ ap (list_any (λ path. same (listed_name path I) name || same (listed_name path D) name)) is)

pub all-listed : {F : Type 0} (P : List (List ℕ) → Type 0) (r : Result (List (List ℕ)) F) (o : Option (List (List ℕ))) → o ≡ value r → ((names : List (List ℕ)) → r ≡ Ok names → P names) → IfSome o P
all-listed P (Ok names) o e f = subst (λ x. IfSome x P) (sym e) (f names refl)
all-listed P (Err fault) o e f = subst (λ x. IfSome x P) (sym e) tt

pub none-from : {A : Type 0} (o : Option A) (b : Bool) → is_some o ≡ not b → b ≡ is_none o
none-from None true e = refl
none-from None false e = never (sym e)
none-from (Some x) true e = never e
none-from (Some x) false e = refl
