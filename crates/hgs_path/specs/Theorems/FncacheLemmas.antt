-- Names in the list and the files that have them.
use Rattle.std.proofs.Common.{◌≡◌, ℕ, ◌+◌, ◌-◌, Bool, true, false, cond, ◌&&◌, ◌||◌, List, [], ◌∷◌, ◌++◌, length, take, drop, Option, Some, None, Result, Ok, Err, refl, sym, ap, ◌∙◌, subst, arith, length-append}
use Rattle.std.specs.Prelude.{◌==◌, codes, IfOk}
use Rattle.std.specs.declared.alloc.AllocError.{AllocError}
use Rattle.std.specs.Option.{option_map}
use Rattle.std.specs.List.{AllByRecursion, onto_first}
use Rattle.std.proofs.lemmas.Bool.{false_from_ne_true}
use Rattle.std.proofs.lemmas.List.{take_at, drop_at}
use Rattle.std.proofs.lemmas.List.Splits.{join_with_byte-slice_split}
use Rattle.hgs_bytes.specs.Bytes.{same, among}
use Rattle.hgs_bytes.specs.Path.{components}
use Rattle.hgs_bytes.specs.Text.{split, Lacks}
use Rattle.hgs_bytes.specs.Theorems.ByteLemmas.{same-eq, same-refl}
use Rattle.hgs_bytes.specs.Theorems.TextLemmas.{split_over, lacks-append}
use Rattle.hgs_path.specs.declared.name.Ext.{Ext}
use Rattle.hgs_path.specs.declared.name.Ext.TheVariants.{I, D}
use Rattle.hgs_path.specs.declared.fncache.FncacheFault.{FncacheFault}
use Rattle.hgs_path.specs.declared.fncache.FncacheFault.TheVariants.{Line}
use Rattle.std.specs.Prelude.{Vec}
use Rattle.std.specs.declared.alloc.Global.{Global}
use Rattle.std.specs.declared.cmp.Ordering.{Ordering}
use Rattle.std.specs.declared.cmp.Ordering.TheVariants.{Less, Equal, Greater}
use Rattle.std.specs.BTreeSet.{insert_key}
use Rattle.std.specs.Cmp.Lexicographic.{slice_cmp}
use Rattle.std.specs.Ordering.{nat_cmp, is_eq, match_ordering}
use Rattle.hgs_files.specs.Theorems.TreeLemmas.{same_path-refl, same_path-eq}
use Rattle.hgs_path.specs.StoreName.{ext_text, joined, ends_in, map_front, marked_directory, directory_step, listed_name}
use Rattle.hgs_path.specs.Fncache.{as_files, listed_in, listing, with_both, with_file, with_named}
use Rattle.hgs_path.specs.declared.fncache.Fncache.{Fncache}
use Rattle.hgs_path.specs.ListedNames.{unmarked_directory, undone_step, inner_within, path_within, ext_within, file_named, is_listed, with_name, names_from}
use Rattle.hgs_path.specs.Owners.{has_path}
use Rattle.hgs_path.specs.Theorems.PartLemmas.{components-split, components-whole, components-some, listed-front}

-- ---- parts without slashes

abbrev pub AllLack : List (List ℕ) → Type 0
AllLack parts = AllByRecursion (Lacks 47) parts

onto-lack : (x : ℕ) (parts : List (List ℕ)) → (x == 47) ≡ false → AllByRecursion (Lacks 47) parts → AllByRecursion (Lacks 47) (onto_first x parts)
onto-lack x [] s h = ((s, tt), tt)
onto-lack x (part ∷ parts) s h = ((s, h.0), h.1)

lack-step : (t : Bool) (x : ℕ) (parts : List (List ℕ)) → (x == 47) ≡ t → AllByRecursion (Lacks 47) parts → AllByRecursion (Lacks 47) (cond t ([] ∷ parts) (onto_first x parts))
lack-step true x parts e h = (tt, h)
lack-step false x parts e h = onto-lack x parts e h

pub components-lack : (xs : List ℕ) → AllByRecursion (Lacks 47) (components xs)
components-lack [] = (tt, tt)
components-lack (x ∷ xs) = lack-step (x == 47) x (components xs) refl (components-lack xs)

no-split : (xs : List ℕ) → Lacks 47 xs → split 47 xs ≡ None
no-split [] h = refl
no-split (x ∷ xs) h = ap (λ t. cond {A = Option (List ℕ × List ℕ)} t (Some ([], xs)) (option_map (λ y. (x ∷ y.0, y.1)) (split 47 xs))) h.0 ∙ ap (option_map (λ y. (x ∷ y.0, y.1))) (no-split xs h.1)

pub parts-again : (part : List ℕ) (parts : List (List ℕ)) → AllByRecursion (Lacks 47) (part ∷ parts) → components (joined (part ∷ parts)) ≡ part ∷ parts
parts-again part [] h = components-whole part (no-split part h.0)
parts-again part (next ∷ parts) h = components-split (part ++ 47 ∷ joined (next ∷ parts)) (part, joined (next ∷ parts)) (split_over 47 part (joined (next ∷ parts)) h.0) ∙ ap (λ l. part ∷ l) (parts-again next parts h.1)

pub joined-again : (xs : List ℕ) → joined (components xs) ≡ xs
joined-again xs = join_with_byte-slice_split 47 xs

-- ---- the directory step and back

by_end : (t : Bool) (d : List ℕ) → Lacks 47 d → Lacks 47 (cond t (d ++ codes ".hg") d)
by_end true d h = lacks-append 47 d (codes ".hg") h (refl, (refl, (refl, tt)))
by_end false d h = h

marked-lack : (d : List ℕ) → Lacks 47 d → Lacks 47 (marked_directory d)
marked-lack d h = by_end (ends_in d (codes ".hg") || ends_in d (codes ".i") || ends_in d (codes ".d")) d h

front-lack : (parts : List (List ℕ)) → AllByRecursion (Lacks 47) parts → AllByRecursion (Lacks 47) (map_front marked_directory parts)
front-lack [] h = tt
front-lack (part ∷ []) h = h
front-lack (part ∷ next ∷ parts) h = (marked-lack part h.0, front-lack (next ∷ parts) h.1)

or-none : (a b : Bool) → (a || b) ≡ false → (a ≡ false) × (b ≡ false)
or-none true b h = cc
or-none false b h = (refl, h)

pub ends-appended : (xs end : List ℕ) → ends_in (xs ++ end) end ≡ true
ends-appended xs end =
    let n : length (xs ++ end) - length end ≡ length xs = omega (arith, length-append xs end) in
    ap (λ k. same (drop k (xs ++ end)) end) n ∙ ap (λ l. same l end) (drop_at xs end (length xs) refl) ∙ same-refl end

pub front-appended : (xs end : List ℕ) → take (length (xs ++ end) - length end) (xs ++ end) ≡ xs
front-appended xs end =
    let n : length (xs ++ end) - length end ≡ length xs = omega (arith, length-append xs end) in
    ap (λ k. take k (xs ++ end)) n ∙ take_at xs end (length xs) refl

unmarked-marked : (d : List ℕ) → unmarked_directory (marked_directory d) ≡ d
unmarked-marked d = by (ends_in d (codes ".hg") || ends_in d (codes ".i") || ends_in d (codes ".d")) refl
  where
    by : (t : Bool) → (ends_in d (codes ".hg") || ends_in d (codes ".i") || ends_in d (codes ".d")) ≡ t → unmarked_directory (cond t (d ++ codes ".hg") d) ≡ d
    by true e = ap (λ t. cond t (take (length (d ++ codes ".hg") - 3) (d ++ codes ".hg")) (d ++ codes ".hg")) (ends-appended d (codes ".hg")) ∙ front-appended d (codes ".hg")
    by false e = ap (λ t. cond t (take (length d - 3) d) d) (or-none (ends_in d (codes ".hg")) (ends_in d (codes ".i")) (or-none _ (ends_in d (codes ".d")) e).0).0

front-back : (parts : List (List ℕ)) → map_front unmarked_directory (map_front marked_directory parts) ≡ parts
front-back [] = refl
front-back (part ∷ []) = refl
front-back (part ∷ next ∷ []) = ap (λ d. d ∷ next ∷ []) (unmarked-marked part)
front-back (part ∷ next ∷ last ∷ parts) = let d = unmarked-marked part in let rest = front-back (next ∷ last ∷ parts) in λ i. d i ∷ rest i

front-some : (parts : List (List ℕ)) (y : List ℕ) (ys : List (List ℕ)) → parts ≡ y ∷ ys → (z : List ℕ) × (zs : List (List ℕ)) × (map_front marked_directory parts ≡ z ∷ zs)
front-some [] y ys e = cc
front-some (part ∷ []) y ys e = (part, [], refl)
front-some (part ∷ next ∷ parts) y ys e = (marked_directory part, map_front marked_directory (next ∷ parts), refl)

-- the parts of a listed name
pub directory-parts : (xs : List ℕ) → components (directory_step xs) ≡ map_front marked_directory (components xs)
directory-parts xs =
    let some = components-some xs in
    let front = front-some (components xs) some.0 some.1 some.2 in
    let lacks = subst (AllByRecursion (Lacks 47)) front.2 (front-lack (components xs) (components-lack xs)) in
    ap (λ l. components (joined l)) front.2 ∙ parts-again front.0 front.1 lacks ∙ sym front.2

pub undone-step : (xs : List ℕ) → undone_step (directory_step xs) ≡ xs
undone-step xs = ap (λ l. joined (map_front unmarked_directory l)) (directory-parts xs) ∙ ap joined (front-back (components xs)) ∙ joined-again xs

-- ---- the file of a name

pub inner-again : (path : List ℕ) (ext : Ext) → inner_within (listed_name path ext) ≡ path ++ ext_text ext
inner-again path ext = ap (λ l. undone_step (drop 5 l)) (listed-front path ext) ∙ undone-step (path ++ ext_text ext)

ext-length : (path : List ℕ) (ext : Ext) → take (length (path ++ ext_text ext) - 2) (path ++ ext_text ext) ≡ path
ext-length path I = front-appended path (codes ".i")
ext-length path D = front-appended path (codes ".d")

pub path-again : (path : List ℕ) (ext : Ext) → path_within (listed_name path ext) ≡ path
path-again path ext = ap (λ l. take (length l - 2) l) (inner-again path ext) ∙ ext-length path ext

pub other-end : (path : List ℕ) → ends_in (path ++ codes ".d") (codes ".i") ≡ false
other-end path =
    let n : length (path ++ codes ".d") - 2 ≡ length path = omega (arith, length-append path (codes ".d")) in
    ap (λ k. same (drop k (path ++ codes ".d")) (codes ".i")) n ∙ ap (λ l. same l (codes ".i")) (drop_at path (codes ".d") (length path) refl)

ext-by : (path : List ℕ) (ext : Ext) → cond {A = Ext} (ends_in (path ++ ext_text ext) (codes ".i")) I D ≡ ext
ext-by path I = ap (λ t. cond {A = Ext} t I D) (ends-appended path (codes ".i"))
ext-by path D = ap (λ t. cond {A = Ext} t I D) (other-end path)

pub ext-again : (path : List ℕ) (ext : Ext) → ext_within (listed_name path ext) ≡ ext
ext-again path ext = ap (λ l. cond {A = Ext} (ends_in l (codes ".i")) I D) (inner-again path ext) ∙ ext-by path ext

-- files with one listed name are one file
pub listed-once : (p q : List ℕ) (e f : Ext) → listed_name p e ≡ listed_name q f → (p ≡ q) × (e ≡ f)
listed-once p q e f is = (sym (path-again p e) ∙ ap path_within is ∙ path-again q f, sym (ext-again p e) ∙ ap ext_within is ∙ ext-again q f)

-- ---- one more name

bool-same : (a b : Bool) → (a ≡ true → b ≡ true) → (b ≡ true → a ≡ true) → a ≡ b
bool-same true b f g = sym (f refl)
bool-same false true f g = g refl
bool-same false false f g = refl

or-false : (a b : Bool) → b ≡ false → a ≡ (a || b)
or-false true b h = refl
or-false false b h = sym h

apart : (p q : List ℕ) → same (listed_name p I) (listed_name q D) ≡ false
apart p q = false_from_ne_true (same (listed_name p I) (listed_name q D)) (λ e. no (listed-once p q I D (same-eq (listed_name p I) (listed_name q D) e)).1)
  where
    no : ◌≡◌ {A = Ext} I D → ⊥
    no h = cc

apart-back : (p q : List ℕ) → same (listed_name p D) (listed_name q I) ≡ false
apart-back p q = false_from_ne_true (same (listed_name p D) (listed_name q I)) (λ e. no (listed-once p q D I (same-eq (listed_name p D) (listed_name q I) e)).1)
  where
    no : ◌≡◌ {A = Ext} D I → ⊥
    no h = cc

same-listed : (q p : List ℕ) (x : Ext) → same q p ≡ same (listed_name q x) (listed_name p x)
same-listed q p x = bool-same _ _ (λ e. ap (λ l. same (listed_name q x) (listed_name l x)) (sym (same-eq q p e)) ∙ same-refl (listed_name q x)) (λ e. ap (same q) (sym (listed-once q p x x (same-eq (listed_name q x) (listed_name p x) e)).0) ∙ same-refl q)

pub with-one : (files : List ℕ → Ext → Bool) (p : List ℕ) (e : Ext) (q : List ℕ) (x : Ext) → with_file files p e q x ≡ (files q x || same (listed_name q x) (listed_name p e))
with-one files p I q I = ap (λ t. files q I || t) (same-listed q p I)
with-one files p I q D = or-false (files q D) _ (apart-back q p)
with-one files p D q I = or-false (files q I) _ (apart q p)
with-one files p D q D = ap (λ t. files q D || t) (same-listed q p D)

-- a name adds the file that has it, and nothing where none has
pub with-name : (files : List ℕ → Ext → Bool) (name : List ℕ) (q : List ℕ) (x : Ext) → with_named files (file_named name) q x ≡ (files q x || same (listed_name q x) name)
with-name files name q x = by (same (listed_name (path_within name) (ext_within name)) name) refl
  where
    none : same (listed_name (path_within name) (ext_within name)) name ≡ false → same (listed_name q x) name ≡ true → ⊥
    none f e =
        let is = same-eq (listed_name q x) name e in
        let path = ap path_within (sym is) ∙ path-again q x in
        let ext = ap ext_within (sym is) ∙ ext-again q x in
        let there : listed_name (path_within name) (ext_within name) ≡ name = ap (λ p. listed_name p (ext_within name)) path ∙ ap (listed_name q) ext ∙ is in
        let yes : same (listed_name (path_within name) (ext_within name)) name ≡ true = ap (λ l. same l name) there ∙ same-refl name in
        cc

    by : (t : Bool) → same (listed_name (path_within name) (ext_within name)) name ≡ t → with_named files (cond {A = Option (List ℕ × Ext)} t (Some (path_within name, ext_within name)) None) q x ≡ (files q x || same (listed_name q x) name)
    by true e = with-one files (path_within name) (ext_within name) q x ∙ ap (λ l. files q x || same (listed_name q x) l) (same-eq (listed_name (path_within name) (ext_within name)) name e)
    by false e = or-false (files q x) (same (listed_name q x) name) (false_from_ne_true (same (listed_name q x) name) (none e))

-- ---- one more path

abbrev at_path : List ℕ → List ℕ → Bool
at_path q p = is_eq (slice_cmp nat_cmp q p)

at-same : (q p : List ℕ) → at_path q p ≡ same q p
at-same q p = bool-same (at_path q p) (same q p) (λ e. ap (same q) (sym (same_path-eq q p e)) ∙ same-refl q) (λ e. ap (at_path q) (sym (same-eq q p e)) ∙ same_path-refl q)

or-swap : (a b c : Bool) → (a || (b || c)) ≡ ((b || c) || a)
or-swap true true c = refl
or-swap true false true = refl
or-swap true false false = refl
or-swap false true c = refl
or-swap false false true = refl
or-swap false false false = refl

or-twice : (a b : Bool) → (a || b) ≡ ((a || b) || a)
or-twice true b = refl
or-twice false true = refl
or-twice false false = refl

or-assoc : (a b c : Bool) → (a || (b || c)) ≡ ((a || b) || c)
or-assoc true b c = refl
or-assoc false b c = refl

module _ (cmp : Vec ℕ Global → Vec ℕ Global → Ordering) (is : (a b : Vec ℕ Global) → cmp a b ≡ slice_cmp nat_cmp a.items b.items) (q : List ℕ) (k : Vec ℕ Global) where
  insert-step : (o : Ordering) (x : Vec ℕ Global) (xs inserted : List (Vec ℕ Global)) → cmp k x ≡ o → has_path inserted q ≡ (has_path xs q || at_path q k.items)
      → has_path (match_ordering o (k ∷ x ∷ xs) (x ∷ xs) (x ∷ inserted)) q ≡ (has_path (x ∷ xs) q || at_path q k.items)
  insert-step Less x xs inserted e h = or-swap (at_path q k.items) (at_path q x.items) (has_path xs q)
  insert-step Equal x xs inserted e h =
      let items : k.items ≡ x.items = same_path-eq k.items x.items (ap is_eq (sym (is k x) ∙ e)) in
      or-twice (at_path q x.items) (has_path xs q) ∙ ap (λ p. (at_path q x.items || has_path xs q) || at_path q p) (sym items)
  insert-step Greater x xs inserted e h = ap (λ b. at_path q x.items || b) h ∙ or-assoc (at_path q x.items) (has_path xs q) (at_path q k.items)

  has-inserted : (keys : List (Vec ℕ Global)) → has_path (insert_key cmp keys k) q ≡ (has_path keys q || at_path q k.items)
  has-inserted [] = or-none-right (at_path q k.items)
    where
      or-none-right : (a : Bool) → (a || false) ≡ a
      or-none-right true = refl
      or-none-right false = refl
  has-inserted (x ∷ xs) = insert-step (cmp k x) x xs (insert_key cmp xs k) refl (has-inserted xs)

  pub path-inserted : (keys : List (Vec ℕ Global)) → has_path (insert_key cmp keys k) q ≡ (has_path keys q || same q k.items)
  path-inserted keys = has-inserted keys ∙ ap (λ b. has_path keys q || b) (at-same q k.items)

-- ---- what a text lists, line by line

-- these files, and those that the names have
abbrev pub files_more : (List ℕ → Ext → Bool) → Result (List (List ℕ)) FncacheFault → Result (List ℕ → Ext → Bool) FncacheFault
files_more files (Ok names) = Ok (λ q x. files q x || among (listed_name q x) names)
files_more files (Err e) = Err e

by-parts : (f g : List ℕ → Ext → Bool) → ((q : List ℕ) (x : Ext) → f q x ≡ g q x) → f ≡ g
by-parts f g h = λ i q x. h q x i

more-name : (files : List ℕ → Ext → Bool) (name : List ℕ) (r : Result (List (List ℕ)) FncacheFault) → files_more (with_named files (file_named name)) r ≡ files_more files (with_name name r)
more-name files name (Ok names) = ap Ok (by-parts _ _ (λ q x. ap (λ b. b || among (listed_name q x) names) (with-name files name q x) ∙ sym (or-assoc (files q x) (same (listed_name q x) name) (among (listed_name q x) names))))
more-name files name (Err e) = refl

pub more-line : (files : List ℕ → Ext → Bool) (n : ℕ) (name : List ℕ) (ls : List (List ℕ × Bool)) → is_listed name ≡ true → files_more (with_named files (file_named name)) (names_from (n + 1) ls) ≡ files_more files (names_from n ((name, true) ∷ ls))
more-line files n name ls h = more-name files name (names_from (n + 1) ls) ∙ ap (λ t. files_more files (cond t (with_name name (names_from (n + 1) ls)) (Err (Line n)))) (sym h)

pub bad-line : (files : List ℕ → Ext → Bool) (n : ℕ) (name : List ℕ) (whole : Bool) (ls : List (List ℕ × Bool)) → (whole && is_listed name) ≡ false → files_more files (names_from n ((name, whole) ∷ ls)) ≡ Err (Line n)
bad-line files n name whole ls h = ap (λ t. files_more files (cond t (with_name name (names_from (n + 1) ls)) (Err (Line n)))) h

or-nothing : (b : Bool) → (b || false) ≡ b
or-nothing true = refl
or-nothing false = refl

pub files-end : (files : List ℕ → Ext → Bool) (n : ℕ) → files_more files (names_from n []) ≡ Ok files
files-end files n = ap Ok (by-parts _ _ (λ q x. or-nothing (files q x)))

pub files-start : (files : List ℕ → Ext → Bool) → files ≡ (λ path ext. false) → (r : Result (List (List ℕ)) FncacheFault) → files_more files r ≡ as_files r
files-start files h (Ok names) = ap (λ f. Ok (λ q x. f q x || among (listed_name q x) names)) h
files-start files h (Err e) = refl

module _ (ks ds : List (Vec ℕ Global)) (k : Vec ℕ Global) (cmp : Vec ℕ Global → Vec ℕ Global → Ordering) (is : (a b : Vec ℕ Global) → cmp a b ≡ slice_cmp nat_cmp a.items b.items) where
  pub index-added : listed_in (insert_key cmp ks k) ds ≡ with_file (listed_in ks ds) k.items I
  index-added = by-parts (listed_in (insert_key cmp ks k) ds) (with_file (listed_in ks ds) k.items I) each
    where
      each : (q : List ℕ) (x : Ext) → listed_in (insert_key cmp ks k) ds q x ≡ with_file (listed_in ks ds) k.items I q x
      each q I = path-inserted cmp is q k ks
      each q D = refl

  pub data-added : listed_in ks (insert_key cmp ds k) ≡ with_file (listed_in ks ds) k.items D
  data-added = by-parts (listed_in ks (insert_key cmp ds k)) (with_file (listed_in ks ds) k.items D) each
    where
      each : (q : List ℕ) (x : Ext) → listed_in ks (insert_key cmp ds k) q x ≡ with_file (listed_in ks ds) k.items D q x
      each q I = refl
      each q D = path-inserted cmp is q k ds

-- both files of a path, one after the other
pub both-added : (files : List ℕ → Ext → Bool) (path : List ℕ) → with_file (with_file files path I) path D ≡ with_both files path
both-added files path = by-parts (with_file (with_file files path I) path D) (with_both files path) each
  where
    each : (q : List ℕ) (x : Ext) → with_file (with_file files path I) path D q x ≡ with_both files path q x
    each q I = refl
    each q D = refl

pub both-given : (r : Result Fncache AllocError) (files between : List ℕ → Ext → Bool) (path p q : List ℕ) → p ≡ path → q ≡ path → between ≡ with_file files p I → IfOk r (λ f. listing f ≡ with_file between q D) → IfOk r (λ f. listing f ≡ with_both files path)
both-given (Err e) files between path p q first second step h = h
both-given (Ok f) files between path p q first second step h =
    h ∙ ap (λ x. with_file between x D) second ∙ ap (λ fs. with_file fs path D) (step ∙ ap (λ x. with_file files x I) first) ∙ both-added files path
