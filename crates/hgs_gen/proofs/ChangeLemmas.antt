-- The files of generated changesets: their order, their paths and their lengths.
use Rattle.std.proofs.Common.{◌≡◌, ℕ, zero, suc, ◌+◌, ◌<◌, ◌≤◌, ◌^◌, Bool, true, false, List, [], ◌∷◌, ◌++◌, length, length-append, refl, sym, ◌∙◌, ap, subst, arith}
use Rattle.std.specs.Prelude.{◌==◌, nat_lt, cond, decimal, None}
use Rattle.std.specs.List.{AllByRecursion}
use Rattle.std.specs.Cmp.Lexicographic.{slice_cmp, nat_list_cmp_total, lists_ties}
use Rattle.std.specs.Ordering.{nat_cmp, is_lt, is_eq, ordering_reverse}
use Rattle.std.specs.declared.cmp.Ordering.{Ordering}
use Rattle.std.specs.declared.cmp.Ordering.TheVariants.{Less, Equal, Greater}
use Rattle.std.specs.Cmp.{unsigned_ties}
use Rattle.std.specs.Str.Parse.{AllDigits}
use Rattle.std.proofs.lemmas.Bool.{and_parts, and_from, true≢false, false_from_ne_true, leb-false, eqb-true}
use Rattle.std.proofs.lemmas.Fmt.{length-decimal-le, decimal_is_IsNumeral}
use Rattle.hgs_bytes.specs.Bytes.{same, is_below}
use Rattle.hgs_bytes.specs.Text.{ascends, Lacks}
use Rattle.hgs_bytes.specs.Theorems.ByteLemmas.{same-eq}
use Rattle.hgs_index.specs.declared.kinds.Flag.TheVariants.{Plain}
use Rattle.hgs_model.specs.declared.files.NewFile.{NewFile}
use Rattle.hgs_model.specs.Valid.{new_paths}
use Rattle.hgs_gen.specs.Generated.{number_after, path_of, text_of, with_text, files_after}
use Rattle.hgs_gen.proofs.PathLemmas.{IsGood, good}

never : {A : Type 0} → true ≡ false → A
never e = absurd (true≢false e)

-- of two different texts one is below the other
below-or : (x y : List ℕ) → same x y ≡ false → is_below x y ≡ false → is_below y x ≡ true
below-or x y a b = by (slice_cmp nat_cmp x y) refl
  where
    tied : same x y ≡ is_eq (slice_cmp nat_cmp x y)
    tied = lists_ties nat_cmp unsigned_ties x y

    by : (o : Ordering) → slice_cmp nat_cmp x y ≡ o → is_below y x ≡ true
    by Less e = never (sym (ap is_lt e) ∙ b)
    by Equal e = never (sym (tied ∙ ap is_eq e) ∙ a)
    by Greater e = ap is_lt (nat_list_cmp_total.antisymm y x ∙ ap ordering_reverse e)

-- ---- their order

-- by whether the first file's path is below, or the same
ascend-by : (path text x : List ℕ) (f : NewFile) (files : List NewFile) (below the_same : Bool) → is_below f.path path ≡ below → same f.path path ≡ the_same →
    is_below x path ≡ true → ascends (x ∷ f.path ∷ new_paths files) ≡ true →
    (is_below f.path path ≡ true → ascends (f.path ∷ new_paths (with_text path text files)) ≡ true) →
    ascends (x ∷ new_paths (with_text path text (f ∷ files))) ≡ true
ascend-by path text x f files true t b s h all more =
    let parts = and_parts (is_below x f.path) (ascends (f.path ∷ new_paths files)) all in
    rw b (and_from (is_below x f.path) _ parts.0 (more b))
ascend-by path text x f files false true b s h all more =
    let is : f.path ≡ path = same-eq f.path path s in
    rw (b, s) (subst (λ (p : List ℕ). ascends (x ∷ p ∷ new_paths files) ≡ true) is all)
ascend-by path text x f files false false b s h all more =
    let parts = and_parts (is_below x f.path) (ascends (f.path ∷ new_paths files)) all in
    rw (b, s) (and_from (is_below x path) _ h (and_from (is_below path f.path) _ (below-or f.path path s b) parts.1))

ascend-behind : (path text x : List ℕ) (files : List NewFile) → is_below x path ≡ true → ascends (x ∷ new_paths files) ≡ true → ascends (x ∷ new_paths (with_text path text files)) ≡ true
ascend-behind path text x [] h all = and_from (is_below x path) true h refl
ascend-behind path text x (f ∷ files) h all =
    let parts = and_parts (is_below x f.path) (ascends (f.path ∷ new_paths files)) all in
    ascend-by path text x f files (is_below f.path path) (same f.path path) refl refl h all (λ b. ascend-behind path text f.path files b parts.1)

first-by : (path text : List ℕ) (f : NewFile) (files : List NewFile) (below the_same : Bool) → is_below f.path path ≡ below → same f.path path ≡ the_same →
    ascends (f.path ∷ new_paths files) ≡ true → ascends (new_paths (with_text path text (f ∷ files))) ≡ true
first-by path text f files true t b s all = rw b (ascend-behind path text f.path files b all)
first-by path text f files false true b s all =
    let is : f.path ≡ path = same-eq f.path path s in
    rw (b, s) (subst (λ (p : List ℕ). ascends (p ∷ new_paths files) ≡ true) is all)
first-by path text f files false false b s all = rw (b, s) (and_from (is_below path f.path) _ (below-or f.path path s b) all)

ascend : (path text : List ℕ) (files : List NewFile) → ascends (new_paths files) ≡ true → ascends (new_paths (with_text path text files)) ≡ true
ascend path text [] all = refl
ascend path text (f ∷ files) all = first-by path text f files (is_below f.path path) (same f.path path) refl refl all

-- ---- their paths and bodies

pub record IsFile (f : NewFile) : Type 0 where
  pub path : IsGood f.path
  pub source : f.from ≡ None
  pub short : length f.body ≤ 42

all-by : (path text : List ℕ) (f : NewFile) (files : List NewFile) (below the_same : Bool) → is_below f.path path ≡ below → same f.path path ≡ the_same →
    IsFile (record { path = path; flag = Plain; from = None; body = text }) → IsFile f → AllByRecursion IsFile files → AllByRecursion IsFile (with_text path text files) →
    AllByRecursion IsFile (with_text path text (f ∷ files))
all-by path text f files true t b s this one all more = rw b (one, more)
all-by path text f files false true b s this one all more = rw (b, s) (this, all)
all-by path text f files false false b s this one all more = rw (b, s) (this, (one, all))

all-with : (path text : List ℕ) (files : List NewFile) → IsFile (record { path = path; flag = Plain; from = None; body = text }) → AllByRecursion IsFile files → AllByRecursion IsFile (with_text path text files)
all-with path text [] this all = (this, tt)
all-with path text (f ∷ files) this all = all-by path text f files (is_below f.path path) (same f.path path) refl refl this all.0 all.1 (all-with path text files this all.1)

longer-by : (path text : List ℕ) (f : NewFile) (files : List NewFile) (below the_same : Bool) → is_below f.path path ≡ below → same f.path path ≡ the_same →
    length (with_text path text files) ≤ length files + 1 → length (with_text path text (f ∷ files)) ≤ length files + 2
longer-by path text f files true t b s more = rw b (omega (arith, more))
longer-by path text f files false true b s more = rw (b, s) (omega arith)
longer-by path text f files false false b s more = rw (b, s) (omega arith)

longer : (path text : List ℕ) (files : List NewFile) → length (with_text path text files) ≤ length files + 1
longer path text [] = omega arith
longer path text (f ∷ files) =
    let by = longer-by path text f files (is_below f.path path) (same f.path path) refl refl (longer path text files) in
    omega (arith, by)

-- ---- the files after some changesets

small : (seed n : ℕ) → seed < 2 ^ 64 → number_after seed n < 2 ^ 64
small seed zero lt = lt
small seed (suc n) lt = omega arith

short-text : (made x : ℕ) → made < 2 ^ 64 → x < 2 ^ 64 → length (text_of made x) ≤ 42
short-text made x a b =
    let first = length-decimal-le 20 made (omega arith) (omega (arith, a)) a in
    let second = length-decimal-le 20 x (omega arith) (omega (arith, b)) b in
    let joined = length-append (decimal made) (32 ∷ (decimal x ++ 10 ∷ [])) in
    let behind = length-append (decimal x) (10 ∷ []) in
    omega (arith, first, second, joined, behind)

pub files-good : (seed n : ℕ) → seed < 2 ^ 64 → n < 2 ^ 64 → AllByRecursion IsFile (files_after seed n)
files-good seed zero lt few = tt
files-good seed (suc n) lt few =
    all-with (path_of (number_after seed (suc n))) (text_of n (number_after seed (suc n))) (files_after seed n)
    (record { path = good (number_after seed (suc n)); source = refl; short = short-text n (number_after seed (suc n)) (omega (arith, few)) (small seed (suc n) lt) }) (files-good seed n lt (omega (arith, few)))

pub files-ascend : (seed n : ℕ) → ascends (new_paths (files_after seed n)) ≡ true
files-ascend seed zero = refl
files-ascend seed (suc n) = ascend (path_of (number_after seed (suc n))) (text_of n (number_after seed (suc n))) (files_after seed n) (files-ascend seed n)

pub files-few : (seed n : ℕ) → length (files_after seed n) ≤ n
files-few seed zero = omega arith
files-few seed (suc n) =
    let more = longer (path_of (number_after seed (suc n))) (text_of n (number_after seed (suc n))) (files_after seed n) in
    let before = files-few seed n in
    omega (arith, more, before)

-- ---- numbers in names

digit-by : (t : Bool) (c rest : ℕ) → nat_lt c 48 ≡ t → cond t 36 rest < 10 → 48 ≤ c
digit-by true c rest e h = absurd (omega (arith, h))
digit-by false c rest e h = let k = leb-false (suc c) 48 e in omega (arith, k)

digits-lack : (ds : List ℕ) → AllDigits 10 ds → Lacks 10 ds
digits-lack [] all = tt
digits-lack (c ∷ cs) all =
    let least : 48 ≤ c = digit-by (nat_lt c 48) c _ refl all.0 in
    (false_from_ne_true (c == 10) (λ t. let e = eqb-true c 10 t in absurd (omega (arith, e, least))), digits-lack cs all.1)

pub number-lacks : (n : ℕ) → n < 2 ^ 64 → Lacks 10 (decimal n)
number-lacks n lt = digits-lack (decimal n) (decimal_is_IsNumeral n lt).0.1
