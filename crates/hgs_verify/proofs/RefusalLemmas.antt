-- Why a verification is refused.
use Rattle.std.proofs.Common.{◌≡◌, ◌||◌, ◌++◌, ℕ, Bool, true, false, List, [], ◌∷◌, cond, refl, sym, ap, subst, inl, inr}
use Rattle.std.specs.Prelude.{⊤, Option, Some, None, IfErr, IfSome, IsErr, IsErrAnd, Result, Ok, Err, unwrap_or}
use Rattle.std.specs.Bool.{MatchBool}
use Rattle.std.specs.Cmp.Lexicographic.{bytes_decides}
use Rattle.hgs_bytes.specs.Bytes.{among, same}
use Rattle.hgs_files.specs.declared.op.Op.{Op}
use Rattle.hgs_files.specs.Tree.{Tree, bytes_at}
use Rattle.hgs_findings.specs.Reading.{Log, index_in, index_path, sight_of, the_filelog}
use Rattle.hgs_findings.specs.Regular.{is_used}
use Rattle.hgs_index.specs.declared.kinds.Which.TheVariants.{Part}
use Rattle.hgs_load.specs.declared.answer.ReadAnswer.{ReadAnswer}
use Rattle.hgs_load.specs.declared.answer.ReadAnswer.TheVariants.{Damaged, Fault, Limit, UnknownPath, NotARepository, Requirement, Memory}
use Rattle.hgs_load.specs.Answer.{is_of_outside}
use Rattle.hgs_load.specs.Form.{most_inline_index}
use Rattle.hgs_load.specs.Open.{most_bookmarks_text, most_dirstate, most_roots}
use Rattle.hgs_load.specs.Theorems.GivenLemmas.{handed-on}
use Rattle.hgs_load.specs.Whole.{is_above, within}
use Rattle.hgs_stands.specs.Places.{bookmarks_path, dirstate_path, fncache_path, roots_path}
use Rattle.hgs_verify.specs.Parts.{is_long_inline}
use Rattle.hgs_verify.specs.Refusal.{IsLimited, IsOfIndex, IsOfLog, IsOfPaths, IsWhy, has_long_log, has_long_text, is_read, long_index, long_log, long_text, most_fncache, required_in}
use Rattle.hgs_verify.specs.Task.{IsReadOf}
use Rattle.hgs_verify.specs.declared.task.Task.{Task}

never : {A : Type 0} → false ≡ true → A
never e = absurd (no_case e)
  where
    no_case : false ≡ true → ⊥
    no_case h = cc

pub on-left : (a b : Bool) → a ≡ true → (a || b) ≡ true
on-left true b e = refl
on-left false b e = never e

pub on-right : (a b : Bool) → b ≡ true → (a || b) ≡ true
on-right true b e = refl
on-right false b e = e

-- what holds of each list of operations
pub of-all : (seen : Option (List Op)) (P : List Op → Type 0) → ((log : List Op) → P log) → IfSome seen P
of-all None P f = tt
of-all (Some log) P f = f log

-- ---- of the outside

pub outside-limited : (e : ReadAnswer) (t : Tree) → is_of_outside e ≡ true → IsLimited e t
outside-limited (Damaged d) t h = never h
outside-limited Fault t h = tt
outside-limited (Limit w) t h = never h
outside-limited UnknownPath t h = never h
outside-limited NotARepository t h = never h
outside-limited (Requirement w) t h = never h
outside-limited Memory t h = tt

-- ---- files that are too long

pub roots-long : (t : Tree) → is_above most_roots (t roots_path) ≡ true → has_long_text t ≡ true
roots-long t = by (is_above most_roots (t roots_path)) (is_above most_bookmarks_text (t bookmarks_path)) (is_above most_dirstate (t dirstate_path)) (is_above most_fncache (t fncache_path))
  where
    by : (a b c d : Bool) → a ≡ true → (a || b || c || d) ≡ true
    by true b c d e = refl
    by false b c d e = never e

pub names-long : (t : Tree) → is_above most_fncache (t fncache_path) ≡ true → has_long_text t ≡ true
names-long t = by (is_above most_roots (t roots_path)) (is_above most_bookmarks_text (t bookmarks_path)) (is_above most_dirstate (t dirstate_path)) (is_above most_fncache (t fncache_path))
  where
    by : (a b c d : Bool) → d ≡ true → (a || b || c || d) ≡ true
    by true b c d e = refl
    by false true c d e = refl
    by false false true d e = refl
    by false false false d e = e

too-long : (most : ℕ) (o : Option (List ℕ)) (e : ReadAnswer) → within most Ok o ≡ Err e → (e ≡ Limit Part) × (is_above most o ≡ true)
too-long most o e h = by (is_above most o) refl h
  where
    by : (b : Bool) → is_above most o ≡ b → (let r : Result (Option (List ℕ)) ReadAnswer = cond b (Err (Limit Part)) (Ok o) in r) ≡ Err e → (e ≡ Limit Part) × (is_above most o ≡ true)
    by true a k = (sym (ap (elim [ Ok x ↦ Limit Part | Err z ↦ z ]) k), a)
    by false a k = absurd (clash k)
      where
        clash : (let r : Result (Option (List ℕ)) ReadAnswer = Ok o in r) ≡ Err e → ⊥
        clash m = cc

pub text-limited : (most : ℕ) (path : List ℕ) (e : ReadAnswer) (t : Tree) → (is_above most (t path) ≡ true → has_long_text t ≡ true) → MatchBool (is_of_outside e) ⊤ (within most Ok (t path) ≡ Err e) → IsLimited e t
text-limited most path e t long h = by (is_of_outside e) refl h
  where
    by : (b : Bool) → is_of_outside e ≡ b → MatchBool b ⊤ (within most Ok (t path) ≡ Err e) → IsLimited e t
    by true out k = outside-limited e t out
    by false out k = let is = too-long most (t path) e k in subst (λ x. IsLimited x t) (sym is.0) (long_text (long is.1) refl)

-- ---- indexes

pub index-limited : (log : Log) (e : ReadAnswer) (t : Tree) → is_read t log ≡ true → IsOfIndex (index_in t log) e → IsLimited e t
index-limited log (Damaged d) t r u = absurd u
index-limited log Fault t r u = tt
index-limited log (Limit w) t r u = long_index log r u
index-limited log UnknownPath t r u = absurd u
index-limited log NotARepository t r u = absurd u
index-limited log (Requirement w) t r u = absurd u
index-limited log Memory t r u = tt

pub log-limited : (log : Log) (e : ReadAnswer) (t : Tree) → (is_long_inline most_inline_index (bytes_at t (index_path log)) ≡ true → has_long_log t ≡ true) → is_read t log ≡ true → IsOfLog log e t → IsLimited e t
log-limited log e t long r (inl p) = subst (λ x. IsLimited x t) (sym p.0) (long_log (long p.1) refl)
log-limited log e t long r (inr u) = index-limited log e t r u

-- ---- some of the paths

pub among-before : (path : List ℕ) (xs ys : List (List ℕ)) → among path xs ≡ true → among path (xs ++ ys) ≡ true
among-before path [] ys h = never h
among-before path (x ∷ xs) ys h = by (same path x) h (among-before path xs ys)
  where
    by : (b : Bool) → (b || among path xs) ≡ true → (among path xs ≡ true → among path (xs ++ ys) ≡ true) → (b || among path (xs ++ ys)) ≡ true
    by true k more = refl
    by false k more = more k

pub among-behind : (path : List ℕ) (xs ys : List (List ℕ)) → among path ys ≡ true → among path (xs ++ ys) ≡ true
among-behind path [] ys h = h
among-behind path (x ∷ xs) ys h = on-right (same path x) (among path (xs ++ ys)) (among-behind path xs ys h)

pub first-among : (path : List ℕ) (paths : List (List ℕ)) → among path (path ∷ paths) ≡ true
first-among path paths = on-left (same path path) (among path paths) ((bytes_decides path path).1 refl)

-- the filelog of one of the paths was refused
pub one-of-paths : (paths : List (List ℕ)) (task : Task) (e : ReadAnswer) (t : Tree) → IsReadOf task t → among task.path paths ≡ true → IsOfIndex (unwrap_or task.parts.index []) e → IsOfPaths paths e t
one-of-paths paths task e t read there is = (task.path, there, subst (λ index. IsOfIndex index e) read.0 is)

pub paths-limited : (paths : List (List ℕ)) (e : ReadAnswer) (t : Tree) → ((path : List ℕ) → among path paths ≡ true → is_used (sight_of t) path ≡ true) → IsOfPaths paths e t → IsLimited e t
paths-limited paths e t used p = index-limited (the_filelog p.0) e t (used p.0 p.1) p.2

-- ---- the whole

-- the refusal that a call hands on
pub at-err : {V : Type 0} (r : Result V ReadAnswer) (e : ReadAnswer) (P : ReadAnswer → Type 0) → IsErr r → IsErrAnd r (λ x. x ≡ e) → P e → IfErr r P
at-err r e P is same p = handed-on (λ x. IfErr x P) r e is same p

-- refused behind `requires`
pub limited-why : (e : ReadAnswer) (t : Tree) → required_in t ≡ Ok tt → IsLimited e t → IsWhy e t
limited-why (Damaged d) t r u = absurd u
limited-why Fault t r u = tt
limited-why (Limit w) t r u = inr (r, u)
limited-why UnknownPath t r u = absurd u
limited-why NotARepository t r u = absurd u
limited-why (Requirement w) t r u = absurd u
limited-why Memory t r u = tt
