-- Names of files, path by path.
use Rattle.std.proofs.Common.{◌≡◌, ℕ, zero, suc, List, [], ◌∷◌, ◌++◌, Bool, true, false, cond, ◌||◌, not, map, take, append_assoc, append-nil, refl, sym, ◌∙◌, ap, subst}
use Rattle.std.specs.Prelude.{Option, Some, None, Vec, slice_get, filter}
use Rattle.std.specs.List.{AllByRecursion}
use Rattle.std.specs.BTreeSet.{BTreeSet}
use Rattle.std.specs.declared.alloc.Global.{Global}
use Rattle.hgs_bytes.specs.Bytes.{same}
use Rattle.hgs_path.specs.declared.name.Ext.{Ext}
use Rattle.hgs_path.specs.ListedNames.{listed_file}
use Rattle.hgs_path.specs.StoreName.{store_name}
use Rattle.hgs_findings.specs.Findings.{Finding}
use Rattle.hgs_report.specs.Lines.{file_if, has_key}
use Rattle.hgs_report.specs.Names.{IsSetOf, is_lacking, is_taken, of_name, of_names, unused_files}

-- those that are left, behind those that were entered
pub record Went (listed : Option (BTreeSet (Vec ℕ Global))) (inline : List (Vec ℕ Global)) (ext : Ext) (all left : List (List ℕ)) (start now : List Finding) (taken : List (Vec ℕ Global)) : Type 0 where
  pub before : List (List ℕ)
  pub files : (file : List ℕ) → has_key taken file ≡ is_taken before ext file
  pub goes : (names : Option (List (List ℕ))) → IsSetOf names listed → now ++ of_names (is_lacking names inline ext) ext before left ≡ start ++ of_names (is_lacking names inline ext) ext [] all

pub went-on : (listed : Option (BTreeSet (Vec ℕ Global))) (inline : List (Vec ℕ Global)) (ext : Ext) (all left : List (List ℕ)) (path : List ℕ) (start now next : List Finding) (taken more : List (Vec ℕ Global)) → Went listed inline ext all (path ∷ left) start now taken
    → ((names : Option (List (List ℕ))) (before : List (List ℕ)) → IsSetOf names listed → ((file : List ℕ) → has_key taken file ≡ is_taken before ext file) → next ≡ now ++ of_name (is_lacking names inline ext path) ext before path)
    → ((file : List ℕ) → has_key more file ≡ (same file (store_name path ext) || has_key taken file)) → Went listed inline ext all left start next more
went-on listed inline ext all left path start now next taken more w found entered = record {
  before = path ∷ w.before;
  files = λ file. entered file ∙ ap (λ b. same file (store_name path ext) || b) (w.files file);
  goes = λ names is. ap (λ l. l ++ of_names (is_lacking names inline ext) ext (path ∷ w.before) left) (found names w.before is w.files) ∙ append_assoc now (of_name (is_lacking names inline ext path) ext w.before path) (of_names (is_lacking names inline ext) ext (path ∷ w.before) left) ∙ w.goes names is;
}

pub all-went : (listed : Option (BTreeSet (Vec ℕ Global))) (inline : List (Vec ℕ Global)) (ext : Ext) (all : List (List ℕ)) (start now : List Finding) (taken : List (Vec ℕ Global)) → Went listed inline ext all [] start now taken → (names : Option (List (List ℕ))) → IsSetOf names listed → now ≡ start ++ of_names (is_lacking names inline ext) ext [] all
all-went listed inline ext all start now taken w names is = sym (append-nil now) ∙ w.goes names is

or-nothing : (a : Bool) → (a || false) ≡ a
or-nothing true = refl
or-nothing false = refl

pub none-left : (a b : Bool) → (a || false) ≡ b → a ≡ b
none-left a b e = sym (or-nothing a) ∙ e

pub swapped : (a b c : Bool) → ((a || b) || c) ≡ (b || (a || c))
swapped true true c = refl
swapped true false c = refl
swapped false true c = refl
swapped false false c = refl

pub unused-more : (keys : List (Vec ℕ Global)) (names : List (List ℕ)) (i : ℕ) (x : List ℕ) → slice_get names i ≡ Some x → unused_files keys (take (suc i) names) ≡ unused_files keys (take i names) ++ unused_files keys (x ∷ [])
unused-more keys [] i x at = absurd (clash at)
  where
    clash : None ≡ Some x → ⊥
    clash h = cc
unused-more keys (y ∷ names) zero x at = ap (λ z. unused_files keys (z ∷ [])) (some-same y x at)
  where
    some-same : (a b : List ℕ) → Some a ≡ Some b → a ≡ b
    some-same a b h = ap (elim [ None ↦ a | Some z ↦ z ]) h
unused-more keys (y ∷ names) (suc i) x at = by (not (has_key keys y)) (unused-more keys names i x at)
  where
    by : (b : Bool) → unused_files keys (take (suc i) names) ≡ unused_files keys (take i names) ++ unused_files keys (x ∷ [])
        → map listed_file (cond b (y ∷ filter (λ name. not (has_key keys name)) (take (suc i) names)) (filter (λ name. not (has_key keys name)) (take (suc i) names)))
        ≡ map listed_file (cond b (y ∷ filter (λ name. not (has_key keys name)) (take i names)) (filter (λ name. not (has_key keys name)) (take i names))) ++ unused_files keys (x ∷ [])
    by true rec = ap (λ l. listed_file y ∷ l) rec
    by false rec = rec

pub all-at : {A : Type 0} (P : A → Type 0) (xs : List A) (i : ℕ) (x : A) → AllByRecursion P xs → slice_get xs i ≡ Some x → P x
all-at P [] i x all e = absurd (clash e)
  where
    clash : None ≡ Some x → ⊥
    clash h = cc
all-at {A = A} P (y ∷ xs) zero x all e = subst P (some-same y x e) all.0
  where
    some-same : (a b : A) → Some a ≡ Some b → a ≡ b
    some-same a b h = ap (elim [ None ↦ a | Some z ↦ z ]) h
all-at P (y ∷ xs) (suc i) x all e = all-at P xs i x all.1 e

pub name-found : (names : Option (List (List ℕ))) (inline : List (Vec ℕ Global)) (ext : Ext) (before : List (List ℕ)) (path file key : List ℕ) (lacking new : Bool) (keys : List (Vec ℕ Global)) (old first last : List Finding) → file ≡ store_name path ext → lacking ≡ is_lacking names inline ext path → new ≡ not (has_key keys key) → key ≡ file
    → ((f : List ℕ) → has_key keys f ≡ is_taken before ext f) → first ≡ old ++ file_if lacking file 10 → last ≡ first ++ file_if (not new) file 11 → last ≡ old ++ of_name (is_lacking names inline ext path) ext before path
name-found names inline ext before path file key lacking new keys old first last is lack fresh same_key entered one two =
    two ∙ ap (λ l. l ++ file_if (not new) file 11) one ∙ append_assoc old (file_if lacking file 10) (file_if (not new) file 11)
    ∙ ap (λ b. old ++ (file_if b file 10 ++ file_if (not new) file 11)) lack
    ∙ ap (λ b. old ++ (file_if (is_lacking names inline ext path) file 10 ++ file_if b file 11)) (ap not fresh ∙ twice (has_key keys key) ∙ ap (has_key keys) same_key ∙ entered file)
    ∙ ap (λ f. old ++ (file_if (is_lacking names inline ext path) f 10 ++ file_if (is_taken before ext f) f 11)) is
  where
    twice : (b : Bool) → not (not b) ≡ b
    twice true = refl
    twice false = refl
