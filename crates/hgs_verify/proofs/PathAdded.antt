-- What a path adds to the findings.
use Rattle.std.proofs.Common.{◌≡◌, ◌⊎◌, ℕ, Bool, true, false, ◌||◌, List, [], ◌∷◌, ◌++◌, refl, sym, ◌∙◌, ap, subst, inl, inr}
use Rattle.std.specs.Prelude.{Option, Some, None, IfSome, ◌==◌}
use Rattle.std.specs.List.{list_any}
use Rattle.hgs_files.specs.declared.op.Op.{Op}
use Rattle.hgs_files.specs.Tree.{Tree, after_all}
use Rattle.hgs_path.specs.declared.name.Ext.TheVariants.{I, D}
use Rattle.hgs_path.specs.StoreName.{store_name}
use Rattle.hgs_findings.specs.Findings.{Finding, is_finding}
use Rattle.hgs_findings.specs.OnePath.{Word, words}
use Rattle.hgs_findings.specs.Reading.{the_filelog, index_in, data_in, sight_of}
use Rattle.hgs_judge.specs.declared.path.PathFindings.{PathFindings}
use Rattle.hgs_judge.specs.Found.{IsFoundAt, IsFoundOf}
use Rattle.hgs_judge.specs.Path.{IsJudged}
use Rattle.hgs_judge.specs.Report.{of_path}
use Rattle.hgs_verify.specs.Added.{AddsPath}

abbrev pub AreFound : Type 0
AreFound = (index_file data_file index data_bytes : List ℕ) (all : List Word) (f : PathFindings) → IsJudged index data_bytes all f → (file : List ℕ) (rev : Option ℕ) (kind : ℕ) → list_any (is_finding file rev kind) (of_path index_file data_file f) ≡ true → IsFoundAt index_file data_file index data_bytes all file rev kind

abbrev pub AllFound : Type 0
AllFound = (index_file data_file index data_bytes : List ℕ) (all : List Word) (f : PathFindings) → IsJudged index data_bytes all f → (file : List ℕ) (rev : Option ℕ) (kind : ℕ) → IsFoundAt index_file data_file index data_bytes all file rev kind → (kind == 9) ≡ false → list_any (is_finding file rev kind) (of_path index_file data_file f) ≡ true

any-append : (p : Finding → Bool) (xs ys : List Finding) → list_any p (xs ++ ys) ≡ (list_any p xs || list_any p ys)
any-append p [] ys = refl
any-append p (x ∷ xs) ys = by (p x) (any-append p xs ys)
  where
    by : (b : Bool) → list_any p (xs ++ ys) ≡ (list_any p xs || list_any p ys) → (b || list_any p (xs ++ ys)) ≡ ((b || list_any p xs) || list_any p ys)
    by true rec = refl
    by false rec = rec

either : (a b : Bool) → (a || b) ≡ true → (a ≡ true) ⊎ (b ≡ true)
either true b e = inl refl
either false b e = inr e

or-right : (a b : Bool) → b ≡ true → (a || b) ≡ true
or-right true b e = refl
or-right false b e = e

or-left : (a b : Bool) → a ≡ true → (a || b) ≡ true
or-left true b e = refl
or-left false b e = absurd (no_left e)
  where
    no_left : false ≡ true → ⊥
    no_left h = cc

pub path-added : AreFound → AllFound → (t : Tree) (path : List ℕ) (f : PathFindings) (old new : List Finding) (wrong : List Bool) (all : List Word)
    → IsJudged (index_in t (the_filelog path)) (data_in t (the_filelog path)) all f → all ≡ words (sight_of t) path → new ≡ old ++ of_path (store_name path I) (store_name path D) f → wrong ≡ f.listed_wrongly.items → AddsPath path old new wrong t
path-added are every t path f old new wrong all judged said added lists = record {
  are = λ file rev kind e. by file rev kind (either (list_any (is_finding file rev kind) old) (list_any (is_finding file rev kind) (of_path (store_name path I) (store_name path D) f)) (sym (joined (is_finding file rev kind)) ∙ e));
  kept = λ file rev kind e. joined (is_finding file rev kind) ∙ or-left (list_any (is_finding file rev kind) old) (list_any (is_finding file rev kind) (of_path (store_name path I) (store_name path D) f)) e;
  all = λ file rev kind e other. joined (is_finding file rev kind) ∙ or-right (list_any (is_finding file rev kind) old) (list_any (is_finding file rev kind) (of_path (store_name path I) (store_name path D) f)) (every (store_name path I) (store_name path D) (index_in t (the_filelog path)) (data_in t (the_filelog path)) (words (sight_of t) path) f here file rev kind e other);
  lists = lists ∙ here.listed_wrongly;
}
  where
    here : IsJudged (index_in t (the_filelog path)) (data_in t (the_filelog path)) (words (sight_of t) path) f
    here = subst (λ l. IsJudged (index_in t (the_filelog path)) (data_in t (the_filelog path)) l f) said judged

    joined : (p : Finding → Bool) → list_any p new ≡ (list_any p old || list_any p (of_path (store_name path I) (store_name path D) f))
    joined p = ap (list_any p) added ∙ any-append p old (of_path (store_name path I) (store_name path D) f)

    by : (file : List ℕ) (rev : Option ℕ) (kind : ℕ) → (list_any (is_finding file rev kind) old ≡ true) ⊎ (list_any (is_finding file rev kind) (of_path (store_name path I) (store_name path D) f) ≡ true) → (list_any (is_finding file rev kind) old ≡ true) ⊎ IsFoundOf t path file rev kind
    by file rev kind (inl e) = inl e
    by file rev kind (inr e) = inr (are (store_name path I) (store_name path D) (index_in t (the_filelog path)) (data_in t (the_filelog path)) (words (sight_of t) path) f here file rev kind e)

pub if-each : (seen : Option (List Op)) (start : Tree) (P Q : Tree → Type 0) → ((t : Tree) → P t → Q t) → IfSome seen (λ log. P (after_all log start)) → IfSome seen (λ log. Q (after_all log start))
if-each None start P Q f p = tt
if-each (Some log) start P Q f p = f (after_all log start) p
