-- The list of filelogs has both names of each used path.
use Rattle.std.proofs.Common.{◌≡◌, ◌⊎◌, ℕ, List, [], ◌∷◌, ◌++◌, true, false, ◌||◌, refl, sym, ◌∙◌, ap, inl, inr, append_assoc, append-nil}
use Rattle.std.specs.Prelude.{Result, Ok, Err, is_ok}
use Rattle.std.specs.List.{AllByRecursion}
use Rattle.hgs_bytes.specs.Bytes.{same, among}
use Rattle.hgs_bytes.specs.Text.{line, lines}
use Rattle.hgs_index.specs.TrackedPath.{is_tracked}
use Rattle.hgs_model.specs.History.{no_history}
use Rattle.hgs_model.specs.IsRepo.{IsRepo}
use Rattle.hgs_model.specs.Repo.{Repo}
use Rattle.hgs_path.specs.declared.name.Ext.{Ext}
use Rattle.hgs_path.specs.declared.name.Ext.TheVariants.{I, D}
use Rattle.hgs_path.specs.declared.check.PathFault.{PathFault}
use Rattle.hgs_path.specs.Check.{checked}
use Rattle.hgs_path.specs.ListedNames.{names_of}
use Rattle.hgs_path.specs.StoreName.{listed_name}
use Rattle.hgs_stands.specs.Stands.{IsUsedName, ListsFilelogs}
use Rattle.hgs_built.specs.Built.{both_names, tree_of, used_paths}
use Rattle.hgs_built.proofs.Basics.{never, bool, same-eq, among-first, among-more}
use Rattle.hgs_built.proofs.Below.{NameLaws}
use Rattle.hgs_built.proofs.PathLemmas.{among-used, used-tracked}

checked-ok : (laws : NameLaws) (path : List ℕ) → is_tracked path ≡ true → checked path ≡ Ok tt
checked-ok laws path e = by (checked path) (laws.tracked path ∙ e)
  where
    by : (o : Result (Unit {0}) PathFault) → is_ok o ≡ true → o ≡ Ok tt
    by (Ok tt) h = refl
    by (Err f) h = never (sym h)

-- ---- the text

names-read : (laws : NameLaws) (paths : List (List ℕ)) (text : List ℕ) (names : List (List ℕ)) → ((q : List ℕ) → among q paths ≡ true → is_tracked q ≡ true) → names_of text ≡ Ok names → names_of (text ++ lines (both_names paths)) ≡ Ok (names ++ both_names paths)
names-read laws [] text names good e = ap names_of (append-nil text) ∙ e ∙ ap (λ l. Ok l) (sym (append-nil names))
names-read laws (o ∷ paths) text names good e =
    ap names_of (sym (append_assoc text (line a) (line b ++ lines (both_names paths))) ∙ sym (append_assoc (text ++ line a) (line b) (lines (both_names paths))))
    ∙ names-read laws paths ((text ++ line a) ++ line b) ((names ++ a ∷ []) ++ b ∷ []) (λ q x. good q (among-more q o paths x)) (laws.added o D (text ++ line a) (names ++ a ∷ []) ok (laws.added o I text names ok e))
    ∙ ap (λ l. Ok l) (append_assoc (names ++ a ∷ []) (b ∷ []) (both_names paths) ∙ append_assoc names (a ∷ []) (b ∷ both_names paths))
  where
    a : List ℕ
    a = listed_name o I

    b : List ℕ
    b = listed_name o D

    ok : checked o ≡ Ok tt
    ok = checked-ok laws o (good o (among-first o paths))

-- ---- its names

name-there : (p : List ℕ) (ext : Ext) (paths : List (List ℕ)) → among p paths ≡ true → among (listed_name p ext) (both_names paths) ≡ true
name-there p ext [] e = never (sym e)
name-there p ext (o ∷ paths) e = by (bool (same p o)) ext (name-there p ext paths)
  where
    by : (same p o ≡ true) ⊎ (same p o ≡ false) → (x : Ext) → (among p paths ≡ true → among (listed_name p x) (both_names paths) ≡ true) → among (listed_name p x) (listed_name o I ∷ listed_name o D ∷ both_names paths) ≡ true
    by (inl g) I rec = ap (λ z. among (listed_name p I) (listed_name z I ∷ listed_name z D ∷ both_names paths)) (sym (same-eq p o g)) ∙ among-first (listed_name p I) (listed_name p D ∷ both_names paths)
    by (inl g) D rec = ap (λ z. among (listed_name p D) (listed_name z I ∷ listed_name z D ∷ both_names paths)) (sym (same-eq p o g)) ∙ among-more (listed_name p D) (listed_name p I) (listed_name p D ∷ both_names paths) (among-first (listed_name p D) (both_names paths))
    by (inr g) x rec = among-more (listed_name p x) (listed_name o I) (listed_name o D ∷ both_names paths) (among-more (listed_name p x) (listed_name o D) (both_names paths) (rec (sym (ap (λ b. b || among p paths) g) ∙ e)))

all-names : (P : List ℕ → Type 0) (paths : List (List ℕ)) → ((q : List ℕ) (ext : Ext) → among q paths ≡ true → P (listed_name q ext)) → AllByRecursion P (both_names paths)
all-names P [] each = tt
all-names P (o ∷ paths) each = (each o I (among-first o paths), (each o D (among-first o paths), all-names P paths (λ q ext a. each q ext (among-more q o paths a))))

pub filelogs-listed : (laws : NameLaws) (r : Repo) → IsRepo r → ListsFilelogs (tree_of r) r.changesets
filelogs-listed laws r is = record {
  names = both_names (used_paths r.changesets);
  text = names-read laws (used_paths r.changesets) [] [] (λ q a. used-tracked q no_history r.changesets is.changesets (sym (among-used q r.changesets) ∙ a)) refl;
  listed = λ path ext used has. name-there path ext (used_paths r.changesets) (among-used path r.changesets ∙ used);
  used = all-names (IsUsedName (tree_of r) r.changesets) (used_paths r.changesets) (λ q ext a. inr (q, ext, sym (among-used q r.changesets) ∙ a, refl));
}
