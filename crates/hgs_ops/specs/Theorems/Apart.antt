-- The names of filelogs' files are apart from the paths that a transaction writes beside them.
use Rattle.std.proofs.Common.{◌≡◌, ℕ, List, [], ◌∷◌, ◌++◌, true, false, refl, sym, ◌∙◌, ap, ◌⊎◌, inl, inr}
use Rattle.std.specs.Prelude.{codes}
use Rattle.std.specs.List.{list_all}
use Rattle.hgs_bytes.specs.Bytes.{same, among}
use Rattle.hgs_bytes.specs.Theorems.ByteLemmas.{same-eq}
use Rattle.hgs_path.specs.declared.name.Ext.{Ext}
use Rattle.hgs_path.specs.ListedNames.{is_listed}
use Rattle.hgs_path.specs.StoreName.{store_name}
use Rattle.hgs_stands.specs.Places.{own_files}
use Rattle.hgs_stands.specs.Stands.{listed_file}
use Rattle.hgs_stands.specs.Theorems.ApartLemmas.{store-d, line-d}
use Rattle.hgs_ops.specs.Theorems.Touch.{bool, never, or-both, and-left, and-right}

-- all paths of a store and of its transactions that are no filelog's
abbrev pub fixed : List (List ℕ)
fixed = own_files ++ codes "journal.new.requires" ∷ codes "store/00changelog.i.a" ∷ codes "store/journal.new.journal" ∷ []

pub stores-fixed : (path : List ℕ) (ext : Ext) → among (store_name path ext) fixed ≡ false
stores-fixed path ext = let d = store-d path ext in ap (λ z. among (codes "store/" ++ z) fixed) d.1

pub lines-fixed : (name : List ℕ) → is_listed name ≡ true → among (listed_file name) fixed ≡ false
lines-fixed name is = let d = line-d name is in ap (λ z. among z fixed) d.1

-- what is not in a list is not in a part of it
pub among-part : (xs ys : List (List ℕ)) (p : List ℕ) → list_all (λ x. among x ys) xs ≡ true → among p ys ≡ false → among p xs ≡ false
among-part [] ys p a b = refl
among-part (x ∷ xs) ys p a b = or-both (same p x) (among p xs) (by (bool (same p x))) (among-part xs ys p (and-right (among x ys) _ a) b)
  where
    by : (same p x ≡ true) ⊎ (same p x ≡ false) → same p x ≡ false
    by (inl h) = never (sym (and-left (among x ys) _ a) ∙ ap (λ q. among q ys) (sym (same-eq p x h)) ∙ b)
    by (inr h) = h
