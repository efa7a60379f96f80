-- Ancestors in a history, and in one that goes on from it.
use Rattle.std.proofs.Common.{◌≡◌, ◌⊎◌, ◌<◌, ◌≤◌, ℕ, zero, suc, ◌+◌, List, [], ◌∷◌, ◌++◌, length, Option, Some, None, refl, sym, ◌∙◌, ap, inl, inr, arith}
use Rattle.std.specs.Prelude.{IfSome, slice_get}
use Rattle.hgs_index.specs.Ancestor.{IsAncestor, itself, of_parent, IsParent}
use Rattle.hgs_index.specs.Revision.{Parents, ParentsBefore}
use Rattle.hgs_branch.specs.Tracked.{numbers_in, parents_in}
use Rattle.hgs_branch.specs.declared.reach.Known.{Known}
use Rattle.hgs_branch.proofs.ListLemmas.{get_front, get_low, get_map, length_map, length_more, map_more, none_is, some_is}

-- ---- parents and ancestors

parent_low : (start : ℕ) (history : List Parents) (c p : ℕ) → ParentsBefore start history → IsParent history p c → p < start + c
parent_low start [] c p b h = absurd (none_is _ h.1)
parent_low start (x ∷ history) zero p b h = elim h.2 [
  | inl first ↦ low x.0 b.0 (ap (λ (y : Parents). y.0) (some_is x h.0 h.1) ∙ first)
  | inr second ↦ low x.1 b.1 (ap (λ (y : Parents). y.1) (some_is x h.0 h.1) ∙ second)
]
  where
    low : (o : Option ℕ) → IfSome o (λ a. a < start) → o ≡ Some p → p < start + 0
    low None k e = absurd (none_is p e)
    low (Some q) k e = let same = some_is q p e in omega (arith, k, same)
parent_low start (x ∷ history) (suc c) p b h = let k = parent_low (suc start) history c p b.2 h in omega (arith, k)

pub parent_before : (history : List Parents) (p c : ℕ) → ParentsBefore 0 history → IsParent history p c → p < c
parent_before history p c b h = let k = parent_low 0 history c p b h in omega (arith, k)

pub ancestor_low : (history : List Parents) (a c : ℕ) → ParentsBefore 0 history → IsAncestor history a c → a ≤ c
ancestor_low history a c b itself = omega arith
ancestor_low history a c b (of_parent {p = p} par rest) = let k = ancestor_low history a p b rest in let l = parent_before history p c b par in omega (arith, k, l)

pub ancestor_further : (history : List Parents) (a b c : ℕ) → IsAncestor history a b → IsAncestor history b c → IsAncestor history a c
ancestor_further history a b c h itself = h
ancestor_further history a b c h (of_parent par rest) = of_parent par (ancestor_further history a b _ h rest)

abbrev pub HasParent : Known → ℕ → Type 0
HasParent k p = (k.p1 ≡ Some p) ⊎ (k.p2 ≡ Some p)

pub parent_in : (known : List Known) (n : ℕ) (k : Known) (p : ℕ) → slice_get known n ≡ Some k → HasParent k p → IsParent (parents_in known) p n
parent_in known n k p there h = ((k.p1, k.p2), get_map (λ (x : Known). (x.p1, x.p2)) known n k there, h)

pub parent_of : (known : List Known) (n : ℕ) (k : Known) (p : ℕ) → slice_get known n ≡ Some k → IsParent (parents_in known) p n → HasParent k p
parent_of known n k p there h = elim h.2 [
  | inl first ↦ inl (ap (λ (y : Parents). y.0) same ∙ first)
  | inr second ↦ inr (ap (λ (y : Parents). y.1) same ∙ second)
]
  where
    same : (k.p1, k.p2) ≡ h.0
    same = some_is (k.p1, k.p2) h.0 (sym (get_map (λ (x : Known). (x.p1, x.p2)) known n k there) ∙ h.1)

-- ---- a longer history

pub front_before : (start : ℕ) (xs ys : List Parents) → ParentsBefore start (xs ++ ys) → ParentsBefore start xs
front_before start [] ys b = tt
front_before start (x ∷ xs) ys b = (b.0, b.1, front_before (suc start) xs ys b.2)

pub parent_shorter : (xs ys : List Parents) (p c : ℕ) → c < length xs → IsParent (xs ++ ys) p c → IsParent xs p c
parent_shorter xs ys p c lt h = (h.0, sym (get_front xs ys c lt) ∙ h.1, h.2)

pub parent_longer : (xs ys : List Parents) (p c : ℕ) → IsParent xs p c → IsParent (xs ++ ys) p c
parent_longer xs ys p c h = (h.0, get_front xs ys c (get_low xs c h.0 h.1) ∙ h.1, h.2)

pub ancestor_shorter : (xs ys : List Parents) (a c : ℕ) → ParentsBefore 0 (xs ++ ys) → c < length xs → IsAncestor (xs ++ ys) a c → IsAncestor xs a c
ancestor_shorter xs ys a c b lt itself = itself
ancestor_shorter xs ys a c b lt (of_parent {p = p} par rest) =
    let low = parent_before (xs ++ ys) p c b par in of_parent (parent_shorter xs ys p c lt par) (ancestor_shorter xs ys a p b (omega (arith, low, lt)) rest)

pub ancestor_longer : (xs ys : List Parents) (a c : ℕ) → IsAncestor xs a c → IsAncestor (xs ++ ys) a c
ancestor_longer xs ys a c itself = itself
ancestor_longer xs ys a c (of_parent {p = p} par rest) = of_parent (parent_longer xs ys p c par) (ancestor_longer xs ys a p rest)

-- the same parents and branches, and one more of each
pub record Longer (known : List Known) (k : Known) (more : List Known) : Type 0 where
  pub parents : parents_in more ≡ parents_in known ++ (k.p1, k.p2) ∷ []
  pub numbers : numbers_in more ≡ numbers_in known ++ k.branch ∷ []
  pub long : length (numbers_in known) ≡ length known
  pub long_parents : length (parents_in known) ≡ length known
  pub size : length more ≡ length known + 1

pub longer : (known : List Known) (k : Known) → Longer known k (known ++ k ∷ [])
longer known k = record {
  parents = map_more (λ (x : Known). (x.p1, x.p2)) known k;
  numbers = map_more (λ (x : Known). x.branch) known k;
  long = length_map (λ (x : Known). x.branch) known;
  long_parents = length_map (λ (x : Known). (x.p1, x.p2)) known;
  size = length_more known k;
}
