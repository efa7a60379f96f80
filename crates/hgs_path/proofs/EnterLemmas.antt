-- What the entries of a path's names leave.
use Rattle.std.proofs.Common.{◌≡◌, ℕ, Bool, true, false, ◌&&◌, ◌||◌, not, List, refl, sym, ap, ◌∙◌}
use Rattle.std.specs.Prelude.{Vec}
use Rattle.std.specs.declared.alloc.Global.{Global}
use Rattle.std.specs.declared.cmp.Ordering.{Ordering}
use Rattle.std.specs.BTreeSet.{insert_key}
use Rattle.std.specs.Cmp.Lexicographic.{slice_cmp}
use Rattle.std.specs.Ordering.{nat_cmp}
use Rattle.hgs_bytes.specs.Bytes.{same}
use Rattle.hgs_bytes.specs.Theorems.ByteLemmas.{same-eq}
use Rattle.hgs_path.specs.declared.name.Ext.{Ext}
use Rattle.hgs_path.specs.declared.name.Ext.TheVariants.{I, D}
use Rattle.hgs_path.specs.StoreName.{listed_name, is_plain, store_name}
use Rattle.hgs_path.specs.Owners.{with_owner, with_file_name, with_path, is_hashed_as, has_hashed, has_path, owns_name}
use Rattle.hgs_path.proofs.OwnersLemmas.{or-and-false, and-parts}
use Rattle.hgs_path.specs.Theorems.FncacheLemmas.{path-inserted}

both-false : (a b : Bool) → a ≡ false → b ≡ false → (a || b) ≡ false
both-false true b h k = cc
both-false false b h k = k

or-twice : (a s b c : Bool) → ((a || (s && b)) || (s && c)) ≡ (a || (s && (b || c)))
or-twice true s b c = refl
or-twice false true b c = refl
or-twice false false b c = refl

module _ (owns : List ℕ → List ℕ → Bool) (path : List ℕ) where
  -- a plain name is not entered
  pub plain-name : (ext : Ext) → is_plain (listed_name path ext) ≡ true → owns ≡ with_file_name owns path ext
  plain-name ext h = λ i n q. sym (or-and-false (owns n q) (same q path) (is_hashed_as path ext n) (ap (λ t. not t && same (store_name path ext) n) h)) i

  pub hashed-name : (ext : Ext) (name : List ℕ) → name ≡ store_name path ext → is_plain (listed_name path ext) ≡ false → with_owner owns name path ≡ with_file_name owns path ext
  hashed-name ext name is h = λ i n q. owns n q || (same q path && (not (sym h i) && same (is i) n))

  pub plain-names : (is_plain (listed_name path I) && is_plain (listed_name path D)) ≡ true → owns ≡ with_path owns path
  plain-names h =
      let both = and-parts (is_plain (listed_name path I)) (is_plain (listed_name path D)) h in
      λ i n q. sym (or-and-false (owns n q) (same q path) (has_hashed path n)
      (both-false (is_hashed_as path I n) (is_hashed_as path D n) (ap (λ t. not t && same (store_name path I) n) both.0) (ap (λ t. not t && same (store_name path D) n) both.1))) i

  pub both-names : with_file_name (with_file_name owns path I) path D ≡ with_path owns path
  both-names = λ i n q. or-twice (owns n q) (same q path) (is_hashed_as path I n) (is_hashed_as path D n) i

more-index : (a b s x y : Bool) → (s ≡ true → x ≡ y) → (((a || s) || b) && x) ≡ (((a || b) && x) || (s && y))
more-index a b true x y h = by a b x y (h refl)
  where
    by : (a b x y : Bool) → x ≡ y → (((a || true) || b) && x) ≡ (((a || b) && x) || y)
    by true b true y e = refl
    by true b false y e = e
    by false true true y e = refl
    by false true false y e = e
    by false false x y e = e
more-index true b false true y h = refl
more-index true b false false y h = refl
more-index false true false true y h = refl
more-index false true false false y h = refl
more-index false false false x y h = refl

more-data : (a b s x y : Bool) → (s ≡ true → x ≡ y) → ((a || (b || s)) && x) ≡ (((a || b) && x) || (s && y))
more-data a b true x y h = by a b x y (h refl)
  where
    by : (a b x y : Bool) → x ≡ y → ((a || (b || true)) && x) ≡ (((a || b) && x) || y)
    by true b true y e = refl
    by true b false y e = e
    by false true true y e = refl
    by false true false y e = e
    by false false x y e = e
more-data true b false true y h = refl
more-data true b false false y h = refl
more-data false true false true y h = refl
more-data false true false false y h = refl
more-data false false false x y h = refl

module _ (cmp : Vec ℕ Global → Vec ℕ Global → Ordering) (is : (a b : Vec ℕ Global) → cmp a b ≡ slice_cmp nat_cmp a.items b.items) (ks ds : List (Vec ℕ Global)) (k : Vec ℕ Global) where
  same-names : (n q : List ℕ) → same q k.items ≡ true → has_hashed q n ≡ has_hashed k.items n
  same-names n q e = ap (λ p. has_hashed p n) (same-eq q k.items e)

  -- one more path listed
  pub index-owns : with_path (owns_name ks ds) k.items ≡ owns_name (insert_key cmp ks k) ds
  index-owns = λ i n q. sym (ap (λ t. (t || has_path ds q) && has_hashed q n) (path-inserted cmp is q k ks)
      ∙ more-index (has_path ks q) (has_path ds q) (same q k.items) (has_hashed q n) (has_hashed k.items n) (same-names n q)) i

  pub data-owns : with_path (owns_name ks ds) k.items ≡ owns_name ks (insert_key cmp ds k)
  data-owns = λ i n q. sym (ap (λ t. (has_path ks q || t) && has_hashed q n) (path-inserted cmp is q k ds)
      ∙ more-data (has_path ks q) (has_path ds q) (same q k.items) (has_hashed q n) (has_hashed k.items n) (same-names n q)) i
