-- Which filelogs are inline, path by path.
use Rattle.std.proofs.Common.{◌≡◌, ◌⊎◌, ℕ, ◌≤◌, List, [], ◌∷◌, Bool, true, false, ◌&&◌, ◌||◌, length, take, drop, refl, sym, ◌∙◌, ap, inl, inr, arith}
use Rattle.std.specs.Prelude.{Option, Some, None, Vec, option_map, unwrap_or, nat_lt}
use Rattle.std.specs.Cmp.Lexicographic.{bytes_decides}
use Rattle.std.specs.declared.alloc.Global.{Global}
use Rattle.std.proofs.lemmas.List.{length-take, take-append-drop}
use Rattle.hgs_bytes.specs.Bytes.{among, same}
use Rattle.hgs_files.specs.Tree.{Tree, bytes_at}
use Rattle.hgs_index.specs.Inline.{is_inline}
use Rattle.hgs_index.specs.Theorems.EitherLemmas.{form-more}
use Rattle.hgs_path.specs.declared.name.Ext.TheVariants.{I}
use Rattle.hgs_path.specs.StoreName.{store_name}
use Rattle.hgs_report.specs.Lines.{has_key}
use Rattle.hgs_verify.specs.Inline.{EntersInline, HaveInline}
use Rattle.hgs_verify.proofs.FileLemmas.{take-whole}

-- the first entry says the form
first-says : (bytes : List ℕ) → is_inline (take 64 bytes) ≡ is_inline bytes
first-says bytes = by (nat_lt (length bytes) 64) refl
  where
    less : (a : ℕ) → nat_lt a 64 ≡ true → a ≤ 64
    less a h = grind arith

    more : (a : ℕ) → nat_lt a 64 ≡ false → 64 ≤ a
    more a h = grind arith

    by : (b : Bool) → nat_lt (length bytes) 64 ≡ b → is_inline (take 64 bytes) ≡ is_inline bytes
    by true e = ap is_inline (take-whole bytes 64 (less (length bytes) e))
    by false e = sym (form-more (take 64 bytes) (drop 64 bytes) (let l = length-take 64 bytes in let m = more (length bytes) e in omega (arith, l, m))) ∙ ap is_inline (take-append-drop 64 bytes)

pub head-form : (file part : Option (List ℕ)) → part ≡ option_map (λ b. take 64 (drop 0 b)) file → is_inline (unwrap_or part []) ≡ is_inline (unwrap_or file [])
head-form None part e = ap (λ o. is_inline (unwrap_or o [])) e
head-form (Some b) part e = ap (λ o. is_inline (unwrap_or o [])) e ∙ first-says b

-- those that are entered are inline, and each that is inline is entered or left
pub record Entered (paths : List (List ℕ)) (keys : List (Vec ℕ Global)) (left : List (List ℕ)) (t : Tree) : Type 0 where
  pub are : (path : List ℕ) → has_key keys path ≡ true → is_inline (bytes_at t (store_name path I)) ≡ true
  pub all : (path : List ℕ) → among path paths ≡ true → is_inline (bytes_at t (store_name path I)) ≡ true → (has_key keys path || among path left) ≡ true

pub none-entered : (paths left : List (List ℕ)) (keys : List (Vec ℕ Global)) (t : Tree) → keys ≡ [] → left ≡ paths → Entered paths keys left t
none-entered paths left keys t none same_paths = record {
  are = λ path h. absurd (no (sym (ap (λ k. has_key k path) none) ∙ h));
  all = λ path u inline. ap (λ k. has_key k path || among path left) none ∙ ap (among path) same_paths ∙ u;
}
  where
    no : false ≡ true → ⊥
    no h = cc

either : (a b : Bool) → (a || b) ≡ true → (a ≡ true) ⊎ (b ≡ true)
either true b e = inl refl
either false b e = inr e

both : (a b : Bool) → (a && b) ≡ true → (a ≡ true) × (b ≡ true)
both true b e = (refl, e)
both false b e = cc

pub one-entered : (paths left all_left : List (List ℕ)) (path : List ℕ) (old new : List (Vec ℕ Global)) (t : Tree) → all_left ≡ path ∷ left → Entered paths old all_left t → EntersInline path old new t → Entered paths new left t
one-entered paths left all_left path old new t steps before enters = record { are = are; all = all }
  where
    form : List ℕ → Bool
    form name = is_inline (bytes_at t (store_name name I))

    are : (name : List ℕ) → has_key new name ≡ true → form name ≡ true
    are name h = by (either (form path && same name path) (has_key old name) (sym (enters name) ∙ h))
      where
        by : ((form path && same name path) ≡ true) ⊎ (has_key old name ≡ true) → form name ≡ true
        by (inl e) = let two = both (form path) (same name path) e in ap form ((bytes_decides name path).0 two.1) ∙ two.0
        by (inr e) = before.are name e

    all : (name : List ℕ) → among name paths ≡ true → form name ≡ true → (has_key new name || among name left) ≡ true
    all name u inline = by (same name path) refl (has_key old name) refl (sym (ap (λ l. has_key old name || among name l) steps) ∙ before.all name u inline)
      where
        by : (a : Bool) → same name path ≡ a → (b : Bool) → has_key old name ≡ b → (b || (a || among name left)) ≡ true → (has_key new name || among name left) ≡ true
        by true s b k h =
            let is : form path ≡ true = ap form (sym ((bytes_decides name path).0 s)) ∙ inline in
            ap (λ c. c || among name left) (enters name ∙ ap (λ c. (c && same name path) || has_key old name) is ∙ ap (λ c. c || has_key old name) s)
        by false s true k h = ap (λ c. c || among name left) (enters name ∙ ap (λ c. (form path && same name path) || c) k ∙ or-true (form path && same name path))
          where
            or-true : (c : Bool) → (c || true) ≡ true
            or-true true = refl
            or-true false = refl
        by false s false k h = or-right (has_key new name) h
          where
            or-right : (c : Bool) → among name left ≡ true → (c || among name left) ≡ true
            or-right true e = refl
            or-right false e = e

pub all-entered : (paths left : List (List ℕ)) (keys : List (Vec ℕ Global)) (t : Tree) → left ≡ [] → Entered paths keys left t → HaveInline paths keys t
all-entered paths left keys t none e = λ path u. by path u (has_key keys path) refl (is_inline (bytes_at t (store_name path I))) refl
  where
    or-nothing : (a : Bool) → (a || false) ≡ a
    or-nothing true = refl
    or-nothing false = refl

    by : (path : List ℕ) → among path paths ≡ true → (a : Bool) → has_key keys path ≡ a → (b : Bool) → is_inline (bytes_at t (store_name path I)) ≡ b → has_key keys path ≡ is_inline (bytes_at t (store_name path I))
    by path u true k b f = k ∙ sym (e.are path k)
    by path u false k false f = k ∙ sym f
    by path u false k true f = sym (or-nothing (has_key keys path)) ∙ sym (ap (λ l. has_key keys path || among path l) none) ∙ e.all path u f ∙ sym f
