-- Two names of the list name one file only where SHA-1 gives one digest of both.
use Rattle.std.proofs.Common.{◌≡◌, ◌⊎◌, ℕ, Bool, true, false, cond, List, ◌++◌, take, drop, refl, sym, ap, ◌∙◌, inl, inr, arith}
use Rattle.std.specs.Prelude.{codes, slice_index}
use Rattle.std.proofs.lemmas.List.{take-append-drop}
use Rattle.hex.specs.Hex.{IsBytes, encode_lower}
use Rattle.sha1.specs.Sha1.{sha1}
use Rattle.hgs_bytes.specs.Bytes.{begins_with}
use Rattle.hgs_bytes.specs.Theorems.ByteLemmas.{same-eq}
use Rattle.hgs_path.specs.declared.name.Ext.{Ext}
use Rattle.hgs_path.specs.declared.name.Ext.TheVariants.{I, D}
use Rattle.hgs_path.specs.declared.spell.Form.TheVariants.{Plain}
use Rattle.hgs_path.specs.ListedNames.{is_listed, listed_file}
use Rattle.hgs_path.specs.StoreName.{ends_in, ext_text, hashed_name, is_plain, spelled_name}
use Rattle.hgs_path.proofs.ClashLemmas.{before_digits, before_ext, digits-length, digits-once, plain-front, same-end}
use Rattle.hgs_path.specs.Theorems.FncacheLemmas.{ends-appended, other-end}
use Rattle.hgs_path.proofs.OwnersLemmas.{and-parts}
use Rattle.hgs_path.specs.Theorems.ReadableLemmas.{plain-once}
use Rattle.hgs_path.specs.Theorems.ShapeLemmas.{small-of}

abbrev kind : List ℕ → Ext
kind name = cond (ends_in name (codes ".i")) I D

abbrev file_by : List ℕ → Bool → List ℕ
file_by name plain = codes "store/" ++ cond plain (spelled_name Plain name) (hashed_name name (kind name))

listed-tail : (name : List ℕ) → is_listed name ≡ true → name ≡ codes "data/" ++ drop 5 name
listed-tail name h =
    let front = same-eq (codes "data/") (take 5 name) (and-parts (begins_with name (codes "data/")) _ h).0 in
    sym (take-append-drop 5 name) ∙ ap (λ l. l ++ drop 5 name) (sym front)

plain-index : (name : List ℕ) → is_listed name ≡ true → slice_index (file_by name true) 7 ≡ 97
plain-index name h = plain-front name (drop 5 name) (listed-tail name h)

hashed-index : (name : List ℕ) → slice_index (file_by name false) 7 ≡ 104
hashed-index name = refl

never-same : {A : Type 0} → ◌≡◌ {A = ℕ} 97 104 → A
never-same e = absurd (omega (arith, e))

not-both : {A : Type 0} → true ≡ false → A
not-both e = absurd (no e)
  where
    no : true ≡ false → ⊥
    no h = cc

hashed-one : (a b : List ℕ) (e f : Ext) → before_ext a ++ ext_text e ≡ before_ext b ++ ext_text f → sha1 a ≡ sha1 b
hashed-one a b I I is = digits-once a b (same-end (before_digits a) (before_digits b) (encode_lower (sha1 a)) (encode_lower (sha1 b)) (codes ".i") (digits-length a ∙ sym (digits-length b)) is)
hashed-one a b D D is = digits-once a b (same-end (before_digits a) (before_digits b) (encode_lower (sha1 a)) (encode_lower (sha1 b)) (codes ".d") (digits-length a ∙ sym (digits-length b)) is)
hashed-one a b I D is = not-both (sym (ends-appended (before_ext a) (codes ".i")) ∙ ap (λ l. ends_in l (codes ".i")) is ∙ other-end (before_ext b))
hashed-one a b D I is = not-both (sym (ends-appended (before_ext b) (codes ".i")) ∙ ap (λ l. ends_in l (codes ".i")) (sym is) ∙ other-end (before_ext a))

pub one-file : (a b : List ℕ) → IsBytes a → IsBytes b → is_listed a ≡ true → is_listed b ≡ true → listed_file a ≡ listed_file b → (a ≡ b) ⊎ (sha1 a ≡ sha1 b)
one-file a b ha hb la lb is = by (is_plain a) (is_plain b) is
  where
    by : (p q : Bool) → file_by a p ≡ file_by b q → (a ≡ b) ⊎ (sha1 a ≡ sha1 b)
    by true true e = inl (plain-once a b (small-of a ha) (small-of b hb) (ap (drop 6) e))
    by true false e = never-same (sym (plain-index a la) ∙ ap (λ l. slice_index l 7) e)
    by false true e = never-same (sym (plain-index b lb) ∙ ap (λ l. slice_index l 7) (sym e))
    by false false e = inr (hashed-one a b (kind a) (kind b) e)
