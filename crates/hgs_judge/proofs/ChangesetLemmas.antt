-- The revisions that entries have, and the changesets that were seen.
use Rattle.std.proofs.Common.{◌≡◌, ℕ, zero, suc, ◌<◌, List, [], ◌∷◌, length, map, refl, sym, ◌∙◌, ap, arith}
use Rattle.std.specs.Prelude.{Some, None, option_map, slice_get}
use Rattle.std.proofs.lemmas.List.{length-map}
use Rattle.std.proofs.lemmas.Option.{slice_get-map, slice_get_within}
use Rattle.hgs_index.specs.declared.entry.Entry.{Entry}
use Rattle.hgs_index.specs.Revision.{Revision, Parents}
use Rattle.hgs_model.specs.History as history
use Rattle.hgs_judge.specs.Read.{AreRead, revisions_in}

pub there : (revs : List Revision) (rev : ℕ) → rev < length revs → (r : Revision) × (slice_get revs rev ≡ Some r) × (r.text ≡ history.text_at revs rev)
there [] rev lt = absurd (omega (arith, lt))
there (r ∷ revs) zero lt = (r, refl, refl)
there (r ∷ revs) (suc rev) lt = there revs rev (omega (arith, lt))

-- as many revisions as entries
pub read-count : (entries : List Entry) (data_bytes : List ℕ) → AreRead entries data_bytes → length (revisions_in entries data_bytes) ≡ length entries
read-count entries data_bytes read =
    sym (length-map (revisions_in entries data_bytes) (λ (r : Revision). r.parents))
    ∙ sym (ap length read.parents)
    ∙ length-map entries (λ (e : Entry). let p : Parents = (e.p1, e.p2) in p)

pub record RevisionOf (entries : List Entry) (data_bytes : List ℕ) (i : ℕ) (e : Entry) : Type 0 where
  pub r : Revision
  pub at : slice_get (revisions_in entries data_bytes) i ≡ Some r
  pub text : r.text ≡ history.text_at (revisions_in entries data_bytes) i
  pub parents : r.parents ≡ (e.p1, e.p2)

-- the revision of an entry
pub revision-of : (entries : List Entry) (data_bytes : List ℕ) (i : ℕ) (e : Entry) → AreRead entries data_bytes → slice_get entries i ≡ Some e → RevisionOf entries data_bytes i e
revision-of entries data_bytes i e read at = record { r = found.0; at = found.1; text = found.2; parents = some-same found.0.parents (e.p1, e.p2) both }
  where
    found : (r : Revision) × (slice_get (revisions_in entries data_bytes) i ≡ Some r) × (r.text ≡ history.text_at (revisions_in entries data_bytes) i)
    found = there (revisions_in entries data_bytes) i (let w = slice_get_within entries i e at in let n = read-count entries data_bytes read in omega (arith, w, n))

    of_entry : Entry → Parents
    of_entry x = (x.p1, x.p2)

    some-same : (x y : Parents) → Some x ≡ Some y → x ≡ y
    some-same x y h = ap (elim [ None ↦ x | Some z ↦ z ]) h

    both : Some found.0.parents ≡ Some (e.p1, e.p2)
    both =
        sym (ap (option_map (λ (r : Revision). r.parents)) found.1)
        ∙ sym (slice_get-map (λ (r : Revision). r.parents) (revisions_in entries data_bytes) i)
        ∙ ap (λ l. slice_get l i) (sym read.parents)
        ∙ slice_get-map (λ (x : Entry). let p : Parents = (x.p1, x.p2) in p) entries i
        ∙ ap (option_map (λ (x : Entry). let p : Parents = (x.p1, x.p2) in p)) at

pub map-map : {A B C : Type 0} (f : A → B) (g : B → C) (xs : List A) → map (λ x. g (f x)) xs ≡ map g (map f xs)
map-map f g [] = refl
map-map f g (x ∷ xs) = ap (λ l. g (f x) ∷ l) (map-map f g xs)

-- an element of a list that was made of another
pub mapped-at : {A B : Type 0} (f : A → B) (xs : List A) (i : ℕ) (y : B) → slice_get (map f xs) i ≡ Some y → (x : A) × (slice_get xs i ≡ Some x) × (y ≡ f x)
mapped-at {A = A} f [] i y e = absurd (no e)
  where
    no : None ≡ Some y → ⊥
    no h = cc
mapped-at {A = A} {B = B} f (x ∷ xs) zero y e = (x, refl, sym (some-same (f x) y e))
  where
    some-same : (a b : B) → Some a ≡ Some b → a ≡ b
    some-same a b h = ap (elim [ None ↦ a | Some z ↦ z ]) h
mapped-at f (x ∷ xs) (suc i) y e = mapped-at f xs i y e
