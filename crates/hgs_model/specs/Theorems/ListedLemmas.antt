-- Revisions by their numbers, in lists that grow.
use Rattle.std.proofs.Common.{◌≡◌, ℕ, zero, suc, ◌<◌, List, [], ◌∷◌, ◌++◌, true, length, get_or, refl, sym, ◌∙◌, ap, arith, length-append}
use Rattle.std.specs.Prelude.{Option, Some, None, slice_get, slice_index_or, unwrap_or}
use Rattle.std.proofs.lemmas.List.{get_or_append_left}
use Rattle.std.proofs.lemmas.List.Quantifiers.{position-Some}
use Rattle.hgs_bytes.specs.Bytes.{same, IsPrefixOf}
use Rattle.hgs_bytes.specs.Theorems.ByteLemmas.{same-eq}
use Rattle.hgs_index.specs.Node.{null_node}
use Rattle.hgs_index.specs.Revision.{Revision, nodes, standing, is_as, same_parents, with_revision, with_revision_at, number_of}
use Rattle.hgs_index.specs.Revlog.{all_different}
use Rattle.hgs_index.specs.Theorems.PlaceLemmas.{place-same}
use Rattle.hgs_index.specs.Theorems.RevisionLemmas.{nodes-append, length-nodes_from}
use Rattle.hgs_model.specs.History.{node_at, text_at}
use Rattle.hgs_model.specs.Theorems.ListLemmas.{and-left}

-- ---- a list that goes on

front-shorter : {A : Type 0} (xs ys : List A) → IsPrefixOf xs ys → (rev : ℕ) → rev < length xs → rev < length ys
front-shorter xs ys p rev lt = omega (arith, lt, ap length p.1, length-append xs p.0)

pub front-below : (xs ys : List Revision) → IsPrefixOf xs ys → (rev : ℕ) → rev < length xs → rev < length ys
front-below xs ys p rev lt = front-shorter xs ys p rev lt

text-front : (xs ys : List Revision) (rev : ℕ) → rev < length xs → text_at (xs ++ ys) rev ≡ text_at xs rev
text-front [] ys rev lt = absurd (omega (arith, lt))
text-front (x ∷ xs) ys zero lt = refl
text-front (x ∷ xs) ys (suc rev) lt = text-front xs ys rev (omega (arith, lt))

pub text_at-front : (xs ys : List Revision) → IsPrefixOf xs ys → (rev : ℕ) → rev < length xs → text_at ys rev ≡ text_at xs rev
text_at-front xs ys p rev lt = ap (λ l. text_at l rev) p.1 ∙ text-front xs p.0 rev lt

pub length-nodes : (revs : List Revision) → length (nodes revs) ≡ length revs
length-nodes revs = omega (arith, length-nodes_from [] revs)

pub node_at-front : (xs ys : List Revision) → IsPrefixOf xs ys → (rev : ℕ) → rev < length xs → node_at ys rev ≡ node_at xs rev
node_at-front xs ys p rev lt =
    let n = nodes-append xs p.0 in
    ap (λ l. node_at l rev) p.1 ∙ ap (λ l. slice_index_or l rev null_node) n.1 ∙ get_or_append_left (nodes xs) n.0 null_node rev (omega (arith, lt, length-nodes xs))

get-front : {A : Type 0} (xs ys : List A) (rev : ℕ) (x : A) → slice_get xs rev ≡ Some x → slice_get (xs ++ ys) rev ≡ Some x
get-front [] ys rev x e = absurd (no e)
  where
    no : None ≡ Some x → ⊥
    no h = cc
get-front (y ∷ xs) ys zero x e = e
get-front (y ∷ xs) ys (suc rev) x e = get-front xs ys rev x e

pub slice_get-front : {A : Type 0} (xs ys : List A) → IsPrefixOf xs ys → (rev : ℕ) (x : A) → slice_get xs rev ≡ Some x → slice_get ys rev ≡ Some x
slice_get-front xs ys p rev x e = ap (λ l. slice_get l rev) p.1 ∙ get-front xs p.0 rev x e

pub slice_get-last : {A : Type 0} (xs : List A) (x : A) → slice_get (xs ++ x ∷ []) (length xs) ≡ Some x
slice_get-last [] x = refl
slice_get-last (y ∷ xs) x = slice_get-last xs x

-- a number below the count is that of a revision
pub there : (revs : List Revision) (rev : ℕ) → rev < length revs → (r : Revision) × (slice_get revs rev ≡ Some r) × (r.text ≡ text_at revs rev)
there [] rev lt = absurd (omega (arith, lt))
there (r ∷ revs) zero lt = (r, refl, refl)
there (r ∷ revs) (suc rev) lt = there revs rev (omega (arith, lt))

-- ---- the number of a revision

text-last : (revs : List Revision) (r : Revision) → text_at (revs ++ r ∷ []) (length revs) ≡ r.text
text-last [] r = refl
text-last (x ∷ revs) r = text-last revs r

text-is : (revs : List Revision) (rev : ℕ) (d : Revision) → rev < length revs → (get_or revs rev d).text ≡ text_at revs rev
text-is [] rev d lt = absurd (omega (arith, lt))
text-is (x ∷ revs) zero d lt = refl
text-is (x ∷ revs) (suc rev) d lt = text-is revs rev d (omega (arith, lt))

-- the text that stands with the number of a revision is its text
pub number-text : (revs : List Revision) (r : Revision) → text_at (with_revision revs r) (number_of revs r.text r.parents) ≡ r.text
number-text revs r = by (standing revs r.text r.parents) refl
  where
    by : (o : Option ℕ) → standing revs r.text r.parents ≡ o → text_at (with_revision_at o revs r) (unwrap_or o (length revs)) ≡ r.text
    by None e = text-last revs r
    by (Some rev) e =
        let p = position-Some (is_as r.text r.parents) revs rev r e in
        sym (text-is revs rev r p.0) ∙ sym (same-eq r.text (get_or revs rev r).text (and-left (same r.text (get_or revs rev r).text) (same_parents r.parents (get_or revs rev r).parents) p.1))

-- ---- nodes that differ

-- where all nodes differ, two revisions with one node are one
pub rev-same : (revs : List Revision) (i j : ℕ) → all_different (nodes revs) ≡ true → i < length revs → j < length revs → node_at revs i ≡ node_at revs j → i ≡ j
rev-same revs i j d a b e = place-same (nodes revs) i j d (omega (arith, a, length-nodes revs)) (omega (arith, b, length-nodes revs)) e
