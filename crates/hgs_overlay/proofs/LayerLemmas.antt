-- What layers make of the files under them.
use Rattle.std.proofs.Common.{◌≡◌, ℕ, Bool, true, false, cond, List, [], ◌∷◌, ◌++◌, map, refl, sym, ◌∙◌, ap, append_assoc, true≢false, length, drop, arith}
use Rattle.std.specs.Prelude.{Option, Some, None, unwrap_or, Result, Ok, Err, OnOk, OnErr}
use Rattle.std.specs.List.{AllByRecursion}
use Rattle.std.specs.List.Sorted.{IsStrictlySortedBy}
use Rattle.std.specs.BTreeMap.{BTreeMap, IsOrdered, get, is_at}
use Rattle.std.specs.Map.{keys_of, lookup, set_value}
use Rattle.std.specs.Cmp.Lexicographic.{slice_cmp}
use Rattle.std.specs.Ordering.{nat_cmp}
use Rattle.std.specs.declared.cmp.Ordering.TheVariants.{Less}
use Rattle.std.proofs.lemmas.Map.Keys.{sorted_head, sorted_tail}
use Rattle.std.proofs.lemmas.Map.Steps.{set_value_same}
use Rattle.hgs_files.specs.declared.op.Op.{Op}
use Rattle.hgs_files.specs.declared.op.Op.TheVariants.{Append, Create, Settle}
use Rattle.hgs_files.specs.Tree.{Tree, same_path, bytes_at, with_file, apply, after_all}
use Rattle.hgs_files.specs.Theorems.TreeLemmas.{same_path-eq, same_path-refl, with_file-other, with_file-same}
use Rattle.hgs_overlay.specs.declared.layers.Layer.{Layer}
use Rattle.hgs_overlay.specs.declared.layers.Layers.{Layers}
use Rattle.hgs_overlay.specs.Layers.{laid_op, laid_ops, layer_at, with_layer, appended_to, laid_on, covered}

abbrev op_of : List ℕ × Layer → Op
op_of e = laid_op e.0 e.1.in_place e.1.bytes

-- a key below all others is none of them
not_behind : (k : List ℕ) (es : List (List ℕ × Layer)) → AllByRecursion (λ y. slice_cmp nat_cmp k y ≡ Less) (keys_of es) → lookup (is_at (slice_cmp nat_cmp k)) es ≡ None
not_behind k [] h = refl
not_behind k (e ∷ es) h = rw h.0 (not_behind k es h.1)

-- ---- one operation

op_here : (k : List ℕ) (in_place : Bool) (bytes : List ℕ) (t : Tree) → apply (laid_op k in_place bytes) t k ≡ laid_on in_place bytes (t k)
op_here k false bytes t = with_file-same t k (Some (bytes_at t k ++ bytes))
op_here k true bytes t = with_file-same t k (Some bytes)

op_other : (k q : List ℕ) (in_place : Bool) (bytes : List ℕ) (t : Tree) → same_path k q ≡ false → apply (laid_op k in_place bytes) t q ≡ t q
op_other k q false bytes t e = with_file-other t k q (Some (bytes_at t k ++ bytes)) e
op_other k q true bytes t e = with_file-other t k q (Some bytes) e

flipped : (p q : List ℕ) (b : Bool) → same_path q p ≡ b → same_path p q ≡ false → same_path q p ≡ false
flipped p q false e h = e
flipped p q true e h = absurd (true≢false (sym (ap (same_path p) (same_path-eq q p e) ∙ same_path-refl p) ∙ h))

-- ---- all of them

tree_at : (es : List (List ℕ × Layer)) (t : Tree) (p : List ℕ) → IsStrictlySortedBy (slice_cmp nat_cmp) (keys_of es) → after_all (map op_of es) t p ≡ covered (lookup (is_at (slice_cmp nat_cmp p)) es) (t p)
tree_at [] t p s = refl
tree_at (e ∷ es) t p s =
    tree_at es (apply (op_of e) t) p (sorted_tail (slice_cmp nat_cmp) e.0 (keys_of es) s) ∙ by_head (same_path p e.0) refl
  where
    by_head : (b : Bool) → same_path p e.0 ≡ b → covered (lookup (is_at (slice_cmp nat_cmp p)) es) (apply (op_of e) t p) ≡ covered (cond (same_path p e.0) (Some e.1) (lookup (is_at (slice_cmp nat_cmp p)) es)) (t p)
    by_head true is = rw is (
        let here = same_path-eq p e.0 is in
        let none = ap (λ k. lookup (is_at (slice_cmp nat_cmp k)) es) here ∙ not_behind e.0 es (sorted_head (slice_cmp nat_cmp) e.0 (keys_of es) s) in
        ap (λ o. covered o (apply (op_of e) t p)) none ∙ ap (λ k. apply (op_of e) t k) here ∙ op_here e.0 e.1.in_place e.1.bytes t ∙ ap (λ k. laid_on e.1.in_place e.1.bytes (t k)) (sym here))
    by_head false is = rw is (ap (covered (lookup (is_at (slice_cmp nat_cmp p)) es)) (op_other e.0 p e.1.in_place e.1.bytes t (flipped p e.0 (same_path e.0 p) refl is)))

-- what a reader finds at a path
pub layers_at : (l : Layers) (t : Tree) (p : List ℕ) → after_all (laid_ops l) t p ≡ covered (layer_at l p) (t p)
layers_at l t p = tree_at l.laid.entries t p l.ordered

-- ---- more of them

more_behind : (in_place : Bool) (laid bytes : List ℕ) (file : Option (List ℕ)) → laid_on in_place (laid ++ bytes) file ≡ Some (unwrap_or (laid_on in_place laid file) [] ++ bytes)
more_behind false laid bytes file = ap Some (sym (append_assoc (unwrap_or file []) laid bytes))
more_behind true laid bytes file = refl

appended_covers : (o : Option Layer) (bytes : List ℕ) (file : Option (List ℕ)) → covered (Some (appended_to o bytes)) file ≡ Some (unwrap_or (covered o file) [] ++ bytes)
appended_covers None bytes file = refl
appended_covers (Some l) bytes file = more_behind l.in_place l.bytes bytes file

module _ (old new : BTreeMap (List ℕ) Layer) (was : IsOrdered (slice_cmp nat_cmp) old) (is_ordered : IsOrdered (slice_cmp nat_cmp) new) (path : List ℕ) (layer : Layer)
    (h : (other : List ℕ) → get (slice_cmp nat_cmp) new other ≡ with_layer (get (slice_cmp nat_cmp) old) path layer other) (t : Tree) where
  one_more : (x : Option (List ℕ)) → covered (Some layer) (t path) ≡ x → (p : List ℕ) (b : Bool) → same_path path p ≡ b → covered (with_layer (get (slice_cmp nat_cmp) old) path layer p) (t p) ≡ with_file (after_all (map op_of old.entries) t) path x p
  one_more x is p true e = rw e (ap (λ q. covered (Some layer) (t q)) (sym (same_path-eq path p e)) ∙ is)
  one_more x is p false e = rw e (sym (tree_at old.entries t p was))

  pub laid : (x : Option (List ℕ)) → covered (Some layer) (t path) ≡ x → after_all (map op_of new.entries) t ≡ with_file (after_all (map op_of old.entries) t) path x
  laid x is = λ i p. (tree_at new.entries t p is_ordered ∙ ap (λ o. covered o (t p)) (h p) ∙ one_more x is p (same_path path p) refl) i

pub appended : (old new : BTreeMap (List ℕ) Layer) → IsOrdered (slice_cmp nat_cmp) old → IsOrdered (slice_cmp nat_cmp) new → (path : List ℕ) (bytes : List ℕ)
    → ((other : List ℕ) → get (slice_cmp nat_cmp) new other ≡ with_layer (get (slice_cmp nat_cmp) old) path (appended_to (get (slice_cmp nat_cmp) old path) bytes) other)
    → (t : Tree) → after_all (map op_of new.entries) t ≡ apply (Append path bytes) (after_all (map op_of old.entries) t)
appended old new was is path bytes h t =
    laid old new was is path (appended_to (get (slice_cmp nat_cmp) old path) bytes) h t (Some (bytes_at (after_all (map op_of old.entries) t) path ++ bytes))
    (appended_covers (get (slice_cmp nat_cmp) old path) bytes (t path) ∙ ap (λ o. Some (unwrap_or o [] ++ bytes)) (sym (tree_at old.entries t path was)))

pub replaced : (old new : BTreeMap (List ℕ) Layer) → IsOrdered (slice_cmp nat_cmp) old → IsOrdered (slice_cmp nat_cmp) new → (path bytes : List ℕ)
    → ((other : List ℕ) → get (slice_cmp nat_cmp) new other ≡ with_layer (get (slice_cmp nat_cmp) old) path (record { in_place = true; bytes = bytes }) other)
    → (t : Tree) → after_all (map op_of new.entries) t ≡ apply (Create path bytes) (after_all (map op_of old.entries) t)
replaced old new was is path bytes h t = laid old new was is path (record { in_place = true; bytes = bytes }) h t (Some bytes) refl

-- a layer that is written back as it was
pub unchanged : (old new : BTreeMap (List ℕ) Layer) (path : List ℕ) (layer : Layer) → get (slice_cmp nat_cmp) old path ≡ Some layer → new.entries ≡ set_value (is_at (slice_cmp nat_cmp path)) old.entries layer → map op_of new.entries ≡ map op_of old.entries
unchanged old new path layer is set = ap (map op_of) (set ∙ set_value_same (is_at (slice_cmp nat_cmp path)) old.entries layer is)

-- ---- answers

pub on_ok : {E : Type 0} (r : Result Unit E) (A B : Type 0) → (A → B) → OnOk r A → OnOk r B
on_ok (Ok x) A B f a = f a
on_ok (Err e) A B f a = tt

pub on_err : {E : Type 0} (r : Result Unit E) (A B : Type 0) → (A → B) → OnErr r A → OnErr r B
on_err (Ok x) A B f a = tt
on_err (Err e) A B f a = f a

-- ---- layers by their operations

abbrev op_path : Op → List ℕ
op_path (Append path bytes) = path
op_path (Create path bytes) = path
op_path op = []

abbrev op_bytes : Op → List ℕ
op_bytes (Append path bytes) = bytes
op_bytes (Create path bytes) = bytes
op_bytes op = []

abbrev op_creates : Op → Bool
op_creates (Create path bytes) = true
op_creates op = false

path_of : (path : List ℕ) (in_place : Bool) (bytes : List ℕ) → op_path (laid_op path in_place bytes) ≡ path
path_of path true bytes = refl
path_of path false bytes = refl

bytes_of : (path : List ℕ) (in_place : Bool) (bytes : List ℕ) → op_bytes (laid_op path in_place bytes) ≡ bytes
bytes_of path true bytes = refl
bytes_of path false bytes = refl

place_of : (path : List ℕ) (in_place : Bool) (bytes : List ℕ) → op_creates (laid_op path in_place bytes) ≡ in_place
place_of path true bytes = refl
place_of path false bytes = refl

one_entry : (e f : List ℕ × Layer) → op_of e ≡ op_of f → e ≡ f
one_entry e f h =
    let path = sym (path_of e.0 e.1.in_place e.1.bytes) ∙ ap op_path h ∙ path_of f.0 f.1.in_place f.1.bytes in
    let place = sym (place_of e.0 e.1.in_place e.1.bytes) ∙ ap op_creates h ∙ place_of f.0 f.1.in_place f.1.bytes in
    let bytes = sym (bytes_of e.0 e.1.in_place e.1.bytes) ∙ ap op_bytes h ∙ bytes_of f.0 f.1.in_place f.1.bytes in
    λ i. (path i, record { in_place = place i; bytes = bytes i })

abbrev first_op : List Op → Op
first_op [] = Settle
first_op (op ∷ ops) = op

entries_of_ops : (es fs : List (List ℕ × Layer)) → map op_of es ≡ map op_of fs → es ≡ fs
entries_of_ops [] [] h = refl
entries_of_ops [] (f ∷ fs) h = absurd (omega (arith, ap length h))
entries_of_ops (e ∷ es) [] h = absurd (omega (arith, ap length h))
entries_of_ops (e ∷ es) (f ∷ fs) h =
    let first = one_entry e f (ap first_op h) in
    let rest = entries_of_ops es fs (ap (drop 1) h) in
    λ i. first i ∷ rest i

-- the operations tell the layers
pub layers_by_ops : (l m : Layers) → laid_ops l ≡ laid_ops m → (path : List ℕ) → layer_at l path ≡ layer_at m path
layers_by_ops l m h path = ap (λ es. lookup (is_at (slice_cmp nat_cmp path)) es) (entries_of_ops l.laid.entries m.laid.entries h)
