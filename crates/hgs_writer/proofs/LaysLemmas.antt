-- What is laid over layers.
use Rattle.std.proofs.Common.{◌≡◌, ℕ, Bool, true, false, cond, List, [], ◌∷◌, ◌++◌, map, refl, sym, ◌∙◌, ap, subst, append_assoc, true≢false}
use Rattle.std.specs.Prelude.{Option, Some, None, ◌||◌, flat_map, Result, Ok, Err, OnOk}
use Rattle.std.specs.Cmp.Lexicographic.{texts_ties}
use Rattle.hgs_bytes.specs.Bytes.{same}
use Rattle.hgs_files.specs.declared.op.Op.{Op}
use Rattle.hgs_files.specs.declared.op.Op.TheVariants.{Append, Create}
use Rattle.hgs_files.specs.Tree.{Tree, after_all, apply, same_path}
use Rattle.hgs_files.specs.Theorems.TreeLemmas.{after_all-append, same_path-eq}
use Rattle.hgs_ops.specs.Growth.{appended}
use Rattle.hgs_ops.specs.Theorems.Touch.{appended-append}
use Rattle.hgs_overlay.specs.declared.layers.Layer.{Layer}
use Rattle.hgs_overlay.specs.declared.layers.Layers.{Layers}
use Rattle.hgs_overlay.specs.Layers.{appended_to, laid_ops, layer_at, with_layer}
use Rattle.std.proofs.lemmas.List.{map-append}
use Rattle.hgs_transaction.specs.declared.parts.Change.{Change}
use Rattle.hgs_transaction.specs.declared.parts.Change.TheVariants.{Replace}
use Rattle.hgs_transaction.specs.declared.parts.Replacing.{Replacing}
use Rattle.hgs_writer.specs.Joined.{are_put, laying, puts}
use Rattle.hgs_writer.specs.Layered.{AreLayersOf, Lays, is_in_place, layer_bytes}

same_is : (p q : List ℕ) → same p q ≡ same_path p q
same_is p q = texts_ties p q

end-nil : {A : Type 0} (xs : List A) → xs ++ [] ≡ xs
end-nil [] = refl
end-nil (x ∷ xs) = ap (λ l. x ∷ l) (end-nil xs)

or-false : (b : Bool) → (b || false) ≡ b
or-false true = refl
or-false false = refl

or-true : (b : Bool) → (b || true) ≡ true
or-true true = refl
or-true false = refl

-- ---- lists

pub put-append : (p : List ℕ) (xs ys : List Op) → are_put p (xs ++ ys) ≡ (are_put p xs || are_put p ys)
put-append p [] ys = refl
put-append p (x ∷ xs) ys = by (puts p x) (put-append p xs ys)
  where
    by : (b : Bool) → are_put p (xs ++ ys) ≡ (are_put p xs || are_put p ys) → (b || are_put p (xs ++ ys)) ≡ ((b || are_put p xs) || are_put p ys)
    by true e = refl
    by false e = e

-- ---- nothing is laid

same-layers : (a b : Layers) (laid : List Op) → laid_ops a ≡ laid_ops b → ((path : List ℕ) → layer_at a path ≡ layer_at b path) → AreLayersOf a laid → AreLayersOf b laid
same-layers a b laid ops at are = record {
  tree = λ t. ap (λ o. after_all o t) (sym ops) ∙ are.tree t;
  put = λ p. ap is_in_place (sym (at p)) ∙ are.put p;
  behind = λ p none. ap layer_bytes (sym (at p)) ∙ are.behind p none;
}

pub lays-none : (a b : Layers) → laid_ops a ≡ laid_ops b → ((path : List ℕ) → layer_at a path ≡ layer_at b path) → Lays a b []
lays-none a b ops at = record {
  tree = λ t. ap (λ o. after_all o t) (sym ops);
  layers = λ before are. subst (AreLayersOf b) (sym (end-nil before)) (same-layers a b before ops at are);
}

-- ---- one behind the other

pub lays-then : (a b c : Layers) (x y : List Op) → Lays a b x → Lays b c y → Lays a c (x ++ y)
lays-then a b c x y h k = record {
  tree = λ t. k.tree t ∙ ap (after_all y) (h.tree t) ∙ sym (after_all-append x y (after_all (laid_ops a) t));
  layers = λ before are. subst (AreLayersOf c) (append_assoc before x y) (k.layers (before ++ x) (h.layers before are));
}

pub lays-from : (a b c : Layers) (x : List Op) → laid_ops a ≡ laid_ops b → ((path : List ℕ) → layer_at a path ≡ layer_at b path) → Lays b c x → Lays a c x
lays-from a b c x ops at h = lays-then a b c [] x (lays-none a b ops at) h

-- ---- one operation

place_kept : (o : Option Layer) (bytes : List ℕ) → (appended_to o bytes).in_place ≡ is_in_place o
place_kept None bytes = refl
place_kept (Some l) bytes = refl

bytes_more : (o : Option Layer) (bytes : List ℕ) → (appended_to o bytes).bytes ≡ layer_bytes o ++ bytes
bytes_more None bytes = refl
bytes_more (Some l) bytes = refl

module _ (old new : Layers) (path bytes : List ℕ)
    (at : (other : List ℕ) → layer_at new other ≡ with_layer (layer_at old) path (appended_to (layer_at old path) bytes) other)
    (tree : (t : Tree) → after_all (laid_ops new) t ≡ apply (Append path bytes) (after_all (laid_ops old) t)) where
  abbrev op : Op
  op = Append path bytes

  place-at : (p : List ℕ) (b : Bool) → same_path path p ≡ b → is_in_place (with_layer (layer_at old) path (appended_to (layer_at old path) bytes) p) ≡ is_in_place (layer_at old p)
  place-at p true e = rw e (place_kept (layer_at old path) bytes ∙ ap (λ q. is_in_place (layer_at old q)) (same_path-eq path p e))
  place-at p false e = rw e refl

  bytes-at : (p : List ℕ) (b : Bool) → same_path path p ≡ b → layer_bytes (with_layer (layer_at old) path (appended_to (layer_at old path) bytes) p) ≡ layer_bytes (layer_at old p) ++ (cond b bytes [] ++ [])
  bytes-at p true e = rw e (bytes_more (layer_at old path) bytes ∙ ap (λ q. layer_bytes (layer_at old q) ++ bytes) (same_path-eq path p e) ∙ ap (λ l. layer_bytes (layer_at old p) ++ l) (sym (end-nil bytes)))
  bytes-at p false e = rw e (sym (end-nil (layer_bytes (layer_at old p))))

  none-before : (before : List Op) (p : List ℕ) → are_put p (before ++ op ∷ []) ≡ are_put p before
  none-before before p = put-append p before (op ∷ []) ∙ or-false (are_put p before)

  append-layers : (before : List Op) → AreLayersOf old before → AreLayersOf new (before ++ op ∷ [])
  append-layers before are = record {
    tree = λ t. tree t ∙ ap (apply op) (are.tree t) ∙ sym (after_all-append before (op ∷ []) t);
    put = λ p. ap is_in_place (at p) ∙ place-at p (same_path path p) refl ∙ are.put p ∙ sym (none-before before p);
    behind = λ p none.
        ap layer_bytes (at p)
        ∙ bytes-at p (same_path path p) refl
        ∙ ap (λ l. l ++ (cond (same_path path p) bytes [] ++ [])) (are.behind p (sym (none-before before p) ∙ none))
        ∙ ap (λ b. appended p before ++ (cond b bytes [] ++ [])) (sym (same_is path p))
        ∙ sym (appended-append p before (op ∷ []));
  }

  pub lays-append : Lays old new (Append path bytes ∷ [])
  lays-append = record { tree = tree; layers = append-layers }

module _ (old new : Layers) (path bytes : List ℕ)
    (at : (other : List ℕ) → layer_at new other ≡ with_layer (layer_at old) path (record { in_place = true; bytes = bytes }) other)
    (tree : (t : Tree) → after_all (laid_ops new) t ≡ apply (Create path bytes) (after_all (laid_ops old) t)) where
  abbrev put_op : Op
  put_op = Create path bytes

  put-at : (before : List Op) (p : List ℕ) (b : Bool) → same_path path p ≡ b → is_in_place (layer_at old p) ≡ are_put p before → is_in_place (with_layer (layer_at old) path (record { in_place = true; bytes = bytes }) p) ≡ (are_put p before || b)
  put-at before p true e is = rw e (sym (or-true (are_put p before)))
  put-at before p false e is = rw e (is ∙ sym (or-false (are_put p before)))

  put-one : (p : List ℕ) → are_put p (put_op ∷ []) ≡ same_path path p
  put-one p = or-false (same path p) ∙ same_is path p

  kept-at : (before : List Op) (p : List ℕ) (b : Bool) → same_path path p ≡ b → (are_put p before || b) ≡ false → layer_bytes (with_layer (layer_at old) path (record { in_place = true; bytes = bytes }) p) ≡ layer_bytes (layer_at old p)
  kept-at before p true e none = absurd (true≢false (sym (or-true (are_put p before)) ∙ none))
  kept-at before p false e none = rw e refl

  before-none : (a b : Bool) → (a || b) ≡ false → a ≡ false
  before-none true b e = e
  before-none false b e = refl

  put-layers : (before : List Op) → AreLayersOf old before → AreLayersOf new (before ++ put_op ∷ [])
  put-layers before are = record {
    tree = λ t. tree t ∙ ap (apply put_op) (are.tree t) ∙ sym (after_all-append before (put_op ∷ []) t);
    put = λ p. ap is_in_place (at p) ∙ put-at before p (same_path path p) refl (are.put p) ∙ ap (λ b. are_put p before || b) (sym (put-one p)) ∙ sym (put-append p before (put_op ∷ []));
    behind = λ p none.
        let both : (are_put p before || same_path path p) ≡ false = ap (λ b. are_put p before || b) (sym (put-one p)) ∙ sym (put-append p before (put_op ∷ [])) ∙ none in
        ap layer_bytes (at p)
        ∙ kept-at before p (same_path path p) refl both
        ∙ are.behind p (before-none (are_put p before) (same_path path p) both)
        ∙ sym (end-nil (appended p before))
        ∙ sym (appended-append p before (put_op ∷ []));
  }

  pub lays-put : Lays old new (Create path bytes ∷ [])
  lays-put = record { tree = tree; layers = put-layers }

-- ---- answers

pub on-both : {E : Type 0} (r : Result Unit E) (A B C : Type 0) → (A → B → C) → OnOk r A → OnOk r B → OnOk r C
on-both (Ok x) A B C f a b = f a b
on-both (Err e) A B C f a b = tt

pub append-answer : {E : Type 0} (r : Result Unit E) (old new : Layers) (path bytes : List ℕ)
    → OnOk r ((other : List ℕ) → layer_at new other ≡ with_layer (layer_at old) path (appended_to (layer_at old path) bytes) other)
    → OnOk r ((t : Tree) → after_all (laid_ops new) t ≡ apply (Append path bytes) (after_all (laid_ops old) t))
    → OnOk r (Lays old new (Append path bytes ∷ []))
append-answer (Ok x) old new path bytes at tree = lays-append old new path bytes at tree
append-answer (Err e) old new path bytes at tree = tt

pub put-answer : {E : Type 0} (r : Result Unit E) (old new : Layers) (path place bytes : List ℕ) → path ≡ place
    → OnOk r ((other : List ℕ) → layer_at new other ≡ with_layer (layer_at old) path (record { in_place = true; bytes = bytes }) other)
    → OnOk r ((t : Tree) → after_all (laid_ops new) t ≡ apply (Create path bytes) (after_all (laid_ops old) t))
    → OnOk r (Lays old new (Create place bytes ∷ []))
put-answer (Ok x) old new path place bytes is at tree = subst (λ p. Lays old new (Create p bytes ∷ [])) is (lays-put old new path bytes at tree)
put-answer (Err e) old new path place bytes is at tree = tt

-- ---- changes

pub laid-append : (xs ys : List Change) → flat_map laying (xs ++ ys) ≡ flat_map laying xs ++ flat_map laying ys
laid-append [] ys = refl
laid-append (x ∷ xs) ys = ap (λ l. laying x ++ l) (laid-append xs ys) ∙ sym (append_assoc (laying x) (flat_map laying xs) (flat_map laying ys))

pub laying-append : (a b c : Layers) (xs : List Change) (x : Change) → Lays a b (flat_map laying xs) → Lays b c (laying x) → Lays a c (flat_map laying (xs ++ x ∷ []))
laying-append a b c xs x h k = subst (Lays a c) (sym (laid-append xs (x ∷ []) ∙ ap (λ l. flat_map laying xs ++ l) (end-nil (laying x)))) (lays-then a b c (flat_map laying xs) (laying x) h k)

pub laying-text : (a b c : Layers) (xs : List Replacing) (x : Replacing) → Lays a b (flat_map laying (map (λ y. Replace y) xs)) → Lays b c (laying (Replace x)) → Lays a c (flat_map laying (map (λ y. Replace y) (xs ++ x ∷ [])))
laying-text a b c xs x h k =
    subst (λ l. Lays a c (flat_map laying l)) (sym (map-append (λ (y : Replacing). Replace y) xs (x ∷ []))) (laying-append a b c (map (λ y. Replace y) xs) (Replace x) h k)

pub parts-answer : {E : Type 0} (r : Result Unit E) (a b c d : Layers) (before : List Change) (publishing : Change) (after : List Replacing) → Lays a b (flat_map laying before) → Lays b c (laying publishing)
    → OnOk r (Lays c d (flat_map laying (map (λ x. Replace x) after))) → OnOk r (Lays a d (flat_map laying (before ++ publishing ∷ map (λ x. Replace x) after)))
parts-answer (Ok x) a b c d before publishing after h k m =
    subst (Lays a d) (sym (laid-append before (publishing ∷ map (λ x. Replace x) after)))
    (lays-then a b d (flat_map laying before) (laying publishing ++ flat_map laying (map (λ x. Replace x) after)) h (lays-then b c d (laying publishing) (flat_map laying (map (λ x. Replace x) after)) k m))
parts-answer (Err e) a b c d before publishing after h k m = tt
