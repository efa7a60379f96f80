-- What a reader finds.
use Rattle.std.proofs.Common.{◌≡◌, ℕ, zero, suc, ◌+◌, ◌-◌, Bool, true, false, List, [], ◌∷◌, ◌++◌, length, take, drop, refl, sym, ◌∙◌, ap, subst, arith, append_assoc, length-append, length-take}
use Rattle.std.specs.Prelude.{Option, Some, None, Result, Ok, Err, IfSome, is_some, unwrap_or}
use Rattle.hgs_files.specs.declared.op.Op.{Op}
use Rattle.hgs_files.specs.declared.files.FileFault.{FileFault}
use Rattle.hgs_files.specs.Reads.{ReadsPart, IsSizeOf, HasSize}
use Rattle.hgs_files.specs.Tree.{Tree, bytes_at, after_all}
use Rattle.hgs_files.specs.Theorems.TreeLemmas.{after_all-append}
use Rattle.hgs_overlay.specs.declared.layers.Layer.{Layer}
use Rattle.hgs_overlay.specs.declared.layers.Layers.{Layers}
use Rattle.hgs_overlay.specs.Layers.{laid_ops, layer_at, laid_on, covered}
use Rattle.hgs_overlay.specs.Overlay.{AddsStanding, AddsUnder, length_under, seen_over}
use Rattle.hgs_overlay.proofs.LayerLemmas.{layers_at}

-- ---- a file under its layer

take_two : (n : ℕ) (xs ys : List ℕ) → take n (xs ++ ys) ≡ take n xs ++ take (n - length xs) ys
take_two zero [] ys = refl
take_two (suc n) [] ys = let all : suc n ≡ suc n - 0 = omega arith in ap (λ k. take k ys) all
take_two zero (x ∷ xs) ys = let none : 0 ≡ 0 - length (x ∷ xs) = omega arith in ap (λ n. take n ys) none
take_two (suc n) (x ∷ xs) ys = let less : n - length xs ≡ suc n - length (x ∷ xs) = omega arith in ap (λ l. x ∷ l) (take_two n xs ys) ∙ ap (λ k. x ∷ (take n xs ++ take k ys)) less

drop_two : (n : ℕ) (xs ys : List ℕ) → drop n (xs ++ ys) ≡ drop n xs ++ drop (n - length xs) ys
drop_two zero [] ys = refl
drop_two (suc n) [] ys = let all : suc n ≡ suc n - 0 = omega arith in ap (λ k. drop k ys) all
drop_two zero (x ∷ xs) ys = let none : 0 ≡ 0 - length (x ∷ xs) = omega arith in ap (λ n. (x ∷ xs) ++ drop n ys) none
drop_two (suc n) (x ∷ xs) ys = let less : n - length xs ≡ suc n - length (x ∷ xs) = omega arith in drop_two n xs ys ∙ ap (λ k. drop n xs ++ drop k ys) less

-- the part of two texts, one behind the other
part_of_two : (from most left : ℕ) (file more : List ℕ) → left ≡ most - length (take most (drop from file)) → take most (drop from file) ++ take left (drop (from - length file) more) ≡ take most (drop from (file ++ more))
part_of_two from most left file more is =
    let fewer : left ≡ most - length (drop from file) = omega (arith, is, length-take most (drop from file)) in
    ap (λ n. take most (drop from file) ++ take n (drop (from - length file) more)) fewer
    ∙ sym (take_two most (drop from file) (drop (from - length file) more)) ∙ ap (take most) (sym (drop_two from file more))

laid_at : (l : Layers) (path : List ℕ) (o : Option Layer) → o ≡ layer_at l path → (log : List Op) (start : Tree) → after_all (log ++ laid_ops l) start path ≡ covered o (after_all log start path)
laid_at l path o is log start =
    ap (λ t. t path) (after_all-append log (laid_ops l) start) ∙ layers_at l (after_all log start) path ∙ ap (λ x. covered x (after_all log start path)) (sym is)

-- a file with nothing laid over it
pub bare_part : (seen : Option (List Op)) (start : Tree) (l : Layers) (path : List ℕ) → None ≡ layer_at l path → (from most : ℕ) (old new : List ℕ) (part : Option ℕ)
    → IfSome seen (λ log. ReadsPart (after_all log start path) from most old new part) → IfSome seen (λ log. AddsStanding (after_all (log ++ laid_ops l) start path) from most old new (is_some part))
bare_part None start l path none from most old new part h = tt
bare_part (Some log) start l path none from most old new None h = laid_at l path None none log start ∙ h
bare_part (Some log) start l path none from most old new (Some k) h = (h.0, laid_at l path None none log start ∙ h.1, h.2)

pub bare_size : (seen : Option (List Op)) (start : Tree) (l : Layers) (path : List ℕ) → None ≡ layer_at l path → (size : Option ℕ)
    → IfSome seen (λ log. IsSizeOf (after_all log start path) size) → IfSome seen (λ log. IsSizeOf (after_all (log ++ laid_ops l) start path) size)
bare_size None start l path none size h = tt
bare_size (Some log) start l path none None h = laid_at l path None none log start ∙ h
bare_size (Some log) start l path none (Some k) h = (h.0, laid_at l path None none log start ∙ h.1, h.2)

-- a file with a layer, and its bytes behind what is under them
layered : (in_place : Bool) (bytes : List ℕ) (file : Option (List ℕ)) (from most : ℕ) (old mid new : List ℕ) (place left : ℕ)
    → AddsUnder in_place (unwrap_or file []) from most old mid place left → new ≡ mid ++ take left (drop place bytes) → AddsStanding (laid_on in_place bytes file) from most old new true
layered true bytes file from most old mid new place left h is = (bytes, refl, is ∙ ap (λ l. l ++ take left (drop place bytes)) h.0 ∙ ap (λ n. old ++ take n (drop place bytes)) h.2 ∙ ap (λ n. old ++ take most (drop n bytes)) h.1)
layered false bytes file from most old mid new place left h is =
    let f = unwrap_or file [] in (
      f ++ bytes,
      refl,
      is ∙ ap (λ l. l ++ take left (drop place bytes)) h.0.0 ∙ append_assoc old (take most (drop from f)) (take left (drop place bytes))
          ∙ ap (λ k. old ++ (take most (drop from f) ++ take left (drop k bytes))) h.0.1 ∙ ap (λ l. old ++ l) (part_of_two from most left f bytes h.1),
    )

pub layered_part : (seen : Option (List Op)) (start : Tree) (l : Layers) (path : List ℕ) (layer : Layer) → Some layer ≡ layer_at l path → (from most : ℕ) (old mid new : List ℕ) (place left : ℕ)
    → IfSome seen (λ log. AddsUnder layer.in_place (bytes_at (after_all log start) path) from most old mid place left) → new ≡ mid ++ take left (drop place layer.bytes)
    → IfSome seen (λ log. AddsStanding (after_all (log ++ laid_ops l) start path) from most old new true)
layered_part None start l path layer is from most old mid new place left h e = tt
layered_part (Some log) start l path layer is from most old mid new place left h e =
    subst (λ (file : Option (List ℕ)). AddsStanding file from most old new true) (sym (laid_at l path (Some layer) is log start)) (layered layer.in_place layer.bytes (after_all log start path) from most old mid new place left h e)

sized : (in_place : Bool) (bytes : List ℕ) (file : Option (List ℕ)) (size : ℕ) → size ≡ length_under in_place (unwrap_or file []) + length bytes → IsSizeOf (laid_on in_place bytes file) (Some size)
sized true bytes file size is = (bytes, refl, is ∙ omega arith)
sized false bytes file size is = (unwrap_or file [] ++ bytes, refl, is ∙ sym (length-append (unwrap_or file []) bytes))

pub layered_size : (seen : Option (List Op)) (start : Tree) (l : Layers) (path : List ℕ) (layer : Layer) → Some layer ≡ layer_at l path → (before size : ℕ)
    → IfSome seen (λ log. before ≡ length_under layer.in_place (bytes_at (after_all log start) path)) → size ≡ before + length layer.bytes
    → IfSome seen (λ log. IsSizeOf (after_all (log ++ laid_ops l) start path) (Some size))
layered_size None start l path layer is before size h e = tt
layered_size (Some log) start l path layer is before size h e =
    subst (λ (file : Option (List ℕ)). IsSizeOf file (Some size)) (sym (laid_at l path (Some layer) is log start)) (sized layer.in_place layer.bytes (after_all log start path) size (e ∙ ap (λ n. n + length layer.bytes) h))

-- where nobody else writes, and the list is told
pub told : (alone : Bool) (seen : Option (List Op)) (l : Layers) (P : List Op → Type 0) → (alone ≡ true → IfSome seen (λ log. P (log ++ laid_ops l))) → IfSome (seen_over alone seen (laid_ops l)) P
told false seen l P h = tt
told true None l P h = tt
told true (Some log) l P h = h refl

pub bare_size_over : (alone : Bool) (seen : Option (List Op)) (start : Tree) (l : Layers) (path : List ℕ) → None ≡ layer_at l path → (r : Result (Option ℕ) FileFault) → HasSize seen start path r → HasSize (seen_over alone seen (laid_ops l)) start path r
bare_size_over alone seen start l path none (Ok size) h = told alone seen l (λ log. IsSizeOf (after_all log start path) size) (λ a. bare_size seen start l path none size h)
bare_size_over alone seen start l path none (Err e) h = tt
