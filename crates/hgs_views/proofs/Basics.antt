-- Truth values, equal bytes, fronts, files of a tree, and questions one after another.
use Rattle.hgs_revlog.specs.Held.{AreWithinLimits}
use Rattle.hgs_index.specs.Either.{BeginsEither}
use Rattle.hgs_index.specs.Revlog.{BeginsWithRevisions}
use Rattle.hgs_index.specs.Theorems.EitherLemmas.{either-more}
use Rattle.hgs_index.specs.Revision.{Revision}
use Rattle.std.proofs.Common.{◌≡◌, ℕ, zero, suc, List, [], ◌∷◌, ◌++◌, Bool, true, false, cond, ◌&&◌, Option, Some, None, Result, Ok, Err, length, take, drop, refl, sym, ◌∙◌, ap, subst, arith, append-nil, append_assoc, length-append}
use Rattle.std.specs.Prelude.{slice_get, unwrap_or, ⊤}
use Rattle.std.specs.Bool.{MatchBool}
use Rattle.std.specs.Cmp.{Equal-is}
use Rattle.std.specs.Cmp.Lexicographic.{bytes_decides, slice_cmp}
use Rattle.std.specs.List.{AllByRecursion}
use Rattle.std.specs.Option.{option_map}
use Rattle.std.specs.Ordering.{nat_cmp}
use Rattle.std.proofs.lemmas.Map.Lookups.{exact_bytes}
use Rattle.hgs_bytes.specs.Bytes.{same, IsPrefixOf}
use Rattle.hgs_files.specs.declared.op.Op.{Op}
use Rattle.hgs_files.specs.Tree.{Tree, same_path, with_file, after_all, apply}
use Rattle.hgs_load.specs.declared.answer.ReadAnswer.{ReadAnswer}
use Rattle.hgs_load.specs.Asks.{Asks, answer, read, part_of, at_rest, then_asks, MayAnswer}

pub never : {A : Type 0} → true ≡ false → A
never e = absurd (no_case e)
  where
    no_case : true ≡ false → ⊥
    no_case h = cc

pub and-left : (a b : Bool) → (a && b) ≡ true → a ≡ true
and-left true b e = refl
and-left false b e = e

pub and-right : (a b : Bool) → (a && b) ≡ true → b ≡ true
and-right true b e = e
and-right false b e = never (sym e)

pub either : (b : Bool) (P Q : Type 0) → (P → Q) → MatchBool b ⊤ P → MatchBool b ⊤ Q
either true P Q f m = tt
either false P Q f m = f m

pub same-refl : (x : List ℕ) → same x x ≡ true
same-refl x = (bytes_decides x x).1 refl

pub same-eq : (x y : List ℕ) → same x y ≡ true → x ≡ y
same-eq x y e = (bytes_decides x y).0 e

pub all-map : {A : Type 0} (P Q : A → Type 0) (xs : List A) → ((x : A) → P x → Q x) → AllByRecursion P xs → AllByRecursion Q xs
all-map P Q [] f all = tt
all-map P Q (x ∷ xs) f all = (f x all.0, all-map P Q xs f all.1)

-- ---- fronts

pub prefix-refl : {A : Type 0} (l : List A) → IsPrefixOf l l
prefix-refl l = ([], sym (append-nil l))

pub prefix-trans : {A : Type 0} (a b c : List A) → IsPrefixOf a b → IsPrefixOf b c → IsPrefixOf a c
prefix-trans a b c f g = (f.0 ++ g.0, g.1 ∙ ap (λ l. l ++ g.0) f.1 ∙ append_assoc a f.0 g.0)

no_items : {A : Type 0} (l : List A) → length l ≡ 0 → l ≡ []
no_items [] h = refl
no_items (x ∷ l) h = absurd (omega arith)

pub prefix-antisym : {A : Type 0} (a b : List A) → IsPrefixOf a b → IsPrefixOf b a → b ≡ a
prefix-antisym a b f g =
    let p = ap length f.1 in
    let q = ap length g.1 in
    let none : length f.0 ≡ 0 = omega (arith, p, q, length-append a f.0, length-append b g.0) in
    f.1 ∙ ap (λ l. a ++ l) (no_items f.0 none) ∙ append-nil a

get-front : {A : Type 0} (xs ys : List A) (rev : ℕ) (x : A) → slice_get xs rev ≡ Some x → slice_get (xs ++ ys) rev ≡ Some x
get-front [] ys rev x e = cc
get-front (y ∷ xs) ys zero x e = e
get-front (y ∷ xs) ys (suc rev) x e = get-front xs ys rev x e

pub slice_get-front : {A : Type 0} (xs ys : List A) → IsPrefixOf xs ys → (rev : ℕ) (x : A) → slice_get xs rev ≡ Some x → slice_get ys rev ≡ Some x
slice_get-front xs ys p rev x e = ap (λ l. slice_get l rev) p.1 ∙ get-front xs p.0 rev x e

-- ---- files of a tree

pub same_path-eq : (p q : List ℕ) → same_path p q ≡ true → p ≡ q
same_path-eq p q e = exact_bytes p q ((Equal-is (slice_cmp nat_cmp p q)).0 e)

pub other-path : (p q : List ℕ) → same p q ≡ false → same_path p q ≡ false
other-path p q e = by (same_path p q) refl
  where
    by : (b : Bool) → same_path p q ≡ b → same_path p q ≡ false
    by true h = never (sym (same-refl p) ∙ ap (same p) (same_path-eq p q h) ∙ e)
    by false h = h

pub with_file-other : (t : Tree) (p q : List ℕ) (x : Option (List ℕ)) → same_path p q ≡ false → with_file t p x q ≡ t q
with_file-other t p q x e = ap (λ b. cond b x (t q)) e

pub after_all-append : (xs ys : List Op) (t : Tree) → after_all (xs ++ ys) t ≡ after_all ys (after_all xs t)
after_all-append [] ys t = refl
after_all-append (x ∷ xs) ys t = after_all-append xs ys (apply x t)

-- ---- questions

drop_none : (n : ℕ) → (let none : List ℕ = [] in drop n none) ≡ []
drop_none zero = refl
drop_none (suc n) = refl

take_none : (n : ℕ) → (let none : List ℕ = [] in take n none) ≡ []
take_none zero = refl
take_none (suc n) = refl

-- what is read of a file is a part of its bytes; an absent one has none
pub part_is : (file : Option (List ℕ)) (from most : ℕ) → unwrap_or (option_map (λ bytes. take most (drop from bytes)) file) [] ≡ take most (drop from (unwrap_or file []))
part_is None from most = sym (ap (take most) (drop_none from) ∙ take_none most)
part_is (Some bytes) from most = refl

-- a question ends at a list that goes on from where it began
pub may-front : {A : Type 0} (q : Asks A) (start : Tree) (k l : List Op) (y : A) → MayAnswer start k q l y → IsPrefixOf k l
may-front (answer x) start k l y m = m.0
may-front (read path from most rest) start k l y m = prefix-trans k m.0 l m.1 (may-front (rest (part_of (after_all m.0 start) path from most)) start m.0 l y m.2)

ok_is : {A : Type 0} (x y : A) → (let a : Result A ReadAnswer = Ok x in a) ≡ Ok y → x ≡ y
ok_is x y e = cc

no_ok : {A : Type 0} (x : A) (e : ReadAnswer) → (let a : Result A ReadAnswer = Ok x in a) ≡ Err e → ⊥
no_ok x e h = cc

pub rest_then : {A B : Type 0} (t : Tree) (q : Asks (Result A ReadAnswer)) (more : A → Asks (Result B ReadAnswer)) (x : A) → at_rest t q ≡ Ok x → at_rest t (then_asks q more) ≡ at_rest t (more x)
rest_then t (answer (Ok y)) more x h = ap (λ z. at_rest t (more z)) (ok_is y x h)
rest_then t (answer (Err e)) more x h = absurd (no_ok x e (sym h))
rest_then t (read path from most rest) more x h = rest_then t (rest (part_of t path from most)) more x h

-- both questions were answered
pub rest_both : {A B : Type 0} (t : Tree) (q : Asks (Result A ReadAnswer)) (more : A → Asks (Result B ReadAnswer)) (y : B) → at_rest t (then_asks q more) ≡ Ok y → (x : A) × (at_rest t q ≡ Ok x) × (at_rest t (more x) ≡ Ok y)
rest_both t (answer (Ok x)) more y h = (x, refl, h)
rest_both t (answer (Err e)) more y h = absurd (no_ok y e (sym h))
rest_both t (read path from most rest) more y h = rest_both t (rest (part_of t path from most)) more y h

-- what is within the limits with all bytes is within them with those of its front
pub front-limits : (index data_bytes : List ℕ) (revisions : List Revision) (begins : BeginsWithRevisions index data_bytes revisions) → AreWithinLimits revisions data_bytes → AreWithinLimits revisions begins.data_front
front-limits index data_bytes revisions begins within = record {
  few = within.few;
  texts = within.texts;
  data_end = (let room = within.data_end in let parts = ap length begins.data_begins.1 in let sum = length-append begins.data_front begins.data_begins.0 in omega (arith, room, parts, sum));
}

-- bytes that go on from others begin with the revisions that these begin with, in the form that the index says
pub begins-on : (index data_bytes index_on data_on : List ℕ) (revisions : List Revision) → IsPrefixOf index index_on → IsPrefixOf data_bytes data_on → BeginsEither index data_bytes revisions → BeginsEither index_on data_on revisions
begins-on index data_bytes index_on data_on revisions p q b =
    subst (λ i. BeginsEither i data_on revisions) (sym p.1) (subst (λ d. BeginsEither (index ++ p.0) d revisions) (sym q.1) (either-more index data_bytes p.0 q.0 revisions b))

-- and so do equal ones
pub begins-same : (index data_bytes index_on data_on : List ℕ) (revisions : List Revision) → index_on ≡ index → data_on ≡ data_bytes → BeginsEither index data_bytes revisions → BeginsEither index_on data_on revisions
begins-same index data_bytes index_on data_on revisions p q b = subst (λ i. BeginsEither i data_on revisions) (sym p) (subst (λ d. BeginsEither index d revisions) (sym q) b)
