-- Files that are removed, one after another.
use Rattle.std.proofs.Common.{◌≡◌, ℕ, ◌+◌, ◌<◌, ◌≤◌, List, [], ◌∷◌, ◌++◌, length, map, take, slice_index_or, Bool, true, false, ◌&&◌, cond, refl, sym, ◌∙◌, ap, subst, inl, inr, append_assoc, arith}
use Rattle.std.specs.Prelude.{Option, Some, None, Result, Ok, Err}
use Rattle.std.specs.List.{AllByRecursion}
use Rattle.std.specs.Result.{is_ok}
use Rattle.std.proofs.lemmas.List.{map-append, take_more}
use Rattle.hgs_files.specs.declared.files.FileFault.{FileFault}
use Rattle.hgs_files.specs.declared.op.Op.{Op}
use Rattle.hgs_files.specs.declared.op.Op.TheVariants.{Remove}
use Rattle.hgs_files.specs.Files.{GoesOn, LeavesWhole}
use Rattle.hgs_files.specs.Log.{IsPiece}
use Rattle.hgs_files.specs.Reads.{Rose}
use Rattle.hgs_files.specs.Stop.{IsStopped}
use Rattle.hgs_files.specs.Tree.{Tree, after_all, apply, same_path, with_file}
use Rattle.hgs_journal.specs.Covers.{is_loose}
use Rattle.hgs_machine.specs.Carry.{tree_now}
use Rattle.hgs_machine.specs.Course.{AreSome}
use Rattle.hgs_machine.specs.Locks.{CausesLeft, NeverFall}
use Rattle.hgs_ops.specs.Operations.{strays}
use Rattle.hgs_recover.specs.Clearing.{Clears, leftover_paths}
use Rattle.hgs_recover.proofs.Basics.{after_all-append, same_path-eq, with_file-same}

abbrev remove : List ℕ → Op
remove path = Remove path

false-true : {A : Type 0} → false ≡ true → A
false-true e = cc

-- ---- one file

clears-removed : (path : List ℕ) (t : Tree) → Clears (path ∷ []) t true (Remove path ∷ [])
clears-removed path t = record { some = inr ([], refl, refl); gone = λ e. (with_file-same t path None, tt) }

pub clears-left : (path : List ℕ) (t : Tree) → Clears (path ∷ []) t false []
clears-left path t = record { some = inl refl; gone = λ e. false-true e }

-- ---- one after another

gone-after : (t : Tree) (y path : List ℕ) → t path ≡ None → with_file t y None path ≡ None
gone-after t y path e = by (same_path y path)
  where
    by : (b : Bool) → cond b None (t path) ≡ None
    by true = refl
    by false = e

stays-gone : (ys : List (List ℕ)) (log : List Op) (t : Tree) (path : List ℕ) → AreSome (map remove ys) log → t path ≡ None → after_all log t path ≡ None
stays-gone [] log t path h e = ap (λ (l : List Op). after_all l t path) h ∙ e
stays-gone (y ∷ ys) log t path (inl h) e = stays-gone ys log t path h e
stays-gone (y ∷ ys) log t path (inr h) e = ap (λ (l : List Op). after_all l t path) h.1 ∙ stays-gone ys h.0 (with_file t y None) path h.2 (gone-after t y path e)

some-both : (xs ys a b : List Op) → AreSome xs a → AreSome ys b → AreSome (xs ++ ys) (a ++ b)
some-both [] ys a b h k = subst (λ (l : List Op). AreSome ys (l ++ b)) (sym h) k
some-both (x ∷ xs) ys a b (inl h) k = inl (some-both xs ys a b h k)
some-both (x ∷ xs) ys a b (inr h) k = inr (h.0 ++ b, ap (λ (l : List Op). l ++ b) h.1, some-both xs ys h.0 b h.2 k)

abbrev AreGone : Tree → List (List ℕ) → Type 0
AreGone t paths = AllByRecursion (λ path. t path ≡ None) paths

all-stay-gone : (xs ys : List (List ℕ)) (log : List Op) (t : Tree) → AreSome (map remove ys) log → AreGone t xs → AreGone (after_all log t) xs
all-stay-gone [] ys log t h k = tt
all-stay-gone (x ∷ xs) ys log t h k = (stays-gone ys log t x h k.0, all-stay-gone xs ys log t h k.1)

all-gone : (xs ys : List (List ℕ)) (t : Tree) → AreGone t xs → AreGone t ys → AreGone t (xs ++ ys)
all-gone [] ys t h k = k
all-gone (x ∷ xs) ys t h k = (h.0, all-gone xs ys t h.1 k)

and-left : (a b : Bool) → (a && b) ≡ true → a ≡ true
and-left true b e = refl
and-left false b e = e

and-right : (a b : Bool) → (a && b) ≡ true → b ≡ true
and-right true b e = e
and-right false b e = false-true e

pub clears-both : (xs ys : List (List ℕ)) (t : Tree) (a b : Bool) (l m : List Op) → Clears xs t a l → Clears ys (after_all l t) b m → Clears (xs ++ ys) t (a && b) (l ++ m)
clears-both xs ys t a b l m h k = record {
  some = subst (λ (ops : List Op). AreSome ops (l ++ m)) (sym (map-append remove xs ys)) (some-both (map remove xs) (map remove ys) l m h.some k.some);
  gone = λ e. subst (λ (u : Tree). AreGone u (xs ++ ys)) (sym (after_all-append l m t))
      (all-gone xs ys (after_all m (after_all l t)) (all-stay-gone xs ys m (after_all l t) k.some (h.gone (and-left a b e))) (k.gone (and-right a b e)));
}

-- ---- what calls leave

pub removed-by : (t : Tree) (path : List ℕ) (r : Result Unit FileFault) (more : List Op) → LeavesWhole (Remove path) r more → Clears (path ∷ []) t (is_ok r) more
removed-by t path (Ok x) more h = subst (Clears (path ∷ []) t true) (sym h) (clears-removed path t)
removed-by t path (Err e) more h = subst (Clears (path ∷ []) t false) (sym h) (clears-left path t)

-- what is done at a tree, and then at the tree that this leaves
pub then : (before mid after : Option (List Op)) (start start_mid : Tree) (P Q R : Tree → List Op → Type 0) → start_mid ≡ start → ((t : Tree) (a b : List Op) → P t a → Q (after_all a t) b → R t (a ++ b))
    → GoesOn before mid (P (tree_now before start)) → GoesOn mid after (Q (tree_now mid start_mid)) → GoesOn before after (R (tree_now before start))
then None mid after start start_mid P Q R same f h k = subst (λ x. GoesOn x after (Q (tree_now x start_mid))) h k
then (Some log) mid after start start_mid P Q R same f h k =
    let second = subst (λ x. GoesOn x after (Q (tree_now x start_mid))) h.1 k in
    let tree : after_all (log ++ h.0) start_mid ≡ after_all h.0 (after_all log start) = ap (λ (u : Tree). after_all (log ++ h.0) u) same ∙ after_all-append log h.0 start in
    (h.0 ++ second.0, second.1 ∙ ap (λ (l : List Op). Some l) (append_assoc log h.0 second.0), f (after_all log start) h.0 second.0 h.2 (subst (λ (u : Tree). Q u second.0) tree second.2))

-- the paths up to a place, and the one there
pub one-more : (paths : List (List ℕ)) (i : ℕ) (path : List ℕ) → i < length paths → path ≡ slice_index_or paths i path → take i paths ++ path ∷ [] ≡ take (i + 1) paths
one-more paths i path within is = ap (λ (p : List ℕ). take i paths ++ p ∷ []) is ∙ sym (take_more paths i path within)

-- ---- causes

pub falls-never : (f g h d e i : ℕ) → NeverFall f g d e → NeverFall g h e i → NeverFall f h d i
falls-never f g h d e i n m = (let a = n.faults in let b = n.denied in let x = m.faults in let y = m.denied in record { faults = omega (arith, a, x); denied = omega (arith, b, y) })

earlier : (f g h : ℕ) → Rose f g → g ≤ h → Rose f h
earlier f g h r l = omega (arith, r, l)

later : (f g h : ℕ) → f ≤ g → Rose g h → Rose f h
later f g h l r = omega (arith, l, r)

pub left-by : (f g h d e i : ℕ) (a b : Bool) → NeverFall f g d e → NeverFall g h e i → CausesLeft f g d e a → CausesLeft g h e i b → CausesLeft f h d i (a && b)
left-by f g h d e i false b n m (inl r) k = inl (earlier f g h r m.faults)
left-by f g h d e i false b n m (inr r) k = inr (earlier d e i r m.denied)
left-by f g h d e i true true n m x k = tt
left-by f g h d e i true false n m x (inl r) = inl (later f g h n.faults r)
left-by f g h d e i true false n m x (inr r) = inr (later d e i n.denied r)

-- ---- what stays

or-false : {A : Type 0} (b : Bool) → b ≡ true → b ≡ false → A
or-false true e f = cc
or-false false e f = cc

-- the path of a removal is that of a lock or of a stray
abbrev IsLooseRemoval : Op → Type 0
IsLooseRemoval op = (path : List ℕ) × (op ≡ Remove path) × (is_loose strays path ≡ true)

some-loose : (paths : List (List ℕ)) (log : List Op) → AllByRecursion (λ path. is_loose strays path ≡ true) paths → AreSome (map remove paths) log → AllByRecursion IsLooseRemoval log
some-loose [] log h s = subst (AllByRecursion IsLooseRemoval) (sym s) tt
some-loose (p ∷ paths) log h (inl s) = some-loose paths log h.1 s
some-loose (p ∷ paths) log h (inr s) = subst (AllByRecursion IsLooseRemoval) (sym s.1) ((p, refl, h.0), some-loose paths s.0 h.1 s.2)

stopped-loose : (log done : List Op) → AllByRecursion IsLooseRemoval log → IsStopped log done → AllByRecursion IsLooseRemoval done
stopped-loose [] done h e = subst (AllByRecursion IsLooseRemoval) (sym e) tt
stopped-loose (op ∷ log) done h (inl e) = subst (AllByRecursion IsLooseRemoval) (sym e) tt
stopped-loose (op ∷ log) done h (inr (inl (piece, left, p, e))) =
    let same : piece ≡ Remove h.0.0 = (subst (λ (o : Op). IsPiece o piece left) h.0.1 p).0 in
    subst (AllByRecursion IsLooseRemoval) (sym e) ((h.0.0, same, h.0.2), tt)
stopped-loose (op ∷ log) done h (inr (inr (more, s, e))) = subst (AllByRecursion IsLooseRemoval) (sym e) (h.0, stopped-loose log more h.1 s)

away : (t : Tree) (p q : List ℕ) → is_loose strays p ≡ true → is_loose strays q ≡ false → with_file t p None q ≡ t q
away t p q a b = by (same_path p q) refl
  where
    by : (c : Bool) → same_path p q ≡ c → cond c None (t q) ≡ t q
    by true e = or-false (is_loose strays p) a (ap (is_loose strays) (same_path-eq p q e) ∙ b)
    by false e = refl

loose-stay : (log : List Op) (t : Tree) (q : List ℕ) → AllByRecursion IsLooseRemoval log → is_loose strays q ≡ false → after_all log t q ≡ t q
loose-stay [] t q h e = refl
loose-stay (op ∷ log) t q h e =
    loose-stay log (apply op t) q h.1 e ∙ ap (λ (o : Op). apply o t q) h.0.1 ∙ away t h.0.0 q h.0.2 e

leftovers-loose : AllByRecursion (λ path. is_loose strays path ≡ true) leftover_paths
leftovers-loose = (refl, (refl, (refl, (refl, (refl, (refl, (refl, (refl, (refl, (refl, (refl, (refl, tt))))))))))))

-- no file but locks and strays is changed, wherever it is stopped
pub others-stay : (t : Tree) (swept : Bool) (log done : List Op) (q : List ℕ) → Clears leftover_paths t swept log → IsStopped log done → is_loose strays q ≡ false → after_all done t q ≡ t q
others-stay t swept log done q h s e = loose-stay done t q (stopped-loose log done (some-loose leftover_paths log leftovers-loose h.some) s) e

pub all-others-stay : (t : Tree) (swept : Bool) (log : List Op) (q : List ℕ) → Clears leftover_paths t swept log → is_loose strays q ≡ false → after_all log t q ≡ t q
all-others-stay t swept log q h e = loose-stay log t q (some-loose leftover_paths log leftovers-loose h.some) e
