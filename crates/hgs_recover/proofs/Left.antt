-- Files that could not be removed.
use Rattle.std.proofs.Common.{◌≡◌, ◌≤◌, ℕ, ◌+◌, List, [], ◌∷◌, ◌++◌, map, Bool, true, false, ◌&&◌, cond, refl, sym, ◌∙◌, ap, subst, inl, inr, arith, append-nil}
use Rattle.std.specs.Prelude.{Option, Some, None, Result, Ok, Err}
use Rattle.std.specs.Result.{is_ok}
use Rattle.hgs_files.specs.declared.files.FileFault.{FileFault}
use Rattle.hgs_files.specs.declared.files.FileFault.TheVariants.{Failed, Memory as NoMemory}
use Rattle.hgs_files.specs.declared.op.Op.{Op}
use Rattle.hgs_files.specs.declared.op.Op.TheVariants.{Remove}
use Rattle.hgs_files.specs.Files.{GoesOn, LeavesWhole}
use Rattle.hgs_files.specs.Reads.{Counts, HasSize, IsSizeOf}
use Rattle.hgs_files.specs.Tree.{Tree, after_all, same_path, with_file}
use Rattle.hgs_machine.specs.Carry.{tree_now}
use Rattle.hgs_machine.specs.Course.{AreSome}
use Rattle.hgs_machine.specs.Refusals.{WereRefused, how_many_stand, standing}
use Rattle.hgs_machine.specs.Theorems.RefusedLemmas.{both-refused, fewer-refused, none-refused}
use Rattle.hgs_load.specs.declared.answer.ReadAnswer.{ReadAnswer}
use Rattle.hgs_load.specs.declared.answer.ReadAnswer.TheVariants.{Damaged, Fault, Limit, UnknownPath, NotARepository, Requirement, Memory}
use Rattle.hgs_recover.specs.Answer.{outcome_of_read}
use Rattle.hgs_recover.specs.Recovering.{RecoversBy}
use Rattle.hgs_recover.specs.declared.answer.RecoverAnswer.{RecoverAnswer}
use Rattle.hgs_recover.specs.Clearing.{ClearsEach, IsLeft, leftover_paths}
use Rattle.hgs_recover.proofs.Basics.{after_all-append, with_file-same}
use Rattle.hgs_recover.proofs.Clears.{clears-both, clears-left, removed-by, then}

abbrev remove : List ℕ → Op
remove path = Remove path

-- ---- how many stand

up-to : (a b c : ℕ) → a ≤ b → b ≤ c → a ≤ c
up-to a b c p q = omega (arith, p, q)

at-most-one : (x : Option (List ℕ)) → standing x ≤ 1
at-most-one None = omega arith
at-most-one (Some bytes) = omega arith

fewer-one : (b : Bool) (x : Option (List ℕ)) → standing (cond b None x) ≤ standing x
fewer-one true x = omega arith
fewer-one false x = omega arith

-- a removal makes no file stand
stays-fewer : (ys : List (List ℕ)) (log : List Op) (t : Tree) (path : List ℕ) → AreSome (map remove ys) log → standing (after_all log t path) ≤ standing (t path)
stays-fewer [] log t path h = subst (λ (l : List Op). standing (after_all l t path) ≤ standing (t path)) (sym h) (omega arith)
stays-fewer (y ∷ ys) log t path (inl h) = stays-fewer ys log t path h
stays-fewer (y ∷ ys) log t path (inr h) =
    subst (λ (l : List Op). standing (after_all l t path) ≤ standing (t path)) (sym h.1)
    (up-to (standing (after_all h.0 (with_file t y None) path)) (standing (with_file t y None path)) (standing (t path)) (stays-fewer ys h.0 (with_file t y None) path h.2) (fewer-one (same_path y path) (t path)))

all-fewer : (xs ys : List (List ℕ)) (log : List Op) (t : Tree) → AreSome (map remove ys) log → how_many_stand xs (after_all log t) ≤ how_many_stand xs t
all-fewer [] ys log t h = omega arith
all-fewer (x ∷ xs) ys log t h = omega (arith, stays-fewer ys log t x h, all-fewer xs ys log t h)

counts-both : (xs ys : List (List ℕ)) (t : Tree) → how_many_stand (xs ++ ys) t ≡ how_many_stand xs t + how_many_stand ys t
counts-both [] ys t = omega arith
counts-both (x ∷ xs) ys t = omega (arith, counts-both xs ys t)

-- ---- one after another

each-of-both : (xs ys : List (List ℕ)) (t : Tree) (a b : Bool) (f g h d e i : ℕ) (l m : List Op) → ClearsEach xs t a f g d e l → ClearsEach ys (after_all l t) b g h e i m → ClearsEach (xs ++ ys) t (a && b) f h d i (l ++ m)
each-of-both xs ys t a b f g h d e i l m p q =
    let u = after_all m (after_all l t) in
    let le : how_many_stand (xs ++ ys) u ≤ how_many_stand xs (after_all l t) + how_many_stand ys u = omega (arith, counts-both xs ys u, all-fewer xs ys m (after_all l t) q.clears.some) in
    record {
      clears = clears-both xs ys t a b l m p.clears q.clears;
      left = subst (λ (v : Tree). WereRefused (how_many_stand (xs ++ ys) v) f h d i) (sym (after_all-append l m t))
          (fewer-refused (how_many_stand (xs ++ ys) u) (how_many_stand xs (after_all l t) + how_many_stand ys u) f h d i le
          (both-refused (how_many_stand xs (after_all l t)) (how_many_stand ys u) f g h d e i p.left q.left));
    }

pub cleared : (before mid after : Option (List Op)) (start start_mid : Tree) (xs ys all : List (List ℕ)) (a b : Bool) (f g h d e i : ℕ) → xs ++ ys ≡ all → start_mid ≡ start → GoesOn before mid (ClearsEach xs (tree_now before start) a f g d e)
    → GoesOn mid after (ClearsEach ys (tree_now mid start_mid) b g h e i) → GoesOn before after (ClearsEach all (tree_now before start) (a && b) f h d i)
cleared before mid after start start_mid xs ys all a b f g h d e i whole same p q =
    then before mid after start start_mid (λ t. ClearsEach xs t a f g d e) (λ t. ClearsEach ys t b g h e i) (λ t. ClearsEach all t (a && b) f h d i) same
    (λ t l m x y. subst (λ paths. ClearsEach paths t (a && b) f h d i (l ++ m)) whole (each-of-both xs ys t a b f g h d e i l m x y)) p q

-- ---- what calls leave

one-refused : (T : Type 0) (f g d e : ℕ) (fault : FileFault) → Counts {T = T} f g d e (Err fault) → WereRefused 1 f g d e
one-refused T f g d e Failed h = record { failed = 1; wanting = 0; all = omega arith; faults = omega (arith, h.0.0); denied = omega (arith, h.1) }
one-refused T f g d e NoMemory h = record { failed = 0; wanting = 1; all = omega arith; faults = omega (arith, h.0); denied = omega (arith, h.1.0) }

one-left : (f g d e : ℕ) (x : Option (List ℕ)) → WereRefused 1 f g d e → WereRefused (standing x + 0) f g d e
one-left f g d e x h = fewer-refused (standing x + 0) 1 f g d e (omega (arith, at-most-one x)) h

none-left : (f g d e : ℕ) (x : Option (List ℕ)) → x ≡ None → g ≡ f → e ≡ d → WereRefused (standing x + 0) f g d e
none-left f g d e x gone p q = subst (λ y. WereRefused (standing y + 0) f g d e) (sym gone) (subst (λ y. WereRefused 0 f y d e) (sym p) (subst (λ y. WereRefused 0 f f d y) (sym q) (none-refused f d)))

each-by : (t : Tree) (path : List ℕ) (r : Result Unit FileFault) (f g d e : ℕ) (more : List Op) → Counts f g d e r → LeavesWhole (Remove path) r more → ClearsEach (path ∷ []) t (is_ok r) f g d e more
each-by t path (Ok x) f g d e more counts h = record {
  clears = removed-by t path (Ok x) more h;
  left = none-left f g d e (after_all more t path) (ap (λ (l : List Op). after_all l t path) h ∙ with_file-same t path None) counts.0 counts.1;
}
each-by t path (Err fault) f g d e more counts h = record {
  clears = removed-by t path (Err fault) more h;
  left = one-left f g d e (after_all more t path) (one-refused (Unit {0}) f g d e fault counts);
}

pub removed : (before after : Option (List Op)) (t : Tree) (path : List ℕ) (r : Result Unit FileFault) (ok : Bool) (f g d e : ℕ) → ok ≡ is_ok r → Counts f g d e r → GoesOn before after (LeavesWhole (Remove path) r) → GoesOn before after (ClearsEach (path ∷ []) t ok f g d e)
removed None after t path r ok f g d e is counts h = h
removed (Some log) after t path r ok f g d e is counts (more, same, h) = (more, same, subst (λ b. ClearsEach (path ∷ []) t b f g d e more) (sym is) (each-by t path r f g d e more counts h))

-- one that does not stand
pub absent : (before after seen : Option (List Op)) (start start_new : Tree) (path : List ℕ) (size : Option ℕ) (f g d e : ℕ) → after ≡ before → seen ≡ before → start_new ≡ start → size ≡ None → HasSize seen start_new path (Ok size) → Counts f g d e (Ok size)
    → GoesOn before after (ClearsEach (path ∷ []) (tree_now before start) true f g d e)
absent None after seen start start_new path size f g d e same same_seen same_start none has counts = same
absent (Some log) after seen start start_new path size f g d e same same_seen same_start none has counts =
    let here = subst (λ (u : Tree). HasSize (Some log) u path (Ok size)) same_start (subst (λ s. HasSize s start_new path (Ok size)) same_seen has) in
    let is : after_all log start path ≡ None = subst (λ x. IsSizeOf (after_all log start path) x) none here in (
      [],
      same ∙ ap (λ (l : List Op). Some l) (sym (append-nil log)),
      record { clears = record { some = inl refl; gone = λ x. (is, tt) }; left = none-left f g d e (after_all log start path) is counts.0 counts.1 },
    )

-- one of which it is not known whether it stands
pub unknown : (before after : Option (List Op)) (t : Tree) (path : List ℕ) (fault : FileFault) (f g d e : ℕ) → after ≡ before → Counts {T = Option ℕ} f g d e (Err fault) → GoesOn before after (ClearsEach (path ∷ []) t false f g d e)
unknown None after t path fault f g d e same counts = same
unknown (Some log) after t path fault f g d e same counts = (
  [],
  same ∙ ap (λ (l : List Op). Some l) (sym (append-nil log)),
  record { clears = clears-left path t; left = one-left f g d e (t path) (one-refused (Option ℕ) f g d e fault counts) },
)

-- ---- all of them

pub as-well : (before after : Option (List Op)) (P Q : List Op → Type 0) → ((more : List Op) → P more → Q more) → GoesOn before after P → GoesOn before after Q
as-well None after P Q f h = h
as-well (Some old) after P Q f h = (h.0, h.1, f h.0 h.2)

later-refused : (n f h i d j k : ℕ) → f ≤ h → d ≤ j → WereRefused n h i j k → WereRefused n f i d k
later-refused n f h i d j k p q calls = record { failed = calls.failed; wanting = calls.wanting; all = calls.all; faults = omega (arith, p, calls.faults); denied = omega (arith, q, calls.denied) }

-- behind something else that was done
pub left-behind : (old mid undone after : Option (List Op)) (start start_undone : Tree) (P : List Op → Type 0) (f h i d j k : ℕ) → mid ≡ old → start_undone ≡ start → f ≤ h → d ≤ j → GoesOn mid undone P → GoesOn undone after (IsLeft (tree_now undone start_undone) h i j k)
    → GoesOn old after (IsLeft (tree_now old start) f i d k)
left-behind old mid undone after start start_undone P f h i d j k same same_start p q done left =
    then old undone after start start_undone (λ t. P) (λ t. IsLeft t h i j k) (λ t. IsLeft t f i d k) same_start
    (λ t a b x y. subst (λ (u : Tree). WereRefused (how_many_stand leftover_paths u) f i d k) (sym (after_all-append a b t)) (later-refused (how_many_stand leftover_paths (after_all b (after_all a t))) f h i d j k p q y))
    (subst (λ m. GoesOn m undone P) same done) left

-- behind calls that read
pub left-then : (old mid after : Option (List Op)) (start start_mid : Tree) (f h i d j k : ℕ) → mid ≡ old → start_mid ≡ start → f ≤ h → d ≤ j → GoesOn mid after (IsLeft (tree_now mid start_mid) h i j k) → GoesOn old after (IsLeft (tree_now old start) f i d k)
left-then old mid after start start_mid f h i d j k same same_start p q left =
    let here = subst (λ (u : Tree). GoesOn old after (IsLeft (tree_now old u) h i j k)) same_start (subst (λ m. GoesOn m after (IsLeft (tree_now m start_mid) h i j k)) same left) in
    as-well old after (IsLeft (tree_now old start) h i j k) (IsLeft (tree_now old start) f i d k)
    (λ log x. later-refused (how_many_stand leftover_paths (after_all log (tree_now old start))) f h i d j k p q x) here

-- ---- nothing is done

pub nothing-done : (old mid : Option (List Op)) (P : List Op → Type 0) → mid ≡ old → P [] → GoesOn old mid P
nothing-done None mid P same p = same
nothing-done (Some log) mid P same p = ([], same ∙ ap (λ (l : List Op). Some l) (sym (append-nil log)), p)

-- by what could not be read
pub not-read : (e : ReadAnswer) (answer : RecoverAnswer) (t : Tree) → answer ≡ outcome_of_read e → RecoversBy t answer true []
not-read (Damaged damage) answer t is = subst (λ a. RecoversBy t a true []) (sym is) (refl, refl)
not-read Fault answer t is = subst (λ a. RecoversBy t a true []) (sym is) (refl, refl)
not-read (Limit which) answer t is = subst (λ a. RecoversBy t a true []) (sym is) (refl, refl)
not-read UnknownPath answer t is = subst (λ a. RecoversBy t a true []) (sym is) (refl, refl)
not-read NotARepository answer t is = subst (λ a. RecoversBy t a true []) (sym is) (refl, refl)
not-read (Requirement word) answer t is = subst (λ a. RecoversBy t a true []) (sym is) (refl, refl)
not-read Memory answer t is = subst (λ a. RecoversBy t a true []) (sym is) (refl, refl)
