-- A writer at work, from one event to the next.
use Rattle.std.proofs.Common.{◌≡◌, ℕ, suc, zero, ◌-◌, ◌<◌, List, [], ◌∷◌, ◌++◌, refl, sym, ◌∙◌, ap, subst, arith, append-nil, append_assoc, inr, Bor}
use Rattle.std.specs.Prelude.{Option, Some, None, IsSome, Result, Ok, Err, OnOk, Bool, true, false}
use Rattle.hgs_files.specs.Files.{GoesOn}
use Rattle.hgs_files.specs.Reads.{IsSizeOf}
use Rattle.hgs_world.specs.declared.working.Deed.{Deed}
use Rattle.hgs_world.specs.declared.working.Deed.TheVariants.{All, Part}
use Rattle.hgs_world.specs.declared.working.Goal.{Goal}
use Rattle.hgs_files.specs.declared.op.Op.{Op}
use Rattle.hgs_files.specs.declared.op.Op.TheVariants.{Append, Cut, Rename, Remove, Create, Sync, Settle}
use Rattle.hgs_files.specs.Tree.{Tree, after_all, apply}
use Rattle.hgs_machine.specs.Asked.{IsNext, Question, Doing, Sizing, Ending, asked}
use Rattle.hgs_machine.specs.Fed.{fed}
use Rattle.hgs_machine.specs.Planned.{HasSource}
use Rattle.hgs_machine.specs.SoFar.{Leaves, Replies, SoFar, Steps}
use Rattle.hgs_machine.specs.declared.ended.Ended.{Ended}
use Rattle.hgs_machine.specs.declared.machine.Machine.{Machine}
use Rattle.hgs_machine.specs.declared.machine.Next.TheVariants.{Do, Size as SizeNext, End}
use Rattle.hgs_machine.specs.declared.machine.Reply.{Reply}
use Rattle.hgs_machine.specs.declared.machine.Reply.TheVariants.{Done, Size}
use Rattle.hgs_world.specs.Parts.{DoesPart, DoesRest, HasDone, op_length}
use Rattle.std.specs.Prelude.{nat_lt}
use Rattle.std.proofs.lemmas.Bool.Decides.{nat_tests}
use Rattle.hgs_world.specs.Working.{Acts, AnswersSize, CanGoOn, Does, OfOperation, Runs, RunsTo, Stops, StopsWithin, asks_part, is_at, is_ending, once_more, IsAtNext, IsAtWork, IsBegun, IsSizing, KeepsSoFar, Sizes, no_more, one_more, at_machine}
use Rattle.hgs_world.specs.declared.working.Working.{Working}

pub after_append : (a b : List Op) (t : Tree) → after_all (a ++ b) t ≡ after_all b (after_all a t)
after_append [] b t = refl
after_append (op ∷ a) b t = after_append a b (apply op t)

-- ---- what is asked

pub is_doing : (q : Question) (e : Ended) (o : Bor Op) → IsNext e q (Do o) → q ≡ Doing o.now
is_doing (Doing op) e o h = ap (λ x. Doing x) (sym h)
is_doing (Sizing path) e o h = elim h [ ]
is_doing Ending e o h = elim h [ ]

pub is_sizing : (q : Question) (e : Ended) (p : Bor (List ℕ)) → IsNext e q (SizeNext p) → q ≡ Sizing p.now
is_sizing (Sizing path) e p h = ap (λ x. Sizing x) (sym h)
is_sizing (Doing op) e p h = elim h [ ]
is_sizing Ending e p h = elim h [ ]

pub asks_nothing : (q : Question) (e f : Ended) → IsNext e q (End f) → q ≡ Ending
asks_nothing Ending e f h = refl
asks_nothing (Doing op) e f h = elim h [ ]
asks_nothing (Sizing path) e f h = elim h [ ]

-- ---- what holds between events

pub unbegun : (q : Question) (part : ℕ) → part ≡ 0 → IsBegun q part []
unbegun (Doing op) part e = subst (λ n. HasDone op n []) (sym e) refl
unbegun (Sizing path) part e = (e, refl)
unbegun Ending part e = (e, refl)

-- no question for a size stands before an operation
pub no_sizes : (t : Tree) (from m : Machine) (op : Op) → asked from ≡ Doing op → Sizes t from m → m ≡ from
no_sizes t from m op e no_more = refl
no_sizes t from m op e (one_more n path size h f s) = let k = no_sizes t from n op e h in cc

come_by : (t : Tree) (w : Working) (m : Machine) (q : Question) → asked w.machine ≡ q → IsAtWork t w → Sizes t w.machine m → KeepsSoFar t w.machine m → IsAtWork t (at_machine w m)
come_by t w m (Doing op) e h s k = subst (λ n. IsAtWork t (at_machine w n)) (sym (no_sizes t w.machine m op e s)) h
come_by t w m (Sizing path) e h s k =
    let b = subst (λ q. IsBegun q w.part h.begun) e h.is_begun in
    let now : after_all h.log h.from ≡ t = ap (λ l. after_all l (after_all h.log h.from)) (sym b.1) ∙ h.is_now in
    record { from = h.from; log = h.log; so_far = k h.from h.log now h.so_far; begun = []; is_begun = unbegun (asked m) w.part b.0; is_now = now }
come_by t w m Ending e h s k =
    let b = subst (λ q. IsBegun q w.part h.begun) e h.is_begun in
    let now : after_all h.log h.from ≡ t = ap (λ l. after_all l (after_all h.log h.from)) (sym b.1) ∙ h.is_now in
    record { from = h.from; log = h.log; so_far = k h.from h.log now h.so_far; begun = []; is_begun = unbegun (asked m) w.part b.0; is_now = now }

-- a writer whose questions for sizes were answered
pub come : (t : Tree) (w : Working) (m : Machine) → IsAtWork t w → IsAtNext t w.machine m → KeepsSoFar t w.machine m → IsAtWork t (at_machine w m)
come t w m h n k = come_by t w m (asked w.machine) refl h n.sizes k

-- ---- an operation at hand

source_by : (op : Op) (part : ℕ) (begun : List Op) (base : Tree) → HasDone op part begun → HasSource op base → HasSource op (after_all begun base)
source_by op zero begun base h s = subst (λ l. HasSource op (after_all l base)) (sym h) s
source_by (Append path bytes) (suc n) begun base h s = tt
source_by (Create path bytes) (suc n) begun base h s = tt
source_by (Cut path len) (suc n) begun base h s = tt
source_by (Rename from to) (suc n) begun base h s = elim h [ ]
source_by (Remove path) (suc n) begun base h s = tt
source_by (Sync path) (suc n) begun base h s = tt
source_by Settle (suc n) begun base h s = tt

pub has_source : (t : Tree) (w : Working) (op : Op) → ((u : Tree) (m : Machine) (log : List Op) (o : Op) → SoFar u m log → asked m ≡ Doing o → HasSource o (after_all log u)) → asked w.machine ≡ Doing op → IsAtWork t w → HasSource op t
has_source t w op law e h =
    subst (HasSource op) h.is_now (source_by op w.part h.begun (after_all h.log h.from) (subst (λ q. IsBegun q w.part h.begun) e h.is_begun) (law h.from w.machine h.log op h.so_far e))

-- the machine was told what became of the operation
pub goes_on : (t now : Tree) (w : Working) (m : Machine) (op : Op) (reply : Reply) (done : List Op) → asked w.machine ≡ Doing op → IsAtWork t w
    → ((begun : List Op) → HasDone op w.part begun → Leaves op reply (begun ++ done)) → Steps w.machine reply m → after_all done t ≡ now → IsAtWork now (record w { machine = m; part = 0 })
goes_on t now w m op reply done e h leaves steps is =
    let has = subst (λ q. IsBegun q w.part h.begun) e h.is_begun in
    let replies : Replies (after_all h.log h.from) (asked w.machine) reply (h.begun ++ done) = subst (λ q. Replies (after_all h.log h.from) q reply (h.begun ++ done)) (sym e) (leaves h.begun has) in
    record {
      from = h.from;
      log = h.log ++ (h.begun ++ done);
      so_far = steps h.from h.log (h.begun ++ done) h.so_far replies;
      begun = [];
      is_begun = unbegun (asked m) 0 refl;
      is_now = after_append h.log (h.begun ++ done) h.from ∙ after_append h.begun done (after_all h.log h.from) ∙ ap (λ u. after_all done u) h.is_now ∙ is;
    }

-- so many more bytes were done
pub goes_further : (t now : Tree) (w : Working) (part : ℕ) (op : Op) (done : List Op) → asked w.machine ≡ Doing op → IsAtWork t w
    → ((begun : List Op) → HasDone op w.part begun → HasDone op part (begun ++ done)) → after_all done t ≡ now → IsAtWork now (record w { part = part })
goes_further t now w part op done e h further is =
    let has = subst (λ q. IsBegun q w.part h.begun) e h.is_begun in
    record {
      from = h.from;
      log = h.log;
      so_far = h.so_far;
      begun = h.begun ++ done;
      is_begun = subst (λ q. IsBegun q part (h.begun ++ done)) (sym e) (further h.begun has);
      is_now = after_append h.begun done (after_all h.log h.from) ∙ ap (λ u. after_all done u) h.is_now ∙ is;
    }

-- ---- whatever tree it began at

pub still : (t u : Tree) (w v : Working) → (IsAtWork t w → IsAtWork u v) → CanGoOn t w → CanGoOn u v
still t u w v f h = λ k. h (λ a. k (f a))

stands_or_not : (o : Option (List ℕ)) → ((IsSome o → ⊥) → ⊥) → IsSome o
stands_or_not (Some x) h = refl
stands_or_not None h = absurd (h (λ k. cc))

source_anyway : (op : Op) (t : Tree) → ((HasSource op t → ⊥) → ⊥) → HasSource op t
source_anyway (Rename from to) t h = stands_or_not (t from) h
source_anyway (Append path bytes) t h = tt
source_anyway (Create path bytes) t h = tt
source_anyway (Cut path len) t h = tt
source_anyway (Remove path) t h = tt
source_anyway (Sync path) t h = tt
source_anyway Settle t h = tt

pub source_of : (t : Tree) (w : Working) (op : Op) → ((u : Tree) (m : Machine) (log : List Op) (o : Op) → SoFar u m log → asked m ≡ Doing o → HasSource o (after_all log u)) → asked w.machine ≡ Doing op → CanGoOn t w → HasSource op t
source_of t w op law e h = source_anyway op t (λ k. h (λ a. k (has_source t w op law e a)))

-- ---- what calls leave

pub tree_after : (old new done : List Op) (s u : Tree) → Some new ≡ Some (old ++ done) → u ≡ s → after_all done (after_all old s) ≡ after_all new u
tree_after old new done s u e f =
    let n : new ≡ old ++ done = cc in
    sym (after_append old done s) ∙ ap (λ l. after_all l s) (sym n) ∙ ap (λ t. after_all new t) (sym f)

pub same_tree : (old new : List Op) (s u : Tree) → new ≡ old → u ≡ s → after_all new u ≡ after_all old s
same_tree old new s u e f = ap (λ l. after_all l u) e ∙ ap (λ t. after_all old t) f

pub sized : (t u : Tree) (m n : Machine) (path : List ℕ) (size : Option ℕ) → asked m ≡ Sizing path → u ≡ t → IsSizeOf (u path) size → Steps m (Size size) n → KeepsSoFar t m n
sized t u m n path size e f s steps = λ from log is h.
    let there : IsSizeOf (after_all log from path) size = subst (λ (x : Tree). IsSizeOf (x path) size) (f ∙ sym is) s in
    let replies : Replies (after_all log from) (asked m) (Size size) [] = subst (λ q. Replies (after_all log from) q (Size size) []) (sym e) (refl, there) in
    subst (λ l. SoFar from n l) (append-nil log) (steps from log [] h replies)

pub sizes_on : (t u : Tree) (from m n : Machine) (more : Bool) → more ≡ true → u ≡ t → Sizes t from m → AnswersSize u m n more → Sizes t from n
sizes_on t u from m n more is e s a =
    let b = subst (λ x. AnswersSize x m n true) e (subst (λ b. AnswersSize u m n b) is a) in
    subst (λ k. Sizes t from k) (sym b.4) (one_more m b.0 b.1 s b.2 b.3)

pub keeps_on : (t u : Tree) (from m n : Machine) → u ≡ t → KeepsSoFar t from m → KeepsSoFar u m n → KeepsSoFar t from n
keeps_on t u from m n e f g = λ start log is h. g start log (is ∙ sym e) (f start log is h)

pub next_at : (t u : Tree) (from m n : Machine) (more : Bool) → more ≡ false → Sizes t from m → AnswersSize u m n more → IsAtNext t from n
next_at t u from m n more is s b = let a = subst (λ b. AnswersSize u m n b) is b in record { sizes = subst (λ k. Sizes t from k) (sym a.0) s; no_more = subst (λ k. IsSizing (asked k) → ⊥) (sym a.0) a.1 }

pub come_on : (t u : Tree) (w : Working) (m : Machine) → u ≡ t → CanGoOn t w → IsAtNext t w.machine m → KeepsSoFar t w.machine m → CanGoOn u (at_machine w m)
come_on t u w m e h n k = subst (λ (x : Tree). CanGoOn x (at_machine w m)) (sym e) (still t t w (at_machine w m) (λ a. come t w m a n k) h)

pub does_rest : (q : Question) (op : Op) (w : Working) (done : List Op) (m : Machine) → q ≡ Doing op → DoesRest op w.part done → m ≡ fed w.machine Done
    → OfOperation q (λ o. Does All o w done (record w { machine = m; part = 0 })) ((done ≡ []) × (record w { machine = m; part = 0 } ≡ w))
does_rest q op w done m e d f =
    subst (λ x. OfOperation x (λ o. Does All o w done (record w { machine = m; part = 0 })) ((done ≡ []) × (record w { machine = m; part = 0 } ≡ w))) (sym e) (d, ap (λ n. record w { machine = n; part = 0 }) f)

pub rest_for_part : (q : Question) (w after : Working) (count : ℕ) (done : List Op) → asks_part q w.part count ≡ false
    → OfOperation q (λ o. Does All o w done after) ((done ≡ []) × (after ≡ w)) → OfOperation q (λ o. Does (Part count) o w done after) ((done ≡ []) × (after ≡ w))
rest_for_part (Doing op) w after count done e h = inr (e, h.0, h.1)
rest_for_part (Sizing path) w after count done e h = h
rest_for_part Ending w after count done e h = h

pub on_ok : {E : Type 0} (r : Result Unit E) (X Y : Type 0) → (X → Y) → OnOk r X → OnOk r Y
on_ok (Ok x) X Y f h = f h
on_ok (Err e) X Y f h = tt

pub goes_by : (old new : Option (List Op)) (P Q : List Op → Type 0) → ((done : List Op) → P done → Q done) → GoesOn old new P → GoesOn old new Q
goes_by None new P Q f h = h
goes_by (Some l) new P Q f h = (h.0, h.1, f h.0 h.2)

pub goes_from : (log was new : List Op) (P : List Op → Type 0) → was ≡ log → GoesOn (Some was) (Some new) P → GoesOn (Some log) (Some new) P
goes_from log was new P e h = subst (λ l. GoesOn (Some l) (Some new) P) e h

pub acts_by : (deed : Deed) (t : Tree) (w after : Working) (m : Machine) (log was new : List Op) → IsAtNext t w.machine m → was ≡ log
    → GoesOn (Some was) (Some new) (λ done. OfOperation (asked m) (λ op. Does deed op (at_machine w m) done after) ((done ≡ []) × (after ≡ at_machine w m)))
    → GoesOn (Some log) (Some new) (λ done. Acts deed t w done after)
acts_by deed t w after m log was new n e h = goes_from log was new (λ done. Acts deed t w done after) e (h.0, h.1, record { machine = m; next = n; does = h.2 })

-- ---- operations one after another

pub doing_of : (q : Question) → (IsSizing q → ⊥) → is_ending q ≡ false → (op : Op) × (q ≡ Doing op)
doing_of (Doing op) n e = (op, refl)
doing_of (Sizing path) n e = absurd (n tt)
doing_of Ending n e = cc

stops_by : (goal : Goal) (m : Machine) (q : Question) → (IsSizing q → ⊥) → (is_ending q ≡ false → is_at goal m ≡ true) → Stops goal m q
stops_by goal m (Doing op) n h = h refl
stops_by goal m (Sizing path) n h = n tt
stops_by goal m Ending n h = tt

pub runs_to : (goal : Goal) (t u : Tree) (from w : Working) (m : Machine) (log now : List Op) (s : Tree) → GoesOn (Some log) (Some now) (λ done. Runs goal t from done w) → t ≡ after_all log s → u ≡ after_all now s → IsAtNext u w.machine m
    → (is_ending (asked m) ≡ false → is_at goal m ≡ true) → GoesOn (Some log) (Some now) (λ done. RunsTo goal t from done (at_machine w m))
runs_to goal t u from w m log now s h e f n stops =
    let is : now ≡ log ++ h.0 = cc in
    let tree : u ≡ after_all h.0 t = f ∙ ap (λ l. after_all l s) is ∙ after_append log h.0 s ∙ ap (λ x. after_all h.0 x) (sym e) in
    (h.0, h.1, record { last = w; runs = h.2; machine = m; next = subst (λ (x : Tree). IsAtNext x w.machine m) tree n; stops = stops_by goal m (asked m) n.no_more stops; is = refl })

of_done : (q : Question) (op : Op) (P : Op → Type 0) (L : Type 0) → q ≡ Doing op → OfOperation q P L → P op
of_done q op P L e h = subst (λ x. OfOperation x P L) e h

pub runs_on : (goal : Goal) (t u : Tree) (from w after : Working) (m : Machine) (log now was new : List Op) (s : Tree) → GoesOn (Some log) (Some now) (λ done. Runs goal t from done w) → t ≡ after_all log s → u ≡ after_all now s → was ≡ now
    → IsAtNext u w.machine m → is_ending (asked m) ≡ false → is_at goal m ≡ false
    → GoesOn (Some was) (Some new) (λ done. OfOperation (asked m) (λ op. Does All op (at_machine w m) done after) ((done ≡ []) × (after ≡ at_machine w m)))
    → GoesOn (Some log) (Some new) (λ done. Runs goal t from done after)
runs_on goal t u from w after m log now was new s h e f g n going far k =
    let is : now ≡ log ++ h.0 = cc in
    let tree : u ≡ after_all h.0 t = f ∙ ap (λ l. after_all l s) is ∙ after_append log h.0 s ∙ ap (λ x. after_all h.0 x) (sym e) in
    let op = doing_of (asked m) n.no_more going in
    let d = of_done (asked m) op.0 (λ o. Does All o (at_machine w m) k.0 after) ((k.0 ≡ []) × (after ≡ at_machine w m)) op.1 k.2 in
    let k1 : Some new ≡ Some (was ++ k.0) = k.1 in
    let whole : Some new ≡ Some (log ++ (h.0 ++ k.0)) = k1 ∙ ap (λ l. Some (l ++ k.0)) (g ∙ is) ∙ ap (λ l. Some l) (append_assoc log h.0 k.0) in
    (h.0 ++ k.0, whole, subst (λ v. Runs goal t from (h.0 ++ k.0) v) (sym d.1) (once_more h.0 k.0 w m op.0 h.2 (subst (λ (x : Tree). IsAtNext x w.machine m) tree n) op.1 far d.0))

pub stops_within : (count : ℕ) (t : Tree) (w v : Working) (op : Op) (log was new : List Op) → IsAtNext t w.machine v.machine → v ≡ at_machine w v.machine → was ≡ log → asked v.machine ≡ Doing op → GoesOn (Some was) (Some new) (DoesPart op w.part count)
    → GoesOn (Some log) (Some new) (λ done. StopsWithin count t w done v)
stops_within count t w v op log was new n same e a h =
    goes_from log was new (λ done. StopsWithin count t w done v) e (h.0, h.1, record { next = n; is = same; does = subst (λ q. OfOperation q (λ o. DoesPart o w.part count h.0) (h.0 ≡ [])) (sym a) h.2 })

pub acts_after : (deed : Deed) (t : Tree) (w v after : Working) (log was new : List Op) → IsAtNext t w.machine v.machine → v ≡ at_machine w v.machine → was ≡ log
    → GoesOn (Some was) (Some new) (λ done. OfOperation (asked v.machine) (λ op. Does deed op v done after) ((done ≡ []) × (after ≡ v)))
    → GoesOn (Some log) (Some new) (λ done. Acts deed t w done after)
acts_after deed t w v after log was new n s e h =
    acts_by deed t w after v.machine log was new n e (subst (λ x. GoesOn (Some was) (Some new) (λ done. OfOperation (asked v.machine) (λ op. Does deed op x done after) ((done ≡ []) × (after ≡ x)))) s h)

pub runs_until : (goal : Goal) (from w v : Working) (log now was : List Op) (s u : Tree) → GoesOn (Some log) (Some now) (λ done. Runs goal (after_all log s) from done w) → u ≡ s → was ≡ now
    → IsAtNext (after_all now u) w.machine v.machine → v ≡ at_machine w v.machine → (is_ending (asked v.machine) ≡ false → is_at goal v.machine ≡ true)
    → GoesOn (Some log) (Some was) (λ done. RunsTo goal (after_all log s) from done v)
runs_until goal from w v log now was s u h e g n same stops =
    let r = runs_to goal (after_all log s) (after_all now u) from w v.machine log now s h refl (ap (λ (x : Tree). after_all now x) e) n stops in
    subst (λ l. GoesOn (Some log) (Some l) (λ done. RunsTo goal (after_all log s) from done v)) (sym g)
    (subst (λ x. GoesOn (Some log) (Some now) (λ done. RunsTo goal (after_all log s) from done x)) (sym same) r)

pub runs_more : (goal : Goal) (from w v after : Working) (log now was new : List Op) (s u : Tree) → GoesOn (Some log) (Some now) (λ done. Runs goal (after_all log s) from done w) → u ≡ s → was ≡ now
    → IsAtNext (after_all now u) w.machine v.machine → v ≡ at_machine w v.machine → is_ending (asked v.machine) ≡ false → is_at goal v.machine ≡ false
    → GoesOn (Some was) (Some new) (λ done. OfOperation (asked v.machine) (λ op. Does All op v done after) ((done ≡ []) × (after ≡ v)))
    → GoesOn (Some log) (Some new) (λ done. Runs goal (after_all log s) from done after)
runs_more goal from w v after log now was new s u h e g n same going far k =
    runs_on goal (after_all log s) (after_all now u) from w after v.machine log now was new s h refl (ap (λ (x : Tree). after_all now x) e) g n going far
    (subst (λ x. GoesOn (Some was) (Some new) (λ done. OfOperation (asked v.machine) (λ op. Does All op x done after) ((done ≡ []) × (after ≡ x)))) same k)

abbrev no_ops : List Op
no_ops = []

-- a stop where nothing is asked for but an operation
pub stops_at_op : (count : ℕ) (t : Tree) (w v : Working) (op : Op) (log was new : List Op) → IsAtNext t w.machine v.machine → v ≡ at_machine w v.machine → was ≡ log → asked v.machine ≡ Doing op → GoesOn (Some was) (Some new) (DoesPart op v.part count)
    → GoesOn (Some log) (Some new) (λ done. StopsWithin count t w done v)
stops_at_op count t w v op log was new n same e a h =
    stops_within count t w v op log was new n same e a (subst (λ (k : ℕ). GoesOn (Some was) (Some new) (DoesPart op k count)) (ap (λ x. x.part) same) h)

pub stops_at_size : (count : ℕ) (t : Tree) (w v : Working) (path : List ℕ) (log was : List Op) → IsAtNext t w.machine v.machine → was ≡ log → asked v.machine ≡ Sizing path → GoesOn (Some log) (Some was) (λ done. StopsWithin count t w done v)
stops_at_size count t w v path log was n e a = absurd (n.no_more (subst IsSizing (sym a) tt))

pub stops_at_end : (count : ℕ) (t : Tree) (w v : Working) (log was : List Op) → IsAtNext t w.machine v.machine → v ≡ at_machine w v.machine → was ≡ log → asked v.machine ≡ Ending → GoesOn (Some log) (Some was) (λ done. StopsWithin count t w done v)
stops_at_end count t w v log was n same e a =
    (no_ops, ap (λ l. Some l) (e ∙ sym (append-nil log)), record { next = n; is = same; does = subst (λ q. OfOperation q (λ o. DoesPart o w.part count no_ops) (no_ops ≡ no_ops)) (sym a) refl })

pub both_ok : {E : Type 0} (r : Result Unit E) (X Y Z : Type 0) → (X → Y → Z) → OnOk r X → OnOk r Y → OnOk r Z
both_ok (Ok x) X Y Z f h k = f h k
both_ok (Err e) X Y Z f h k = tt

below_by : (a b : ℕ) → nat_lt a b ≡ true → a < b
below_by a b h = grind (arith, nat_tests)

pub less_than : (q : Question) (op : Op) (part count : ℕ) → q ≡ Doing op → asks_part q part count ≡ true → count < op_length op - part
less_than q op part count e h = below_by count (op_length op - part) (subst (λ x. asks_part x part count ≡ true) e h)
