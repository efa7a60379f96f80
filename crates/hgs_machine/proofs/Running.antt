-- Running a machine, call by call.
use Rattle.std.proofs.Common.{◌≡◌, ℕ, zero, suc, ◌+◌, List, [], ◌++◌, sym, ◌∙◌, ap, subst, arith, append_assoc, append-nil, refl}
use Rattle.std.specs.Option.{ForSome}
use Rattle.std.specs.Prelude.{Option, Some, None}
use Rattle.hgs_files.specs.declared.op.Op.{Op}
use Rattle.hgs_files.specs.Files.{GoesOn}
use Rattle.hgs_files.specs.Reads.{Rises}
use Rattle.hgs_files.specs.Tree.{Tree, after_all}
use Rattle.hgs_transaction.specs.declared.assemble.Plan.{Plan}
use Rattle.hgs_machine.specs.declared.ended.Ended.{Ended}
use Rattle.hgs_machine.specs.declared.machine.Machine.{Machine}
use Rattle.hgs_machine.specs.declared.machine.Reply.{Reply}
use Rattle.hgs_machine.specs.declared.machine.Reply.TheVariants.{Done, Failed, Memory, Size, SizeFailed, SizeMemory}
use Rattle.hgs_machine.specs.Asked.{Ending, asked}
use Rattle.hgs_machine.specs.Carry.{Counted, CountsReply, IsCausedSince, IsReplied, tree_now}
use Rattle.hgs_machine.specs.Fed.{fed, new_machine}
use Rattle.hgs_machine.specs.Ran.{ComesOn, HasCome, IsRunOut, RoseBy, failures_in, not_yet, once_more, wants_in}
use Rattle.hgs_machine.specs.Planned.{IsPlanned}
use Rattle.hgs_machine.specs.Refusals.{WereRefused, refusals_so_far}
use Rattle.hgs_machine.specs.SoFar.{Replies, SoFar}
use Rattle.hgs_machine.specs.Theorems.RefusedLemmas.{none-refused}
use Rattle.hgs_machine.proofs.Locking.{as-well}
use Rattle.hgs_machine.proofs.Trees.{after_all-append}

-- ---- counts

rises-both : (f g h a b : ℕ) → Rises f g a → Rises g h b → Rises f h (a + b)
rises-both f g h a b p q = (omega (arith, p.0, p.1, q.0, q.1), omega (arith, p.1, q.1))

rose-both : (f g h a b : ℕ) → RoseBy f g a → RoseBy g h b → RoseBy f h (a + b)
rose-both f g h zero zero p q = q ∙ p
rose-both f g h zero (suc b) p q = subst (RoseBy f h) (let e : suc b ≡ 0 + suc b = omega arith in e) (subst (λ x. Rises x h (suc b)) p q)
rose-both f g h (suc a) zero p q = subst (RoseBy f h) (let e : suc a ≡ suc a + 0 = omega arith in e) (subst (λ x. Rises f x (suc a)) (sym q) p)
rose-both f g h (suc a) (suc b) p q =
    let e : suc (a + suc b) ≡ suc a + suc b = omega arith in
    subst (RoseBy f h) e (subst (Rises f h) (sym e) (rises-both f g h (suc a) (suc b) p q))

rose-by-reply : (f g d e : ℕ) (reply : Reply) → Counted f g d e reply → RoseBy f g (failures_in reply) × RoseBy d e (wants_in reply)
rose-by-reply f g d e Done h = h
rose-by-reply f g d e Failed h = h
rose-by-reply f g d e Memory h = h
rose-by-reply f g d e (Size size) h = h
rose-by-reply f g d e SizeFailed h = h
rose-by-reply f g d e SizeMemory h = h

-- ---- a call

comes-by : (t : Tree) (first m : Machine) (f g h d e i : ℕ) (log more : List Op) (reply : Reply) → HasCome t first m f g d e log → Replies (after_all log t) (asked m) reply more → Counted g h e i reply → HasCome t first (fed m reply) f h d i (log ++ more)
comes-by t first m f g h d e i log more reply come replies counts =
    let by = rose-by-reply g h e i reply counts in
    record {
      failed = come.failed + failures_in reply;
      wanting = come.wanting + wants_in reply;
      run = once_more m come.failed come.wanting log more reply come.run replies;
      faults = rose-both f g h come.failed (failures_in reply) come.faults by.0;
      denied = rose-both d e i come.wanting (wants_in reply) come.denied by.1;
    }

pub replies-on : (before after : Option (List Op)) (now : Tree) (old new : Machine) (reply : Reply) (g h e i : ℕ) → new ≡ fed old reply → Counted g h e i reply → GoesOn before after (IsReplied now (asked old) (Some reply)) → GoesOn before after (ComesOn now old new g h e i)
replies-on before after now old new reply g h e i same counts goes =
    as-well before after (IsReplied now (asked old) (Some reply)) (ComesOn now old new g h e i)
    (λ more r t first f d log tree come. subst (λ (x : Machine). HasCome t first x f h d i (log ++ more)) (sym same) (comes-by t first old f g h d e i log more reply come (subst (λ (u : Tree). Replies u (asked old) reply more) (sym tree) r) counts)) goes

-- no call was made
pub rests : (before after : Option (List Op)) (now : Tree) (m : Machine) (g h e i : ℕ) → CountsReply g h e i None → GoesOn before after (IsReplied now (asked m) None) → GoesOn before after (ComesOn now m m g h e i)
rests before after now m g h e i counts goes =
    as-well before after (IsReplied now (asked m) None) (ComesOn now m m g h e i)
    (λ more r t first f d log tree come.
    subst (HasCome t first m f h d i) (sym (ap (λ (l : List Op). log ++ l) r ∙ append-nil log)) (subst (λ x. HasCome t first m f x d i log) (sym counts.0) (subst (λ x. HasCome t first m f g d x log) (sym counts.1) come))) goes

-- ---- all of them

has-not-begun : (t : Tree) (m : Machine) (f d : ℕ) → HasCome t m m f f d d []
has-not-begun t m f d = record { failed = 0; wanting = 0; run = not_yet; faults = refl; denied = refl }

-- a machine that has done nothing
begins-so-far : (log : Option (List Op)) (start : Tree) (plan : Plan) (m : Machine) → ((t : Tree) → IsPlanned t plan → SoFar t m []) → ForSome log (λ l. IsPlanned (after_all l start) plan) → GoesOn log log (SoFar (tree_now log start) m)
begins-so-far None start plan m begins planned = refl
begins-so-far (Some log) start plan m begins planned = ([], ap (λ (l : List Op). Some l) (sym (append-nil log)), begins (after_all log start) (planned log refl))

none-caused : (f d : ℕ) (m : Machine) (plan : Plan) → m ≡ new_machine plan → IsCausedSince f f d d m.outcome m.swept
none-caused f d m plan is = subst (λ (x : Machine). IsCausedSince f f d d x.outcome x.swept) (sym is) (record { faults = omega arith; denied = omega arith; ends = tt; sweeps = λ e. absurd (let no : ⊥ = cc in no) })

none-yet : (f d : ℕ) (m : Machine) (plan : Plan) → m ≡ new_machine plan → WereRefused (refusals_so_far m) f f d d
none-yet f d m plan is = subst (λ (x : Machine). WereRefused (refusals_so_far x) f f d d) (sym is) (none-refused f d)

begins-run : (log : Option (List Op)) (t : Tree) (plan : Plan) (m : Machine) (f d : ℕ) → m ≡ new_machine plan → GoesOn log log (HasCome t (new_machine plan) m f f d d)
begins-run None t plan m f d is = refl
begins-run (Some log) t plan m f d is = ([], ap (λ (l : List Op). Some l) (sym (append-nil log)), subst (λ (x : Machine). HasCome t (new_machine plan) x f f d d []) (sym is) (has-not-begun t (new_machine plan) f d))

-- what the loop begins with
pub begins : (log : Option (List Op)) (start : Tree) (plan : Plan) (m : Machine) (f d : ℕ) → ((t : Tree) → IsPlanned t plan → SoFar t m []) → ForSome log (λ l. IsPlanned (after_all l start) plan) → m ≡ new_machine plan
    → GoesOn log log (SoFar (tree_now log start) m) × IsCausedSince f f d d m.outcome m.swept × GoesOn log log (HasCome (tree_now log start) (new_machine plan) m f f d d) × WereRefused (refusals_so_far m) f f d d
begins log start plan m f d so_far planned is = (begins-so-far log start plan m so_far planned, none-caused f d m plan is, begins-run log (tree_now log start) plan m f d is, none-yet f d m plan is)

pub runs-on : (before mid after : Option (List Op)) (start start_mid : Tree) (first old new : Machine) (f g h d e i : ℕ) → start_mid ≡ start → GoesOn before mid (HasCome (tree_now before start) first old f g d e) → GoesOn mid after (ComesOn (tree_now mid start_mid) old new g h e i) → GoesOn before after (HasCome (tree_now before start) first new f h d i)
runs-on None mid after start start_mid first old new f g h d e i same a b = subst (λ x. GoesOn x after (ComesOn (tree_now x start_mid) old new g h e i)) a b
runs-on (Some log) mid after start start_mid first old new f g h d e i same a b =
    let step = subst (λ x. GoesOn x after (ComesOn (tree_now x start_mid) old new g h e i)) a.1 b in
    let tree : after_all a.0 (after_all log start) ≡ after_all (log ++ a.0) start_mid = sym (after_all-append log a.0 start) ∙ ap (λ (u : Tree). after_all (log ++ a.0) u) (sym same) in
    (a.0 ++ step.0, step.1 ∙ ap (λ (l : List Op). Some l) (append_assoc log a.0 step.0), step.2 (after_all log start) first f d a.0 tree a.2)

pub runs-out : (before after : Option (List Op)) (t : Tree) (plan : Plan) (m : Machine) (ended : Ended) (f h d i : ℕ) → ended ≡ record { outcome = m.outcome; swept = m.swept } → asked m ≡ Ending → GoesOn before after (HasCome t (new_machine plan) m f h d i) → GoesOn before after (IsRunOut t plan ended f h d i)
runs-out before after t plan m ended f h d i is none goes =
    as-well before after (HasCome t (new_machine plan) m f h d i) (IsRunOut t plan ended f h d i) (λ log come. record { last = m; come = come; no_more = none; is_ended = is }) goes
