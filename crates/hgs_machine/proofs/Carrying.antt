-- A machine that is run over files.
use Rattle.std.proofs.Common.{◌≡◌, ℕ, zero, suc, ◌+◌, ◌<◌, List, [], ◌∷◌, ◌++◌, take, refl, sym, ◌∙◌, ap, subst, arith, append_assoc, append-nil, Bool, true, false, Bor}
use Rattle.std.specs.Prelude.{Option, Some, None, Result, Ok, Err, slice_get, if◌then◌else◌}
use Rattle.hgs_files.specs.declared.files.FileFault.{FileFault}
use Rattle.hgs_files.specs.declared.files.FileFault.TheVariants.{Failed as CallFailed, Memory as NoMemory}
use Rattle.hgs_files.specs.declared.op.Op.{Op}
use Rattle.hgs_files.specs.declared.op.Op.TheVariants.{Append, Cut, Rename, Remove, Create, Sync, Settle}
use Rattle.hgs_files.specs.Files.{GoesOn}
use Rattle.hgs_files.specs.Reads.{HasSize, IsSizeOf}
use Rattle.hgs_files.specs.Tree.{Tree, after_all, apply}
use Rattle.hgs_transaction.specs.declared.assemble.Plan.{Plan}
use Rattle.hgs_machine.specs.declared.ended.Ended.{Ended}
use Rattle.hgs_machine.specs.declared.ended.Short.{Short}
use Rattle.hgs_machine.specs.declared.machine.Machine.{Machine}
use Rattle.hgs_machine.specs.declared.machine.Next.TheVariants.{Do, Size as SizeNext}
use Rattle.hgs_machine.specs.declared.machine.Reply.{Reply}
use Rattle.hgs_machine.specs.declared.machine.Stage.{Stage}
use Rattle.hgs_machine.specs.declared.machine.Stage.TheVariants.{Preparing, Beginning, Working, Publishing, Asking, Finishing, Undoing, Sweeping, Removing}
use Rattle.hgs_machine.specs.Asked.{Doing, Ending, IsNext, Question, Sizing, asked, asks_size, op_at, op_at_hand, question_of, size_question}
use Rattle.hgs_machine.specs.Carry.{IsReplied, IsStep, IsUnderWay, reply_of, size_reply_of, tree_now}
use Rattle.hgs_machine.specs.Course.{CarriedOut, before_journal, between}
use Rattle.hgs_machine.specs.Planned.{HasSource, IsPlanned, SourcesStand}
use Rattle.hgs_machine.specs.SoFar.{Fits, FinishesTo, IsAt, Leaves, Replies, SoFar, Steps}
use Rattle.hgs_machine.proofs.Ending.{has-ended}
use Rattle.hgs_machine.proofs.Feeding.{is-removal}
use Rattle.hgs_machine.proofs.Lists.{between-split}
use Rattle.hgs_machine.proofs.Trees.{after-done, after-working, after_all-append}

-- ---- what is asked for

pub asked-do : (q : Question) (e : Ended) (o : Bor Op) → IsNext e q (Do o) → q ≡ Doing o.now
asked-do (Doing op) e o h = ap (λ x. Doing x) (sym h)
asked-do (Sizing path) e o h = elim h [ ]
asked-do Ending e o h = elim h [ ]

pub asked-size : (q : Question) (e : Ended) (p : Bor (List ℕ)) → IsNext e q (SizeNext p) → q ≡ Sizing p.now
asked-size (Sizing path) e p h = ap (λ x. Sizing x) (sym h)
asked-size (Doing op) e p h = elim h [ ]
asked-size Ending e p h = elim h [ ]

doing-op : (b : Bool) (o op : Op) → (if b then size_question o else Doing o) ≡ Doing op → o ≡ op
doing-op false o op e = cc
doing-op true (Append path bytes) op e = absurd (let no : ⊥ = cc in no)
doing-op true (Remove path) op e = absurd (let no : ⊥ = cc in no)
doing-op true (Cut path len) op e = cc
doing-op true (Rename from to) op e = cc
doing-op true (Create path bytes) op e = cc
doing-op true (Sync path) op e = cc
doing-op true Settle op e = cc

op-asked : (o : Option Op) (asks : Op → Bool) (op : Op) → question_of o asks ≡ Doing op → o ≡ Some op
op-asked None asks op e = absurd (let no : ⊥ = cc in no)
op-asked (Some x) asks op e = ap (λ y. Some y) (doing-op (asks x) x op e)

-- ---- the files that are renamed stand

sources-at : (ops : List Op) (k : ℕ) (op : Op) (t : Tree) → SourcesStand ops t → slice_get ops k ≡ Some op → HasSource op (after_all (take k ops) t)
sources-at [] k op t h e = absurd (let no : ⊥ = cc in no)
sources-at (x ∷ ops) zero op t h e = subst (λ (o : Op). HasSource o t) (let same : x ≡ op = cc in same) h.0
sources-at (x ∷ ops) (suc k) op t h e = sources-at ops k op (apply x t) h.1 e

removal-source : (op : Op) (path : List ℕ) (t : Tree) → op ≡ Remove path → HasSource op t
removal-source op path t e = subst (λ (o : Op). HasSource o t) (sym e) tt

pub after-finishing : (p : Plan) (done : ℕ) (log : List Op) (t : Tree) → p.journal < p.publish → p.publish < done → FinishesTo p done log → after_all log t ≡ after_all (take done p.ops.items) t
after-finishing p done log t order later h =
    ap (λ (l : List Op). after_all l t) h.whole ∙ after_all-append h.working h.finishing t
    ∙ ap (after_all h.finishing) (after-working p (p.publish + 1) h.working t (omega arith) h.has_begun)
    ∙ after-done (between (p.publish + 1) done p.ops.items) h.finishing [] (after_all (take (p.publish + 1) p.ops.items) t) h.finished
    ∙ sym (after_all-append (take (p.publish + 1) p.ops.items) (between (p.publish + 1) done p.ops.items) t)
    ∙ ap (λ (l : List Op). after_all l t) (sym (between-split p.ops.items 0 (p.publish + 1) done (omega arith) (omega arith)))

same-some : {a b : Op} → Some a ≡ Some b → a ≡ b
same-some e = cc

stands-at : (t : Tree) (p : Plan) (s : Stage) (done place : ℕ) (outcome : Short) (log : List Op) (op : Op) → IsPlanned t p → op_at p s done place ≡ Some op → IsAt t p s done place outcome log → HasSource op (after_all log t)
stands-at t p Preparing done place outcome log op h at here =
    subst (HasSource op) (sym (after-done (take done p.ops.items) log [] t here.1)) (sources-at p.ops.items done op t h.sources at)
stands-at t p Beginning done place outcome log op h at here =
    subst (HasSource op) (sym (after-done (before_journal p) log [] t here.1)) (sources-at p.ops.items p.journal op t h.sources (subst (λ k. slice_get p.ops.items k ≡ Some op) here.0 at))
stands-at t p Working done place outcome log op h at here =
    subst (HasSource op) (sym (after-working p done log t (let a = here.0 in omega arith) here.2)) (sources-at p.ops.items done op t h.sources at)
stands-at t p Publishing done place outcome log op h at here =
    subst (HasSource op) (sym (after-working p p.publish log t (let a = h.journal in omega arith) here.1)) (sources-at p.ops.items p.publish op t h.sources (subst (λ k. slice_get p.ops.items k ≡ Some op) here.0 at))
stands-at t p Asking done place outcome log op h at here =
    let part = here.2 in
    let same : Append part.path (part.front ++ part.back) ≡ op = same-some (sym part.publishes ∙ subst (λ k. slice_get p.ops.items k ≡ Some op) here.0 at) in
    subst (λ (o : Op). HasSource o (after_all log t)) same tt
stands-at t p Finishing done place outcome log op h at here =
    subst (HasSource op) (sym (after-finishing p done log t h.journal here.0 here.2)) (sources-at p.ops.items done op t h.sources at)
stands-at t p Undoing done place outcome log op h at here =
    let u = here.2 in
    let tree : after_all log t ≡ after_all (take place p.undo.items) (after_all u.working t) =
    ap (λ (l : List Op). after_all l t) u.whole ∙ after_all-append u.working u.undoing t ∙ after-done (take place p.undo.items) u.undoing [] (after_all u.working t) u.undone in
    subst (HasSource op) (sym tree) (sources-at p.undo.items place op (after_all u.working t) (h.undo_sources (after_all u.working t)) at)
stands-at t p Sweeping done place outcome log op h at here = let r = is-removal t p place outcome op log h here at in removal-source op r.0 (after_all log t) r.1
stands-at t p Removing done place outcome log op h at here = let r = is-removal t p place outcome op log h here at in removal-source op r.0 (after_all log t) r.1

-- the file that is renamed stands when that is asked for
pub source-stands : (now : Tree) (m : Machine) (op : Op) → asked m ≡ Doing op → IsUnderWay now m → HasSource op now
source-stands now m op e h =
    subst (HasSource op) h.is_now (stands-at h.from m.plan m.stage m.done m.place m.outcome h.log op h.so_far.planned (op-asked (op_at_hand m) (asks_size m) op e) h.so_far.here)

-- ---- replies

fits-doing : (op : Op) (r : Result Unit FileFault) → Fits (Doing op) (reply_of r)
fits-doing op (Ok x) = tt
fits-doing op (Err CallFailed) = tt
fits-doing op (Err NoMemory) = tt

pub fits-reply : (q : Question) (op : Op) (r : Result Unit FileFault) (reply : Reply) → q ≡ Doing op → reply ≡ reply_of r → Fits q reply
fits-reply q op r reply e s = subst (λ x. Fits x reply) (sym e) (subst (Fits (Doing op)) (sym s) (fits-doing op r))

goes-on-as : (before after : Option (List Op)) (P Q : List Op → Type 0) → ((more : List Op) → P more → Q more) → GoesOn before after P → GoesOn before after Q
goes-on-as None after P Q f h = h
goes-on-as (Some old) after P Q f h = (h.0, h.1, f h.0 h.2)

pub op-replied : (before after : Option (List Op)) (now : Tree) (q : Question) (op : Op) (r : Result Unit FileFault) (reply : Reply) → q ≡ Doing op → reply ≡ reply_of r → GoesOn before after (Leaves op (reply_of r)) → GoesOn before after (IsReplied now q (Some reply))
op-replied before after now q op r reply e s h =
    goes-on-as before after (Leaves op (reply_of r)) (IsReplied now q (Some reply))
    (λ more l. subst (λ x. Replies now x reply more) (sym e) (subst (λ x. Leaves op x more) (sym s) l)) h

size-told : (path : List ℕ) (start now : Tree) (log : List Op) (r : Result (Option ℕ) FileFault) → now ≡ after_all log start → HasSize (Some log) start path r → Replies now (Sizing path) (size_reply_of r) []
size-told path start now log (Ok size) e h = (refl, subst (λ (u : Tree). IsSizeOf (u path) size) (sym e) h)
size-told path start now log (Err CallFailed) e h = refl
size-told path start now log (Err NoMemory) e h = refl

pub size-replied : (before after seen : Option (List Op)) (start start_new : Tree) (q : Question) (path : List ℕ) (r : Result (Option ℕ) FileFault) (reply : Reply) → q ≡ Sizing path → reply ≡ size_reply_of r → after ≡ before → seen ≡ before → start_new ≡ start → HasSize seen start_new path r
    → GoesOn before after (IsReplied (tree_now before start) q (Some reply))
size-replied None after seen start start_new q path r reply e s same is same_start h = same
size-replied (Some log) after seen start start_new q path r reply e s same is same_start h =
    let told = size-told path start (after_all log start) log r refl (subst (λ (u : Tree). HasSize (Some log) u path r) same_start (subst (λ x. HasSize x start_new path r) is h)) in
    ([], same ∙ ap (λ (l : List Op). Some l) (sym (append-nil log)), subst (λ x. Replies (after_all log start) x reply []) (sym e) (subst (λ x. Replies (after_all log start) (Sizing path) x []) (sym s) told))

-- ---- the whole run

none-some : {A : Type 0} (x : List Op) → ◌≡◌ {A = Option (List Op)} None (Some x) → A
none-some x e = absurd (let no : ⊥ = cc in no)

pub is-under-way : (before now : Option (List Op)) (start start_now : Tree) (m : Machine) (log : List Op) → start_now ≡ start → now ≡ Some log → GoesOn before now (SoFar (tree_now before start) m) → IsUnderWay (after_all log start_now) m
is-under-way None now start start_now m log same told h = none-some log (sym h ∙ told)
is-under-way (Some old) now start start_now m log same told h =
    let whole : old ++ h.0 ≡ log = same-list (sym h.1 ∙ told) in
    record {
      from = after_all old start;
      log = h.0;
      is_now = sym (after_all-append old h.0 start) ∙ ap (λ (l : List Op). after_all l start) whole ∙ ap (λ (u : Tree). after_all log u) (sym same);
      so_far = h.2;
    }
  where
    same-list : {a b : List Op} → Some a ≡ Some b → a ≡ b
    same-list e = cc

pub goes-on-step : (before mid after : Option (List Op)) (start start_mid : Tree) (old new : Machine) → start_mid ≡ start → GoesOn before mid (SoFar (tree_now before start) old) → GoesOn mid after (IsStep (tree_now mid start_mid) old new) → GoesOn before after (SoFar (tree_now before start) new)
goes-on-step None mid after start start_mid old new same h k = subst (λ x. GoesOn x after (IsStep (tree_now x start_mid) old new)) h k
goes-on-step (Some log) mid after start start_mid old new same h k =
    let step = subst (λ x. GoesOn x after (IsStep (tree_now x start_mid) old new)) h.1 k in
    let tree : after_all h.0 (after_all log start) ≡ after_all (log ++ h.0) start_mid = sym (after_all-append log h.0 start) ∙ ap (λ (u : Tree). after_all (log ++ h.0) u) (sym same) in
    (h.0 ++ step.0, step.1 ∙ ap (λ (l : List Op). Some l) (append_assoc log h.0 step.0), step.2 (after_all log start) h.0 tree h.2)

pub ends-carried : (before after : Option (List Op)) (t : Tree) (m : Machine) (plan : Plan) (ended : Ended) → m.plan ≡ plan → ended ≡ record { outcome = m.outcome; swept = m.swept } → asked m ≡ Ending → GoesOn before after (SoFar t m) → GoesOn before after (CarriedOut t plan ended.outcome ended.swept)
ends-carried before after t m plan ended same is none h =
    goes-on-as before after (SoFar t m) (CarriedOut t plan ended.outcome ended.swept)
    (λ log so_far. subst (λ x. CarriedOut t x ended.outcome ended.swept log) same (subst (λ (x : Ended). CarriedOut t m.plan x.outcome x.swept log) (sym is) (has-ended t m log none so_far))) h

-- a reply that was taken is a step
pub steps-on : (before after : Option (List Op)) (now : Tree) (old new : Machine) (reply : Reply) → Steps old reply new → GoesOn before after (IsReplied now (asked old) (Some reply)) → GoesOn before after (IsStep now old new)
steps-on before after now old new reply steps h =
    goes-on-as before after (IsReplied now (asked old) (Some reply)) (IsStep now old new)
    (λ more r t done tree so_far. steps t done more so_far (subst (λ (u : Tree). Replies u (asked old) reply more) (sym tree) r)) h
