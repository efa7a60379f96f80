-- Replies to the question for a size.
use Rattle.std.proofs.Common.{◌≡◌, ℕ, ◌+◌, ◌<◌, List, [], ◌++◌, length, refl, sym, ◌∙◌, ap, subst, inl, inr, arith, append-nil, Bool, true, false}
use Rattle.std.specs.Prelude.{Option, Some, None, IsSome, slice_get, if◌then◌else◌}
use Rattle.hgs_files.specs.declared.op.Op.{Op}
use Rattle.hgs_files.specs.declared.op.Op.TheVariants.{Append, Cut, Rename, Remove, Create, Sync, Settle}
use Rattle.hgs_files.specs.Tree.{Tree, after_all}
use Rattle.hgs_machine.specs.declared.machine.Machine.{Machine}
use Rattle.hgs_machine.specs.declared.machine.Reply.{Reply}
use Rattle.hgs_machine.specs.declared.machine.Reply.TheVariants.{Done, Failed, Memory, Size, SizeFailed, SizeMemory}
use Rattle.hgs_machine.specs.declared.machine.Stage.{Stage}
use Rattle.hgs_machine.specs.declared.machine.Stage.TheVariants.{Preparing, Beginning, Working, Publishing, Asking, Finishing, Undoing, Sweeping, Removing}
use Rattle.hgs_machine.specs.Asked.{Doing, Ending, Question, Sizing, op_at, asked, asks_size, asks_size_in, is_size_asked_of, op_at_hand, question_of, size_question}
use Rattle.hgs_machine.specs.SoFar.{Blames, IsRefused, questions_left, Fits, HasNoSize, Leaves, Replies, SoFar}
use Rattle.hgs_machine.proofs.Feeding.{passes-absent}
use Rattle.hgs_machine.proofs.Replied.{fewer-at, is-gone, is-here}

-- the reply is one to the question for a size
abbrev pub IsOfSize : Reply → Type 0
IsOfSize (Size size) = Unit {0}
IsOfSize SizeFailed = Unit {0}
IsOfSize SizeMemory = Unit {0}
IsOfSize _ = ⊥

pub of-no-size : (r : Reply) → HasNoSize r → IsOfSize r
of-no-size SizeFailed i = tt
of-no-size SizeMemory i = tt
of-no-size Done i = elim i [ ]
of-no-size Failed i = elim i [ ]
of-no-size Memory i = elim i [ ]
of-no-size (Size size) i = elim i [ ]

no-leaves : {A : Type 0} (op : Op) (r : Reply) (more : List Op) → IsOfSize r → Leaves op r more → A
no-leaves (Append path bytes) (Size size) more i h = elim h [ ]
no-leaves (Append path bytes) SizeFailed more i h = elim h [ ]
no-leaves (Append path bytes) SizeMemory more i h = elim h [ ]
no-leaves (Append path bytes) Done more i h = elim i [ ]
no-leaves (Append path bytes) Failed more i h = elim i [ ]
no-leaves (Append path bytes) Memory more i h = elim i [ ]
no-leaves (Create path bytes) (Size size) more i h = elim h [ ]
no-leaves (Create path bytes) SizeFailed more i h = elim h [ ]
no-leaves (Create path bytes) SizeMemory more i h = elim h [ ]
no-leaves (Create path bytes) Done more i h = elim i [ ]
no-leaves (Create path bytes) Failed more i h = elim i [ ]
no-leaves (Create path bytes) Memory more i h = elim i [ ]
no-leaves (Cut path len) (Size size) more i h = elim h [ ]
no-leaves (Cut path len) SizeFailed more i h = elim h [ ]
no-leaves (Cut path len) SizeMemory more i h = elim h [ ]
no-leaves (Cut path len) Done more i h = elim i [ ]
no-leaves (Cut path len) Failed more i h = elim i [ ]
no-leaves (Cut path len) Memory more i h = elim i [ ]
no-leaves (Rename from to) (Size size) more i h = elim h [ ]
no-leaves (Rename from to) SizeFailed more i h = elim h [ ]
no-leaves (Rename from to) SizeMemory more i h = elim h [ ]
no-leaves (Rename from to) Done more i h = elim i [ ]
no-leaves (Rename from to) Failed more i h = elim i [ ]
no-leaves (Rename from to) Memory more i h = elim i [ ]
no-leaves (Remove path) (Size size) more i h = elim h [ ]
no-leaves (Remove path) SizeFailed more i h = elim h [ ]
no-leaves (Remove path) SizeMemory more i h = elim h [ ]
no-leaves (Remove path) Done more i h = elim i [ ]
no-leaves (Remove path) Failed more i h = elim i [ ]
no-leaves (Remove path) Memory more i h = elim i [ ]
no-leaves (Sync path) (Size size) more i h = elim h [ ]
no-leaves (Sync path) SizeFailed more i h = elim h [ ]
no-leaves (Sync path) SizeMemory more i h = elim h [ ]
no-leaves (Sync path) Done more i h = elim i [ ]
no-leaves (Sync path) Failed more i h = elim i [ ]
no-leaves (Sync path) Memory more i h = elim i [ ]
no-leaves Settle (Size size) more i h = elim h [ ]
no-leaves Settle SizeFailed more i h = elim h [ ]
no-leaves Settle SizeMemory more i h = elim h [ ]
no-leaves Settle Done more i h = elim i [ ]
no-leaves Settle Failed more i h = elim i [ ]
no-leaves Settle Memory more i h = elim i [ ]

no-fit : {A : Type 0} (op : Op) (r : Reply) → IsOfSize r → Fits (Doing op) r → A
no-fit op (Size size) i h = elim h [ ]
no-fit op SizeFailed i h = elim h [ ]
no-fit op SizeMemory i h = elim h [ ]
no-fit op Done i h = elim i [ ]
no-fit op Failed i h = elim i [ ]
no-fit op Memory i h = elim i [ ]

-- the reply is one to what is asked for
pub fits-of : (t : Tree) (q : Question) (r : Reply) (more : List Op) → IsOfSize r → Replies t q r more → Fits q r
fits-of t (Doing op) r more i h = no-leaves op r more i h
fits-of t Ending r more i h = elim h [ ]
fits-of t (Sizing path) (Size size) more i h = tt
fits-of t (Sizing path) SizeFailed more i h = tt
fits-of t (Sizing path) SizeMemory more i h = tt
fits-of t (Sizing path) Done more i h = elim i [ ]
fits-of t (Sizing path) Failed more i h = elim i [ ]
fits-of t (Sizing path) Memory more i h = elim i [ ]

none-fits : {A : Type 0} (o : Option Op) (r : Reply) → IsOfSize r → Fits (question_of o (λ op. false)) r → A
none-fits None r i h = elim h [ ]
none-fits (Some op) r i h = no-fit op r i h

size-stage : (s : Stage) (o : Option Op) (unknown : Op → Bool) (r : Reply) → IsOfSize r → Fits (question_of o (λ op. asks_size_in s (unknown op))) r → (s ≡ Asking → ⊥) → s ≡ Sweeping
size-stage Asking o unknown r i h n = absurd (n refl)
size-stage Sweeping o unknown r i h n = refl
size-stage Preparing o unknown r i h n = none-fits o r i h
size-stage Beginning o unknown r i h n = none-fits o r i h
size-stage Working o unknown r i h n = none-fits o r i h
size-stage Publishing o unknown r i h n = none-fits o r i h
size-stage Finishing o unknown r i h n = none-fits o r i h
size-stage Undoing o unknown r i h n = none-fits o r i h
size-stage Removing o unknown r i h n = none-fits o r i h

-- where the size of no published file is asked for, it is that of a file to be removed
pub is-sweeping : (m : Machine) (r : Reply) → IsOfSize r → Fits (asked m) r → (m.stage ≡ Asking → ⊥) → m.stage ≡ Sweeping
is-sweeping m r i h n = size-stage m.stage (op_at_hand m) (is_size_asked_of m) r i h n

nothing-done : (t : Tree) (asks : Bool) (op : Op) (r : Reply) (more : List Op) → IsOfSize r → Replies t (if asks then size_question op else Doing op) r more → more ≡ []
nothing-done t false op r more i h = no-leaves op r more i h
nothing-done t true (Cut path len) r more i h = no-leaves (Cut path len) r more i h
nothing-done t true (Rename from to) r more i h = no-leaves (Rename from to) r more i h
nothing-done t true (Create path bytes) r more i h = no-leaves (Create path bytes) r more i h
nothing-done t true (Sync path) r more i h = no-leaves (Sync path) r more i h
nothing-done t true Settle r more i h = no-leaves Settle r more i h
nothing-done t true (Append path bytes) (Size size) more i h = h.0
nothing-done t true (Append path bytes) SizeFailed more i h = h
nothing-done t true (Append path bytes) SizeMemory more i h = h
nothing-done t true (Append path bytes) Done more i h = elim i [ ]
nothing-done t true (Append path bytes) Failed more i h = elim i [ ]
nothing-done t true (Append path bytes) Memory more i h = elim i [ ]
nothing-done t true (Remove path) (Size size) more i h = h.0
nothing-done t true (Remove path) SizeFailed more i h = h
nothing-done t true (Remove path) SizeMemory more i h = h
nothing-done t true (Remove path) Done more i h = elim i [ ]
nothing-done t true (Remove path) Failed more i h = elim i [ ]
nothing-done t true (Remove path) Memory more i h = elim i [ ]

nothing : (t : Tree) (o : Option Op) (asks : Op → Bool) (r : Reply) (more : List Op) → IsOfSize r → Replies t (question_of o asks) r more → more ≡ []
nothing t None asks r more i h = elim h [ ]
nothing t (Some op) asks r more i h = nothing-done t (asks op) op r more i h

-- a question for a size does nothing
pub size-does-nothing : (t : Tree) (m : Machine) (r : Reply) (more : List Op) → IsOfSize r → Replies t (asked m) r more → more ≡ []
size-does-nothing t m r more i h = nothing t (op_at_hand m) (asks_size m) r more i h

-- a size that says that a file does not stand
no-such-leaf : {A : Type 0} (op : Op) (size : Option ℕ) (more : List Op) → Leaves op (Size size) more → A
no-such-leaf op size more h = no-leaves op (Size size) more tt h

absent-op : (u : Tree) (asks : Bool) (op : Op) (path : List ℕ) (more : List Op) → op ≡ Remove path → Replies u (if asks then size_question op else Doing op) (Size None) more → u path ≡ None
absent-op u false op path more e h = no-such-leaf op None more h
absent-op u true op path more e h =
    let told : Replies u (Sizing path) (Size None) more = subst (λ (o : Op). Replies u (size_question o) (Size None) more) e h in
    told.1

pub absent-at : (u : Tree) (o : Option Op) (asks : Op → Bool) (op : Op) (path : List ℕ) (more : List Op) → o ≡ Some op → op ≡ Remove path → Replies u (question_of o asks) (Size None) more → u path ≡ None
absent-at u o asks op path more at e h = absent-op u (asks op) op path more e (subst (λ x. Replies u (question_of x asks) (Size None) more) at h)

pub stray-sized : (t : Tree) (m new : Machine) (size : Option ℕ) (op : Op) (log more : List Op) → m.stage ≡ Sweeping → slice_get m.plan.ops.items m.place ≡ Some op → (IsSome size → new ≡ record m { stage = Removing }) → (size ≡ None → new ≡ record m { stage = Sweeping; place = m.place + 1 })
    → SoFar t m log → Replies (after_all log t) (asked m) (Size size) more → SoFar t new (log ++ more)
stray-sized t m new None op log more e there stands absent h r =
    passes-absent t m new op log more h.planned (is-here t m Sweeping log e h) (is-gone t m Sweeping log e h) there (size-does-nothing (after_all log t) m (Size None) more tt r)
    (λ path is. absent-at (after_all log t) (op_at_hand m) (asks_size m) op path more (subst (λ s. op_at m.plan s m.done m.place ≡ Some op) (sym e) there) is r) (absent refl)
stray-sized t m new (Some k) op log more e there stands absent h r =
    subst (SoFar t new) (sym (ap (λ (l : List Op). log ++ l) (size-does-nothing (after_all log t) m (Size (Some k)) more tt r) ∙ append-nil log))
    (subst (λ (x : Machine). SoFar t x log) (sym (stands refl)) (record { planned = h.planned; here = is-here t m Sweeping log e h; gone = is-gone t m Sweeping log e h }))

pub stray-fewer : (m new : Machine) (size : Option ℕ) → m.stage ≡ Sweeping → m.place < length m.plan.ops.items → (IsSome size → new ≡ record m { stage = Removing }) → (size ≡ None → new ≡ record m { stage = Sweeping; place = m.place + 1 }) → questions_left new < questions_left m
stray-fewer m new None e within stands absent = fewer-at m new (record m { stage = Sweeping; place = m.place + 1 }) Sweeping e (absent refl) (omega arith)
stray-fewer m new (Some k) e within stands absent = fewer-at m new (record m { stage = Removing }) Sweeping e (stands refl) (omega arith)

pub stray-blames : (m new : Machine) (size : Option ℕ) (r : Reply) → (IsSome size → new ≡ record m { stage = Removing }) → (size ≡ None → new ≡ record m { stage = Sweeping; place = m.place + 1 }) → Blames m r new
stray-blames m new None r stands absent = record { outcome = inl (ap (λ (x : Machine). x.outcome) (absent refl)); swept = inl (ap (λ (x : Machine). x.swept) (absent refl)) }
stray-blames m new (Some k) r stands absent = record { outcome = inl (ap (λ (x : Machine). x.outcome) (stands refl)); swept = inl (ap (λ (x : Machine). x.swept) (stands refl)) }

pub no-size-refused : (r : Reply) → HasNoSize r → IsRefused r
no-size-refused SizeFailed i = tt
no-size-refused SizeMemory i = tt
no-size-refused Done i = elim i [ ]
no-size-refused Failed i = elim i [ ]
no-size-refused Memory i = elim i [ ]
no-size-refused (Size size) i = elim i [ ]

pub passed-blames : (m new : Machine) (swept : Bool) (r : Reply) → HasNoSize r → new ≡ record m { stage = Sweeping; place = m.place + 1; swept = swept } → Blames m r new
passed-blames m new swept r i n = record { outcome = inl (ap (λ (x : Machine). x.outcome) n); swept = inr (no-size-refused r i) }
