-- What a reply says of the operation at hand.
use Rattle.std.proofs.Common.{◌≡◌, ℕ, ◌+◌, ◌-◌, ◌*◌, ◌<◌, ◌≤◌, List, length, refl, sym, ap, subst, inl, inr, arith, Bool, true, false}
use Rattle.std.specs.Prelude.{◌⊎◌, Option, Some, None, slice_get, if◌then◌else◌}
use Rattle.hgs_files.specs.declared.op.Op.{Op}
use Rattle.hgs_files.specs.declared.op.Op.TheVariants.{Append, Cut, Rename, Remove, Create, Sync, Settle}
use Rattle.hgs_files.specs.Tree.{Tree}
use Rattle.hgs_machine.specs.declared.machine.Machine.{Machine}
use Rattle.hgs_machine.specs.declared.machine.Reply.{Reply}
use Rattle.hgs_machine.specs.declared.machine.Reply.TheVariants.{Done, Failed, Memory, Size, SizeFailed, SizeMemory}
use Rattle.hgs_machine.specs.declared.machine.Stage.{Stage}
use Rattle.hgs_machine.specs.declared.machine.Stage.TheVariants.{Preparing, Beginning, Working, Publishing, Asking, Undoing, Sweeping}
use Rattle.hgs_machine.specs.Asked.{Doing, Sizing, Ending, asked, asks_size, asks_size_in, is_size_asked_of, op_at, op_at_hand, question_of, size_question}
use Rattle.hgs_machine.specs.SoFar.{Fits, IsAt, IsSwept, Leaves, Replies, SoFar, left_at, questions_left}

pub either : {A B C : Type 0} → A ⊎ B → (A → C) → (B → C) → C
either (inl a) f g = f a
either (inr b) f g = g b

pub at-hand : (o : Option Op) (asks : Op → Bool) (r : Reply) → Fits (question_of o asks) r → (op : Op) × (o ≡ Some op)
at-hand None asks r h = elim h [ ]
at-hand (Some op) asks r h = (op, refl)

-- the reply is one to an operation
abbrev pub IsOfOp : Reply → Type 0
IsOfOp Done = Unit {0}
IsOfOp Failed = Unit {0}
IsOfOp Memory = Unit {0}
IsOfOp _ = ⊥

sized_no : {A : Type 0} (t : Tree) (path : List ℕ) (r : Reply) (more : List Op) → IsOfOp r → Replies t (Sizing path) r more → A
sized_no t path Done more i h = elim h [ ]
sized_no t path Failed more i h = elim h [ ]
sized_no t path Memory more i h = elim h [ ]
sized_no t path (Size size) more i h = elim i [ ]
sized_no t path SizeFailed more i h = elim i [ ]
sized_no t path SizeMemory more i h = elim i [ ]

replied : (t : Tree) (asks : Bool) (op : Op) (r : Reply) (more : List Op) → IsOfOp r → Replies t (if asks then size_question op else Doing op) r more → Leaves op r more
replied t false op r more i h = h
replied t true (Append path bytes) r more i h = sized_no t path r more i h
replied t true (Remove path) r more i h = sized_no t path r more i h
replied t true (Cut path len) r more i h = h
replied t true (Rename from to) r more i h = h
replied t true (Create path bytes) r more i h = h
replied t true (Sync path) r more i h = h
replied t true Settle r more i h = h

-- an operation is at hand, and the reply says what it left
pub record AtHand (m : Machine) (s : Stage) (r : Reply) (more : List Op) : Type 0 where
  pub op : Op
  pub there : op_at m.plan s m.done m.place ≡ Some op
  pub leaves : Leaves op r more

hand : (t : Tree) (o : Option Op) (asks : Op → Bool) (r : Reply) (more : List Op) → IsOfOp r → Replies t (question_of o asks) r more → (op : Op) × (o ≡ Some op) × Leaves op r more
hand t None asks r more i h = elim h [ ]
hand t (Some op) asks r more i h = (op, refl, replied t (asks op) op r more i h)

pub at-stage : (t : Tree) (m : Machine) (s : Stage) (r : Reply) (more : List Op) → m.stage ≡ s → IsOfOp r → Replies t (asked m) r more → AtHand m s r more
at-stage t m s r more e i h =
    let of = hand t (op_at_hand m) (asks_size m) r more i h in
    record { op = of.0; there = subst (λ x. op_at m.plan x m.done m.place ≡ Some of.0) e of.1; leaves = of.2 }

-- what is at hand at a stage, where a reply fits
pub fits-at : (m : Machine) (s : Stage) (r : Reply) → m.stage ≡ s → Fits (asked m) r → (op : Op) × (op_at m.plan s m.done m.place ≡ Some op)
fits-at m s r e h =
    let of = at-hand (op_at_hand m) (asks_size m) r h in
    (of.0, subst (λ x. op_at m.plan x m.done m.place ≡ Some of.0) e of.1)

pub is-here : (t : Tree) (m : Machine) (s : Stage) (log : List Op) → m.stage ≡ s → SoFar t m log → IsAt t m.plan s m.done m.place m.outcome log
is-here t m s log e h = subst (λ x. IsAt t m.plan x m.done m.place m.outcome log) e h.here

pub is-gone : (t : Tree) (m : Machine) (s : Stage) (log : List Op) → m.stage ≡ s → SoFar t m log → IsSwept t m.plan s m.place m.outcome m.swept log
is-gone t m s log e h = subst (λ x. IsSwept t m.plan x m.place m.outcome m.swept log) e h.gone

-- the size is asked for while it is not known how the publishing append stands
sizes_there : {A : Type 0} (t : Tree) (o : Option Op) (asks : Op → Bool) (path bytes : List ℕ) (r : Reply) (more : List Op) → o ≡ Some (Append path bytes) → ((op : Op) → asks op ≡ true) → Replies t (question_of o asks) r more → (Replies t (Sizing path) r more → A) → A
sizes_there t o asks path bytes r more e all h f =
    let h1 = subst (λ x. Replies t (question_of x asks) r more) e h in
    let h2 = subst (λ b. Replies t (if b then Sizing path else Doing (Append path bytes)) r more) (all (Append path bytes)) h1 in
    f h2

pub asks-size : (t : Tree) (m : Machine) (path bytes : List ℕ) (r : Reply) (more : List Op) → m.stage ≡ Asking → slice_get m.plan.ops.items m.done ≡ Some (Append path bytes) → Replies t (asked m) r more → Replies t (Sizing path) r more
asks-size t m path bytes r more e there h =
    sizes_there t (op_at_hand m) (asks_size m) path bytes r more (subst (λ x. op_at m.plan x m.done m.place ≡ Some (Append path bytes)) (sym e) there)
    (λ op. ap (λ x. asks_size_in x (is_size_asked_of m op)) e) h (λ k. k)

pub asks-no-op : {A : Type 0} (t : Tree) (m : Machine) (path bytes : List ℕ) (r : Reply) (more : List Op) → m.stage ≡ Asking → slice_get m.plan.ops.items m.done ≡ Some (Append path bytes) → IsOfOp r → Replies t (asked m) r more → A
asks-no-op t m path bytes r more e there i h = sized_no t path r more i (asks-size t m path bytes r more e there h)

-- the number of questions left
pub fewer-at : (m new next : Machine) (s : Stage) → m.stage ≡ s → new ≡ next → questions_left next < left_at m.plan s m.done m.place → questions_left new < questions_left m
fewer-at m new next s e n h =
    subst (λ x. questions_left x < questions_left m) (sym n) (subst (λ x. questions_left next < left_at m.plan x m.done m.place) (sym e) h)

-- at an operation of the plan
abbrev pub LeftDoing : Machine → ℕ → ℕ
LeftDoing m done = 2 * (length m.plan.ops.items - done) + length m.plan.undo.items + 2 * length m.plan.ops.items + 1

pub left-preparing : (m : Machine) (b : Bool) (done : ℕ) → left_at m.plan (if b then Beginning else Preparing) done m.place ≡ LeftDoing m done
left-preparing m true done = refl
left-preparing m false done = refl

pub left-working : (m : Machine) (b : Bool) (done : ℕ) → left_at m.plan (if b then Publishing else Working) done m.place ≡ LeftDoing m done
left-working m true done = refl
left-working m false done = refl

pub fewer-doing : (m new : Machine) (s stage : Stage) → m.stage ≡ s → new ≡ record m { stage = stage; done = m.done + 1 } → left_at m.plan stage (m.done + 1) m.place ≡ LeftDoing m (m.done + 1) → left_at m.plan s m.done m.place ≡ LeftDoing m m.done
    → m.done < length m.plan.ops.items → questions_left new < questions_left m
fewer-doing m new s stage e n next now within = fewer-at m new (record m { stage = stage; done = m.done + 1 }) s e n (subst (λ k. left_at m.plan stage (m.done + 1) m.place < k) (sym now) (subst (λ k. k < LeftDoing m m.done) (sym next) (omega arith)))

pub fewer-undone : (m new : Machine) (place : ℕ) → m.stage ≡ Undoing → m.place < length m.plan.undo.items → (m.place + 1 < length m.plan.undo.items → new ≡ record m { place = m.place + 1 }) → (length m.plan.undo.items ≤ m.place + 1 → new ≡ record m { stage = Sweeping; place = place })
    → (m.place + 1 < length m.plan.undo.items) ⊎ (length m.plan.undo.items ≤ m.place + 1) → questions_left new < questions_left m
fewer-undone m new place e within on last (inl less) =
    fewer-at m new (record m { place = m.place + 1 }) Undoing e (on less)
    (subst (λ s. left_at m.plan s m.done (m.place + 1) < left_at m.plan Undoing m.done m.place) (sym e) (omega arith))
fewer-undone m new place e within on last (inr most) = fewer-at m new (record m { stage = Sweeping; place = place }) Undoing e (last most) (omega arith)

-- ---- the end

size-asks : {A : Type 0} (op : Op) → size_question op ≡ Ending → A
size-asks (Append path bytes) e = absurd (let no : ⊥ = cc in no)
size-asks (Remove path) e = absurd (let no : ⊥ = cc in no)
size-asks (Cut path len) e = absurd (let no : ⊥ = cc in no)
size-asks (Rename from to) e = absurd (let no : ⊥ = cc in no)
size-asks (Create path bytes) e = absurd (let no : ⊥ = cc in no)
size-asks (Sync path) e = absurd (let no : ⊥ = cc in no)
size-asks Settle e = absurd (let no : ⊥ = cc in no)

asks-some : {A : Type 0} (b : Bool) (op : Op) → (if b then size_question op else Doing op) ≡ Ending → A
asks-some true op e = size-asks op e
asks-some false op e = absurd (let no : ⊥ = cc in no)

no-question : (o : Option Op) (asks : Op → Bool) → question_of o asks ≡ Ending → o ≡ None
no-question None asks e = refl
no-question (Some op) asks e = asks-some (asks op) op e

-- where nothing more is asked for, no operation is at hand
pub none-at-hand : (m : Machine) → asked m ≡ Ending → op_at_hand m ≡ None
none-at-hand m e = no-question (op_at_hand m) (asks_size m) e
