-- Where a machine asks for nothing more.
use Rattle.std.proofs.Common.{◌≡◌, ℕ, ◌≤◌, Bool, List, arith}
use Rattle.std.specs.Prelude.{None, slice_get}
use Rattle.hgs_files.specs.declared.op.Op.{Op}
use Rattle.hgs_files.specs.Tree.{Tree}
use Rattle.hgs_transaction.specs.declared.assemble.Plan.{Plan}
use Rattle.hgs_machine.specs.declared.ended.Short.{Short}
use Rattle.hgs_machine.specs.declared.machine.Machine.{Machine}
use Rattle.hgs_machine.specs.declared.machine.Stage.{Stage}
use Rattle.hgs_machine.specs.declared.machine.Stage.TheVariants.{Preparing, Beginning, Working, Publishing, Asking, Finishing, Undoing, Sweeping, Removing}
use Rattle.hgs_machine.specs.Asked.{Doing, Ending, Question, Sizing, asked, op_at}
use Rattle.hgs_machine.specs.Course.{CarriedOut}
use Rattle.hgs_machine.specs.Planned.{IsPlanned}
use Rattle.hgs_machine.specs.SoFar.{EndsWell, IsAt, IsSwept, SoFar}
use Rattle.hgs_machine.proofs.Replied.{none-at-hand}
use Rattle.hgs_machine.proofs.Stages.{carried-out, commit-within, none-there}

-- an operation of the plan is at hand up to the journal's removal
pub past : {A : Type 0} (t : Tree) (p : Plan) (done : ℕ) → IsPlanned t p → done ≤ p.commit → slice_get p.ops.items done ≡ None → A
past t p done h within none =
    let many = commit-within t p h in
    let all = none-there p.ops.items done none in
    absurd (omega arith)

ends-at : (t : Tree) (p : Plan) (s : Stage) (done place : ℕ) (outcome : Short) (swept : Bool) (log : List Op) → IsPlanned t p → op_at p s done place ≡ None → IsAt t p s done place outcome log → IsSwept t p s place outcome swept log → CarriedOut t p outcome swept log
ends-at t p Preparing done place outcome swept log h none here gone = past t p done h (let a = h.journal in let b = h.publish in let c = here.0 in omega arith) none
ends-at t p Beginning done place outcome swept log h none here gone = past t p done h (let a = h.journal in let b = h.publish in let c = here.0 in omega arith) none
ends-at t p Working done place outcome swept log h none here gone = past t p done h (let b = h.publish in let c = here.1 in omega arith) none
ends-at t p Publishing done place outcome swept log h none here gone = past t p done h (let b = h.publish in let c = here.0 in omega arith) none
ends-at t p Asking done place outcome swept log h none here gone = past t p done h (let b = h.publish in let c = here.0 in omega arith) none
ends-at t p Finishing done place outcome swept log h none here gone = past t p done h here.1 none
ends-at t p Undoing done place outcome swept log h none here gone = let all = none-there p.undo.items place none in let within = here.0 in absurd (omega arith)
ends-at t p Sweeping done place outcome swept log h none here gone = carried-out t p place outcome swept log h none here gone
ends-at t p Removing done place outcome swept log h none here gone = carried-out t p place outcome swept log h none here gone

pub has-ended : (t : Tree) (m : Machine) (log : List Op) → asked m ≡ Ending → SoFar t m log → CarriedOut t m.plan m.outcome m.swept log
has-ended t m log e h = ends-at t m.plan m.stage m.done m.place m.outcome m.swept log h.planned (none-at-hand m e) h.here h.gone

pub ends-well : (m : Machine) (q : Question) → asked m ≡ q → EndsWell m q
ends-well m Ending e = λ t log h. has-ended t m log e h
ends-well m (Doing op) e = tt
ends-well m (Sizing path) e = tt
