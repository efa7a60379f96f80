-- What a call publishes, by its answer.
use Rattle.std.proofs.Common.{◌≡◌, ℕ, List, [], ◌∷◌, ◌++◌, map, refl, sym, ◌∙◌, ap, subst, inl, inr}
use Rattle.std.specs.Prelude.{Bool, None, Ok, Option, Some, reverse, unwrap_or}
use Rattle.hgs_answers.specs.declared.answer.Answer.{Answer as Told}
use Rattle.hgs_commit.specs.declared.fault.CommitFault.{CommitFault}
use Rattle.hgs_commit.specs.declared.fault.CommitFault.TheVariants as commits
use Rattle.hgs_files.specs.declared.op.Op.{Op}
use Rattle.hgs_files.specs.declared.op.Op.TheVariants.{Create}
use Rattle.hgs_files.specs.Tree.{Tree, after_all}
use Rattle.hgs_index.specs.declared.node.Node.{Node}
use Rattle.hgs_journal.specs.Names.{journal_path}
use Rattle.hgs_journal.specs.Undo.{undo_backups, undo_line}
use Rattle.hgs_legal.specs.LegalLog.{Idle, State, Turn, current, last_repo}
use Rattle.hgs_load.specs.declared.answer.ReadAnswer.{ReadAnswer}
use Rattle.hgs_load.specs.declared.answer.ReadAnswer.TheVariants as reads
use Rattle.hgs_machine.specs.Course.{CarriedOut}
use Rattle.hgs_machine.specs.Locks.{AreLocked}
use Rattle.hgs_machine.specs.declared.ended.Published.TheVariants.{No, Yes, Unknown}
use Rattle.hgs_machine.specs.declared.ended.Short.{Short}
use Rattle.hgs_machine.specs.declared.ended.Short.TheVariants as shorts
use Rattle.hgs_machine.specs.declared.locks.LockRefusal.{LockRefusal}
use Rattle.hgs_machine.specs.declared.locks.LockRefusal.TheVariants as locked
use Rattle.hgs_model.specs.Repo.{Repo}
use Rattle.hgs_model.specs.Step.{Answer, step}
use Rattle.hgs_model.specs.Valid.{IsValid}
use Rattle.hgs_model.specs.declared.command.Command.{Command}
use Rattle.hgs_model.specs.declared.command.Refusal.{Refusal}
use Rattle.hgs_model.specs.declared.command.Refusal.TheVariants as refusals
use Rattle.hgs_ops.specs.Operations.{backups_of, journal_of, lock_path, operations, transaction_of, wlock_path}
use Rattle.hgs_ops.specs.Replaced.{replacements, standing_file}
use Rattle.hgs_ops.specs.Unhindered.{IsReady}
use Rattle.hgs_stands.specs.Stands.{Stands}
use Rattle.hgs_steps.specs.declared.fault.PlanFault.{PlanFault}
use Rattle.hgs_steps.specs.declared.fault.PlanFault.TheVariants as plans
use Rattle.hgs_transaction.specs.Assembled.{IsPlanOf}
use Rattle.hgs_transaction.specs.OfTransaction.{ArePartsOf}
use Rattle.hgs_transaction.specs.declared.assemble.Plan.{Plan}
use Rattle.hgs_transaction.specs.declared.parts.Parts.{Parts}
use Rattle.hgs_legal.specs.ListsPaths.{ListsPaths}
use Rattle.hgs_writer.specs.Alone.{IsBarred}
use Rattle.hgs_writer.specs.Begun.{IsRefused, has_no_locks}
use Rattle.hgs_writer.specs.Begun as begun
use Rattle.hgs_writer.specs.Below.{Below}
use Rattle.hgs_writer.specs.Outcomes.{outcome_of_commit, outcome_of_ended, outcome_of_lock, outcome_of_plan, outcome_of_read}
use Rattle.hgs_writer.specs.Planning.{IsPlannedFor}
use Rattle.hgs_writer.specs.Written.{IsCarriedOut, IsWrittenFor, has_no_plan, has_plan}
use Rattle.hgs_writer.specs.declared.plan.Planned.{Planned}
use Rattle.hgs_writer.specs.Turns.{IsAtRest, IsTurnOf, LeadsAs, LeadsOn, Order}
use Rattle.hgs_writer.proofs.Carried.{Comes, comes}
use Rattle.hgs_writer.proofs.CommitLemmas.{lists-under-locks}
use Rattle.hgs_writer.proofs.Planned.{planned-step}
use Rattle.hgs_writer.proofs.PiecePlanLemmas.{lists-are}
use Rattle.hgs_writer.proofs.Refused.{released, turned-away}
use Rattle.hgs_writer.proofs.Runs.{at, from-rest}

-- ---- a transaction that is carried out

-- the turn of a command that the repository accepts
abbrev turn_of : Tree → Repo → Command → List ℕ → Repo → Answer → Turn
turn_of t r command who next answer = record { who = who; command = command; first = r; next = next; answer = answer; ops = transaction_of t r command who next }

-- what the crate of plans says of their lists
pub record AreListed : Type 0 where
  pub ops : (t : Tree) (r next : Repo) (command : Command) (who : List ℕ) (p : Parts) (plan : Plan) → ArePartsOf t r command next p → IsPlanOf p plan → Create wlock_path who ∷ Create lock_path who ∷ plan.ops.items ≡ operations (transaction_of t r command who next)
  pub undo : (t : Tree) (r next : Repo) (command : Command) (who : List ℕ) (p : Parts) (plan : Plan) → ArePartsOf t r command next p → IsPlanOf p plan → plan.undo.items ≡ (transaction_of t r command who next).undo

transaction-comes : AreListed → (t : Tree) (f : Repo) (so : List Turn) (rest : List Op) (next : Repo) (command : Command) (who : List ℕ) (answer : Answer) (p : Parts) (plan : Plan) (ended : Short) (swept : Bool) (locking carrying : List Op) → IsValid command
    → step (last_repo f so) command ≡ Ok (next, answer) → IsReady t (last_repo f so) command next → ArePartsOf t (last_repo f so) command next p → IsPlanOf p plan → AreLocked who t locking → CarriedOut (after_all locking t) plan ended swept carrying
    → Comes (at t f so (Idle None rest)) (turn_of t (last_repo f so) command who next answer) ended (locking ++ carrying)
transaction-comes listed t f so rest next command who answer p plan ended swept locking carrying valid accepted ready are is locks carried =
    let r = last_repo f so in
    let x : Turn = turn_of t r command who next answer in
    let lists = lists-are t r next command who p plan are is (listed.ops t r next command who p plan are is) (listed.undo t r next command who p plan are is) in
    let lines = map undo_line (reverse (journal_of t r command next)) in
    let files = undo_backups (backups_of t r command next) (map (λ z. unwrap_or (standing_file t z) []) (replacements r command next)) in
    comes t f so rest x plan (record { valid = valid; accepted = accepted; from = refl; listed = refl; ready = ready }) lists locking locks (lines ++ files) refl ended swept carrying carried

-- from a state at rest, by the answer
module _ (s : State) (rested : IsAtRest None s) (o : Order) (x : Turn) (is : IsTurnOf o x) (log : List Op) where
  abbrev from : State
  from = at s.files s.first s.published (Idle None rested.0)

  moved : {turns : List Turn} {left : Option (List Op)} → LeadsOn (at s.files s.first s.published (Idle None rested.0)) log turns left → LeadsOn s log turns left
  moved {turns} {left} leads = from-rest s None rested.0 log turns left rested.1 leads

  by-answer : (ended : Short) (rev : ℕ) (node : Node) → Comes (at s.files s.first s.published (Idle None rested.0)) x ended log → LeadsAs s log o (outcome_of_ended ended rev node)
  by-answer shorts.Done rev node c = (x, is, moved c)
  by-answer shorts.Fault rev node c = moved c
  by-answer shorts.Memory rev node c = moved c
  by-answer (shorts.Unfinished No) rev node c = (c.0, moved c.1)
  by-answer (shorts.Unfinished Yes) rev node c = (c.0, (x, is, moved c.1))
  by-answer (shorts.Unfinished Unknown) rev node c = (
    c.0,
    elim c.1 [
      | inl none ↦ inl (moved none)
      | inr one ↦ inr (x, is, moved one)
    ],
  )

-- ---- a command that is refused

refusal-leads-as : (s : State) (log : List Op) (o : Order) (e : Refusal) → LeadsOn s log [] None → LeadsAs s log o (outcome_of_plan (plans.Refused e))
refusal-leads-as s log o refusals.UnknownRevision leads = leads
refusal-leads-as s log o refusals.UnknownPath leads = leads
refusal-leads-as s log o (refusals.CopyOver path) leads = leads
refusal-leads-as s log o (refusals.NeedsForce rev) leads = leads
refusal-leads-as s log o (refusals.NothingChanged rev) leads = leads

plan-leads-as : (s : State) (log : List Op) (o : Order) (fault : PlanFault) → LeadsOn s log [] None → LeadsAs s log o (outcome_of_plan fault)
plan-leads-as s log o (plans.Refused e) leads = refusal-leads-as s log o e leads
plan-leads-as s log o (plans.Limit which) leads = leads
plan-leads-as s log o (plans.NameClash other) leads = leads
plan-leads-as s log o (plans.InTheWay path) leads = leads
plan-leads-as s log o (plans.Collision path rev) leads = leads
plan-leads-as s log o plans.Memory leads = leads

read-leads-as : (s : State) (log : List Op) (o : Order) (e : ReadAnswer) → LeadsOn s log [] None → LeadsAs s log o (outcome_of_read e)
read-leads-as s log o (reads.Damaged damage) leads = leads
read-leads-as s log o reads.Fault leads = leads
read-leads-as s log o (reads.Limit which) leads = leads
read-leads-as s log o reads.UnknownPath leads = leads
read-leads-as s log o reads.NotARepository leads = leads
read-leads-as s log o (reads.Requirement word) leads = leads
read-leads-as s log o reads.Memory leads = leads

commit-leads-as : (s : State) (log : List Op) (o : Order) (fault : CommitFault) → LeadsOn s log [] None → LeadsAs s log o (outcome_of_commit fault)
commit-leads-as s log o (commits.Unread e) leads = read-leads-as s log o e leads
commit-leads-as s log o (commits.Refused fault) leads = plan-leads-as s log o fault leads

lock-leads-as : (s : State) (log : List Op) (o : Order) (why : LockRefusal) → LeadsOn s log [] None → LeadsAs s log o (outcome_of_lock why)
lock-leads-as s log o (locked.Held holder) leads = leads
lock-leads-as s log o locked.Abandoned leads = leads
lock-leads-as s log o locked.Fault leads = leads
lock-leads-as s log o locked.Memory leads = leads

refused-leads : (s : State) (rested : IsAtRest None s) (o : Order) (who : List ℕ) (command : Command) (answer : Told) (done : List Op) → IsRefused who command s.files answer done → LeadsAs s done o answer.outcome
refused-leads s rested o who command answer done (has_no_locks why turned outcome) =
    subst (LeadsAs s done o) (sym outcome) (lock-leads-as s done o why (from-rest s None rested.0 done [] None rested.1 (turned-away s.files s.first s.published None rested.0 who why answer.swept done turned)))
refused-leads s rested o who command answer done (begun.has_no_plan fault locking releasing locks plan removed outcome whole) =
    let leads = from-rest s None rested.0 (locking ++ releasing) [] None rested.1 (released s.files s.first s.published None rested.0 who answer.swept locking releasing locks removed) in
    subst (LeadsAs s done o) (sym outcome) (commit-leads-as s done o fault (subst (λ l. LeadsOn s l [] None) (sym whole) leads))

-- ---- the whole

module _ (laws : Below) (listed : AreListed) (s : State) (rested : IsAtRest None s) (stands : Stands s.files (current s)) where
  carried-leads : (command : Command) (who : List ℕ) (answer : Told) (planned : Planned) (locking carrying : List Op) → IsValid command → ListsPaths s.files (current s) → AreLocked who s.files locking → IsPlannedFor command (after_all locking s.files) planned
      → IsCarriedOut (after_all locking s.files) planned answer carrying → LeadsAs s (locking ++ carrying) (record { who = who; command = command; changeset = Some (planned.rev, planned.node) }) answer.outcome
  carried-leads command who answer planned locking carrying valid lists locks plan c =
      let u = after_all locking s.files in
      let r = current s in
      let o : Order = record { who = who; command = command; changeset = Some (planned.rev, planned.node) } in
      let made = planned-step laws u r plan.loaded (laws.stands s.files r who locking locks stands) plan.is_loaded command plan.step valid plan.bytes (lists-under-locks laws s.files who locking locks r lists) plan.comes in
      let next = made.next in
      let x : Turn = turn_of s.files r command who next.0 next.1 in
      let is : IsTurnOf o x = record { who = refl; command = refl; told = (plan.rev ∙ made.as_step.rev, ap (λ n. n.0) plan.node ∙ made.as_step.node) } in
      let came = transaction-comes listed s.files s.first s.published rested.0 next.0 command who next.1 plan.step.parts planned.plan c.ended answer.swept locking carrying valid made.accepted
      (laws.ready s.files r next.0 command who locking locks made.ready) (laws.parts s.files r next.0 command who plan.step.parts locking locks made.as_step.parts) plan.plan locks c.carried in
      subst (LeadsAs s (locking ++ carrying) o) (sym c.outcome) (by-answer s rested o x is (locking ++ carrying) c.ended planned.rev planned.node came)

  pub written : (command : Command) (who : List ℕ) (answer : Told) (changeset : Option (ℕ × Node)) (done : List Op) → IsValid command → ListsPaths s.files (current s) → IsWrittenFor who command s.files answer changeset done
      → LeadsAs s done (record { who = who; command = command; changeset = changeset }) answer.outcome
  written command who answer _ _ valid lists (has_no_plan done refused) = refused-leads s rested (record { who = who; command = command; changeset = None }) who command answer done refused
  written command who answer _ _ valid lists (has_plan planned locking carrying done locks plan c whole) =
      subst (λ l. LeadsAs s l (record { who = who; command = command; changeset = Some (planned.rev, planned.node) }) answer.outcome) (sym whole) (carried-leads command who answer planned locking carrying valid lists locks plan c)

-- ---- beside a journal

-- the lock is refused
lock-barred : (why : LockRefusal) → IsBarred (outcome_of_lock why)
lock-barred (locked.Held holder) = tt
lock-barred locked.Abandoned = tt
lock-barred locked.Fault = tt
lock-barred locked.Memory = tt

module _ (no_journal : (who : List ℕ) (t : Tree) (locking : List Op) → AreLocked who t locking → t journal_path ≡ None) (s : State) (left : Option (List Op)) (rested : IsAtRest left s) (journal : s.files journal_path ≡ None → ⊥) where
  pub barred : (command : Command) (who : List ℕ) (answer : Told) (changeset : Option (ℕ × Node)) (done : List Op) → IsWrittenFor who command s.files answer changeset done → IsBarred answer.outcome × LeadsOn s done [] left
  barred command who answer _ _ (has_no_plan done (has_no_locks why turned outcome)) =
      (subst IsBarred (sym outcome) (lock-barred why), from-rest s left rested.0 done [] left rested.1 (turned-away s.files s.first s.published left rested.0 who why answer.swept done turned))
  barred command who answer _ _ (has_no_plan done (begun.has_no_plan fault locking releasing locks plan removed outcome whole)) = absurd (journal (no_journal who s.files locking locks))
  barred command who answer _ _ (has_plan planned locking carrying done locks plan c whole) = absurd (journal (no_journal who s.files locking locks))
