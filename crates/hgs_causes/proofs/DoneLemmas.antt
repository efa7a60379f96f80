-- Nothing else keeps an accepted command from being done.
use Rattle.std.proofs.Common.{◌≡◌, ℕ, zero, suc, ◌+◌, ◌≤◌, List, Bool, true, false, inl, inr, refl, sym, ◌∙◌, ap, subst, arith}
use Rattle.std.specs.Prelude.{Option, Result, Ok, Err}
use Rattle.hgs_answers.specs.declared.answer.Answer.{Answer}
use Rattle.hgs_answers.specs.declared.outcome.Outcome.{Outcome}
use Rattle.hgs_answers.specs.declared.outcome.Outcome.TheVariants.{Abandoned, Collision, CopyOver, Damaged, Done, Fault, InTheWay, Limit, LockHeld, Memory, NameClash, NeedsForce, NothingChanged, Unfinished, UnknownPath, UnknownRevision, Unsettled}
use Rattle.hgs_answers.specs.declared.outcome.Published.{Published}
use Rattle.hgs_answers.specs.declared.outcome.Published.TheVariants.{No, Yes, Unknown}
use Rattle.hgs_files.specs.declared.op.Op.{Op}
use Rattle.hgs_files.specs.Reads.{Rose, counted}
use Rattle.hgs_files.specs.Tree.{Tree, after_all}
use Rattle.hgs_index.specs.declared.kinds.Which.{Which}
use Rattle.hgs_index.specs.declared.node.Node.{Node}
use Rattle.hgs_legal.specs.ListsPaths.{ListsPaths}
use Rattle.hgs_machine.specs.Refusals.{WereRefused, refusals_of_left}
use Rattle.hgs_model.specs.Repo.{Repo}
use Rattle.hgs_model.specs.Step.{Next, step}
use Rattle.hgs_model.specs.Valid.{IsNewChange, IsValid}
use Rattle.hgs_model.specs.declared.command.Command.{Command}
use Rattle.hgs_model.specs.declared.command.Command.TheVariants.{Commit, Import, Mark, Move, Unmark}
use Rattle.hgs_model.specs.declared.command.NewChange.{NewChange}
use Rattle.hgs_model.specs.declared.command.Refusal.{Refusal}
use Rattle.hgs_stands.specs.Stands.{IsClean, Stands, has_inline_log}
use Rattle.hgs_steps.specs.Planned.{passes_limit}
use Rattle.hgs_writer.specs.Alone.{IsCommitWithoutRoom, IsOutcomeOf, IsPassed, PassesLimit, ReadsWithin}
use Rattle.hgs_writer.specs.Limits.{LoadsWithin}
use Rattle.hgs_writer.specs.Made.{HasNoLocks}
use Rattle.hgs_writer.specs.Refusals.{refusals_of, refusals_of_outcome}
use Rattle.hgs_writer.specs.Written.{IsWritten}
use Rattle.hgs_causes.specs.Clashes.{IsClashOf}
use Rattle.hgs_causes.specs.Done.{CanBeDone, CanBeWritten, EndsAs, EndsWell, IsImport, IsWellDone}

-- What is taken of the laws.
pub record Taken : Type 0 where
  pub clash : (t : Tree) (r : Repo) (n : NewChange) (who : List ℕ) (answer : Answer) (done : List Op) (other : List ℕ) → Stands t r → IsNewChange n → IsWritten who (Commit n) t answer done → answer.outcome ≡ NameClash other → IsClashOf t n other
  pub comes : (t : Tree) (r : Repo) (command : Command) (who : List ℕ) (answer : Answer) (done : List Op) → Stands t r → LoadsWithin t r → ReadsWithin t r command → IsWritten who command t answer done → IsOutcomeOf t r command (step r command) answer.outcome
  pub held : (t : Tree) (command : Command) (who : List ℕ) (answer : Answer) (done : List Op) (holder : Option (List ℕ)) → HasNoLocks t → IsWritten who command t answer done → answer.outcome ≡ LockHeld holder → ⊥
  pub leads : (t : Tree) (r : Repo) (command : Command) (who : List ℕ) (answer : Answer) (done : List Op) (rev : ℕ) (node : Node) → IsClean t r → IsValid command → ListsPaths t r → IsWritten who command t answer done → answer.outcome ≡ Done rev node → (next : Next) × (step r command ≡ Ok next) × (rev ≡ next.1.rev) × (node.0 ≡ next.1.node) × Stands (after_all done t) next.0 × ListsPaths (after_all done t) next.0 × (answer.swept ≡ true → IsClean (after_all done t) next.0)

-- ---- what keeps a command from being done

same-next : (a b : Next) → (let r : Result Next Refusal = Ok a in r) ≡ Ok b → a ≡ b
same-next a b e = cc

not-both : (b : Bool) → b ≡ true → b ≡ false → ⊥
not-both b t f = let no : true ≡ false = sym t ∙ f in cc no

-- another command that passes no limit
none-passed : (t : Tree) (r : Repo) (which : Which) (next : Next) → passes_limit r next.0 ≡ false → has_inline_log t ≡ false → IsPassed t r which (Ok next) → ⊥
none-passed t r which next few separate (inl h) = not-both (passes_limit r next.0) (subst (λ (x : Next). passes_limit r x.0 ≡ true) (sym (same-next next h.1.0 h.1.1)) h.1.2) few
none-passed t r which next few separate (inr h) = not-both (has_inline_log t) h.2 separate

limit-none : (t : Tree) (r : Repo) (command : Command) (which : Which) (next : Next) → CanBeWritten t r command next.0 → PassesLimit t r command which (Ok next) → ⊥
limit-none t r (Commit n) which next can passed = passed can.0
limit-none t r (Import changes) which next can passed = can passed
limit-none t r (Move rev phase force) which next can passed = none-passed t r which next can.0 can.1 passed
limit-none t r (Mark name rev) which next can passed = none-passed t r which next can.0 can.1 passed
limit-none t r (Unmark name) which next can passed = none-passed t r which next can.0 can.1 passed

room-none : (t : Tree) (r : Repo) (command : Command) (next : Next) → CanBeWritten t r command next.0 → IsCommitWithoutRoom t r command (Ok next) → ⊥
room-none t r (Commit n) next can lacks = lacks can.0
room-none t r (Import changes) next can lacks = can lacks
room-none t r (Move rev phase force) next can lacks = lacks
room-none t r (Mark name rev) next can lacks = lacks
room-none t r (Unmark name) next can lacks = lacks

not-refused : {A : Type 0} (next : Next) (e : Refusal) → (let r : Result Next Refusal = Ok next in r) ≡ Err e → A
not-refused next e h = cc

module _ (taken : Taken) (t : Tree) (r : Repo) (next : Next) (who : List ℕ) (answer : Answer) (done : List Op) where
  clash-is : (command : Command) (other : List ℕ) → CanBeDone t r command next → IsWritten who command t answer done → answer.outcome ≡ NameClash other → IsOutcomeOf t r command (Ok next) (NameClash other) → IsImport command
  clash-is (Commit n) other can written is comes = absurd (can.written.1 other (taken.clash t r n who answer done other can.clean.stands can.valid written is))
  clash-is (Import changes) other can written is comes = tt
  clash-is (Move rev phase force) other can written is comes = absurd comes
  clash-is (Mark name rev) other can written is comes = absurd comes
  clash-is (Unmark name) other can written is comes = absurd comes

  outcome-ends : (command : Command) (o : Outcome) → CanBeDone t r command next → IsWritten who command t answer done → answer.outcome ≡ o → IsOutcomeOf t r command (Ok next) o → EndsAs command o
  outcome-ends command (Done rev node) can written is comes = tt
  outcome-ends command Fault can written is comes = tt
  outcome-ends command Memory can written is comes = tt
  outcome-ends command (Unfinished published) can written is comes = tt
  outcome-ends command (LockHeld holder) can written is comes = absurd (taken.held t command who answer done holder can.clean.no_locks written is)
  outcome-ends command (Limit which) can written is comes = absurd (limit-none t r command which next can.written comes)
  outcome-ends command (NameClash other) can written is comes = clash-is command other can written is comes
  outcome-ends command (InTheWay path) can written is comes = absurd (room-none t r command next can.written comes)
  outcome-ends command (Collision path rev) can written is comes = absurd (room-none t r command next can.written comes)
  outcome-ends command UnknownRevision can written is comes = not-refused next _ comes
  outcome-ends command UnknownPath can written is comes = not-refused next _ comes
  outcome-ends command (CopyOver path) can written is comes = not-refused next _ comes
  outcome-ends command (NeedsForce rev) can written is comes = not-refused next _ comes
  outcome-ends command (NothingChanged rev) can written is comes = not-refused next _ comes
  outcome-ends command Abandoned can written is comes = absurd comes
  outcome-ends command (Damaged d) can written is comes = absurd comes
  outcome-ends command (Unsettled rev node) can written is comes = absurd comes

pub ends-as : Taken → (t : Tree) (r : Repo) (command : Command) (next : Next) (who : List ℕ) (answer : Answer) (done : List Op) → CanBeDone t r command next → IsWritten who command t answer done → EndsAs command answer.outcome
ends-as taken t r command next who answer done can written =
    outcome-ends taken t r next who answer done command answer.outcome can written refl (subst (λ s. IsOutcomeOf t r command s answer.outcome) can.accepted (taken.comes t r command who answer done can.clean.stands can.loads can.reads written))

-- ---- where no count rose

none-counted : (old new more : ℕ) → counted old more ≤ new → (Rose old new → ⊥) → more ≡ 0
none-counted old new zero le same = refl
none-counted old new (suc more) le same =
    let first : counted old 1 ≤ counted old (suc more) = omega (arith) in
    absurd (same (omega (arith, first, le)))

none-refused : (calls f g d e : ℕ) → WereRefused calls f g d e → (Rose f g → ⊥) → (Rose d e → ⊥) → calls ≡ 0
none-refused calls f g d e were no_fault no_want =
    let a = none-counted f g were.failed were.faults no_fault in
    let b = none-counted d e were.wanting were.denied no_want in
    let all = were.all in
    omega (arith, a, b, all)

left-none : (swept : Bool) → refusals_of_left swept ≡ 0 → swept ≡ true
left-none true e = refl
left-none false e = let no : ⊥ = omega (arith, e) in absurd no

unfinished-some : (told : Bool) (published : Published) (n : ℕ) → refusals_of_outcome told (Unfinished published) + n ≡ 0 → ⊥
unfinished-some told No n e = omega (arith, e)
unfinished-some told Yes n e = omega (arith, e)
unfinished-some told Unknown n e = omega (arith, e)

module _ (taken : Taken) (t : Tree) (r : Repo) (command : Command) (next : Next) (who : List ℕ) (answer : Answer) (done : List Op) (told : Bool) (can : CanBeDone t r command next) (written : IsWritten who command t answer done) where
  well-done : (rev : ℕ) (node : Node) → answer.outcome ≡ Done rev node → answer.swept ≡ true → IsWellDone t next answer done
  well-done rev node is swept =
      let led = taken.leads t r command who answer done rev node can.clean can.valid can.lists written is in
      let same : led.0 ≡ next = same-next led.0 next (sym led.1 ∙ can.accepted) in (
        rev,
        node,
        is,
        led.2 ∙ ap (λ (x : Next). x.1.rev) same,
        led.3 ∙ ap (λ (x : Next). x.1.node) same,
        swept,
        subst (λ (x : Next). IsClean (after_all done t) x.0) same (led.6 swept),
      )

  by-outcome : (o : Outcome) → answer.outcome ≡ o → EndsAs command o → refusals_of_outcome told o + refusals_of_left answer.swept ≡ 0 → EndsWell t command next answer done
  by-outcome (Done rev node) is ends none = let e : refusals_of_left answer.swept ≡ 0 = omega (arith, none) in inl (well-done rev node is (left-none answer.swept e))
  by-outcome Memory is ends none = inr (inl is)
  by-outcome Fault is ends none = let no : ⊥ = omega (arith, none) in absurd no
  by-outcome (Unfinished published) is ends none = absurd (unfinished-some told published (refusals_of_left answer.swept) none)
  by-outcome (NameClash other) is ends none = inr (inr (ends, (other, is)))
  by-outcome _ is ends none = absurd ends

pub ends-well : Taken → (t : Tree) (r : Repo) (command : Command) (next : Next) (who : List ℕ) (answer : Answer) (done : List Op) (told : Bool) (f g d e : ℕ) → CanBeDone t r command next → IsWritten who command t answer done → WereRefused (refusals_of told answer) f g d e → (Rose f g → ⊥) → (Rose d e → ⊥) → EndsWell t command next answer done
ends-well taken t r command next who answer done told f g d e can written were no_fault no_want =
    by-outcome taken t r command next who answer done told can written answer.outcome refl (ends-as taken t r command next who answer done can written) (none-refused (refusals_of told answer) f g d e were no_fault no_want)
