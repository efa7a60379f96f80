-- What a command comes to over files that stand for a repository, within the limits.
use Rattle.std.proofs.Common.{◌≡◌, ℕ, List, [], ◌∷◌, Bool, false, inl, inr, refl, sym, subst}
use Rattle.std.specs.Prelude.{IsOk, Option, Result, Ok, Err, ⊤}
use Rattle.std.specs.Bool.{MatchBool}
use Rattle.hgs_answers.specs.declared.answer.Answer.{Answer}
use Rattle.hgs_commit.specs.Commit.{Steps}
use Rattle.hgs_commit.specs.declared.fault.CommitFault.{CommitFault}
use Rattle.hgs_commit.specs.declared.fault.CommitFault.TheVariants as commits
use Rattle.hgs_files.specs.declared.op.Op.{Op}
use Rattle.hgs_files.specs.Tree.{Tree, after_all}
use Rattle.hgs_index.specs.declared.kinds.Which.{Which}
use Rattle.hgs_index.specs.declared.kinds.Which.TheVariants.{Bookmarks, Inline}
use Rattle.hgs_index.specs.declared.node.Node.{Node}
use Rattle.hgs_loading.specs.Store.{Loaded as Read, loaded_in}
use Rattle.hgs_machine.specs.Locks.{IsTurnedAway}
use Rattle.hgs_ops.specs.Laid.{laid}
use Rattle.hgs_machine.specs.declared.ended.Short.{Short}
use Rattle.hgs_machine.specs.declared.ended.Short.TheVariants as shorts
use Rattle.hgs_machine.specs.declared.locks.LockRefusal.{LockRefusal}
use Rattle.hgs_machine.specs.declared.locks.LockRefusal.TheVariants as locked
use Rattle.hgs_model.specs.Repo.{Repo}
use Rattle.hgs_model.specs.Step.{Next, step}
use Rattle.hgs_model.specs.Valid.{IsNewChange}
use Rattle.hgs_model.specs.declared.command.Command.{Command}
use Rattle.hgs_model.specs.declared.command.Command.TheVariants.{Commit, Import, Mark, Move, Unmark}
use Rattle.hgs_model.specs.declared.command.NewChange.{NewChange}
use Rattle.hgs_model.specs.declared.command.Refusal.{Refusal}
use Rattle.hgs_model.specs.declared.command.Refusal.TheVariants as refusals
use Rattle.hgs_load.specs.declared.answer.ReadAnswer.{ReadAnswer}
use Rattle.hgs_load.specs.declared.answer.ReadAnswer.TheVariants as reads
use Rattle.hgs_load.specs.Answer.{is_of_outside}
use Rattle.hgs_stands.specs.Stands.{Stands, has_inline_log}
use Rattle.hgs_steps.specs.Fault.{is_memory}
use Rattle.hgs_writer.specs.Commits.{AnswersWith}
use Rattle.hgs_steps.specs.Planned.{AnswersAs, IsLoadedOf, passes_limit}
use Rattle.hgs_steps.specs.Steps.{mark_of, move_of, planned, unmark_of}
use Rattle.hgs_steps.specs.declared.loaded.Loaded.{Loaded}
use Rattle.hgs_steps.specs.declared.fault.PlanFault.{PlanFault}
use Rattle.hgs_steps.specs.declared.fault.PlanFault.TheVariants as plans
use Rattle.hgs_steps.specs.declared.step.Step.{Step}
use Rattle.hgs_writer.specs.Alone.{IsOutcomeOf, IsPassed, LacksRoom, PassesLimit, ReadsWithin, SomeLacksRoom}
use Rattle.hgs_writer.specs.Below.{Below}
use Rattle.hgs_writer.specs.BytePaths.{NamesBytes}
use Rattle.hgs_writer.specs.Commits.{Hinders}
use Rattle.hgs_writer.specs.Free.{IsFree}
use Rattle.hgs_writer.specs.Imports.{AreReadWithin, ComesToNothing, IsKeptBy, SomeRecord}
use Rattle.hgs_writer.specs.Records.{ImportComesTo}
use Rattle.hgs_writer.specs.Limits.{LoadsWithin}
use Rattle.hgs_writer.specs.Outcomes.{outcome_of_commit, outcome_of_ended, outcome_of_lock, outcome_of_plan, outcome_of_read}
use Rattle.hgs_writer.specs.Planning.{ComesTo, IsNotPlannedFor, has_no_memory, is_refused, is_unread}
use Rattle.hgs_writer.specs.Written.{IsWritten, is_carried_out, is_not_planned, is_turned_away}
use Rattle.hgs_writer.proofs.AloneLemmas.{planned-step}
use Rattle.hgs_writer.proofs.CommitLemmas.{IsFit, IsTold, commit-fault, commit-read, import-fault, loads-under-locks, outcome-before, reads-fit, reads-under-locks}

-- ---- refusals

refusal-outcome : (t : Tree) (r : Repo) (command : Command) (e : Refusal) → IsOutcomeOf t r command (Err e) (outcome_of_plan (plans.Refused e))
refusal-outcome t r command refusals.UnknownRevision = refl
refusal-outcome t r command refusals.UnknownPath = refl
refusal-outcome t r command (refusals.CopyOver path) = refl
refusal-outcome t r command (refusals.NeedsForce rev) = refl
refusal-outcome t r command (refusals.NothingChanged rev) = refl

-- a command that passes a limit
abbrev MayPass : Tree → Repo → Command → Type 0
MayPass t r command = (which : Which) (next : Next) → IsPassed t r which (Ok next) → PassesLimit t r command which (Ok next)

fault-outcome : (u : Tree) (r : Repo) (command : Command) (fault : PlanFault) (stepped : Result Next Refusal) → MayPass u r command → AnswersAs u r command (Err fault) stepped → IsOutcomeOf u r command stepped (outcome_of_plan fault)
fault-outcome u r command fault (Err e) passes is = subst (λ f. IsOutcomeOf u r command (Err e) (outcome_of_plan f)) (sym is) (refusal-outcome u r command e)
fault-outcome u r command fault (Ok next) passes (inl is) = subst (λ f. IsOutcomeOf u r command (Ok next) (outcome_of_plan f)) (sym is.0) (passes Bookmarks next (inl (refl, (next, refl, is.1))))
fault-outcome u r command fault (Ok next) passes (inr is) = subst (λ f. IsOutcomeOf u r command (Ok next) (outcome_of_plan f)) (sym is.0) (passes Inline next (inr (refl, (next, refl, is.1), is.2)))

given-outcome : (u : Tree) (r : Repo) (command : Command) (fault : PlanFault) (stepped : Result Next Refusal) (a : Result Step PlanFault) → MayPass u r command → MatchBool (is_memory fault) ⊤ (a ≡ Err fault) → AnswersAs u r command a stepped → IsOutcomeOf u r command stepped (outcome_of_plan fault)
given-outcome u r command plans.Memory stepped a passes m is = tt
given-outcome u r command (plans.Refused e) stepped a passes m is = fault-outcome u r command (plans.Refused e) stepped passes (subst (λ x. AnswersAs u r command x stepped) m is)
given-outcome u r command (plans.Limit w) stepped a passes m is = fault-outcome u r command (plans.Limit w) stepped passes (subst (λ x. AnswersAs u r command x stepped) m is)
given-outcome u r command (plans.NameClash p) stepped a passes m is = fault-outcome u r command (plans.NameClash p) stepped passes (subst (λ x. AnswersAs u r command x stepped) m is)
given-outcome u r command (plans.InTheWay p) stepped a passes m is = fault-outcome u r command (plans.InTheWay p) stepped passes (subst (λ x. AnswersAs u r command x stepped) m is)
given-outcome u r command (plans.Collision p rev) stepped a passes m is = fault-outcome u r command (plans.Collision p rev) stepped passes (subst (λ x. AnswersAs u r command x stepped) m is)

-- a commit that is accepted and has met what keeps it from being written
hindered-outcome : (IsTold : Type 0) (u : Tree) (r : Repo) (n : NewChange) (clash : Option (List ℕ)) (fault : PlanFault) (stepped : Result Next Refusal) → AnswersWith IsTold u r n clash (Err (commits.Refused fault)) stepped → IsOutcomeOf u r (Commit n) stepped (outcome_of_plan fault)
hindered-outcome IsTold u r n clash fault (Err e) is = subst (λ f. IsOutcomeOf u r (Commit n) (Err e) (outcome_of_plan f)) (sym is) (refusal-outcome u r (Commit n) e)
hindered-outcome IsTold u r n clash (plans.Refused e) (Ok next) is = absurd is
hindered-outcome IsTold u r n clash (plans.Limit w) (Ok next) is = is
hindered-outcome IsTold u r n clash (plans.NameClash p) (Ok next) is = refl
hindered-outcome IsTold u r n clash (plans.InTheWay p) (Ok next) is = is
hindered-outcome IsTold u r n clash (plans.Collision p rev) (Ok next) is = is
hindered-outcome IsTold u r n clash plans.Memory (Ok next) is = absurd is

-- ---- records

-- a record that is accepted has met what keeps it from being written
kept-lacks : (u : Tree) (r : Repo) (n : NewChange) (fault : PlanFault) (stepped : Result Next Refusal) → ((e : Refusal) → fault ≡ plans.Refused e → ⊥) → ((HasRoom : Type 0) (clash : Option (List ℕ)) → Hinders HasRoom clash fault → HasRoom → ⊥) → IsKeptBy u r n fault stepped → LacksRoom u r stepped
kept-lacks u r n fault (Err e) other hinders kept = absurd (other e kept)
kept-lacks u r n fault (Ok next) other hinders kept = hinders (IsFree u r next.0) kept.clash kept.hinders

kept-accepted : (u : Tree) (r : Repo) (n : NewChange) (fault : PlanFault) (stepped : Result Next Refusal) → ((e : Refusal) → fault ≡ plans.Refused e → ⊥) → IsKeptBy u r n fault stepped → IsOk stepped
kept-accepted u r n fault (Err e) other kept = absurd (other e kept)
kept-accepted u r n fault (Ok next) other kept = refl

some-map : (P Q : Tree → Repo → NewChange → Type 0) → ((u : Tree) (r : Repo) (n : NewChange) → P u r n → Q u r n) → (u : Tree) (r : Repo) (changes : List NewChange) → SomeRecord P u r changes → SomeRecord Q u r changes
some-map P Q each u r [] some = absurd some
some-map P Q each u r (n ∷ changes) (inl is) = inl (each u r n is)
some-map P Q each u r (n ∷ changes) (inr (next, e, some)) = inr (next, e, some-map P Q each (after_all (laid u r n next.0) u) next.0 changes some)

some-lacks : (u : Tree) (r : Repo) (changes : List NewChange) (fault : PlanFault) → ((e : Refusal) → fault ≡ plans.Refused e → ⊥) → ((HasRoom : Type 0) (clash : Option (List ℕ)) → Hinders HasRoom clash fault → HasRoom → ⊥) → SomeRecord (ComesToNothing (commits.Refused fault)) u r changes → SomeLacksRoom u r changes
some-lacks u r changes fault other hinders some = some-map (ComesToNothing (commits.Refused fault)) (λ v now n. LacksRoom v now (step now (Commit n))) (λ v now n kept. kept-lacks v now n fault (step now (Commit n)) other hinders kept) u r changes some

-- the records of which all is read within the limits are read
none-unread : {A : Type 0} (u : Tree) (r : Repo) (changes : List NewChange) (e : ReadAnswer) → AreReadWithin u r changes → SomeRecord (ComesToNothing (commits.Unread e)) u r changes → A
none-unread u r [] e within some = absurd some
none-unread u r (n ∷ changes) e within (inl (inl limit)) = absurd (limit.1 within.1)
none-unread u r (n ∷ changes) e within (inl (inr unloaded)) = absurd (unloaded.1 within.0)
none-unread u r (n ∷ changes) e within (inr (next, is, some)) = none-unread (after_all (laid u r n next.0) u) next.0 changes e (within.2 next is) some

-- what is read is not refused
not-refused : {A : Type 0} (t : Tree) (read : Read) (e : ReadAnswer) → loaded_in t ≡ Ok read → loaded_in t ≡ Err e → A
not-refused t read e is refused = cc

read-outcome : (r : Repo) (command : Command) (t : Tree) (read : Read) (stepped : Result Next Refusal) (e : ReadAnswer) → loaded_in t ≡ Ok read → MatchBool (is_of_outside e) ⊤ (loaded_in t ≡ Err e) → IsOutcomeOf t r command stepped (outcome_of_read e)
read-outcome r command t read stepped (reads.Damaged d) is m = not-refused t read (reads.Damaged d) is m
read-outcome r command t read stepped reads.Fault is m = tt
read-outcome r command t read stepped (reads.Limit w) is m = not-refused t read (reads.Limit w) is m
read-outcome r command t read stepped reads.UnknownPath is m = tt
read-outcome r command t read stepped reads.NotARepository is m = tt
read-outcome r command t read stepped (reads.Requirement w) is m = tt
read-outcome r command t read stepped reads.Memory is m = tt

ended-outcome : (t : Tree) (r : Repo) (command : Command) (next : Next) (few : passes_limit r next.0 ≡ false) (separate : has_inline_log t ≡ false) (rev : ℕ) (node : Node) (ended : Short) → IsOutcomeOf t r command (Ok next) (outcome_of_ended ended rev node)
ended-outcome t r command next few separate rev node shorts.Done = ((next, refl, few), separate)
ended-outcome t r command next few separate rev node shorts.Fault = tt
ended-outcome t r command next few separate rev node (shorts.Unfinished published) = ((next, refl, few), separate)
ended-outcome t r command next few separate rev node shorts.Memory = tt

module _ (laws : Below) (reads_of : (t : Tree) (r : Repo) → Stands t r → LoadsWithin t r → (read : Read) × (loaded_in t ≡ Ok read)) where
  lock-outcome : (t : Tree) (r : Repo) (command : Command) (who : List ℕ) (why : LockRefusal) (swept : Bool) (log : List Op) (stepped : Result Next Refusal) → Stands t r → IsTurnedAway who t why swept log → IsOutcomeOf t r command stepped (outcome_of_lock why)
  lock-outcome t r command who (locked.Held holder) swept log stepped s turned = tt
  lock-outcome t r command who locked.Abandoned swept log stepped s turned = absurd (laws.abandoned t who swept log s.no_journal turned)
  lock-outcome t r command who locked.Fault swept log stepped s turned = tt
  lock-outcome t r command who locked.Memory swept log stepped s turned = tt

  commit-outcome : (u : Tree) (r : Repo) (l : Loaded) (n : NewChange) (fault : PlanFault) → is_memory fault ≡ false → IsNewChange n → Stands u r → IsLoadedOf u l → Steps l n u (Err (commits.Refused fault)) → IsOutcomeOf u r (Commit n) (step r (Commit n)) (outcome_of_plan fault)
  commit-outcome u r l n fault known fit s is comes =
      let a = commit-fault laws u r l n s is fit fault known comes in
      hindered-outcome (IsTold laws u r l n s is fit a.0) u r n a.0 fault (step r (Commit n)) a.1

  -- what is read for a commit is not refused within the limits
  unread-outcome : (u : Tree) (r : Repo) (l : Loaded) (n : NewChange) (e : ReadAnswer) → ReadsWithin u r (Commit n) → Stands u r → IsLoadedOf u l → Steps l n u (Err (commits.Unread e)) → IsOutcomeOf u r (Commit n) (step r (Commit n)) (outcome_of_read e)
  unread-outcome u r l n (reads.Damaged d) within s is comes = commit-read laws u r l n s is within.0 (reads.Damaged d) refl within.1 comes
  unread-outcome u r l n reads.Fault within s is comes = tt
  unread-outcome u r l n (reads.Limit w) within s is comes = commit-read laws u r l n s is within.0 (reads.Limit w) refl within.1 comes
  unread-outcome u r l n reads.UnknownPath within s is comes = tt
  unread-outcome u r l n reads.NotARepository within s is comes = tt
  unread-outcome u r l n (reads.Requirement w) within s is comes = tt
  unread-outcome u r l n reads.Memory within s is comes = tt

  import-outcome : (u : Tree) (r : Repo) (l : Loaded) (changes : List NewChange) (fault : PlanFault) → IsFit u r (Import changes) → Stands u r → IsLoadedOf u l → ImportComesTo u l changes (Err (commits.Refused fault)) → IsOutcomeOf u r (Import changes) (step r (Import changes)) (outcome_of_plan fault)
  import-outcome u r l changes plans.Memory fit s is comes = tt
  import-outcome u r l changes (plans.Refused e) fit s is comes =
      let refused = laws.refused u r changes e (import-fault laws u r l changes s is fit (commits.Refused (plans.Refused e)) refl comes) in
      subst (λ stepped. IsOutcomeOf u r (Import changes) stepped (outcome_of_plan (plans.Refused e))) (sym refused) (refusal-outcome u r (Import changes) e)
  import-outcome u r l changes (plans.Limit w) fit s is comes = some-lacks u r changes (plans.Limit w) (λ e k. cc) (λ HasRoom clash hinders. hinders) (import-fault laws u r l changes s is fit (commits.Refused (plans.Limit w)) refl comes)
  import-outcome u r l changes (plans.NameClash p) fit s is comes =
      some-map (ComesToNothing (commits.Refused (plans.NameClash p))) (λ v now n. IsOk (step now (Commit n))) (λ v now n kept. kept-accepted v now n (plans.NameClash p) (step now (Commit n)) (λ e k. cc) kept) u r changes (import-fault laws u r l changes s is fit (commits.Refused (plans.NameClash p)) refl comes)
  import-outcome u r l changes (plans.InTheWay p) fit s is comes = some-lacks u r changes (plans.InTheWay p) (λ e k. cc) (λ HasRoom clash hinders. hinders) (import-fault laws u r l changes s is fit (commits.Refused (plans.InTheWay p)) refl comes)
  import-outcome u r l changes (plans.Collision p rev) fit s is comes = some-lacks u r changes (plans.Collision p rev) (λ e k. cc) (λ HasRoom clash hinders. hinders) (import-fault laws u r l changes s is fit (commits.Refused (plans.Collision p rev)) refl comes)

  -- nor is what is read for an import
  unread-import : (u : Tree) (r : Repo) (l : Loaded) (changes : List NewChange) (e : ReadAnswer) → ReadsWithin u r (Import changes) → NamesBytes (Import changes) → Stands u r → IsLoadedOf u l → ImportComesTo u l changes (Err (commits.Unread e)) → IsOutcomeOf u r (Import changes) (step r (Import changes)) (outcome_of_read e)
  unread-import u r l changes (reads.Damaged d) within bytes s is comes = none-unread u r changes (reads.Damaged d) within.2 (import-fault laws u r l changes s is (reads-fit u r (Import changes) within bytes) (commits.Unread (reads.Damaged d)) refl comes)
  unread-import u r l changes reads.Fault within bytes s is comes = tt
  unread-import u r l changes (reads.Limit w) within bytes s is comes = none-unread u r changes (reads.Limit w) within.2 (import-fault laws u r l changes s is (reads-fit u r (Import changes) within bytes) (commits.Unread (reads.Limit w)) refl comes)
  unread-import u r l changes reads.UnknownPath within bytes s is comes = tt
  unread-import u r l changes reads.NotARepository within bytes s is comes = tt
  unread-import u r l changes (reads.Requirement w) within bytes s is comes = tt
  unread-import u r l changes reads.Memory within bytes s is comes = tt

  refused-outcome : (u : Tree) (r : Repo) (l : Loaded) (command : Command) (fault : PlanFault) → ReadsWithin u r command → NamesBytes command → Stands u r → IsLoadedOf u l → ComesTo u l command (Err (commits.Refused fault)) → IsOutcomeOf u r command (step r command) (outcome_of_plan fault)
  refused-outcome u r l (Commit n) plans.Memory within bytes s is comes = tt
  refused-outcome u r l (Commit n) (plans.Refused e) within bytes s is comes = commit-outcome u r l n (plans.Refused e) refl within.0 s is comes.0
  refused-outcome u r l (Commit n) (plans.Limit w) within bytes s is comes = commit-outcome u r l n (plans.Limit w) refl within.0 s is comes.0
  refused-outcome u r l (Commit n) (plans.NameClash p) within bytes s is comes = commit-outcome u r l n (plans.NameClash p) refl within.0 s is comes.0
  refused-outcome u r l (Commit n) (plans.InTheWay p) within bytes s is comes = commit-outcome u r l n (plans.InTheWay p) refl within.0 s is comes.0
  refused-outcome u r l (Commit n) (plans.Collision p rev) within bytes s is comes = commit-outcome u r l n (plans.Collision p rev) refl within.0 s is comes.0
  refused-outcome u r l (Import changes) fault within bytes s is comes = import-outcome u r l changes fault (reads-fit u r (Import changes) within bytes) s is comes
  refused-outcome u r l (Move name to force) fault within bytes s is comes = given-outcome u r (Move name to force) fault (step r (Move name to force)) (planned l (move_of l name to force)) (λ which next e. e) comes (laws.moved u r l name to force s is)
  refused-outcome u r l (Mark mark name) fault within bytes s is comes = given-outcome u r (Mark mark name) fault (step r (Mark mark name)) (planned l (mark_of l mark name)) (λ which next e. e) comes (laws.marked u r l mark name s is)
  refused-outcome u r l (Unmark mark) fault within bytes s is comes = given-outcome u r (Unmark mark) fault (step r (Unmark mark)) (planned l (unmark_of l mark)) (λ which next e. e) comes (laws.unmarked u r l mark s is)

  -- what a command comes to that is not planned
  fault-comes : (u : Tree) (r : Repo) (l : Loaded) (command : Command) (fault : CommitFault) → ReadsWithin u r command → NamesBytes command → Stands u r → IsLoadedOf u l → ComesTo u l command (Err fault) → IsOutcomeOf u r command (step r command) (outcome_of_commit fault)
  fault-comes u r l command (commits.Refused f) within bytes s is comes = refused-outcome u r l command f within bytes s is comes
  fault-comes u r l (Commit n) (commits.Unread e) within bytes s is comes = unread-outcome u r l n e within s is comes.0
  fault-comes u r l (Import changes) (commits.Unread e) within bytes s is comes = unread-import u r l changes e within bytes s is comes
  fault-comes u r l (Move name to force) (commits.Unread e) within bytes s is comes = absurd comes
  fault-comes u r l (Mark mark name) (commits.Unread e) within bytes s is comes = absurd comes
  fault-comes u r l (Unmark mark) (commits.Unread e) within bytes s is comes = absurd comes

  not-planned-outcome : (u : Tree) (r : Repo) (command : Command) (fault : CommitFault) (read : Read) → ReadsWithin u r command → Stands u r → loaded_in u ≡ Ok read → IsNotPlannedFor command u fault → IsOutcomeOf u r command (step r command) (outcome_of_commit fault)
  not-planned-outcome u r command _ read reads_within s is (is_unread e m) = read-outcome r command u read (step r command) e is m
  not-planned-outcome u r command _ read reads_within s is has_no_memory = tt
  not-planned-outcome u r command _ read reads_within s is (is_refused other l fault was from loaded comes bytes) = fault-comes u r l command fault reads_within bytes s loaded comes

  pub outcome-of : (t : Tree) (r : Repo) (command : Command) (who : List ℕ) (answer : Answer) (done : List Op) → Stands t r → LoadsWithin t r → ReadsWithin t r command → IsWritten who command t answer done → IsOutcomeOf t r command (step r command) answer.outcome
  outcome-of t r command who answer done s within reads_within (is_turned_away why turned outcome) =
      subst (IsOutcomeOf t r command (step r command)) (sym outcome) (lock-outcome t r command who why answer.swept done (step r command) s turned)
  outcome-of t r command who answer done s within reads_within (is_not_planned fault locking releasing locks plan removed outcome whole) =
      let u = after_all locking t in
      let stands = laws.stands t r who locking locks s in
      let read = reads_of u r stands (loads-under-locks laws t who locking locks r within) in
      subst (IsOutcomeOf t r command (step r command)) (sym outcome) (outcome-before laws t who locking locks r command (step r command) (outcome_of_commit fault) (not-planned-outcome u r command fault read.0 (reads-under-locks laws t who locking locks r command reads_within) stands read.1 plan))
  outcome-of t r command who answer done s within reads_within (is_carried_out planned locking carrying locks plan c whole) =
      let made = planned-step laws (after_all locking t) r plan.loaded command plan.step (reads-fit (after_all locking t) r command (reads-under-locks laws t who locking locks r command reads_within) plan.bytes) (laws.stands t r who locking locks s) plan.is_loaded plan.comes in
      subst (IsOutcomeOf t r command (step r command)) (sym c.outcome) (subst (λ x. IsOutcomeOf t r command x (outcome_of_ended c.ended planned.rev planned.node)) (sym made.accepted) (outcome-before laws t who locking locks r command (Ok made.next) (outcome_of_ended c.ended planned.rev planned.node) (ended-outcome (after_all locking t) r command made.next made.as_step.few made.as_step.separate planned.rev planned.node c.ended)))
