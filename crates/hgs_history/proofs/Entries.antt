-- What is listed of calls, and the logs behind them.
use Rattle.std.proofs.Common.{◌≡◌, ℕ, ◌==◌, Bool, true, false, if◌then◌else◌, List, [], ◌∷◌, ◌++◌, refl, ap, sym, ◌∙◌, subst}
use Rattle.std.specs.Prelude.{Option, Some, None, filter}
use Rattle.std.specs.List.{AllByRecursion, FoldsTo}
use Rattle.std.proofs.lemmas.List.Elements.{filter-append}
use Rattle.hgs_answers.specs.declared.answer.Answer.{Answer}
use Rattle.hgs_commit.specs.declared.fault.CommitFault.{CommitFault}
use Rattle.hgs_commit.specs.declared.fault.CommitFault.TheVariants as commits
use Rattle.hgs_files.specs.Files.{GoesOn}
use Rattle.hgs_files.specs.Tree.{Tree}
use Rattle.hgs_files.specs.declared.op.Op.{Op}
use Rattle.hgs_index.specs.declared.node.Node.{Node}
use Rattle.hgs_load.specs.declared.answer.ReadAnswer.TheVariants as reads
use Rattle.hgs_machine.specs.Carry.{tree_now}
use Rattle.hgs_machine.specs.declared.locks.LockRefusal.{LockRefusal}
use Rattle.hgs_machine.specs.declared.locks.LockRefusal.TheVariants as locked
use Rattle.hgs_model.specs.declared.command.Command.{Command}
use Rattle.hgs_model.specs.declared.command.Refusal.TheVariants as refusals
use Rattle.hgs_script.specs.declared.result.PublishedJob.{PublishedJob}
use Rattle.hgs_session.specs.Calls.{Beginning, Call, IsCall, Stage, entry_of, is_published, name_of, published_by, published_of}
use Rattle.hgs_steps.specs.declared.fault.PlanFault.TheVariants as plans
use Rattle.hgs_writer.specs.Begun.{IsRefused, has_no_locks}
use Rattle.hgs_writer.specs.Begun as begun
use Rattle.hgs_writer.specs.Outcomes.{outcome_of_commit, outcome_of_lock}
use Rattle.hgs_writer.specs.Written.{IsWrittenFor, has_no_plan, has_plan}
use Rattle.hgs_history.specs.History.{stage_behind}
use Rattle.hgs_history.specs.Once.{IsListed, calls_by}
use Rattle.hgs_history.proofs.Published.{never}

-- ---- the logs

here : (x : Beginning) (old : Stage) (calls : List Call) (last : Stage) (makes : FoldsTo (IsCall x) old calls last) → stage_behind x old calls last makes [] ≡ old
here x old [] last makes = refl
here x old (c ∷ calls) last makes = refl

pub leads-to : (x : Beginning) (old : Stage) (calls : List Call) (last : Stage) (makes : FoldsTo (IsCall x) old calls last) (front back : List Call) (c : Call) → calls ≡ front ++ c ∷ back → c.log ≡ (stage_behind x old calls last makes (front ++ c ∷ [])).log
leads-to x old [] last makes [] back c e = absurd (cc e)
leads-to x old [] last makes (d ∷ front) back c e = absurd (cc e)
leads-to x old (b ∷ calls) last makes [] back c e =
    let same : c ≡ b = cc e in
    ap (λ (d : Call). d.log) same ∙ (makes.1.behind ∙ ap (λ (s : Stage). s.log) (sym (here x makes.0 calls last makes.2)))
leads-to x old (b ∷ calls) last makes (d ∷ front) back c e = leads-to x makes.0 calls last makes.2 front back c (cc e)

-- ---- what is listed

no-lock : {A : Type 0} (why : LockRefusal) → is_published (outcome_of_lock why) ≡ true → A
no-lock (locked.Held holder) e = never e
no-lock locked.Abandoned e = never e
no-lock locked.Fault e = never e
no-lock locked.Memory e = never e

no-plan : {A : Type 0} (fault : CommitFault) → is_published (outcome_of_commit fault) ≡ true → A
no-plan (commits.Unread (reads.Damaged d)) e = never e
no-plan (commits.Unread reads.Fault) e = never e
no-plan (commits.Unread (reads.Limit w)) e = never e
no-plan (commits.Unread reads.UnknownPath) e = never e
no-plan (commits.Unread reads.NotARepository) e = never e
no-plan (commits.Unread (reads.Requirement w)) e = never e
no-plan (commits.Unread reads.Memory) e = never e
no-plan (commits.Refused (plans.Refused refusals.UnknownRevision)) e = never e
no-plan (commits.Refused (plans.Refused refusals.UnknownPath)) e = never e
no-plan (commits.Refused (plans.Refused (refusals.CopyOver path))) e = never e
no-plan (commits.Refused (plans.Refused (refusals.NeedsForce rev))) e = never e
no-plan (commits.Refused (plans.Refused (refusals.NothingChanged rev))) e = never e
no-plan (commits.Refused (plans.Limit w)) e = never e
no-plan (commits.Refused (plans.NameClash p)) e = never e
no-plan (commits.Refused (plans.InTheWay p)) e = never e
no-plan (commits.Refused (plans.Collision p r)) e = never e
no-plan (commits.Refused plans.Memory) e = never e

none-refused : {A : Type 0} (who : List ℕ) (command : Command) (t : Tree) (answer : Answer) (done : List Op) → IsRefused who command t answer done → is_published answer.outcome ≡ true → A
none-refused who command t answer done (has_no_locks why turned outcome) e = no-lock why (ap is_published (sym outcome) ∙ e)
none-refused who command t answer done (begun.has_no_plan fault locking releasing locks plans removed outcome whole) e = no-plan fault (ap is_published (sym outcome) ∙ e)

changeset-of : (who : List ℕ) (command : Command) (t : Tree) (answer : Answer) (changeset : Option (ℕ × Node)) (done : List Op) → IsWrittenFor who command t answer changeset done → is_published answer.outcome ≡ true → (found : ℕ × Node) × (changeset ≡ Some found)
changeset-of who command t answer _ _ (has_no_plan done refused) e = none-refused who command t answer done refused e
changeset-of who command t answer _ _ (has_plan planned locking carrying done locks plan carried whole) e = ((planned.rev, planned.node), refl)

entry-of : (c : Call) → is_published c.answer.outcome ≡ true → (found : ℕ × Node) × (c.changeset ≡ Some found) → (changeset : ℕ × Node) × (published_by c ≡ entry_of c.worker c.job (Some changeset))
entry-of c e found = (found.0, rw e (ap (entry_of c.worker c.job) found.1))

pub all-listed : (x : Beginning) (old : Stage) (calls : List Call) (last : Stage) (log : List Op) → old.log ≡ Some log → FoldsTo (IsCall x) old calls last → AllByRecursion IsListed calls
all-listed x old [] last log told makes = tt
all-listed x old (c ∷ calls) last log told makes =
    let is = makes.1 in
    let who = name_of c.worker c.job in
    let on = subst (λ (o : Option (List Op)). GoesOn o makes.0.log (IsWrittenFor who is.command (tree_now old.log x.start) c.answer c.changeset)) told is.log in (
      λ e. entry-of c e (changeset-of who is.command (tree_now old.log x.start) c.answer c.changeset on.0 on.2 e),
      all-listed x makes.0 calls last (log ++ on.0) on.1 makes.2,
    )

-- ---- a worker's own

abbrev pub entries-by : ℕ → List PublishedJob → List PublishedJob
entries-by worker entries = filter (λ (e : PublishedJob). e.worker == worker) entries

own-entry : (worker : ℕ) (c : Call) (b : Bool) → (c.worker == worker) ≡ b → entries-by worker (published_by c) ≡ (if b then published_by c else [])
own-entry worker c b e = by (is_published c.answer.outcome) refl c.changeset refl b e
  where
    by : (p : Bool) → is_published c.answer.outcome ≡ p → (o : Option (ℕ × Node)) → c.changeset ≡ o → (b : Bool) → (c.worker == worker) ≡ b → entries-by worker (published_by c) ≡ (if b then published_by c else [])
    by false p o q true e = rw p refl
    by false p o q false e = rw p refl
    by true p None q true e = rw (p, q) refl
    by true p None q false e = rw (p, q) refl
    by true p (Some changeset) q true e = rw (p, q, e) refl
    by true p (Some changeset) q false e = rw (p, q, e) refl

pub own-entries : (worker : ℕ) (calls : List Call) → entries-by worker (published_of calls) ≡ published_of (calls_by worker calls)
own-entries worker [] = refl
own-entries worker (c ∷ calls) = by (own-entries worker calls) (c.worker == worker) refl
  where
    by : entries-by worker (published_of calls) ≡ published_of (calls_by worker calls) → (b : Bool) → (c.worker == worker) ≡ b → entries-by worker (published_of (c ∷ calls)) ≡ published_of (calls_by worker (c ∷ calls))
    by rest true e = rw e (filter-append (λ (d : PublishedJob). d.worker == worker) (published_by c) (published_of calls) ∙ (ap (λ l. l ++ entries-by worker (published_of calls)) (own-entry worker c true e) ∙ ap (λ l. published_by c ++ l) rest))
    by rest false e = rw e (filter-append (λ (d : PublishedJob). d.worker == worker) (published_by c) (published_of calls) ∙ (ap (λ l. l ++ entries-by worker (published_of calls)) (own-entry worker c false e) ∙ rest))
