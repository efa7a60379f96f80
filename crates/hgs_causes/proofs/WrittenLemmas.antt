-- What a call that was told of a clash had planned.
use Rattle.std.proofs.Common.{◌≡◌, ℕ, List, [], Bool, true, false, inl, inr, refl, sym, ◌∙◌, ap, subst}
use Rattle.std.specs.Prelude.{Option, Some, Result, Ok, Err, unwrap_or}
use Rattle.hgs_answers.specs.declared.answer.Answer.{Answer}
use Rattle.hgs_answers.specs.declared.outcome.Outcome.{Outcome}
use Rattle.hgs_answers.specs.declared.outcome.Outcome.TheVariants.{NameClash}
use Rattle.hgs_bytes.specs.Bytes.{same}
use Rattle.hgs_commit.specs.Commit.{ClashBy, Steps, commit_in}
use Rattle.hgs_commit.specs.declared.fault.CommitFault.{CommitFault}
use Rattle.hgs_commit.specs.declared.fault.CommitFault.TheVariants.{Unread, Refused}
use Rattle.hgs_files.specs.declared.op.Op.{Op}
use Rattle.hgs_files.specs.Tree.{Tree, after_all, bytes_at}
use Rattle.hgs_index.specs.declared.node.Node.{Node}
use Rattle.hgs_load.specs.declared.answer.ReadAnswer.{ReadAnswer}
use Rattle.hgs_load.specs.declared.answer.ReadAnswer.TheVariants as reads
use Rattle.hgs_machine.specs.Locks.{AreLocked}
use Rattle.hgs_machine.specs.declared.ended.Short.{Short}
use Rattle.hgs_machine.specs.declared.ended.Short.TheVariants as shorts
use Rattle.hgs_machine.specs.declared.locks.LockRefusal.{LockRefusal}
use Rattle.hgs_machine.specs.declared.locks.LockRefusal.TheVariants as locked
use Rattle.hgs_model.specs.Repo.{Repo}
use Rattle.hgs_model.specs.Step.{Next, step}
use Rattle.hgs_model.specs.Valid.{IsNewChange}
use Rattle.hgs_model.specs.declared.command.Command.TheVariants.{Commit}
use Rattle.hgs_model.specs.declared.command.NewChange.{NewChange}
use Rattle.hgs_model.specs.declared.command.Refusal.{Refusal}
use Rattle.hgs_model.specs.declared.command.Refusal.TheVariants as refusals
use Rattle.hgs_ops.specs.Operations.{lock_path, wlock_path}
use Rattle.hgs_path.specs.ListedNames.{names_of}
use Rattle.hgs_stands.specs.Places.{fncache_path}
use Rattle.hgs_stands.specs.Stands.{Stands}
use Rattle.hgs_steps.specs.Parents.{named_all, parents_answer}
use Rattle.hgs_steps.specs.Planned.{IsLoadedOf}
use Rattle.hgs_steps.specs.declared.fault.PlanFault.TheVariants as plans
use Rattle.hgs_steps.specs.declared.loaded.Loaded.{Loaded}
use Rattle.hgs_steps.specs.declared.step.Step.{Step}
use Rattle.hgs_writer.specs.Commits.{AnswersAs, AnswersWith}
use Rattle.hgs_writer.specs.Outcomes.{outcome_of_commit, outcome_of_ended, outcome_of_lock, outcome_of_plan, outcome_of_read, outcome_of_refusal}
use Rattle.hgs_writer.specs.Planning.{Plans, has_no_memory, is_refused, is_unread}
use Rattle.hgs_writer.specs.Written.{IsWritten, is_carried_out, is_not_planned, is_turned_away}
use Rattle.hgs_causes.specs.Clashes.{IsClashOf}
use Rattle.hgs_causes.proofs.ClashLemmas.{clash-of, is_late}

-- which answers tell of a clash
abbrev is_clash : Outcome → Bool
is_clash (NameClash other) = true
is_clash _ = false

no-clash : {A : Type 0} (o : Outcome) (other : List ℕ) → is_clash o ≡ false → o ≡ NameClash other → A
no-clash o other is e = let no : false ≡ true = sym is ∙ ap is_clash e in cc

ended-none : (ended : Short) (rev : ℕ) (node : Node) → is_clash (outcome_of_ended ended rev node) ≡ false
ended-none shorts.Done rev node = refl
ended-none shorts.Fault rev node = refl
ended-none (shorts.Unfinished published) rev node = refl
ended-none shorts.Memory rev node = refl

lock-none : (why : LockRefusal) → is_clash (outcome_of_lock why) ≡ false
lock-none (locked.Held holder) = refl
lock-none locked.Abandoned = refl
lock-none locked.Fault = refl
lock-none locked.Memory = refl

read-none : (e : ReadAnswer) → is_clash (outcome_of_read e) ≡ false
read-none (reads.Damaged d) = refl
read-none reads.Fault = refl
read-none (reads.Limit w) = refl
read-none reads.UnknownPath = refl
read-none reads.NotARepository = refl
read-none (reads.Requirement w) = refl
read-none reads.Memory = refl

refusal-none : (e : Refusal) → is_clash (outcome_of_refusal e) ≡ false
refusal-none refusals.UnknownRevision = refl
refusal-none refusals.UnknownPath = refl
refusal-none (refusals.CopyOver path) = refl
refusal-none (refusals.NeedsForce rev) = refl
refusal-none (refusals.NothingChanged rev) = refl

path-is : (p other : List ℕ) → NameClash p ≡ NameClash other → p ≡ other
path-is p other e = cc

fault-is : (fault : CommitFault) (other : List ℕ) → outcome_of_commit fault ≡ NameClash other → fault ≡ Refused (plans.NameClash other)
fault-is (Unread e) other h = no-clash (outcome_of_read e) other (read-none e) h
fault-is (Refused (plans.Refused e)) other h = no-clash (outcome_of_refusal e) other (refusal-none e) h
fault-is (Refused (plans.Limit w)) other h = no-clash (outcome_of_plan (plans.Limit w)) other refl h
fault-is (Refused (plans.NameClash p)) other h = ap (λ q. Refused (plans.NameClash q)) (path-is p other h)
fault-is (Refused (plans.InTheWay p)) other h = no-clash (outcome_of_plan (plans.InTheWay p)) other refl h
fault-is (Refused (plans.Collision p rev)) other h = no-clash (outcome_of_plan (plans.Collision p rev)) other refl h
fault-is (Refused plans.Memory) other h = no-clash (outcome_of_plan plans.Memory) other refl h

-- what was told is the clash that is answered
given-is : (IsTold : Type 0) (u : Tree) (r : Repo) (n : NewChange) (clash : Option (List ℕ)) (other : List ℕ) (stepped : Result Next Refusal) → AnswersWith IsTold u r n clash (Err (Refused (plans.NameClash other))) stepped → clash ≡ Some other
given-is IsTold u r n clash other (Ok next) h = h
given-is IsTold u r n clash other (Err e) h = let no : ⊥ = cc in absurd no

module _ (agree : (t : Tree) (r : Repo) (l : Loaded) (n : NewChange) (clash : Option (List ℕ)) → Stands t r → IsLoadedOf t l → IsNewChange n → AnswersAs t r l n clash (commit_in clash l n t) (step r (Commit n)))
    (others : (t : Tree) (who : List ℕ) (locking : List Op) (path : List ℕ) → AreLocked who t locking → same path wlock_path ≡ false → same path lock_path ≡ false → after_all locking t path ≡ t path)
    (stays : (t : Tree) (r : Repo) (who : List ℕ) (locking : List Op) → AreLocked who t locking → Stands t r → Stands (after_all locking t) r) where
  stepped-clash : (u : Tree) (r : Repo) (l : Loaded) (n : NewChange) (other : List ℕ) → Stands u r → IsNewChange n → IsLoadedOf u l → Steps l n u (Err (Refused (plans.NameClash other))) → IsClashOf u n other
  stepped-clash u r l n other s fit loaded comes =
      let answers = subst (λ (x : Result Step CommitFault). AnswersAs u r l n comes.0 x (step r (Commit n))) comes.2 (agree u r l n comes.0 s loaded fit) in
      let told = given-is (ClashBy l n u (parents_answer (named_all l n.parents)) comes.0) u r n comes.0 other (step r (Commit n)) answers in
      clash-of l n u comes.0 other loaded (ap is_late comes.2) (subst (λ o. ClashBy l n u (parents_answer (named_all l n.parents)) o) told comes.1)

  planned-clash : (u : Tree) (r : Repo) (n : NewChange) (fault : CommitFault) (other : List ℕ) → Stands u r → IsNewChange n → fault ≡ Refused (plans.NameClash other) → Plans (Commit n) u (Err fault) → IsClashOf u n other
  planned-clash u r n _ other s fit is (is_unread e m) = let no : ⊥ = cc in absurd no
  planned-clash u r n _ other s fit is (is_refused read l fault loaded from is_loaded comes bytes) = stepped-clash u r l n other s fit is_loaded (subst (λ f. Steps l n u (Err f)) is comes.0)
  planned-clash u r n _ other s fit is has_no_memory = let no : ⊥ = cc in absurd no

  -- the list of filelogs is the same under the locks
  before-locks : (t : Tree) (who : List ℕ) (n : NewChange) (locking : List Op) (other : List ℕ) → AreLocked who t locking → IsClashOf (after_all locking t) n other → IsClashOf t n other
  before-locks t who n locking other locks h =
      let text : bytes_at (after_all locking t) fncache_path ≡ bytes_at t fncache_path = ap (λ file. unwrap_or file []) (others t who locking fncache_path locks refl refl) in
      record {
        path = h.path;
        is_new = h.is_new;
        same_name = h.same_name;
        known = elim h.known [
          | inl k ↦ inl (k.0, k.1, sym (ap names_of text) ∙ k.2, k.3)
          | inr k ↦ inr k
        ];
      }

  pub clash-written : (t : Tree) (r : Repo) (n : NewChange) (who : List ℕ) (answer : Answer) (done : List Op) (other : List ℕ) → Stands t r → IsNewChange n → IsWritten who (Commit n) t answer done → answer.outcome ≡ NameClash other → IsClashOf t n other
  clash-written t r n who answer done other s fit (is_turned_away why away is) told = no-clash (outcome_of_lock why) other (lock-none why) (sym is ∙ told)
  clash-written t r n who answer done other s fit (is_not_planned fault locking releasing locks plan removed is whole) told =
      before-locks t who n locking other locks (planned-clash (after_all locking t) r n fault other (stays t r who locking locks s) fit (fault-is fault other (sym is ∙ told)) plan)
  clash-written t r n who answer done other s fit (is_carried_out planned locking carrying locks plan carried whole) told = no-clash (outcome_of_ended carried.ended planned.rev planned.node) other (ended-none carried.ended planned.rev planned.node) (sym carried.outcome ∙ told)
