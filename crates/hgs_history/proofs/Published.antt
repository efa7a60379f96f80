-- What is published grows by what each call publishes.
use Rattle.std.proofs.Common.{◌≡◌, ◌⊎◌, ℕ, List, [], ◌∷◌, ◌++◌, length, refl, sym, ◌∙◌, ap, subst, inl, inr, arith, append-nil}
use Rattle.std.specs.Prelude.{Bool, true, false, Option, Some, None, if◌then◌else◌}
use Rattle.hgs_answers.specs.declared.outcome.Outcome.{Outcome}
use Rattle.hgs_answers.specs.declared.outcome.Outcome.TheVariants as outcomes
use Rattle.hgs_answers.specs.declared.outcome.Published.TheVariants.{No, Yes, Unknown}
use Rattle.hgs_files.specs.declared.op.Op.{Op}
use Rattle.hgs_index.specs.declared.node.Node.{Node}
use Rattle.hgs_legal.specs.LegalLog.{State, Turn}
use Rattle.hgs_model.specs.declared.command.Command.{Command}
use Rattle.hgs_script.specs.declared.job.Job.{Job}
use Rattle.hgs_script.specs.declared.job.Job.TheVariants.{Change}
use Rattle.hgs_script.specs.declared.result.PublishedJob.{PublishedJob}
use Rattle.hgs_session.specs.Calls.{entry_of, is_published, is_unsure, job_in, name_of}
use Rattle.hgs_writer.specs.Turns.{IsTurnOf, LeadsAs, LeadsOn, Order}
use Rattle.hgs_writer.specs.Alone.{IsBarred}
use Rattle.hgs_history.specs.History.{ArePublished, AreTurnsOf, IsTurnOfJob, MayBeTurnOf, is_done}

-- where no journal was left, all is known
abbrev pub AreTurns : List (List Job) → List PublishedJob → Option (ℕ × ℕ) → Option (List Op) → List Turn → Type 0
AreTurns jobs entries unsure None turns = AreTurnsOf jobs entries turns
AreTurns jobs entries unsure (Some left) turns = ArePublished jobs entries unsure turns

pub never : {A : Type 0} → false ≡ true → A
never e = cc

-- what a call with this answer adds
abbrev pub entries_with : List PublishedJob → ℕ → ℕ → Outcome → Option (ℕ × Node) → List PublishedJob
entries_with entries worker job outcome changeset = entries ++ (if is_published outcome then entry_of worker job changeset else [])

abbrev pub unsure_after : Option (ℕ × ℕ) → ℕ → ℕ → Outcome → Option (ℕ × ℕ)
unsure_after known worker job outcome = if is_unsure outcome then Some (worker, job) else known

-- ---- lists of transactions

turns-append : (jobs : List (List Job)) (es fs : List PublishedJob) (xs ys : List Turn) → AreTurnsOf jobs es xs → AreTurnsOf jobs fs ys → AreTurnsOf jobs (es ++ fs) (xs ++ ys)
turns-append jobs [] fs xs ys a b = subst (λ l. AreTurnsOf jobs fs (l ++ ys)) (sym a) b
turns-append jobs (e ∷ es) fs [] ys a b = absurd a
turns-append jobs (e ∷ es) fs (x ∷ xs) ys a b = (a.0, turns-append jobs es fs xs ys a.1 b)

pub turns-length : (jobs : List (List Job)) (entries : List PublishedJob) (turns : List Turn) → AreTurnsOf jobs entries turns → length turns ≡ length entries
turns-length jobs [] turns a = ap (λ (l : List Turn). length l) a
turns-length jobs (e ∷ entries) [] a = absurd a
turns-length jobs (e ∷ entries) (x ∷ turns) a = let rest = turns-length jobs entries turns a.1 in omega (arith, rest)

nothing-more : (jobs : List (List Job)) (unsure : Option (ℕ × ℕ)) → MayBeTurnOf jobs unsure []
nothing-more jobs None = refl
nothing-more jobs (Some job) = inl refl

-- what is known is what is published
pub known : (jobs : List (List Job)) (entries : List PublishedJob) (unsure : Option (ℕ × ℕ)) (turns : List Turn) → AreTurnsOf jobs entries turns → ArePublished jobs entries unsure turns
known jobs entries unsure turns are = record { sure = turns; more = []; whole = sym (append-nil turns); listed = are; unknown = nothing-more jobs unsure }

pub published : (jobs : List (List Job)) (entries : List PublishedJob) (unsure : Option (ℕ × ℕ)) (left : Option (List Op)) (turns : List Turn) → AreTurns jobs entries unsure left turns → ArePublished jobs entries unsure turns
published jobs entries unsure None turns are = known jobs entries unsure turns are
published jobs entries unsure (Some left) turns are = are

-- ---- after a call

-- One call: it leads on, and what is published then is this.
pub record Adds (jobs : List (List Job)) (entries : List PublishedJob) (unsure : Option (ℕ × ℕ)) (done : Bool) (s : State) (log : List Op) : Type 0 where
  pub turns : List Turn
  pub left : Option (List Op)
  pub leads : LeadsOn s log turns left
  pub are : AreTurns jobs entries unsure left (s.published ++ turns)
  pub rested : done ≡ true → left ≡ None

module _ (jobs : List (List Job)) (entries : List PublishedJob) (unsure : Option (ℕ × ℕ)) (s : State) (log : List Op) (worker job : ℕ) (command : Command) (changeset : Option (ℕ × Node)) (is_job : job_in jobs worker job ≡ Some (Change command)) where
  abbrev order : Order
  order = record { who = name_of worker job; command = command; changeset = changeset }

  -- nothing is published
  adds-none : (left : Option (List Op)) → AreTurnsOf jobs entries s.published → LeadsOn s log [] left → Adds jobs (entries ++ []) unsure false s log
  adds-none None are leads = record { turns = []; left = None; leads = leads; are = turns-append jobs entries [] s.published [] are refl; rested = never }
  adds-none (Some left) are leads = record { turns = []; left = Some left; leads = leads; are = known jobs (entries ++ []) unsure (s.published ++ []) (turns-append jobs entries [] s.published [] are refl); rested = never }

  turn-of-job : (x : Turn) → IsTurnOf (record { who = name_of worker job; command = command; changeset = changeset }) x → IsTurnOfJob jobs worker job x
  turn-of-job x is = record { who = is.who; command = is_job ∙ ap (λ c. Some (Change c)) (sym is.command) }

one-entry : (jobs : List (List Job)) (worker job : ℕ) (command : Command) (changeset : Option (ℕ × Node)) (is_job : job_in jobs worker job ≡ Some (Change command)) (x : Turn) → IsTurnOf (record { who = name_of worker job; command = command; changeset = changeset }) x → AreTurnsOf jobs (entry_of worker job changeset) (x ∷ [])
one-entry jobs worker job command None is_job x is = absurd is.told
one-entry jobs worker job command (Some c) is_job x is = (record { job = record { who = is.who; command = is_job ∙ ap (λ k. Some (Change k)) (sym is.command) }; rev = is.told.0; node = is.told.1 }, refl)

module _ (jobs : List (List Job)) (entries : List PublishedJob) (unsure : Option (ℕ × ℕ)) (s : State) (log : List Op) (worker job : ℕ) (command : Command) (changeset : Option (ℕ × Node)) (is_job : job_in jobs worker job ≡ Some (Change command)) where
  -- the transaction is
  adds-one : (x : Turn) → AreTurnsOf jobs entries s.published → IsTurnOf (record { who = name_of worker job; command = command; changeset = changeset }) x → LeadsOn s log (x ∷ []) None → Adds jobs (entries ++ entry_of worker job changeset) unsure true s log
  adds-one x are is leads = record {
    turns = x ∷ [];
    left = None;
    leads = leads;
    are = turns-append jobs entries (entry_of worker job changeset) s.published (x ∷ []) are (one-entry jobs worker job command changeset is_job x is);
    rested = λ e. refl;
  }

  -- the same, with a journal left
  adds-open : (left : List Op) (x : Turn) → AreTurnsOf jobs entries s.published → IsTurnOf (record { who = name_of worker job; command = command; changeset = changeset }) x → LeadsOn s log (x ∷ []) (Some left) → Adds jobs (entries ++ entry_of worker job changeset) unsure false s log
  adds-open left x are is leads = record {
    turns = x ∷ [];
    left = Some left;
    leads = leads;
    are = known jobs (entries ++ entry_of worker job changeset) unsure (s.published ++ x ∷ []) (turns-append jobs entries (entry_of worker job changeset) s.published (x ∷ []) are (one-entry jobs worker job command changeset is_job x is));
    rested = never;
  }

  -- it is or is not
  adds-unsure : (left : List Op) → AreTurnsOf jobs entries s.published → LeadsOn s log [] (Some left) ⊎ ((x : Turn) × IsTurnOf (record { who = name_of worker job; command = command; changeset = changeset }) x × LeadsOn s log (x ∷ []) (Some left))
      → Adds jobs (entries ++ []) (Some (worker, job)) false s log
  adds-unsure left are (inl none) = record { turns = []; left = Some left; leads = none; are = known jobs (entries ++ []) (Some (worker, job)) (s.published ++ []) (turns-append jobs entries [] s.published [] are refl); rested = never }
  adds-unsure left are (inr (x, is, leads)) = record {
    turns = x ∷ [];
    left = Some left;
    leads = leads;
    are = record { sure = s.published; more = x ∷ []; whole = refl; listed = subst (λ l. AreTurnsOf jobs l s.published) (sym (append-nil entries)) are; unknown = inr (x, refl, turn-of-job jobs entries unsure s log worker job command changeset is_job x is) };
    rested = never;
  }

  -- by the answer, where no journal stands
  pub adds : (outcome : Outcome) → AreTurnsOf jobs entries s.published → LeadsAs s log (record { who = name_of worker job; command = command; changeset = changeset }) outcome
      → Adds jobs (entries_with entries worker job outcome changeset) (unsure_after unsure worker job outcome) (is_done outcome) s log
  adds (outcomes.Done rev node) are leads = adds-one leads.0 are leads.1 leads.2
  adds (outcomes.Unfinished No) are leads = adds-none jobs entries unsure s log worker job command changeset is_job (Some leads.0) are leads.1
  adds (outcomes.Unfinished Yes) are leads = adds-open leads.0 leads.1.0 are leads.1.1 leads.1.2
  adds (outcomes.Unfinished Unknown) are leads = adds-unsure leads.0 are leads.1
  adds outcome are leads = adds-none jobs entries unsure s log worker job command changeset is_job None are leads

  -- beside a journal
  pub adds-barred : (outcome : Outcome) (left : List Op) → ArePublished jobs entries unsure s.published → IsBarred outcome → LeadsOn s log [] (Some left) → Adds jobs (entries_with entries worker job outcome changeset) (unsure_after unsure worker job outcome) (is_done outcome) s log
  adds-barred outcome left are barred leads = by outcome barred
    where
      same : Adds jobs (entries ++ []) unsure false s log
      same = record {
        turns = [];
        left = Some left;
        leads = leads;
        are = subst (λ l. ArePublished jobs (entries ++ []) unsure l) (sym (append-nil s.published)) (subst (λ l. ArePublished jobs l unsure s.published) (sym (append-nil entries)) are);
        rested = never;
      }

      by : (o : Outcome) → IsBarred o → Adds jobs (entries_with entries worker job o changeset) (unsure_after unsure worker job o) (is_done o) s log
      by (outcomes.LockHeld holder) b = same
      by outcomes.Abandoned b = same
      by outcomes.Fault b = same
      by outcomes.Memory b = same
      by o b = absurd b
