-- What is acknowledged lasts.
use Rattle.std.proofs.Common.{◌≡◌, ◌⊎◌, ℕ, List, [], ◌∷◌, ◌++◌, Bool, true, false, refl, sym, ◌∙◌, ap, subst, inl, inr}
use Rattle.std.specs.Prelude.{Some, None, Result, Ok, Err, unwrap_or}
use Rattle.hgs_answers.specs.declared.answer.Answer.{Answer}
use Rattle.hgs_answers.specs.declared.outcome.Outcome.{Outcome}
use Rattle.hgs_answers.specs.declared.outcome.Outcome.TheVariants.{Abandoned, CopyOver, Done, NeedsForce, NothingChanged, Unfinished, UnknownPath, UnknownRevision, Unsettled}
use Rattle.hgs_files.specs.declared.op.Op.{Op}
use Rattle.hgs_files.specs.Stop.{IsStopped, StopLeaves}
use Rattle.hgs_files.specs.Tree.{Tree, after_all}
use Rattle.hgs_index.specs.declared.node.Node.{Node}
use Rattle.hgs_journal.specs.Names.{journal_path}
use Rattle.hgs_legal.specs.ListsPaths.{ListsPaths}
use Rattle.hgs_legal.specs.Pieces.{Early, Piece}
use Rattle.hgs_machine.specs.Locks.{IsTurnedAway}
use Rattle.hgs_machine.specs.declared.locks.LockRefusal.{LockRefusal}
use Rattle.hgs_model.specs.Repo.{Repo}
use Rattle.hgs_model.specs.Step.{Next, step}
use Rattle.hgs_model.specs.Valid.{IsValid}
use Rattle.hgs_model.specs.declared.command.Command.{Command}
use Rattle.hgs_model.specs.declared.command.Refusal.{Refusal}
use Rattle.hgs_ops.specs.Operations.{strays}
use Rattle.hgs_recover.specs.Found.{answer_of}
use Rattle.hgs_recover.specs.Recovering.{RecoversBy}
use Rattle.hgs_recover.specs.declared.answer.RecoverAnswer.{RecoverAnswer}
use Rattle.hgs_recover.specs.declared.answer.RecoverAnswer.TheVariants.{NothingToDo, Restored}
use Rattle.hgs_stands.specs.Open.{IsOpen}
use Rattle.hgs_stands.specs.Places.{fncache_path}
use Rattle.hgs_stands.specs.Stands.{Stands}
use Rattle.hgs_writer.specs.Alone.{IsAnswered, IsBarred, IsDoneAs, IsStopOf}
use Rattle.hgs_writer.specs.Written.{IsWritten, is_carried_out, is_not_planned, is_turned_away}
use Rattle.hgs_lasting.specs.Below.{Below}
use Rattle.hgs_lasting.specs.Lives.{Keeps, LeadTo, Lives, Process, and_then, is_done, is_recovered, is_refused, is_stopped, is_stopped_behind, not_yet}

not-none : (u : Tree) (bytes : List ℕ) → u journal_path ≡ Some bytes → u journal_path ≡ None → ⊥
not-none u bytes e none = cc

open-journal : (t : Tree) (r : Repo) → IsOpen strays t r → t journal_path ≡ None → ⊥
open-journal t r o none = not-none t o.1.journal_bytes o.1.journal_stands none

-- a log that is stopped behind its last operation
stopped-whole : (log : List Op) → IsStopped log log
stopped-whole [] = refl
stopped-whole (op ∷ log) = inr (inr (log, stopped-whole log, refl))

-- ---- answers

abbrev says-done : Outcome → Bool
says-done (Done rev node) = true
says-done _ = false

never : {A : Type 0} → true ≡ false → A
never e = cc

untrue : {A : Type 0} → false ≡ true → A
untrue e = cc

done-of : (o : Outcome) → says-done o ≡ true → (rev : ℕ) × (node : Node) × (o ≡ Done rev node)
done-of (Done rev node) e = (rev, node, refl)
done-of _ e = untrue e

-- every other answer leaves the repository
answered-keeps : (r : Repo) (stepped : Result Next Refusal) (o : Outcome) (u : Tree) → says-done o ≡ false → IsAnswered r stepped o u → Stands u r ⊎ IsOpen strays u r
answered-keeps r stepped (Done rev node) u e h = never e
answered-keeps r stepped UnknownRevision u e h = inl h.1
answered-keeps r stepped UnknownPath u e h = inl h.1
answered-keeps r stepped (CopyOver path) u e h = inl h.1
answered-keeps r stepped (NeedsForce rev) u e h = inl h.1
answered-keeps r stepped (NothingChanged rev) u e h = inl h.1
answered-keeps r stepped (Unfinished published) u e h = inr h.1
answered-keeps r stepped Abandoned u e h = absurd h
answered-keeps r stepped (Unsettled rev node) u e h = absurd h
answered-keeps r stepped _ u e h = inl h

-- what is done was accepted
accepted-by : (stepped : Result Next Refusal) (rev : ℕ) (node : Node) (u : Tree) → IsDoneAs stepped rev node u → (next : Next) × (stepped ≡ Ok next)
accepted-by (Ok next) rev node u h = (next, refl)
accepted-by (Err e) rev node u h = absurd h

-- ---- accepted one after another

lead-append : (r s next : Repo) (first more : List Command) → LeadTo r first s → LeadTo s more next → LeadTo r (first ++ more) next
lead-append r s next [] more e h = subst (λ x. LeadTo x more next) e h
lead-append r s next (command ∷ first) more (n, accepted, rest) h = (n, accepted, lead-append n.0 s next first more rest h)

process-leads : (t u : Tree) (r next : Repo) (acknowledged : List Command) → Process t r acknowledged u next → LeadTo r acknowledged next
process-leads t _ r _ _ (is_done who command answer log rev node next valid w e accepted) = (next, accepted, refl)
process-leads t _ r _ _ (is_refused who command answer log valid w other) = refl
process-leads t _ r _ _ (is_stopped who command answer log done valid w stop early) = refl
process-leads t _ r _ _ (is_stopped_behind who command answer log done next valid w stop none accepted piece) = (next, accepted, refl)
process-leads t _ r _ _ (is_recovered u answer swept log h stop) = refl

all-lead : (t : Tree) (r : Repo) (u : Tree) (s : Repo) (acknowledged : List Command) → Lives t r acknowledged u s → LeadTo r acknowledged s
all-lead t r _ _ _ not_yet = refl
all-lead t r _ _ _ (and_then u v s next acknowledged more lives process) = lead-append r s next acknowledged more (all-lead t r u s acknowledged lives) (process-leads u v s next more process)

pub lives-lead : (t u : Tree) (r s : Repo) (acknowledged : List Command) → Lives t r acknowledged u s → LeadTo r acknowledged s
lives-lead t u r s acknowledged lives = all-lead t r u s acknowledged lives

module _ (b : Below) where
  -- ---- a call beside a journal

  away-from : (t : Tree) (r : Repo) (command : Command) (who : List ℕ) (answer : Answer) (log : List Op) → IsOpen strays t r → IsWritten who command t answer log → (why : LockRefusal) × IsTurnedAway who t why answer.swept log
  away-from t r command who answer log o (is_turned_away why away e) = (why, away)
  away-from t r command who answer log o (is_not_planned fault locking releasing locked plans removed e whole) = absurd (open-journal t r o (b.no_journal who t locking locked))
  away-from t r command who answer log o (is_carried_out planned locking carrying locked plans carried whole) = absurd (open-journal t r o (b.no_journal who t locking locked))

  beside-journal : (t : Tree) (r : Repo) (command : Command) (who : List ℕ) (answer : Answer) (log done : List Op) → IsOpen strays t r → ListsPaths t r → IsWritten who command t answer log → IsStopped log done → Keeps (after_all done t) r
  beside-journal t r command who answer log done o lists w stop =
      let a = away-from t r command who answer log o w in
      (inr (b.stays_open t r who a.0 answer.swept log done o a.1 stop), b.same_list t (after_all done t) r (ap (λ file. unwrap_or file []) (b.others t who a.0 answer.swept log done fncache_path a.1 stop refl refl)) lists)

  not-done : {A : Type 0} (t : Tree) (r : Repo) (command : Command) (who : List ℕ) (answer : Answer) (log : List Op) (rev : ℕ) (node : Node) → IsOpen strays t r → IsWritten who command t answer log → answer.outcome ≡ Done rev node → A
  not-done t r command who answer log rev node o w e = absurd (subst IsBarred e (b.barred t command who answer log (open-journal t r o) w))

  -- ---- each process

  as-done : (t : Tree) (r : Repo) (command : Command) (who : List ℕ) (answer : Answer) (log : List Op) (rev : ℕ) (node : Node) → Stands t r → ListsPaths t r → IsValid command → IsWritten who command t answer log → answer.outcome ≡ Done rev node → IsDoneAs (step r command) rev node (after_all log t)
  as-done t r command who answer log rev node s lists valid w e = subst (λ o. IsAnswered r (step r command) o (after_all log t)) e (b.answered t r command who answer log s valid lists w)

  done-keeps : (t : Tree) (r : Repo) (command : Command) (who : List ℕ) (answer : Answer) (log : List Op) (rev : ℕ) (node : Node) (next : Next) → Keeps t r → IsValid command → IsWritten who command t answer log → answer.outcome ≡ Done rev node → step r command ≡ Ok next → Keeps (after_all log t) next.0
  done-keeps t r command who answer log rev node next (inl s, lists) valid w e accepted =
      let stands : Stands (after_all log t) next.0 = (subst (λ x. IsDoneAs x rev node (after_all log t)) accepted (as-done t r command who answer log rev node s lists valid w e)).0 in
      (inl stands, b.lists t r command who answer log s valid lists w next.0 (inl stands))
  done-keeps t r command who answer log rev node next (inr o, lists) valid w e accepted = not-done t r command who answer log rev node o w e

  refused-keeps : (t : Tree) (r : Repo) (command : Command) (who : List ℕ) (answer : Answer) (log : List Op) → Keeps t r → IsValid command → IsWritten who command t answer log → says-done answer.outcome ≡ false → Keeps (after_all log t) r
  refused-keeps t r command who answer log (inl s, lists) valid w e =
      let here = answered-keeps r (step r command) answer.outcome (after_all log t) e (b.answered t r command who answer log s valid lists w) in
      (here, b.lists t r command who answer log s valid lists w r here)
  refused-keeps t r command who answer log (inr o, lists) valid w e = beside-journal t r command who answer log log o lists w (stopped-whole log)

  early-keeps : (t : Tree) (r : Repo) (done : List Op) → Stands t r → ListsPaths t r → Early t r done → Keeps (after_all done t) r
  early-keeps t r done s lists (inl none) = subst (λ (l : List Op). Keeps (after_all l t) r) (sym none) (inl s, lists)
  early-keeps t r done s lists (inr (inl piece)) = (inl (b.piece_stands t r r done s piece), b.piece_lists t r r done s lists piece)
  early-keeps t r done s lists (inr (inr left)) = (inr (b.left_open t r done s left), b.left_lists t r done s lists left)

  stopped-keeps : (t : Tree) (r : Repo) (command : Command) (who : List ℕ) (answer : Answer) (log done : List Op) → Keeps t r → IsWritten who command t answer log → IsStopped log done → (t journal_path ≡ None → Early t r done) → Keeps (after_all done t) r
  stopped-keeps t r command who answer log done (inl s, lists) w stop early = early-keeps t r done s lists (early s.no_journal)
  stopped-keeps t r command who answer log done (inr o, lists) w stop early = beside-journal t r command who answer log done o lists w stop

  behind-keeps : (t : Tree) (r next : Repo) (done : List Op) → Keeps t r → t journal_path ≡ None → Piece t r done next → Keeps (after_all done t) next
  behind-keeps t r next done (inl s, lists) none piece = (inl (b.piece_stands t r next done s piece), b.piece_lists t r next done s lists piece)
  behind-keeps t r next done (inr o, lists) none piece = absurd (open-journal t r o none)

  recovered-keeps : (t u : Tree) (r : Repo) (answer : RecoverAnswer) (swept : Bool) (log : List Op) → Keeps t r → RecoversBy t answer swept log → StopLeaves t log u → Keeps u r
  recovered-keeps t u r answer swept log (inl s, lists) h stop =
      (inl (b.recovered_standing t u r answer swept log s h stop), b.same_list t u r (ap (λ file. unwrap_or file []) (b.recovered_others t u answer swept log fncache_path s.no_journal h stop refl)) lists)
  recovered-keeps t u r answer swept log (inr (q, covers, s), lists) h stop = (
    elim (b.recovered_open t u r answer swept log (q, covers, s) h stop) [
      | inl o ↦ inr o
      | inr stands ↦ inl stands
    ],
    elim (b.recovered_files t q u answer swept log fncache_path covers h stop refl refl) [
      | inl e ↦ b.same_list t u r e lists
      | inr e ↦ b.same_list q u r e (b.covered_list t q r covers lists)
    ],
  )

  refused-says : (o : Outcome) → ((rev : ℕ) (node : Node) → o ≡ Done rev node → ⊥) → (said : Bool) → says-done o ≡ said → says-done o ≡ false
  refused-says o other true e = let d = done-of o e in absurd (other d.0 d.1 d.2)
  refused-says o other false e = e

  process-keeps : (t u : Tree) (r next : Repo) (acknowledged : List Command) → Keeps t r → Process t r acknowledged u next → Keeps u next
  process-keeps t _ r _ _ k (is_done who command answer log rev node next valid w e accepted) = done-keeps t r command who answer log rev node next k valid w e accepted
  process-keeps t _ r _ _ k (is_refused who command answer log valid w other) = refused-keeps t r command who answer log k valid w (refused-says answer.outcome other (says-done answer.outcome) refl)
  process-keeps t _ r _ _ k (is_stopped who command answer log done valid w stop early) = stopped-keeps t r command who answer log done k w stop early
  process-keeps t _ r _ _ k (is_stopped_behind who command answer log done next valid w stop none accepted piece) = behind-keeps t r next.0 done k none piece
  process-keeps t _ r _ _ k (is_recovered u answer swept log h stop) = recovered-keeps t u r answer swept log k h stop

  all-keep : (t : Tree) (r : Repo) → Keeps t r → (u : Tree) (s : Repo) (acknowledged : List Command) → Lives t r acknowledged u s → Keeps u s
  all-keep t r k _ _ _ not_yet = k
  all-keep t r k _ _ _ (and_then u v s next acknowledged more lives process) = process-keeps u v s next more (all-keep t r k u s acknowledged lives) process

  pub lives-keep : (t u : Tree) (r s : Repo) (acknowledged : List Command) → Keeps t r → Lives t r acknowledged u s → Keeps u s
  lives-keep t u r s acknowledged k lives = all-keep t r k u s acknowledged lives

  -- ---- a recovery that ends well

  recovers-here : (u : Tree) (s : Repo) (answer : RecoverAnswer) (swept : Bool) (log : List Op) → Keeps u s → RecoversBy u answer swept log → (answer ≡ Restored) ⊎ (answer ≡ NothingToDo) → Stands (after_all log u) s
  recovers-here u s answer swept log (inl stands, lists) h well = b.recovered_standing u (after_all log u) s answer swept log stands h (log, stopped-whole log, refl)
  recovers-here u s answer swept log (inr o, lists) h (inl e) = b.leads_back u s swept log o (subst (λ a. RecoversBy u a swept log) e h)
  recovers-here u s answer swept log (inr o, lists) h (inr e) =
      let nothing : NothingToDo ≡ Restored = sym (ap answer_of (subst (λ a. RecoversBy u a swept log) e h).0) ∙ b.found_open u s o in
      absurd (let no : ⊥ = cc in no)

  pub lives-recover : (t u : Tree) (r s : Repo) (acknowledged : List Command) (answer : RecoverAnswer) (swept : Bool) (log : List Op) → Keeps t r → Lives t r acknowledged u s → RecoversBy u answer swept log → (answer ≡ Restored) ⊎ (answer ≡ NothingToDo) → Stands (after_all log u) s
  lives-recover t u r s acknowledged answer swept log k lives h well = recovers-here u s answer swept log (lives-keep t u r s acknowledged k lives) h well

  -- ---- there is no other

  done-next : (t : Tree) (r : Repo) (command : Command) (who : List ℕ) (answer : Answer) (log : List Op) (rev : ℕ) (node : Node) → Keeps t r → IsValid command → IsWritten who command t answer log → answer.outcome ≡ Done rev node → (next : Next) × (step r command ≡ Ok next)
  done-next t r command who answer log rev node (inl s, lists) valid w e = accepted-by (step r command) rev node (after_all log t) (as-done t r command who answer log rev node s lists valid w e)
  done-next t r command who answer log rev node (inr o, lists) valid w e = not-done t r command who answer log rev node o w e

  pub ends-so : (t : Tree) (r : Repo) (command : Command) (who : List ℕ) (answer : Answer) (log : List Op) → Keeps t r → IsValid command → IsWritten who command t answer log → (acknowledged : List Command) × (next : Repo) × Process t r acknowledged (after_all log t) next × ((rev : ℕ) (node : Node) → answer.outcome ≡ Done rev node → acknowledged ≡ command ∷ [])
  ends-so t r command who answer log k valid w = by (says-done answer.outcome) refl
    where
      by : (said : Bool) → says-done answer.outcome ≡ said → (acknowledged : List Command) × (next : Repo) × Process t r acknowledged (after_all log t) next × ((rev : ℕ) (node : Node) → answer.outcome ≡ Done rev node → acknowledged ≡ command ∷ [])
      by true e =
          let d = done-of answer.outcome e in
          let n = done-next t r command who answer log d.0 d.1 k valid w d.2 in
          (command ∷ [], n.0.0, is_done who command answer log d.0 d.1 n.0 valid w d.2 n.1, λ rev node f. refl)
      by false e = ([], r, is_refused who command answer log valid w (λ rev node f. never (sym (ap says-done f) ∙ e)), λ rev node f. never (sym (ap says-done f) ∙ e))

  pub stops-so : (t : Tree) (r : Repo) (command : Command) (who : List ℕ) (answer : Answer) (log done : List Op) → Keeps t r → IsValid command → IsWritten who command t answer log → IsStopped log done → (acknowledged : List Command) × (next : Repo) × Process t r acknowledged (after_all done t) next
  stops-so t r command who answer log done (inl s, lists) valid w stop = by (b.stops t r command who answer log done s valid lists w stop)
    where
      back : ((done ≡ []) ⊎ Piece t r done r) → Early t r done
      back (inl none) = inl none
      back (inr piece) = inr (inl piece)

      by : IsStopOf t r (step r command) done → (acknowledged : List Command) × (next : Repo) × Process t r acknowledged (after_all done t) next
      by (inl (here, stands)) = ([], r, is_stopped who command answer log done valid w stop (λ none. back here))
      by (inr (inl (left, o))) = ([], r, is_stopped who command answer log done valid w stop (λ none. inr (inr left)))
      by (inr (inr (next, accepted, piece, stands))) = (command ∷ [], next.0, is_stopped_behind who command answer log done next valid w stop s.no_journal accepted piece)
  stops-so t r command who answer log done (inr o, lists) valid w stop = ([], r, is_stopped who command answer log done valid w stop (λ none. absurd (open-journal t r o none)))
