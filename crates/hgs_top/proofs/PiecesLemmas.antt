-- What a run did to the log is what its command does.
use Rattle.std.proofs.Common.{◌≡◌, ◌⊎◌, ◌++◌, ℕ, List, [], ◌∷◌, Bool, Option, Some, None, Result, Ok, refl, sym, ◌∙◌, ap, subst, inl, inr}
use Rattle.std.proofs.lemmas.List.{append-nil}
use Rattle.std.specs.Prelude.{⊤}
use Rattle.hgs_answers.specs.declared.answer.Answer.{Answer}
use Rattle.hgs_files.specs.declared.op.Op.{Op}
use Rattle.hgs_files.specs.Log.{IsDone}
use Rattle.hgs_files.specs.Stop.{IsStopped, StopLeaves}
use Rattle.hgs_files.specs.Theorems.LogLemmas.{stopped-before}
use Rattle.hgs_files.specs.Tree.{Tree, after_all}
use Rattle.hgs_legal.specs.ListsPaths.{ListsOnlyPaths}
use Rattle.hgs_load.specs.Open.{requires_path}
use Rattle.hgs_model.specs.Repo.{Repo}
use Rattle.hgs_model.specs.Valid.{IsValid}
use Rattle.hgs_model.specs.declared.command.Command.{Command}
use Rattle.hgs_ops.specs.Operations.{strays}
use Rattle.hgs_recover.specs.Found.{answer_in, answer_of}
use Rattle.hgs_recover.specs.Recovering.{RecoversBy, WhereSwept}
use Rattle.hgs_recover.specs.declared.answer.RecoverAnswer.{RecoverAnswer}
use Rattle.hgs_recover.specs.declared.answer.RecoverAnswer.TheVariants.{Damaged, Fault, Memory, NothingToDo, Restored, Unfinished}
use Rattle.hgs_stands.specs.Open.{IsOpen}
use Rattle.hgs_stands.specs.Stands.{Stands}
use Rattle.hgs_top.specs.Histories.{DoesCommand, DoesRecovery, GoesOnAs, IsBare, IsNew, IsTold, Makes, MakesHistory}
use Rattle.hgs_top.specs.Orders.{ComesTo, IsCommandOf, Obeys, init_operations}
use Rattle.hgs_top.specs.Words.{Job, Request, do_commit, do_import, do_init, do_mark, do_move, do_recover, do_unmark, request_of_words, to_do}
use Rattle.hgs_top.specs.declared.ended.Ended.{Ended}
use Rattle.hgs_top.specs.declared.ended.Ended.TheVariants.{Made, Exists, NotMade, NoInput, NoRecord, Refused, Answered, Recovered}

-- What is taken of the laws: a command that words and input give is valid, and one that was answered made a history; where making a
-- repository may stop; and what recovering leads to.
pub record Taken : Type 0 where
  pub valid : (words : List (List ℕ)) (job : Job) (left : Option (List ℕ)) (command : Command) → request_of_words words ≡ Ok (to_do job) → IsTold job left → IsCommandOf job left command → IsValid command
  pub answered : (job : Job) (left : Option (List ℕ)) (log : List Op) (new : Option (List Op)) (start : Tree) (r : Repo) (command : Command) (answer : Answer) → Stands (after_all log start) r → IsValid command → ListsOnlyPaths (after_all log start) → ComesTo job left (Some log) new start (Answered command answer) → GoesOnAs log new start r command answer.outcome
  pub new_stops : (t : Tree) (done left d : List Op) → IsBare t → IsDone init_operations done left → IsStopped done d → (after_all d t requires_path ≡ t requires_path) ⊎ IsNew (after_all d t)
  pub open_found : (t : Tree) (r : Repo) → IsOpen strays t r → answer_in t ≡ Restored
  pub open_leads : (t : Tree) (r : Repo) (swept : Bool) (log : List Op) → IsOpen strays t r → RecoversBy t Restored swept log → Stands (after_all log t) r
  pub open_stops : (t u : Tree) (r : Repo) (answer : RecoverAnswer) (swept : Bool) (log : List Op) → IsOpen strays t r → RecoversBy t answer swept log → StopLeaves t log u → IsOpen strays u r ⊎ Stands u r
  pub standing_stops : (t u : Tree) (r : Repo) (answer : RecoverAnswer) (swept : Bool) (log : List Op) → Stands t r → RecoversBy t answer swept log → StopLeaves t log u → Stands u r

-- two jobs are not one
apart : {A : Type 0} → do_init ≡ do_recover → A
apart e = cc

-- ---- a command of a transaction

abbrev IsWriting : Job → Type 0
IsWriting do_init = ⊥
IsWriting do_recover = ⊥
IsWriting job = ⊤

command-ended : (taken : Taken) (words : List (List ℕ)) (job : Job) (left : Option (List ℕ)) (log : List Op) (new : Option (List Op)) (start : Tree) → request_of_words words ≡ Ok (to_do job) → IsWriting job → IsTold job left → (ended : Ended) → ComesTo job left (Some log) new start ended → DoesCommand job left log new start
command-ended taken words job left log new start asked writing told Made comes = absurd (subst IsWriting comes.0 writing)
command-ended taken words job left log new start asked writing told Exists comes = absurd (subst IsWriting comes.0 writing)
command-ended taken words job left log new start asked writing told (NotMade fault) comes = absurd (subst IsWriting comes.0 writing)
command-ended taken words job left log new start asked writing told NoInput comes = λ r stands lists. inl comes.1
command-ended taken words job left log new start asked writing told (NoRecord fault) comes = λ r stands lists. inl comes.1
command-ended taken words job left log new start asked writing told (Refused refusal) comes = λ r stands lists. inl comes.3
command-ended taken words job left log new start asked writing told (Answered command answer) comes =
    λ r stands lists. inr (command, answer.outcome, comes.0, taken.answered job left log new start r command answer stands (taken.valid words job left command asked told comes.0) lists comes)
command-ended taken words job left log new start asked writing told (Recovered done) comes = absurd (subst IsWriting comes.0 writing)

-- ---- a recovery

stopped-whole : (log : List Op) → IsStopped log log
stopped-whole log = subst (λ (l : List Op). IsStopped l log) (append-nil log) (stopped-before log [])

where-swept : (answer : RecoverAnswer) (Holds : Type 0) → ((answer ≡ Restored) ⊎ (answer ≡ NothingToDo) → Holds) → WhereSwept answer Holds
where-swept Restored Holds h = h (inl refl)
where-swept NothingToDo Holds h = h (inr refl)
where-swept (Damaged d) Holds h = tt
where-swept Fault Holds h = tt
where-swept Unfinished Holds h = tt
where-swept Memory Holds h = tt

recovered-stands : (taken : Taken) (t : Tree) (r : Repo) (answer : RecoverAnswer) (swept : Bool) (done : List Op) → Stands t r ⊎ IsOpen strays t r → RecoversBy t answer swept done → (answer ≡ Restored) ⊎ (answer ≡ NothingToDo) → Stands (after_all done t) r
recovered-stands taken t r answer swept done (inl s) h well = taken.standing_stops t (after_all done t) r answer swept done s h (done, stopped-whole done, refl)
recovered-stands taken t r answer swept done (inr o) h (inl e) = taken.open_leads t r swept done o (subst (λ a. RecoversBy t a swept done) e h)
recovered-stands taken t r answer swept done (inr o) h (inr e) =
    let nothing : NothingToDo ≡ Restored = sym (ap answer_of (subst (λ a. RecoversBy t a swept done) e h).0) ∙ taken.open_found t r o in
    absurd (let no : ⊥ = cc in no)

recovery-stops : (taken : Taken) (t : Tree) (r : Repo) (answer : RecoverAnswer) (swept : Bool) (done d : List Op) → Stands t r ⊎ IsOpen strays t r → RecoversBy t answer swept done → IsStopped done d → Stands (after_all d t) r ⊎ IsOpen strays (after_all d t) r
recovery-stops taken t r answer swept done d (inl s) h stop = inl (taken.standing_stops t (after_all d t) r answer swept done s h (d, stop, refl))
recovery-stops taken t r answer swept done d (inr o) h stop = elim (taken.open_stops t (after_all d t) r answer swept done o h (d, stop, refl)) [
  | inl still ↦ inr still
  | inr stands ↦ inl stands
]

recovery-ended : (taken : Taken) (left : Option (List ℕ)) (log : List Op) (new : Option (List Op)) (start : Tree) (ended : Ended) → ComesTo do_recover left (Some log) new start ended → DoesRecovery log new start
recovery-ended taken left log new start Made comes = apart (sym comes.0)
recovery-ended taken left log new start Exists comes = apart (sym comes.0)
recovery-ended taken left log new start (NotMade fault) comes = apart (sym comes.0)
recovery-ended taken left log new start NoInput comes = absurd comes.0
recovery-ended taken left log new start (NoRecord fault) comes = absurd comes.0
recovery-ended taken left log new start (Refused refusal) comes = absurd comes.1
recovery-ended taken left log new start (Answered command answer) comes = absurd comes.0
recovery-ended taken left log new start (Recovered x) comes = λ r here. (
    let t = after_all log start in
    let g = comes.2 in (
      x.outcome,
      g.0,
      g.1,
      where-swept x.outcome (Stands (after_all g.0 t) r) (recovered-stands taken t r x.outcome x.swept g.0 here g.2),
      λ d stop. recovery-stops taken t r x.outcome x.swept g.0 d here g.2 stop,
    )
    )

-- ---- a new repository

-- where making one may stop
abbrev pub NewStops : Type 0
NewStops = (t : Tree) (done left d : List Op) → IsBare t → IsDone init_operations done left → IsStopped done d → (after_all d t requires_path ≡ t requires_path) ⊎ IsNew (after_all d t)

module _ (new_stops : NewStops) (left : Option (List ℕ)) (log : List Op) (new : Option (List Op)) (start : Tree) (bare : IsBare (after_all log start)) (none : after_all log start requires_path ≡ None) where
  abbrev pub IsComing : Type 0
  IsComing = (done : List Op) × (new ≡ Some (log ++ done)) × ((d : List Op) → IsStopped done d → (after_all d (after_all log start) requires_path ≡ None) ⊎ IsNew (after_all d (after_all log start)))

  nothing-made : new ≡ Some log → IsComing
  nothing-made e = ([], e ∙ ap (λ l. Some l) (sym (append-nil log)), λ d stop. inl (ap (λ (l : List Op). after_all l (after_all log start) requires_path) stop ∙ none))

  some-made : (done rest : List Op) → new ≡ Some (log ++ done) → IsDone init_operations done rest → IsComing
  some-made done rest is h = (done, is, λ d stop. by d (new_stops (after_all log start) done rest d bare h stop))
    where
      by : (d : List Op) → (after_all d (after_all log start) requires_path ≡ after_all log start requires_path) ⊎ IsNew (after_all d (after_all log start)) → (after_all d (after_all log start) requires_path ≡ None) ⊎ IsNew (after_all d (after_all log start))
      by d (inl e) = inl (e ∙ none)
      by d (inr made) = inr made

  pub new-ended : (ended : Ended) → ComesTo do_init left (Some log) new start ended → IsComing
  new-ended Made comes = some-made comes.2.0 [] comes.2.1 comes.2.2
  new-ended Exists comes = nothing-made comes.2
  new-ended (NotMade fault) (job, inl e) = nothing-made e
  new-ended (NotMade fault) (job, inr (of, g)) = some-made g.0 (g.2.0 ∷ g.2.1) g.1 g.2.2
  new-ended NoInput comes = absurd comes.0
  new-ended (NoRecord fault) comes = absurd comes.0
  new-ended (Refused refusal) comes = absurd comes.1
  new-ended (Answered command answer) comes = absurd comes.0
  new-ended (Recovered x) comes = apart comes.0

-- ---- each

makes : (taken : Taken) (words : List (List ℕ)) (job : Job) (left : Option (List ℕ)) (log : List Op) (new : Option (List Op)) (start : Tree) → request_of_words words ≡ Ok (to_do job) → IsTold job left → (ended : Ended) → ComesTo job left (Some log) new start ended → Makes job left log new start
makes taken words do_init left log new start asked told ended comes = λ bare none. new-ended taken.new_stops left log new start bare none ended comes
makes taken words do_recover left log new start asked told ended comes = recovery-ended taken left log new start ended comes
makes taken words do_commit left log new start asked told ended comes = command-ended taken words do_commit left log new start asked tt told ended comes
makes taken words do_import left log new start asked told ended comes = command-ended taken words do_import left log new start asked tt told ended comes
makes taken words (do_move rev phase force) left log new start asked told ended comes = command-ended taken words (do_move rev phase force) left log new start asked tt told ended comes
makes taken words (do_mark name rev) left log new start asked told ended comes = command-ended taken words (do_mark name rev) left log new start asked tt told ended comes
makes taken words (do_unmark name) left log new start asked told ended comes = command-ended taken words (do_unmark name) left log new start asked tt told ended comes

obeyed : (taken : Taken) (words : List (List ℕ)) (left : Option (List ℕ)) (log : List Op) (new : Option (List Op)) (start : Tree) (request : Result Request ℕ) (status : ℕ) (written_old written_new : Option (List ℕ)) (AreRefused : ℕ → Type 0) → request_of_words words ≡ request
    → Obeys AreRefused request left (Some log) new start status written_old written_new → (job : Job) → request ≡ Ok (to_do job) → IsTold job left → Makes job left log new start
obeyed taken words left log new start request status written_old written_new AreRefused is obeys job e told =
    let does = subst (λ (q : Result Request ℕ). Obeys AreRefused q left (Some log) new start status written_old written_new) e obeys in
    makes taken words job left log new start (is ∙ e) told does.0 does.1

pub made : (taken : Taken) (words : List (List ℕ)) (left : Option (List ℕ)) (old new : Option (List Op)) (start : Tree) (status : ℕ) (written_old written_new : Option (List ℕ)) (AreRefused : ℕ → Type 0) → Obeys AreRefused (request_of_words words) left old new start status written_old written_new → MakesHistory words left old new start
made taken words left None new start status written_old written_new AreRefused obeys = tt
made taken words left (Some log) new start status written_old written_new AreRefused obeys = obeyed taken words left log new start (request_of_words words) status written_old written_new AreRefused refl obeys
