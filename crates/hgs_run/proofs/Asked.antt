-- What the words of a run ask for: workers, or something else.
use Rattle.std.proofs.Common.{◌≡◌, true, false, ℕ, List, Option, Some, None, Result, Ok, Err, refl, sym, ◌∙◌, ap, subst}
use Rattle.hgs_files.specs.declared.op.Op.{Op}
use Rattle.hgs_files.specs.declared.yard.Left.{Left}
use Rattle.hgs_files.specs.declared.yard.Left.TheVariants.{Whole, Parts}
use Rattle.hgs_files.specs.Tree.{Tree}
use Rattle.hgs_files.specs.Yard.{IfWhole}
use Rattle.hgs_top.specs.Given.{ReadsAsked}
use Rattle.hgs_top.specs.Growth.{GrowsRepository}
use Rattle.hgs_top.specs.Histories.{MakesHistory}
use Rattle.hgs_top.specs.Orders.{IsAtEnd, IsRead, KeepsInput, Obeys}
use Rattle.hgs_top.specs.Play.{PlaysAsked}
use Rattle.hgs_top.specs.Repository.{SaysOfRepository}
use Rattle.hgs_top.specs.Run.{Says}
use Rattle.hgs_top.specs.Words.{Request, is_session, request_of_words, to_answer, to_do, to_generate, to_play, to_session, to_verify}
use Rattle.hgs_run.specs.Session.{KeepsStart, KeepsYard}

pub if_whole : {Y A Rest Front W R : Type 0} {P : Y → Type 0} (left : Left Y A Rest Front W R) → ((y : Y) → P y) → IfWhole left P
if_whole (Whole yard) holds = holds yard
if_whole (Parts w rs) holds = tt

pub if_whole_map : {Y A Rest Front W R : Type 0} {P Q : Y → Type 0} (left : Left Y A Rest Front W R) → ((y : Y) → P y → Q y) → IfWhole left P → IfWhole left Q
if_whole_map (Whole yard) f h = f yard h
if_whole_map (Parts w rs) f h = tt

-- ---- workers are asked for

pub asked_for : (q : Result Request ℕ) → is_session q ≡ true → q ≡ Ok to_session
asked_for (Ok to_session) is = refl
asked_for (Ok (to_answer question)) is = absurd (cc is)
asked_for (Ok (to_do job)) is = absurd (cc is)
asked_for (Ok to_play) is = absurd (cc is)
asked_for (Ok (to_verify jobs)) is = absurd (cc is)
asked_for (Ok (to_generate seed count)) is = absurd (cc is)
asked_for (Err place) is = absurd (cc is)

-- the other clauses say nothing of them
module _ (q : Result Request ℕ) (is : is_session q ≡ true) where
  pub asked_of_repository : (Faulted : Type 0) (log : Option (List Op)) (start : Tree) (status : ℕ) (old new : Option (List ℕ)) → SaysOfRepository Faulted q log start status old new
  asked_of_repository Faulted log start status old new = subst (λ p. SaysOfRepository Faulted p log start status old new) (sym (asked_for q is)) tt

  pub asked_says : (Faulted : Type 0) (log : Option (List Op)) (start : Tree) (status : ℕ) (old new : Option (List ℕ)) → Says Faulted q log start status old new
  asked_says Faulted log start status old new = subst (λ p. Says Faulted p log start status old new) (sym (asked_for q is)) tt

  pub asked_obeys : (AreRefused : ℕ → Type 0) (left : Option (List ℕ)) (old new : Option (List Op)) (start : Tree) (status : ℕ) (written_old written_new : Option (List ℕ)) → Obeys AreRefused q left old new start status written_old written_new
  asked_obeys AreRefused left old new start status written_old written_new = subst (λ p. Obeys AreRefused p left old new start status written_old written_new) (sym (asked_for q is)) tt

  pub asked_gives : (given_old given_new : ℕ) (before : Option (List Op)) (start : Tree) (after : Option (List Op)) → ReadsAsked q given_old given_new before start after
  asked_gives given_old given_new before start after = subst (λ p. ReadsAsked p given_old given_new before start after) (sym (asked_for q is)) tt

  pub asked_starts : (old new : Tree) → KeepsStart q old new
  asked_starts old new = subst (λ p. KeepsStart p old new) (sym (asked_for q is)) tt

  pub asked_input : (old new : Option (List ℕ)) (faults_old faults_new : ℕ) → KeepsInput q old new faults_old faults_new
  asked_input old new faults_old faults_new = subst (λ p. KeepsInput p old new faults_old faults_new) (sym (asked_for q is)) tt

  pub asked_plays : (left : Option (List ℕ)) (status : ℕ) (old new : Option (List ℕ)) → PlaysAsked q left status old new
  asked_plays left status old new = subst (λ p. PlaysAsked p left status old new) (sym (asked_for q is)) tt

pub asked_keeps_yard : (q : Result Request ℕ) → is_session q ≡ true → {status : ℕ} {Whole : Type 0} → ((status ≡ 30 → ⊥) → Whole) → KeepsYard q status Whole
asked_keeps_yard (Ok to_session) is h = h
asked_keeps_yard (Ok (to_answer question)) is h = absurd (cc is)
asked_keeps_yard (Ok (to_do job)) is h = absurd (cc is)
asked_keeps_yard (Ok to_play) is h = absurd (cc is)
asked_keeps_yard (Ok (to_verify jobs)) is h = absurd (cc is)
asked_keeps_yard (Ok (to_generate seed count)) is h = absurd (cc is)
asked_keeps_yard (Err place) is h = absurd (cc is)

pub asked_reads : (q : Result Request ℕ) → is_session q ≡ true → (status : ℕ) (left : Option (List ℕ)) → (status ≡ 0 → IsAtEnd left) → IsRead q status left
asked_reads (Ok to_session) is status left h = h
asked_reads (Ok (to_answer question)) is status left h = absurd (cc is)
asked_reads (Ok (to_do job)) is status left h = absurd (cc is)
asked_reads (Ok to_play) is status left h = absurd (cc is)
asked_reads (Ok (to_verify jobs)) is status left h = absurd (cc is)
asked_reads (Ok (to_generate seed count)) is status left h = absurd (cc is)
asked_reads (Err place) is status left h = absurd (cc is)

-- no command that writes was asked for
pub asked_makes_none : (words : List (List ℕ)) → is_session (request_of_words words) ≡ true → (input : Option (List ℕ)) (old new : Option (List Op)) (start : Tree) → MakesHistory words input old new start
asked_makes_none words is input None new start = tt
asked_makes_none words is input (Some log) new start = λ job asked told. let e : is_session (Ok (to_do job)) ≡ true = sym (ap is_session asked) ∙ is in absurd (cc e)

-- nor was `gen`
pub asked_grows_none : (words : List (List ℕ)) → is_session (request_of_words words) ≡ true → (old new : Option (List Op)) (start : Tree) (status : ℕ) → GrowsRepository words old new start status
asked_grows_none words is None new start status = tt
asked_grows_none words is (Some log) new start status = λ seed count asked bare none. let e : is_session (Ok (to_generate seed count)) ≡ true = sym (ap is_session asked) ∙ is in absurd (cc e)

-- ---- something else is asked for

pub others_ask_none : (q : Result Request ℕ) → is_session q ≡ false → q ≡ Ok to_session → ⊥
others_ask_none q is e = let no : true ≡ false = sym (ap is_session e) ∙ is in cc no

pub others_keep_yard : (q : Result Request ℕ) (status : ℕ) → is_session q ≡ false → {Whole : Type 0} → Whole → KeepsYard q status Whole
others_keep_yard (Ok to_session) status is h = absurd (cc is)
others_keep_yard (Ok (to_answer question)) status is h = h
others_keep_yard (Ok (to_do job)) status is h = h
others_keep_yard (Ok to_play) status is h = h
others_keep_yard (Ok (to_verify jobs)) status is h = h
others_keep_yard (Ok (to_generate seed count)) status is h = h
others_keep_yard (Err place) status is h = h

pub others_keep_start : (q : Result Request ℕ) → is_session q ≡ false → {old new : Tree} → new ≡ old → KeepsStart q old new
others_keep_start (Ok to_session) is h = tt
others_keep_start (Ok (to_answer question)) is h = h
others_keep_start (Ok (to_do job)) is h = h
others_keep_start (Ok to_play) is h = h
others_keep_start (Ok (to_verify jobs)) is h = h
others_keep_start (Ok (to_generate seed count)) is h = h
others_keep_start (Err place) is h = h
