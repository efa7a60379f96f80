-- What the records of an import come to, planned one after another.
use Rattle.std.specs.Prelude.{◌≡◌, ◌⊎◌, List, [], ◌∷◌, Result, Ok, Err, IfOk, ⊤}
use Rattle.std.specs.Bool.{MatchBool}
use Rattle.hgs_commit.specs.Commit.{Steps, is_free}
use Rattle.hgs_commit.specs.OfCommit.{ArePartsOfCommit}
use Rattle.hgs_commit.specs.declared.fault.CommitFault.{CommitFault}
use Rattle.hgs_commit.specs.declared.fault.CommitFault.TheVariants.{Unread, Refused}
use Rattle.hgs_files.specs.Tree.{Tree, after_all}
use Rattle.hgs_load.specs.Answer.{is_of_outside}
use Rattle.hgs_load.specs.declared.answer.ReadAnswer.{ReadAnswer}
use Rattle.hgs_loading.specs.Store.{loaded_in}
use Rattle.hgs_model.specs.declared.command.NewChange.{NewChange}
use Rattle.hgs_model.specs.declared.command.Refusal.TheVariants.{NothingChanged}
use Rattle.hgs_steps.specs.Planned.{IsLoadedOf}
use Rattle.hgs_steps.specs.declared.fault.PlanFault.TheVariants.{Refused as refused_for}
use Rattle.hgs_steps.specs.declared.loaded.Loaded.{Loaded}
use Rattle.hgs_steps.specs.declared.step.Step.{Step}
use Rattle.hgs_writer.specs.Joined.{all_laid, joined_parts, joined_paths, lays}

-- what a commit comes to by what was loaded of a tree, which it also reads; the parts of its step have a commit's shape
abbrev pub CommitComesTo : Tree → Loaded → NewChange → Result Step CommitFault → Type 0
CommitComesTo t l n result = Steps l n t result × IfOk result (λ step. ArePartsOfCommit l.changelog step.parts)

-- ---- their steps

-- a record comes to a step by what is loaded of a tree
pub record IsRecordOn (t : Tree) (n : NewChange) (s : Step) : Type 0 where
  pub loaded : Loaded
  pub is_loaded : IsLoadedOf t loaded
  pub comes : CommitComesTo t loaded n (Ok s)

-- Records come to these steps, each on the tree into which those before it are laid.
abbrev pub AreMore : Tree → List NewChange → List Step → Type 0
AreMore t [] [] = Unit {0}
AreMore t [] (s ∷ steps) = ⊥
AreMore t (n ∷ changes) [] = ⊥
AreMore t (n ∷ changes) (s ∷ steps) = IsRecordOn t n s × AreMore (after_all (lays s.parts) t) changes steps

-- The same, the first one by what was loaded already. There is a first one.
abbrev pub ArePlanned : Tree → Loaded → List NewChange → List Step → Type 0
ArePlanned t l [] steps = ⊥
ArePlanned t l (n ∷ changes) [] = ⊥
ArePlanned t l (n ∷ changes) (s ∷ steps) = CommitComesTo t l n (Ok s) × AreMore (after_all (lays s.parts) t) changes steps

-- ---- their refusal

-- a record comes to nothing: what it is planned of is refused, or it is
pub data IsRefusedOn (t : Tree) (n : NewChange) : CommitFault → Type 0 where
  is_unloaded : (e : ReadAnswer) → loaded_in t ≡ Err e → IsRefusedOn t n (Unread e)
  is_refused : (l : Loaded) (fault : CommitFault) → IsLoadedOf t l → CommitComesTo t l n (Err fault) → IsRefusedOn t n fault

-- One of the records is refused, on the tree into which those before it are laid.
abbrev pub IsRefusedAmong : Tree → List NewChange → CommitFault → Type 0
IsRefusedAmong t [] fault = ⊥
IsRefusedAmong t (n ∷ changes) fault = IsRefusedOn t n fault ⊎ ((s : Step) × IsRecordOn t n s × IsRefusedAmong (after_all (lays s.parts) t) changes fault)

-- The same, the first one by what was loaded already. Where there is none, nothing is changed.
abbrev pub AreRefused : Tree → Loaded → List NewChange → CommitFault → Type 0
AreRefused t l [] fault = fault ≡ Refused (refused_for (NothingChanged 0))
AreRefused t l (n ∷ changes) fault = CommitComesTo t l n (Err fault) ⊎ ((s : Step) × CommitComesTo t l n (Ok s) × IsRefusedAmong (after_all (lays s.parts) t) changes fault)

-- ---- the import

-- the changeset of the last one is answered
abbrev pub AnswersLast : List Step → Step → Type 0
AnswersLast [] step = ⊥
AnswersLast (last ∷ []) step = (step.rev ≡ last.rev) × (step.node ≡ last.node)
AnswersLast (s ∷ last ∷ steps) step = AnswersLast (last ∷ steps) step

-- the step of an import joins what the steps of its records lay over the tree
pub record IsJoined (t : Tree) (l : Loaded) (changes : List NewChange) (step : Step) : Type 0 where
  pub steps : List Step
  pub planned : ArePlanned t l changes steps
  pub parts : step.parts ≡ joined_parts t l.standing (joined_paths changes) (all_laid steps)
  pub answer : AnswersLast steps step

-- What an import comes to: its step, or the refusal of the first record that is refused; or a fault of the files was met, or no memory found.
abbrev pub ImportComesTo : Tree → Loaded → List NewChange → Result Step CommitFault → Type 0
ImportComesTo t l changes (Ok step) = IsJoined t l changes step
ImportComesTo t l changes (Err fault) = MatchBool (is_free fault) ⊤ (AreRefused t l changes fault)
