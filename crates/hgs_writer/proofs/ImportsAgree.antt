-- An import is answered as the repository answers it.
use Rattle.std.proofs.Common.{◌≡◌, List, [], ◌∷◌, Bool, true, false, refl, sym, ◌∙◌, ap, subst, inl, inr, arith}
use Rattle.std.specs.Prelude.{Result, Ok, Err, ⊤}
use Rattle.std.specs.Bool.{MatchBool}
use Rattle.hgs_commit.specs.Commit.{is_free}
use Rattle.hgs_commit.specs.declared.fault.CommitFault.{CommitFault}
use Rattle.hgs_files.specs.Tree.{Tree}
use Rattle.hgs_model.specs.Repo.{Repo}
use Rattle.hgs_model.specs.Step.{Next, step}
use Rattle.hgs_model.specs.Valid.{AreNewChanges, IsValid}
use Rattle.hgs_model.specs.declared.command.Command.TheVariants.{Import}
use Rattle.hgs_model.specs.declared.command.NewChange.{NewChange}
use Rattle.hgs_model.specs.declared.command.Refusal.{Refusal}
use Rattle.hgs_ops.specs.Laid.{AreLaid, Record, changes_of, repo_behind}
use Rattle.hgs_ops.specs.Unhindered.{IsReady}
use Rattle.hgs_stands.specs.Stands.{Stands}
use Rattle.hgs_steps.specs.Planned.{IsLoadedOf}
use Rattle.hgs_steps.specs.declared.loaded.Loaded.{Loaded}
use Rattle.hgs_steps.specs.declared.step.Step.{Step}
use Rattle.hgs_transaction.specs.OfTransaction.{ArePartsOf}
use Rattle.hgs_legal.specs.ListsPaths.{ListsPaths}
use Rattle.hgs_writer.specs.BytePaths.{AreOfBytes}
use Rattle.hgs_writer.specs.Imports.{ComesToNothing, ImportAnswersAs, SomeRecord}
use Rattle.hgs_writer.specs.Joined.{all_laid, joined_parts, joined_paths}
use Rattle.hgs_writer.specs.Records.{AnswersLast, AreMore, ArePlanned, AreRefused, ImportComesTo, IsJoined, IsRefusedAmong, is_refused}
use Rattle.hgs_writer.proofs.FollowLemmas.{AreStepsOf, Laws, among-refused, follow, steps-answer, steps-few}
use Rattle.hgs_writer.proofs.ImportPartsLemmas.{LaidLaws, joined-parts}

abbrev pub ReadyLaw : Type 0
ReadyLaw = (t : Tree) (r : Repo) (x : Record) (records : List Record) → Stands t r → IsValid (Import (changes_of (x ∷ records))) → AreLaid t r (x ∷ records) → IsReady t r (Import (changes_of (x ∷ records))) (repo_behind r (x ∷ records))

-- the first one by what was loaded already is one like the others
planned-more : (t : Tree) (l : Loaded) (changes : List NewChange) (steps : List Step) → IsLoadedOf t l → ArePlanned t l changes steps → AreMore t changes steps
planned-more t l [] steps h planned = absurd planned
planned-more t l (n ∷ changes) [] h planned = absurd planned
planned-more t l (n ∷ changes) (s ∷ steps) h planned = (record { loaded = l; is_loaded = h; comes = planned.0 }, planned.1)

refused-among : (t : Tree) (l : Loaded) (n : NewChange) (changes : List NewChange) (fault : CommitFault) → IsLoadedOf t l → AreRefused t l (n ∷ changes) fault → IsRefusedAmong t (n ∷ changes) fault
refused-among t l n changes fault h (inl comes) = inl (is_refused l fault h comes)
refused-among t l n changes fault h (inr why) = inr (why.0, record { loaded = l; is_loaded = h; comes = why.1 }, why.2)

module _ (laws : Laws) (laid_laws : LaidLaws) (ready : ReadyLaw) where
  -- of the records as the repository accepts them
  accepted-import : (t : Tree) (r : Repo) (l : Loaded) (records : List Record) (steps : List Step) (s : Step) → Stands t r → IsLoadedOf t l → AreNewChanges (changes_of records) → AreLaid t r records → AreStepsOf t r records steps → AnswersLast steps s
      → s.parts ≡ joined_parts t l.standing (joined_paths (changes_of records)) (all_laid steps) → ImportAnswersAs t r (changes_of records) (Ok s) (step r (Import (changes_of records)))
  accepted-import t r l [] [] s stands h valid all are last parts = absurd last
  accepted-import t r l [] (x ∷ steps) s stands h valid all are last parts = absurd are
  accepted-import t r l (x ∷ records) [] s stands h valid all are last parts = absurd are
  accepted-import t r l (x ∷ records) (one ∷ steps) s stands h valid all are last parts =
      let answers = steps-answer laws t r x records (one ∷ steps) s are last in
      subst (ImportAnswersAs t r (changes_of (x ∷ records)) (Ok s)) (sym answers.accepted) (
        record {
          parts = subst (ArePartsOf t r (Import (changes_of (x ∷ records))) (repo_behind r (x ∷ records))) (sym parts) (joined-parts laid_laws t r l x records (one ∷ steps) stands h valid all are);
          rev = answers.rev;
          node = answers.node;
          few = steps-few t r x records (one ∷ steps) are;
          separate = are.0.2.separate;
        },
        ready t r x records stands valid all,
      )

  import-joined : (t : Tree) (r : Repo) (l : Loaded) (changes : List NewChange) (s : Step) → Stands t r → IsLoadedOf t l → AreNewChanges changes → AreOfBytes changes → ListsPaths t r → IsJoined t l changes s → ImportAnswersAs t r changes (Ok s) (step r (Import changes))
  import-joined t r l changes s stands h valid bytes lists joined =
      let f = follow laws t r changes joined.steps stands valid.each bytes lists (planned-more t l changes joined.steps h joined.planned) in
      subst (λ (these : List NewChange). ImportAnswersAs t r these (Ok s) (step r (Import these))) f.these
      (accepted-import t r l f.records joined.steps s stands h (subst AreNewChanges (sym f.these) valid) f.laid_are f.steps_are joined.answer
      (joined.parts ∙ ap (λ these. joined_parts t l.standing (joined_paths these) (all_laid joined.steps)) (sym f.these)))

  import-refused : (t : Tree) (r : Repo) (l : Loaded) (changes : List NewChange) (fault : CommitFault) → Stands t r → IsLoadedOf t l → AreNewChanges changes → AreOfBytes changes → ListsPaths t r → MatchBool (is_free fault) ⊤ (AreRefused t l changes fault) → MatchBool (is_free fault) ⊤ (SomeRecord (ComesToNothing fault) t r changes)
  import-refused t r l changes fault stands h valid bytes lists why = by (is_free fault) refl why
    where
      some : (changes : List NewChange) → is_free fault ≡ false → AreNewChanges changes → AreOfBytes changes → AreRefused t l changes fault → SomeRecord (ComesToNothing fault) t r changes
      some [] known valid bytes why = absurd (omega (arith, valid.least))
      some (n ∷ changes) known valid bytes why = among-refused laws t r (n ∷ changes) fault known stands valid.each bytes lists (refused-among t l n changes fault h why)

      by : (b : Bool) → is_free fault ≡ b → MatchBool b ⊤ (AreRefused t l changes fault) → MatchBool b ⊤ (SomeRecord (ComesToNothing fault) t r changes)
      by true e why = why
      by false e why = some changes e valid bytes why

  pub import-answers : (t : Tree) (r : Repo) (l : Loaded) (changes : List NewChange) (result : Result Step CommitFault) → Stands t r → IsLoadedOf t l → AreNewChanges changes → AreOfBytes changes → ListsPaths t r → ImportComesTo t l changes result → ImportAnswersAs t r changes result (step r (Import changes))
  import-answers t r l changes (Ok s) stands h valid bytes lists comes = import-joined t r l changes s stands h valid bytes lists comes
  import-answers t r l changes (Err fault) stands h valid bytes lists comes = by (step r (Import changes)) (import-refused t r l changes fault stands h valid bytes lists comes)
    where
      by : (a : Result Next Refusal) → MatchBool (is_free fault) ⊤ (SomeRecord (ComesToNothing fault) t r changes) → ImportAnswersAs t r changes (Err fault) a
      by a why = why
