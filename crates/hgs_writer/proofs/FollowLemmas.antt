-- The records of an import, as the repository accepts them one after another.
use Rattle.std.proofs.Common.{◌≡◌, ℕ, List, [], ◌∷◌, Bool, true, false, ◌||◌, length, refl, sym, ◌∙◌, ap, subst, inl, inr, arith}
use Rattle.std.specs.Prelude.{Option, Result, Ok, Err, nat_lt, ⊤}
use Rattle.std.specs.Bool.{MatchBool}
use Rattle.std.specs.List.{AllByRecursion}
use Rattle.hgs_commit.specs.Commit.{ClashBy, commit_in, is_free}
use Rattle.hgs_commit.specs.declared.fault.CommitFault.{CommitFault}
use Rattle.hgs_commit.specs.declared.fault.CommitFault.TheVariants.{Unread, Refused}
use Rattle.hgs_files.specs.Tree.{Tree, after_all}
use Rattle.hgs_load.specs.Marks.{most_bookmarks}
use Rattle.hgs_load.specs.declared.answer.ReadAnswer.{ReadAnswer}
use Rattle.hgs_loading.specs.Store.{Loaded as Read, loaded_in}
use Rattle.hgs_model.specs.Repo.{Repo}
use Rattle.hgs_model.specs.Step.{Answer, Next, step}
use Rattle.hgs_model.specs.Valid.{IsNewChange, IsValid}
use Rattle.hgs_model.specs.declared.command.Command.TheVariants.{Commit, Import}
use Rattle.hgs_model.specs.declared.command.NewChange.{NewChange}
use Rattle.hgs_model.specs.declared.command.Refusal.{Refusal}
use Rattle.hgs_ops.specs.Laid.{AreLaid, Record, changes_of, laid, repo_behind, tree_behind}
use Rattle.hgs_ops.specs.Unhindered.{IsReady}
use Rattle.hgs_stands.specs.Stands.{Stands}
use Rattle.hgs_steps.specs.Parents.{named_all, parents_answer}
use Rattle.hgs_steps.specs.Planned.{IsLoadedOf, IsStepOf, passes_limit}
use Rattle.hgs_steps.specs.declared.fault.PlanFault.TheVariants.{Refused as refused_for}
use Rattle.hgs_steps.specs.declared.loaded.Loaded.{Loaded}
use Rattle.hgs_steps.specs.declared.step.Step.{Step}
use Rattle.hgs_writer.specs.Commits.{AnswersAs, AnswersWith}
use Rattle.hgs_legal.specs.ListsPaths.{ListsPaths}
use Rattle.hgs_writer.specs.BytePaths.{AreOfBytes, HasBytePaths}
use Rattle.hgs_writer.specs.Imports.{ComesToNothing, IsKeptBy, SomeRecord}
use Rattle.hgs_writer.specs.Limits.{LoadsWithin}
use Rattle.hgs_writer.specs.Records.{AnswersLast, AreMore, CommitComesTo, IsRefusedAmong, IsRefusedOn, is_refused, is_unloaded}
use Rattle.hgs_writer.proofs.LayingLemmas.{parts-lay}

-- what the laws of this crate and of those below say
pub record Laws : Type 0 where
  pub committed : (t : Tree) (r : Repo) (l : Loaded) (n : NewChange) (clash : Option (List ℕ)) → Stands t r → IsLoadedOf t l → IsNewChange n → AnswersAs t r l n clash (commit_in clash l n t) (step r (Commit n))
  pub stands : (t : Tree) (r : Repo) (x : Record) (records : List Record) → Stands t r → IsValid (Import (changes_of (x ∷ records))) → AreLaid t r (x ∷ records) → Stands (tree_behind t r (x ∷ records)) (repo_behind r (x ∷ records))
  pub lists : (t : Tree) (r next : Repo) (n : NewChange) (answer : Answer) → Stands t r → ListsPaths t r → IsNewChange n → step r (Commit n) ≡ Ok (next, answer) → IsReady t r (Commit n) next → ListsPaths (after_all (laid t r n next) t) next
  pub loads : (t : Tree) (r : Repo) → Stands t r → LoadsWithin t r → (read : Read) × (loaded_in t ≡ Ok read)
  pub one : (r : Repo) (n : NewChange) → step r (Import (n ∷ [])) ≡ step r (Commit n)
  pub more : (r mid : Repo) (n m : NewChange) (changes : List NewChange) (answer : Answer) → step r (Commit n) ≡ Ok (mid, answer) → step r (Import (n ∷ m ∷ changes)) ≡ step mid (Import (m ∷ changes))
  pub refused : (r : Repo) (n : NewChange) (changes : List NewChange) (why : Refusal) → step r (Commit n) ≡ Err why → step r (Import (n ∷ changes)) ≡ Err why

-- ---- records, one after another

-- each has the step that the repository makes of it
abbrev pub AreStepsOf : Tree → Repo → List Record → List Step → Type 0
AreStepsOf t r [] [] = Unit {0}
AreStepsOf t r [] (s ∷ steps) = ⊥
AreStepsOf t r (x ∷ records) [] = ⊥
AreStepsOf t r (x ∷ records) (s ∷ steps) = ((answer : Answer) × (step r (Commit x.0) ≡ Ok (x.1, answer)) × IsStepOf t r (Commit x.0) (x.1, answer) s) × AreStepsOf (after_all (laid t r x.0 x.1) t) x.1 records steps

pub record Followed (t : Tree) (r : Repo) (changes : List NewChange) (steps : List Step) : Type 0 where
  pub records : List Record
  pub these : changes_of records ≡ changes
  pub laid_are : AreLaid t r records
  pub steps_are : AreStepsOf t r records steps

or-false : (a b : Bool) → a ≡ false → b ≡ false → (a || b) ≡ false
or-false a b e f = ap (λ x. x || b) e ∙ f

or-left : (a b : Bool) → (a || b) ≡ false → a ≡ false
or-left true b e = e
or-left false b e = refl

or-right : (a b : Bool) → (a || b) ≡ false → b ≡ false
or-right true b e = cc
or-right false b e = e

pub steps-few : (t : Tree) (r : Repo) (x : Record) (records : List Record) (steps : List Step) → AreStepsOf t r (x ∷ records) steps → passes_limit r (repo_behind r (x ∷ records)) ≡ false
steps-few t r x records [] are = absurd are
steps-few t r x [] (s ∷ steps) are = are.0.2.few
steps-few t r x (y ∷ records) (s ∷ steps) are =
    or-false (nat_lt most_bookmarks (length r.bookmarks)) (nat_lt most_bookmarks (length (repo_behind r (x ∷ y ∷ records)).bookmarks)) (or-left _ _ are.0.2.few)
    (or-right (nat_lt most_bookmarks (length x.1.bookmarks)) _ (steps-few (after_all (laid t r x.0 x.1) t) x.1 y records steps are.1))

-- the import is accepted, and its answer is that of the last one
pub record AnswersAsLast (t : Tree) (r : Repo) (records : List Record) (step_is : Step) : Type 0 where
  pub answer : Answer
  pub accepted : step r (Import (changes_of records)) ≡ Ok (repo_behind r records, answer)
  pub rev : step_is.rev ≡ answer.rev
  pub node : step_is.node.0 ≡ answer.node

-- ---- one record

-- it is accepted, with this step, and the tree is ready if it lists only names of paths and the record's are bytes
pub record Accepts (t : Tree) (r : Repo) (n : NewChange) (s : Step) : Type 0 where
  pub next : Next
  pub is : step r (Commit n) ≡ Ok next
  pub as_step : IsStepOf t r (Commit n) next s
  pub ready : ListsPaths t r → HasBytePaths n → IsReady t r (Commit n) next.0

pub known-free : (b : Bool) (A : Type 0) → b ≡ false → MatchBool b ⊤ A → A
known-free true A e m = absurd (no e)
  where
    no : true ≡ false → ⊥
    no h = cc
known-free false A e m = m

module _ (laws : Laws) where
  accepts : (t : Tree) (r : Repo) (l : Loaded) (n : NewChange) (s : Step) → Stands t r → IsLoadedOf t l → IsNewChange n → CommitComesTo t l n (Ok s) → Accepts t r n s
  accepts t r l n s stands loaded good comes = by (step r (Commit n)) refl (subst (λ (a : Result Step CommitFault). AnswersWith IsTold t r n clash a (step r (Commit n))) comes.0.2 (laws.committed t r l n clash stands loaded good))
    where
      clash : Option (List ℕ)
      clash = comes.0.0

      IsTold : Type 0
      IsTold = ClashBy l n t (parents_answer (named_all l n.parents)) comes.0.0

      by : (a : Result Next Refusal) → step r (Commit n) ≡ a → AnswersWith (ClashBy l n t (parents_answer (named_all l n.parents)) comes.0.0) t r n comes.0.0 (Ok s) a → Accepts t r n s
      by (Err e) is h = absurd h
      by (Ok next) is h = record { next = next; is = is; as_step = h.as_step; ready = h.ready comes.0.1 }

  refuses : (t : Tree) (r : Repo) (l : Loaded) (n : NewChange) (fault : CommitFault) → is_free fault ≡ false → Stands t r → IsLoadedOf t l → IsNewChange n → CommitComesTo t l n (Err fault) → ComesToNothing fault t r n
  refuses t r l n fault known stands loaded good comes = by fault (step r (Commit n)) refl (subst (λ (a : Result Step CommitFault). AnswersWith (IsTold told.0) t r n told.0 a (step r (Commit n))) told.2 (laws.committed t r l n told.0 stands loaded good))
    where
      IsTold : Option (List ℕ) → Type 0
      IsTold clash = ClashBy l n t (parents_answer (named_all l n.parents)) clash

      told : (clash : Option (List ℕ)) × ClashBy l n t (parents_answer (named_all l n.parents)) clash × (commit_in clash l n t ≡ Err fault)
      told = known-free (is_free fault) ((clash : Option (List ℕ)) × ClashBy l n t (parents_answer (named_all l n.parents)) clash × (commit_in clash l n t ≡ Err fault)) known comes.0

      by : (f : CommitFault) (a : Result Next Refusal) → step r (Commit n) ≡ a → AnswersWith (ClashBy l n t (parents_answer (named_all l n.parents)) told.0) t r n told.0 (Err f) a → ComesToNothing f t r n
      by (Unread why) (Err e) is h = inl h
      by (Unread why) (Ok next) is h = inl h
      by (Refused f) (Err e) is h = subst (IsKeptBy t r n f) (sym is) h
      by (Refused f) (Ok next) is h = subst (IsKeptBy t r n f) (sym is) (record { loaded = l; is_loaded = loaded; clash = told.0; told = told.1; hinders = h })

  -- the tree into which it is laid stands for the next repository
  laid-stands : (t : Tree) (r : Repo) (n : NewChange) (next : Repo) (answer : Answer) → Stands t r → IsNewChange n → step r (Commit n) ≡ Ok (next, answer) → IsReady t r (Commit n) next → Stands (after_all (laid t r n next) t) next
  laid-stands t r n next answer s good e ready = laws.stands t r (n, next) [] s (record { least = omega arith; most = omega arith; each = (good, tt) }) (good, (answer, e), ready, tt)

  -- ---- records, one after another

  pub follow : (t : Tree) (r : Repo) (changes : List NewChange) (steps : List Step) → Stands t r → AllByRecursion IsNewChange changes → AreOfBytes changes → ListsPaths t r → AreMore t changes steps → Followed t r changes steps
  follow t r [] [] s good bytes lists more = record { records = []; these = refl; laid_are = tt; steps_are = tt }
  follow t r [] (x ∷ steps) s good bytes lists more = absurd more
  follow t r (n ∷ changes) [] s good bytes lists more = absurd more
  follow t r (n ∷ changes) (x ∷ steps) s good bytes lists more =
      let one = accepts t r more.0.loaded n x s more.0.is_loaded good.0 more.0.comes in
      let ready = one.ready lists bytes.0 in
      let u = after_all (laid t r n one.next.0) t in
      let rest = follow u one.next.0 changes steps (laid-stands t r n one.next.0 one.next.1 s good.0 one.is ready) good.1 bytes.1 (laws.lists t r one.next.0 n one.next.1 s lists good.0 one.is ready) (subst (λ ops. AreMore (after_all ops t) changes steps) (parts-lay t r one.next.0 n x.parts one.as_step.parts) more.1) in
      record {
        records = (n, one.next.0) ∷ rest.records;
        these = (let e = rest.these in λ i. n ∷ e i);
        laid_are = (good.0, (one.next.1, one.is), ready, rest.laid_are);
        steps_are = ((one.next.1, one.is, one.as_step), rest.steps_are);
      }

  -- ---- what they answer

  pub steps-answer : (t : Tree) (r : Repo) (x : Record) (records : List Record) (steps : List Step) (s : Step) → AreStepsOf t r (x ∷ records) steps → AnswersLast steps s → AnswersAsLast t r (x ∷ records) s
  steps-answer t r x records [] s are last = absurd are
  steps-answer t r x [] (one ∷ []) s are last = record {
    answer = are.0.0;
    accepted = laws.one r x.0 ∙ are.0.1;
    rev = last.0 ∙ are.0.2.rev;
    node = (let e = last.1 in λ i. (e i).0) ∙ are.0.2.node;
  }
  steps-answer t r x [] (one ∷ two ∷ steps) s are last = absurd are.1
  steps-answer t r x (y ∷ records) (one ∷ []) s are last = absurd are.1
  steps-answer t r x (y ∷ records) (one ∷ two ∷ steps) s are last =
      let rest = steps-answer (after_all (laid t r x.0 x.1) t) x.1 y records (two ∷ steps) s are.1 last in
      record { answer = rest.answer; accepted = laws.more r x.1 x.0 y.0 (changes_of records) are.0.0 are.0.1 ∙ rest.accepted; rev = rest.rev; node = rest.node }

  -- ---- refusals

  on-refused : (t : Tree) (r : Repo) (n : NewChange) (fault : CommitFault) → is_free fault ≡ false → Stands t r → IsNewChange n → IsRefusedOn t n fault → ComesToNothing fault t r n
  on-refused t r n fault known s good (is_unloaded e h) = inr (h, λ within. unread e h (laws.loads t r s within))
    where
      unread : (e : ReadAnswer) → loaded_in t ≡ Err e → (read : Read) × (loaded_in t ≡ Ok read) → ⊥
      unread e h there = no there.0 (sym h ∙ there.1)
        where
          no : (read : Read) → ◌≡◌ {A = Result Read ReadAnswer} (Err e) (Ok read) → ⊥
          no read k = cc
  on-refused t r n fault known s good (is_refused l f loaded comes) = refuses t r l n f known s loaded good comes

  pub among-refused : (t : Tree) (r : Repo) (changes : List NewChange) (fault : CommitFault) → is_free fault ≡ false → Stands t r → AllByRecursion IsNewChange changes → AreOfBytes changes → ListsPaths t r → IsRefusedAmong t changes fault → SomeRecord (ComesToNothing fault) t r changes
  among-refused t r [] fault known s good bytes lists why = absurd why
  among-refused t r (n ∷ changes) fault known s good bytes lists (inl why) = inl (on-refused t r n fault known s good.0 why)
  among-refused t r (n ∷ changes) fault known s good bytes lists (inr why) =
      let one = accepts t r why.1.loaded n why.0 s why.1.is_loaded good.0 why.1.comes in
      let ready = one.ready lists bytes.0 in
      let u = after_all (laid t r n one.next.0) t in
      inr (
        one.next,
        one.is,
        among-refused u one.next.0 changes fault known (laid-stands t r n one.next.0 one.next.1 s good.0 one.is ready) good.1 bytes.1 (laws.lists t r one.next.0 n one.next.1 s lists good.0 one.is ready)
            (subst (λ ops. IsRefusedAmong (after_all ops t) changes fault) (parts-lay t r one.next.0 n why.0.parts one.as_step.parts) why.2),
      )

  -- a refusal that is the repository's of a record is its refusal of the import
  pub refused-import : (t : Tree) (r : Repo) (changes : List NewChange) (e : Refusal) → SomeRecord (ComesToNothing (Refused (refused_for e))) t r changes → step r (Import changes) ≡ Err e
  refused-import t r [] e why = absurd why
  refused-import t r (n ∷ changes) e (inl why) = by (step r (Commit n)) refl why
    where
      by : (a : Result Next Refusal) → step r (Commit n) ≡ a → IsKeptBy t r n (refused_for e) a → step r (Import (n ∷ changes)) ≡ Err e
      by (Err f) is h = laws.refused r n changes f is ∙ (let g = told f h in λ i. Err (g i))
        where
          told : (f : Refusal) → refused_for e ≡ refused_for f → f ≡ e
          told f h = cc
      by (Ok next) is h = absurd h.hinders
  refused-import t r (n ∷ []) e (inr why) = absurd why.2
  refused-import t r (n ∷ m ∷ changes) e (inr why) = laws.more r why.0.0 n m changes why.0.1 why.1 ∙ refused-import (after_all (laid t r n why.0.0) t) why.0.0 (m ∷ changes) e why.2
