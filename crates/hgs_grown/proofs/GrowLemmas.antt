-- Commits that were done lead from a repository to the next, one after another.
use Rattle.std.proofs.Common.{◌≡◌, ◌⊎◌, inl, inr, Bool, true, false, ◌&&◌, ℕ, suc, ◌+◌, ◌<◌, ◌≤◌, ◌^◌, List, [], ◌++◌, append-nil, refl, sym, ◌∙◌, ap, subst, arith}
use Rattle.std.specs.Prelude.{Option, Some, None, Result, Ok, Err}
use Rattle.std.specs.Option.{option_and_then}
use Rattle.hgs_answers.specs.declared.answer.Answer.{Answer}
use Rattle.hgs_answers.specs.declared.outcome.Outcome.{Outcome}
use Rattle.hgs_answers.specs.declared.outcome.Outcome.TheVariants.{Done, Fault, Unfinished}
use Rattle.hgs_answers.specs.declared.outcome.Published.{Published}
use Rattle.hgs_files.specs.declared.op.Op.{Op}
use Rattle.hgs_files.specs.Tree.{Tree, after_all}
use Rattle.hgs_files.specs.Theorems.TreeLemmas.{after_all-append}
use Rattle.hgs_files.specs.Reads.{Rose}
use Rattle.hgs_gen.specs.Generated.{change_of, files_after, generated, next_number, number_after, path_of, text_of, with_text}
use Rattle.hgs_index.specs.declared.node.Node.{Node}
use Rattle.hgs_machine.specs.Refusals.{WereRefused, refusals_of_left}
use Rattle.hgs_machine.specs.Theorems.RefusedLemmas.{both-refused, fewer-refused}
use Rattle.hgs_model.specs.Repo.{Repo}
use Rattle.hgs_model.specs.Step.{Next, step}
use Rattle.hgs_model.specs.Valid.{IsNewChange}
use Rattle.hgs_model.specs.declared.command.Command.{Command}
use Rattle.hgs_model.specs.declared.command.Command.TheVariants.{Commit}
use Rattle.hgs_model.specs.declared.command.NewChange.{NewChange}
use Rattle.hgs_model.specs.declared.files.NewFile.{NewFile}
use Rattle.hgs_model.specs.declared.command.Refusal.{Refusal}
use Rattle.hgs_stands.specs.Stands.{Stands}
use Rattle.hgs_legal.specs.ListsPaths.{ListsOnlyPaths, ListsPaths}
use Rattle.hgs_writer.specs.Alone.{IsAnswered, IsDoneAs}
use Rattle.hgs_writer.specs.Refusals.{refusals_of, refusals_of_outcome}
use Rattle.hgs_writer.specs.Written.{IsWritten}
use Rattle.hgs_grown.specs.Grown.{AreCommitted, CommitsNext, GrowsTo, LeftHasCause, grown, is_swept, next_repo, nothing, one_more}
use Rattle.hgs_grown.specs.declared.commits.Stop.{Stop}
use Rattle.hgs_grown.specs.declared.commits.Tip.{Tip}
use Rattle.hgs_grown.specs.declared.commits.Stop.TheVariants.{Memory, Answered}

-- what a call leaves that was alone
abbrev pub Leaves : Type 0
Leaves = (t : Tree) (r : Repo) (n : ℕ) (seed : ℕ) (who : List ℕ) (answer : Answer) (done : List Op) → Stands t r → IsNewChange (generated seed n) → ListsPaths t r → IsWritten who (Commit (generated seed n)) t answer done
    → IsAnswered r (step r (Commit (generated seed n))) answer.outcome (after_all done t)

-- and of its list of filelogs
abbrev pub Lists : Type 0
Lists = (t : Tree) (r : Repo) (n : ℕ) (seed : ℕ) (who : List ℕ) (answer : Answer) (done : List Op) → Stands t r → IsNewChange (generated seed n) → ListsPaths t r → IsWritten who (Commit (generated seed n)) t answer done
    → ListsOnlyPaths (after_all done t)

module _ (law : Leaves) (list_law : Lists) (valid : (seed made : ℕ) → seed < 2 ^ 64 → made < 20000 → IsNewChange (generated seed made)) (who : List ℕ) (seed count : ℕ) (t : Tree) (r : Repo) (small : seed < 2 ^ 64) (few : count ≤ 5000) (stands : Stands t r) (lists : ListsPaths t r) where
  accepted : (stepped : Result Next Refusal) (rev : ℕ) (node : Node) (u : Tree) → IsDoneAs stepped rev node u → (s : Repo) × (next_repo stepped ≡ Some s) × Stands u s
  accepted (Ok next) rev node u h = (next.0, refl, h.0)
  accepted (Err e) rev node u h = absurd h

  pub leads : (n : ℕ) (last : Option Tip) (done : List Op) → n ≤ count → AreCommitted who seed t n last done → (s : Repo) × (grown seed n r ≡ Some s) × Stands (after_all done t) s × ListsPaths (after_all done t) s
  leads _ _ _ le nothing = (r, refl, stands, lists)
  leads _ _ _ le (one_more n last done more answer rev node before written is) =
      let sofar = leads n last done (omega (arith, le)) before in
      let u = after_all done t in
      let good = valid seed n small (omega (arith, le, few)) in
      let left = law u sofar.0 n seed who answer more sofar.2 good sofar.3 written in
      let next = accepted (step sofar.0 (Commit (generated seed n))) rev node (after_all more u) (subst (λ o. IsAnswered sofar.0 (step sofar.0 (Commit (generated seed n))) o (after_all more u)) is left) in (
        next.0,
        ap (option_and_then (λ s. next_repo (step s (Commit (generated seed n))))) sofar.1 ∙ next.1,
        subst (λ v. Stands v next.0) (sym (after_all-append done more t)) next.2,
        subst (λ v. ListsPaths v next.0) (sym (after_all-append done more t)) (list_law u sofar.0 n seed who answer more sofar.2 good sofar.3 written next.0 (inl next.2)),
      )

-- ---- one commit after another

pub is-generated : (seed n before new : ℕ) (files : List NewFile) (change : NewChange) → before ≡ number_after seed n → files ≡ files_after seed n → new ≡ next_number before → change ≡ change_of n (with_text (path_of new) (text_of n new) files) → change ≡ generated seed n
is-generated seed n before new files change number_is files_are next is =
    let at = number_after seed (suc n) in
    is ∙ ap (λ x. change_of n (with_text (path_of x) (text_of n x) files)) (next ∙ ap next_number number_is) ∙ ap (λ l. change_of n (with_text (path_of at) (text_of n at) l)) files_are

module _ (G : Type 0) (who : List ℕ) (seed count : ℕ) where
  pub stops-behind : (stop : Stop) (n : ℕ) (last : Option Tip) (t : Tree) (a b : List Op) → n < count → AreCommitted who seed t n last a → CommitsNext {G = G} who seed n (is_swept last) (Err stop) (after_all a t) b → GrowsTo who seed count (Err stop) t (a ++ b)
  stops-behind (Memory swept) n last t a b lt before h = (n, last, lt, subst (AreCommitted who seed t n last) (sym (ap (λ l. a ++ l) h.0 ∙ append-nil a)) before, h.1)
  stops-behind (Answered command answer swept) n last t a b lt before h =
      record { made = n; last = last; done = a; more = b; fewer = lt; committed = before; next = h.0; written = h.1; refused = h.2; left = h.3; all = refl }

  pub stops-first : (stop : Stop) (n : ℕ) (t : Tree) (b : List Op) → n ≡ 0 → n < count → CommitsNext {G = G} who seed n true (Err stop) t b → GrowsTo who seed count (Err stop) t b
  stops-first stop n t b zero_is lt h = stops-behind stop 0 None t [] b (subst (λ k. k < count) zero_is lt) nothing (subst (λ k. CommitsNext {G = G} who seed k true (Err stop) t b) zero_is h)

  pub goes-behind : (next : G × Tip) (n made : ℕ) (last : Option Tip) (t : Tree) (a b : List Op) → made ≡ n + 1 → AreCommitted who seed t n last a → CommitsNext {G = G} who seed n (is_swept last) (Ok next) (after_all a t) b → AreCommitted who seed t made (Some next.1) (a ++ b)
  goes-behind next n made last t a b is before h =
      let more : made ≡ suc n = is ∙ (let e : n + 1 ≡ suc n = omega arith in e) in
      subst (λ k. AreCommitted who seed t k (Some next.1) (a ++ b)) (sym more) (subst (λ (x : Tip). AreCommitted who seed t (suc n) (Some x) (a ++ b)) (sym h.5) (one_more n last a b h.0 h.1 h.2 before h.3 h.4))

  pub goes-first : (next : G × Tip) (n made : ℕ) (t : Tree) (b : List Op) → n ≡ 0 → made ≡ n + 1 → CommitsNext {G = G} who seed n true (Ok next) t b → AreCommitted who seed t made (Some next.1) b
  goes-first next n made t b zero_is is h = goes-behind next 0 made None t [] b (is ∙ ap (λ k. k + 1) zero_is) nothing (subst (λ k. CommitsNext {G = G} who seed k true (Ok next) t b) zero_is h)

-- ---- causes

both-left : (a b : Bool) → refusals_of_left (a && b) ≤ refusals_of_left a + refusals_of_left b
both-left true b = omega arith
both-left false b = omega arith

-- a count that rose since calls were refused
rose-since : (n f g h d e : ℕ) → WereRefused n f g d e → Rose g h → Rose f h
rose-since n f g h d e calls rose = omega (arith, calls.faults, rose)

wanted-since : (n f g d e i : ℕ) → WereRefused n f g d e → Rose e i → Rose d i
wanted-since n f g d e i calls rose = omega (arith, calls.denied, rose)

-- what a call that was done leaves over
pub left-since : (told before : Bool) (answer : Answer) (rev : ℕ) (node : Node) (f g h d e i : ℕ) → answer.outcome ≡ Done rev node → WereRefused (refusals_of_left before) f g d e → WereRefused (refusals_of told answer) g h e i
    → WereRefused (refusals_of_left (before && answer.swept)) f h d i
left-since told before answer rev node f g h d e i done first more =
    let own = subst (λ (o : Outcome). WereRefused (refusals_of_outcome told o + refusals_of_left answer.swept) g h e i) done more in
    fewer-refused (refusals_of_left (before && answer.swept)) (refusals_of_left before + (0 + refusals_of_left answer.swept)) f h d i (omega (arith, both-left before answer.swept))
    (both-refused (refusals_of_left before) (0 + refusals_of_left answer.swept) f g h d e i first own)

-- one that was answered otherwise
pub stops-since : (told before : Bool) (command : Command) (answer : Answer) (f g h d e i : ℕ) → (answer.outcome ≡ Fault → Rose g h) → ((published : Published) → answer.outcome ≡ Unfinished published → Rose g h ⊎ Rose e i) → WereRefused (refusals_of told answer) g h e i
    → WereRefused (refusals_of_left before) f g d e → LeftHasCause told f h d i (Err (Answered command answer before))
stops-since told before command answer f g h d e i fault unfinished calls first = (
  λ x. rose-since (refusals_of_left before) f g h d e first (fault x),
  λ published x. by (unfinished published x),
  fewer-refused (refusals_of told answer + refusals_of_left before) (refusals_of_left before + refusals_of told answer) f h d i (omega arith) (both-refused (refusals_of_left before) (refusals_of told answer) f g h d e i first calls),
)
  where
    by : Rose g h ⊎ Rose e i → Rose f h ⊎ Rose d i
    by (inl r) = inl (rose-since (refusals_of_left before) f g h d e first r)
    by (inr r) = inr (wanted-since (refusals_of_left before) f g d e i first r)

-- whether the log is told stays as it is
pub told-as : (told now : Bool) (f g d e : ℕ) (result : Result Tip Stop) → now ≡ told → LeftHasCause now f g d e result → LeftHasCause told f g d e result
told-as told now f g d e result same h = subst (λ b. LeftHasCause b f g d e result) same h
