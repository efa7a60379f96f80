-- What `branches` takes and writes over files at rest.
use Rattle.std.proofs.Common.{◌≡◌, ℕ, zero, suc, ◌+◌, ◌-◌, ◌<◌, ◌≤◌, Bool, true, false, List, [], ◌∷◌, ◌++◌, length, map, take, Option, Some, None, Result, Ok, Err, OnOk, if◌then◌else◌, refl, sym, ◌∙◌, ap, subst, arith}
use Rattle.std.specs.Prelude.{⊤, IfErr, nat_lt}
use Rattle.std.specs.Bool.{MatchBool}
use Rattle.std.proofs.lemmas.Bool.Decides.{nat_tests}
use Rattle.hgs_files.specs.declared.op.Op.{Op}
use Rattle.hgs_files.specs.Streams.{IsWritten}
use Rattle.hgs_files.specs.Tree.{Tree, after_all}
use Rattle.hgs_index.specs.Revision.{ParentsBefore}
use Rattle.hgs_index.specs.declared.entry.Entry.{Entry}
use Rattle.hgs_branch.specs.Taken.{with_changes, Taken}
use Rattle.hgs_branch.specs.Text.{branches_text}
use Rattle.hgs_branch.specs.declared.changeset.OnBranch.{OnBranch}
use Rattle.hgs_branches.specs.Read.{AreRead, IsRefused}
use Rattle.hgs_branches.specs.Rest.{branches_from}
use Rattle.hgs_branches.specs.Theorems.RestLemmas.{entry_parents, more_taken, none_taken, refused_taken, AreTaken}
use Rattle.hgs_branches.specs.Windows.{changes_asks}
use Rattle.hgs_load.specs.declared.answer.ReadAnswer.{ReadAnswer}
use Rattle.hgs_load.specs.declared.answer.ReadAnswer.TheVariants.{Memory}
use Rattle.hgs_load.specs.Answer.{is_of_outside}
use Rattle.hgs_load.specs.Asks.{Asks, answer, at_rest, then_asks, Answers}
use Rattle.hgs_load.specs.Given.{Gave, GaveRefused}
use Rattle.hgs_load.specs.Open.{open_asks}
use Rattle.hgs_load.specs.Theorems.AskLemmas.{either}
use Rattle.hgs_load.specs.Theorems.GivenLemmas.{gave-both, gave-then, refused-both, refused-then}
use Rattle.hgs_load.specs.Theorems.RestLemmas.{answers_at_rest}
use Rattle.hgs_load.specs.View.{View}
use Rattle.hgs_phases.specs.Phases.{history_of}
use Rattle.hgs_revlog.specs.Log.{nodes_of}
use Rattle.hgs_top.specs.declared.stopped.Stopped.{Stopped}
use Rattle.hgs_top.specs.declared.stopped.Stopped.TheVariants.{Refused}
use Rattle.hgs_top.specs.Branches.{all_asks, branches_at, branches_of_load, branches_outcome, heads_of_view, next_upto, steps_asks, TakesAll}
use Rattle.hgs_top.specs.Outcome.{Outcome, refused, told}
use Rattle.hgs_top.specs.Run.{OfTree, IsTold, IsCut, IsUnwritten}
use Rattle.hgs_top.proofs.ContentsLemmas.{refuse_with}
use Rattle.hgs_top.proofs.LogLemmas.{last_told, nothing_written, of_each}

-- ---- what was taken

pub taken_first : (seen : Option (List Op)) (start : Tree) (view : View) (b : Taken) → b ≡ record { parents = []; names = [] } → OfTree seen start (λ t. AreTaken t view 0 b)
taken_first None start view b is = tt
taken_first (Some l) start view b is = let P : Taken → Type 0 = λ x. AreTaken (after_all l start) view 0 x in subst P (sym is) (none_taken (after_all l start) view)

module _ (seen0 seen1 seen2 : Option (List Op)) (start0 start1 : Tree) (view : View) (count upto : ℕ) (b : Taken) (s1 : seen1 ≡ seen0) (s2 : seen2 ≡ seen1) (st : start1 ≡ start0) (size : length b.parents ≡ count) (h : OfTree seen0 start0 (λ t. AreTaken t view count b)) where
  pub taken_more : (new : Taken) → (changes : List OnBranch) × (new ≡ with_changes b changes) × (length b.parents + length changes ≡ upto) × AreRead seen1 start1 seen2 view (length b.parents) changes → OfTree seen0 start0 (λ t. AreTaken t view upto new)
  taken_more new k = by seen0 refl h
    where
      by : (seen : Option (List Op)) → seen0 ≡ seen → OfTree seen start0 (λ t. AreTaken t view count b) → OfTree seen start0 (λ t. AreTaken t view upto new)
      by None q is = tt
      by (Some l) q is =
          let P : Option (List Op) → Type 0 = λ o. AreRead o start1 seen2 view (length b.parents) k.0 in
          let Q : Tree → Type 0 = λ t. AreRead (Some l) t seen2 view (length b.parents) k.0 in
          let R : ℕ → Type 0 = λ n. AreRead (Some l) start0 seen2 view n k.0 in
          let read = subst R size (subst Q st (subst P (s1 ∙ q) k.3)) in
          let N : Taken → Type 0 = λ x. AreTaken (after_all l start0) view upto x in
          let sum = k.2 in
          subst N (sym k.1) (more_taken seen2 l start0 view count upto b k.0 (s2 ∙ s1 ∙ q) (omega (arith, sum, size)) is read)

  pub taken_refused : (new : Taken) (e : ReadAnswer) → upto ≤ length view.changelog.entries → IsRefused seen1 start1 seen2 view (length b.parents) upto e → OfTree seen0 start0 (λ t. TakesAll t view new (Err e))
  taken_refused new e le k = by seen0 refl h
    where
      by : (seen : Option (List Op)) → seen0 ≡ seen → OfTree seen start0 (λ t. AreTaken t view count b) → OfTree seen start0 (λ t. TakesAll t view new (Err e))
      by None q is = tt
      by (Some l) q is =
          let P : Option (List Op) → Type 0 = λ o. IsRefused o start1 seen2 view (length b.parents) upto e in
          let Q : Tree → Type 0 = λ t. IsRefused (Some l) t seen2 view (length b.parents) upto e in
          let R : ℕ → Type 0 = λ n. IsRefused (Some l) start0 seen2 view n upto e in
          refused_taken seen2 l start0 view count upto (length view.changelog.entries) b e (s2 ∙ s1 ∙ q) le is (subst R size (subst Q st (subst P (s1 ∙ q) k)))

whole : (entries : List Entry) → take (length entries) (entry_parents entries) ≡ history_of entries
whole [] = refl
whole (e ∷ entries) = ap (λ l. (e.p1, e.p2) ∷ l) (whole entries)

-- all were taken
pub taken_all : (seen : Option (List Op)) (start : Tree) (view : View) (count : ℕ) (b : Taken) (u : Unit) → count ≡ length view.changelog.entries → OfTree seen start (λ t. AreTaken t view count b) → OfTree seen start (λ t. TakesAll t view b (Ok u))
taken_all seen start view count b u is h =
    of_each seen start (λ t. AreTaken t view count b) (λ t. TakesAll t view b (Ok u))
    (λ t k. let P : ℕ → Type 0 = λ n. AreTaken t view n b in let all = subst P is k in (all.parents ∙ whole view.changelog.entries, all.names)) h

-- ---- what was read

abbrev pub Left : ℕ → ℕ → Option (List Op) → Tree → Option (List Op) → View → Option ℕ → ℕ → Type 0
Left g0 g1 before start now view steps taken = (calls : ℕ) × (length view.changelog.entries ≤ taken + calls) × Gave g0 g1 before start now (all_asks steps view) (steps_asks view steps taken calls)

module _ (g0 g1 g2 : ℕ) (before now next : Option (List Op)) (start start_now : Tree) (view : View) (steps : Option ℕ) (taken upto : ℕ) (begun : start_now ≡ start) (lt : taken < length view.changelog.entries) (is : upto ≡ next_upto steps (length view.changelog.entries) taken) where
  -- another call is asked for
  on : (calls : ℕ) → Gave g0 g1 before start now (all_asks steps view) (steps_asks view steps taken (suc calls)) → Gave g0 g1 before start now (all_asks steps view) (then_asks (changes_asks view taken upto) (λ x. steps_asks view steps upto calls))
  on calls gave =
      let test : nat_lt taken (length view.changelog.entries) ≡ true = grind (arith, nat_tests, lt) in
      let P : Bool → Type 0 = λ b. Gave g0 g1 before start now (all_asks steps view) (if b then then_asks (changes_asks view taken (next_upto steps (length view.changelog.entries) taken)) (λ x. steps_asks view steps (next_upto steps (length view.changelog.entries) taken) calls) else answer (Ok tt)) in
      let Q : ℕ → Type 0 = λ n. Gave g0 g1 before start now (all_asks steps view) (then_asks (changes_asks view taken n) (λ x. steps_asks view steps n calls)) in
      subst Q (sym is) (subst P test gave)

  pub step_on : taken < upto → Left g0 g1 before start now view steps taken → Gave g1 g2 now start_now next (changes_asks view taken upto) (answer (Ok tt)) → Left g0 g2 before start next view steps upto
  step_on more k h = by k.0 k.1 k.2
    where
      by : (calls : ℕ) → length view.changelog.entries ≤ taken + calls → Gave g0 g1 before start now (all_asks steps view) (steps_asks view steps taken calls) → Left g0 g2 before start next view steps upto
      by zero le gave = absurd (omega (arith, lt, le))
      by (suc calls) le gave = (
        calls,
        omega (arith, more, le),
        gave-both g0 g1 g2 before now next start start_now (all_asks steps view) (then_asks (changes_asks view taken upto) (λ x. steps_asks view steps upto calls)) (steps_asks view steps upto calls) begun (on calls gave)
            (gave-then g1 g2 now next start_now (changes_asks view taken upto) (answer (Ok tt)) (λ x. steps_asks view steps upto calls) h),
      )

  pub step_refused : (e : ReadAnswer) → Left g0 g1 before start now view steps taken → GaveRefused g1 g2 now start_now next (changes_asks view taken upto) e → GaveRefused g0 g2 before start next (all_asks steps view) e
  step_refused e k h = by k.0 k.1 k.2
    where
      by : (calls : ℕ) → length view.changelog.entries ≤ taken + calls → Gave g0 g1 before start now (all_asks steps view) (steps_asks view steps taken calls) → GaveRefused g0 g2 before start next (all_asks steps view) e
      by zero le gave = absurd (omega (arith, lt, le))
      by (suc calls) le gave =
          refused-both g0 g1 g2 before now next start start_now (all_asks steps view) (then_asks (changes_asks view taken upto) (λ x. steps_asks view steps upto calls)) e begun (on calls gave)
          (refused-then g1 g2 now next start_now (changes_asks view taken upto) (λ x. steps_asks view steps upto calls) e h)

-- no call is asked for
pub steps_end : (g0 g1 : ℕ) (before now : Option (List Op)) (start : Tree) (view : View) (steps : Option ℕ) (taken : ℕ) → length view.changelog.entries ≤ taken → Left g0 g1 before start now view steps taken → Gave g0 g1 before start now (all_asks steps view) (answer (Ok tt))
steps_end g0 g1 before now start view steps taken le k = by k.0 k.2
  where
    by : (calls : ℕ) → Gave g0 g1 before start now (all_asks steps view) (steps_asks view steps taken calls) → Gave g0 g1 before start now (all_asks steps view) (answer (Ok tt))
    by zero gave = gave
    by (suc calls) gave =
        let test : nat_lt taken (length view.changelog.entries) ≡ false = grind (arith, nat_tests, le) in
        let P : Bool → Type 0 = λ b. Gave g0 g1 before start now (all_asks steps view) (if b then then_asks (changes_asks view taken (next_upto steps (length view.changelog.entries) taken)) (λ x. steps_asks view steps (next_upto steps (length view.changelog.entries) taken) calls) else answer (Ok tt)) in
        subst P test gave

-- ---- what is written

-- what is told of the opened view holds of the outcome
opened : (seen0 seen1 : Option (List Op)) (start0 start1 : Tree) (view : View) (Q : Tree → Type 0) (P : Outcome → Type 0) → seen1 ≡ seen0 → start1 ≡ start0 → Answers (λ (s : View). s) seen0 start0 seen1 open_asks (Ok view) →
    ((t : Tree) → at_rest t open_asks ≡ Ok view → Q t → P (branches_outcome t)) → OfTree seen1 start1 Q → OfTree seen0 start0 (λ t. P (branches_outcome t))
opened None seen1 start0 start1 view Q P s st a f h = tt
opened (Some l) seen1 start0 start1 view Q P s st a f h =
    let found : at_rest (after_all l start0) open_asks ≡ Ok view = answers_at_rest (λ (v : View). v) (Some l) seen1 l start0 open_asks view refl s a in
    let S : Option (List Op) → Type 0 = λ o. OfTree o start1 Q in
    let T : Tree → Type 0 = λ q. Q (after_all l q) in
    f (after_all l start0) found (subst T st (subst S s h))

module _ (seen0 seen1 : Option (List Op)) (start0 start1 : Tree) (view : View) (s : seen1 ≡ seen0) (st : start1 ≡ start0) (a : Answers (λ (s : View). s) seen0 start0 seen1 open_asks (Ok view)) where
  -- a changeset was refused
  pub unread : (b : Taken) (e : ReadAnswer) (o : Option (List ℕ)) → OfTree seen1 start1 (λ t. TakesAll t view b (Err e)) → OfTree seen0 start0 (λ t. IsTold (branches_outcome t) o o (Err (Refused e)))
  unread b e o h =
      opened seen0 seen1 start0 start1 view (λ t. TakesAll t view b (Err e)) (λ q. IsTold q o o (Err (Refused e))) s st a
      (λ t found k. refuse_with (told (branches_outcome t)) o e (either (is_of_outside e) (branches_at t view ≡ Err e) (told (branches_outcome t) ≡ told (refused e)) (λ m. ap told (ap (branches_of_load t) found ∙ ap (heads_of_view view) m)) k)) h

  -- the lines were written, or a front of them
  pub heads_told : (b : Taken) (u : Unit) (old new : Option (List ℕ)) (lines : List ℕ) (r : Result Unit Stopped) → ((t : Tree) (v : View) → at_rest t open_asks ≡ Ok v → ParentsBefore 0 (history_of v.changelog.entries))
      → (ParentsBefore 0 b.parents → lines ≡ branches_text b.parents b.names (nodes_of view.changelog.entries)) → OnOk r (IsWritten old new lines) → IfErr r (λ e. IsUnwritten e × IsCut old new lines)
      → OfTree seen1 start1 (λ t. TakesAll t view b (Ok u)) → OfTree seen0 start0 (λ t. IsTold (branches_outcome t) old new r)
  heads_told b u old new lines r before printed ok err h =
      opened seen0 seen1 start0 start1 view (λ t. TakesAll t view b (Ok u)) (λ q. IsTold q old new r) s st a
      (λ t found k.
      let B : List (Option ℕ × Option ℕ) → Type 0 = λ p. ParentsBefore 0 p in
      let text = printed (subst B (sym k.0) (before t view found)) in
      let is : branches_outcome t ≡ record { text = lines; refusal = None } =
      ap (branches_of_load t) found ∙ ap (heads_of_view view) k.1
      ∙ ap (λ p. let o : Outcome = record { text = branches_text p b.names (nodes_of view.changelog.entries); refusal = None } in o) (sym k.0)
      ∙ ap (λ x. let o : Outcome = record { text = x; refusal = None } in o) (sym text) in
      let P : Outcome → Type 0 = λ q. IsTold q old new r in
      let none : Unit {0} = tt in
      subst P (sym is) (last_told (record { text = lines; refusal = None }) old old new lines none r ([], nothing_written old, refl, refl) ok err)) h

  -- there was no memory for them
  pub heads_lost : (o : Option (List ℕ)) → OfTree seen0 start0 (λ t. IsTold (branches_outcome t) o o (Err (Refused Memory)))
  heads_lost o = by seen0
    where
      by : (seen : Option (List Op)) → OfTree seen start0 (λ t. IsTold (branches_outcome t) o o (Err (Refused Memory)))
      by None = tt
      by (Some l) = (0, nothing_written o)
