-- The step of a commit, of what each of its calls found.
use Rattle.std.proofs.Common.{◌≡◌, ℕ, List, ◌++◌, Bool, true, false, length, Option, None, Result, Ok, Err, refl, sym, ◌∙◌, ap, subst}
use Rattle.std.specs.Prelude.{⊤, ◌||◌}
use Rattle.std.specs.Bool.{MatchBool}
use Rattle.hgs_files.specs.declared.op.Op.{Op}
use Rattle.hgs_files.specs.Tree.{Tree}
use Rattle.hgs_index.specs.Revision.{Parents}
use Rattle.hgs_loading.specs.Theorems.FoundLemmas.{either}
use Rattle.hgs_loading.specs.Found.{and_then}
use Rattle.hgs_model.specs.declared.command.NewChange.{NewChange}
use Rattle.hgs_load.specs.Answer.{is_of_outside}
use Rattle.hgs_load.specs.declared.answer.ReadAnswer.{ReadAnswer}
use Rattle.hgs_steps.specs.Fault.{is_memory}
use Rattle.hgs_steps.specs.Parents.{named_all, parents_answer}
use Rattle.hgs_steps.specs.declared.fault.PlanFault.{PlanFault}
use Rattle.hgs_steps.specs.declared.loaded.Loaded.{Loaded}
use Rattle.hgs_steps.specs.declared.step.Step.{Step}
use Rattle.hgs_commit.specs.Changeset.{changeset_in, manifest_in}
use Rattle.hgs_path.specs.Fncache.{listing}
use Rattle.hgs_commit.specs.Commit.{AtRest, ClashBy, ClashOn, GivesWith, OfTexts, OfTrees, StepsOn, Steps, accepted, and_plan, both_parents, copies_tested, grown_in, grown_on, manifests_of, or_refused, or_unread, planned, step_copied, step_on, tested, texts_in, too_many_marks, trees_in, written_new, written_of, written_unless}
use Rattle.hgs_commit.specs.declared.fault.CommitFault.{CommitFault}
use Rattle.hgs_commit.specs.declared.fault.CommitFault.TheVariants.{Unread, Refused}
use Rattle.hgs_commit.specs.declared.hindrance.Hindrances.{Hindrances}
use Rattle.hgs_commit.specs.Hindered.{is_met, refusal_of}
use Rattle.hgs_commit.specs.Pushed.{IsNewText}
use Rattle.hgs_commit.specs.declared.new_text.NewText.{NewText}
use Rattle.hgs_revlog.specs.Log.{Log}
use Rattle.hgs_commit.specs.Obstacles.{Met, Obstacle, met_of, noted, nothing_met, noting}
use Rattle.hgs_commit.specs.Texts.{OfText}
use Rattle.hgs_commit.specs.Trees.{OfGrown, all_files_in, grown_of}
use Rattle.hgs_commit.specs.Tree.{ClashIn}
use Rattle.hgs_commit.proofs.TreeLemmas.{noted-append, noting-err, noting-ok}
use Rattle.hgs_commit.proofs.WholeLemmas.{clash-of-parents, clash-unasked, grown-of-parents, trees-unread}
use Rattle.hgs_commit.proofs.AnswerLemmas.{alone-both}
use Rattle.hgs_loading.specs.Parent.{Files}

-- ---- the texts

module _ (l : Loaded) (c : NewChange) (parents manifests : Parents) (x : OfGrown) (t : Tree) where
  abbrev link : ℕ
  link = length l.changelog.entries

  abbrev with_manifest : OfText × List Obstacle → Result (OfTexts × List Obstacle) ReadAnswer
  with_manifest m = and_then (changeset_in l.changelog c parents m.0.node x.changed t) (λ s. Ok (record { filelogs = x.growth; lines = x.lines; manifest = m.0.growth; changeset = s.0 }, m.1 ++ s.1))

  pub texts-found : (m between new : Met) (manifest changeset : OfText) → noting m (manifest_in l.manifest x.rows manifests link t) ≡ Ok (manifest, between) → noting between (changeset_in l.changelog c parents manifest.node x.changed t) ≡ Ok (changeset, new) →
      noting m (texts_in l c parents x manifests t) ≡ Ok (record { filelogs = x.growth; lines = x.lines; manifest = manifest.growth; changeset = changeset }, new)
  texts-found m between new manifest changeset a b =
      let p = noting-ok m between manifest (manifest_in l.manifest x.rows manifests link t) a in
      let q = noting-ok between new changeset (changeset_in l.changelog c parents manifest.node x.changed t) b in
      ap (λ r. noting m (and_then r with_manifest)) p.1
      ∙ ap (λ r. noting m (and_then r (λ s. Ok (record { filelogs = x.growth; lines = x.lines; manifest = manifest.growth; changeset = s.0 }, p.0 ++ s.1)))) q.1
      ∙ ap (λ n. Ok (record { filelogs = x.growth; lines = x.lines; manifest = manifest.growth; changeset = changeset }, n)) (noted-append m p.0 q.0 ∙ ap (λ k. noted k q.0) (sym p.2) ∙ sym q.2)

  pub texts-fault : (m between : Met) (manifest : OfText) (e : ReadAnswer) → noting m (manifest_in l.manifest x.rows manifests link t) ≡ Ok (manifest, between) → noting between (changeset_in l.changelog c parents manifest.node x.changed t) ≡ Err e → noting m (texts_in l c parents x manifests t) ≡ Err e
  texts-fault m between manifest e a b =
      let p = noting-ok m between manifest (manifest_in l.manifest x.rows manifests link t) a in
      ap (λ r. noting m (and_then r with_manifest)) p.1
      ∙ ap (λ r. noting m (and_then r (λ s. Ok (record { filelogs = x.growth; lines = x.lines; manifest = manifest.growth; changeset = s.0 }, p.0 ++ s.1)))) (noting-err between e (changeset_in l.changelog c parents manifest.node x.changed t) b)

-- ---- what was met refuses

pub written-refused : (x : OfTexts) (met : Hindrances) (f : PlanFault) → x.changeset.standing ≡ None → refusal_of met ≡ Err f → written_of x (met_of met) met.clash ≡ Err f
written-refused x met f new refused =
    ap (written_unless x (met_of met) met.clash) new ∙ ap (λ r. and_plan r (λ free. written_new x x.changeset.growth)) refused

-- ---- the step

pub free-any : (b : Bool) (P : Type 0) → P → MatchBool b ⊤ P
free-any true P p = tt
free-any false P p = p

-- what is met before a tree is looked at
abbrev pub start : Loaded → NewChange → Met
start l c = noted nothing_met (too_many_marks l c)

module _ (l : Loaded) (c : NewChange) (parents : Parents) (t : Tree) where
  abbrev behind_texts : Option (List ℕ) → Met → OfTexts × List Obstacle → Result Step CommitFault
  behind_texts clash m x = or_refused (planned l c parents x.0 (noted m x.1) clash) accepted

  abbrev behind_grown : Option (List ℕ) → (OfGrown × Parents) × List Obstacle → Result Step CommitFault
  behind_grown clash g = or_refused (tested parents g.0.0) (λ changed. or_unread (texts_in l c parents g.0.0 g.0.1 t) (behind_texts clash (noted (start l c) g.1)))

  abbrev behind_parents : Option (List ℕ) → Files × Files → Result Step CommitFault
  behind_parents clash p = or_refused (copies_tested p.0.1 p.1.1 c.files) (λ copied. step_copied clash l c parents t)

  pub step-orphan : (e : ReadAnswer) → MatchBool (is_of_outside e) ⊤ (both_parents l parents t ≡ Err e) → StepsOn l c parents t (Err (Unread e))
  step-orphan e h = either (is_of_outside e) (both_parents l parents t ≡ Err e) ((clash : Option (List ℕ)) × ClashOn l c (trees_in l c parents t) None clash × (step_on clash l c parents t ≡ Err (Unread e)))
      (λ k. (None, untold k, ap (λ r. or_unread r (behind_parents None)) k)) h
    where
      untold : both_parents l parents t ≡ Err e → ClashOn l c (trees_in l c parents t) None None
      untold k = let P : Result OfTrees ReadAnswer → Type 0 = λ r. ClashOn l c r None None in subst P (sym (trees-unread l c parents t e k)) tt

  module _ (first second : Files) (read : both_parents l parents t ≡ Ok (first, second)) where
    from-parents : (clash : Option (List ℕ)) → step_on clash l c parents t ≡ or_refused (copies_tested first.1 second.1 c.files) (λ copied. step_copied clash l c parents t)
    from-parents clash = ap (λ r. or_unread r (behind_parents clash)) read

    pub step-uncopied : (f : PlanFault) → MatchBool (is_memory f) ⊤ (copies_tested first.1 second.1 c.files ≡ Err f) → StepsOn l c parents t (Err (Refused f))
    step-uncopied f h = either (is_memory f) (copies_tested first.1 second.1 c.files ≡ Err f) ((clash : Option (List ℕ)) × ClashOn l c (trees_in l c parents t) None clash × (step_on clash l c parents t ≡ Err (Refused f)))
        (λ k. (None, clash-unasked l c parents t first second read f k, from-parents None ∙ ap (λ r. or_refused r (λ copied. step_copied None l c parents t)) k)) h

    module _ (copied : copies_tested first.1 second.1 c.files ≡ Ok tt) where
      from-copied : (clash : Option (List ℕ)) → step_on clash l c parents t ≡ step_copied clash l c parents t
      from-copied clash = from-parents clash ∙ ap (λ r. or_refused r (λ copied. step_copied clash l c parents t)) copied

      -- without the files of the commit
      pub step-unread : (e : ReadAnswer) → MatchBool (is_of_outside e) ⊤ (noting (start l c) (grown_on l c first second t) ≡ Err e) → StepsOn l c parents t (Err (Unread e))
      step-unread e h = either (is_of_outside e) (noting (start l c) (grown_on l c first second t) ≡ Err e) ((clash : Option (List ℕ)) × ClashOn l c (trees_in l c parents t) None clash × (step_on clash l c parents t ≡ Err (Unread e)))
          (λ k. (None, untold k, from-copied None ∙ ap (λ r. or_unread r (behind_grown None)) (unread k))) h
        where
          unread : noting (start l c) (grown_on l c first second t) ≡ Err e → grown_in l c parents t ≡ Err e
          unread k = grown-of-parents l c parents t first second read ∙ noting-err (start l c) e (grown_on l c first second t) k

          untold : noting (start l c) (grown_on l c first second t) ≡ Err e → ClashOn l c (trees_in l c parents t) None None
          untold k = by (trees_in l c parents t) (unread k)
            where
              by : (r : Result OfTrees ReadAnswer) → (let told : OfTrees → Result ((OfGrown × Parents) × List Obstacle) ReadAnswer = λ x. Ok ((grown_of x.first.1 x.second.1 x.files.0, manifests_of x), x.files.1) in and_then r told) ≡ Err e → ClashOn l c r None None
              by (Err f) g = tt
              by (Ok x) g = cc

      module _ (x : OfGrown) (manifests : Parents) (m : Met) (clash : Option (List ℕ)) (grown : noting (start l c) (grown_on l c first second t) ≡ Ok ((x, manifests), m)) (told : ClashOn l c (trees_in l c parents t) None clash) where
        from-grown : step_on clash l c parents t ≡ or_refused (tested parents x) (λ changed. or_unread (texts_in l c parents x manifests t) (behind_texts clash m))
        from-grown =
            let n = noting-ok (start l c) m (x, manifests) (grown_on l c first second t) grown in
            from-copied clash
            ∙ ap (λ r. or_unread r (behind_grown clash)) (grown-of-parents l c parents t first second read ∙ n.1)
            ∙ ap (λ k. or_refused (tested parents x) (λ changed. or_unread (texts_in l c parents x manifests t) (behind_texts clash k))) (sym n.2)

        pub step-unchanged : (f : PlanFault) → Err f ≡ tested parents x → StepsOn l c parents t (Err (Refused f))
        step-unchanged f h = free-any (is_memory f) _ (clash, told, from-grown ∙ ap (λ r. or_refused r (λ changed. or_unread (texts_in l c parents x manifests t) (behind_texts clash m))) (sym h))

        module _ (changed : Ok tt ≡ tested parents x) where
          from-changed : step_on clash l c parents t ≡ or_unread (texts_in l c parents x manifests t) (behind_texts clash m)
          from-changed = from-grown ∙ ap (λ r. or_refused r (λ changed. or_unread (texts_in l c parents x manifests t) (behind_texts clash m))) (sym changed)

          pub step-textless : (e : ReadAnswer) → MatchBool (is_of_outside e) ⊤ (noting m (texts_in l c parents x manifests t) ≡ Err e) → StepsOn l c parents t (Err (Unread e))
          step-textless e h = either (is_of_outside e) (noting m (texts_in l c parents x manifests t) ≡ Err e) ((clash : Option (List ℕ)) × ClashOn l c (trees_in l c parents t) None clash × (step_on clash l c parents t ≡ Err (Unread e)))
              (λ k. (clash, told, from-changed ∙ ap (λ r. or_unread r (behind_texts clash m)) (noting-err m e (texts_in l c parents x manifests t) k))) h

          module _ (texts : OfTexts) (new : Met) (found : noting m (texts_in l c parents x manifests t) ≡ Ok (texts, new)) where
            from-texts : step_on clash l c parents t ≡ or_refused (planned l c parents texts new clash) accepted
            from-texts =
                let n = noting-ok m new texts (texts_in l c parents x manifests t) found in
                from-changed ∙ ap (λ r. or_unread r (behind_texts clash m)) n.1 ∙ ap (λ k. or_refused (planned l c parents texts k clash) accepted) (sym n.2)

            pub step-refused : (f : PlanFault) → MatchBool (is_memory f) ⊤ (planned l c parents texts new clash ≡ Err f) → StepsOn l c parents t (Err (Refused f))
            step-refused f h = either (is_memory f) (planned l c parents texts new clash ≡ Err f) ((clash : Option (List ℕ)) × ClashOn l c (trees_in l c parents t) None clash × (step_on clash l c parents t ≡ Err (Refused f)))
                (λ k. (clash, told, from-texts ∙ ap (λ r. or_refused r accepted) k)) h

            pub step-found : (step : Step) → planned l c parents texts new clash ≡ Ok step → StepsOn l c parents t (Ok step)
            step-found step h = (clash, told, from-texts ∙ ap (λ r. or_refused r accepted) h)

-- ---- what the calls found, where nobody else writes

-- the files of the parents, the tree of the commit on them, and the clash that is told
abbrev pub IsGrownOn : Loaded → NewChange → Parents → Files → Files → OfGrown → Parents → Met → Option (List ℕ) → Tree → Type 0
IsGrownOn l c parents first second x manifests m clash t =
    (both_parents l parents t ≡ Ok (first, second)) × (noting (start l c) (grown_on l c first second t) ≡ Ok ((x, manifests), m)) × ClashOn l c (trees_in l c parents t) None clash

pub grown-alone : (l : Loaded) (c : NewChange) (parents : Parents) (first second : Files) (x : OfGrown) (manifests : Parents) (between m : Met) (old clash : Option (List ℕ)) (alone : Bool) (seen seen_next : Option (List Op)) (tree tree_next : Tree)
    → between ≡ start l c → old ≡ None → (alone ≡ true → seen_next ≡ seen) → tree_next ≡ tree
    → AtRest alone seen tree (λ t. both_parents l parents t ≡ Ok (first, second))
    → AtRest alone seen_next tree_next (λ t. noting between (grown_on l c first second t) ≡ Ok ((x, manifests), m))
    → AtRest alone seen_next tree_next (λ t. ClashIn (listing l.fncache) (all_files_in (listing l.fncache) (length l.changelog.entries) first.1 second.1 c.files t) old clash)
    → AtRest alone seen_next tree_next (IsGrownOn l c parents first second x manifests m clash)
grown-alone l c parents first second x manifests between m old clash alone seen seen_next tree tree_next started untold still same read found told =
    let Found : Tree → Type 0 = λ t. noting between (grown_on l c first second t) ≡ Ok ((x, manifests), m) in
    let Told : Tree → Type 0 = λ t. ClashIn (listing l.fncache) (all_files_in (listing l.fncache) (length l.changelog.entries) first.1 second.1 c.files t) old clash in
    alone-both alone seen seen_next tree tree_next (λ t. both_parents l parents t ≡ Ok (first, second)) (λ t. Found t × Told t) (IsGrownOn l c parents first second x manifests m clash) still same
    (λ t p q. (
      p,
      ap (λ k. noting k (grown_on l c first second t)) (sym started) ∙ q.0,
      (let P : Option (List ℕ) → Type 0 = λ o. ClashIn (listing l.fncache) (all_files_in (listing l.fncache) (length l.changelog.entries) first.1 second.1 c.files t) o clash in clash-of-parents l c parents t first second p None clash (subst P untold q.1)),
    ))
    read (alone-both alone seen_next seen_next tree_next tree_next Found Told (λ t. Found t × Told t) (λ h. refl) refl (λ t a b. (a, b)) found told)

-- ---- the parents

pub steps-named : (l : Loaded) (c : NewChange) (t : Tree) (parents : Parents) (result : Result Step CommitFault) → Ok parents ≡ parents_answer (named_all l c.parents) → StepsOn l c parents t result → Steps l c t result
steps-named l c t parents result e h =
    let P : Result Parents PlanFault → Type 0 = λ r. GivesWith (ClashBy l c t r) (λ clash. or_refused r (λ p. step_on clash l c p t)) result in
    subst P e h

pub steps-unnamed : (l : Loaded) (c : NewChange) (t : Tree) (f : PlanFault) → Err f ≡ parents_answer (named_all l c.parents) → Steps l c t (Err (Refused f))
steps-unnamed l c t f e =
    let P : Result Parents PlanFault → Type 0 = λ r. GivesWith (ClashBy l c t r) (λ clash. or_refused r (λ p. step_on clash l c p t)) (Err (Refused f)) in
    subst P e (free-any (is_memory f) _ (None, tt, refl))

-- ---- logs that may be inline

-- where nothing was met that an inline log is, both logs are separate
pub separate-logs : (a b met : Bool) → ((a || b) ≡ true → met ≡ true) → met ≡ false → (a ≡ false) × (b ≡ false)
separate-logs true b met some free = absurd (no (sym (some refl) ∙ free))
  where
    no : true ≡ false → ⊥
    no e = cc
separate-logs false true met some free = absurd (no (sym (some refl) ∙ free))
  where
    no : true ≡ false → ⊥
    no e = cc
separate-logs false false met some free = (refl, refl)

-- what was met stays met
pub met-more : (log : Log) (met more : Hindrances) (text : NewText) → (is_met met ≡ true → is_met more ≡ true) → IsNewText log met text → IsNewText log more text
met-more log met more text some is = record { pushes = is.pushes; index = is.index; lacking = λ a b. some (is.lacking a b) }
