-- Questions of a session beside writers.
use Rattle.std.proofs.Common.{◌≡◌, ◌⊎◌, ◌≤◌, ◌<◌, ℕ, List, [], ◌∷◌, ◌++◌, length, sym, ◌∙◌, ap, subst, inl, inr}
use Rattle.std.specs.Prelude.{IfSome, None, Ok, Err, Option, Result, Some, slice_get}
use Rattle.std.specs.List.{AllByRecursion}
use Rattle.hgs_bytes.specs.Bytes.{IsPrefixOf}
use Rattle.hgs_files.specs.declared.op.Op.{Op}
use Rattle.hgs_files.specs.Reads.{Covers, Grows}
use Rattle.hgs_headline.specs.WritersLog.{WritersLog, course_of, state_after}
use Rattle.hgs_legal.specs.Numbers.{b_of, n_of, repo_at, w_of}
use Rattle.hgs_load.specs.Asks.{MayAnswer}
use Rattle.hgs_load.specs.Beyond.{MayAnswerBeyond}
use Rattle.hgs_load.specs.Open.{open_asks}
use Rattle.hgs_load.specs.Refresh.{refresh_asks}
use Rattle.hgs_load.specs.Theorems.AskLemmas.{prefix-refl, prefix-trans}
use Rattle.hgs_load.specs.View.{View}
use Rattle.hgs_load.specs.declared.answer.ReadAnswer.{ReadAnswer}
use Rattle.hgs_load.specs.declared.answer.ReadAnswer.TheVariants.{Fault}
use Rattle.hgs_model.specs.IsRepo.{IsRepo}
use Rattle.hgs_model.specs.Names.{named as model_named}
use Rattle.hgs_model.specs.Repo.{Changeset, Repo}
use Rattle.hgs_questions.specs.Asked as asked_by
use Rattle.hgs_questions.specs.Asked.{Asked, Tells, broken, forgone, loaded, unloaded}
use Rattle.hgs_questions.specs.Questions.{front_asks, load_asks}
use Rattle.hgs_questions.specs.Said.{behind, refused, said}
use Rattle.hgs_script.specs.declared.job.Question.{Question}
use Rattle.hgs_script.specs.declared.job.Question.TheVariants as questions
use Rattle.hgs_script.specs.declared.result.Answered.{Answered}
use Rattle.hgs_views.specs.Course.{OpensAlong, ReadsAlong}
use Rattle.hgs_views.specs.Says.{SaysOf, TellsOf}
use Rattle.hgs_views.specs.Seen.{IsLoadedBetween, NoneFell, Numbers, seen}
use Rattle.hgs_history.specs.Beside.{AreNoOlder, IsAnsweredOf, IsKnown, IsNotLoaded, IsStatusBeside}
use Rattle.hgs_history.specs.Said as said_of
use Rattle.hgs_history.specs.Said.{IsOf, front_of}
use Rattle.hgs_history.proofs.Texts.{answer-status, element, log-told, question-told}

-- what the crates below say of loads and views
pub record Below : Type 0 where
  pub opened : (h : WritersLog) (first last : List Op) (y : Result View ReadAnswer) → IsPrefixOf last h.log → OpensAlong (course_of h) first last → MayAnswer h.start first open_asks last y → (v : Numbers) × (view : View) × (y ≡ Ok view) × IsLoadedBetween (course_of h) first last v view
  pub refreshed : (h : WritersLog) (began ended first last : List Op) (v : Numbers) (old : View) (y : Result View ReadAnswer) → IsPrefixOf last h.log → OpensAlong (course_of h) first last → IsLoadedBetween (course_of h) began ended v old → IsPrefixOf ended first → MayAnswer h.start first (refresh_asks old) last y
      → (w : Numbers) × (view : View) × (y ≡ Ok view) × IsLoadedBetween (course_of h) first last w view × NoneFell v w
  pub numbers : (h : WritersLog) (front from last : List Op) (v : Numbers) (view : View) → IsPrefixOf last h.log → IsPrefixOf front from → IsLoadedBetween (course_of h) from last v view
      → (b_of (state_after h front) ≤ v.marked) × (w_of (state_after h front) ≤ v.worked) × (n_of (state_after h front) ≤ v.read) × (n_of (state_after h front) ≤ v.rooted)
  pub tells : (h : WritersLog) (began ended first last : List Op) (v : Numbers) (view : View) (rev : ℕ) (c : Changeset) → IsPrefixOf last h.log → OpensAlong (course_of h) first last → ReadsAlong (course_of h) first last → IsLoadedBetween (course_of h) began ended v view → IsPrefixOf ended first → IsPrefixOf first last
      → slice_get (repo_at h.last v.read).changesets rev ≡ Some c → TellsOf (course_of h) first last view (seen (course_of h) v) rev c
  pub repository : (h : WritersLog) (first last : List Op) (v : Numbers) (view : View) → IsPrefixOf last h.log → IsLoadedBetween (course_of h) first last v view → IsRepo (seen (course_of h) v)
  pub says : (h : WritersLog) (first last : List Op) (v : Numbers) (view : View) → IsPrefixOf last h.log → IsLoadedBetween (course_of h) first last v view → SaysOf view (seen (course_of h) v)
  pub there : (r : Repo) (name : List ℕ) (rev : ℕ) → IsRepo r → model_named r name ≡ Some rev → rev < length r.changesets

-- a list that begins another, in both forms
covered : (h : WritersLog) (w : Numbers) (told : List (List Op)) (from : List Op) → ((front : List Op) → IsPrefixOf front from → AreNoOlder h w front) → Covers told from → AllByRecursion (AreNoOlder h w) told
covered h w [] from each c = tt
covered h w (front ∷ told) from each c = (each front (c.0.0, sym c.0.1), covered h w told from each c.1)

module _ (b : Below) (h : WritersLog) (told : List (List Op)) (first last : List Op) (on : IsPrefixOf last h.log) (opens : OpensAlong (course_of h) first last) (reads : ReadsAlong (course_of h) first last) where
  opens-between : (from mid : List Op) → IsPrefixOf first from → IsPrefixOf mid last → OpensAlong (course_of h) from mid
  opens-between from mid p q log between = opens log (record { begins = prefix-trans first from log p between.begins; ends = prefix-trans log mid last between.ends q })

  -- what a load of this view before comes to
  abbrev Comes : Option View → Numbers → List Op → List Op → Result View ReadAnswer → Type 0
  Comes old v from mid y = (w : Numbers) × (view : View) × (y ≡ Ok view) × IsLoadedBetween (course_of h) from mid w view × IfSome old (λ o. NoneFell v w)

  load-comes : (old : Option View) (v : Numbers) (from mid : List Op) (y : Result View ReadAnswer) → IfSome old (IsKnown h first v) → IsPrefixOf first from → IsPrefixOf mid last → MayAnswer h.start from (load_asks old) mid y → Comes old v from mid y
  load-comes None v from mid y known p q m =
      let l = b.opened h from mid y (prefix-trans mid last h.log q on) (opens-between from mid p q) m in
      (l.0, l.1, l.2, l.3, tt)
  load-comes (Some old) v from mid y known p q m =
      b.refreshed h known.began known.ended from mid v old y (prefix-trans mid last h.log q on) (opens-between from mid p q) known.loaded (prefix-trans known.ended first from known.before p) m

  ok-is : (a c : View) → (let y : Result View ReadAnswer = Ok a in y) ≡ Ok c → c ≡ a
  ok-is a c e = cc

  not-ok : (e : ReadAnswer) (c : View) → (let y : Result View ReadAnswer = Err e in y) ≡ Ok c → ⊥
  not-ok e c h = cc

  older : (front from mid : List Op) (w : Numbers) (view : View) → IsPrefixOf mid last → IsPrefixOf front from → IsLoadedBetween (course_of h) from mid w view → AreNoOlder h w front
  older front from mid w view q p l = let n = b.numbers h front from mid w view (prefix-trans mid last h.log q on) p l in record { marked = n.0; worked = n.1; read = n.2; rooted = n.3 }

  -- ---- what is told of a view

  module _ (from mid : List Op) (w : Numbers) (view : View) (p : IsPrefixOf first from) (q : IsPrefixOf mid last) (l : IsLoadedBetween (course_of h) from mid w view) where
    from-mid : IsPrefixOf from mid
    from-mid =
        let r = l.reads in
        prefix-trans from r.bookmarks mid r.from_first (prefix-trans r.bookmarks r.dirstate mid r.then_dirstate (prefix-trans r.dirstate r.changelog mid r.then_changelog (prefix-trans r.changelog r.roots mid r.then_roots r.to_last)))

    first-mid : IsPrefixOf first mid
    first-mid = prefix-trans first from mid p from-mid

    shown : Repo
    shown = seen (course_of h) w

    on-mid : IsPrefixOf mid h.log
    on-mid = prefix-trans mid last h.log q on

    known : (rev : ℕ) → rev < length (seen (course_of h) w).changesets → (c : Changeset) × (slice_get (seen (course_of h) w).changesets rev ≡ Some c) × TellsOf (course_of h) mid last view (seen (course_of h) w) rev c
    known rev few =
        let c = element (repo_at h.last w.read).changesets rev few in (
          c.0,
          c.1,
          b.tells h from mid mid last w view rev c.0 on (λ log between. opens log (record { begins = prefix-trans first mid log first-mid between.begins; ends = between.ends }))
              (λ log between. reads log (record { begins = prefix-trans first mid log first-mid between.begins; ends = between.ends })) l (prefix-refl mid) q c.1,
        )

    named-there : (name : List ℕ) (rev : ℕ) → model_named (seen (course_of h) w) name ≡ Some rev → rev < length (seen (course_of h) w).changesets
    named-there name rev e = b.there (seen (course_of h) w) name rev (b.repository h from mid w view on-mid l) e

    -- the front before the line of a fault
    front-told : (question : Question) (count : ℕ) (text : List ℕ) → MayAnswer h.start mid (front_asks view question count) last (said text) → text ≡ front_of (seen (course_of h) w) question count
    front-told (questions.Phase name) count text m = ap (λ (a : Answered). a.text) m.1
    front-told questions.Log count text m = ap (λ (a : Answered). a.text) (log-told (course_of h) mid last view (seen (course_of h) w) (b.says h from mid w view on-mid l) known named-there count (said text) m)
    front-told questions.Heads count text m = ap (λ (a : Answered). a.text) m.1
    front-told questions.Bookmarks count text m = ap (λ (a : Answered). a.text) m.1
    front-told questions.Parents count text m = ap (λ (a : Answered). a.text) m.1
    front-told (questions.Files name) count text m = ap (λ (a : Answered). a.text) m.1
    front-told (questions.Cat name path) count text m = ap (λ (a : Answered). a.text) m.1

    told-of : (question : Question) (faults_old faults_new : ℕ) (answered : Answered) → Tells (Some mid) h.start (Some last) view question faults_old faults_new answered → IsOf (seen (course_of h) w) question faults_old faults_new answered
    told-of question faults_old faults_new answered (asked_by.whole m) = said_of.whole (question-told (course_of h) mid last view (seen (course_of h) w) (b.says h from mid w view on-mid l) known named-there question answered m)
    told-of question faults_old faults_new answered (asked_by.cut count text m rose e) = said_of.cut count rose (e ∙ ap (λ t. behind t (refused Fault)) (front-told question count text m))
    told-of question faults_old faults_new answered (asked_by.untold e) = said_of.untold e

    status-of : (r : Repo) (question : Question) (faults_old faults_new : ℕ) (answered : Answered) → IsOf r question faults_old faults_new answered → IsStatusBeside answered.status
    status-of r question faults_old faults_new answered (said_of.whole e) = subst (λ (a : Answered). IsStatusBeside a.status) (sym e) (answer-status r question)
    status-of r question faults_old faults_new answered (said_of.cut count rose e) = inr (inr (inl (ap (λ (a : Answered). a.status) e)))
    status-of r question faults_old faults_new answered (said_of.untold e) = inr (inr (inr (inr (inl (ap (λ (a : Answered). a.status) e)))))

  -- ---- the whole

  answered-of : (old : Option View) (v : Numbers) (new : Option View) (question : Question) (faults_old faults_new : ℕ) (answered : Answered) (view : View) (mid : List Op) → IfSome old (IsKnown h first v) → IsPrefixOf mid last
      → MayAnswerBeyond told (Some first) h.start (Some mid) (load_asks old) (Ok view) → new ≡ Some view → Tells (Some mid) h.start (Some last) view question faults_old faults_new answered
      → IsAnsweredOf h told first last old v new question faults_old faults_new answered
  answered-of old v new question faults_old faults_new answered view mid known q m is tells =
      let came = load-comes old v m.0 mid (Ok view) known m.1 q m.3 in
      let l : IsLoadedBetween (course_of h) m.0 mid came.0 view = subst (IsLoadedBetween (course_of h) m.0 mid came.0) (ok-is view came.1 came.2) came.3 in
      let of = told-of m.0 mid came.0 view m.1 q l question faults_old faults_new answered tells in
      record {
        view = view;
        numbers = came.0;
        from = m.0;
        mid = mid;
        new_is = is;
        loaded = l;
        seen_before = m.1;
        then_asked = q;
        since_seen = older first m.0 mid came.0 view q m.1 l;
        since_told = covered h came.0 told m.0 (λ front p. older front m.0 mid came.0 view q p l) m.2;
        none_fell = came.4;
        says = of;
        tells = tells;
        status = status-of m.0 mid came.0 view m.1 q l (seen (course_of h) came.0) question faults_old faults_new answered of;
      }

  some-is : (a c : List Op) → Some a ≡ Some c → a ≡ c
  some-is a c e = cc

  pub asked : (old : Option View) (v : Numbers) (new : Option View) (question : Question) (faults_old faults_new : ℕ) (answered : Answered) → IfSome old (IsKnown h first v) → Asked told (Some first) h.start (Some last) old new question faults_old faults_new answered
      → IsAnsweredOf h told first last old v new question faults_old faults_new answered ⊎ IsNotLoaded old new answered
  asked old v new question faults_old faults_new answered known (loaded view mid to then is tells) =
      let m = to.grown in
      let at : List Op = first ++ m.0 in
      let then_on = subst (λ (o : Option (List Op)). Grows o (Some last)) m.1 then in
      let load = subst (λ (o : Option (List Op)). MayAnswerBeyond told (Some first) h.start o (load_asks old) (Ok view)) m.1 to.answer in
      let said = subst (λ (o : Option (List Op)). Tells o h.start (Some last) view question faults_old faults_new answered) m.1 tells in
      inl (answered-of old v new question faults_old faults_new answered view at known (then_on.0, some-is last (at ++ then_on.0) then_on.1) load is said)
  asked old v new question faults_old faults_new answered known (unloaded e knows m same is) =
      let came = load-comes old v m.0 last (Err e) known m.1 (prefix-refl last) m.3 in
      absurd (not-ok e came.1 came.2)
  asked old v new question faults_old faults_new answered known (broken rose same is) = inr (same, inl is)
  asked old v new question faults_old faults_new answered known (forgone same is) = inr (same, inr is)
