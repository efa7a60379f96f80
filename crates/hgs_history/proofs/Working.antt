-- The jobs of a worker beside writers.
use Rattle.std.proofs.Common.{◌≡◌, ◌⊎◌, ℕ, List, [], ◌∷◌, ◌++◌, refl, sym, ◌∙◌, ap, subst, inl, inr}
use Rattle.std.specs.Prelude.{IfSome, None, Option, Some}
use Rattle.std.specs.List.{FoldsTo}
use Rattle.hgs_history.specs.Beside.{IsAnsweredOf, IsKnown, IsNotLoaded}
use Rattle.hgs_bytes.specs.Bytes.{IsPrefixOf}
use Rattle.hgs_files.specs.Reads.{Grows, Rose}
use Rattle.hgs_files.specs.Tree.{Tree}
use Rattle.hgs_files.specs.declared.op.Op.{Op}
use Rattle.hgs_headline.specs.WritersLog.{WritersLog, course_of}
use Rattle.hgs_load.specs.Theorems.AskLemmas.{grows-refl, grows-trans, prefix-trans}
use Rattle.hgs_load.specs.View.{View}
use Rattle.hgs_questions.specs.Asked.{Asked}
use Rattle.hgs_script.specs.declared.job.Job.TheVariants.{Ask}
use Rattle.hgs_script.specs.declared.job.Question.{Question}
use Rattle.hgs_script.specs.declared.result.Answered.{Answered}
use Rattle.hgs_session.specs.Calls.{Beginning, Call, job_in}
use Rattle.hgs_session.specs.Jobs.{DoesJob, Progress, asks, changes}
use Rattle.hgs_views.specs.Course.{OpensAlong, ReadsAlong}
use Rattle.hgs_views.specs.Seen.{Numbers}
use Rattle.hgs_history.specs.Workers.{GoesBeside, GoesOn, Knows, was_answered, was_refused, wrote}

-- the list that is seen grows at each job
job-grows : (x : Beginning) (worker : ℕ) (calls : List Call) (p : Progress) (a : Answered) (q : Progress) → DoesJob x worker calls p a q → Grows p.seen q.seen
job-grows x worker calls p a _ (changes command call n job place there who number says) = grows-refl p.seen
job-grows x worker calls p a q (asks question _ job asked grows done place told start faults denied status fault) = grows

-- so it does along the jobs
pub seen-grows : (x : Beginning) (worker : ℕ) (calls : List Call) (p : Progress) (answers : List Answered) (now : Progress) → FoldsTo (DoesJob x worker calls) p answers now → Grows p.seen now.seen
seen-grows x worker calls p [] now does = subst (λ (q : Progress). Grows p.seen q.seen) does (grows-refl p.seen)
seen-grows x worker calls p (a ∷ answers) now does = grows-trans p.seen does.0.seen now.seen (job-grows x worker calls p a does.0 does.1) (seen-grows x worker calls does.0 answers now does.2)

some-is : (a c : List Op) → Some a ≡ Some c → a ≡ c
some-is a c e = cc

-- what grows from a list that is told is told, and goes on from it
pub grown : (seen : List Op) (o : Option (List Op)) → Grows (Some seen) o → (last : List Op) × (o ≡ Some last) × IsPrefixOf seen last
grown seen o g = (seen ++ g.0, g.1, (g.0, refl))

known-on : (h : WritersLog) (seen last : List Op) (v : Numbers) (o : Option View) → IsPrefixOf seen last → IfSome o (IsKnown h seen v) → IfSome o (IsKnown h last v)
known-on h seen last v None p k = tt
known-on h seen last v (Some view) p k = record { began = k.began; ended = k.ended; loaded = k.loaded; before = prefix-trans k.ended seen last k.before p }

module _ (h : WritersLog) (x : Beginning) (worker : ℕ) (calls : List Call)
    (asked : (told : List (List Op)) (first last : List Op) (old : Option View) (v : Numbers) (new : Option View) (question : Question) (faults_old faults_new : ℕ) (answered : Answered) → IsPrefixOf last h.log → OpensAlong (course_of h) first last → ReadsAlong (course_of h) first last → IfSome old (IsKnown h first v)
    → Asked told (Some first) h.start (Some last) old new question faults_old faults_new answered → IsAnsweredOf h told first last old v new question faults_old faults_new answered ⊎ IsNotLoaded old new answered)
    (opens : OpensAlong (course_of h) [] h.log) (reads : ReadsAlong (course_of h) [] h.log) where
  -- one job, and what is known behind it
  abbrev Goes : Progress → Numbers → Answered → Progress → Type 0
  Goes p v answered q = (w : Numbers) × GoesOn h x.jobs worker p v answered q w × Knows h q w

  opens-on : (first last : List Op) → IsPrefixOf last h.log → OpensAlong (course_of h) first last
  opens-on first last on log between = opens log (record { begins = (log, refl); ends = prefix-trans log last h.log between.ends on })

  reads-on : (first last : List Op) → IsPrefixOf last h.log → ReadsAlong (course_of h) first last
  reads-on first last on log between = reads log (record { begins = (log, refl); ends = prefix-trans log last h.log between.ends on })

  question-goes : (p q : Progress) (v : Numbers) (k : Knows h p v) (question : Question) (last : List Op) (answered : Answered) → job_in x.jobs worker p.done ≡ Some (Ask question) → q.seen ≡ Some last → IsPrefixOf k.seen last → q.start ≡ p.start
      → IsAnsweredOf h p.told k.seen last p.view v q.view question p.faults q.faults answered ⊎ IsNotLoaded p.view q.view answered → (answered.status ≡ 16 → Rose p.faults q.faults) → Goes p v answered q
  question-goes p q v k question last answered is_job is_last from start (inl a) fault = (
    a.numbers,
    was_answered question k.seen last is_job k.seen_is is_last a refl,
    record {
      seen = last;
      seen_is = is_last;
      start = start ∙ k.start;
      view = subst (λ (o : Option View). IfSome o (IsKnown h last a.numbers)) (sym a.new_is) (record { began = a.from; ended = a.mid; loaded = a.loaded; before = a.then_asked });
    },
  )
  question-goes p q v k question last answered is_job is_last from start (inr lost) fault = (
    v,
    was_refused question is_job lost fault refl,
    record { seen = last; seen_is = is_last; start = start ∙ k.start; view = subst (λ (o : Option View). IfSome o (IsKnown h last v)) (sym lost.0) (known-on h k.seen last v p.view from k.view) },
  )

  job-goes : (p : Progress) (v : Numbers) (answered : Answered) (q : Progress) (k : Knows h p v) (last : List Op) → q.seen ≡ Some last → IsPrefixOf k.seen last → IsPrefixOf last h.log → DoesJob x worker calls p answered q → Goes p v answered q
  job-goes p v answered _ k last is_last from on (changes command call n is_job place at worker_is job_is says) = (v, wrote command is_job refl refl, record { seen = k.seen; seen_is = k.seen_is; start = k.start; view = k.view })
  job-goes p v answered q k last is_last from on (asks question _ is_job is grows done place told start faults denied status fault) =
      let there = subst (λ (o : Option (List Op)). Asked p.told o p.start q.seen p.view q.view question p.faults q.faults answered) k.seen_is is in
      let then = subst (λ (o : Option (List Op)). Asked p.told (Some k.seen) p.start o p.view q.view question p.faults q.faults answered) is_last there in
      let here = subst (λ (t : Tree). Asked p.told (Some k.seen) t (Some last) p.view q.view question p.faults q.faults answered) k.start then in
      question-goes p q v k question last answered is_job is_last from start
      (asked p.told k.seen last p.view v q.view question p.faults q.faults answered on (opens-on k.seen last on) (reads-on k.seen last on) k.view here) fault

  pub jobs-go : (p : Progress) (v : Numbers) (answers : List Answered) (now : Progress) (last : List Op) → Knows h p v → now.seen ≡ Some last → IsPrefixOf last h.log → FoldsTo (DoesJob x worker calls) p answers now
      → (w : Numbers) × FoldsTo (GoesBeside h x.jobs worker) (p, v) answers (now, w)
  jobs-go p v [] now last k is_last on does = (v, ap (λ (q : Progress). (q, v)) does)
  jobs-go p v (a ∷ answers) now last k is_last on does =
      let q = does.0 in
      let grew = subst (λ (o : Option (List Op)). Grows o q.seen) k.seen_is (job-grows x worker calls p a q does.1) in
      let seen = grown k.seen q.seen grew in
      let later = grown seen.0 now.seen (subst (λ (o : Option (List Op)). Grows o now.seen) seen.1 (seen-grows x worker calls q answers now does.2)) in
      let same : later.0 ≡ last = some-is later.0 last (sym later.1 ∙ is_last) in
      let within = prefix-trans seen.0 last h.log (subst (IsPrefixOf seen.0) same later.2) on in
      let one = job-goes p v a q k seen.0 seen.1 seen.2 within does.1 in
      let rest = jobs-go q one.0 answers now last one.2 is_last on does.2 in
      (rest.0, ((q, one.0), one.1, rest.1))
