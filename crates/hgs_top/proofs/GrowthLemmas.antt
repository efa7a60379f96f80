-- What `gen` leaves where no repository stood is a repository of its changesets.
use Rattle.std.proofs.Common.{◌≡◌, ◌⊎◌, ◌++◌, ℕ, ◌<◌, ◌≤◌, ◌^◌, List, [], ◌∷◌, Bool, true, Option, Some, None, Result, Ok, Err, refl, sym, ◌∙◌, ap, subst, inl, inr, append_assoc, arith}
use Rattle.std.specs.Prelude.{IfOk}
use Rattle.hgs_answers.specs.Answer.{status_of as answer_status}
use Rattle.hgs_answers.specs.declared.outcome.Outcome.{Outcome}
use Rattle.hgs_answers.specs.declared.outcome.Outcome.TheVariants.{Abandoned, Collision, CopyOver, Damaged, Done, Fault, InTheWay, Limit, LockHeld, Memory, NameClash, NeedsForce, NothingChanged, Unfinished, UnknownPath, UnknownRevision, Unsettled}
use Rattle.hgs_files.specs.declared.files.FileFault.TheVariants.{Failed, Memory as NoMemory}
use Rattle.hgs_files.specs.declared.op.Op.{Op}
use Rattle.hgs_files.specs.Log.{IsDone}
use Rattle.hgs_files.specs.Stop.{IsStopped}
use Rattle.hgs_files.specs.Theorems.TreeLemmas.{after_all-append}
use Rattle.hgs_files.specs.Tree.{Tree, after_all}
use Rattle.hgs_grown.specs.Grown.{AreCommitted, GrowsTo, IsGrownTo, IsNotDone, grown}
use Rattle.hgs_grown.specs.declared.commits.Stop.{Stop}
use Rattle.hgs_grown.specs.declared.commits.Stop.TheVariants as stops
use Rattle.hgs_grown.specs.declared.commits.Tip.{Tip}
use Rattle.hgs_legal.specs.ListsPaths.{ListsPaths}
use Rattle.hgs_load.specs.Open.{requires_path}
use Rattle.hgs_model.specs.Repo.{Repo, empty_repo}
use Rattle.hgs_stands.specs.Stands.{Stands}
use Rattle.hgs_top.specs.Growth.{AreGrown, GrowsRepository, HasGrown}
use Rattle.hgs_top.specs.Histories.{IsBare, IsNew}
use Rattle.hgs_top.specs.Orders.{ComesTo, Generates, Grows, IsNotMade, Obeys, TellsGrown, ended_status, ended_text, init_operations, lock_text}
use Rattle.hgs_top.specs.Run.{EndsLine}
use Rattle.hgs_top.specs.Words.{Request, do_init, request_of_words, to_generate}
use Rattle.hgs_top.specs.declared.ended.Ended.{Ended}
use Rattle.hgs_top.specs.declared.ended.Ended.TheVariants.{Made, Exists, NotMade, NoInput, NoRecord, Refused, Answered, Recovered}
use Rattle.hgs_top.proofs.FitLemmas.{IsFitRequest, request-fits}
use Rattle.hgs_top.proofs.PiecesLemmas.{NewStops, new-ended}

-- What is taken of the laws: a new repository is an empty one, and what commits lead to, and where they may be stopped.
pub record TakenOfGrowth : Type 0 where
  pub new_stops : NewStops
  pub made : (t : Tree) (done : List Op) → IsBare t → IsDone init_operations done [] → IsNew (after_all done t)
  pub committed : (who : List ℕ) (seed count : ℕ) (t : Tree) (r : Repo) (last : Option Tip) (done : List Op) → seed < 2 ^ 64 → count ≤ 5000 → Stands t r → ListsPaths t r → AreCommitted who seed t count last done → (s : Repo) × (grown seed count r ≡ Some s) × Stands (after_all done t) s × ListsPaths (after_all done t) s
  pub stopped : (who : List ℕ) (seed count : ℕ) (t : Tree) (r : Repo) (result : Result Tip Stop) (done d : List Op) → seed < 2 ^ 64 → count ≤ 5000 → Stands t r → ListsPaths t r → GrowsTo who seed count result t done → IsStopped done d → IsGrownTo seed count r (after_all d t)

-- a stop is one in the first of two lists, or in the next behind it
stopped-apart : (a b d : List Op) → IsStopped (a ++ b) d → IsStopped a d ⊎ ((e : List Op) × IsStopped b e × (d ≡ a ++ e))
stopped-apart [] b d h = inr (d, h, refl)
stopped-apart (op ∷ a) b d (inl none) = inl (inl none)
stopped-apart (op ∷ a) b d (inr (inl part)) = inl (inr (inl part))
stopped-apart (op ∷ a) b d (inr (inr more)) = elim (stopped-apart a b more.0 more.1) [
  | inl h ↦ inl (inr (inr (more.0, h, more.2)))
  | inr h ↦ inr (h.0, h.1, more.2 ∙ ap (λ l. op ∷ l) h.2)
]

-- ---- statuses

abbrev IsReported : ℕ → Type 0
IsReported status = (status ≡ 0) ⊎ (status ≡ 29)

-- a line with another status does not end with a report's
other-line : (line : List ℕ) (wanted status : ℕ) (old new : Option (List ℕ)) → (IsReported wanted → ⊥) → EndsLine line wanted status old new → IsReported status → ⊥
other-line line wanted status old new other (inl h) is = other (subst IsReported h.0 is)
other-line line wanted status old new other (inr (inl h)) (inl is) = let e : 0 ≡ 30 = sym is ∙ h.0 in omega (arith, e)
other-line line wanted status old new other (inr (inl h)) (inr is) = let e : 29 ≡ 30 = sym is ∙ h.0 in omega (arith, e)
other-line line wanted status old new other (inr (inr (inl e, cut))) (inl is) = omega (arith, e, is)
other-line line wanted status old new other (inr (inr (inl e, cut))) (inr is) = omega (arith, e, is)
other-line line wanted status old new other (inr (inr (inr e, cut))) (inl is) = omega (arith, e, is)
other-line line wanted status old new other (inr (inr (inr e, cut))) (inr is) = omega (arith, e, is)

not-done-other : (outcome : Outcome) → IsNotDone outcome → IsReported (answer_status outcome) → ⊥
not-done-other (Done rev node) other is = other rev node refl
not-done-other (LockHeld holder) other is = elim is [ inl e ↦ omega (arith, e) | inr e ↦ omega (arith, e) ]
not-done-other Abandoned other is = elim is [ inl e ↦ omega (arith, e) | inr e ↦ omega (arith, e) ]
not-done-other UnknownRevision other is = elim is [ inl e ↦ omega (arith, e) | inr e ↦ omega (arith, e) ]
not-done-other UnknownPath other is = elim is [ inl e ↦ omega (arith, e) | inr e ↦ omega (arith, e) ]
not-done-other (CopyOver path) other is = elim is [ inl e ↦ omega (arith, e) | inr e ↦ omega (arith, e) ]
not-done-other (NothingChanged rev) other is = elim is [ inl e ↦ omega (arith, e) | inr e ↦ omega (arith, e) ]
not-done-other (Damaged d) other is = elim is [ inl e ↦ omega (arith, e) | inr e ↦ omega (arith, e) ]
not-done-other Fault other is = elim is [ inl e ↦ omega (arith, e) | inr e ↦ omega (arith, e) ]
not-done-other (Unfinished p) other is = elim is [ inl e ↦ omega (arith, e) | inr e ↦ omega (arith, e) ]
not-done-other (Limit w) other is = elim is [ inl e ↦ omega (arith, e) | inr e ↦ omega (arith, e) ]
not-done-other (Collision path rev) other is = elim is [ inl e ↦ omega (arith, e) | inr e ↦ omega (arith, e) ]
not-done-other (NameClash path) other is = elim is [ inl e ↦ omega (arith, e) | inr e ↦ omega (arith, e) ]
not-done-other (NeedsForce rev) other is = elim is [ inl e ↦ omega (arith, e) | inr e ↦ omega (arith, e) ]
not-done-other Memory other is = elim is [ inl e ↦ omega (arith, e) | inr e ↦ omega (arith, e) ]
not-done-other (InTheWay path) other is = elim is [ inl e ↦ omega (arith, e) | inr e ↦ omega (arith, e) ]
not-done-other (Unsettled rev node) other is = elim is [ inl e ↦ omega (arith, e) | inr e ↦ omega (arith, e) ]

not-made-other : (left : Option (List ℕ)) (old new : Option (List Op)) (start : Tree) (ended : Ended) → ComesTo do_init left old new start ended → IsNotMade ended → IsReported (ended_status ended) → ⊥
not-made-other left old new start Made comes other is = other
not-made-other left old new start Exists comes other is = elim is [ inl e ↦ omega (arith, e) | inr e ↦ omega (arith, e) ]
not-made-other left old new start (NotMade Failed) comes other is = elim is [ inl e ↦ omega (arith, e) | inr e ↦ omega (arith, e) ]
not-made-other left old new start (NotMade NoMemory) comes other is = elim is [ inl e ↦ omega (arith, e) | inr e ↦ omega (arith, e) ]
not-made-other left old new start NoInput comes other is = comes.0
not-made-other left old new start (NoRecord fault) comes other is = comes.0
not-made-other left old new start (Refused refusal) comes other is = comes.1
not-made-other left old new start (Answered command answer) comes other is = comes.0
not-made-other left old new start (Recovered x) comes other is = (let no : ⊥ = cc comes.0 in no)

-- ---- what is left

module _ (taken : TakenOfGrowth) (AreRefused : ℕ → Type 0) (seed count status : ℕ) (small : seed < 2 ^ 64) (few : count ≤ 5000) (log : List Op) (new : Option (List Op)) (start : Tree) (written_old written_new : Option (List ℕ)) (bare : IsBare (after_all log start)) (none : after_all log start requires_path ≡ None) where
  abbrev t : Tree
  t = after_all log start

  abbrev IsLeft : Type 0
  IsLeft = (done : List Op) × (new ≡ Some (log ++ done)) × HasGrown seed count status t done

  some-grown : (u : Tree) → (u requires_path ≡ None) ⊎ IsNew u → (u requires_path ≡ None) ⊎ IsGrownTo seed count empty_repo u
  some-grown u (inl e) = inl e
  some-grown u (inr made) = let zero_is : 0 ≤ count = omega arith in inr (0, empty_repo, zero_is, refl, inl made.0)

  not-made : (ended : Ended) → ComesTo do_init None (Some log) new start ended → IsNotMade ended → EndsLine (ended_text ended) (ended_status ended) status written_old written_new → IsLeft
  not-made ended comes other line =
      let h = new-ended taken.new_stops None log new start bare none ended comes in (
        h.0,
        h.1,
        record {
          stops = λ d stop. some-grown (after_all d t) (h.2 d stop);
          whole = λ is. absurd (other-line (ended_text ended) (ended_status ended) status written_old written_new (not-made-other None (Some log) new start ended comes other) line is);
        },
      )

  -- behind the operations that made the repository
  module _ (making : List Op) (init : IsDone init_operations making []) where
    abbrev at : Tree
    at = after_all making t

    is-new : IsNew at
    is-new = taken.made t making bare init

    lists : ListsPaths at empty_repo
    lists = is-new.1 empty_repo (inl is-new.0)

    still-new : (d : List Op) → (after_all d t requires_path ≡ t requires_path) ⊎ IsNew (after_all d t) → (after_all d t requires_path ≡ None) ⊎ IsNew (after_all d t)
    still-new d (inl e) = inl (e ∙ none)
    still-new d (inr made) = inr made

    all-stops : (result : Result Tip Stop) (growing : List Op) → GrowsTo lock_text seed count result at growing → (d : List Op) → IsStopped (making ++ growing) d → (after_all d t requires_path ≡ None) ⊎ IsGrownTo seed count empty_repo (after_all d t)
    all-stops result growing grows d stop = elim (stopped-apart making growing d stop) [
      | inl h ↦ some-grown (after_all d t) (still-new d (taken.new_stops t making [] d bare init h))
      | inr h ↦ inr (subst (IsGrownTo seed count empty_repo) (sym (ap (λ (l : List Op). after_all l t) h.2 ∙ after_all-append making h.0 t)) (taken.stopped lock_text seed count at empty_repo result growing h.0 small few is-new.0 lists grows h.1))
    ]

    all-grown : (result : Result Tip Stop) (growing : List Op) (told : Bool) (now : Option (List Op)) → GrowsTo lock_text seed count result at growing → TellsGrown AreRefused told result now start status written_old written_new → IsReported status → AreGrown seed count (after_all growing at)
    all-grown (Ok tip) growing told now grows tells is = taken.committed lock_text seed count at empty_repo (Some tip) growing small few is-new.0 lists grows
    all-grown (Err (stops.Memory swept)) growing told now grows tells is =
        let other : IsReported 30 → ⊥ = λ x. elim x [ inl e ↦ omega (arith, e) | inr e ↦ omega (arith, e) ] in
        absurd (other-line _ 30 status written_old written_new other tells.1 is)
    all-grown (Err (stops.Answered command answer swept)) growing told now grows tells is =
        absurd (other-line _ (answer_status answer.outcome) status written_old written_new (not-done-other answer.outcome grows.refused) tells.1 is)

    left-by : (result : Result Tip Stop) (growing : List Op) (told : Bool) → new ≡ Some ((log ++ making) ++ growing) → GrowsTo lock_text seed count result (after_all (log ++ making) start) growing → TellsGrown AreRefused told result new start status written_old written_new → IsLeft
    left-by result growing told is grows tells =
        let here : GrowsTo lock_text seed count result at growing = subst (λ u. GrowsTo lock_text seed count result u growing) (after_all-append log making start) grows in (
          making ++ growing,
          is ∙ ap (λ (l : List Op). Some l) (append_assoc log making growing),
          record {
            stops = all-stops result growing here;
            whole = λ x. subst (AreGrown seed count) (sym (after_all-append making growing t)) (all-grown result growing told new here tells x);
          },
        )

    grows-left : (made : Option (List Op)) → made ≡ Some (log ++ making) → Grows AreRefused seed count made new start status written_old written_new → IsLeft
    grows-left made is grows =
        let g : Grows AreRefused seed count (Some (log ++ making)) new start status written_old written_new = subst (λ m. Grows AreRefused seed count m new start status written_old written_new) is grows in
        left-by g.0 g.1.0 true g.1.1 g.1.2 g.2

  generated : Generates AreRefused seed count (Some log) new start status written_old written_new → IsLeft
  generated (inl h) = not-made h.0 h.1 h.2 h.3
  generated (inr h) = grows-left h.1.2.0 h.1.2.2 h.0 h.1.2.1 h.2

fit-of : (words : List (List ℕ)) (seed count : ℕ) → request_of_words words ≡ Ok (to_generate seed count) → IsFitRequest (to_generate seed count)
fit-of words seed count e = subst (λ (x : Result Request ℕ). IfOk x IsFitRequest) e (request-fits words)

pub grows : (taken : TakenOfGrowth) (words : List (List ℕ)) (left : Option (List ℕ)) (old new : Option (List Op)) (start : Tree) (status : ℕ) (written_old written_new : Option (List ℕ)) (AreRefused : ℕ → Type 0) → Obeys AreRefused (request_of_words words) left old new start status written_old written_new → GrowsRepository words old new start status
grows taken words left None new start status written_old written_new AreRefused obeys = tt
grows taken words left (Some log) new start status written_old written_new AreRefused obeys = λ seed count asked bare none.
    let fit = fit-of words seed count asked in
    generated taken AreRefused seed count status fit.0 fit.1 log new start written_old written_new bare none (subst (λ (q : Result Request ℕ). Obeys AreRefused q left (Some log) new start status written_old written_new) asked obeys)
