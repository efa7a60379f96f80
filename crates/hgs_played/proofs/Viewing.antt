-- What readers have loaded are views.
use Rattle.std.proofs.Common.{◌≡◌, ℕ, List, [], ◌++◌, refl, sym, ◌∙◌, ap, subst}
use Rattle.std.specs.Prelude.{Option, Some, None, Result, Ok, slice_get}
use Rattle.hgs_bytes.specs.Bytes.{IsPrefixOf}
use Rattle.hgs_files.specs.declared.op.Op.{Op}
use Rattle.hgs_files.specs.Tree.{Tree, after_all}
use Rattle.hgs_load.specs.declared.answer.ReadAnswer.{ReadAnswer}
use Rattle.hgs_load.specs.Asks.{Asks, MayAnswer, answer, at_rest}
use Rattle.hgs_load.specs.Open.{open_asks}
use Rattle.hgs_load.specs.Refresh.{refresh_asks}
use Rattle.hgs_load.specs.View.{View}
use Rattle.hgs_load.specs.Theorems.AskLemmas.{prefix-refl, prefix-trans}
use Rattle.hgs_load.specs.Theorems.RestLemmas.{may-front}
use Rattle.hgs_views.specs.Course.{OpensAlong}
use Rattle.hgs_views.specs.Seen.{IsLoadedBetween, NoneFell, Numbers}
use Rattle.hgs_headline.specs.WritersLog.{WritersLog, course_of}
use Rattle.hgs_world.specs.Questions.{Sight, load_answer, load_asks, next_question}
use Rattle.hgs_world.specs.World.{Scene, tree_of}
use Rattle.hgs_played.specs.Loads.{HasLoaded, IsLeftOf, IsLoaded, IsLoading, ReadersSee, SeesLog, opened, refreshed}
use Rattle.hgs_played.specs.Since.{Beginning, tree_at}
use Rattle.hgs_played.proofs.Going.{after_append}
use Rattle.hgs_played.proofs.Seeing.{at_once, left_on}

-- what the laws of readers beside writers say
pub record Beside : Type 0 where
  pub opened : (h : WritersLog) (first last : List Op) (y : Result View ReadAnswer) → IsPrefixOf last h.log → OpensAlong (course_of h) first last → MayAnswer h.start first open_asks last y → (v : Numbers) × (view : View) × (y ≡ Ok view) × IsLoadedBetween (course_of h) first last v view
  pub refreshed : (h : WritersLog) (began ended first last : List Op) (v : Numbers) (old : View) (y : Result View ReadAnswer) → IsPrefixOf last h.log → OpensAlong (course_of h) first last → IsLoadedBetween (course_of h) began ended v old → IsPrefixOf ended first → MayAnswer h.start first (refresh_asks old) last y
      → (w : Numbers) × (view : View) × (y ≡ Ok view) × IsLoadedBetween (course_of h) first last w view × NoneFell v w

module _ (l : Beside) (h : WritersLog) (within : OpensAlong (course_of h) [] h.log) where
  between : (first last : List Op) → IsPrefixOf last h.log → OpensAlong (course_of h) first last
  between first last to = λ log is. within log (record { begins = (log, refl); ends = prefix-trans log last h.log is.ends to })

  pub views : (first last : List Op) (view : View) → IsPrefixOf last h.log → IsLoaded h.start first last view → (v : Numbers) × IsLoadedBetween (course_of h) first last v view
  views _ _ _ to (opened first last view m) =
      let r = l.opened h first last (Ok view) to (between first last to) m in
      let same : r.1 ≡ view = let e = r.2 in cc in
      (r.0, subst (IsLoadedBetween (course_of h) first last r.0) same r.3)
  views _ _ _ to (refreshed began ended first last old view before on m) =
      let front = prefix-trans ended first h.log on (prefix-trans first last h.log (may-front (refresh_asks old) h.start first last (Ok view) m) to) in
      let was = views began ended old front before in
      let r = l.refreshed h began ended first last was.0 old (Ok view) to (between first last to) was.1 on m in
      let same : r.1 ≡ view = let e = r.2 in cc in
      (r.0, subst (IsLoadedBetween (course_of h) first last r.0) same r.3)

  -- a load that is answered
  pub answered : (ended first last : List Op) (before : Option View) (y : Result View ReadAnswer) → HasLoaded h.start ended before → IsPrefixOf ended first → IsPrefixOf last h.log → MayAnswer h.start first (load_asks before) last y → (v : Numbers) × (view : View) × (y ≡ Ok view) × IsLoadedBetween (course_of h) first last v view
  answered ended first last None y loaded on to m = l.opened h first last y to (between first last to) m
  answered ended first last (Some old) y loaded on to m =
      let front = prefix-trans ended first h.log on (prefix-trans first last h.log (may-front (refresh_asks old) h.start first last y m) to) in
      let was = views loaded.0 ended old front loaded.1 in
      let r = l.refreshed h loaded.0 ended first last was.0 old y to (between first last to) was.1 on m in
      (r.0, r.1, r.2, r.3)

  -- and no number falls
  pub rise : (began ended first last : List Op) (old : View) (y : Result View ReadAnswer) → IsLoaded h.start began ended old → IsPrefixOf ended first → IsPrefixOf last h.log → MayAnswer h.start first (refresh_asks old) last y
      → (v : Numbers) × (w : Numbers) × (view : View) × (y ≡ Ok view) × IsLoadedBetween (course_of h) began ended v old × IsLoadedBetween (course_of h) first last w view × NoneFell v w
  rise began ended first last old y loaded on to m =
      let front = prefix-trans ended first h.log on (prefix-trans first last h.log (may-front (refresh_asks old) h.start first last y m) to) in
      let was = views began ended old front loaded in
      let r = l.refreshed h began ended first last was.0 old y to (between first last to) was.1 on m in
      (was.0, r.0, r.1, r.2, was.1, r.3, r.4)

  module _ (s : Scene) (b : Beginning) (see : ReadersSee s b h.log) (starts : h.start ≡ tree_at s.start b) where
    sees : (number : ℕ) (r : Sight) → slice_get s.readers number ≡ Some r → SeesLog h.start h.log r
    sees number r e = subst (λ (t : Tree). SeesLog t h.log r) (sym starts) (see number r e)

    pub last_views : (number : ℕ) (r : Sight) (view : View) → slice_get s.readers number ≡ Some r → r.last ≡ Some view → (first : List Op) × (last : List Op) × (v : Numbers) × IsPrefixOf last h.log × IsLoadedBetween (course_of h) first last v view
    last_views number r view e is =
        let k = sees number r e in
        let loaded = subst (HasLoaded h.start k.ended) is k.loaded in
        let v = views loaded.0 k.ended view k.before loaded.1 in
        (loaded.0, k.ended, v.0, k.before, v.1)

    tree_is : s.log ≡ b.earlier ++ h.log → tree_of s ≡ after_all h.log h.start
    tree_is e = ap (λ x. after_all x s.start) e ∙ after_append b.earlier h.log s.start ∙ ap (after_all h.log) (sym starts)

    -- a load that is made at once
    pub loads : (number : ℕ) (r : Sight) → s.log ≡ b.earlier ++ h.log → slice_get s.readers number ≡ Some r → (v : Numbers) × (view : View) × (load_answer (tree_of s) r.last ≡ Ok view) × IsLoadedBetween (course_of h) h.log h.log v view
    loads number r whole e =
        let k = sees number r e in
        let m = at_once h.start h.log (load_asks r.last) in
        let a = answered k.ended h.log h.log r.last (at_rest (after_all h.log h.start) (load_asks r.last)) k.loaded k.before (prefix-refl h.log) m in
        (a.0, a.1, ap (λ (t : Tree). load_answer t r.last) (tree_is whole) ∙ a.2, a.3)

    -- a read of one, which is its last
    pub reads : (number : ℕ) (r : Sight) (q : Asks (Result View ReadAnswer)) (y : Result View ReadAnswer) → s.log ≡ b.earlier ++ h.log → slice_get s.readers number ≡ Some r → r.load ≡ Some q → next_question (tree_of s) q ≡ answer y
        → (first : List Op) × (v : Numbers) × (view : View) × (y ≡ Ok view) × IsLoadedBetween (course_of h) first h.log v view
    reads number r q y whole e is ends =
        let k = sees number r e in
        let left = subst (IsLoading h.start k.ended h.log r.last) is k.loading in
        let on = left_on h.start left.0 left.1 h.log (load_asks r.last) q left.3 left.4 in
        let there : next_question (after_all h.log h.start) q ≡ answer y = ap (λ (t : Tree). next_question t q) (sym (tree_is whole)) ∙ ends in
        let m = subst (IsLeftOf h.start left.0 h.log (load_asks r.last)) there on h.log y (prefix-refl h.log, refl) in
        let a = answered k.ended left.0 h.log r.last y k.loaded left.2 (prefix-refl h.log) m in
        (left.0, a.0, a.1, a.2, a.3)
