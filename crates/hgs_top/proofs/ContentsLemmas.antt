-- What `files` and `cat` reply.
use Rattle.std.proofs.Common.{◌≡◌, ℕ, List, [], ◌++◌, Bool, true, false, Option, Some, None, Result, Ok, Err, refl, sym, ◌∙◌, ap, subst}
use Rattle.std.specs.Prelude.{⊤}
use Rattle.std.specs.Bool.{MatchBool}
use Rattle.hgs_files.specs.declared.op.Op.{Op}
use Rattle.hgs_files.specs.Streams.{IsWritten}
use Rattle.hgs_files.specs.Tree.{Tree, after_all}
use Rattle.hgs_load.specs.declared.answer.ReadAnswer.{ReadAnswer}
use Rattle.hgs_load.specs.Answer.{is_of_outside}
use Rattle.hgs_load.specs.Asks.{at_rest, Answers, AddsAnswer}
use Rattle.hgs_reader.specs.Names.{named}
use Rattle.hgs_load.specs.View.{View}
use Rattle.hgs_load.specs.Open.{open_asks}
use Rattle.hgs_load.specs.Theorems.AskLemmas.{either}
use Rattle.hgs_load.specs.Theorems.RestLemmas.{answers_at_rest, refused_at_rest, adds_at_rest, adds_refused_at_rest}
use Rattle.hgs_top.specs.declared.stopped.Said.TheVariants.{Whole, UnknownRevision}
use Rattle.hgs_top.specs.declared.stopped.Said.{Said}
use Rattle.hgs_top.specs.declared.stopped.Stopped.{Stopped}
use Rattle.hgs_top.specs.declared.stopped.Stopped.TheVariants.{Refused, Unwritten}
use Rattle.hgs_top.specs.Outcome.{Outcome, Reply, Subject, told, unknown_revision, bad_set, refused, text_outcome, contents_asks, contents_of_rev, contents_of_load, contents_reply}
use Rattle.hgs_top.specs.Run.{OfTree, IsFrontWritten, IsCut, IsReplied, IsUnwritten}
use Rattle.hgs_top.proofs.LogLemmas.{nothing_written}

pub of_told : (seen : Option (List Op)) (start : Tree) (P : Tree → Type 0) → ((l : List Op) → seen ≡ Some l → P (after_all l start)) → OfTree seen start P
of_told None start P f = tt
of_told (Some l) start P f = f l refl

told_is : (o p : Outcome) → told o ≡ told p → o ≡ p
told_is o p e = cc

not_told : (o : Outcome) → unknown_revision ≡ told o → ⊥
not_told o e = cc

bad_not_told : (place : ℕ) (o : Outcome) → bad_set place ≡ told o → ⊥
bad_not_told place o e = cc

-- this is refused with nothing written
pub refuse_with : (reply : Reply) (o : Option (List ℕ)) (e : ReadAnswer) → MatchBool (is_of_outside e) ⊤ (reply ≡ told (refused e)) → IsReplied reply o o (Err (Refused e))
refuse_with (told q) o e m = by (is_of_outside e) m
  where
    by : (b : Bool) → MatchBool b ⊤ (told q ≡ told (refused e)) → MatchBool b (IsFrontWritten o o q.text) ((q.refusal ≡ Some e) × IsWritten o o q.text)
    by true m = (0, nothing_written o)
    by false m =
        let is = told_is q (refused e) m in
        let P : List ℕ → Type 0 = λ x. IsWritten o o x in
        (ap (λ (q : Outcome). q.refusal) is, subst P (sym (ap (λ (q : Outcome). q.text) is)) (nothing_written o))
refuse_with unknown_revision o e m = by (is_of_outside e) m
  where
    by : (b : Bool) → MatchBool b ⊤ (unknown_revision ≡ told (refused e)) → MatchBool b (o ≡ o) ⊥
    by true m = refl
    by false m = not_told (refused e) m
refuse_with (bad_set place) o e m = by (is_of_outside e) m
  where
    by : (b : Bool) → MatchBool b ⊤ (bad_set place ≡ told (refused e)) → MatchBool b (o ≡ o) ⊥
    by true m = refl
    by false m = bad_not_told place (refused e) m

-- the loading was refused
pub unopened_reply : (seen0 seen1 : Option (List Op)) (start : Tree) (name : List ℕ) (subject : Subject) (e : ReadAnswer) (o : Option (List ℕ)) → seen1 ≡ seen0 → Answers (λ (s : View). s) seen0 start seen1 open_asks (Err e)
    → OfTree seen0 start (λ t. IsReplied (contents_reply name subject t) o o (Err (Refused e)))
unopened_reply seen0 seen1 start name subject e o s a =
    of_told seen0 start (λ t. IsReplied (contents_reply name subject t) o o (Err (Refused e)))
    (λ l q. refuse_with (contents_reply name subject (after_all l start)) o e
    (either (is_of_outside e) (at_rest (after_all l start) open_asks ≡ Err e) (contents_reply name subject (after_all l start) ≡ told (refused e)) (λ m. ap (contents_of_load (after_all l start) name subject) m) (refused_at_rest (λ (v : View). v) seen0 seen1 l start open_asks e q s a)))

module _ (seen0 seen1 seen2 : Option (List Op)) (start0 start1 : Tree) (view : View) (name : List ℕ) (subject : Subject) (s1 : seen1 ≡ seen0) (st : start1 ≡ start0) (opened : Answers (λ (s : View). s) seen0 start0 seen1 open_asks (Ok view)) where
  found : (l : List Op) → seen0 ≡ Some l → at_rest (after_all l start0) open_asks ≡ Ok view
  found l q = answers_at_rest (λ (v : View). v) seen0 seen1 l start0 open_asks view q s1 opened

  -- the name names nothing
  pub no_name : (o : Option (List ℕ)) → None ≡ named view name → OfTree seen0 start0 (λ t. IsReplied (contents_reply name subject t) o o (Ok UnknownRevision))
  no_name o n =
      of_told seen0 start0 (λ t. IsReplied (contents_reply name subject t) o o (Ok UnknownRevision))
      (λ l q. let P : Reply → Type 0 = λ r. IsReplied r o o (Ok UnknownRevision) in
      let t = after_all l start0 in
      subst P (sym (ap (contents_of_load t name subject) (found l q) ∙ ap (contents_of_rev t view subject) (sym n))) refl)

  module _ (rev : ℕ) (n : Some rev ≡ named view name) (old new : List ℕ) (s2 : seen2 ≡ seen1) where
    reply_is : (l : List Op) → seen0 ≡ Some l → (r : Result (List ℕ) ReadAnswer) → at_rest (after_all l start0) (contents_asks view rev subject) ≡ r → contents_reply name subject (after_all l start0) ≡ told (text_outcome r)
    reply_is l q r h =
        let t = after_all l start0 in
        ap (contents_of_load t name subject) (found l q) ∙ ap (contents_of_rev t view subject) (sym n) ∙ ap (λ x. told (text_outcome x)) h

    here : (r : Result Unit ReadAnswer) → AddsAnswer seen1 start1 seen2 (contents_asks view rev subject) old new r → AddsAnswer seen0 start0 seen2 (contents_asks view rev subject) old new r
    here r a =
        let P : Option (List Op) → Type 0 = λ o. AddsAnswer o start1 seen2 (contents_asks view rev subject) old new r in
        let Q : Tree → Type 0 = λ t. AddsAnswer seen0 t seen2 (contents_asks view rev subject) old new r in
        subst Q st (subst P s1 a)

    pub refused_contents : (e : ReadAnswer) (o : Option (List ℕ)) → AddsAnswer seen1 start1 seen2 (contents_asks view rev subject) old new (Err e) → OfTree seen0 start0 (λ t. IsReplied (contents_reply name subject t) o o (Err (Refused e)))
    refused_contents e o a =
        of_told seen0 start0 (λ t. IsReplied (contents_reply name subject t) o o (Err (Refused e)))
        (λ l q. refuse_with (contents_reply name subject (after_all l start0)) o e
        (either (is_of_outside e) _ _ (λ m. reply_is l q (Err e) m) (adds_refused_at_rest seen0 seen2 l start0 (contents_asks view rev subject) old new e q (s2 ∙ s1) (here (Err e) a)).1))

    module _ (u : Unit) (first last : Option (List ℕ)) (a : AddsAnswer seen1 start1 seen2 (contents_asks view rev subject) old new (Ok u)) (none : old ≡ []) where
      replied : (said : Result Said Stopped) → ((text : List ℕ) → new ≡ text → IsReplied (told (text_outcome (Ok text))) first last said) → OfTree seen0 start0 (λ t. IsReplied (contents_reply name subject t) first last said)
      replied said f =
          of_told seen0 start0 (λ t. IsReplied (contents_reply name subject t) first last said)
          (λ l q. let k = adds_at_rest seen0 seen2 l start0 (contents_asks view rev subject) old new u q (s2 ∙ s1) (here (Ok u) a) in
          let P : Reply → Type 0 = λ r. IsReplied r first last said in
          subst P (sym (reply_is l q (Ok k.0) k.2)) (f k.0 (k.1 ∙ ap (λ x. x ++ k.0) none)))

      pub written_contents : IsWritten first last new → OfTree seen0 start0 (λ t. IsReplied (contents_reply name subject t) first last (Ok Whole))
      written_contents w = replied (Ok Whole) (λ text e. let P : List ℕ → Type 0 = λ x. IsWritten first last x in (refl, subst P e w))

      pub cut_contents : (s : Stopped) → IsUnwritten s × IsCut first last new → OfTree seen0 start0 (λ t. IsReplied (contents_reply name subject t) first last (Err s))
      cut_contents (Refused e) w = absurd w.0
      cut_contents (Unwritten f) w = replied (Err (Unwritten f)) (λ text e. let P : List ℕ → Type 0 = λ x. IsCut first last x in subst P e w.1)
