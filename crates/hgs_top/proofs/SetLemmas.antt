-- What `revset` replies over files at rest.
use Rattle.std.proofs.Common.{◌≡◌, ℕ, List, true, false, Option, Some, None, Result, Ok, Err, refl, sym, ◌∙◌, ap, subst}
use Rattle.std.specs.Prelude.{if◌then◌else◌}
use Rattle.hgs_files.specs.declared.op.Op.{Op}
use Rattle.hgs_files.specs.Streams.{IsWritten}
use Rattle.hgs_files.specs.Tree.{Tree, after_all}
use Rattle.hgs_index.specs.Revision.{ParentsBefore}
use Rattle.hgs_load.specs.declared.answer.ReadAnswer.{ReadAnswer}
use Rattle.hgs_load.specs.declared.answer.ReadAnswer.TheVariants as reads
use Rattle.hgs_load.specs.Answer.{is_of_outside}
use Rattle.hgs_load.specs.Asks.{at_rest, Answers}
use Rattle.hgs_load.specs.Open.{open_asks}
use Rattle.hgs_load.specs.View.{View}
use Rattle.hgs_load.specs.Theorems.AskLemmas.{either}
use Rattle.hgs_load.specs.Theorems.RestLemmas.{answers_at_rest, refused_at_rest}
use Rattle.hgs_members.specs.Story.{story_of}
use Rattle.hgs_revset.specs.declared.fault.SetFault.{SetFault}
use Rattle.hgs_revset.specs.declared.fault.SetFault.TheVariants.{Bad, Memory}
use Rattle.hgs_revset.specs.Members.{Set, Story, is_known}
use Rattle.hgs_revset.specs.Text.{set_text}
use Rattle.hgs_top.specs.declared.stopped.Said.TheVariants.{Whole, UnknownRevision, BadSet}
use Rattle.hgs_top.specs.declared.stopped.Stopped.{Stopped}
use Rattle.hgs_top.specs.declared.stopped.Stopped.TheVariants.{Refused, Unwritten}
use Rattle.hgs_top.specs.Outcome.{Outcome, Reply, told, unknown_revision, refused}
use Rattle.hgs_top.specs.Run.{OfSet, OfTree, IsReplied, IsCut, IsUnwritten}
use Rattle.hgs_top.specs.Sets.{set_told, set_of_load, set_reply}
use Rattle.hgs_top.proofs.ContentsLemmas.{of_told, refuse_with}
use Rattle.hgs_top.proofs.LogLemmas.{nothing_written}

-- a reply that is written whole, or of which the sink took a front
abbrev pub text_of_set : Story → Set → Outcome
text_of_set s a = record { text = set_text s a; refusal = None }

known_told : (s : Story) (a : Set) → is_known s a ≡ true → set_told s a ≡ told (text_of_set s a)
known_told s a known = ap (λ b. if b then told (text_of_set s a) else unknown_revision) known

unknown_told : (s : Story) (a : Set) → is_known s a ≡ false → set_told s a ≡ unknown_revision
unknown_told s a known = ap (λ b. if b then told (text_of_set s a) else unknown_revision) known

-- the loading was refused
pub unopened_set : (seen0 seen1 : Option (List Op)) (start : Tree) (a : Set) (e : ReadAnswer) (o : Option (List ℕ)) → seen1 ≡ seen0 → Answers (λ (s : View). s) seen0 start seen1 open_asks (Err e) → OfTree seen0 start (λ t. IsReplied (set_reply (Ok a) t) o o (Err (Refused e)))
unopened_set seen0 seen1 start a e o s answers =
    of_told seen0 start (λ t. IsReplied (set_reply (Ok a) t) o o (Err (Refused e)))
    (λ l q. refuse_with (set_reply (Ok a) (after_all l start)) o e
    (either (is_of_outside e) (at_rest (after_all l start) open_asks ≡ Err e) (set_reply (Ok a) (after_all l start) ≡ told (refused e)) (λ m. ap (set_of_load a) m) (refused_at_rest (λ (v : View). v) seen0 seen1 l start open_asks e q s answers)))

module _ (seen0 seen1 : Option (List Op)) (start : Tree) (view : View) (a : Set) (s : seen1 ≡ seen0) (opened : Answers (λ (v : View). v) seen0 start seen1 open_asks (Ok view)) where
  found : (l : List Op) → seen0 ≡ Some l → at_rest (after_all l start) open_asks ≡ Ok view
  found l q = answers_at_rest (λ (v : View). v) seen0 seen1 l start open_asks view q s opened

  -- a name of the set names nothing
  pub no_names : (o : Option (List ℕ)) → is_known (story_of view) a ≡ false → OfTree seen0 start (λ t. IsReplied (set_reply (Ok a) t) o o (Ok UnknownRevision))
  no_names o known =
      of_told seen0 start (λ t. IsReplied (set_reply (Ok a) t) o o (Ok UnknownRevision))
      (λ l q. let P : Reply → Type 0 = λ r. IsReplied r o o (Ok UnknownRevision) in
      subst P (sym (ap (set_of_load a) (found l q) ∙ unknown_told (story_of view) a known)) refl)

  -- there was no memory for its lines
  pub no_lines : (o : Option (List ℕ)) → OfTree seen0 start (λ t. IsReplied (set_reply (Ok a) t) o o (Err (Refused reads.Memory)))
  no_lines o = of_told seen0 start (λ t. IsReplied (set_reply (Ok a) t) o o (Err (Refused reads.Memory))) (λ l q. refuse_with (set_reply (Ok a) (after_all l start)) o reads.Memory tt)

  module _ (text : List ℕ) (known : is_known (story_of view) a ≡ true) (is : ParentsBefore 0 (story_of view).parents → text ≡ set_text (story_of view) a)
      (before : (t : Tree) (v : View) → at_rest t open_asks ≡ Ok v → ParentsBefore 0 (story_of v).parents) (old new : Option (List ℕ)) where
    reply_is : (l : List Op) → seen0 ≡ Some l → set_reply (Ok a) (after_all l start) ≡ told (record { text = text; refusal = None })
    reply_is l q =
        let same : text ≡ set_text (story_of view) a = is (before (after_all l start) view (found l q)) in
        ap (set_of_load a) (found l q) ∙ known_told (story_of view) a known ∙ ap (λ x. told (record { text = x; refusal = None })) (sym same)

    -- all lines were written
    pub lines_written : IsWritten old new text → OfTree seen0 start (λ t. IsReplied (set_reply (Ok a) t) old new (Ok Whole))
    lines_written w =
        of_told seen0 start (λ t. IsReplied (set_reply (Ok a) t) old new (Ok Whole))
        (λ l q. let P : Reply → Type 0 = λ r. IsReplied r old new (Ok Whole) in subst P (sym (reply_is l q)) (refl, w))

    -- the sink did not take all of them
    pub lines_cut : (e : Stopped) → IsUnwritten e × IsCut old new text → OfTree seen0 start (λ t. IsReplied (set_reply (Ok a) t) old new (Err e))
    lines_cut (Refused e) c = absurd c.0
    lines_cut (Unwritten f) c =
        of_told seen0 start (λ t. IsReplied (set_reply (Ok a) t) old new (Err (Unwritten f)))
        (λ l q. let P : Reply → Type 0 = λ r. IsReplied r old new (Err (Unwritten f)) in subst P (sym (reply_is l q)) c.1)

-- ---- texts

-- the reply to a text that is a set
pub of_set : (r : Result Set SetFault) (a : Set) (seen : Option (List Op)) (start : Tree) (P : Reply → Type 0) → r ≡ Ok a → OfTree seen start (λ t. P (set_reply (Ok a) t)) → OfSet r seen start P
of_set r a seen start P is h = let Q : Result Set SetFault → Type 0 = λ x. OfSet x seen start P in subst Q (sym is) h

-- and to one that is none
pub of_no_set : (r : Result Set SetFault) (place : ℕ) (seen : Option (List Op)) (start : Tree) (o : Option (List ℕ)) → r ≡ Err (Bad place) → OfSet r seen start (λ reply. IsReplied reply o o (Ok (BadSet place)))
of_no_set r place seen start o is = let Q : Result Set SetFault → Type 0 = λ x. OfSet x seen start (λ reply. IsReplied reply o o (Ok (BadSet place))) in subst Q (sym is) (refl, refl)

-- there was no memory to read it
pub of_lost_set : (r : Result Set SetFault) (seen : Option (List Op)) (start : Tree) (o : Option (List ℕ)) → OfSet r seen start (λ reply. IsReplied reply o o (Err (Refused reads.Memory)))
of_lost_set (Ok a) seen start o = of_told seen start (λ t. IsReplied (set_reply (Ok a) t) o o (Err (Refused reads.Memory))) (λ l q. refuse_with (set_reply (Ok a) (after_all l start)) o reads.Memory tt)
of_lost_set (Err (Bad place)) seen start o = refl
of_lost_set (Err Memory) seen start o = (0, nothing_written o)

-- what is asked of each reply
pub of_each_set : (r : Result Set SetFault) (seen : Option (List Op)) (start : Tree) (P Q : Reply → Type 0) → ((reply : Reply) → P reply → Q reply) → OfSet r seen start P → OfSet r seen start Q
of_each_set (Err (Bad place)) seen start P Q f h = f _ h
of_each_set (Err Memory) seen start P Q f h = f _ h
of_each_set (Ok a) None start P Q f h = tt
of_each_set (Ok a) (Some l) start P Q f h = f _ h

pub set_at : (r : Result Set SetFault) (l : List Op) (start : Tree) (P : Reply → Type 0) → OfSet r (Some l) start P → P (set_reply r (after_all l start))
set_at (Err (Bad place)) l start P h = h
set_at (Err Memory) l start P h = h
set_at (Ok a) l start P h = h
