-- Loads of ends that were told of others' work.
use Rattle.std.proofs.Common.{◌≡◌, ◌≤◌, List, [], ◌++◌, ap, Bool, true, false, Some, Result, Ok, Err, refl, sym, ◌∙◌, subst, arith, append_assoc}
use Rattle.std.specs.Prelude.{⊤}
use Rattle.std.specs.Bool.{MatchBool}
use Rattle.hgs_bytes.specs.Bytes.{IsPrefixOf}
use Rattle.hgs_files.specs.declared.op.Op.{Op}
use Rattle.hgs_files.specs.Reads.{Covers}
use Rattle.hgs_load.specs.declared.answer.ReadAnswer.{ReadAnswer}
use Rattle.hgs_load.specs.Answer.{is_of_outside}
use Rattle.hgs_load.specs.Asks.{Asks, MayAnswer}
use Rattle.hgs_load.specs.Beyond.{AnswersBeyond, MayAnswerBeyond, RefreshesBeyond}
use Rattle.hgs_load.specs.View.{View}
use Rattle.hgs_views.specs.Course.{Course, IsCourse, OpensAlong}
use Rattle.hgs_views.specs.Seen.{Given, IsLoadedBetween, Numbers}
use Rattle.hgs_headline.specs.Again.{GivenAgain}

pub front-trans : {A : Type 0} (a b c : List A) → IsPrefixOf a b → IsPrefixOf b c → IsPrefixOf a c
front-trans a b c p q = (p.0 ++ q.0, q.1 ∙ ap (λ l. l ++ q.0) p.1 ∙ append_assoc a p.0 q.0)

-- a later beginning leaves less
pub opens-from : (x : Course) (first from last : List Op) → IsPrefixOf first from → OpensAlong x first last → OpensAlong x from last
opens-from x first from last p opens log b = opens log (record { begins = front-trans first from log p b.begins; ends = b.ends })

view-is : (a b : View) → (let y : Result View ReadAnswer = Ok a in y) ≡ Ok b → a ≡ b
view-is a b e = cc

no-view : (e : ReadAnswer) (b : View) → (let y : Result View ReadAnswer = Err e in y) ≡ Ok b → false ≡ true
no-view e b h = cc

-- Where each answer of a question is a view of which this holds, so is that of a call which answered it.
module _ (x : Course) (Has : List Op → View → Type 0) (told : List (List Op)) (first last : List Op) (question : Asks (Result View ReadAnswer))
    (law : (from : List Op) (y : Result View ReadAnswer) → IsPrefixOf first from → MayAnswer x.start from question last y → (view : View) × (y ≡ Ok view) × Has from view) where
  loaded-from : (view : View) → MayAnswerBeyond told (Some first) x.start (Some last) question (Ok view) → (from : List Op) × IsPrefixOf first from × Covers told from × Has from view
  loaded-from view m =
      let found = law m.0 (Ok view) m.1 m.3 in
      (m.0, m.1, m.2, subst (Has m.0) (sym (view-is view found.0 found.1)) found.2)

  refused-so : (e : ReadAnswer) (b : Bool) → MatchBool b ⊤ (MayAnswerBeyond told (Some first) x.start (Some last) question (Err e)) → b ≡ true
  refused-so e true m = refl
  refused-so e false m = let found = law m.0 (Err e) m.1 m.3 in no-view e found.0 found.1

  pub opened-end : (r : Result View ReadAnswer) → AnswersBeyond (λ (view : View). view) told (Some first) x.start (Some last) question r → Given (λ view. (from : List Op) × IsPrefixOf first from × Covers told from × Has from view) r
  opened-end (Ok view) a = loaded-from view a
  opened-end (Err e) a = refused-so e (is_of_outside e) a

  pub refreshed-end : (new : View) (r : Result Unit ReadAnswer) → RefreshesBeyond told (Some first) x.start (Some last) question new r → GivenAgain (λ view. (from : List Op) × IsPrefixOf first from × Covers told from × Has from view) new r
  refreshed-end new (Ok u) a = loaded-from new a
  refreshed-end new (Err e) a = refused-so e (is_of_outside e) a

-- the numbers of a load are not below those of a front of its first look
pub numbers-from : (x : Course) (front from last : List Op) (v : Numbers) (view : View) → IsCourse x [] last → IsPrefixOf front from → IsLoadedBetween x from last v view → (x.marked front ≤ v.marked) × (x.worked front ≤ v.worked) × (x.published front ≤ v.read) × (x.published front ≤ v.rooted)
numbers-from x front from last v view course p l =
    let r = l.reads in
    let on = front-trans from r.bookmarks last r.from_first (front-trans r.bookmarks r.dirstate last r.then_dirstate (front-trans r.dirstate r.changelog last r.then_changelog (front-trans r.changelog r.roots last r.then_roots r.to_last))) in
    let rose = course.rises front from (record { begins = (front, refl); ends = front-trans front from last p on }) (record { begins = p; ends = on }) in
    let m = rose.marked in
    let w = rose.worked in
    let n = rose.published in
    let o = l.order in
    let om = o.first_marked in
    let ow = o.first_worked in
    let on = o.first_read in
    let rr = o.read_rooted in
    (omega (arith, m, om), omega (arith, w, ow), omega (arith, n, on), omega (arith, n, on, rr))
