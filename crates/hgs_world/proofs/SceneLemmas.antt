-- Events of readers.
use Rattle.std.proofs.Common.{◌≡◌, ℕ, ◌<◌, List, length, map, refl, sym, ◌∙◌, ap}
use Rattle.std.specs.Prelude.{Result, Ok, Err, OnOk, IfOk, Some, slice_get, slice_index_or, slice_set}
use Rattle.std.proofs.lemmas.List.{map-set}
use Rattle.std.proofs.lemmas.Option.{slice_get-get_or}
use Rattle.std.proofs.Math.Seq.{map-set_same}
use Rattle.hgs_files.specs.declared.op.Op.{Op}
use Rattle.hgs_files.specs.Tree.{Tree}
use Rattle.hgs_load.specs.View.{View}
use Rattle.hgs_world.specs.Questions.{Sight, of_last, sight_of}
use Rattle.hgs_world.specs.World.{Answers, Scene, Sees}
use Rattle.hgs_world.specs.declared.reading.Reading.{Reading}
use Rattle.hgs_world.proofs.QuestionLemmas.{sight_there}

pub if_ok : {T E : Type 0} {P Q : T → Type 0} (r : Result T E) → ((x : T) → P x → Q x) → IfOk r P → IfOk r Q
if_ok (Ok x) f h = f x h
if_ok (Err e) f h = tt

pub if_ok_all : {T E : Type 0} {P Q R S : T → Type 0} (r : Result T E) → ((x : T) → P x → Q x → R x → S x) → IfOk r P → IfOk r Q → IfOk r R → IfOk r S
if_ok_all (Ok x) f h k l = f x h k l
if_ok_all (Err e) f h k l = tt

pub if_ok_on : {T E X : Type 0} {P Q : T → Type 0} (r : Result T E) → (X → (x : T) → P x → Q x) → OnOk r X → IfOk r P → IfOk r Q
if_ok_on (Ok x) f k h = f k x h
if_ok_on (Err e) f k h = tt

reader_there : (readers : List Reading) (n : ℕ) (x : Reading) → n < length readers → x ≡ slice_index_or readers n x → slice_get (map sight_of readers) n ≡ Some (sight_of x)
reader_there readers n x h e = sight_there sight_of readers n x (slice_get-get_or readers n x h ∙ ap (λ r. Some r) (sym e))

same_scene : (old : Scene) (start : Tree) (log : List Op) (readers sights : List Sight) → start ≡ old.start → log ≡ old.log → readers ≡ sights → record old { start = start; log = log; readers = readers } ≡ record old { readers = sights }
same_scene old start log readers sights e f g =
    ap (λ (s : Tree). record old { start = s; log = log; readers = readers }) e ∙ ap (λ l. record old { log = l; readers = readers }) f ∙ ap (λ r. record old { readers = r }) g

-- one reader becomes this
pub sees : (n : ℕ) (becomes : Sight → Sight) (writes : Sight → List ℕ) (old : Scene) (start : Tree) (log : List Op) (readers : List Reading) (x y : Reading) (text : List ℕ) → start ≡ old.start → log ≡ old.log → map sight_of readers ≡ old.readers
    → n < length readers → x ≡ slice_index_or readers n x → sight_of y ≡ becomes (sight_of x) → text ≡ writes (sight_of x) → Sees n becomes writes old (record old { start = start; log = log; readers = map sight_of (slice_set readers n y) }) text
sees n becomes writes old start log readers x y text e f g within value sight line =
    let there = ap (λ l. slice_get l n) (sym g) ∙ reader_there readers n x within value in
    let set = map-set sight_of readers n y ∙ ap (λ s. slice_set (map sight_of readers) n s) sight ∙ ap (λ l. slice_set l n (becomes (sight_of x))) g in
    (sight_of x, there, (same_scene old start log (map sight_of (slice_set readers n y)) (slice_set old.readers n (becomes (sight_of x))) e f set, line))

-- a question to one reader, which stays as it is
pub answers : (n : ℕ) (writes : View → List ℕ) (old : Scene) (start : Tree) (log : List Op) (readers : List Reading) (x y : Reading) (text : List ℕ) → start ≡ old.start → log ≡ old.log → map sight_of readers ≡ old.readers
    → n < length readers → x ≡ slice_index_or readers n x → sight_of y ≡ sight_of x → text ≡ of_last (sight_of x).last writes → Answers n writes old (record old { start = start; log = log; readers = map sight_of (slice_set readers n y) }) text
answers n writes old start log readers x y text e f g within value sight line =
    let there = ap (λ l. slice_get l n) (sym g) ∙ reader_there readers n x within value in
    let same = map-set_same sight_of readers n y x (sight ∙ ap sight_of value) ∙ g in
    (sight_of x, there, (same_scene old start log (map sight_of (slice_set readers n y)) old.readers e f same, line))

pub answers_still : (n : ℕ) (writes : View → List ℕ) (old : Scene) (readers : List Reading) (x : Reading) (text : List ℕ) → map sight_of readers ≡ old.readers → n < length readers → x ≡ slice_index_or readers n x → text ≡ of_last (sight_of x).last writes → Answers n writes old old text
answers_still n writes old readers x text g within value line = (sight_of x, ap (λ l. slice_get l n) (sym g) ∙ reader_there readers n x within value, (refl, line))

-- a session that is as before
pub kept_sight : (x : Reading) (session new : View) → x.session ≡ Some session → new ≡ session → sight_of (record x { session = Some new }) ≡ sight_of x
kept_sight x session new e k = ap (λ o. record (sight_of x) { last = o }) (ap (λ v. Some v) k ∙ sym e)
