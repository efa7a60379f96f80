-- What readers have loaded, from one event to the next.
use Rattle.std.proofs.Common.{◌≡◌, ◌⊎◌, ℕ, zero, suc, List, [], ◌∷◌, ◌++◌, length, refl, sym, ◌∙◌, ap, subst, inl, inr, slice_set}
use Rattle.std.specs.Prelude.{Option, Some, None, Result, Ok, Err, codes, replicate, slice_get}
use Rattle.hgs_bytes.specs.Bytes.{IsPrefixOf}
use Rattle.hgs_files.specs.declared.op.Op.{Op}
use Rattle.hgs_files.specs.Tree.{Tree, after_all}
use Rattle.hgs_load.specs.declared.answer.ReadAnswer.{ReadAnswer}
use Rattle.hgs_load.specs.Asks.{Asks, MayAnswer, answer, at_rest, part_of, read}
use Rattle.hgs_load.specs.View.{View}
use Rattle.hgs_load.specs.Theorems.AskLemmas.{prefix-refl, prefix-trans}
use Rattle.hgs_model.specs.declared.command.Command.{Command}
use Rattle.hgs_schedule.specs.declared.event.Event.{Event}
use Rattle.hgs_schedule.specs.declared.event.Event.TheVariants.{Begin, Write, Fail, UntilPublish, UntilClean, Finish, Open, Read, Load, Log, Cat, Phase, Bookmarks, Stop, Recover}
use Rattle.hgs_writer.specs.declared.begin.Begun.{Begun}
use Rattle.hgs_writer.specs.declared.begin.Begun.TheVariants.{Ready, Refused}
use Rattle.hgs_world.specs.Questions.{Sight, load_answer, load_asks, loaded_by, next_question, no_sight, opened as begun, read_by, sight_at}
use Rattle.hgs_world.specs.World.{ActsAt, ActsIn, BeginsIn, HasBegun, Happens, IfRunning, IsFirst, OnlySays, RecoversAt, RecoversIn, RunsAt, RunsIn, Scene, StopsAt, StopsIn, forgotten, tree_of}
use Rattle.hgs_world.specs.declared.working.Deed.{Deed}
use Rattle.hgs_world.specs.declared.working.Deed.TheVariants as deeds
use Rattle.hgs_world.specs.declared.working.Goal.{Goal}
use Rattle.hgs_world.specs.declared.working.Goal.TheVariants as goals
use Rattle.hgs_world.specs.declared.working.Working.{Working}
use Rattle.hgs_played.specs.Loads.{HasLoaded, IsLeftOf, IsLoaded, IsLoading, ReadersSee, SeeLog, SeesLog, opened, refreshed}
use Rattle.hgs_played.specs.Since.{Beginning, GoesOn, KeepsLog, tree_at}
use Rattle.hgs_played.proofs.Going.{after_append}

-- ---- one reader

-- the log goes on
sees_more : (start : Tree) (log more : List Op) (s : Sight) → SeesLog start log s → SeesLog start (log ++ more) s
sees_more start log more s h =
    let on : IsPrefixOf log (log ++ more) = (more, refl) in
    record { ended = h.ended; before = prefix-trans h.ended log (log ++ more) h.before on; loaded = h.loaded; loading = by s.load h.loading }
  where
    by : (o : Option (Asks (Result View ReadAnswer))) → IsLoading start h.ended log s.last o → IsLoading start h.ended (log ++ more) s.last o
    by None k = tt
    by (Some left) k = (k.0, k.1, k.2, prefix-trans k.1 log (log ++ more) k.3 (more, refl), k.4)

-- a reader that has loaded nothing
sees_nothing : (start : Tree) (log : List Op) → SeesLog start log no_sight
sees_nothing start log = record { ended = []; before = (log, refl); loaded = tt; loading = tt }

-- a load begins
opens : (start : Tree) (log : List Op) (s : Sight) → SeesLog start log s → SeesLog start log (begun s)
opens start log s h = record { ended = h.ended; before = h.before; loaded = h.loaded; loading = (log, log, h.before, prefix-refl log, λ last y m. m) }

-- a load comes to its end here
has_loaded : (start : Tree) (ended first log : List Op) (last : Option View) (view : View) → HasLoaded start ended last → IsPrefixOf ended first → MayAnswer start first (load_asks last) log (Ok view) → IsLoaded start first log view
has_loaded start ended first log None view h on m = opened first log view m
has_loaded start ended first log (Some old) view h on m = refreshed h.0 ended first log old view h.1 on m

loads : (start : Tree) (log first : List Op) (s : Sight) (h : SeesLog start log s) (y : Result View ReadAnswer) → IsPrefixOf h.ended first → MayAnswer start first (load_asks s.last) log y → SeesLog start log (sight_at s.last (answer y))
loads start log first s h (Ok view) on m = record { ended = log; before = prefix-refl log; loaded = (first, has_loaded start h.ended first log s.last view h.loaded on m); loading = tt }
loads start log first s h (Err e) on m = record { ended = h.ended; before = h.before; loaded = h.loaded; loading = tt }

-- all its reads made at once
pub at_once : {A : Type 0} (start : Tree) (log : List Op) (q : Asks A) → MayAnswer start log q log (at_rest (after_all log start) q)
at_once start log (answer x) = (prefix-refl log, refl)
at_once start log (read path from most rest) = (log, prefix-refl log, at_once start log (rest (part_of (after_all log start) path from most)))

loads_at_once : (start : Tree) (log : List Op) (s : Sight) → SeesLog start log s → SeesLog start log (loaded_by (after_all log start) s)
loads_at_once start log s h = loads start log log s h (load_answer (after_all log start) s.last) h.before (at_once start log (load_asks s.last))

-- its next read
pub left_on : (start : Tree) (first now log : List Op) (whole q : Asks (Result View ReadAnswer)) → IsPrefixOf now log → IsLeftOf start first now whole q → IsLeftOf start first log whole (next_question (after_all log start) q)
left_on start first now log whole (answer x) on h = λ last y m. h last y (prefix-trans now log last on m.0, m.1)
left_on start first now log whole (read path from most rest) on h = λ last y m. h last y (log, on, m)

reads_on : (start : Tree) (log first now : List Op) (s : Sight) (h : SeesLog start log s) (q : Asks (Result View ReadAnswer)) → IsPrefixOf h.ended first → IsPrefixOf now log → IsLeftOf start first log (load_asks s.last) q → SeesLog start log (sight_at s.last q)
reads_on start log first now s h (answer y) on to left = loads start log first s h y on (left log y (prefix-refl log, refl))
reads_on start log first now s h (read path from most rest) on to left = record { ended = h.ended; before = h.before; loaded = h.loaded; loading = (first, log, on, prefix-refl log, left) }

reads : (start : Tree) (log : List Op) (s : Sight) (h : SeesLog start log s) (o : Option (Asks (Result View ReadAnswer))) → IsLoading start h.ended log s.last o → SeesLog start log (read_by (after_all log start) s o)
reads start log s h None k = h
reads start log s h (Some q) k = reads_on start log k.0 k.1 s h (next_question (after_all log start) q) k.2 k.3 (left_on start k.0 k.1 log (load_asks s.last) q k.3 k.4)

-- ---- all readers

set_or_not : (xs : List Sight) (i j : ℕ) (y z : Sight) → slice_get (slice_set xs i y) j ≡ Some z → (z ≡ y) ⊎ (slice_get xs j ≡ Some z)
set_or_not [] i j y z e = inr e
set_or_not (x ∷ xs) zero zero y z e = inl (let k : y ≡ z = cc in sym k)
set_or_not (x ∷ xs) zero (suc j) y z e = inr e
set_or_not (x ∷ xs) (suc i) zero y z e = inr e
set_or_not (x ∷ xs) (suc i) (suc j) y z e = set_or_not xs i j y z e

only_nothing : (count j : ℕ) (z : Sight) → slice_get (replicate count no_sight) j ≡ Some z → no_sight ≡ z
only_nothing zero j z e = cc
only_nothing (suc count) zero z e = cc
only_nothing (suc count) (suc j) z e = only_nothing count j z e

pub forgotten_see : (start : Tree) (log : List Op) (count : ℕ) → SeeLog start log (forgotten count)
forgotten_see start log count = λ number s e. subst (SeesLog start log) (only_nothing count number s e) (sees_nothing start log)

one_sees : (start : Tree) (log : List Op) (readers : List Sight) (i : ℕ) (y : Sight) → SeeLog start log readers → SeesLog start log y → SeeLog start log (slice_set readers i y)
one_sees start log readers i y h k = λ number s e. by number s (set_or_not readers i number y s e)
  where
    by : (number : ℕ) (s : Sight) → (s ≡ y) ⊎ (slice_get readers number ≡ Some s) → SeesLog start log s
    by number s (inl is) = subst (SeesLog start log) (sym is) k
    by number s (inr e) = h number s e

see_more : (start : Tree) (log more : List Op) (readers : List Sight) → SeeLog start log readers → SeeLog start (log ++ more) readers
see_more start log more readers h = λ number s e. sees_more start log more s (h number s e)

-- ---- events of the writer

-- the play began where it did, and the readers are as before or have forgotten all
abbrev AreLeft : Scene → Scene → Type 0
AreLeft old new = (new.start ≡ old.start) × ((new.readers ≡ old.readers) ⊎ (new.readers ≡ forgotten (length old.readers)))

said : (old new : Scene) (words text : List ℕ) → OnlySays old new words text → AreLeft old new
said old new words text h = (ap (λ (s : Scene). s.start) h.0, inl (ap (λ (s : Scene). s.readers) h.0))

acts : (deed : Deed) (words : List ℕ) (old new : Scene) (text : List ℕ) → ActsIn deed words old new text → AreLeft old new
acts deed words old new text h = by old.writer h
  where
    by : (o : Option Working) → IfRunning o (OnlySays old new (codes "idle") text) (ActsAt deed words old new text) → AreLeft old new
    by None h = said old new (codes "idle") text h
    by (Some w) (done, mid, a, m, n, left) = (ap (λ (s : Scene). s.start) left.0, inl (ap (λ (s : Scene). s.readers) left.0))

runs : (goal : Goal) (words : List ℕ) (old new : Scene) (text : List ℕ) → RunsIn goal words old new text → AreLeft old new
runs goal words old new text h = by old.writer h
  where
    by : (o : Option Working) → IfRunning o (OnlySays old new (codes "idle") text) (RunsAt goal words old new text) → AreLeft old new
    by None h = said old new (codes "idle") text h
    by (Some w) (done, after, a, left) = (ap (λ (s : Scene). s.start) left.0, inl (ap (λ (s : Scene). s.readers) left.0))

begins : (command : Command) (old new : Scene) (text : List ℕ) → Happens (Begin command) old new text → AreLeft old new
begins command old new text h = by old.writer h
  where
    come : (b : Begun) (done : List Op) → HasBegun command b old new done text → AreLeft old new
    come (Ready planned) done h = (ap (λ (s : Scene). s.start) h.1, inl (ap (λ (s : Scene). s.readers) h.1))
    come (Refused refusal) done (given, swept, now, text) = (ap (λ (s : Scene). s.start) now, inl (ap (λ (s : Scene). s.readers) now))

    by : (o : Option Working) → IfRunning o (BeginsIn command old new text) (λ w. OnlySays old new (codes "busy") text) → AreLeft old new
    by None (b, done, bg, h) = come b done h
    by (Some w) h = said old new (codes "busy") text h

stops : (count : ℕ) (old new : Scene) (text : List ℕ) → StopsIn count old new text → AreLeft old new
stops count old new text h = by old.writer h
  where
    by : (o : Option Working) → IfRunning o (OnlySays old new (codes "idle") text) (StopsAt count old new text) → AreLeft old new
    by None h = said old new (codes "idle") text h
    by (Some w) (done, after, s, e, t) = (ap (λ (x : Scene). x.start) e, inr (ap (λ (x : Scene). x.readers) e))

recovers : (old new : Scene) (text : List ℕ) → RecoversIn old new text → AreLeft old new
recovers old new text h = by old.writer h
  where
    by : (o : Option Working) → IfRunning o (RecoversAt old new text) (λ w. OnlySays old new (codes "busy") text) → AreLeft old new
    by None (came, done, ended, is, does, now, t) = (ap (λ (x : Scene). x.start) now, inr (ap (λ (x : Scene). x.readers) now))
    by (Some w) h = said old new (codes "busy") text h

-- ---- each event

module _ (old new : Scene) (b : Beginning) (log : List Op) (keeps : KeepsLog old b log) (see : ReadersSee old b log) where
  abbrev start : Tree
  start = tree_at old.start b

  at : tree_of old ≡ after_all log start
  at = ap (λ x. after_all x old.start) keeps.whole ∙ after_append b.earlier log old.start

  from_start : (ops : List Op) → new.start ≡ old.start → SeeLog start ops new.readers → SeeLog (tree_at new.start b) ops new.readers
  from_start ops e h = subst (λ (t : Tree). SeeLog (tree_at t b) ops new.readers) (sym e) h

  left_see : (done : List Op) → AreLeft old new → ReadersSee new b (log ++ done)
  left_see done (same, inl e) = from_start (log ++ done) same (subst (SeeLog start (log ++ done)) (sym e) (see_more start log done old.readers see))
  left_see done (same, inr e) = from_start (log ++ done) same (subst (SeeLog start (log ++ done)) (sym e) (forgotten_see start (log ++ done) (length old.readers)))

  set_see : (done : List Op) (number : ℕ) (y : Sight) → SeesLog start log y → new ≡ record old { readers = slice_set old.readers number y } → ReadersSee new b (log ++ done)
  set_see done number y k e = from_start (log ++ done) (ap (λ (s : Scene). s.start) e) (subst (SeeLog start (log ++ done)) (sym (ap (λ (s : Scene). s.readers) e)) (see_more start log done (slice_set old.readers number y) (one_sees start log old.readers number y see k)))

  asked_see : (done : List Op) → new ≡ old → ReadersSee new b (log ++ done)
  asked_see done e = left_see done (ap (λ (s : Scene). s.start) e, inl (ap (λ (s : Scene). s.readers) e))

  -- where the log goes on
  pub goes_see : (event : Event) (text : List ℕ) (done : List Op) → Happens event old new text → ReadersSee new b (log ++ done)
  goes_see (Begin command) text done h = left_see done (begins command old new text h)
  goes_see (Write None) text done h = left_see done (acts deeds.All (codes "wrote") old new text h)
  goes_see (Write (Some count)) text done h = left_see done (acts (deeds.Part count) (codes "wrote") old new text h)
  goes_see (Fail count) text done h = left_see done (acts (deeds.Fail count) (codes "failed") old new text h)
  goes_see UntilPublish text done h = left_see done (runs goals.Publishing (codes "at publish") old new text h)
  goes_see UntilClean text done h = left_see done (runs goals.Cleaning (codes "at clean") old new text h)
  goes_see Finish text done h = left_see done (runs goals.End [] old new text h)
  goes_see (Stop count) text done h = left_see done (stops count old new text h)
  goes_see Recover text done h = left_see done (recovers old new text h)
  goes_see (Open reader) text done (s, there, (now, said)) = set_see done reader (begun s) (opens start log s (see reader s there)) now
  goes_see (Read reader) text done (s, there, (now, said)) =
      let k = see reader s there in
      set_see done reader (read_by (tree_of old) s s.load) (subst (λ (t : Tree). SeesLog start log (read_by t s s.load)) (sym at) (reads start log s k s.load k.loading)) now
  goes_see (Load reader) text done (s, there, (now, said)) =
      set_see done reader (loaded_by (tree_of old) s) (subst (λ (t : Tree). SeesLog start log (loaded_by t s)) (sym at) (loads_at_once start log s (see reader s there))) now
  goes_see (Log reader) text done (s, there, (now, said)) = asked_see done now
  goes_see (Cat reader rev path) text done (s, there, (now, said)) = asked_see done now
  goes_see (Phase reader rev) text done (s, there, (now, said)) = asked_see done now
  goes_see (Bookmarks reader) text done (s, there, (now, said)) = asked_see done now

pub happens_see : (event : Event) (old new : Scene) (text : List ℕ) (b c : Beginning) (log more : List Op) → KeepsLog old b log → ReadersSee old b log → Happens event old new text → GoesOn event new b log c more → ReadersSee new c more
happens_see event old new text b c log more keeps see h (inl (same, (done, on))) =
    subst (λ d. ReadersSee new d more) (sym same) (subst (ReadersSee new b) (sym on) (goes_see old new b log keeps see event text done h))
happens_see event old new text b c log more keeps see h (inr (is, none, (count, readers))) = subst (SeeLog (tree_at new.start c) more) (sym readers) (forgotten_see (tree_at new.start c) more count)

pub first_see : (readers : ℕ) (s : Scene) (b : Beginning) (log : List Op) → IsFirst readers s → ReadersSee s b log
first_see readers s b log first = subst (SeeLog (tree_at s.start b) log) (sym first.readers_are) (forgotten_see (tree_at s.start b) log readers)
