-- What is acknowledged stays.
use Rattle.std.proofs.Common.{◌≡◌, ◌≤◌, ◌+◌, ℕ, zero, suc, List, [], ◌∷◌, ◌++◌, length, take, drop, Bool, true, false, refl, sym, ◌∙◌, ap, subst, arith, append-nil, append_assoc}
use Rattle.std.proofs.lemmas.List.{length-append, take-append-drop}
use Rattle.std.specs.Prelude.{Option, Some, None, codes}
use Rattle.hgs_files.specs.declared.op.Op.{Op}
use Rattle.hgs_machine.specs.Asked.{Doing, Ending, Question, Sizing, asked}
use Rattle.hgs_machine.specs.Fed.{is_acknowledged, is_published}
use Rattle.hgs_model.specs.declared.command.Command.{Command}
use Rattle.hgs_recover.specs.declared.answer.RecoverAnswer.{RecoverAnswer}
use Rattle.hgs_recover.specs.declared.answer.RecoverAnswer.TheVariants as recoveries
use Rattle.hgs_schedule.specs.declared.event.Event.{Event}
use Rattle.hgs_schedule.specs.declared.event.Event.TheVariants.{Begin, Write, Fail, UntilPublish, UntilClean, Finish, Open, Read, Load, Log, Cat, Phase, Bookmarks, Stop, Recover}
use Rattle.hgs_writer.specs.declared.begin.Begun.{Begun}
use Rattle.hgs_writer.specs.declared.begin.Begun.TheVariants.{Ready, Refused}
use Rattle.hgs_world.specs.Book.{Commands, IsCounted, acknowledged_in, acknowledged_of, ended_in, noted, published_in, published_more, taken_back, with_pending}
use Rattle.hgs_world.specs.World.{ActsAt, ActsIn, BeginsIn, Happens, HasBegun, IfRunning, LeavesWriter, OnlySays, RecoversAt, RecoversIn, RunsAt, RunsIn, Scene, StopsAt, StopsIn, book_at, book_left, book_recovered}
use Rattle.hgs_world.specs.Working.{at_machine, publishes_with}
use Rattle.hgs_world.specs.declared.working.Deed.{Deed}
use Rattle.hgs_world.specs.declared.working.Deed.TheVariants.{All as WholeDeed, Part as PartDeed, Fail as FailDeed}
use Rattle.hgs_world.specs.declared.working.Goal.{Goal}
use Rattle.hgs_world.specs.declared.working.Goal.TheVariants.{Publishing, Cleaning, End}
use Rattle.hgs_world.specs.declared.working.Working.{Working}

-- what is acknowledged goes on, and is counted
pub record GoesOn (old new : Commands) : Type 0 where
  pub counted : IsCounted new
  pub more : List Command
  pub whole : acknowledged_of new ≡ acknowledged_of old ++ more

take_on : (n : ℕ) (xs ys : List Command) → n ≤ length xs → take n (xs ++ ys) ≡ take n xs
take_on zero xs ys h = refl
take_on (suc n) [] ys h = absurd (omega (arith, h))
take_on (suc n) (x ∷ xs) ys h = ap (λ l. x ∷ l) (take_on n xs ys (omega (arith, h)))

take_whole : (xs : List Command) → take (length xs) xs ≡ xs
take_whole [] = refl
take_whole (x ∷ xs) = ap (λ l. x ∷ l) (take_whole xs)

same : (book : Commands) → IsCounted book → GoesOn book book
same book h = record { counted = h; more = []; whole = sym (append-nil (acknowledged_of book)) }

publishes_more : (pending : Option Command) (commands : List Command) (n : ℕ) → n ≤ length commands → (n ≤ length (published_more pending commands)) × (take n (published_more pending commands) ≡ take n commands)
publishes_more None commands n h = (h, refl)
publishes_more (Some command) commands n h =
    let l = length-append commands (command ∷ []) in
    (omega (arith, h, l), take_on n commands (command ∷ []) h)

publishes : (book : Commands) → IsCounted book → GoesOn book (published_in book)
publishes book h =
    let p = publishes_more book.pending book.published book.acknowledged h in
    record { counted = p.0; more = []; whole = p.1 ∙ sym (append-nil (acknowledged_of book)) }

acknowledges : (book : Commands) → IsCounted book → GoesOn book (acknowledged_in book)
acknowledges book h = record { counted = omega arith; more = drop book.acknowledged book.published; whole = take_whole book.published ∙ sym (take-append-drop book.acknowledged book.published) }

goes_further : (a b c : Commands) → GoesOn a b → GoesOn b c → GoesOn a c
goes_further a b c x y = record { counted = y.counted; more = x.more ++ y.more; whole = y.whole ∙ ap (λ l. l ++ y.more) x.whole ∙ append_assoc (acknowledged_of a) x.more y.more }

notes : (p a : Bool) (book : Commands) → IsCounted book → GoesOn book (noted p a book)
notes false false book h = same book h
notes true false book h = publishes book h
notes false true book h = acknowledges book h
notes true true book h =
    let x = publishes book h in
    goes_further book (published_in book) (acknowledged_in (published_in book)) x (acknowledges (published_in book) x.counted)

ended : (book : Commands) → IsCounted book → GoesOn book (ended_in book)
ended book h = record { counted = h; more = []; whole = sym (append-nil (acknowledged_of book)) }

take_twice : (n : ℕ) (xs : List Command) → n ≤ length xs → (n ≤ length (take n xs)) × (take n (take n xs) ≡ take n xs)
take_twice zero xs h = (omega arith, refl)
take_twice (suc n) [] h = absurd (omega (arith, h))
take_twice (suc n) (x ∷ xs) h =
    let more = take_twice n xs (omega (arith, h)) in
    let first = more.0 in
    (omega (arith, first), ap (λ l. x ∷ l) more.1)

takes_back : (book : Commands) → IsCounted book → GoesOn book (taken_back book)
takes_back book h =
    let t = take_twice book.acknowledged book.published h in
    record { counted = t.0; more = []; whole = t.1 ∙ sym (append-nil (acknowledged_of book)) }

left : (q : Question) (book : Commands) → IsCounted book → GoesOn book (book_left q book)
left (Doing op) book h = same book h
left (Sizing path) book h = same book h
left Ending book h = ended book h

recovered : (came : RecoverAnswer) (book : Commands) → IsCounted book → GoesOn book (book_recovered came book)
recovered recoveries.Restored book h = takes_back book h
recovered recoveries.NothingToDo book h = same book h
recovered (recoveries.Damaged d) book h = same book h
recovered recoveries.Fault book h = same book h
recovered recoveries.Unfinished book h = same book h
recovered recoveries.Memory book h = same book h

-- ---- each event

of : (old new : Scene) (book : Commands) → GoesOn old.book book → new.book ≡ book → GoesOn old.book new.book
of old new book h e = subst (GoesOn old.book) (sym e) h

still : (old new : Scene) → IsCounted old.book → new.book ≡ old.book → GoesOn old.book new.book
still old new h e = of old new old.book (same old.book h) e

said : (old new : Scene) (words text : List ℕ) → IsCounted old.book → OnlySays old new words text → GoesOn old.book new.book
said old new words text k h = still old new k (ap (λ (s : Scene). s.book) h.0)

leaves : (old new : Scene) (done : List Op) (after : Working) (words text : List ℕ) → IsCounted old.book → LeavesWriter old new done after words text → GoesOn old.book new.book
leaves old new done after words text k h =
    let n = notes (is_published after.machine) (is_acknowledged after.machine) old.book k in
    of old new (book_left (asked after.machine) (book_at after.machine old.book))
    (goes_further old.book (book_at after.machine old.book) (book_left (asked after.machine) (book_at after.machine old.book)) n (left (asked after.machine) (book_at after.machine old.book) n.counted))
    (ap (λ (s : Scene). s.book) h.0)

acts : (deed : Deed) (words : List ℕ) (old new : Scene) (text : List ℕ) → IsCounted old.book → ActsIn deed words old new text → GoesOn old.book new.book
acts deed words old new text k h = by old.writer h
  where
    by : (o : Option Working) → IfRunning o (OnlySays old new (codes "idle") text) (ActsAt deed words old new text) → GoesOn old.book new.book
    by None h = said old new (codes "idle") text k h
    by (Some w) (done, mid, a, m, n, l) = leaves old new done (at_machine mid m) words text k l

runs : (goal : Goal) (words : List ℕ) (old new : Scene) (text : List ℕ) → IsCounted old.book → RunsIn goal words old new text → GoesOn old.book new.book
runs goal words old new text k h = by old.writer h
  where
    by : (o : Option Working) → IfRunning o (OnlySays old new (codes "idle") text) (RunsAt goal words old new text) → GoesOn old.book new.book
    by None h = said old new (codes "idle") text k h
    by (Some w) (done, after, a, l) = leaves old new done after words text k l

begins : (command : Command) (old new : Scene) (text : List ℕ) → IsCounted old.book → Happens (Begin command) old new text → GoesOn old.book new.book
begins command old new text k h = by old.writer h
  where
    come : (begun : Begun) (done : List Op) → HasBegun command begun old new done text → GoesOn old.book new.book
    come (Ready planned) done h = of old new (with_pending command old.book) (record { counted = k; more = []; whole = sym (append-nil (acknowledged_of old.book)) }) (ap (λ (s : Scene). s.book) h.1)
    come (Refused answer) done (given, swept, now, text) = still old new k (ap (λ (s : Scene). s.book) now)

    by : (o : Option Working) → IfRunning o (BeginsIn command old new text) (λ w. OnlySays old new (codes "busy") text) → GoesOn old.book new.book
    by None (begun, done, b, h) = come begun done h
    by (Some w) h = said old new (codes "busy") text k h

stops : (count : ℕ) (old new : Scene) (text : List ℕ) → IsCounted old.book → StopsIn count old new text → GoesOn old.book new.book
stops count old new text k h = by old.writer h
  where
    by : (o : Option Working) → IfRunning o (OnlySays old new (codes "idle") text) (StopsAt count old new text) → GoesOn old.book new.book
    by None h = said old new (codes "idle") text k h
    by (Some w) (done, after, s, e, t) =
        let n = notes (publishes_with count after) false old.book k in
        let book = noted (publishes_with count after) false old.book in
        of old new (ended_in book) (goes_further old.book book (ended_in book) n (ended book n.counted)) (ap (λ (s : Scene). s.book) e)

recovers : (old new : Scene) (text : List ℕ) → IsCounted old.book → RecoversIn old new text → GoesOn old.book new.book
recovers old new text k h = by old.writer h
  where
    by : (o : Option Working) → IfRunning o (RecoversAt old new text) (λ w. OnlySays old new (codes "busy") text) → GoesOn old.book new.book
    by None (came, done, ended, is, does, now, t) = of old new (book_recovered came old.book) (recovered came old.book k) (ap (λ (s : Scene). s.book) now)
    by (Some w) h = said old new (codes "busy") text k h

pub acknowledged_stay : (event : Event) (old new : Scene) (text : List ℕ) → IsCounted old.book → Happens event old new text → GoesOn old.book new.book
acknowledged_stay (Begin command) old new text k h = begins command old new text k h
acknowledged_stay (Write None) old new text k h = acts WholeDeed (codes "wrote") old new text k h
acknowledged_stay (Write (Some count)) old new text k h = acts (PartDeed count) (codes "wrote") old new text k h
acknowledged_stay (Fail count) old new text k h = acts (FailDeed count) (codes "failed") old new text k h
acknowledged_stay UntilPublish old new text k h = runs Publishing (codes "at publish") old new text k h
acknowledged_stay UntilClean old new text k h = runs Cleaning (codes "at clean") old new text k h
acknowledged_stay Finish old new text k h = runs End [] old new text k h
acknowledged_stay (Stop count) old new text k h = stops count old new text k h
acknowledged_stay Recover old new text k h = recovers old new text k h
acknowledged_stay (Open reader) old new text k (s, there, (now, t)) = still old new k (ap (λ (x : Scene). x.book) now)
acknowledged_stay (Read reader) old new text k (s, there, (now, t)) = still old new k (ap (λ (x : Scene). x.book) now)
acknowledged_stay (Load reader) old new text k (s, there, (now, t)) = still old new k (ap (λ (x : Scene). x.book) now)
acknowledged_stay (Log reader) old new text k (s, there, (now, t)) = still old new k (ap (λ (x : Scene). x.book) now)
acknowledged_stay (Cat reader rev path) old new text k (s, there, (now, t)) = still old new k (ap (λ (x : Scene). x.book) now)
acknowledged_stay (Phase reader rev) old new text k (s, there, (now, t)) = still old new k (ap (λ (x : Scene). x.book) now)
acknowledged_stay (Bookmarks reader) old new text k (s, there, (now, t)) = still old new k (ap (λ (x : Scene). x.book) now)
