-- Events of the writer.
use Rattle.std.proofs.Common.{◌≡◌, ℕ, List, ◌++◌, length, true, false, refl, sym, ◌∙◌, ap, subst}
use Rattle.std.specs.Prelude.{Option, Some, None, is_some, codes}
use Rattle.hgs_files.specs.declared.op.Op.{Op}
use Rattle.hgs_files.specs.Files.{GoesOn}
use Rattle.hgs_answers.specs.declared.answer.Answer.{Answer}
use Rattle.hgs_files.specs.Tree.{Tree, after_all}
use Rattle.hgs_machine.specs.Asked.{asked}
use Rattle.hgs_machine.specs.Planned.{IsPlanned}
use Rattle.hgs_model.specs.declared.command.Command.{Command}
use Rattle.hgs_schedule.specs.declared.event.Event.TheVariants.{Begin}
use Rattle.hgs_writer.specs.Begun.{Begins}
use Rattle.hgs_writer.specs.declared.begin.Begun.TheVariants.{Ready, Refused}
use Rattle.hgs_writer.specs.declared.plan.Planned.{Planned}
use Rattle.hgs_world.specs.Book.{ended_in, noted, with_pending}
use Rattle.hgs_world.specs.Texts.{begun_line, word_line}
use Rattle.hgs_world.specs.Working.{Acts, IsAtNext, RunsTo, StopsWithin, at_machine, line_at, publishes_with, writer_left}
use Rattle.hgs_world.specs.World.{ActsAt, ActsIn, BeginsIn, Happens, IfRunning, IsGivenByFiles, LeavesWriter, OnlySays, RunsIn, Scene, StopsAt, StopsIn, forgotten, book_at, book_left, new_writer, tree_of, who}
use Rattle.hgs_world.specs.declared.working.Deed.{Deed}
use Rattle.hgs_world.specs.declared.working.Goal.{Goal}
use Rattle.hgs_world.specs.declared.working.Working.{Working}
use Rattle.hgs_world.proofs.WorkLemmas.{after_append}

pub acts_in : (deed : Deed) (words : List ℕ) (old new : Scene) (text : List ℕ) (w mid after : Working) (log : List Op) → old.writer ≡ Some w → GoesOn (Some old.log) (Some log) (λ done. Acts deed (tree_of old) w done mid)
    → IsAtNext (after_all log old.start) mid.machine after.machine → after ≡ at_machine mid after.machine
    → new ≡ record old { log = log; writer = writer_left (asked after.machine) after; book = book_left (asked after.machine) (book_at after.machine old.book) } → text ≡ line_at (asked after.machine) (word_line words) after → ActsIn deed words old new text
acts_in deed words old new text w mid after log e h n same now t =
    let is : log ≡ old.log ++ h.0 = cc in
    let tree : after_all log old.start ≡ after_all h.0 (tree_of old) = ap (λ l. after_all l old.start) is ∙ after_append old.log h.0 old.start in
    let left : LeavesWriter old new h.0 after words text = (now ∙ ap (λ l. record old { log = l; writer = writer_left (asked after.machine) after; book = book_left (asked after.machine) (book_at after.machine old.book) }) is, t) in
    subst (λ o. IfRunning o (OnlySays old new (codes "idle") text) (ActsAt deed words old new text)) (sym e)
    (h.0, mid, h.2, after.machine, subst (λ (x : Tree). IsAtNext x mid.machine after.machine) tree n, subst (λ v. LeavesWriter old new h.0 v words text) same left)

pub stops_in : (count : ℕ) (old new : Scene) (text : List ℕ) (w after : Working) (log : List Op) → old.writer ≡ Some w → GoesOn (Some old.log) (Some log) (λ done. StopsWithin count (tree_of old) w done after)
    → new ≡ record old { log = log; writer = None; readers = forgotten (length old.readers); book = ended_in (noted (publishes_with count after) false old.book) } → text ≡ word_line (codes "stopped") → StopsIn count old new text
stops_in count old new text w after log e h now t =
    let is : log ≡ old.log ++ h.0 = cc in
    subst (λ o. IfRunning o (OnlySays old new (codes "idle") text) (StopsAt count old new text)) (sym e)
    (h.0, after, h.2, now ∙ ap (λ l. record old { log = l; writer = None; readers = forgotten (length old.readers); book = ended_in (noted (publishes_with count after) false old.book) }) is, t)

pub runs_in : (goal : Goal) (words : List ℕ) (old new : Scene) (text : List ℕ) (w after : Working) (log : List Op) → old.writer ≡ Some w → GoesOn (Some old.log) (Some log) (λ done. RunsTo goal (tree_of old) w done after)
    → new ≡ record old { log = log; writer = writer_left (asked after.machine) after; book = book_left (asked after.machine) (book_at after.machine old.book) } → text ≡ line_at (asked after.machine) (word_line words) after → RunsIn goal words old new text
runs_in goal words old new text w after log e h n t =
    let is : log ≡ old.log ++ h.0 = cc in
    subst (λ o. IfRunning o (OnlySays old new (codes "idle") text) (λ v. (done : List Op) × (u : Working) × RunsTo goal (tree_of old) v done u × LeavesWriter old new done u words text)) (sym e)
    (h.0, after, h.2, (n ∙ ap (λ l. record old { log = l; writer = writer_left (asked after.machine) after; book = book_left (asked after.machine) (book_at after.machine old.book) }) is, t))

pub no_writer : (o : Option Working) → is_some o ≡ false → o ≡ None
no_writer None h = refl
no_writer (Some w) h = absurd (let no : ⊥ = cc in no)

pub begun_ready : (command : Command) (old new : Scene) (text : List ℕ) (planned : Planned) (start : Tree) (log : List Op) → old.writer ≡ None → start ≡ old.start → GoesOn (Some old.log) (Some log) (Begins who command (tree_of old) (Ready planned))
    → IsPlanned (after_all log start) planned.plan → new ≡ record old { start = start; log = log; writer = Some (new_writer planned); book = with_pending command old.book } → text ≡ word_line (codes "begin ok") → Happens (Begin command) old new text
begun_ready command old new text planned start log none e h can n t =
    let is : log ≡ old.log ++ h.0 = cc in
    subst (λ o. IfRunning o (BeginsIn command old new text) (λ w. OnlySays old new (codes "busy") text)) (sym none) (
      Ready planned,
      h.0,
      h.2,
      (
        subst (λ (u : Tree). IsPlanned u planned.plan) (ap (after_all log) e ∙ ap (λ l. after_all l old.start) is ∙ after_append old.log h.0 old.start) can,
        n ∙ ap (λ (s : Tree). record old { start = s; log = log; writer = Some (new_writer planned); book = with_pending command old.book }) e
            ∙ ap (λ l. record old { log = l; writer = Some (new_writer planned); book = with_pending command old.book }) is,
        t,
      ),
    )

pub begun_refused : (command : Command) (old new : Scene) (text : List ℕ) (answer : Answer) (start : Tree) (log : List Op) → old.writer ≡ None → start ≡ old.start → GoesOn (Some old.log) (Some log) (Begins who command (tree_of old) (Refused answer))
    → new ≡ record old { start = start; log = log } → IsGivenByFiles answer.outcome → answer.swept ≡ true → text ≡ begun_line answer.outcome → Happens (Begin command) old new text
begun_refused command old new text answer start log none e h n given swept t =
    let is : log ≡ old.log ++ h.0 = cc in
    subst (λ o. IfRunning o (BeginsIn command old new text) (λ w. OnlySays old new (codes "busy") text)) (sym none) (
      Refused answer,
      h.0,
      h.2,
      (
        given,
        swept,
        n ∙ ap (λ (s : Tree). record old { start = s; log = log }) e ∙ ap (λ l. record old { log = l }) is ∙ ap (λ o. record old { log = old.log ++ h.0; writer = o }) none,
        t,
      ),
    )
