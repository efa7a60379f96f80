use Rattle.std.proofs.Common.{◌≡◌, ◌∙◌, ap, length, false, Some, None}
use Rattle.std.specs.Prelude.{IfOk, Result, Ok, Err, codes}
use Rattle.hgs_files.specs.Tree.{Tree}
use Rattle.hgs_mem.specs.Steady.{steady_log, steady_start}
use Rattle.hgs_world.specs.Book.{Commands, ended_in, noted}
use Rattle.hgs_world.specs.Texts.{word_line}
use Rattle.hgs_world.specs.Working.{publishes_with}
use Rattle.hgs_world.specs.World.{StopsIn, forgotten, scene_of}
use Rattle.hgs_world.proofs.WorldLemmas.{stops_in}
use Rattle.hgs_world.proofs.state.World.stop.Goals as goal

if_ok : {A E : Type 0} (r : Result A E) (P Q : A → Type 0) → ((x : A) → P x → Q x) → IfOk r P → IfOk r Q
if_ok (Ok x) P Q f h = f x h
if_ok (Err e) P Q f h = tt

pub returns-clause-does : goal.returns-clause-does
returns-clause-does c =
    let after = c.stop.new.self in
    let old = scene_of c.args.self.now in
    let log = steady_log c.stop.new.files in
    let readers = forgotten (length old.readers) in
    let e : c.args.self.now.writer ≡ Some c.in-Some.working = cc in
    let book : c.end.new.self ≡ ended_in (noted (publishes_with c.args.count after) false old.book) =
    c.end.ensures ∙ ap ended_in (c.in_ok-note.ensures ∙ ap (λ b. noted b false old.book) c.publishes_with.ensures) in
    let now = c.in_ok-forget.ensures.scene
    ∙ ap (λ (s : Tree). record old { start = s; log = log; writer = c.take.new.self; readers = readers; book = c.end.new.self }) c.in_ok-stop.ensures.same_start
    ∙ ap (λ w. record old { log = log; writer = w; readers = readers; book = c.end.new.self }) c.take.ensures.after
    ∙ ap (λ (b : Commands). record old { log = log; writer = None; readers = readers; book = b }) book in
    if_ok c.word_line-2.result (λ line. line.items ≡ word_line (codes "stopped")) (λ text. StopsIn c.args.count old (scene_of c.forget.new.self) text.items)
    (λ line said. stops_in c.args.count old (scene_of c.forget.new.self) line.items c.in-Some.working after log e c.in_ok-stop.ensures.stops now said) c.word_line-2.ensures
