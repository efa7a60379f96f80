use Rattle.std.proofs.Common.{◌≡◌, ◌∙◌, ap, Some, subst}
use Rattle.hgs_files.specs.Tree.{Tree, after_all}
use Rattle.hgs_machine.specs.Asked.{asked}
use Rattle.hgs_mem.specs.Steady.{steady_log, steady_start}
use Rattle.hgs_world.specs.Working.{IsAtNext, writer_left}
use Rattle.hgs_world.specs.World.{book_at, book_left, scene_of}
use Rattle.hgs_world.proofs.WorldLemmas.{acts_in}
use Rattle.hgs_world.proofs.state.World.act.Goals as goal

pub returns-clause-does : goal.returns-clause-does
returns-clause-does c =
    let mid = c.act.new.self in
    let a = c.come.new.self in
    let e : c.args.self.now.writer ≡ Some c.in-Some.working = cc in
    let old = scene_of c.args.self.now in
    let n = subst (λ (s : Tree). IsAtNext (after_all (steady_log c.act.new.files) s) mid.machine a.machine) c.in_ok-act.ensures.same_start c.in_ok-come.ensures.next in
    acts_in c.args.deed c.args.words.now old (scene_of c.keep.new.self) c.in_ok-line.line.items c.in-Some.working mid a (steady_log c.act.new.files) e c.in_ok-act.ensures.acts n c.in_ok-come.ensures.same
    (c.in_ok-keep.ensures.does ∙ ap (λ s. record old { start = s; log = steady_log c.come.new.files; writer = writer_left (asked a.machine) a; book = book_left (asked a.machine) (book_at a.machine old.book) }) (c.in_ok-come.ensures.same_start ∙ c.in_ok-act.ensures.same_start)
    ∙ ap (λ l. record old { log = l; writer = writer_left (asked a.machine) a; book = book_left (asked a.machine) (book_at a.machine old.book) }) c.in_ok-come.ensures.log)
    c.in_ok-line.ensures
