use Rattle.std.proofs.Common.{◌≡◌, sym, ◌∙◌, refl}
use Rattle.std.specs.Prelude.{None}
use Rattle.hgs_mem.specs.Steady.{steady_log, steady_start}
use Rattle.hgs_world.specs.World.{scene_of}
use Rattle.hgs_world.proofs.SceneLemmas.{if_ok, if_ok_all}
use Rattle.hgs_world.proofs.WorldLemmas.{begun_ready, begun_refused, no_writer}
use Rattle.hgs_world.proofs.state.World.begin.Goals as goal

pub returns-in-Ready-clause-does : goal.returns-in-Ready-clause-does
returns-in-Ready-clause-does c =
    let none : c.args.self.now.writer ≡ None = no_writer c.args.self.now.writer (sym c.is_some.ensures ∙ c.if-is_some.false) in
    if_ok c.set_out.result (λ text h. begun_ready c.args.command (scene_of c.args.self.now) (scene_of c.set_out.new.self) text.items c.in-Ready.planned (steady_start c.begin.new.files) (steady_log c.begin.new.files) none c.begin.ensures.same_start c.in-Ready.ensures.log (c.in-Ready.ensures.planned (steady_log c.begin.new.files) refl) h.0 h.1) c.set_out.ensures.does

pub returns-in-Refused-clause-does : goal.returns-in-Refused-clause-does
returns-in-Refused-clause-does c =
    let none : c.args.self.now.writer ≡ None = no_writer c.args.self.now.writer (sym c.is_some.ensures ∙ c.if-is_some.false) in
    if_ok_all c.refused.result (λ text line given swept. begun_refused c.args.command (scene_of c.args.self.now) _ text.items c.in-Refused.answer (steady_start c.begin.new.files) (steady_log c.begin.new.files) none c.begin.ensures.same_start c.in-Refused.ensures.log refl given swept line) c.refused.ensures.line c.refused.ensures.given c.refused.ensures.swept
