use Rattle.std.proofs.Common.{◌-◌, ◌∙◌, arith, refl, subst}
use Rattle.hgs_load.specs.Asks.{AddsGiven, at_rest}
use Rattle.hgs_mem.specs.Steady.{steady_log, steady_start, steady_tree}
use Rattle.hgs_reader.specs.Line.{line_asks}
use Rattle.hgs_world.proofs.QuestionLemmas.{adds_steady, line_on, line_refused, still}
use Rattle.hgs_world.specs.Questions.{log_text}
use Rattle.hgs_world.proofs.questions.log_text.Goals as goal

pub returns-in-Err-clause-text : goal.returns-in-Err-clause-text
returns-in-Err-clause-text c =
    let i = c.loop-left.invariant in
    let e = c.log_line.ensures in
    let t = steady_tree c.args.files.now in
    let v = c.args.session.now in
    let given = subst (λ w. AddsGiven (at_rest t (line_asks w (c.loop-left.left - 1))) c.loop-left.text.items c.log_line.new.into.items c.log_line.result) i.kept
    (adds_steady (steady_log c.loop-left.files) (steady_log c.log_line.new.files) (steady_log c.args.files.now) (steady_start c.loop-left.files) (steady_start c.args.files.now) (line_asks c.loop-left.session (c.loop-left.left - 1)) c.loop-left.text.items c.log_line.new.into.items c.log_line.result i.log (still (e.still refl)) i.same_start e.answer) in
    line_refused t v c.loop-left.left (log_text t v) c.loop-left.text.items c.log_line.new.into.items c.push_refusal.new.into.items c.log_line.result c.in-Err.refusal c.loop-left-test.true c.in-Err.is c.in_ok-push_refusal.ensures.inner i.text given c.in_ok-push_refusal.ensures.line

pub loop-left-preserved : goal.loop-left-preserved
loop-left-preserved c =
    let i = c.loop-left.invariant in
    let e = c.log_line.ensures in
    let t = steady_tree c.args.files.now in
    let v = c.args.session.now in
    let given = subst (λ w. AddsGiven (at_rest t (line_asks w (c.loop-left.left - 1))) c.loop-left.text.items c.log_line.new.into.items c.log_line.result) i.kept
    (adds_steady (steady_log c.loop-left.files) (steady_log c.log_line.new.files) (steady_log c.args.files.now) (steady_start c.loop-left.files) (steady_start c.args.files.now) (line_asks c.loop-left.session (c.loop-left.left - 1)) c.loop-left.text.items c.log_line.new.into.items c.log_line.result i.log (still (e.still refl)) i.same_start e.answer) in
    record {
      text = line_on t v c.loop-left.left (log_text t v) c.loop-left.text.items c.log_line.new.into.items c.log_line.result c.in_default.field-0 c.loop-left-test.true c.in_default.is i.text given;
      within = (let w = i.within in omega arith);
      kept = e.kept ∙ i.kept;
      log = still (e.still refl) ∙ i.log;
      same_start = e.same_start ∙ i.same_start;
    }
