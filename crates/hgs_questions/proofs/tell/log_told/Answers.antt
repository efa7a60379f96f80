use Rattle.std.proofs.Common.{◌∙◌, [], arith, refl, ap, suc}
use Rattle.hgs_load.specs.Theorems.AskLemmas.{grows-refl, grows-trans}
use Rattle.hgs_questions.specs.Said.{said}
use Rattle.hgs_questions.proofs.AnswerLemmas.{told-at-once}
use Rattle.hgs_questions.proofs.TellLemmas.{log-cut, log-more}
use Rattle.hgs_questions.proofs.tell.log_told.Goals as goal

pub loop-left-init : goal.loop-left-init
loop-left-init g c = record {
  lines = (0, (let l = c.len-left.ensures in omega (arith, l)), told-at-once (g.R.Reads.seen c.args.files.now) (g.R.Reads.start c.args.files.now) (said []) (said c.new-text.result.items) (ap said c.new-text.ensures.items));
  kept = refl;
  grown = grows-refl (g.R.Reads.seen c.args.files.now);
  same_start = refl;
  still = λ alone. refl;
  same_ties = refl;
  shown = λ s. s;
  later = omega arith;
  later_denied = omega arith;
}

pub loop-left-preserved : goal.loop-left-preserved
loop-left-preserved g c =
    let inv = c.loop-left.invariant in
    let e = c.log_line.ensures in
    let some = c.loop-left-test.true in
    let before = g.R.Reads.seen c.args.files.now in
    let now = g.R.Reads.seen c.loop-left.files in
    let next = g.R.Reads.seen c.log_line.new.files in
    let sum = inv.lines.1 in
    record {
      lines = (
        suc inv.lines.0,
        omega (arith, some, sum),
        log-more before now next (g.R.Reads.start c.args.files.now) (g.R.Reads.start c.loop-left.files) c.args.session.now c.loop-left.session inv.lines.0 c.loop-left.left c.loop-left.text.items c.log_line.new.into.items c.log_line.result c.in_default.field-0
            (omega (arith, some)) sum inv.grown inv.same_start inv.kept inv.lines.2 c.in_default.is e.answer,
      );
      kept = e.kept ∙ inv.kept;
      grown = grows-trans before now next inv.grown e.seen;
      same_start = e.same_start ∙ inv.same_start;
      still = λ alone. e.still alone ∙ inv.still alone;
      same_ties = e.same_ties ∙ inv.same_ties;
      shown = λ s. e.shown (inv.shown s);
      later = omega (arith, inv.later, e.cause.later);
      later_denied = omega (arith, inv.later_denied, e.cause.refused);
    }

pub returns-in-Err-clause-seen : goal.returns-in-Err-clause-seen
returns-in-Err-clause-seen g c = grows-trans (g.R.Reads.seen c.args.files.now) (g.R.Reads.seen c.loop-left.files) (g.R.Reads.seen c.log_line.new.files) c.loop-left.invariant.grown c.log_line.ensures.seen

pub returns-in-Err-clause-told : goal.returns-in-Err-clause-told
returns-in-Err-clause-told g c =
    let inv = c.loop-left.invariant in
    let e = c.log_line.ensures in
    let some = c.loop-left-test.true in
    log-cut (g.R.Reads.seen c.args.files.now) (g.R.Reads.seen c.loop-left.files) (g.R.Reads.seen c.log_line.new.files) (g.R.Reads.start c.args.files.now) (g.R.Reads.start c.loop-left.files) c.args.session.now c.loop-left.session inv.lines.0 c.loop-left.left
    (g.R.Reads.faults c.args.files.now) (g.R.Reads.faults c.loop-left.files) (g.R.Reads.faults c.log_line.new.files) c.loop-left.text.items c.log_line.new.into.items c.log_line.result c.in-Err.refusal c.refuse.result
    (omega (arith, some)) inv.lines.1 inv.grown e.seen inv.same_start inv.kept inv.lines.2 c.in-Err.is e.answer inv.later e.cause.fault c.refuse.ensures.refuses
