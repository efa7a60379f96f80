use Rattle.std.proofs.Common.{ℕ, ◌-◌, length, arith, refl, sym, ◌∙◌, subst}
use Rattle.hgs_load.specs.Given.{Gave}
use Rattle.hgs_load.specs.Theorems.AskLemmas.{grows-refl, grows-trans}
use Rattle.hgs_load.specs.Theorems.GivenLemmas.{gave-none}
use Rattle.hgs_reader.specs.Line.{line_at}
use Rattle.hgs_top.specs.Windows.{behind_line, chunk_in, chunk_span, lines_behind, lines_reads}
use Rattle.hgs_top.specs.declared.window.Window.{Window}
use Rattle.hgs_top.proofs.GivenLemmas.{held-on, held-refused, line-on}
use Rattle.hgs_top.proofs.LogLemmas.{IsHalfWay, at_first, held_told, unheld_told, refused_told, next_told, unwritten_told, of_all}
use Rattle.hgs_top.proofs.WindowLemmas.{IsOf, none_is_of}
use Rattle.hgs_top.proofs.log.gather_lines.Goals as goal

pub loop-left-init : goal.loop-left-init
loop-left-init g c =
    let given = g.R.Reads.given c.args.files.now in
    let seen = g.R.Reads.seen c.args.files.now in
    let start = g.R.Reads.start c.args.files.now in
    let whole = lines_reads c.args.session.now (length c.args.session.now.changelog.entries) in
    let P : ℕ → Type 0 = λ n. Gave given given seen start seen whole (lines_reads c.args.session.now n) in
    let Q : Window → Type 0 = λ w. Gave given given seen start seen whole (lines_behind c.args.session.now w c.len-left.result) in
    record {
      told = λ alone.
          of_all seen start (λ t. IsHalfWay t c.args.session.now c.len-left.result (g.K.Sink.written c.args.out.now) (g.K.Sink.written c.args.out.now) c.args.gathered.now.items × IsOf t c.args.session.now c.empty-window.result)
          (λ t.
          (let R : Window → Type 0 = λ w. IsOf t c.args.session.now w in
          (at_first t c.args.session.now c.len-left.result (g.K.Sink.written c.args.out.now) c.args.gathered.now.items c.len-left.ensures c.requires, subst R (sym c.empty-window.ensures) (none_is_of t c.args.session.now))));
      gave = subst Q (sym c.empty-window.ensures) (subst P (sym c.len-left.ensures) (gave-none given given seen seen start whole refl (grows-refl seen)));
      within = (let l = c.len-left.ensures in omega (arith, l));
      grown = grows-refl seen;
      same_start = refl;
      still = λ alone. refl;
      later = omega arith;
      later_sink = omega arith;
    }

pub returns-in-Err-clause-gathered : goal.returns-in-Err-clause-gathered
returns-in-Err-clause-gathered g c = λ alone.
    let i = c.loop-left.invariant in
    let e = c.in-Err.ensures in
    unheld_told (g.R.Reads.seen c.args.files.now) (g.R.Reads.seen c.loop-left.files) (g.R.Reads.seen c.hold.new.files) (g.R.Reads.start c.args.files.now) (g.R.Reads.start c.loop-left.files)
    c.args.session.now c.loop-left.left (g.K.Sink.written c.args.out.now) (g.K.Sink.written c.loop-left.out) c.loop-left.gathered.items c.loop-left.window (i.still alone) (e.still alone) i.same_start c.in-Err.refusal c.loop-left-test.true (i.told alone) e.answer

pub returns-in-Err-clause-given : goal.returns-in-Err-clause-given
returns-in-Err-clause-given g c =
    let i = c.loop-left.invariant in
    held-refused (g.R.Reads.given c.args.files.now) (g.R.Reads.given c.loop-left.files) (g.R.Reads.given c.hold.new.files) (g.R.Reads.seen c.args.files.now) (g.R.Reads.seen c.loop-left.files) (g.R.Reads.seen c.hold.new.files) (g.R.Reads.start c.args.files.now) (g.R.Reads.start c.loop-left.files)
    (lines_reads c.args.session.now (length c.args.session.now.changelog.entries)) c.args.session.now c.loop-left.window i.same_start c.loop-left.left c.in-Err.refusal c.loop-left-test.true i.gave c.in-Err.ensures.given

pub returns-in-Err-add_line-clause-gathered : goal.returns-in-Err-add_line-clause-gathered
returns-in-Err-add_line-clause-gathered g c = λ alone.
    let i = c.loop-left.invariant in
    let e = c.in-Ok.ensures in
    refused_told (g.R.Reads.seen c.args.files.now) (g.R.Reads.start c.args.files.now) c.args.session.now c.loop-left.left (g.K.Sink.written c.args.out.now) (g.K.Sink.written c.loop-left.out) c.loop-left.gathered.items c.add_line.new.into.items c.in-Ok.window c.loop-left-test.true
    (held_told (g.R.Reads.seen c.args.files.now) (g.R.Reads.seen c.loop-left.files) (g.R.Reads.seen c.hold.new.files) (g.R.Reads.start c.args.files.now) (g.R.Reads.start c.loop-left.files)
    c.args.session.now c.loop-left.left (g.K.Sink.written c.args.out.now) (g.K.Sink.written c.loop-left.out) c.loop-left.gathered.items c.loop-left.window (i.still alone) (e.still alone) i.same_start c.in-Ok.window (i.told alone) e.answer)
    c.in-Err-add_line.refusal c.in-Err-add_line.ensures.line

pub returns-in-Err-add_line-clause-given : goal.returns-in-Err-add_line-clause-given
returns-in-Err-add_line-clause-given g c = (
  behind_line (line_at c.args.session.now (c.loop-left.left - 1) (chunk_in c.in-Ok.window (chunk_span c.args.session.now.changelog (c.loop-left.left - 1)))) (lines_behind c.args.session.now c.in-Ok.window (c.loop-left.left - 1)),
  held-on (g.R.Reads.given c.args.files.now) (g.R.Reads.given c.loop-left.files) (g.R.Reads.given c.hold.new.files) (g.R.Reads.seen c.args.files.now) (g.R.Reads.seen c.loop-left.files) (g.R.Reads.seen c.hold.new.files) (g.R.Reads.start c.args.files.now) (g.R.Reads.start c.loop-left.files)
      (lines_reads c.args.session.now (length c.args.session.now.changelog.entries)) c.args.session.now c.loop-left.window c.loop-left.invariant.same_start c.loop-left.left c.in-Ok.window c.loop-left-test.true c.loop-left.invariant.gave c.in-Ok.ensures.given,
)

pub loop-left-preserved : goal.loop-left-preserved
loop-left-preserved g c =
    let i = c.loop-left.invariant in
    let e = c.in-Ok.ensures in
    let a = c.in-Ok-add_line.ensures.line in
    let w = c.in-Ok-write_large.ensures in
    record {
      told = λ alone.
          next_told (g.R.Reads.seen c.args.files.now) (g.R.Reads.start c.args.files.now) c.args.session.now c.loop-left.left (g.K.Sink.written c.args.out.now) (g.K.Sink.written c.loop-left.out) c.loop-left.gathered.items c.add_line.new.into.items c.in-Ok.window c.loop-left-test.true
          (held_told (g.R.Reads.seen c.args.files.now) (g.R.Reads.seen c.loop-left.files) (g.R.Reads.seen c.hold.new.files) (g.R.Reads.start c.args.files.now) (g.R.Reads.start c.loop-left.files)
          c.args.session.now c.loop-left.left (g.K.Sink.written c.args.out.now) (g.K.Sink.written c.loop-left.out) c.loop-left.gathered.items c.loop-left.window (i.still alone) (e.still alone) i.same_start c.in-Ok.window (i.told alone) e.answer)
          (g.K.Sink.written c.write_large.new.out) c.write_large.new.gathered.items c.in-Ok-add_line.field-0 a w.ok;
      gave =
          line-on (g.R.Reads.given c.args.files.now) (g.R.Reads.given c.hold.new.files) (g.R.Reads.seen c.args.files.now) (g.R.Reads.seen c.hold.new.files) (g.R.Reads.start c.args.files.now) (lines_reads c.args.session.now (length c.args.session.now.changelog.entries))
          (lines_behind c.args.session.now c.in-Ok.window (c.loop-left.left - 1)) (line_at c.args.session.now (c.loop-left.left - 1) (chunk_in c.in-Ok.window (chunk_span c.args.session.now.changelog (c.loop-left.left - 1)))) a.0 a.2
          (held-on (g.R.Reads.given c.args.files.now) (g.R.Reads.given c.loop-left.files) (g.R.Reads.given c.hold.new.files) (g.R.Reads.seen c.args.files.now) (g.R.Reads.seen c.loop-left.files) (g.R.Reads.seen c.hold.new.files) (g.R.Reads.start c.args.files.now) (g.R.Reads.start c.loop-left.files)
          (lines_reads c.args.session.now (length c.args.session.now.changelog.entries)) c.args.session.now c.loop-left.window c.loop-left.invariant.same_start c.loop-left.left c.in-Ok.window c.loop-left-test.true c.loop-left.invariant.gave c.in-Ok.ensures.given);
      within = (let l = i.within in omega (arith, l));
      grown = grows-trans (g.R.Reads.seen c.args.files.now) (g.R.Reads.seen c.loop-left.files) (g.R.Reads.seen c.hold.new.files) i.grown e.seen;
      same_start = e.same_start ∙ i.same_start;
      still = λ alone. e.still alone ∙ i.still alone;
      later = (let l = e.cause.later in let k = i.later in omega (arith, l, k));
      later_sink = (let l = w.later in let k = i.later_sink in omega (arith, l, k));
    }

pub returns-in-Err-write_large-clause-gathered : goal.returns-in-Err-write_large-clause-gathered
returns-in-Err-write_large-clause-gathered g c = λ alone.
    let i = c.loop-left.invariant in
    let e = c.in-Ok.ensures in
    unwritten_told (g.R.Reads.seen c.args.files.now) (g.R.Reads.start c.args.files.now) c.args.session.now c.loop-left.left (g.K.Sink.written c.args.out.now) (g.K.Sink.written c.loop-left.out) c.loop-left.gathered.items c.add_line.new.into.items c.in-Ok.window c.loop-left-test.true
    (held_told (g.R.Reads.seen c.args.files.now) (g.R.Reads.seen c.loop-left.files) (g.R.Reads.seen c.hold.new.files) (g.R.Reads.start c.args.files.now) (g.R.Reads.start c.loop-left.files)
    c.args.session.now c.loop-left.left (g.K.Sink.written c.args.out.now) (g.K.Sink.written c.loop-left.out) c.loop-left.gathered.items c.loop-left.window (i.still alone) (e.still alone) i.same_start c.in-Ok.window (i.told alone) e.answer)
    (g.K.Sink.written c.write_large.new.out) c.in-Ok-add_line.field-0 c.in-Ok-add_line.ensures.line c.in-Err-write_large.ensures.err

pub returns-in-Err-write_large-clause-given : goal.returns-in-Err-write_large-clause-given
returns-in-Err-write_large-clause-given g c =
    let a = c.in-Ok-add_line.ensures.line in (
      (lines_behind c.args.session.now c.in-Ok.window (c.loop-left.left - 1)),
      line-on (g.R.Reads.given c.args.files.now) (g.R.Reads.given c.hold.new.files) (g.R.Reads.seen c.args.files.now) (g.R.Reads.seen c.hold.new.files) (g.R.Reads.start c.args.files.now) (lines_reads c.args.session.now (length c.args.session.now.changelog.entries))
          (lines_behind c.args.session.now c.in-Ok.window (c.loop-left.left - 1)) (line_at c.args.session.now (c.loop-left.left - 1) (chunk_in c.in-Ok.window (chunk_span c.args.session.now.changelog (c.loop-left.left - 1)))) a.0 a.2
          (held-on (g.R.Reads.given c.args.files.now) (g.R.Reads.given c.loop-left.files) (g.R.Reads.given c.hold.new.files) (g.R.Reads.seen c.args.files.now) (g.R.Reads.seen c.loop-left.files) (g.R.Reads.seen c.hold.new.files) (g.R.Reads.start c.args.files.now) (g.R.Reads.start c.loop-left.files)
          (lines_reads c.args.session.now (length c.args.session.now.changelog.entries)) c.args.session.now c.loop-left.window c.loop-left.invariant.same_start c.loop-left.left c.in-Ok.window c.loop-left-test.true c.loop-left.invariant.gave c.in-Ok.ensures.given),
    )

pub returns-clause-given : goal.returns-clause-given
returns-clause-given g c = (lines_behind c.args.session.now c.loop-left.window c.loop-left.left, c.loop-left.invariant.gave)
