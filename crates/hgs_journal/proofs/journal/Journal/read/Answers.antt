use Rattle.std.proofs.Common.{◌+◌, refl, sym, ◌∙◌, ap, arith}
use Rattle.std.specs.Prelude.{Ok}
use Rattle.hgs_bytes.specs.Theorems.TextLemmas.{split_shorter}
use Rattle.hgs_journal.proofs.PathLemmas.{paths-read}
use Rattle.hgs_journal.proofs.ReadLemmas.{one_line, line_refused, rest_passed}
use Rattle.hgs_journal.proofs.journal.Journal.read.Goals as goal

pub returns-in_default-2-clause-read : goal.returns-in_default-2-clause-read
returns-in_default-2-clause-read c =
    line_refused c.loop-line.lines.items c.loop-line.number (c.loop-line.number + 1) c.loop-line.rest.now c.in-Some.line.now c.in-Some.behind.now _ c.loop-line.invariant.read (sym c.in-Some.ensures) refl (sym c.in_default-2.is ∙ c.in_ok-line.ensures)

pub loop-line-smaller : goal.loop-line-smaller
loop-line-smaller c = split_shorter 10 c.loop-line.rest.now (c.in-Some.line.now, c.in-Some.behind.now) (sym c.in-Some.ensures)

pub loop-line-preserved : goal.loop-line-preserved
loop-line-preserved c =
    let shorter = split_shorter 10 c.loop-line.rest.now (c.in-Some.line.now, c.in-Some.behind.now) (sym c.in-Some.ensures) in
    record {
      read = one_line c.loop-line.lines.items c.push.new.self.items c.in-Some-2.line c.loop-line.number (c.loop-line.number + 1) c.loop-line.rest.now c.in-Some.line.now c.in-Some.behind.now _ c.loop-line.invariant.read
          (sym c.in-Some.ensures) refl (sym c.in-Some-2.is ∙ c.in_ok-line.ensures) c.in_ok-push.ensures.items;
      room = omega (arith, shorter);
    }

pub returns-clause-read : goal.returns-clause-read
returns-clause-read c = rest_passed c.loop-line.lines.items c.loop-line.number c.loop-line.rest.now _ c.loop-line.invariant.read (sym c.in_default.ensures) ∙ ap (λ ls. Ok ls) (sym c.from_vec-lines.ensures)

pub returns-clause-paths : goal.returns-clause-paths
returns-clause-paths c =
    paths-read c.args.text.now c.from_vec-lines.result
    (rest_passed c.loop-line.lines.items c.loop-line.number c.loop-line.rest.now _ c.loop-line.invariant.read (sym c.in_default.ensures) ∙ ap (λ ls. Ok ls) (sym c.from_vec-lines.ensures))
