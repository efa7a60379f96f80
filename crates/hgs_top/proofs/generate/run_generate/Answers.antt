use Rattle.std.proofs.Common.{ℕ, None, inl, inr, subst, arith}
use Rattle.hgs_files.specs.Tree.{Tree}
use Rattle.hgs_machine.specs.Refusals.{WereRefused}
use Rattle.hgs_top.specs.Orders.{Grows}
use Rattle.hgs_top.proofs.EndedLemmas.{not-made, says_fault, says_no_input, says_unfinished, with_findings, says_status}
use Rattle.hgs_top.proofs.LeftLemmas.{grows_under, refused_later}
use Rattle.hgs_top.proofs.generate.run_generate.Goals as goal

pub returns-in-Made-clause-generates : goal.returns-in-Made-clause-generates
returns-in-Made-clause-generates g c =
    let f0 = g.F.Reads.faults c.args.files.now in
    let f1 = g.F.Reads.faults c.init.new.files in
    let f2 = g.F.Reads.faults c.grow.new.files in
    let d0 = g.F.Reads.denied c.args.files.now in
    let d1 = g.F.Reads.denied c.init.new.files in
    let d2 = g.F.Reads.denied c.grow.new.files in
    let After : ℕ → Type 0 = λ n. WereRefused n f1 f2 d1 d2 in
    let All : ℕ → Type 0 = λ n. WereRefused n f0 f2 d0 d2 in
    let P : Tree → Type 0 = λ start. Grows All c.args.seed c.args.count (g.F.Files.log c.init.new.files) (g.F.Files.log c.grow.new.files) start c.grow.result (g.K.Sink.written c.args.out.now) (g.K.Sink.written c.grow.new.out) in
    inr (
      g.F.Files.log c.init.new.files,
      c.in-Made.ensures.comes None,
      subst P c.init.ensures.same_start
          (grows_under After All (refused_later f0 f1 f2 d0 d1 d2 c.init.ensures.counts.faults c.init.ensures.counts.denied) c.args.seed c.args.count (g.F.Files.log c.init.new.files) (g.F.Files.log c.grow.new.files) _ c.grow.result
          (g.K.Sink.written c.args.out.now) (g.K.Sink.written c.grow.new.out) c.grow.ensures.grows),
    )

pub returns-in_default : goal.returns-in_default
returns-in_default g c =
    let ended = c.init.result in
    let said = c.say.ensures.statuses in
    let f0 = g.F.Reads.faults c.args.files.now in
    let f1 = g.F.Reads.faults c.init.new.files in
    let d0 = g.F.Reads.denied c.args.files.now in
    let d1 = g.F.Reads.denied c.init.new.files in
    let cause = c.init.ensures.cause d0 d1 0 0 in
    record {
      generates = inl (ended, c.init.ensures.comes None, not-made ended c.in_default.not-Made, c.say.ensures.line);
      fault = says_fault c.say.result ended said f0 f1 d0 d1 0 0 cause;
      unfinished = says_unfinished c.say.result ended said f0 f1 d0 d1 0 0 cause;
      no_input = λ a b e. absurd (let r = says_no_input c.say.result ended said f0 f1 d0 d1 0 0 cause e in omega (arith, r));
      sink = c.say.ensures.sink;
      statuses = with_findings c.say.result (says_status c.say.result ended said);
      same_start = c.init.ensures.same_start;
    }
