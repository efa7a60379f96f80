use Rattle.std.proofs.Common.{List, Option, ◌∙◌, inl, inr, subst}
use Rattle.hgs_files.specs.declared.op.Op.{Op}
use Rattle.hgs_files.specs.Tree.{Tree}
use Rattle.hgs_verify.specs.Refusal.{IsWhy}
use Rattle.hgs_top.specs.Orders.{TellsSummary}
use Rattle.hgs_top.specs.Run.{OfTree}
use Rattle.hgs_top.proofs.VerifiedLemmas.{reportable, tells-summary}
use Rattle.hgs_top.proofs.generate.summarize.Goals as goal

pub returns-in-Ok-clause-summarizes : goal.returns-in-Ok-clause-summarizes
returns-in-Ok-clause-summarizes g c =
    let e = c.in-Ok.ensures in
    let alone = g.met.F.Files.only_writer in
    let seen = g.F.Reads.seen c.verify.new.files in
    let old = g.K.Sink.written c.args.out.now in
    let new = g.K.Sink.written c.tell.new.out in
    let T : Tree → Type 0 = TellsSummary c.args.tip.now c.tell.result old new in
    let L : Option (List Op) → Type 0 = λ log. OfTree log (g.F.Reads.start c.args.files.now) T in
    let S : Tree → Type 0 = λ start. OfTree seen start T in
    inl (subst L (e.still alone ∙ g.met.F.Files.latest c.args.files.now) (subst S e.same_start (tells-summary seen (g.F.Reads.start c.verify.new.files) c.in-Ok.report c.args.tip.now c.tell.result old new (reportable seen (g.F.Reads.start c.verify.new.files) (e.required alone) (e.profile alone) (e.short alone) (e.limits alone)) (e.report alone) c.tell.ensures.line)))

pub returns-in-Err-clause-summarizes : goal.returns-in-Err-clause-summarizes
returns-in-Err-clause-summarizes g c =
    let e = c.in-Err.ensures in
    let alone = g.met.F.Files.only_writer in
    let seen = g.F.Reads.seen c.verify.new.files in
    let L : Option (List Op) → Type 0 = λ log. OfTree log (g.F.Reads.start c.args.files.now) (IsWhy c.in-Err.refusal) in
    let S : Tree → Type 0 = λ start. OfTree seen start (IsWhy c.in-Err.refusal) in
    let why = subst L (e.still alone ∙ g.met.F.Files.latest c.args.files.now) (subst S e.same_start (e.why alone)) in
    inr (c.in-Err.refusal, e.refused, why, c.tell_refusal.ensures.line)
