use Rattle.std.proofs.Common.{◌∙◌, ap, subst, sym, List, Option}
use Rattle.std.specs.Prelude.{Result, Ok, Err, is_some}
use Rattle.hgs_files.specs.Files.{GoesOn}
use Rattle.hgs_files.specs.Tree.{Tree}
use Rattle.hgs_files.specs.declared.op.Op.{Op}
use Rattle.hgs_machine.specs.Carry.{tree_now}
use Rattle.hgs_machine.specs.Refusals.{refusals_of_left}
use Rattle.hgs_grown.specs.Grown.{GrowsTo, LeftHasCause}
use Rattle.hgs_grown.specs.declared.commits.Stop.{Stop}
use Rattle.hgs_grown.specs.declared.commits.Stop.TheVariants.{Answered}
use Rattle.hgs_grown.specs.declared.commits.Tip.{Tip}
use Rattle.hgs_top.specs.Orders.{Summarizes, lock_text}
use Rattle.hgs_top.proofs.LeftLemmas.{refused_before}
use Rattle.hgs_top.proofs.generate.grow.Goals as goal

pub returns-in-Ok-clause-grows : goal.returns-in-Ok-clause-grows
returns-in-Ok-clause-grows g c =
    let old = c.args.files.now in
    let mid = c.commit_all.new.store in
    let new = c.summarize.new.files in
    let tip = c.in-Ok.tip in
    let status = c.summarize.result in
    let before = g.K.Sink.written c.args.out.now in
    let behind = g.K.Sink.written c.summarize.new.out in
    let P : Option (List Op) → Type 0 = λ log. GoesOn (g.F.Files.log old) log (GrowsTo lock_text c.args.seed c.args.count (Ok tip) (tree_now (g.F.Files.log old) (g.F.Reads.start old))) in
    let S : Option (List Op) → Type 0 = λ log. Summarizes tip log (g.F.Reads.start mid) status before behind in
    let T : Tree → Type 0 = λ start. Summarizes tip (g.F.Files.log new) start status before behind in (
      Ok tip,
      subst P (sym c.summarize.ensures.log) c.in-Ok.ensures.log,
      (
        refused_before (refusals_of_left tip.swept) (g.F.Reads.faults old) (g.F.Reads.faults mid) (g.F.Reads.faults new) (g.F.Reads.denied old) (g.F.Reads.denied mid) (g.F.Reads.denied new) c.summarize.ensures.later c.summarize.ensures.refused c.in-Ok.ensures.cause,
        subst T c.commit_all.ensures.same_start (subst S (sym c.summarize.ensures.log) c.summarize.ensures.summarizes),
      ),
    )

pub returns-in-Err-Answered-clause-grows : goal.returns-in-Err-Answered-clause-grows
returns-in-Err-Answered-clause-grows g c =
    let old = g.F.Files.log c.args.files.now in
    let C : Stop → Type 0 = λ stop. LeftHasCause (is_some old) (g.F.Reads.faults c.args.files.now) (g.F.Reads.faults c.commit_all.new.store) (g.F.Reads.denied c.args.files.now) (g.F.Reads.denied c.commit_all.new.store) (Err stop) in
    let cause = subst C c.in-Err-Answered.field-0-is c.in-Err-Answered.ensures.cause in
    let P : Result Tip Stop → Type 0 = λ grown. GoesOn old (g.F.Files.log c.commit_all.new.store) (GrowsTo lock_text c.args.seed c.args.count grown (tree_now old (g.F.Reads.start c.args.files.now))) in (
      Err (Answered c.in-Err-Answered.command c.in-Err-Answered.answer c.in-Err-Answered.swept),
      subst P (c.in-Err-Answered.is ∙ ap (λ (s : Stop). Err s) c.in-Err-Answered.field-0-is) c.commit_all.ensures.log,
      (cause.2, c.say.ensures.line),
    )
