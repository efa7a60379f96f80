use Rattle.std.proofs.Common.{◌≡◌, List, Option, Ok, Err, sym, ◌∙◌, subst}
use Rattle.std.specs.Prelude.{is_some}
use Rattle.hgs_bytes.specs.Answer.{Gives}
use Rattle.hgs_files.specs.Files.{GoesOn}
use Rattle.hgs_files.specs.Tree.{Tree}
use Rattle.hgs_files.specs.declared.op.Op.{Op}
use Rattle.hgs_loading.specs.Found.{required_in}
use Rattle.hgs_load.specs.Answer.{is_of_outside}
use Rattle.hgs_machine.specs.Carry.{tree_now}
use Rattle.hgs_machine.specs.Refusals.{WereRefused}
use Rattle.hgs_top.specs.Orders.{LeavesEach, lock_text}
use Rattle.hgs_writer.specs.Refusals.{refusals_of}
use Rattle.hgs_writer.specs.Written.{IsWritten}
use Rattle.hgs_top.proofs.FoundLemmas.{of_found}
use Rattle.hgs_top.proofs.LeftLemmas.{each_later, refused_later}
use Rattle.hgs_top.proofs.obey.answer_to.Goals as goal

pub returns-in-Ok-clause-comes : goal.returns-in-Ok-clause-comes
returns-in-Ok-clause-comes g c =
    let e = c.in-Ok.ensures in
    let alone = g.met.F.Files.only_writer in
    let old = g.F.Files.log c.args.files.now in
    let same = sym (g.met.F.Files.latest c.test_requires.new.files) ∙ e.still alone ∙ g.met.F.Files.latest c.args.files.now in
    let P : Option (List Op) → Tree → Type 0 = λ log start. GoesOn log (g.F.Files.log c.written.new.files) (IsWritten lock_text c.args.command.now (tree_now log start) c.written.result) in (
      of_found (g.F.Reads.seen c.test_requires.new.files) old (g.F.Reads.start c.test_requires.new.files) (g.F.Reads.start c.args.files.now) (λ t. required_in t ≡ Ok tt)
          (e.still alone ∙ g.met.F.Files.latest c.args.files.now) e.same_start (e.found alone),
      subst (λ start. P old start) e.same_start (subst (λ log. P log (g.F.Reads.start c.test_requires.new.files)) same c.written.ensures.log),
    )

pub returns-in-Ok-clause-calls : goal.returns-in-Ok-clause-calls
returns-in-Ok-clause-calls g c =
    let e = c.in-Ok.ensures in
    let answer = c.written.result in
    let f1 = g.F.Reads.faults c.test_requires.new.files in
    let f2 = g.F.Reads.faults c.written.new.files in
    let d1 = g.F.Reads.denied c.test_requires.new.files in
    let d2 = g.F.Reads.denied c.written.new.files in
    let old = g.F.Files.log c.args.files.now in
    let same = sym (g.met.F.Files.latest c.test_requires.new.files) ∙ e.still g.met.F.Files.only_writer ∙ g.met.F.Files.latest c.args.files.now in
    refused_later (g.F.Reads.faults c.args.files.now) f1 f2 (g.F.Reads.denied c.args.files.now) d1 d2 e.cause.later e.cause.refused (refusals_of (is_some old) answer)
    (subst (λ (log : Option (List Op)). WereRefused (refusals_of (is_some log) answer) f1 f2 d1 d2) same c.written.ensures.calls)

pub returns-in-Ok-clause-left : goal.returns-in-Ok-clause-left
returns-in-Ok-clause-left g c =
    let e = c.in-Ok.ensures in
    let answer = c.written.result in
    let f1 = g.F.Reads.faults c.test_requires.new.files in
    let f2 = g.F.Reads.faults c.written.new.files in
    let d1 = g.F.Reads.denied c.test_requires.new.files in
    let d2 = g.F.Reads.denied c.written.new.files in
    let old = g.F.Files.log c.args.files.now in
    let new = g.F.Files.log c.written.new.files in
    let start = g.F.Reads.start c.args.files.now in
    let same = sym (g.met.F.Files.latest c.test_requires.new.files) ∙ e.still g.met.F.Files.only_writer ∙ g.met.F.Files.latest c.args.files.now in
    let P : Option (List Op) → Tree → Type 0 = λ log t. LeavesEach (λ n. WereRefused n f1 f2 d1 d2) log new t c.args.command.now answer in
    each_later (g.F.Reads.faults c.args.files.now) f1 f2 (g.F.Reads.denied c.args.files.now) d1 d2 e.cause.later e.cause.refused old new start c.args.command.now answer
    (subst (λ t. P old t) e.same_start (subst (λ log. P log (g.F.Reads.start c.test_requires.new.files)) same c.written.ensures.left))

pub returns-in-Err-clause-comes : goal.returns-in-Err-clause-comes
returns-in-Err-clause-comes g c =
    let e = c.in-Err.ensures in
    let alone = g.met.F.Files.only_writer in (
      of_found (g.F.Reads.seen c.test_requires.new.files) (g.F.Files.log c.args.files.now) (g.F.Reads.start c.test_requires.new.files) (g.F.Reads.start c.args.files.now)
          (λ t. Gives is_of_outside (λ x. x) (Err c.in-Err.refusal) (required_in t)) (e.still alone ∙ g.met.F.Files.latest c.args.files.now) e.same_start (e.found alone),
      sym (g.met.F.Files.latest c.test_requires.new.files) ∙ e.still alone ∙ g.met.F.Files.latest c.args.files.now,
    )
