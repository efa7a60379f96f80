use Rattle.std.proofs.Common.{◌≡◌, ◌+◌, suc, refl, sym, ◌∙◌, ap, subst, arith}
use Rattle.std.specs.Prelude.{is_some}
use Rattle.hgs_gen.specs.Generated.{files_after, generated, next_number, number_after}
use Rattle.hgs_machine.specs.Carry.{tree_now}
use Rattle.hgs_model.specs.declared.command.Command.TheVariants.{Commit}
use Rattle.hgs_model.specs.declared.command.NewChange.{NewChange}
use Rattle.hgs_writer.specs.Written.{IsWritten}
use Rattle.hgs_grown.proofs.GoLemmas.{as-well}
use Rattle.hgs_grown.proofs.GrowLemmas.{is-generated, left-since, stops-since}
use Rattle.hgs_grown.proofs.commits.commit_next.Goals as goal

pub returns-in_default-outcome : goal.returns-in_default-outcome
returns-in_default-outcome g c =
    let old = c.args.growing in
    let change = c.in-Ok.change in
    let is : change ≡ generated old.seed old.generator.made = is-generated old.seed old.generator.made old.generator.number c.next.new.self.number old.files change old.number_is old.files_are c.next.ensures.number c.in-Ok.ensures.change in
    record {
      made = tt;
      log = as-well (g.F.Files.log c.args.store.now) (g.F.Files.log c.write-answer.new.files) _ _ (λ ops w. (ap Commit is, w, c.in_default-outcome.not-Done, refl)) c.write-answer.ensures.log;
      cause = λ faults denied before.
          let first = g.F.Reads.faults c.args.store.now in
          let last = g.F.Reads.faults c.write-answer.new.files in
          let some = g.F.Reads.denied c.args.store.now in
          let more = g.F.Reads.denied c.write-answer.new.files in
          stops-since (is_some (g.F.Files.log c.args.store.now)) c.args.swept (Commit change) c.write-answer.result faults first last denied some more c.write-answer.ensures.fault c.write-answer.ensures.unfinished c.write-answer.ensures.calls before;
      later = c.write-answer.ensures.later;
      denied = c.write-answer.ensures.denied;
      same_start = c.write-answer.ensures.same_start;
    }

pub invariant_of-next : goal.invariant_of-next
invariant_of-next g c =
    let old = c.args.growing in
    let n = old.generator.made in
    let change = c.in-Ok.change in
    let more : c.next.new.self.made ≡ suc n = c.next.ensures.made ∙ (let e : n + 1 ≡ suc n = omega arith in e) in
    let is : change ≡ generated old.seed n = is-generated old.seed n old.generator.number c.next.new.self.number old.files change old.number_is old.files_are c.next.ensures.number c.in-Ok.ensures.change in
    record {
      number_is = c.next.ensures.number ∙ ap next_number old.number_is ∙ ap (number_after old.seed) (sym more);
      files_are = c.files_of-files.ensures change refl ∙ ap (λ (x : NewChange). x.files) is ∙ ap (files_after old.seed) (sym more);
    }

pub returns-clause-log : goal.returns-clause-log
returns-clause-log g c =
    let old = c.args.growing in
    let n = old.generator.made in
    let change = c.in-Ok.change in
    let is : change ≡ generated old.seed n = is-generated old.seed n old.generator.number c.next.new.self.number old.files change old.number_is old.files_are c.next.ensures.number c.in-Ok.ensures.change in
    let answer = c.write-answer.result in
    let t = tree_now (g.F.Files.log c.args.store.now) (g.F.Reads.start c.args.store.now) in
    as-well (g.F.Files.log c.args.store.now) (g.F.Files.log c.write-answer.new.files) _ _ (λ ops w. (answer, c.in-Done.rev, c.in-Done.node, subst (λ (x : NewChange). IsWritten c.args.who.now (Commit x) t answer ops) is w, c.in-Done.is, refl)) c.write-answer.ensures.log

pub returns-clause-cause : goal.returns-clause-cause
returns-clause-cause g c = λ faults denied before.
    let old = c.args.store.now in
    let new = c.write-answer.new.files in
    left-since (is_some (g.F.Files.log old)) c.args.swept c.write-answer.result c.in-Done.rev c.in-Done.node faults (g.F.Reads.faults old) (g.F.Reads.faults new) denied (g.F.Reads.denied old) (g.F.Reads.denied new) c.in-Done.is before c.write-answer.ensures.calls
