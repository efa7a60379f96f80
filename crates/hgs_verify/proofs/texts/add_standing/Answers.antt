use Rattle.std.proofs.Common.{◌≡◌, ◌++◌, ◌∙◌, ap}
use Rattle.hgs_files.specs.Reads.{IsSizeOf}
use Rattle.hgs_judge.specs.Report.{findings_in}
use Rattle.hgs_report.specs.Lines.{file_if}
use Rattle.hgs_verify.specs.Report.{of_standing}
use Rattle.hgs_verify.proofs.PathAdded.{if-each}
use Rattle.hgs_verify.proofs.TextLemmas.{size-some}
use Rattle.hgs_verify.proofs.texts.add_standing.Goals as goal

pub returns-clause-added : goal.returns-clause-added
returns-clause-added g c = λ alone.
    let old = findings_in c.args.into.now.items in
    let path = c.args.path.now in
    if-each (g.R.Reads.seen c.size_of.new.files) (g.R.Reads.start c.size_of.new.files) (λ t. IsSizeOf (t path) c.in_ok-size.size) (λ t. findings_in c.add_file.new.into.items ≡ old ++ of_standing t path c.args.kind)
    (λ t p. c.in_ok-add_file.ensures ∙ ap (λ b. old ++ file_if b path c.args.kind) (c.is_some.ensures ∙ size-some (t path) c.in_ok-size.size p)) c.in_ok-size.ensures.size
