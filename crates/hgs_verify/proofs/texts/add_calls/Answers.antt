use Rattle.std.proofs.Common.{◌≡◌, ◌++◌, ◌∙◌, ap}
use Rattle.hgs_judge.specs.Report.{findings_in}
use Rattle.hgs_report.specs.Adds.{Adds}
use Rattle.hgs_report.specs.Parts.{IsOfCalls}
use Rattle.hgs_verify.specs.Report.{of_standing}
use Rattle.hgs_verify.proofs.FileLemmas.{two-looks}
use Rattle.hgs_verify.proofs.texts.add_calls.Goals as goal

pub returns-clause-added : goal.returns-clause-added
returns-clause-added g c = λ alone.
    let a = findings_in c.args.into.now.items in
    let b = findings_in c.add_standing.new.into.items in
    let d = findings_in c.add_standing-2.new.into.items in
    let e = findings_in c.add_standing-3.new.into.items in
    let one = c.in_ok-add_standing.ensures in
    let two = c.in_ok-add_standing-2.ensures in
    let three = c.in_ok-add_standing-3.ensures in
    two-looks (g.R.Reads.seen c.add_standing-2.new.files) (g.R.Reads.seen c.add_standing-3.new.files) (g.R.Reads.start c.add_standing-2.new.files) (g.R.Reads.start c.add_standing-3.new.files)
    (λ t. (b ≡ a ++ of_standing t c.in_ok-journal.journal 1) × (d ≡ b ++ of_standing t c.in_ok-working_lock.working_lock 2)) (λ t. e ≡ d ++ of_standing t c.in_ok-store_lock.store_lock 2) (λ t. Adds t (IsOfCalls t) a e)
    (three.still alone) three.same_start
    (λ t p q. c.calls_that_stand.ensures t a b d e (p.0 ∙ ap (λ x. a ++ of_standing t x 1) c.in_ok-journal.ensures) (p.1 ∙ ap (λ x. b ++ of_standing t x 2) c.in_ok-working_lock.ensures) (q ∙ ap (λ x. d ++ of_standing t x 2) c.in_ok-store_lock.ensures))
    (two-looks (g.R.Reads.seen c.add_standing.new.files) (g.R.Reads.seen c.add_standing-2.new.files) (g.R.Reads.start c.add_standing.new.files) (g.R.Reads.start c.add_standing-2.new.files)
    (λ t. b ≡ a ++ of_standing t c.in_ok-journal.journal 1) (λ t. d ≡ b ++ of_standing t c.in_ok-working_lock.working_lock 2) (λ t. (b ≡ a ++ of_standing t c.in_ok-journal.journal 1) × (d ≡ b ++ of_standing t c.in_ok-working_lock.working_lock 2))
    (two.still alone) two.same_start (λ t p q. (p, q)) (one.added alone) (two.added alone))
    (three.added alone)
