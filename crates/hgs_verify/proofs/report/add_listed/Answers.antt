use Rattle.std.proofs.Common.{◌≡◌, ◌++◌, ◌∙◌, false, ap}
use Rattle.std.specs.Prelude.{⊤}
use Rattle.hgs_bytes.specs.Bytes.{among}
use Rattle.hgs_findings.specs.Reading.{sight_of}
use Rattle.hgs_findings.specs.Regular.{used_paths}
use Rattle.hgs_judge.specs.Report.{findings_in}
use Rattle.hgs_load.specs.Whole.{is_above}
use Rattle.hgs_report.specs.Adds.{Adds}
use Rattle.hgs_report.specs.Names.{AreInline, IsOfNames, unused_in}
use Rattle.hgs_stands.specs.Places.{fncache_path}
use Rattle.hgs_verify.specs.Inline.{HaveInline}
use Rattle.hgs_verify.specs.Refusal.{most_fncache}
use Rattle.hgs_verify.specs.Report.{AddsBeside, of_all_unused}
use Rattle.hgs_verify.proofs.FileLemmas.{two-looks}
use Rattle.hgs_verify.proofs.RefusalLemmas.{of-all}
use Rattle.hgs_verify.proofs.report.add_listed.Goals as goal

pub returns-clause-added : goal.returns-clause-added
returns-clause-added g c = λ alone.
    let a = findings_in c.args.into.now.items in
    let b = findings_in c.add_names_file.new.into.items in
    let d = findings_in c.add_unused.new.into.items in
    let files = c.in_ok-unused.unused.items in
    let keys = c.args.used.now.keys in
    let inline = c.in_ok-inline.inline.keys in
    let forms = c.in_ok-inline.ensures in
    let one = c.in_ok-unused.ensures in
    let two = c.in_ok-add_unused.ensures in
    let named = two-looks (g.R.Reads.seen c.inline_filelogs.new.files) (g.R.Reads.seen c.add_names_file.new.files) (g.R.Reads.start c.inline_filelogs.new.files) (g.R.Reads.start c.add_names_file.new.files)
    (HaveInline keys inline) (λ t. keys ≡ used_paths (sight_of t) → AreInline t inline → Adds t (IsOfNames t) a b × (files ≡ unused_in t)) (λ t. keys ≡ used_paths (sight_of t) → Adds t (IsOfNames t) a b × (files ≡ unused_in t))
    (one.still alone) one.same_start (λ t p q used. q used (λ path u. p path (ap (among path) used ∙ u))) (forms.found alone) (one.added alone) in
    two-looks (g.R.Reads.seen c.add_names_file.new.files) (g.R.Reads.seen c.add_unused.new.files) (g.R.Reads.start c.add_names_file.new.files) (g.R.Reads.start c.add_unused.new.files)
    (λ t. c.args.used.now.keys ≡ used_paths (sight_of t) → Adds t (IsOfNames t) a b × (files ≡ unused_in t)) (λ t. d ≡ b ++ of_all_unused t c.deref.result.now) (λ t. c.args.used.now.keys ≡ used_paths (sight_of t) → AddsBeside t a d)
    (two.still alone) two.same_start
    (λ t p q used. record { named = b; names = (p used).0; unused = c.unused_that_stand.ensures t b d (q ∙ ap (λ l. b ++ of_all_unused t l) (c.deref.ensures.value ∙ (p used).1)) })
    named (two.added alone)

pub returns-clause-short : goal.returns-clause-short
returns-clause-short g c = λ alone.
    let two = c.in_ok-add_unused.ensures in
    two-looks (g.R.Reads.seen c.add_names_file.new.files) (g.R.Reads.seen c.add_unused.new.files) (g.R.Reads.start c.add_names_file.new.files) (g.R.Reads.start c.add_unused.new.files)
    (λ t. is_above most_fncache (t fncache_path) ≡ false) (λ t. ⊤) (λ t. is_above most_fncache (t fncache_path) ≡ false)
    (two.still alone) two.same_start (λ t p q. p)
    (c.in_ok-unused.ensures.short alone) (of-all (g.R.Reads.seen c.add_unused.new.files) (λ log. ⊤) (λ log. tt))
