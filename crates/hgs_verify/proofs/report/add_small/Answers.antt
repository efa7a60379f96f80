use Rattle.std.proofs.Common.{◌≡◌, false}
use Rattle.hgs_judge.specs.Report.{findings_in}
use Rattle.hgs_load.specs.Open.{most_bookmarks_text, most_dirstate, most_roots}
use Rattle.hgs_load.specs.Whole.{is_above}
use Rattle.hgs_report.specs.Adds.{Adds}
use Rattle.hgs_report.specs.Store.{IsStoreOf}
use Rattle.hgs_report.specs.Texts.{IsOfBookmarks, IsOfDirstate, IsOfRoots}
use Rattle.hgs_stands.specs.Places.{bookmarks_path, dirstate_path, roots_path}
use Rattle.hgs_verify.specs.Refusal.{HaveShortTexts}
use Rattle.hgs_verify.specs.Report.{AddsSmall}
use Rattle.hgs_verify.proofs.FileLemmas.{two-looks}
use Rattle.hgs_verify.proofs.report.add_small.Goals as goal

pub returns-clause-added : goal.returns-clause-added
returns-clause-added g c = λ alone.
    let a = findings_in c.args.into.now.items in
    let b = findings_in c.add_roots_file.new.into.items in
    let d = findings_in c.add_bookmarks_file.new.into.items in
    let e = findings_in c.add_dirstate_file.new.into.items in
    let store = c.args.store.now in
    let one = c.in_ok-add_roots_file.ensures in
    let two = c.in_ok-add_bookmarks_file.ensures in
    let three = c.in_ok-add_dirstate_file.ensures in
    two-looks (g.R.Reads.seen c.add_bookmarks_file.new.files) (g.R.Reads.seen c.add_dirstate_file.new.files) (g.R.Reads.start c.add_bookmarks_file.new.files) (g.R.Reads.start c.add_dirstate_file.new.files)
    (λ t. IsStoreOf store t → Adds t (IsOfRoots t) a b × Adds t (IsOfBookmarks t) b d) (λ t. IsStoreOf store t → Adds t (IsOfDirstate t) d e) (λ t. IsStoreOf store t → AddsSmall t a e)
    (three.still alone) three.same_start (λ t p q is. record { rooted = b; marked = d; roots = (p is).0; bookmarks = (p is).1; dirstate = q is })
    (two-looks (g.R.Reads.seen c.add_roots_file.new.files) (g.R.Reads.seen c.add_bookmarks_file.new.files) (g.R.Reads.start c.add_roots_file.new.files) (g.R.Reads.start c.add_bookmarks_file.new.files)
    (λ t. IsStoreOf store t → Adds t (IsOfRoots t) a b) (λ t. IsStoreOf store t → Adds t (IsOfBookmarks t) b d) (λ t. IsStoreOf store t → Adds t (IsOfRoots t) a b × Adds t (IsOfBookmarks t) b d)
    (two.still alone) two.same_start (λ t p q is. (p is, q is)) (one.added alone) (two.added alone))
    (three.added alone)

pub returns-clause-short : goal.returns-clause-short
returns-clause-short g c = λ alone.
    let one = c.in_ok-add_roots_file.ensures in
    let two = c.in_ok-add_bookmarks_file.ensures in
    let three = c.in_ok-add_dirstate_file.ensures in
    two-looks (g.R.Reads.seen c.add_bookmarks_file.new.files) (g.R.Reads.seen c.add_dirstate_file.new.files) (g.R.Reads.start c.add_bookmarks_file.new.files) (g.R.Reads.start c.add_dirstate_file.new.files)
    (λ t. (is_above most_roots (t roots_path) ≡ false) × (is_above most_bookmarks_text (t bookmarks_path) ≡ false)) (λ t. is_above most_dirstate (t dirstate_path) ≡ false) HaveShortTexts
    (three.still alone) three.same_start (λ t p q. record { roots = p.0; bookmarks = p.1; dirstate = q })
    (two-looks (g.R.Reads.seen c.add_roots_file.new.files) (g.R.Reads.seen c.add_bookmarks_file.new.files) (g.R.Reads.start c.add_roots_file.new.files) (g.R.Reads.start c.add_bookmarks_file.new.files)
    (λ t. is_above most_roots (t roots_path) ≡ false) (λ t. is_above most_bookmarks_text (t bookmarks_path) ≡ false) (λ t. (is_above most_roots (t roots_path) ≡ false) × (is_above most_bookmarks_text (t bookmarks_path) ≡ false))
    (two.still alone) two.same_start (λ t p q. (p, q)) (one.short alone) (two.short alone))
    (three.short alone)
