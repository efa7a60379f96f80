use Rattle.std.proofs.Common.{◌≡◌, ◌∙◌, ap}
use Rattle.hgs_load.specs.Open.{most_bookmarks_text}
use Rattle.hgs_judge.specs.Report.{findings_in}
use Rattle.hgs_report.specs.Adds.{Adds}
use Rattle.hgs_report.specs.Store.{IsStoreOf}
use Rattle.hgs_report.specs.Texts.{IsOfBookmarks}
use Rattle.hgs_stands.specs.Places.{bookmarks_path}
use Rattle.hgs_verify.proofs.PathAdded.{if-each}
use Rattle.hgs_verify.proofs.TextLemmas.{bytes-are}
use Rattle.hgs_verify.proofs.WithinLemmas.{text-short}
use Rattle.hgs_verify.proofs.texts.add_bookmarks_file.Goals as goal

pub returns-clause-added : goal.returns-clause-added
returns-clause-added g c = λ alone.
    let old = findings_in c.args.into.now.items in
    let new = findings_in c.add_bookmarks.new.into.items in
    if-each (g.R.Reads.seen c.read_text.new.files) (g.R.Reads.start c.read_text.new.files) (λ t. c.in_ok-text.text ≡ t c.in_ok-path.path) (λ t. IsStoreOf c.args.store.now t → Adds t (IsOfBookmarks t) old new)
    (λ t p is. c.in_ok-add_bookmarks.ensures t is (bytes-are bookmarks_path t c.in_ok-text.text c.bytes_of.result.now c.bytes_of.ensures (p ∙ ap t c.in_ok-path.ensures))) c.in_ok-text.ensures.bytes

pub returns-clause-short : goal.returns-clause-short
returns-clause-short g c = λ alone.
    text-short (g.R.Reads.seen c.read_text.new.files) (g.R.Reads.start c.read_text.new.files) most_bookmarks_text c.in_ok-path.path bookmarks_path c.in_ok-text.text c.in_ok-path.ensures (c.in_ok-text.ensures.given alone)
