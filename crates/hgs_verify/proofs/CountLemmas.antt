-- The counts of a report.
use Rattle.std.proofs.Common.{◌≡◌, length, sym, ◌∙◌, ap}
use Rattle.std.proofs.lemmas.List.{length-map}
use Rattle.hgs_files.specs.Tree.{Tree}
use Rattle.hgs_index.specs.declared.entry.Entry.{Entry}
use Rattle.hgs_index.specs.Revision.{Revision}
use Rattle.hgs_findings.specs.Reading.{sight_of}
use Rattle.hgs_judge.specs.Read.{links_of}
use Rattle.hgs_report.specs.declared.store.Store.{Store}
use Rattle.hgs_report.specs.Store.{IsStoreOf}

-- as many changesets as entries were read
pub changeset-count : (s : Store) (t : Tree) → IsStoreOf s t → length s.changelog.reading.log.entries ≡ length (sight_of t).changelog
changeset-count s t is =
    sym (length-map s.changelog.reading.log.entries (λ (e : Entry). e.link))
    ∙ ap length (is.changelog.read.are.links ∙ ap links_of is.changelog.read.revisions)
    ∙ length-map (sight_of t).changelog (λ (r : Revision). r.link)
