use Rattle.std.proofs.Common.{◌≡◌, length, ◌∙◌, ap, subst, sym}
use Rattle.hgs_findings.specs.Reading.{sight_of}
use Rattle.hgs_findings.specs.Regular.{used_paths}
use Rattle.hgs_judge.specs.Report.{findings_in}
use Rattle.hgs_report.specs.Lists.{AreLists, AreUnusedLists}
use Rattle.hgs_report.specs.Store.{IsStoreOf}
use Rattle.hgs_verify.specs.Report.{AddsPaths}
use Rattle.hgs_verify.specs.Walk.{AddPaths}
use Rattle.hgs_verify.proofs.PathAdded.{if-each}
use Rattle.hgs_verify.proofs.WalkLemmas.{lists-marked, paths-added, take-front}
use Rattle.hgs_verify.proofs.report.add_paths.Goals as goal

pub returns-clause-added : goal.returns-clause-added
returns-clause-added g c = λ alone.
    let keys = c.args.used.keys in
    let old = findings_in c.args.into.now.items in
    let mid = findings_in c.judge_paths.new.into.items in
    let new = findings_in c.add_marked.new.into.items in
    let before = c.deref_mut.result.now in
    let after = c.judge_paths.new.marks in
    let store = c.args.store.now in
    if-each (g.R.Reads.seen c.judge_paths.new.files) (g.R.Reads.start c.judge_paths.new.files) (λ t. IsStoreOf store t → AddPaths keys old mid before after t) (λ t. IsStoreOf store t → keys ≡ used_paths (sight_of t) → AddsPaths t old new)
    (λ t p is used.
    let unused : AreUnusedLists t before = subst (AreUnusedLists t) (sym c.deref_mut.ensures.value) (c.in_ok-marks.ensures t is used) in
    let lists : AreLists t after = lists-marked t c.one_path.ensures.listed keys old mid before after used unused (p is) in
    record {
      judged = mid;
      paths = paths-added c.path_findings.ensures t keys old mid before after used (p is);
      lists = c.in_ok-add_marked.ensures t (subst (AreLists t) (sym (c.deref.ensures.value ∙ take-front c.in_ok-marks.marks.len after _ (c.in_ok-marks.marks.ok.0 ∙ ap length (sym c.deref_mut.ensures.value) ∙ unused.count ∙ sym lists.count))) lists);
    })
    (c.in_ok-judge_paths.ensures.added alone)
