use Rattle.std.proofs.Common.{◌≡◌, [], ◌++◌, List, ℕ, ◌∙◌, ap, subst}
use Rattle.std.specs.Prelude.{Result, IfOk, unwrap_or}
use Rattle.hgs_files.specs.Tree.{Tree}
use Rattle.hgs_findings.specs.OnePath.{words}
use Rattle.hgs_findings.specs.Reading.{data_in, index_in, sight_of, the_filelog}
use Rattle.hgs_judge.specs.Path.{IsJudged}
use Rattle.hgs_judge.specs.Report.{findings_in, of_path}
use Rattle.hgs_judge.specs.declared.path.PathFindings.{PathFindings}
use Rattle.hgs_path.specs.StoreName.{store_name}
use Rattle.hgs_path.specs.declared.name.Ext.TheVariants.{I, D}
use Rattle.hgs_report.specs.Store.{IsStoreOf}
use Rattle.hgs_revlog.specs.declared.fault.RevFault.{RevFault}
use Rattle.hgs_verify.proofs.PathAdded.{path-added}
use Rattle.hgs_verify.proofs.adding.add_task.Goals as goal

pub returns-in-Ok-clause-added : goal.returns-in-Ok-clause-added
returns-in-Ok-clause-added c = λ s t is read right.
    let task = c.args.task in
    let path = task.path in
    let found = c.in-Ok.found in
    let old = findings_in c.args.into.now.items in
    let all = words (sight_of t) path in
    let P : PathFindings → Type 0 = λ f. (u : Tree) → IsStoreOf s u → IsJudged (unwrap_or task.parts.index []) (unwrap_or task.parts.chunks []) (words (sight_of u) path) f in
    let right' = subst (λ (r : Result PathFindings RevFault). IfOk r P) c.in-Ok.is right in
    let judged : IsJudged (index_in t (the_filelog path)) (data_in t (the_filelog path)) all found =
    subst (λ (x : List ℕ). IsJudged (index_in t (the_filelog path)) x all found) read.1
    (subst (λ (x : List ℕ). IsJudged x (unwrap_or task.parts.chunks []) all found) read.0 (right' t is)) in
    let names : old ++ of_path task.index task.chunks found ≡ old ++ of_path (store_name path I) (store_name path D) found =
    ap (λ x. old ++ of_path x task.chunks found) task.index_is ∙ ap (λ x. old ++ of_path (store_name path I) x found) task.chunks_are in
    path-added c.added_findings.ensures.are c.added_findings.ensures.all t path found old (findings_in c.add_found.new.into.items) c.in_ok-add_found-in-Ok.field-0.items all judged (λ i. all)
    (c.in_ok-add_found-in-Ok.ensures.added ∙ names) c.in_ok-add_found-in-Ok.ensures.lists
