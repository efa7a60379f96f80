use Rattle.std.proofs.Common.{Some, sym, subst}
use Rattle.hgs_files.specs.Tree.{Tree}
use Rattle.hgs_hub.specs.Reader.{seen_by, start_by, ties_by}
use Rattle.hgs_load.specs.Beyond.{RefreshesBeyond}
use Rattle.hgs_load.specs.Refresh.{refresh_asks}
use Rattle.hgs_beside.proofs.LoadLemmas.{refreshed}
use Rattle.hgs_beside.proofs.load.refresh.Goals as goal

pub returns-clause-view : goal.returns-clause-view
returns-clause-view c h began ended v same on opens loaded then =
    let told = (ties_by c.args.files.now).told in
    let first = seen_by c.args.files.now in
    let last = seen_by c.refresh.new.files in
    let old = c.args.session.now in
    let new = c.refresh.new.self in
    let B : Tree → Type 0 = λ t. RefreshesBeyond told (Some first) t (Some last) (refresh_asks old) new c.refresh.result in
    refreshed h told first last (start_by c.args.files.now) (refresh_asks old) v old new c.refresh.result c.refresh.ensures.answer
    (c.ends_beside_writers.ensures.session h told began ended first last v old new c.refresh.result on opens loaded then (subst B (sym same) c.refresh.ensures.beyond))
