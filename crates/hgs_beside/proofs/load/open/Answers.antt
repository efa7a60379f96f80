use Rattle.std.proofs.Common.{Some, sym, subst}
use Rattle.hgs_files.specs.Tree.{Tree}
use Rattle.hgs_hub.specs.Reader.{seen_by, ties_by}
use Rattle.hgs_load.specs.Beyond.{AnswersBeyond}
use Rattle.hgs_load.specs.Open.{open_asks}
use Rattle.hgs_load.specs.View.{View}
use Rattle.hgs_beside.proofs.LoadLemmas.{opened}
use Rattle.hgs_beside.proofs.load.open.Goals as goal

pub returns-clause-view : goal.returns-clause-view
returns-clause-view c h same on opens =
    let told = (ties_by c.args.files.now).told in
    let first = seen_by c.args.files.now in
    let last = seen_by c.open.new.files in
    let B : Tree → Type 0 = λ t. AnswersBeyond (λ (session : View). session) told (Some first) t (Some last) open_asks c.open.result in
    opened h told first last c.open.result (c.ends_beside_writers.ensures.opened h told first last c.open.result on opens (subst B (sym same) c.open.ensures.beyond))
