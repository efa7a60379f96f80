use Rattle.std.proofs.Common.{◌≡◌, ◌∙◌, ap}
use Rattle.hgs_index.specs.Revision.{Revision}
use Rattle.hgs_revlog.specs.Log.{place_of}
use Rattle.hgs_revlog.specs.Add.{next_entry}
use Rattle.hgs_revlog.proofs.revlog.Revlog.standing.Goals as goal

pub returns-clause-place : goal.returns-clause-place
returns-clause-place c =
    let es = c.args.self.now.entries in
    let r : Revision = record { text = c.args.text.now; parents = (c.args.p1, c.args.p2); link = 0 } in
    let node : c.node_of.result.0 ≡ (next_entry es r).node.0 = cc in
    c.rev_of.ensures ∙ ap (place_of es) node
