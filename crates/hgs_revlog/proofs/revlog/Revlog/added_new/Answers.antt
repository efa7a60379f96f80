use Rattle.std.proofs.Common.{length, arith, refl, sym, ◌∙◌, ap, subst}
use Rattle.hgs_index.specs.declared.entry.Entry.{Entry}
use Rattle.hgs_index.specs.Entry.{Fits}
use Rattle.hgs_index.specs.Revision.{parent_node}
use Rattle.hgs_revlog.specs.Log.{nodes_of}
use Rattle.hgs_revlog.specs.Theorems.AddLemmas.{length-chunk_of, length-node_hash, next_fits}
use Rattle.hgs_revlog.proofs.revlog.Revlog.added_new.Goals as goal

pub overflow_cast-entry : goal.overflow_cast-entry
overflow_cast-entry c =
    let chunk = c.in_ok-chunk.ensures in
    let len = length-chunk_of c.args.text.now in
    omega (arith, ap length chunk, len)

pub encode-requires : goal.encode-requires
encode-requires c =
    let chunk = ap length c.in_ok-chunk.ensures in
    let len = length-chunk_of c.args.text.now in
    let e : Entry = record { offset = c.end-offset.result; flags = 0; stored = c.len-2.result; size = length c.args.text.now; base = c.len-base.result; link = c.args.link; p1 = c.args.p1; p2 = c.args.p2; node = c.args.node } in
    subst (Fits e) (sym c.header.ensures)
    (next_fits c.args.self.now e c.end-offset.ensures.sum c.end-offset.ensures.fits refl (omega (arith, chunk, len)) (omega arith) (omega arith) c.requires.link c.requires.first c.requires.second (omega arith)
    (ap (λ n. length n.0) c.requires.node ∙ length-node_hash (parent_node (nodes_of c.args.self.now.entries) c.args.p1) (parent_node (nodes_of c.args.self.now.entries) c.args.p2) c.args.text.now))
