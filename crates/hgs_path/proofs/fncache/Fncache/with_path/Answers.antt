use Rattle.hgs_path.specs.Fncache.{listing}
use Rattle.hgs_path.specs.Theorems.FncacheLemmas.{both-given}
use Rattle.hgs_path.proofs.fncache.Fncache.with_path.Goals as goal

pub returns : goal.returns
returns c =
    both-given c.with_file-2.result (listing c.args.self) (listing c.in_ok-indexed.indexed) c.args.path.now _ _
    c.in_ok-from_slice.ensures.items c.in_ok-from_slice-2.ensures.items c.in_ok-indexed.ensures c.with_file-2.ensures
