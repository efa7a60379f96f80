use Rattle.std.proofs.Common.{◌∷◌, [], ◌+◌, ◌∙◌, take}
use Rattle.hgs_recover.proofs.Clears.{falls-never, left-by, one-more}
use Rattle.hgs_recover.proofs.Left.{cleared}
use Rattle.hgs_recover.proofs.leftovers.clear_all.Goals as goal

pub loop-path-preserved : goal.loop-path-preserved
loop-path-preserved g c =
    let paths = c.args.paths.now in
    let i = c.loop-path.path-index in
    let path = c.path-item.result in
    let inv = c.loop-path.invariant in
    let did = c.clear-swept.ensures in
    let old = c.args.files.now in
    let mid = c.loop-path.files in
    let new = c.clear-swept.new.files in
    record {
      log = cleared (g.F.Files.log old) (g.F.Files.log mid) (g.F.Files.log new) (g.F.Reads.start old) (g.F.Reads.start mid) (take i paths) (path ∷ []) (take (i + 1) paths) c.loop-path.swept c.clear-swept.result
          (g.F.Reads.faults old) (g.F.Reads.faults mid) (g.F.Reads.faults new) (g.F.Reads.denied old) (g.F.Reads.denied mid) (g.F.Reads.denied new) (one-more paths i path c.loop-path-test.true c.path-item.is)
          inv.same_start inv.log did.log;
      same_start = did.same_start ∙ inv.same_start;
      counts = falls-never (g.F.Reads.faults old) (g.F.Reads.faults mid) (g.F.Reads.faults new) (g.F.Reads.denied old) (g.F.Reads.denied mid) (g.F.Reads.denied new) inv.counts did.counts;
      causes = left-by (g.F.Reads.faults old) (g.F.Reads.faults mid) (g.F.Reads.faults new) (g.F.Reads.denied old) (g.F.Reads.denied mid) (g.F.Reads.denied new) c.loop-path.swept c.clear-swept.result inv.counts did.counts inv.causes did.causes;
    }
