use Rattle.std.proofs.Common.{refl}
use Rattle.hgs_session.specs.Calls.{Stage}
use Rattle.hgs_session.proofs.EndLemmas.{comes_of, counts_of, left_as, listed_of, of_start, rests_on}
use Rattle.hgs_session.proofs.session.close.Goals as goal
use Rattle.hgs_session.specs.Theorems.PartsLemmas.{if_parts}

pub returns-clause-comes : goal.returns-clause-comes
returns-clause-comes g c =
    let x = g.N.Naming.begins in
    let listed = c.args.listed in
    let gathered = c.args.gathered in
    let w = listed.end in
    let now : Stage = record { log = g.Y.W.Files.log w; faults = g.Y.W.Reads.faults w; denied = g.Y.W.Reads.denied w } in
    let r = c.result_of-told.ensures in
    let p = c.put_together.ensures in
    comes_of (λ e. record { told = (g.Y.R.Reads.ties e).told; seen = g.Y.R.Reads.seen e; faults = g.Y.R.Reads.faults e; denied = g.Y.R.Reads.denied e }) x now listed.history listed.published.items listed.unsure listed.broken gathered.ends.items _ _ c.put_together.result.result listed.made
    (left_as c.put_together.result.left
    (λ y f. rests_on (g.Y.W.Reads.ties w) g.N.Naming.earlier g.N.Naming.earlier_start listed.earlier listed.earlier_start (g.Y.W.Files.log w) (g.Y.A.Files.log (g.Y.Yard.files y)) (g.Y.A.Reads.start (g.Y.Yard.files y)) f)
    (λ e f. f) p.left)
    (listed_of (λ e. record { told = (g.Y.R.Reads.ties e).told; seen = g.Y.R.Reads.seen e; faults = g.Y.R.Reads.faults e; denied = g.Y.R.Reads.denied e }) x now listed.history listed.published.items listed.unsure listed.broken gathered.ends.items gathered.replies.items gathered.whole c.args.script.now.workers c.result_of-told.result c.put_together.result.result
    c.requires.jobs c.requires.whole c.requires.count r.sound r.all r.published r.unsure r.replies p.told p.within)
    (λ ok. counts_of (λ y. g.Y.A.Reads.faults (g.Y.Yard.files y)) (λ y. g.Y.A.Reads.denied (g.Y.Yard.files y)) g.Y.R.Reads.faults g.Y.R.Reads.denied (λ e. record { told = (g.Y.R.Reads.ties e).told; seen = g.Y.R.Reads.seen e; faults = g.Y.R.Reads.faults e; denied = g.Y.R.Reads.denied e }) now gathered.ends.items c.put_together.result.left (λ s. (refl, refl)) (p.counts ok))

pub returns-clause-parts : goal.returns-clause-parts
returns-clause-parts g c =
    let listed = c.args.listed in
    if_parts c.put_together.result.left
    (λ w rs h. of_start (g.Y.W.Reads.ties listed.end) g.N.Naming.earlier g.N.Naming.earlier_start (g.Y.W.Reads.ties w) (λ r. g.Y.R.Reads.ties r) rs listed.earlier listed.earlier_start h)
    c.put_together.ensures.parts
