use Rattle.std.proofs.Common.{arith}
use Rattle.hgs_index.specs.Revision.{Parents}
use Rattle.hgs_index.specs.declared.entry.Entry.{Entry}
use Rattle.hgs_revlog.specs.Loaded.{parents_in}
use Rattle.hgs_commit.proofs.WalkLemmas.{map_done, map_next, drop_end}
use Rattle.hgs_commit.proofs.parents.all_parents.Goals as goal

abbrev of_entry : Entry → Parents
of_entry e = (e.p1, e.p2)

pub loop-rev-preserved : goal.loop-rev-preserved
loop-rev-preserved c = map_next of_entry c.args.log.now.entries c.loop-rev.rev c.entry-entry.result.now c.loop-rev.parents.items c.push.new.self.items (parents_in c.args.log.now.entries) c.entry-entry.ensures c.in_ok-push.ensures.items c.loop-rev.invariant

pub returns : goal.returns
returns c = map_done of_entry c.args.log.now.entries c.loop-rev.rev c.loop-rev.parents.items (parents_in c.args.log.now.entries) (drop_end c.args.log.now.entries c.loop-rev.rev (let a = c.loop-rev-test.false in let b = c.len-rev-end.ensures in omega (arith, a, b))) c.loop-rev.invariant
