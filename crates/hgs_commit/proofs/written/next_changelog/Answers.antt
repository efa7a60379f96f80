use Rattle.hgs_commit.proofs.PushLemmas.{push-entries, push_counts}
use Rattle.hgs_commit.proofs.written.next_changelog.Goals as goal

pub returns-in-Ok : goal.returns-in-Ok
returns-in-Ok c = record {
  entries = push-entries c.args.loaded.now.changelog c.in_ok-changelog.changelog c.push.new.self c.args.entry.now c.in_ok-changelog.ensures c.in-Ok.ensures.ok;
  count = push_counts c.args.loaded.now.changelog c.in_ok-changelog.changelog c.push.new.self c.args.entry.now c.in_ok-changelog.ensures c.in-Ok.ensures.ok;
}
