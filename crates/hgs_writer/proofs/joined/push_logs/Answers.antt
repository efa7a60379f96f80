use Rattle.std.proofs.Common.{◌≡◌, ◌++◌}
use Rattle.hgs_files.specs.Tree.{Tree}
use Rattle.hgs_stands.specs.Places.{changelog_data, manifest_data, manifest_index}
use Rattle.hgs_writer.specs.Joined.{joined_append}
use Rattle.hgs_writer.specs.Layered.{bytes_over}
use Rattle.hgs_writer.proofs.JoinLemmas.{logs-are, more-appends}
use Rattle.hgs_writer.proofs.OverLemmas.{both-at-rest}
use Rattle.hgs_writer.proofs.joined.push_logs.Goals as goal

pub returns-in-Ok-push_named-2-clause-found : goal.returns-in-Ok-push_named-2-clause-found
returns-in-Ok-push_named-2-clause-found g c =
    let l = c.args.layers.now in
    let c0 = c.args.changes.now.items in
    let c1 = c.push_named.new.changes.items in
    let c2 = c.push_named-2.new.changes.items in
    let c3 = c.push_named-3.new.changes.items in
    let f1 = c.push_named.new.files in
    let f2 = c.push_named-2.new.files in
    let f3 = c.push_named-3.new.files in
    both-at-rest g.R.Reads.alone (g.R.Reads.seen f2) (g.R.Reads.seen f3) (g.R.Reads.start f2) (g.R.Reads.start f3)
    (λ t. (c1 ≡ c0 ++ joined_append t (bytes_over l) manifest_data) × (c2 ≡ c1 ++ joined_append t (bytes_over l) manifest_index)) (λ t. c3 ≡ c2 ++ joined_append t (bytes_over l) changelog_data)
    (λ t. c3 ≡ c0 ++ ((joined_append t (bytes_over l) manifest_data ++ joined_append t (bytes_over l) manifest_index) ++ joined_append t (bytes_over l) changelog_data))
    c.in-Ok-push_named-2.ensures.still c.in-Ok-push_named-2.ensures.same_start
    (λ t two third. logs-are t l c0 c1 c2 c3 two.0 two.1 third)
    (both-at-rest g.R.Reads.alone (g.R.Reads.seen f1) (g.R.Reads.seen f2) (g.R.Reads.start f1) (g.R.Reads.start f2)
    (λ t. c1 ≡ c0 ++ joined_append t (bytes_over l) manifest_data) (λ t. c2 ≡ c1 ++ joined_append t (bytes_over l) manifest_index)
    (λ t. (c1 ≡ c0 ++ joined_append t (bytes_over l) manifest_data) × (c2 ≡ c1 ++ joined_append t (bytes_over l) manifest_index))
    c.in-Ok-push_named.ensures.still c.in-Ok-push_named.ensures.same_start (λ t a b. (a, b)) c.in-Ok.ensures.found c.in-Ok-push_named.ensures.found)
    c.in-Ok-push_named-2.ensures.found

pub returns-in-Ok-push_named-2-clause-adds : goal.returns-in-Ok-push_named-2-clause-adds
returns-in-Ok-push_named-2-clause-adds g c =
    let c0 = c.args.changes.now.items in
    let c1 = c.push_named.new.changes.items in
    let c2 = c.push_named-2.new.changes.items in
    let c3 = c.push_named-3.new.changes.items in
    more-appends 2 1 c0 c2 c3 (more-appends 1 1 c0 c1 c2 c.in-Ok.ensures.adds c.in-Ok-push_named.ensures.adds) c.in-Ok-push_named-2.ensures.adds
