use Rattle.std.proofs.Common.{◌≡◌, [], ◌++◌, ◌+◌, ◌*◌, length, arith}
use Rattle.std.specs.Prelude.{flat_map}
use Rattle.hgs_commit.specs.Appended.{append_some}
use Rattle.hgs_files.specs.Tree.{Tree, bytes_at}
use Rattle.hgs_stands.specs.Places.{changelog_data, fncache_path, manifest_data, manifest_index}
use Rattle.hgs_writer.specs.Joined.{joined_append, joined_appends, joined_filelog, joined_lines}
use Rattle.hgs_writer.specs.Layered.{bytes_over}
use Rattle.hgs_writer.proofs.JoinLemmas.{appends-are, at-most, more-appends}
use Rattle.hgs_writer.proofs.OverLemmas.{both-at-rest}
use Rattle.hgs_writer.proofs.joined.appends_of.Goals as goal

pub returns-in-Ok-push_logs-clause-found : goal.returns-in-Ok-push_logs-clause-found
returns-in-Ok-push_logs-clause-found g c =
    let l = c.args.layers.now in
    let paths = c.args.paths.now.keys in
    let c0 = c.in-Ok.joined.changes.items in
    let lines = c.in-Ok.joined.lines.items in
    let c1 = c.push_lines.new.changes.items in
    let c2 = c.push_logs.new.changes.items in
    let f0 = c.push_filelogs.new.files in
    let f1 = c.push_lines.new.files in
    let f2 = c.push_logs.new.files in
    both-at-rest g.R.Reads.alone (g.R.Reads.seen f1) (g.R.Reads.seen f2) (g.R.Reads.start f1) (g.R.Reads.start f2)
    (λ t. ((c0 ≡ flat_map (joined_filelog t (bytes_over l)) paths) × (lines ≡ joined_lines t (bytes_over l) paths)) × (c1 ≡ c0 ++ append_some fncache_path (length (bytes_at t fncache_path)) lines))
    (λ t. c2 ≡ c1 ++ ((joined_append t (bytes_over l) manifest_data ++ joined_append t (bytes_over l) manifest_index) ++ joined_append t (bytes_over l) changelog_data))
    (λ t. c2 ≡ joined_appends t (bytes_over l) paths)
    c.in-Ok-push_logs.ensures.still c.in-Ok-push_logs.ensures.same_start
    (λ t begun logs. appends-are t l paths c0 c1 c2 lines begun.0 begun.1 logs)
    (both-at-rest g.R.Reads.alone (g.R.Reads.seen f0) (g.R.Reads.seen f1) (g.R.Reads.start f0) (g.R.Reads.start f1)
    (λ t. (c0 ≡ flat_map (joined_filelog t (bytes_over l)) paths) × (lines ≡ joined_lines t (bytes_over l) paths)) (λ t. c1 ≡ c0 ++ append_some fncache_path (length (bytes_at t fncache_path)) lines)
    (λ t. ((c0 ≡ flat_map (joined_filelog t (bytes_over l)) paths) × (lines ≡ joined_lines t (bytes_over l) paths)) × (c1 ≡ c0 ++ append_some fncache_path (length (bytes_at t fncache_path)) lines))
    c.in-Ok-push_lines.ensures.still c.in-Ok-push_lines.ensures.same_start (λ t a b. (a, b)) c.in-Ok.ensures.found c.in-Ok-push_lines.ensures.found)
    c.in-Ok-push_logs.ensures.found

pub returns-in-Ok-push_logs-clause-adds : goal.returns-in-Ok-push_logs-clause-adds
returns-in-Ok-push_logs-clause-adds g c =
    let n = length c.args.paths.now.keys in
    let c0 = c.in-Ok.joined.changes.items in
    let c1 = c.push_lines.new.changes.items in
    let c2 = c.push_logs.new.changes.items in
    at-most (2 * n + 1 + 3) (2 * n + 4) [] c2 (omega arith) (more-appends (2 * n + 1) 3 [] c1 c2 (more-appends (2 * n) 1 [] c0 c1 c.in-Ok.ensures.adds c.in-Ok-push_lines.ensures.adds) c.in-Ok-push_logs.ensures.adds)
