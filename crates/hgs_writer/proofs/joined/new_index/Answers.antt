use Rattle.hgs_files.specs.Tree.{Tree, after_all, bytes_at}
use Rattle.std.proofs.Common.{◌≡◌, ◌++◌, length}
use Rattle.hgs_load.specs.Asks.{part_of}
use Rattle.hgs_stands.specs.Places.{changelog_index}
use Rattle.hgs_writer.specs.Layered.{bytes_over}
use Rattle.hgs_writer.proofs.JoinLemmas.{index-is}
use Rattle.hgs_writer.proofs.OverLemmas.{both-at-rest}
use Rattle.hgs_writer.proofs.joined.new_index.Goals as goal

pub returns-clause-found : goal.returns-clause-found
returns-clause-found g c =
    let path = c.in_ok-path.path in
    let before = c.in-Ok.before in
    let part = c.in-Ok-read_part.part in
    let layers = c.args.layers.now in
    let bytes = c.append_laid.new.into in
    both-at-rest g.R.Reads.alone (g.R.Reads.seen c.length_of.new.files) (g.R.Reads.seen c.read_part.new.files) (g.R.Reads.start c.length_of.new.files) (g.R.Reads.start c.read_part.new.files)
    (λ t. before ≡ length (bytes_at t path)) (λ t. part ≡ part_of t path 0 before) (λ t. (bytes ≡ bytes_at t changelog_index ++ bytes_over layers changelog_index) × (before ≡ length (bytes_at t changelog_index)))
    c.in-Ok-read_part.ensures.still c.in-Ok-read_part.ensures.same_start
    (λ t p s. index-is t path layers before part c.bytes_of.result.now c.in_ok-bytes.bytes bytes c.in_ok-path.ensures p s c.bytes_of.ensures c.in_ok-bytes.ensures c.in_ok-append_laid.ensures)
    c.in-Ok.ensures.found (λ alone. c.in-Ok-read_part.ensures.answer)
