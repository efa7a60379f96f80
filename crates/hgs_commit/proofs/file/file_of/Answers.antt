use Rattle.std.proofs.Common.{◌≡◌, Ok}
use Rattle.std.specs.Option.{option_map}
use Rattle.hgs_path.specs.Fncache.{listing}
use Rattle.hgs_commit.specs.Files.{OfFile, file_in, view_file}
use Rattle.hgs_commit.specs.Known.{AreKept}
use Rattle.hgs_commit.specs.Obstacles.{met_of, noting}
use Rattle.hgs_commit.specs.Walk.{told_of_found}
use Rattle.hgs_commit.proofs.KnownLemmas.{knows-more, recalled-found}
use Rattle.hgs_commit.proofs.file.file_of.Goals as goal

pub returns-in_ok-push-in-Some-clause-found : goal.returns-in_ok-push-in-Some-clause-found
returns-in_ok-push-in-Some-clause-found g c =
    let lists = listing c.args.fncache.now in
    let file = c.args.file.now in
    let source = c.args.source.now.0 in
    let first = option_map told_of_found c.args.rows.first in
    let second = option_map told_of_found c.args.rows.second in
    let m = met_of c.args.met.now in
    let x : OfFile = view_file c.in_ok-kept-in-Some.kept in
    knows-more g.R.Reads.alone (g.R.Reads.seen c.args.files.now) (g.R.Reads.start c.args.files.now) c.args.known.now
    (λ t. noting m (file_in lists c.args.link file source first second t) ≡ Ok (x, m))
    (λ t h. recalled-found lists c.args.link file source first second t c.in-Some.found (c.in-Some.ensures.kept t h).1 c.in-Some.ensures.recalled c.in-Some.ensures.path x m c.in_ok-kept-in-Some.ensures.file)
    c.requires.known

pub returns-in_ok-push-in-Some-clause-known : goal.returns-in_ok-push-in-Some-clause-known
returns-in_ok-push-in-Some-clause-known g c =
    knows-more g.R.Reads.alone (g.R.Reads.seen c.args.files.now) (g.R.Reads.start c.args.files.now) c.args.known.now
    (λ t. AreKept t c.push.new.self)
    (λ t h. let kept = c.in-Some.ensures.kept t h in c.in_ok-push-in-Some.ensures t kept.0 kept.1)
    c.requires.known

pub read_file-requires-clause-known : goal.read_file-requires-clause-known
read_file-requires-clause-known g c =
    knows-more g.R.Reads.alone (g.R.Reads.seen c.args.files.now) (g.R.Reads.start c.args.files.now) c.args.known.now
    (λ t. AreKept t c.recalled.new.known)
    (λ t h. (c.recalled.ensures.kept t h).0)
    c.requires.known
