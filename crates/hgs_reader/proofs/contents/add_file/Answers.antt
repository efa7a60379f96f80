use Rattle.std.proofs.Common.{List, ℕ, Err, refl}
use Rattle.hgs_load.specs.Asks.{answer}
use Rattle.hgs_reader.specs.Contents.{file_node, body_asks}
use Rattle.hgs_load.specs.Theorems.GivenLemmas.{text-behind, takes-given, refused-then}
use Rattle.hgs_load.specs.Theorems.AskLemmas.{adds-behind}
use Rattle.hgs_reader.proofs.contents.add_file.Goals as goal

pub returns-in-Ok-clause-answer : goal.returns-in-Ok-clause-answer
returns-in-Ok-clause-answer g c =
    adds-behind (g.R.Reads.seen c.args.files.now) (g.R.Reads.seen c.add_body.new.files) (g.R.Reads.start c.args.files.now) (file_node c.args.path.now c.args.manifest.now) (λ node. body_asks c.args.path.now node) c.in-Ok.node.0
    c.args.into.now.items c.add_body.new.into.items c.add_body.result c.in-Ok.ensures.node c.add_body.ensures.answer

pub returns-in-Ok-clause-given : goal.returns-in-Ok-clause-given
returns-in-Ok-clause-given g c =
    text-behind (g.R.Reads.given c.args.files.now) (g.R.Reads.given c.add_body.new.files) (g.R.Reads.seen c.args.files.now) (g.R.Reads.seen c.add_body.new.files) (g.R.Reads.start c.args.files.now) (file_node c.args.path.now c.args.manifest.now) (λ node. body_asks c.args.path.now node) c.in-Ok.node.0
    c.args.into.now.items c.add_body.new.into.items c.add_body.result c.in-Ok.ensures.node c.add_body.ensures.given

pub returns-in-Err-clause-given : goal.returns-in-Err-clause-given
returns-in-Err-clause-given g c =
    let given = g.R.Reads.given c.args.files.now in
    let seen = g.R.Reads.seen c.args.files.now in
    let start = g.R.Reads.start c.args.files.now in
    let node = file_node c.args.path.now c.args.manifest.now in
    refused-then given given seen seen start (answer node) (λ node. body_asks c.args.path.now node) c.in-Err.refusal (takes-given {V = List ℕ} (λ (node : List ℕ). node) given given seen start node (Err c.in-Err.refusal) refl c.in-Err.ensures.node)
