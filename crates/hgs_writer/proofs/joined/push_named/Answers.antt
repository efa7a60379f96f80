use Rattle.std.proofs.Common.{◌≡◌, ◌++◌, length, true, ap, ◌∙◌}
use Rattle.std.specs.Prelude.{IfSome, codes}
use Rattle.hgs_bytes.specs.Bytes.{begins_with}
use Rattle.hgs_files.specs.Tree.{Tree, after_all, bytes_at}
use Rattle.hgs_writer.specs.Joined.{joined_append}
use Rattle.hgs_writer.specs.Layered.{bytes_over}
use Rattle.hgs_writer.proofs.JoinLemmas.{named-is, pushed-appends}
use Rattle.hgs_writer.proofs.PlanLemmas.{at-rest}
use Rattle.hgs_writer.proofs.joined.push_named.Goals as goal

pub returns-in-Ok-clause-found : goal.returns-in-Ok-clause-found
returns-in-Ok-clause-found g c =
    let path = c.in_ok-path.path in
    let before = c.in-Ok.field-0 in
    let layers = c.args.layers.now in
    let old = c.args.changes.now.items in
    let new = c.push.new.changes.items in
    at-rest g.R.Reads.alone (g.R.Reads.seen c.push.new.files) (g.R.Reads.start c.push.new.files)
    (λ t. IfSome before (λ n. n ≡ length (bytes_at t path))) (λ t. new ≡ old ++ joined_append t (bytes_over layers) c.args.name.now)
    (λ t is. named-is t layers path c.args.name.now before old new c.in_ok-path.ensures c.in-Ok.ensures.pushes is)
    c.in-Ok.ensures.found

pub returns-in-Ok-clause-adds : goal.returns-in-Ok-clause-adds
returns-in-Ok-clause-adds g c =
    let path = c.in_ok-path.path in
    pushed-appends path (bytes_over c.args.layers.now path) c.in-Ok.field-0 c.args.changes.now.items c.push.new.changes.items (ap (λ p. begins_with p (codes "store/")) c.in_ok-path.ensures ∙ c.requires.in_store) c.in-Ok.ensures.pushes
