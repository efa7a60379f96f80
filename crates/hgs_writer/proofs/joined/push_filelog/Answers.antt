use Rattle.std.proofs.Common.{◌≡◌, length, refl, true, ap, ◌∙◌}
use Rattle.std.specs.Prelude.{IfSome, codes}
use Rattle.hgs_bytes.specs.Bytes.{begins_with}
use Rattle.hgs_files.specs.Tree.{Tree, bytes_at}
use Rattle.hgs_path.specs.declared.name.Ext.TheVariants.{I, D}
use Rattle.hgs_path.specs.StoreName.{store_name}
use Rattle.hgs_writer.specs.Layered.{bytes_over}
use Rattle.hgs_writer.proofs.JoinLemmas.{OneFilelog, filelog-is, in-the-store, more-appends, pushed-appends}
use Rattle.hgs_writer.proofs.OverLemmas.{both-at-rest}
use Rattle.hgs_writer.proofs.joined.push_filelog.Goals as goal

pub returns-clause-found : goal.returns-clause-found
returns-clause-found g c =
    let l = c.args.layers.now in
    let was = c.args.joined.now in
    let dp = c.in_ok-data.data in
    let ip = c.in_ok-index.index in
    let d = c.in-Ok.before in
    let b = c.in-Ok-push.before in
    let c1 = c.push.new.changes.items in
    let c2 = c.push-2.new.changes.items in
    let l2 = c.push_names.new.lines.items in
    both-at-rest g.R.Reads.alone (g.R.Reads.seen c.push.new.files) (g.R.Reads.seen c.push-2.new.files) (g.R.Reads.start c.push.new.files) (g.R.Reads.start c.push-2.new.files)
    (λ t. IfSome d (λ n. n ≡ length (bytes_at t dp))) (λ t. IfSome b (λ n. n ≡ length (bytes_at t ip))) (λ t. OneFilelog t l c.args.path.now was.changes.items c2 was.lines.items l2)
    c.in-Ok-push.ensures.still c.in-Ok-push.ensures.same_start
    (λ t dis iis. filelog-is t l c.args.path.now dp ip d b was.changes.items c1 c2 was.lines.items l2 c.in_ok-data.ensures c.in_ok-index.ensures c.in-Ok.ensures.pushes c.in-Ok-push.ensures.pushes c.in_ok-push_names.ensures dis iis)
    c.in-Ok.ensures.found c.in-Ok-push.ensures.found

pub returns-clause-adds : goal.returns-clause-adds
returns-clause-adds g c =
    let l = c.args.layers.now in
    let was = c.args.joined.now in
    let dp = c.in_ok-data.data in
    let ip = c.in_ok-index.index in
    let c1 = c.push.new.changes.items in
    let c2 = c.push-2.new.changes.items in
    more-appends 1 1 was.changes.items c1 c2
    (pushed-appends dp (bytes_over l dp) c.in-Ok.before was.changes.items c1 (ap (λ p. begins_with p (codes "store/")) c.in_ok-data.ensures ∙ in-the-store c.args.path.now D) c.in-Ok.ensures.pushes)
    (pushed-appends ip (bytes_over l ip) c.in-Ok-push.before c1 c2 (ap (λ p. begins_with p (codes "store/")) c.in_ok-index.ensures ∙ in-the-store c.args.path.now I) c.in-Ok-push.ensures.pushes)
