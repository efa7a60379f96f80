use Rattle.std.proofs.Common.{rules, ◌≡◌, ◌++◌, take, drop, Some, None, IfSome, ap, ◌∙◌}
use Rattle.hgs_files.specs.Tree.{after_all}
use Rattle.hgs_files.specs.Reads.{ReadsPart}
use Rattle.hgs_overlay.specs.Layers.{layer_at}
use Rattle.hgs_overlay.proofs.ReadLemmas.{bare_part, layered_part}
use Rattle.hgs_overlay.proofs.overlay.Overlay.add_part.Goals as goal

pub returns-in-Ok-clause-part : goal.returns-in-Ok-clause-part
returns-in-Ok-clause-part g c = λ alone.
    let none : None ≡ layer_at c.args.self.now.layers c.args.path.now = search rules in
    let read : IfSome (g.R.Reads.seen c.read.new.self) (λ log. ReadsPart (after_all log (g.R.Reads.start c.read.new.self) c.args.path.now) c.args.from c.args.most c.args.into.now.items c.read.new.into.items c.in-Ok.part) = search rules in
    rw c.is_some.ensures (bare_part (g.R.Reads.seen c.read.new.self) (g.R.Reads.start c.read.new.self) c.args.self.now.layers c.args.path.now none c.args.from c.args.most c.args.into.now.items c.read.new.into.items c.in-Ok.part read)

pub returns-in-Ok-extend_from_slice-clause-part : goal.returns-in-Ok-extend_from_slice-clause-part
returns-in-Ok-extend_from_slice-clause-part g c = λ alone.
    let l = c.args.self.now.layers in
    let layer = c.in-Some.layer.now in
    let rest = c.in-Ok-read_under.rest in
    let mid = c.read_under.new.into.items in
    let is : Some layer ≡ layer_at l c.args.path.now = search rules in
    let part : c.front-part.result.now ≡ take rest.1 (drop rest.0 layer.bytes) = search rules in
    layered_part (g.R.Reads.seen c.read_under.new.files) (g.R.Reads.start c.read_under.new.files) l c.args.path.now layer is c.args.from c.args.most c.args.into.now.items mid c.extend_from_slice.new.self.items rest.0 rest.1
    (c.in-Ok-read_under.ensures.part alone) (c.in-Ok-extend_from_slice.ensures.items ∙ ap (λ b. mid ++ b) part)
