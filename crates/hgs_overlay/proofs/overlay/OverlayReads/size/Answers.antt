use Rattle.std.proofs.Common.{rules, ◌≡◌, ◌+◌, length, Some, None}
use Rattle.hgs_files.specs.Tree.{after_all}
use Rattle.hgs_files.specs.Reads.{IsSizeOf}
use Rattle.hgs_overlay.specs.Layers.{layer_at}
use Rattle.hgs_overlay.proofs.ReadLemmas.{bare_size_over, layered_size, told}
use Rattle.hgs_overlay.proofs.overlay.OverlayReads.size.Goals as goal

pub returns-in_default-clause-answer : goal.returns-in_default-clause-answer
returns-in_default-clause-answer g c =
    let none : None ≡ layer_at c.args.self.now.layers c.args.path.now = search rules in
    bare_size_over g.R.Reads.alone (g.R.Reads.seen c.size.new.self) (g.R.Reads.start c.size.new.self) c.args.self.now.layers c.args.path.now none c.size.result c.size.ensures.answer

pub returns-in-Some-checked_add-clause-answer : goal.returns-in-Some-checked_add-clause-answer
returns-in-Some-checked_add-clause-answer g c =
    let l = c.args.self.now.layers in
    let layer = c.in-Some.layer.now in
    let seen = g.R.Reads.seen c.size_under.new.files in
    let start = g.R.Reads.start c.size_under.new.files in
    let is : Some layer ≡ layer_at l c.args.path.now = search rules in
    let whole : c.in-Some-checked_add.size ≡ c.in-Ok.before + length layer.bytes = search rules in
    told g.R.Reads.alone seen l (λ log. IsSizeOf (after_all log start c.args.path.now) (Some c.in-Some-checked_add.size))
    (λ alone. layered_size seen start l c.args.path.now layer is c.in-Ok.before c.in-Some-checked_add.size (c.in-Ok.ensures.size alone) whole)
