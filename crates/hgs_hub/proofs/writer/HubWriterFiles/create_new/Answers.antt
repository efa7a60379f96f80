use Rattle.std.proofs.Common.{rules, ◌≡◌, [], ◌∷◌, ◌++◌, None, Some, ap}
use Rattle.hgs_files.specs.Tree.{after_all}
use Rattle.hgs_files.specs.declared.op.Op.TheVariants.{Create}
use Rattle.hgs_mem.specs.MemFiles.{tree_now}
use Rattle.hgs_hub.proofs.PieceLemmas.{create_done, no_size}
use Rattle.hgs_hub.proofs.writer.HubWriterFiles.create_new.Goals as goal

pub returns-in-Ok-clause-done : goal.returns-in-Ok-clause-done
returns-in-Ok-clause-done g c =
    let s = c.args.self.now in
    let none : after_all s.log.items (tree_now s.base) c.args.path.now ≡ None = no_size (after_all s.log.items (tree_now s.base) c.args.path.now) c.size_shown.result (search rules) (search rules) in
    let more : c.add_made.new.self.log.items ≡ s.log.items ++ Create c.args.path.now c.args.bytes.now ∷ [] = search rules in
    (Create c.args.path.now c.args.bytes.now ∷ [], ap Some more, (none, create_done c.args.path.now c.args.bytes.now))
