use Rattle.std.proofs.Common.{rules, ◌≡◌, ap, sym, ◌∙◌}
use Rattle.std.specs.Arc.{arc_value}
use Rattle.hgs_files.specs.Tree.{after_all}
use Rattle.hgs_mem.specs.Mem.{tree_of}
use Rattle.hgs_mem.specs.MemFiles.{log_of, start_of, tree_now}
use Rattle.hgs_hub.specs.Rule.{start_at}
use Rattle.hgs_hub.proofs.writer.HubWriter.end.Goals as goal

pub go_on-requires : goal.go_on-requires
go_on-requires g c =
    let s = c.args.self in
    let m = arc_value s.writer.desk.shown.value.now in
    let copied : tree_of c.in-Ok.files ≡ tree_of m.files = search rules in
    copied ∙ m.kept ∙ ap (λ l. after_all l (start_at s.writer.desk.shown.value)) s.logged ∙ ap (after_all s.log.items) s.from

pub invariant_of-result : goal.invariant_of-result
invariant_of-result g c =
    let s = c.args.self in
    let b = c.go_on.new.self in
    let given : c.in-Err.log.items ≡ s.log.items = c.in-Err.ensures.err.0 in
    let done : log_of b ≡ log_of s.base = c.in-Err.ensures.err.1 in
    let from : start_at s.writer.desk.shown.value ≡ tree_now b = s.from ∙ ap (λ l. after_all l (start_of s.base)) (sym done) ∙ ap (after_all (log_of b)) (sym c.go_on.ensures.start) in
    record { logged = s.logged ∙ sym given; from = from; fronted = s.fronted ∙ sym given; homed = s.homed }
