use Rattle.std.proofs.Common.{◌++◌, ◌∙◌, ap}
use Rattle.hgs_follow.specs.Lines.{lines_text}
use Rattle.hgs_follow.proofs.TextLemmas.{follows}
use Rattle.hgs_follow.proofs.text.follow.Goals as goal

pub returns-clause-ok : goal.returns-clause-ok
returns-clause-ok g c =
    let f = c.in-Ok.ensures.ok in (
      f.0,
      c.in_ok-text.text.items,
      f.1,
      c.in_ok-extend_from_slice.ensures.items ∙ ap (λ l. c.args.into.now.items ++ l) c.deref-2.ensures.value,
      follows (record { path = c.args.path.now; node = c.args.node.now.0 }) c.in-Ok.lines.items c.sort.new.lines.items f.0 c.in_ok-text.text.items f.2 c.sort.ensures.same c.sort.ensures.ordered
          (c.in_ok-text.ensures ∙ ap lines_text c.deref.ensures.value),
    )
