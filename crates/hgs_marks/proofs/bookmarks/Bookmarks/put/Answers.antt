use Rattle.std.proofs.Common.{◌∙◌, ap, map}
use Rattle.hgs_marks.specs.Bookmarks.{with_mark}
use Rattle.hgs_marks.specs.Held.{mark_in}
use Rattle.hgs_marks.proofs.MapLemmas.{placed}
use Rattle.hgs_marks.proofs.bookmarks.Bookmarks.put.Goals as goal

pub returns-clause-ok : goal.returns-clause-ok
returns-clause-ok c =
    ap (map mark_in) c.in_ok-insert.ensures.entries ∙ placed c.self.inside.marks.entries c.in_ok-name.name c.args.mark.node
    ∙ ap (λ ms. with_mark ms (mark_in (c.in_ok-name.name, c.args.mark.node))) c.self.view_is
    ∙ ap (λ n. with_mark c.args.self.now (record { name = n; node = c.args.mark.node.0 })) c.in_ok-name.ensures.items
