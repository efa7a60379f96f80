use Rattle.std.proofs.Common.{◌∙◌, ap, map}
use Rattle.std.specs.Prelude.{is_some}
use Rattle.hgs_marks.specs.Bookmarks.{node_of, without}
use Rattle.hgs_marks.specs.Held.{mark_in}
use Rattle.hgs_marks.proofs.MapLemmas.{removed, stood}
use Rattle.hgs_marks.proofs.bookmarks.Bookmarks.delete.Goals as goal

pub returns-clause-stood : goal.returns-clause-stood
returns-clause-stood c = c.is_some.ensures ∙ ap is_some c.remove.ensures.value ∙ stood c.args.name.now c.self.inside.marks.entries ∙ ap (λ ms. is_some (node_of c.args.name.now ms)) c.self.view_is

pub returns-clause-left : goal.returns-clause-left
returns-clause-left c = ap (map mark_in) c.remove.ensures.entries ∙ removed c.args.name.now c.self.inside.marks.entries ∙ ap (without c.args.name.now) c.self.view_is
