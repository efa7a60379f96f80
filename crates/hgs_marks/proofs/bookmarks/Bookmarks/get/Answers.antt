use Rattle.std.proofs.Common.{◌∙◌, ap}
use Rattle.std.specs.Option.{option_map}
use Rattle.hgs_marks.specs.Bookmarks.{node_of}
use Rattle.hgs_marks.proofs.MapLemmas.{found}
use Rattle.hgs_marks.proofs.bookmarks.Bookmarks.get.Goals as goal

pub returns : goal.returns
returns c = ap (option_map (λ n. n.0)) (c.copied.ensures ∙ c.get.ensures.value) ∙ found c.args.name.now c.self.inside.marks.entries ∙ ap (node_of c.args.name.now) c.self.view_is
