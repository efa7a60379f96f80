use Rattle.std.proofs.Common.{◌∙◌, ap, ◌-◌, length}
use Rattle.std.specs.Prelude.{slice_get}
use Rattle.hgs_index.specs.Manifest.{Row, last_path}
use Rattle.hgs_manifest.specs.Held.{row_in}
use Rattle.hgs_manifest.proofs.HeldLemmas.{last_got}
use Rattle.hgs_manifest.proofs.manifest.Manifest.last_path.Goals as goal

pub returns-in-Some : goal.returns-in-Some
returns-in-Some c =
    ap (λ (r : Row). r.path) c.row_of.ensures ∙ ap (λ ps. (row_in ps c.in-Some.place.now).path) c.deref-in-Some.ensures.value
    ∙ last_got c.self.inside.paths.items c.self.inside.places.items c.in-Some.place.now (c.in-Some.ensures.value ∙ ap (λ xs. slice_get xs (length xs - 1)) c.deref.ensures.value)
    ∙ ap last_path c.self.view_is
