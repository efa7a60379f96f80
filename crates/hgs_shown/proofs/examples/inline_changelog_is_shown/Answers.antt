use Rattle.std.proofs.Common.{◌∙◌, refl}
use Rattle.hgs_stands.specs.Samples.{two_drafts}
use Rattle.hgs_stands.specs.Stands.{Stands}
use Rattle.hgs_shown.specs.Samples.{inline_drafts_files}
use Rattle.hgs_shown.proofs.InlineSampleLemmas.{inline-stands}
use Rattle.hgs_shown.proofs.examples.inline_changelog_is_shown.Goals as goal

pub returns : goal.returns
returns c =
    let stands : Stands inline_drafts_files two_drafts = inline-stands c.inline_taken_apart.ensures.back c.two_drafts_stand.ensures.stands in
    let small = c.samples_are_small.ensures in
    let load = c.load_shows_repository.ensures inline_drafts_files two_drafts stands small.inline_open in
    record {
      stands = stands;
      shown = (load.0, load.1, c.refreshes_read_what_is_new.ensures.opened inline_drafts_files load.0 load.1 ∙ refl, load.2, λ rev changeset found. c.contents_show_repository.ensures inline_drafts_files two_drafts load.0 rev changeset stands small.inline_open small.inline_read load.1 found);
    }
