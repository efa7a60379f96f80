use Rattle.std.proofs.Common.{[], refl}
use Rattle.hgs_bytes.specs.Bytes.{IsPrefixOf}
use Rattle.hgs_model.specs.IsRepo.{IsRepo}
use Rattle.hgs_stands.specs.Samples.{third_begun_files, two_drafts, two_drafts_files}
use Rattle.hgs_shown.proofs.examples.samples_are_shown.Goals as goal

pub returns : goal.returns
returns c = record {
  drafts =
      let stands = c.two_drafts_stand.ensures.stands in
      let small = c.samples_are_small.ensures in
      let load = c.load_shows_repository.ensures two_drafts_files two_drafts stands small.drafts_open in
      (load.0, load.1, load.2, λ rev changeset found. c.contents_show_repository.ensures two_drafts_files two_drafts load.0 rev changeset stands small.drafts_open small.drafts_read load.1 found);
  begun =
      let is : IsRepo two_drafts = c.two_drafts_stand.ensures.stands.repository in
      let shows = c.begun_commit_is_open.ensures.shows in
      let small = c.samples_are_small.ensures in
      let whole : IsPrefixOf two_drafts.changesets two_drafts.changesets = ([], refl) in
      let load = c.load_shows_what_is_shown.ensures third_begun_files two_drafts two_drafts two_drafts shows is is whole small.begun_open in
      (load.0, load.1, load.2, λ rev changeset found. c.contents_of_what_is_shown.ensures third_begun_files two_drafts two_drafts two_drafts load.0 rev changeset shows is is whole small.begun_open small.begun_read load.1 found);
}
