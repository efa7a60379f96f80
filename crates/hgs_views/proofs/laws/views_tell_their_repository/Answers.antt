use Rattle.hgs_views.specs.Seen.{seen}
use Rattle.hgs_views.proofs.TellsLemmas.{tells-of}
use Rattle.hgs_views.proofs.laws.views_tell_their_repository.Goals as goal

pub returns : goal.returns
returns c = record {
  says = λ x first last v view is loaded.
      let s = c.views_show_repositories.ensures x first last v view is loaded in
      c.views_say_their_repository.ensures (x.store v.read) (seen x v) view s.0 s.1;
  tells = λ x began ended first last v view rev d is opens reads loaded then on found. tells-of x first last view (seen x v) rev d found (c.contents_of_views.ensures x began ended first last v view rev d is opens reads loaded then on found);
}
