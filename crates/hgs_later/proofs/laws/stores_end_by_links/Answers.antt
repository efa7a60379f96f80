use Rattle.hgs_files.specs.Tree.{after_all}
use Rattle.hgs_legal.specs.Numbers.{n_of, repo_at}
use Rattle.hgs_later.proofs.Cutting.{Links, end-by-links}
use Rattle.hgs_later.proofs.laws.stores_end_by_links.Goals as goal

pub returns : goal.returns
returns c t store r log s i stands run le held manifest filelogs =
    end-by-links below (after_all log t) store (repo_at s i).changesets (repo_at s (n_of s)).changesets (c.repositories_go_on.ensures t r log s i (n_of s) stands run le).1 held
    (λ path is. c.files_stay_under.ensures t r log s path stands run is) manifest filelogs
  where
    below : Links
    below = record {
      manifest = c.links_part_histories.ensures.manifest;
      filelogs = c.links_part_histories.ensures.filelogs;
      manifest_goes_on = c.histories_go_on.ensures.manifest;
      filelogs_go_on = c.histories_go_on.ensures.filelogs;
      cut = c.fronts_are_cut_by_links.ensures.cut;
      there = c.fronts_are_cut_by_links.ensures.there;
      ends = c.fronts_end_by_links.ensures;
    }
