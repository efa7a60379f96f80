use Rattle.hgs_recover.proofs.Below.{Below}
use Rattle.hgs_recover.proofs.Recovers.{attempts-lead}
use Rattle.hgs_recover.proofs.laws.recovering_may_be_begun_again.Goals as goal

pub returns : goal.returns
returns c = attempts-lead below
  where
    below : Below
    below = record {
      joins = c.pieces_join.ensures;
      pieces = c.pieces_of_pieces.ensures;
      journal_reads = λ text lines. (c.texts_read.ensures.journal text lines).1;
      backups_read = λ text lines. (c.texts_read.ensures.backups text lines).1;
      leads = c.undo_leads_back.ensures.leads;
      parts = c.undo_may_stop.ensures.parts;
      files = c.undo_may_stop.ensures.files;
      loose = c.other_files_do_not_matter.ensures.loose;
      restored = c.open_trees_lead_back.ensures.restored;
    }
