use Rattle.hgs_stands.proofs.NearLemmas.{listed-stands, tracked-stands}
use Rattle.hgs_stands.specs.Theorems.Below.{SampleLaws}
use Rattle.hgs_stands.proofs.examples.other_files_stand.Goals as goal

pub returns : goal.returns
returns c = record { tracked = tracked-stands laws; listed = listed-stands laws }
  where
    laws : SampleLaws
    laws = record {
      chunk = c.chunk_then_text.ensures;
      separate = c.either_form_holds.ensures.separate;
      either_begins = c.either_form_holds.ensures.begins;
      either_more = c.either_form_holds.ensures.more;
      node_back = c.nodes_written_then_read.ensures.back;
      node = c.nodes_name_revisions.ensures.node;
      roots = c.read_texts.ensures;
      lines = c.bookmark_lines_written_then_read.ensures;
    }
