use Rattle.hgs_stands.proofs.NearLemmas.{foreign-file, foreign-word, journal-is-none, lacking-word, locked, tracked-too-many, unknown-mark, unknown-root, unlisted, untracked}
use Rattle.hgs_stands.specs.Theorems.Below.{SampleLaws}
use Rattle.hgs_stands.proofs.examples.near_misses_do_not_stand.Goals as goal

pub returns : goal.returns
returns c = record {
  journal = journal-is-none;
  foreign_word = foreign-word;
  lacking_word = lacking-word;
  unlisted = unlisted;
  foreign_file = foreign-file;
  untracked = untracked;
  tracked = tracked-too-many;
  locked = locked;
  unknown_root = unknown-root laws;
  unknown_mark = unknown-mark laws;
}
  where
    laws : SampleLaws
    laws = record {
      chunk = c.chunk_then_text.ensures;
      separate = c.either_form_holds.ensures.separate;
      either_begins = c.either_form_holds.ensures.begins;
      either_more = c.either_form_holds.ensures.more;
      node_back = c.nodes_written_then_read.ensures.back;
      node = c.nodes_name_revisions.ensures.node;
      roots = c.read_texts.ensures;
      lines = c.bookmark_lines_written_then_read.ensures;
    }
