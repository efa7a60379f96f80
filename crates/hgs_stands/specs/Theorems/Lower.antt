-- The laws of the crates below as their proofs, for crates above that still name lemmas of this one.
use Rattle.hgs_index.specs.Node.{null_node}
use Rattle.hgs_index.specs.Theorems.ChangeTextLemmas.{change_back}
use Rattle.hgs_index.specs.Theorems.EitherLemmas.{either-begins, either-once}
use Rattle.hgs_index.specs.Theorems.ManifestText.{manifest_back}
use Rattle.hgs_index.specs.Theorems.PlaceLemmas.{among-at, place-same}
use Rattle.hgs_model.specs.Theorems.BeforeLemmas.{changelog-parents}
use Rattle.hgs_model.specs.Theorems.HeldLemmas.{count, held}
use Rattle.hgs_model.specs.Theorems.ListedLemmas.{length-nodes, rev-same, there}
use Rattle.hgs_model.specs.Theorems.UsedLemmas.{used-paths}
use Rattle.hgs_path.specs.Theorems.ApartLemmas.{line-d, store-d}
use Rattle.hgs_path.specs.Theorems.ReadNamesLemmas.{names-listed}
use Rattle.hgs_phases.specs.Theorems.AloneLemmas.{phases-same}
use Rattle.hgs_bytes.specs.Text.{lines_of}
use Rattle.std.proofs.Common.{ap, ◌++◌}
use Rattle.std.specs.Prelude.{codes}
use Rattle.hgs_stands.specs.Theorems.Below.{HistoryLaws, NameLaws, PhaseLaw, TextLaws}
use Rattle.hgs_stands.specs.Theorems.FormLemmas.{either-length}

pub texts : TextLaws
texts = record {
  either_once = either-once;
  either_begins = either-begins;
  either_length = either-length;
  counted = length-nodes;
  among_known = λ known rev lt. among-at known rev null_node lt;
  one_place = place-same;
  change = change_back;
  rows = manifest_back;
}

pub histories : HistoryLaws
histories = record { held = held; count = count; there = there; one = rev-same; used = used-paths; parents = changelog-parents }

pub file_names : NameLaws
file_names = record {
  file = λ path ext. let d = store-d path ext in (d.0, ap (λ z. codes "store/" ++ z) d.1);
  listed = line-d;
  read = λ text names e. names-listed 1 (lines_of text) names e;
}

pub phases : PhaseLaw
phases = phases-same
