use Rattle.std.proofs.Common.{◌≡◌, ◌||◌, ℕ, List}
use Rattle.hgs_judge.specs.Report.{findings_in}
use Rattle.hgs_report.specs.Lines.{has_key}
use Rattle.hgs_report.specs.Names.{is_named}
use Rattle.hgs_report.proofs.NameLemmas.{Went}
use Rattle.hgs_report.proofs.names.add_names.Given as goal

abbrev pub invariant-loop-path : goal.invariant-loop-path
invariant-loop-path l = record {
  found : Went l.listed l.inline.keys l.ext l.paths.keys l.path-iterator (findings_in l.fn.into.items) (findings_in l.into.items) l.seen.taken.keys;
  named : (name : List ℕ) → (has_key l.seen.named.keys name || is_named l.path-iterator l.ext name) ≡ (is_named l.paths.keys l.ext name || has_key l.fn.named.keys name);
}
