use Rattle.std.proofs.Common.{not, sym, ◌∙◌, ap}
use Rattle.hgs_report.specs.Lines.{has_key}
use Rattle.hgs_report.specs.Names.{has_name}
use Rattle.hgs_report.proofs.names.has_name.Goals as goal

pub returns-in-D : goal.returns-in-D
returns-in-D c = ap not (c.contains.ensures ∙ ap (has_key c.args.inline.now.keys) c.as_slice.ensures) ∙ ap (λ ext. has_name c.args.inline.now.keys ext c.args.path.now) (sym c.in-D.is)
