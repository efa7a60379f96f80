use Rattle.std.proofs.Common.{sym, ◌∙◌}
use Rattle.hgs_steps.proofs.NamedLemmas.{name-refused}
use Rattle.hgs_steps.proofs.loaded.Loaded.next_parent.Goals as goal

pub returns-in-Err-clause-err : goal.returns-in-Err-clause-err
returns-in-Err-clause-err c = λ names. name-refused c.args.self.now c.args.two.first c.args.two.second c.args.name.now names c.in-Err.fault (sym c.means_no_parent.ensures ∙ c.if-means_no_parent.false) (sym c.in-Err.ensures.found)
