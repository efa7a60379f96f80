use Rattle.std.proofs.Common.{sym, ◌∙◌}
use Rattle.hgs_manifest.specs.Held.{view_row}
use Rattle.hgs_commit.proofs.WalkLemmas.{rest_found, rest_other, row_found, row_other}
use Rattle.hgs_commit.proofs.walk.Walk.take.Goals as goal

pub returns-then-not-equal-clause-row : goal.returns-then-not-equal-clause-row
returns-then-not-equal-clause-row c = row_other c.args.path.now c.args.self.now c.self.inside.manifest.now c.self.inside.next (view_row c.row-row.result) (sym c.self.view_is) c.row-row.ensures (sym c.equal.ensures ∙ c.if-not-equal.true)

pub returns-then-not-equal-clause-rest : goal.returns-then-not-equal-clause-rest
returns-then-not-equal-clause-rest c = rest_other c.args.path.now c.args.self.now c.self.inside.manifest.now c.self.inside.next (view_row c.row-row.result) (sym c.self.view_is) c.row-row.ensures (sym c.equal.ensures ∙ c.if-not-equal.true)

pub returns-clause-row : goal.returns-clause-row
returns-clause-row c = row_found c.args.path.now c.args.self.now c.self.inside.manifest.now c.self.inside.next (view_row c.row-row.result) (sym c.self.view_is) c.row-row.ensures (sym c.equal.ensures ∙ c.if-not-equal.false)

pub returns-clause-rest : goal.returns-clause-rest
returns-clause-rest c = rest_found c.args.path.now c.args.self.now c.self.inside.manifest.now c.self.inside.next (view_row c.row-row.result) (sym c.self.view_is) c.row-row.ensures (sym c.equal.ensures ∙ c.if-not-equal.false)
