use Rattle.std.proofs.Common.{◌∙◌, sym, arith, subst}
use Rattle.std.specs.Option.{option_map}
use Rattle.hgs_path.specs.Fncache.{listing, IsClashAt}
use Rattle.hgs_path.specs.declared.name.Ext.TheVariants.{I}
use Rattle.hgs_path.proofs.ClashLemmas.{plain-none, data-clash}
use Rattle.hgs_path.proofs.LengthLemmas.{short-plain}
use Rattle.hgs_path.proofs.fncache.Fncache.clash.Goals as goal

pub returns-then-is_short : goal.returns-then-is_short
returns-then-is_short c = plain-none c.args.self.now c.args.path.now (λ i. let h = c.type_inv.path i in omega (arith, h)) (short-plain c.args.path.now (sym c.is_short.ensures ∙ c.if-is_short.true))

pub returns-in-None : goal.returns-in-None
returns-in-None c = data-clash c.args.self.now c.args.path.now c.clash_at-in-None.result (subst (λ o. IsClashAt (listing c.args.self.now) c.args.path.now I (option_map (λ p. p.items) o)) c.in-None.is c.in_ok-other.ensures) c.clash_at-in-None.ensures
