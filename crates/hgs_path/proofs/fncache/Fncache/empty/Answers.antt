use Rattle.std.proofs.Common.{sym, subst}
use Rattle.hgs_path.specs.Owners.{Keeps, owns_name}
use Rattle.hgs_path.proofs.fncache.Fncache.empty.Goals as goal

pub invariant_of-result : goal.invariant_of-result
invariant_of-result c = record { owners_kept = subst (λ o. Keeps o c.new-3.result) (λ i. owns_name (sym c.new.ensures.empty i) (sym c.new-2.ensures.empty i)) c.new-3.ensures }
