use Rattle.std.proofs.Common.{List, ap, arith, length, length-append}
use Rattle.hgs_legal.specs.LegalLog.{Turn}
use Rattle.hgs_history.proofs.Published.{turns-length}
use Rattle.hgs_history.proofs.laws.as_many_are_published_as_listed.Goals as goal

pub returns : goal.returns
returns c = λ jobs entries unsure turns is.
    let whole = ap (λ (l : List Turn). length l) is.whole in
    let both = length-append is.sure is.more in
    let listed = turns-length jobs entries is.sure is.listed in
    omega (arith, whole, both, listed)
