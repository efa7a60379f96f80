-- What was found by the only writer is so of the files as they were.
use Rattle.std.proofs.Common.{◌≡◌, List, Option, IfSome, subst}
use Rattle.hgs_files.specs.declared.op.Op.{Op}
use Rattle.hgs_files.specs.Tree.{Tree, after_all}
use Rattle.hgs_top.specs.Run.{OfTree}

pub of_found : (seen log : Option (List Op)) (now start : Tree) (Holds : Tree → Type 0) → seen ≡ log → now ≡ start → IfSome seen (λ l. Holds (after_all l now)) → OfTree log start Holds
of_found seen log now start Holds e f h =
    let P : Option (List Op) → Type 0 = λ s. OfTree s start Holds in
    let Q : Tree → Type 0 = λ t. OfTree seen t Holds in
    subst P e (subst Q f h)
