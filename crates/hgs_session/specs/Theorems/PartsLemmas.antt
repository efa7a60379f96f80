-- Ends that could not be put together.
use Rattle.std.proofs.Common.{List}
use Rattle.hgs_files.specs.declared.yard.Left.{Left}
use Rattle.hgs_files.specs.declared.yard.Left.TheVariants.{Whole, Parts}
use Rattle.hgs_session.specs.Session.{IfParts}

pub if_parts : {Y A Rest Front W R : Type 0} {P Q : W → List R → Type 0} → (left : Left Y A Rest Front W R) → ((w : W) (rs : List R) → P w rs → Q w rs) → IfParts left P → IfParts left Q
if_parts (Whole y) f h = h
if_parts (Parts w rs) f h = f w rs.items h
