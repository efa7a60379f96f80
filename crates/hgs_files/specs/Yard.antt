-- What is left of a yard.
use Rattle.hgs_files.specs.declared.yard.Left.{Left}
use Rattle.hgs_files.specs.declared.yard.Left.TheVariants.{Whole, Parts}

-- this holds of a yard that is left whole
abbrev pub IfWhole : {Y A Rest Front W R : Type 0} → Left Y A Rest Front W R → (Y → Type 0) → Type 0
IfWhole (Whole yard) Holds = Holds yard
IfWhole (Parts w rs) Holds = Unit {0}
