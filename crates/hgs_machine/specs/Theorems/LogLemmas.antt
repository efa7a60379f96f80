-- Logs that are told.
use Rattle.std.proofs.Common.{◌≡◌, List, ◌++◌, refl, sym, ◌∙◌, subst}
use Rattle.std.specs.Option.{ForSome}
use Rattle.std.specs.Prelude.{Option, Some, None}
use Rattle.hgs_files.specs.declared.op.Op.{Op}
use Rattle.hgs_files.specs.Files.{GoesOn}

some-log : {A : Type 0} (log : List Op) → ◌≡◌ {A = Option (List Op)} None (Some log) → A
some-log log e = absurd (let no : ⊥ = cc in no)

same-log : {a b : List Op} → Some a ≡ Some b → a ≡ b
same-log e = cc

-- what holds of every log that goes on so from the one before holds of the log now
pub behind : (before now : Option (List Op)) (P Q : List Op → Type 0) → GoesOn before now P → ((old more : List Op) → before ≡ Some old → P more → Q (old ++ more)) → ForSome now Q
behind None now P Q h f = λ log told. some-log log (sym h ∙ told)
behind (Some old) now P Q h f = λ log told. subst Q (same-log (sym h.1 ∙ told)) (f old h.0 refl h.2)
