-- The phase roots are replaced alone.
use Rattle.std.proofs.Common.{◌≡◌, ℕ, List, Bool, true, false, cond, Option, Some, None, Result, Ok, Err, refl, sym, subst}
use Rattle.std.specs.Prelude.{IfOk, IfSome}
use Rattle.hgs_bytes.specs.Bytes.{same}
use Rattle.hgs_steps.specs.Steps.{phases_text, roots_replaced, roots_replacing}
use Rattle.hgs_steps.specs.declared.loaded.Loaded.{Loaded}
use Rattle.hgs_transaction.specs.declared.parts.ReplacedFile.TheVariants.{PhaseRoots}
use Rattle.hgs_transaction.specs.declared.parts.Replacing.{Replacing}

roots-file : (l : Loaded) (text : List ℕ) (roots : Option Replacing) → roots ≡ roots_replaced l text → IfSome roots (λ x. x.file ≡ PhaseRoots)
roots-file l text roots e =
    let P : Option Replacing → Type 0 = λ o. IfSome o (λ x. x.file ≡ PhaseRoots) in
    subst P (sym e) (by (same (phases_text l.phases l.changelog.entries) text))
  where
    by : (b : Bool) → IfSome (cond b None (Some (roots_replacing l text))) (λ x. x.file ≡ PhaseRoots)
    by true = tt
    by false = refl

pub roots-answer : {E : Type 0} (l : Loaded) (text : List ℕ) (r : Result (Option Replacing) E) → IfOk r (λ x. x ≡ roots_replaced l text) → IfOk r (λ roots. IfSome roots (λ x. x.file ≡ PhaseRoots))
roots-answer l text (Ok roots) h = roots-file l text roots h
roots-answer l text (Err e) h = tt
