-- Lists, options and results.
use Rattle.std.proofs.Common.{◌≡◌, true, false, refl}
use Rattle.std.specs.Prelude.{Result, Ok, Err}
use Rattle.hgs_loading.specs.Found.{and_then}
use Rattle.hgs_load.specs.declared.answer.ReadAnswer.{ReadAnswer}
use Rattle.hgs_writer.specs.Commits.{IsLimit}

pub never : {A : Type 0} → true ≡ false → A
never e = absurd (no e)
  where
    no : true ≡ false → ⊥
    no h = cc

pub ok-is : {A E : Type 0} (x y : A) → ◌≡◌ {A = Result A E} (Ok x) (Ok y) → x ≡ y
ok-is x y e = cc

-- an answer of two steps has both
pub both : {A B : Type 0} (r : Result A ReadAnswer) (more : A → Result B ReadAnswer) (b : B) → and_then r more ≡ Ok b → (a : A) × (r ≡ Ok a) × (more a ≡ Ok b)
both (Ok a) more b h = (a, refl, h)
both (Err e) more b h = cc

-- ---- answers that are refused only for a limit

abbrev pub IsLimited : {A : Type 0} → Result A ReadAnswer → Type 0
IsLimited (Ok x) = Unit {0}
IsLimited (Err e) = IsLimit e

pub then-limited : {A B : Type 0} (r : Result A ReadAnswer) (more : A → Result B ReadAnswer) → IsLimited r → ((x : A) → r ≡ Ok x → IsLimited (more x)) → IsLimited (and_then r more)
then-limited (Ok x) more limited each = each x refl
then-limited (Err e) more limited each = limited

pub given-limited : {A : Type 0} (r : Result A ReadAnswer) (x : A) → r ≡ Ok x → IsLimited r
given-limited (Ok y) x e = tt
given-limited (Err f) x e = cc
