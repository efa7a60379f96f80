-- The text of the list, beside its reader.
use Rattle.std.specs.Prelude.{◌≡◌, true, ℕ, List}
use Rattle.std.specs.List.{AllByRecursion}
use Rattle.hgs_bytes.specs.Text.{Lacks, lines}
use Rattle.hgs_path.specs.ListedNames.{is_listed}

-- a name that may stand in a line of the list
pub record IsName (name : List ℕ) : Type 0 where
  pub listed : is_listed name ≡ true
  pub no_lf : Lacks 10 name

-- such names, and the text is a line with its LF for each
pub record IsListOf (names : List (List ℕ)) (text : List ℕ) : Type 0 where
  pub each : AllByRecursion IsName names
  pub text_is : text ≡ lines names
