-- Items of an inline index that the search for a node passed. They are not walked again when a further piece was read.
use Rattle.std.specs.Prelude.{◌≡◌, ◌≤◌, ℕ, List, ◌++◌, length, drop, Bool, true, false}
use Rattle.hgs_reader.specs.declared.find.Search.{Search}
use Rattle.hgs_reader.specs.declared.find.Search.TheVariants.{Ended, Passed}
use Rattle.hgs_reader.specs.Find.{has_item}

-- Whatever stands behind these bytes, an item has this node exactly where one behind the first so many bytes has it.
pub record IsPassed (node bytes : List ℕ) (passed : ℕ) : Type 0 where
  pub within : passed ≤ length bytes
  pub same_behind : (more : List ℕ) → has_item node (length (bytes ++ more)) (bytes ++ more) ≡ has_item node (length (drop passed bytes ++ more)) (drop passed bytes ++ more)

-- what a search has come to in these bytes, with which it ends if the flag says so
abbrev pub HasCome : Bool → List ℕ → List ℕ → Search → Type 0
HasCome ends node bytes Ended = ends ≡ true
HasCome ends node bytes (Passed passed) = (ends ≡ false) × IsPassed node bytes passed
