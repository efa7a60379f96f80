-- What a path adds to the findings of a tree.
use Rattle.std.specs.Prelude.{◌≡◌, ◌⊎◌, ◌==◌, ℕ, Bool, true, false, List, Option, map}
use Rattle.std.specs.List.{list_any}
use Rattle.hgs_files.specs.Tree.{Tree}
use Rattle.hgs_findings.specs.Findings.{Finding, is_finding}
use Rattle.hgs_findings.specs.OnePath.{words}
use Rattle.hgs_findings.specs.Reading.{sight_of}
use Rattle.hgs_judge.specs.Found.{IsFoundOf}
use Rattle.hgs_judge.specs.Words.{is_listed_wrongly}

-- What is found of a path stands among the new findings and nothing else does but the old ones, lists of changed files aside: of these it is said for each changeset whether it is wrong at the path.
pub record AddsPath (path : List ℕ) (old new : List Finding) (wrong : List Bool) (t : Tree) : Type 0 where
  pub are : (file : List ℕ) (rev : Option ℕ) (kind : ℕ) → list_any (is_finding file rev kind) new ≡ true → (list_any (is_finding file rev kind) old ≡ true) ⊎ IsFoundOf t path file rev kind
  pub kept : (file : List ℕ) (rev : Option ℕ) (kind : ℕ) → list_any (is_finding file rev kind) old ≡ true → list_any (is_finding file rev kind) new ≡ true
  pub all : (file : List ℕ) (rev : Option ℕ) (kind : ℕ) → IsFoundOf t path file rev kind → (kind == 9) ≡ false → list_any (is_finding file rev kind) new ≡ true
  pub lists : wrong ≡ map (is_listed_wrongly ((sight_of t).filelog path) (words (sight_of t) path)) (words (sight_of t) path)
